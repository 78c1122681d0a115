-- Runs over two memories that answer alike. Its uses are determinacy, the bound on ticks, what runs ask for, and that what the
-- code keeps goes with the body's own operations.
use Rattle.std.proofs.Common.{◌≡◌, ◌≤◌, ℕ, ◌+◌, Bool, true, false, nat_le, Option, Some, None, refl, ap, sym, subst, cond}
use Rattle.std.proofs.lemmas.Bool.{leb-true}
use Rattle.rdt_types.specs.declared.address.Address.{Address}
use Rattle.rdt_types.specs.declared.operation.WriteOp.{WriteOp}
use Rattle.rdt_types.specs.declared.outcome.Item.{Item}
use Rattle.rdt_types.specs.Values.{kind_written}
use Rattle.conflict_table.specs.declared.read.ReadOp.{ReadOp}
use Rattle.txn_trees.specs.declared.statement.Body.{Body}
use Rattle.txn_lang.specs.declared.limits.TheConstants.{TICK_LIMIT, LOAD_LIMIT}
use Rattle.txn_lang.specs.declared.progress.Stop.{Stop}
use Rattle.txn_lang.specs.declared.progress.Stop.TheVariants as stop
use Rattle.txn_lang.specs.declared.progress.Progress.{Progress}
use Rattle.txn_lang.specs.Steps.{Memory, Step, stopped, gives, Stepping, and_then, ◌>>=◌, pure, stop_by, charge, carry, emit, answered, read_at, write_at}
use Rattle.txn_lang.specs.Rules.{body_run}
use Rattle.txn_lang.specs.Execution.{ticks_of}
use Rattle.txn_lang.proofs.Sizes.{IsShortRead}
use Rattle.txn_lang.proofs.Walk.{Gave, Gives, gave_any, Keeps, body_related}
pub use Rattle.txn_lang.proofs.Words.{Suits}

-- what is given by a step that gives nothing
abbrev unit : Unit {0}
unit = tt

-- the same progress over another memory
abbrev pub onto : {S T : Type 0} → T → Progress S → Progress T
onto t p = record { memory = t; emitted = p.emitted; ticks = p.ticks; load = p.load }

-- what a memory answers charges no tick
pub answered_bounded : {M A : Type 0} (a : Address) (o : Option (A × M)) (p : Progress M) → p.ticks ≤ TICK_LIMIT → ticks_of (answered a o p) ≤ TICK_LIMIT
answered_bounded a None p h = h
answered_bounded a (Some x) p h = h

-- The second memory goes with the first (R), as long as the first ends well (Good) and needs only some addresses (Needs).
-- What the first needs, it lacks (Lacks).
module _ {S T : Type 0} (R : S → T → Type 0) (Good : S → Type 0) (Needs Lacks : Address → Type 0) where
  -- a run may stop for any reason, but for an address only where that may be needed
  abbrev pub Allowed : Stop → Type 0
  Allowed (stop.Need a) = Needs a
  Allowed _ = Unit {0}

  -- the step ends well, and it stops the run only for a reason that is allowed
  abbrev pub Fine : {A : Type 0} → Step S A → Type 0
  Fine (stopped s p) = Allowed s × Good p.memory
  Fine (gives x p) = Good p.memory

  -- the second step came to the same as the first, with a memory that goes with the first's
  abbrev pub Same : {A : Type 0} → Step S A → Step T A → Type 0
  Same (stopped s p) u = (t : T) × R p.memory t × (u ≡ stopped s (onto t p))
  Same (gives x p) u = (t : T) × R p.memory t × (u ≡ gives x (onto t p))

  -- stopping for an address owes that the memory lacks it
  abbrev pub Owes : Stop → Type 0
  Owes (stop.Need a) = Lacks a
  Owes _ = Unit {0}

  -- a step that needs an address lacks it
  abbrev pub Lacking : {A : Type 0} → Step S A → Type 0
  Lacking (stopped s p) = Owes s
  Lacking (gives x p) = Unit {0}

  -- what a memory doesn't answer it lacks
  pub answered_lacking : {A : Type 0} (a : Address) (o : Option (A × S)) (p : Progress S) → (o ≡ None → Lacks a) → Lacking (answered a o p)
  answered_lacking a None p lacks = lacks refl
  answered_lacking a (Some x) p lacks = tt

  pub record Simulates {A : Type 0} (f : Stepping S A) (g : Stepping T A) : Type 0 where
    pub back : (p : Progress S) → Fine (f p) → Good p.memory
    pub forth : (p : Progress S) (t : T) → R p.memory t → Fine (f p) → Same (f p) (g (onto t p))
    pub bounded : (p : Progress S) → p.ticks ≤ TICK_LIMIT → ticks_of (f p) ≤ TICK_LIMIT
    pub lacking : (p : Progress S) → Lacking (f p)

  -- nothing happens on either side
  pure_simulates : {A : Type 0} (x : A) → Simulates (pure x) (pure x)
  pure_simulates x = record { back = λ p fine. fine; forth = λ p t r fine. (t, r, refl); bounded = λ p h. h; lacking = λ p. tt }

  -- the first parts go alike, and the second ones go on from what those gave and from memories that go together
  then_simulates : {A B : Type 0} (P : A → Type 0) {f : Stepping S A} {g : Stepping T A} {h : A → Stepping S B} {k : A → Stepping T B}
      → Gives P f → Simulates f g → ((x : A) → P x → Simulates (h x) (k x)) → Simulates (f >>= h) (g >>= k)
  then_simulates {A} {B} P {f} {g} {h} {k} given fg hk = record {
    back = λ p. back_by p (f p) (given p) (fg.back p);
    forth = λ p t r. forth_by p t (f p) (given p) (g (onto t p)) (fg.forth p t r);
    bounded = λ p b. bounded_by (f p) (given p) (fg.bounded p b);
    lacking = λ p. lacking_by (f p) (given p) (fg.lacking p);
  }
    where
      back_by : (p : Progress S) (u : Step S A) → Gave P u → (Fine u → Good p.memory) → Fine (and_then u h) → Good p.memory
      back_by p (stopped s q) is b fine = b fine
      back_by p (gives x q) is b fine = b ((hk x is).back q fine)

      forth_by : (p : Progress S) (t : T) (u : Step S A) → Gave P u → (v : Step T A) → (Fine u → Same u v) → Fine (and_then u h)
          → Same (and_then u h) (and_then v k)
      forth_by p t (stopped s q) is v e fine = let z : Same (stopped s q) v = e fine in (z.0, z.1, ap (λ w. and_then w k) z.2)
      forth_by p t (gives x q) is v e fine =
          let z : Same (gives x q) v = e ((hk x is).back q fine) in
          let y : Same (h x q) (k x (onto z.0 q)) = (hk x is).forth q z.0 z.1 fine in
          subst (λ w. Same (h x q) w) (sym (ap (λ w. and_then w k) z.2)) y

      bounded_by : (u : Step S A) → Gave P u → ticks_of u ≤ TICK_LIMIT → ticks_of (and_then u h) ≤ TICK_LIMIT
      bounded_by (stopped s q) is b = b
      bounded_by (gives x q) is b = (hk x is).bounded q b

      lacking_by : (u : Step S A) → Gave P u → Lacking u → Lacking (and_then u h)
      lacking_by (stopped s q) is owes = owes
      lacking_by (gives x q) is owes = (hk x is).lacking q

  -- both sides stop for the same reason, and owe what it owes
  stop_simulates : {A : Type 0} (s : Stop) → Owes s → Simulates {A = A} (stop_by s) (stop_by s)
  stop_simulates s owes = record { back = λ p fine. fine.1; forth = λ p t r fine. (t, r, refl); bounded = λ p h. h; lacking = λ p. owes }

  -- both sides have charged as many ticks, so the limit stops both or neither
  charge_simulates : (n : ℕ) → Simulates (charge n) (charge n)
  charge_simulates n = record {
    back = λ p. back_by p (nat_le (p.ticks + n) TICK_LIMIT);
    forth = λ p t r. forth_by p t r (nat_le (p.ticks + n) TICK_LIMIT);
    bounded = λ p h. bounded_by p (nat_le (p.ticks + n) TICK_LIMIT) refl h;
    lacking = λ p. lacking_by p (nat_le (p.ticks + n) TICK_LIMIT);
  }
    where
      back_by : (p : Progress S) (b : Bool) → Fine (cond b (gives unit (record p { ticks = p.ticks + n })) (stopped stop.Spent p)) → Good p.memory
      back_by p true fine = fine
      back_by p false fine = fine.1

      forth_by : (p : Progress S) (t : T) → R p.memory t → (b : Bool) → Fine (cond b (gives unit (record p { ticks = p.ticks + n })) (stopped stop.Spent p))
          → Same (cond b (gives unit (record p { ticks = p.ticks + n })) (stopped stop.Spent p))
          (cond b (gives unit (record (onto t p) { ticks = p.ticks + n })) (stopped stop.Spent (onto t p)))
      forth_by p t r true fine = (t, r, refl)
      forth_by p t r false fine = (t, r, refl)

      bounded_by : (p : Progress S) (b : Bool) → nat_le (p.ticks + n) TICK_LIMIT ≡ b → p.ticks ≤ TICK_LIMIT
          → ticks_of (cond b (gives unit (record p { ticks = p.ticks + n })) (stopped stop.Spent p)) ≤ TICK_LIMIT
      bounded_by p true e h = leb-true (p.ticks + n) TICK_LIMIT e
      bounded_by p false e h = h

      lacking_by : (p : Progress S) (b : Bool) → Lacking (cond b (gives unit (record p { ticks = p.ticks + n })) (stopped stop.Spent p))
      lacking_by p true = tt
      lacking_by p false = tt

  -- both sides have as much load, so the limit stops both or neither
  carry_simulates : (n : ℕ) → Simulates (carry n) (carry n)
  carry_simulates n = record {
    back = λ p. back_by p (nat_le (p.load + n) LOAD_LIMIT);
    forth = λ p t r. forth_by p t r (nat_le (p.load + n) LOAD_LIMIT);
    bounded = λ p h. bounded_by p (nat_le (p.load + n) LOAD_LIMIT) h;
    lacking = λ p. lacking_by p (nat_le (p.load + n) LOAD_LIMIT);
  }
    where
      back_by : (p : Progress S) (b : Bool) → Fine (cond b (gives unit (record p { load = p.load + n })) (stopped stop.Big p)) → Good p.memory
      back_by p true fine = fine
      back_by p false fine = fine.1

      forth_by : (p : Progress S) (t : T) → R p.memory t → (b : Bool) → Fine (cond b (gives unit (record p { load = p.load + n })) (stopped stop.Big p))
          → Same (cond b (gives unit (record p { load = p.load + n })) (stopped stop.Big p))
          (cond b (gives unit (record (onto t p) { load = p.load + n })) (stopped stop.Big (onto t p)))
      forth_by p t r true fine = (t, r, refl)
      forth_by p t r false fine = (t, r, refl)

      bounded_by : (p : Progress S) (b : Bool) → p.ticks ≤ TICK_LIMIT
          → ticks_of (cond b (gives unit (record p { load = p.load + n })) (stopped stop.Big p)) ≤ TICK_LIMIT
      bounded_by p true h = h
      bounded_by p false h = h

      lacking_by : (p : Progress S) (b : Bool) → Lacking (cond b (gives unit (record p { load = p.load + n })) (stopped stop.Big p))
      lacking_by p true = tt
      lacking_by p false = tt

  -- both sides emit the same item, and neither memory changes
  emit_simulates : (i : Item) → Simulates (emit i) (emit i)
  emit_simulates i = record { back = λ p fine. fine; forth = λ p t r fine. (t, r, refl); bounded = λ p h. h; lacking = λ p. tt }

  -- the rules' own steps keep it
  simulations_keep : Keeps (λ owed A f g. Simulates f g)
  simulations_keep = record {
    pure_kept = λ A x. pure_simulates x;
    then_kept = λ A B c d P f g h k given fg hk. then_simulates P given fg hk;
    tick_kept = λ A f g fg. then_simulates (λ _. Unit {0}) (λ p. gave_any (charge 1 p)) (charge_simulates 1) (λ _ _. fg);
    big_kept = λ A. stop_simulates stop.Big tt;
    fail_kept = λ A t. stop_simulates (stop.Fail t) tt;
    charge_kept = charge_simulates;
    carry_kept = carry_simulates;
    emit_kept = emit_simulates;
  }

  module _ (m : Memory S) (n : Memory T) where
    -- the memories go together at each write that is of its address's kind
    abbrev WritesAlike : Type 0
    WritesAlike = (a : Address) (o : WriteOp) → kind_written o ≡ a.kind → Simulates (write_at m a o) (write_at n a o)

    -- the runs of a body go together, where the memories do at reads of short texts
    pub short_reads_simulate : ((r : ReadOp) (a : Address) → Suits a.kind r → IsShortRead a r → Simulates (read_at m r a) (read_at n r a))
        → WritesAlike → (b : Body) → Simulates (body_run m b) (body_run n b)
    short_reads_simulate reads writes b = body_related (λ owed A f g. Simulates f g) simulations_keep m n reads writes b

    -- memories that go together at all reads do so at those of short texts
    pub body_simulates : ((r : ReadOp) (a : Address) → Suits a.kind r → Simulates (read_at m r a) (read_at n r a))
        → WritesAlike → (b : Body) → Simulates (body_run m b) (body_run n b)
    body_simulates reads writes b = short_reads_simulate (λ r a suits short. reads r a suits) writes b
