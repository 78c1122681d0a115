-- Each observation is paid for by a tick; so observations are few, and so are the values that a run is given one by one.
use Rattle.std.proofs.Common.{◌≡◌, ◌≤◌, ℕ, zero, suc, ◌+◌, Bool, true, false, ◌||◌, nat_le, List, [], ◌∷◌, ◌++◌, map, length, length-append, Option}
use Rattle.std.proofs.Common.{Some, None, unwrap_or, refl, ap, sym, ◌∙◌, subst, cond, arith}
use Rattle.std.specs.List.{list_any, AllByRecursion, IsDistinct}
use Rattle.std.specs.Cmp.{eq_by_cmp_equiv, tied_itself}
use Rattle.std.specs.Ordering.{is_eq, eq_by_cmp}
use Rattle.std.proofs.lemmas.Bool.{false≢true, or_parts}
use Rattle.std.proofs.lemmas.List.{length-map}
use Rattle.std.proofs.lemmas.Map.Keys.{IsDistinct-cons}
use Rattle.std.proofs.lemmas.Map.Made.{length-le_from_is_member}
use Rattle.plain_data.proofs.Entries.{equal}
use Rattle.rdt_types.specs.declared.address.Address.{Address}
use Rattle.rdt_types.specs.declared.value.Value.{Value}
use Rattle.rdt_types.specs.declared.operation.WriteOp.{WriteOp}
use Rattle.rdt_types.specs.declared.outcome.Item.{Item}
use Rattle.rdt_types.specs.contracts.address.AddressOrd.TheImpl.Laws as order
use Rattle.rdt_types.specs.Addresses.{address_cmp}
use Rattle.rdt_types.specs.Values.{kind_of, kind_written, default_of}
use Rattle.rdt_types.proofs.Addresses.{address_cmp-equal}
use Rattle.conflict_table.specs.declared.read.ReadOp.{ReadOp}
use Rattle.conflict_table.specs.Observing.{observe}
use Rattle.conflict_table.specs.Reads.{replay, answer, is_decided, observed}
use Rattle.txn_trees.specs.declared.statement.Body.{Body}
use Rattle.txn_lang.specs.declared.limits.TheConstants.{TICK_LIMIT, LOAD_LIMIT}
use Rattle.txn_lang.specs.declared.progress.Stop.TheVariants as stop
use Rattle.txn_lang.specs.declared.progress.Progress.{Progress}
use Rattle.txn_lang.specs.declared.run.Run.{Run}
use Rattle.txn_lang.specs.declared.run.Seen.{Seen}
use Rattle.txn_lang.specs.contracts.run.SeenPartialEq.TheImpl as seen_eq
use Rattle.txn_lang.specs.Steps.{Step, stopped, gives, Stepping, and_then, answered, read_at, write_at}
use Rattle.txn_lang.specs.Items.{Names}
use Rattle.txn_lang.specs.States.{State, PartialState, known}
use Rattle.txn_lang.specs.Own.{at_address, with_seen}
use Rattle.txn_lang.specs.Execution.{Ran, need, done, Own, own_memory, own_value, ended, own_run, exec, begun, nothing_yet, ticks_of}
use Rattle.txn_lang.specs.Determinacy.{AgreesOn, Agree}
use Rattle.txn_lang.specs.Observed.{Extends}
use Rattle.txn_lang.specs.Few.{IsReadNext, AreReadInTurn, ObservationsAreFew, ReadsAreFew}
use Rattle.txn_lang.proofs.Each.{each-more}
use Rattle.txn_lang.proofs.Words.{Suits}
use Rattle.txn_lang.proofs.Sizes.{IsShortRead}
use Rattle.txn_lang.proofs.Walk.{Gave, Keeps, body_related}
use Rattle.txn_lang.proofs.Determinacy.{runs_are_determined, runs_are_bounded}
use Rattle.txn_lang.proofs.Observed.{needs_are_missing, whole_runs_are_done, needs_stay}

-- what is given by a step that gives nothing
abbrev unit : Unit {0}
unit = tt

-- ---- observations are paid for

-- how many observations were made up to the end of a step
abbrev seen_by : {A : Type 0} → Step Own A → ℕ
seen_by (gives x p) = length p.memory.observations
seen_by (stopped s p) = length p.memory.observations

-- What was observed on the way, and is not owed, is no more than the ticks that were charged.
abbrev Paid : ℕ → (A : Type 0) → Stepping Own A → Stepping Own A → Type 0
Paid owed A f g = (p : Progress Own) → seen_by (f p) + p.ticks ≤ length p.memory.observations + ticks_of (f p) + owed

-- the second part goes on from where the first stopped, so what they observed, charged and owe adds up
then_paid : (A B : Type 0) (c d : ℕ) (P : A → Type 0) (f : Stepping Own A) (h : A → Stepping Own B) (p : Progress Own) (u : Step Own A) → Gave P u
    → seen_by u + p.ticks ≤ length p.memory.observations + ticks_of u + c
    → ((x : A) → P x → Paid d B (h x) (h x))
    → seen_by (and_then u h) + p.ticks ≤ length p.memory.observations + ticks_of (and_then u h) + (c + d)
then_paid A B c d P f h p (stopped s q) is e more = omega (arith, e)
then_paid A B c d P f h p (gives x q) is e more = omega (arith, e, more x is q)

-- a charge of n ticks, by whether the limit allows it
abbrev charged : (n : ℕ) (p : Progress Own) (b : Bool) → Step Own (Unit {0})
charged n p b = cond b (gives unit (record p { ticks = p.ticks + n })) (stopped stop.Spent p)

-- the tick pays for what is owed behind it, and where the limit stops the run nothing is behind it
tick_paid : (A : Type 0) (f : Stepping Own A) → Paid 1 A f f → (p : Progress Own) (b : Bool)
    → seen_by (and_then (charged 1 p b) (λ _. f)) + p.ticks ≤ length p.memory.observations + ticks_of (and_then (charged 1 p b) (λ _. f)) + 0
tick_paid A f paid p true = omega (arith, paid (record p { ticks = p.ticks + 1 }))
tick_paid A f paid p false = omega arith

-- a charge observes nothing, and it takes no tick back
charge_paid : (n : ℕ) (p : Progress Own) (b : Bool) → seen_by (charged n p b) + p.ticks ≤ length p.memory.observations + ticks_of (charged n p b) + 0
charge_paid n p true = omega arith
charge_paid n p false = omega arith

-- a load observes nothing and charges nothing
carry_paid : (n : ℕ) (p : Progress Own) (b : Bool)
    → seen_by (cond b (gives unit (record p { load = p.load + n })) (stopped stop.Big p)) + p.ticks
    ≤ length p.memory.observations + ticks_of (cond b (gives unit (record p { load = p.load + n })) (stopped stop.Big p)) + 0
carry_paid n p true = omega arith
carry_paid n p false = omega arith

-- the relation is of the first run alone
ticks_pay : Keeps {S = Own} {T = Own} (λ owed A f g. Paid owed A f f)
ticks_pay = record {
  pure_kept = λ A x p. omega arith;
  then_kept = λ A B c d P f g h k given fg hk p. then_paid A B c d P f h p (f p) (given p) (fg p) hk;
  tick_kept = λ A f g fg p. tick_paid A f fg p (nat_le (p.ticks + 1) TICK_LIMIT);
  big_kept = λ A p. omega arith;
  fail_kept = λ A t p. omega arith;
  charge_kept = λ n p. charge_paid n p (nat_le (p.ticks + n) TICK_LIMIT);
  carry_kept = λ n p. carry_paid n p (nat_le (p.load + n) LOAD_LIMIT);
  emit_kept = λ i p. omega arith;
}

-- one observation more at most
length-with_seen : (xs : List Seen) (z : Seen) → length (with_seen xs z) ≤ length xs + 1
length-with_seen xs z = by (list_any (λ t. seen_eq.ghosts.eq t z) xs)
  where
    by : (b : Bool) → length (cond b xs (xs ++ z ∷ [])) ≤ length xs + 1
    by true = omega arith
    by false = omega (arith, length-append xs (z ∷ []))

module _ (s : PartialState) where
  module _ (r : ReadOp) (a : Address) (p : Progress Own) where
    -- the step of a read, by whether own operations decide it and by the value that may be there
    abbrev at : Bool → Option Value → Step Own Item
    at b v = answered a (cond b (Some (answer r (replay (at_address a p.memory.operations) (default_of a.kind)), p.memory)) (own_value r a v p.memory)) p

    -- a read that a value answers observes once at most, and any other read observes nothing
    read_paid : (b : Bool) (v : Option Value) → seen_by (at b v) + p.ticks ≤ length p.memory.observations + ticks_of (at b v) + 1
    read_paid true v = omega arith
    read_paid false None = omega arith
    read_paid false (Some v) =
        let z : Seen = record { address = a; obs = observed r (at_address a p.memory.operations) v } in
        omega (arith, length-with_seen p.memory.observations z)

  -- a read observes once at most, and owes one tick for it
  reads : (r : ReadOp) (a : Address) → Suits a.kind r → IsShortRead a r → Paid 1 Item (read_at (own_memory s) r a) (read_at (own_memory s) r a)
  reads r a suits short p = read_paid r a p (is_decided r (at_address a p.memory.operations)) (s a)

  -- a write observes nothing and charges nothing
  writes : (a : Address) (o : WriteOp) → kind_written o ≡ a.kind → Paid 0 (Unit {0}) (write_at (own_memory s) a o) (write_at (own_memory s) a o)
  writes a o k p = omega arith

  -- a body owes nothing at its end, and charges no more ticks than the limit
  run_paid : (b : Body) → seen_by (own_run b s) ≤ TICK_LIMIT
  run_paid b =
      let paid = body_related (λ owed A f g. Paid owed A f f) ticks_pay (own_memory s) (own_memory s) reads writes b (begun nothing_yet) in
      omega (arith, paid, runs_are_bounded b s)

-- whatever ended the run, it tells all that was observed up to there
seen_where_done : (u : Step Own Names) (r : Run) → ended u ≡ done r → length r.observations ≡ seen_by u
seen_where_done (gives x p) r e = ap seen_in (sym e)
  where
    seen_in : Ran → ℕ
    seen_in (need a) = 0
    seen_in (done r) = length r.observations
seen_where_done (stopped (stop.Need a) p) r e = absurd (cc)
seen_where_done (stopped (stop.Fail x) p) r e = cc
seen_where_done (stopped stop.Spent p) r e = cc
seen_where_done (stopped stop.Big p) r e = cc
seen_where_done (stopped stop.NoMemory p) r e = cc

-- what a run tells that it observed was paid for by its ticks
pub observations_are_few : ObservationsAreFew
unfolding exec
observations_are_few b s r e = subst (λ n. n ≤ TICK_LIMIT) (sym (seen_where_done (own_run b s) r e)) (run_paid s b)

-- ---- values that are given in turn

-- whether two addresses are one
abbrev same : Address → Address → Bool
same = eq_by_cmp address_cmp

-- addresses that compare as equal are one
same-is : (a b : Address) → same a b ≡ true → a ≡ b
same-is a b e = address_cmp-equal a b (equal (address_cmp a b) e)

-- each address compares as equal with itself, since their order is total
pub same-itself : (a : Address) → same a a ≡ true
same-itself a = ap is_eq (tied_itself order.total-law a)

-- whether an address is one of a list
abbrev is_among : List Address → Address → Bool
is_among list q = list_any (same q) list

-- the address was needed on the way to a state that has a value there now
pub record WasNeeded (b : Body) (t : PartialState) (a : Address) : Type 0 where
  pub before : PartialState
  pub needed : exec b before ≡ need a
  pub value : Value
  pub there : t a ≡ Some value
  pub others : Extends before t

-- addresses that were needed on the way to a state, each once
pub record Needed (b : Body) (n : ℕ) (t : PartialState) : Type 0 where
  pub addresses : List Address
  pub all : length addresses ≡ n
  pub each : AllByRecursion (WasNeeded b t) addresses
  pub once : IsDistinct same addresses

-- what was needed before is still so on the next state, and is another address than the next
needed_on : (b : Body) (s t : PartialState) → IsReadNext b s t → (a : Address) → WasNeeded b s a → WasNeeded b t a
needed_on b s t next a was = record {
  before = was.before;
  needed = was.needed;
  value = was.value;
  there = next.others a was.value was.there;
  others = λ c v is. next.others c v (was.others c v is);
}

-- an option is either empty or has a value
pub no_value : {v : Value} {o : Option Value} → o ≡ None → o ≡ Some v → ⊥
no_value none some = let e : None ≡ Some _ = sym none ∙ some in absurd (cc)

-- what a run needs is missing from its state, and what was needed before is there, so they are two
another : (b : Body) (s t : PartialState) (next : IsReadNext b s t) (a : Address) → WasNeeded b s a → same next.address a ≡ false
another b s t next a was = by (same next.address a) refl
  where
    by : (c : Bool) → same next.address a ≡ c → c ≡ false
    by false e = refl
    by true e = absurd (no_value (subst (λ q. s q ≡ None) (same-is next.address a e) (needs_are_missing b s next.address next.needed)) was.there)

-- no address stands twice where none stands
none_distinct : IsDistinct same []
unfolding IsDistinct
none_distinct = tt

-- read by read: the next address is none of those before, and these are still there on the next state
needed_in_turn : (b : Body) (n : ℕ) (t : PartialState) → AreReadInTurn b n t → Needed b n t
needed_in_turn b zero t turn = record { addresses = []; all = refl; each = tt; once = none_distinct }
needed_in_turn b (suc n) t turn = go (needed_in_turn b n turn.0 turn.1)
  where
    go : Needed b n turn.0 → Needed b (suc n) t
    go before = record {
      addresses = turn.2.address ∷ before.addresses;
      all = ap suc before.all;
      each = (
        record { before = turn.0; needed = turn.2.needed; value = turn.2.value; there = turn.2.there; others = turn.2.others },
        each-more (WasNeeded b turn.0) (WasNeeded b t) before.addresses (needed_on b turn.0 t turn.2) before.each,
      );
      once = IsDistinct-cons same turn.2.address before.addresses
          (each-more (WasNeeded b turn.0) (λ a. same turn.2.address a ≡ false) before.addresses (another b turn.0 t turn.2) before.each) before.once;
    }

module _ (b : Body) (t : PartialState) where
  -- a whole state with the values of a partial one, and that state without one address
  abbrev filled : State
  filled a = unwrap_or (t a) (default_of a.kind)

  -- that state, but with nothing at one address
  abbrev without : Address → PartialState
  without a q = cond (same a q) None (Some (filled q))

  -- nothing is at that address
  without-itself : (a : Address) → without a a ≡ None
  without-itself a = ap (λ c. cond c None (Some (filled a))) (same-itself a)

  -- at each other address it is the whole state
  without-other : (a q : Address) → same a q ≡ false → without a q ≡ Some (filled q)
  without-other a q e = ap (λ c. cond c None (Some (filled q))) e

  -- a state that lacked the address has only values of other addresses, and these the whole state has
  extends-without : (a : Address) (was : WasNeeded b t a) → Extends was.before (without a)
  extends-without a was q v is = by (same a q) refl
    where
      by : (c : Bool) → same a q ≡ c → cond c None (Some (filled q)) ≡ Some v
      by true e = absurd (no_value (subst (λ x. was.before x ≡ None) (same-is a q e) (needs_are_missing b was.before a was.needed)) is)
      by false e = ap (λ o. Some (unwrap_or o (default_of q.kind))) (was.others q v is)

  -- without an address that was not observed the states agree
  agree-without : (a : Address) (seen : List Seen) → is_among (map (λ z. z.address) seen) a ≡ false → Agree (known filled) (without a) seen
  agree-without a [] e = tt
  agree-without a (z ∷ seen) e =
      let parts = or_parts (same a z.address) (is_among (map (λ z. z.address) seen) a) e in
      (agrees (without-other a z.address parts.0), agree-without a seen parts.1)
    where
      some_same : (v w : Value) → Some v ≡ Some w → v ≡ w
      some_same v w e = cc

      agrees : without a z.address ≡ Some (filled z.address) → AgreesOn (known filled) (without a) z
      agrees is = record {
        there = filled z.address;
        is = is;
        same = λ v e. let w : filled z.address ≡ v = some_same (filled z.address) v e in (ap kind_of (sym w), ap (observe z.obs) (sym w));
      }

  -- what was needed is observed by the run on the whole state, since without it the run would need it
  needed_is_observed : (r : Run) → exec b (known filled) ≡ done r → (a : Address) → WasNeeded b t a → is_among (map (λ z. z.address) r.observations) a ≡ true
  needed_is_observed r ran a was = by (is_among (map (λ z. z.address) r.observations) a) refl
    where
      needs : exec b (without a) ≡ need a
      needs = needs_stay b was.before (without a) a (extends-without a was) was.needed (without-itself a)

      by : (c : Bool) → is_among (map (λ z. z.address) r.observations) a ≡ c → c ≡ true
      by true e = refl
      by false e =
          let twice : need a ≡ done r = sym needs ∙ runs_are_determined b (known filled) (without a) r ran (agree-without a r.observations e) in
          absurd (cc)

  -- address by address: each was needed, so the run on the whole state observes it
  among_observed : (r : Run) → exec b (known filled) ≡ done r → (list : List Address) → AllByRecursion (WasNeeded b t) list
      → (q : Address) → is_among list q ≡ true → is_among (map (λ z. z.address) r.observations) q ≡ true
  among_observed r ran [] each q e = absurd (false≢true e)
  among_observed r ran (a ∷ list) each q e = by (same q a) refl e (among_observed r ran list each.1 q)
    where
      by : (c : Bool) → same q a ≡ c → (c || is_among list q) ≡ true → (is_among list q ≡ true → is_among (map (λ z. z.address) r.observations) q ≡ true)
          → is_among (map (λ z. z.address) r.observations) q ≡ true
      by true is e rest = subst (λ x. is_among (map (λ z. z.address) r.observations) x ≡ true) (sym (same-is q a is)) (needed_is_observed r ran a each.0)
      by false is e rest = rest e

-- the addresses that were needed are distinct, one run observes them all, and its observations are few
pub reads_are_few : ReadsAreFew
reads_are_few b n t turn = few (needed_in_turn b n t turn) (whole_runs_are_done b (filled b t))
  where
    few : Needed b n t → (r : Run) × (exec b (known (filled b t)) ≡ done r) → n ≤ TICK_LIMIT
    few needed run =
        let within = length-le_from_is_member (eq_by_cmp_equiv order.total-law) needed.addresses (map (λ z. z.address) run.0.observations) needed.once
        (among_observed b t run.0 run.1 needed.addresses needed.each) in
        omega (arith, within, needed.all, length-map run.0.observations (λ z. z.address), observations_are_few b (known (filled b t)) run.0 run.1)
