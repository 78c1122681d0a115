-- A run rests on what it observed.
use Rattle.std.proofs.Common.{lit≤, nat_eq, int_eq, ◌≡◌, ℤ, Bool, true, false, ◌||◌, ◌&&◌, List, [], ◌∷◌, ◌++◌, Option, Some, None, refl, ap, sym, ◌∙◌, subst, cond}
use Rattle.std.specs.Bool.{beq}
use Rattle.std.specs.List.{list_any, AllByRecursion}
use denote.Enum.Bare.{same_true}
use Rattle.std.specs.Cmp.Lexicographic.{pointwise}
use Rattle.rdt_types.specs.declared.address.Kind.{Kind}
use Rattle.rdt_types.specs.contracts.address.Kind.{the_type as the_kind}
use Rattle.rdt_types.specs.contracts.address.KindPartialEq.TheImpl as kind_eq
use Rattle.rdt_types.specs.contracts.address.AddressPartialEq.TheImpl as address_eq
use Rattle.conflict_table.specs.declared.observation.Obs.{Obs}
use Rattle.conflict_table.specs.contracts.observation.ObsPartialEq.TheImpl as obs_eq
use Rattle.rdt_types.specs.declared.address.Address.{Address}
use Rattle.rdt_types.specs.declared.value.Value.{Value}
use Rattle.rdt_types.specs.declared.operation.WriteOp.{WriteOp}
use Rattle.rdt_types.specs.declared.outcome.Item.{Item}
use Rattle.plain_data.specs.Texts.{Bytes}
use Rattle.conflict_table.specs.declared.observation.Obs.TheVariants as obs
use Rattle.std.proofs.lemmas.Bool.{eqb-true, false≢true}
use Rattle.std.proofs.lemmas.Bool.Decides.{Decides-int_eq}
use Rattle.rdt_types.specs.Values.{kind_written, default_of}
use Rattle.conflict_table.specs.declared.read.ReadOp.{ReadOp}
use Rattle.conflict_table.specs.Reads.{replay, answer, is_decided, observed}
use Rattle.conflict_table.proofs.Resting.{reads_rest_on_observations}
use Rattle.txn_lang.specs.declared.progress.Stop.TheVariants as stop
use Rattle.txn_lang.specs.declared.progress.Progress.{Progress}
use Rattle.txn_lang.specs.declared.run.Run.{Run}
use Rattle.txn_lang.specs.declared.run.Seen.{Seen}
use Rattle.txn_lang.specs.contracts.run.SeenPartialEq.TheImpl as seen_eq
use Rattle.txn_lang.specs.Steps.{Step, stopped, gives, Stepping, answered, read_at, write_at}
use Rattle.txn_lang.specs.Items.{Names}
use Rattle.txn_lang.specs.States.{PartialState}
use Rattle.txn_lang.specs.Own.{at_address, with_seen}
use Rattle.txn_lang.specs.Execution.{Ran, need, done, Own, own_memory, own_read, own_value, own_write, ended, own_run, exec, begun, nothing_yet, RunsAreBounded}
use Rattle.txn_lang.specs.Determinacy.{AgreesOn, Agree, RunsAreDetermined}
use Rattle.txn_lang.proofs.Simulation.{Suits, Simulates, Fine, Same, onto, body_simulates, answered_bounded, answered_lacking}

-- where two tests pass together each does
and_parts : (a b : Bool) → (a && b) ≡ true → (a ≡ true) × (b ≡ true)
and_parts true b e = (refl, e)
and_parts false b e = absurd (cc)

-- bytes that pass the test one by one are the same text
text_same : (x y : Bytes) → pointwise nat_eq x y ≡ true → x ≡ y
text_same [] [] e = refl
text_same [] (b ∷ y) e = absurd (cc)
text_same (a ∷ x) [] e = absurd (cc)
text_same (a ∷ x) (b ∷ y) e = let both = and_parts (nat_eq a b) (pointwise nat_eq x y) e in
    ap (λ c. c ∷ x) (eqb-true a b both.0) ∙ ap (λ z. b ∷ z) (text_same x y both.1)

-- the test on kinds passes no two different ones
kind_same : (a b : Kind) → kind_eq.ghosts.eq a b ≡ true → a ≡ b
kind_same a b e = same_true the_kind tt a b e

-- the test on truth values passes no two different ones
bool_same : (a b : Bool) → beq a b ≡ true → a ≡ b
bool_same true true e = refl
bool_same false false e = refl
bool_same _ _ e = absurd (false≢true e)

-- nor does that on numbers
int_same : (m n : ℤ) → int_eq m n ≡ true → m ≡ n
int_same m n e = (Decides-int_eq m n).0 e

-- form by form: the test passes the same form alone, with the same text, place, number or answer
obs_same : (o p : Obs) → obs_eq.ghosts.eq o p ≡ true → o ≡ p
obs_same obs.BoolIs obs.BoolIs e = refl
obs_same obs.CounterIs obs.CounterIs e = refl
obs_same obs.TextIs obs.TextIs e = refl
obs_same (obs.SetHas x) (obs.SetHas y) e = ap (λ t. obs.SetHas t) (text_same x y e)
obs_same obs.SetAll obs.SetAll e = refl
obs_same (obs.HashAt x) (obs.HashAt y) e = ap (λ t. obs.HashAt t) (text_same x y e)
obs_same obs.HashAll obs.HashAll e = refl
obs_same (obs.ListAt i) (obs.ListAt j) e = ap (λ k. obs.ListAt k) (eqb-true i j e)
obs_same obs.ListAll obs.ListAll e = refl
obs_same (obs.PeakIs m) (obs.PeakIs n) e = ap (λ k. obs.PeakIs k) (int_same m n e)
obs_same (obs.PeakOver m a) (obs.PeakOver n b) e =
    let both = and_parts (int_eq m n) (beq a b) e in
    ap (λ k. obs.PeakOver k a) (int_same m n both.0) ∙ ap (λ r. obs.PeakOver n r) (bool_same a b both.1)
obs_same _ _ e = absurd (false≢true e)

-- kind, key and observation each pass their own test, so each is the same
seen_alike : (x z : Seen) → seen_eq.ghosts.eq x z ≡ true → x ≡ z
seen_alike x z e =
    let outer = and_parts (address_eq.ghosts.eq x.address z.address) (obs_eq.ghosts.eq x.obs z.obs) e in
    let inner = and_parts (kind_eq.ghosts.eq x.address.kind z.address.kind) (pointwise nat_eq x.address.key z.address.key) outer.0 in
    ap (λ k. record { address = record { kind = k; key = x.address.key }; obs = x.obs }) (kind_same _ _ inner.0)
    ∙ (ap (λ t. record { address = record { kind = z.address.kind; key = t }; obs = x.obs }) (text_same _ _ inner.1)
    ∙ ap (λ o. record { address = z.address; obs = o }) (obs_same _ _ outer.1))

module _ (P : Seen → Type 0) where
  -- what holds of a list and one more behind it holds of the list and of that one: item by item
  front : (xs : List Seen) (z : Seen) → AllByRecursion P (xs ++ z ∷ []) → AllByRecursion P xs × P z
  front [] z all = (tt, all.0)
  front (x ∷ xs) z all = let rest = front xs z all.1 in ((all.0, rest.0), rest.1)

  -- what is found in a list is the same as one of its items, and it holds of that one
  listed : (xs : List Seen) (z : Seen) → list_any (λ t. seen_eq.ghosts.eq t z) xs ≡ true → AllByRecursion P xs → P z
  listed [] z e all = absurd (cc)
  listed (x ∷ xs) z e all = by (seen_eq.ghosts.eq x z) refl e (λ later. listed xs z later all.1)
    where
      by : (b : Bool) → seen_eq.ghosts.eq x z ≡ b → (b || list_any (λ t. seen_eq.ghosts.eq t z) xs) ≡ true
          → (list_any (λ t. seen_eq.ghosts.eq t z) xs ≡ true → P z) → P z
      by true is e rest = subst P (seen_alike x z is) all.0
      by false is e rest = rest e

  -- the observations before one more, and that one
  parts : (xs : List Seen) (z : Seen) → AllByRecursion P (with_seen xs z) → AllByRecursion P xs × P z
  parts xs z all = by (list_any (λ t. seen_eq.ghosts.eq t z) xs) refl all
    where
      by : (b : Bool) → list_any (λ t. seen_eq.ghosts.eq t z) xs ≡ b → AllByRecursion P (cond b xs (xs ++ z ∷ [])) → AllByRecursion P xs × P z
      by true e all = (all, listed xs z e all)
      by false e all = front xs z all

module _ (s t : PartialState) where
  -- the two states agree on all that was observed so far
  abbrev Good : Own → Type 0
  Good o = Agree s t o.observations

  -- no address may be needed, since the run is done
  abbrev Needs : Address → Type 0
  Needs a = ⊥

  -- nothing is said of what a run lacks
  abbrev Anything : Address → Type 0
  Anything a = Unit {0}

  -- what the first state's run does, from own operations and observations, the second's does from the same ones
  abbrev Both : {A : Type 0} → Stepping Own A → Stepping Own A → Type 0
  Both f g = Simulates (λ o p. o ≡ p) Good Needs Anything f g

  module _ (r : ReadOp) (a : Address) (p : Progress Own) where
    -- the run's own operations at the address
    abbrev ops : List WriteOp
    ops = at_address a p.memory.operations

    -- what the read observes of a value there
    abbrev seen_of : Value → Seen
    seen_of v = record { address = a; obs = observed r ops v }

    -- the step of a read that the own operations decide
    abbrev decided_step : Step Own Item
    decided_step = answered a (Some (answer r (replay ops (default_of a.kind)), p.memory)) p

    -- the step of a read that needs the value
    abbrev looked_step : Option Value → Step Own Item
    looked_step v = answered a (own_value r a v p.memory) p

    -- a read takes no observation away, so states that agree behind it agreed before it
    read_back : (b : Bool) (v : Option Value)
        → Fine (λ o p. o ≡ p) Good Needs Anything
        (answered a (cond b (Some (answer r (replay ops (default_of a.kind)), p.memory)) (own_value r a v p.memory)) p)
        → Good p.memory
    read_back true v fine = fine
    read_back false None fine = absurd fine.0
    read_back false (Some v) fine = (parts (AgreesOn s t) p.memory.observations (seen_of v) fine).0

    -- a decided read asks no state; else the states agree on what it observes, and its answer rests on that
    read_forth : (b : Bool) (v : Option Value) → is_decided r ops ≡ b → s a ≡ v
        → Fine (λ o p. o ≡ p) Good Needs Anything
        (answered a (cond b (Some (answer r (replay ops (default_of a.kind)), p.memory)) (own_value r a v p.memory)) p)
        → (answered a (cond b (Some (answer r (replay ops (default_of a.kind)), p.memory)) (own_value r a v p.memory)) p)
        ≡ (answered a (cond b (Some (answer r (replay ops (default_of a.kind)), p.memory)) (own_value r a (t a) p.memory)) p)
    read_forth true v not_here is fine = refl
    read_forth false None not_here is fine = absurd fine.0
    read_forth false (Some v) not_here is fine =
        let z = (parts (AgreesOn s t) p.memory.observations (seen_of v) fine).1 in
        let both = z.same v is in
        let rests = reads_rest_on_observations r ops v z.there both.0 (λ _. both.1) in
        let alike : answer r (replay ops v) ≡ answer r (replay ops z.there) = rests.0 in
        let same : observed r ops z.there ≡ observed r ops v = sym (rests.1 not_here) in
        ap (λ (x : Item × _). gives x.0
        (record p {
          memory = record p.memory
              { observations = with_seen p.memory.observations (record { address = a; obs = x.1 }) };
        }))
        (ap (λ (i : Item). (i, observed r ops v)) alike ∙ ap (λ o. (answer r (replay ops z.there), o)) (sym same))
        ∙ ap (λ w. answered a (own_value r a w p.memory) p) (sym z.is)

  -- steps that are the same have come to the same memory
  same_step : {A : Type 0} (u v : Step Own A) (p : Progress Own) → u ≡ v → Same (λ o p. o ≡ p) Good Needs Anything u v
  same_step (stopped e q) v p is = (q.memory, refl, sym is)
  same_step (gives x q) v p is = (q.memory, refl, sym is)

  -- the own operations decide a read, or the first state observes it, and the second answers as much where it agrees
  reads : (r : ReadOp) (a : Address) → Suits a.kind r → Both (read_at (own_memory s) r a) (read_at (own_memory t) r a)
  reads r a suits = record {
    back = λ p. read_back r a p (is_decided r (ops r a p)) (s a);
    forth = λ p m is fine. subst (λ m. Same (λ o p. o ≡ p) Good Needs Anything (read_at (own_memory s) r a p) (read_at (own_memory t) r a (onto m p))) is
        (same_step (read_at (own_memory s) r a p) (read_at (own_memory t) r a p) p (read_forth r a p (is_decided r (ops r a p)) (s a) refl refl fine));
    bounded = λ p h. answered_bounded a (own_read s r a p.memory) p h;
    lacking = λ p. answered_lacking (λ o p. o ≡ p) Good Needs Anything a (own_read s r a p.memory) p (λ _. tt);
  }

  -- a write is one more operation of the run's own, whatever the state
  writes : (a : Address) (o : WriteOp) → kind_written o ≡ a.kind → Both (write_at (own_memory s) a o) (write_at (own_memory t) a o)
  writes a o k = record { back = λ p fine. fine; forth = λ p m is fine. (own_write a o m, ap (own_write a o) is, refl); bounded = λ p h. h; lacking = λ p. tt }

  -- the two states agree on what a run that is done observed
  abbrev AgreeRan : Ran → Type 0
  AgreeRan (need a) = Unit {0}
  AgreeRan (done r) = Agree s t r.observations

  -- however the first run ended, unless it needs an address, the second came to the same end
  done_alike : (u v : Step Own Names) (r : Run) → ended u ≡ done r → AgreeRan (ended u)
      → (Fine (λ o p. o ≡ p) Good Needs Anything u → Same (λ o p. o ≡ p) Good Needs Anything u v) → ended v ≡ done r
  done_alike (gives x p) v r e agree sim = let z = sim agree in ap ended z.2 ∙ (ap (λ m. ended (gives x (onto m p))) (sym z.1) ∙ e)
  done_alike (stopped (stop.Need a) p) v r e agree sim = absurd (cc)
  done_alike (stopped (stop.Fail x) p) v r e agree sim =
      let z = sim (tt, agree) in ap ended z.2 ∙ (ap (λ m. ended (stopped (stop.Fail x) (onto m p))) (sym z.1) ∙ e)
  done_alike (stopped stop.Spent p) v r e agree sim = let z = sim (tt, agree) in ap ended z.2 ∙ (ap (λ m. ended (stopped stop.Spent (onto m p))) (sym z.1) ∙ e)
  done_alike (stopped stop.Big p) v r e agree sim = let z = sim (tt, agree) in ap ended z.2 ∙ (ap (λ m. ended (stopped stop.Big (onto m p))) (sym z.1) ∙ e)
  done_alike (stopped stop.NoMemory p) v r e agree sim =
      let z = sim (tt, agree) in ap ended z.2 ∙ (ap (λ m. ended (stopped stop.NoMemory (onto m p))) (sym z.1) ∙ e)

-- no observation is ever dropped, so states that agree at the end agreed at each read, and both runs went alike
pub runs_are_determined : RunsAreDetermined
unfolding exec
runs_are_determined b s t r e agree =
    let sim = body_simulates (λ o p. o ≡ p) (Good s t) (Needs s t) (Anything s t) (own_memory s) (own_memory t) (reads s t) (writes s t) b in
    done_alike s t (own_run b s) (own_run b t) r e (subst (AgreeRan s t) (sym e) agree) (sim.forth (begun nothing_yet) nothing_yet refl)

-- each charge is within the limit
pub runs_are_bounded : RunsAreBounded
runs_are_bounded b s =
    let sim = body_simulates (λ o p. o ≡ p) (Good s s) (Needs s s) (Anything s s) (own_memory s) (own_memory s) (reads s s) (writes s s) b in
    sim.bounded (begun nothing_yet) (lit≤ tt)
