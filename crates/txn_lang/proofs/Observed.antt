-- What a run needs is missing, what it observed is there, and both are short: the simulation of a memory by itself.
use Rattle.std.proofs.Common.{◌≡◌, ℤ, pos, negsuc, Bool, true, false, not, ◌&&◌, nat_lt, List, [], ◌∷◌, ◌++◌, length, Option, Some, None, refl, ap}
use Rattle.std.proofs.Common.{sym, ◌∙◌, subst, cond}
use Rattle.std.specs.List.{list_any, AllByRecursion}
use Rattle.std.proofs.lemmas.Bool.{ltb-true}
use Rattle.rdt_types.specs.declared.address.Address.{Address}
use Rattle.rdt_types.specs.declared.value.Value.{Value}
use Rattle.rdt_types.specs.declared.value.Value.TheVariants as value
use Rattle.rdt_types.specs.declared.operation.WriteOp.{WriteOp}
use Rattle.rdt_types.specs.declared.outcome.Item.{Item}
use Rattle.rdt_types.specs.Values.{kind_of, kind_written, default_of, list_in}
use Rattle.conflict_table.specs.declared.observation.Obs.TheVariants as obs
use Rattle.conflict_table.specs.declared.read.ReadOp.{ReadOp}
use Rattle.conflict_table.specs.declared.read.ReadOp.TheVariants as read
use Rattle.conflict_table.specs.Observing.{observe, IsWithin}
use Rattle.conflict_table.specs.Reads.{replay, answer, is_decided, observed, observed_where, place_observed, whole_observed, is_list_remove}
use Rattle.txn_trees.specs.declared.statement.Body.{Body}
use Rattle.txn_lang.specs.declared.progress.Stop.TheVariants as stop
use Rattle.txn_lang.specs.declared.progress.Progress.{Progress}
use Rattle.txn_lang.specs.declared.run.Run.{Run}
use Rattle.txn_lang.specs.declared.run.Seen.{Seen}
use Rattle.txn_lang.specs.contracts.run.SeenPartialEq.TheImpl as seen_eq
use Rattle.txn_lang.specs.Steps.{Step, stopped, gives, Stepping, answered, read_at, write_at}
use Rattle.txn_lang.specs.Items.{Names}
use Rattle.txn_lang.specs.Rules.{body_run}
use Rattle.txn_lang.specs.States.{PartialState, known}
use Rattle.txn_lang.specs.Own.{at_address, with_seen}
use Rattle.txn_lang.specs.Execution.{Ran, need, done, Own, own_memory, own_read, own_value, own_write, ended, own_run, exec, begun, nothing_yet}
use Rattle.txn_lang.specs.Determinacy.{AgreesOn, Agree}
use Rattle.txn_lang.specs.Observed.{IsThere, Extends, NeedsAreMissing, WholeRunsAreDone, ObservedIsThere, RunsStayDone, NeedsStay}
use Rattle.txn_lang.specs.Short.{IsShortAddress, text_in, IsShortObservation, RunsAskShort}
use Rattle.txn_lang.proofs.Determinacy.{runs_are_determined}
use Rattle.txn_lang.proofs.Each.{each-more, each-push}
use Rattle.txn_lang.proofs.Sizes.{IsShortText, no_text_short, text_asked, IsShortRead}
use Rattle.txn_lang.proofs.Simulation.{Suits, Simulates, Fine, Same, Lacking, onto, body_simulates, short_reads_simulate, answered_bounded, answered_lacking}

-- a place is observed alone only within the list
place_within : (i : ℤ) (takes_out : Bool) (v : Value) → IsWithin (place_observed i takes_out (list_in v)) v
place_within (pos i) true v = tt
place_within (pos i) false v = by (nat_lt i (length (list_in v))) refl
  where
    by : (b : Bool) → nat_lt i (length (list_in v)) ≡ b → IsWithin (cond b (obs.ListAt i) obs.ListAll) v
    by true e = ltb-true i (length (list_in v)) e
    by false e = tt
place_within (negsuc i) takes_out v = tt

-- who observes a whole value observes no single place of it, and a peak's observation carries its value
whole_within : (v : Value) → IsWithin (whole_observed v) v
whole_within (value.Bool b) = tt
whole_within (value.Text t) = tt
whole_within (value.Counter n) = tt
whole_within (value.Set m) = tt
whole_within (value.Hash m) = tt
whole_within (value.List items) = tt
whole_within (value.Peak n) = refl

-- what a read observes can be observed of the value
observed_within : (r : ReadOp) (takes_out : Bool) (v : Value) → IsWithin (observed_where r takes_out v) v
observed_within read.Get takes_out v = whole_within v
observed_within (read.ListAt i) takes_out v = place_within i takes_out v
observed_within (read.SetHas x) takes_out v = tt
observed_within read.SetAll takes_out v = tt
observed_within (read.HashHas f) takes_out v = tt
observed_within (read.HashGet f) takes_out v = tt
observed_within read.HashFields takes_out v = tt
observed_within read.ListAll takes_out v = tt
observed_within (read.PeakOver n) takes_out v = refl

-- a short read observes no longer text
observed_short : (r : ReadOp) (takes_out : Bool) (v : Value) → IsShortText (text_asked r) → IsShortText (text_in (observed_where r takes_out v))
observed_short read.Get takes_out v short = whole_short v
  where
    whole_short : (v : Value) → IsShortText (text_in (whole_observed v))
    whole_short (value.Bool b) = no_text_short
    whole_short (value.Text t) = no_text_short
    whole_short _ = no_text_short
observed_short (read.ListAt (pos i)) takes_out v short = by (not takes_out && nat_lt i (length (list_in v)))
  where
    by : (b : Bool) → IsShortText (text_in (cond b (obs.ListAt i) obs.ListAll))
    by true = no_text_short
    by false = no_text_short
observed_short (read.ListAt (negsuc i)) takes_out v short = no_text_short
observed_short (read.SetHas x) takes_out v short = short
observed_short (read.HashHas f) takes_out v short = short
observed_short (read.HashGet f) takes_out v short = short
observed_short _ takes_out v short = no_text_short

module _ (P : Seen → Type 0) where
  -- one more observation of which it holds
  with_one : (xs : List Seen) (z : Seen) → AllByRecursion P xs → P z → AllByRecursion P (with_seen xs z)
  with_one xs z all holds = by (list_any (λ t. seen_eq.ghosts.eq t z) xs)
    where
      by : (b : Bool) → AllByRecursion P (cond b xs (xs ++ z ∷ []))
      by true = all
      by false = each-push P xs z all holds

module _ (s : PartialState) where
  -- what was observed is there, and short
  abbrev IsSeen : Seen → Type 0
  IsSeen z = IsThere s z × IsShortObservation z.address z.obs

  -- both memories are one, and all that it has observed is there and short
  abbrev Always : Own → Own → Type 0
  Always o p = (o ≡ p) × AllByRecursion IsSeen o.observations

  -- nothing is asked of how a run ends
  abbrev Good : Own → Type 0
  Good o = Unit {0}

  -- a run may need any address
  abbrev Needs : Address → Type 0
  Needs a = Unit {0}

  -- an address that the state has no value at, and whose key is short
  abbrev Lacks : Address → Type 0
  Lacks a = (s a ≡ None) × IsShortAddress a

  -- two runs over this state's memory that go on alike
  abbrev Both : {A : Type 0} → Stepping Own A → Stepping Own A → Type 0
  Both f g = Simulates Always Good Needs Lacks f g

  -- two steps over this state's memory that have come to the same
  abbrev Along : {A : Type 0} → Step Own A → Step Own A → Type 0
  Along u v = Same Always Good Needs Lacks u v

  module _ (r : ReadOp) (a : Address) (suits : Suits a.kind r) (short : IsShortRead a r) (p : Progress Own) where
    -- the run's own operations at the address
    abbrev ops : List WriteOp
    ops = at_address a p.memory.operations

    -- what the memory answers, by whether own operations decide the read and by the value that may be there
    abbrev step_of : Bool → Option Value → Option (Item × Own)
    step_of b v = cond b (Some (answer r (replay ops (default_of a.kind)), p.memory)) (own_value r a v p.memory)

    -- a read that isn't answered has no value
    unanswered : (b : Bool) (v : Option Value) → step_of b v ≡ None → v ≡ None
    unanswered true v e = absurd (cc)
    unanswered false None e = refl
    unanswered false (Some v) e = absurd (cc)

    -- a read observes what is there
    along : (b : Bool) (v : Option Value) → s a ≡ v → AllByRecursion IsSeen p.memory.observations
        → Along (answered a (step_of b v) p) (answered a (step_of b v) p)
    along true v is all = (p.memory, (refl, all), refl)
    along false None is all = (p.memory, (refl, all), refl)
    along false (Some v) is all =
        let takes_out = list_any is_list_remove ops in
        let there : IsThere s (record { address = a; obs = observed r ops v }) =
        record { value = v; is = is; within = observed_within r takes_out v; kind = suits takes_out v } in
        let brief : IsShortObservation a (observed r ops v) = record { key = short.0; text = observed_short r takes_out v short.1 } in
        (_, (refl, with_one IsSeen p.memory.observations _ all (there, brief)), refl)

  -- a read is answered by what is there, or needs what isn't; what it observes is there, and its texts are short
  reads : (r : ReadOp) (a : Address) → Suits a.kind r → IsShortRead a r → Both (read_at (own_memory s) r a) (read_at (own_memory s) r a)
  reads r a suits short = record {
    back = λ p fine. tt;
    forth = λ p m with_it fine. subst (λ m. Along (read_at (own_memory s) r a p) (read_at (own_memory s) r a (onto m p))) with_it.0
        (along r a suits short p (is_decided r (ops r a suits short p)) (s a) refl with_it.1);
    bounded = λ p h. answered_bounded a (own_read s r a p.memory) p h;
    lacking = λ p. answered_lacking Always Good Needs Lacks a (own_read s r a p.memory) p
        (λ none. (unanswered r a suits short p (is_decided r (ops r a suits short p)) (s a) none, short.0));
  }

  -- a write observes nothing
  writes : (a : Address) (o : WriteOp) → kind_written o ≡ a.kind → Both (write_at (own_memory s) a o) (write_at (own_memory s) a o)
  writes a o k = record {
    back = λ p fine. tt;
    forth = λ p m with_it fine. (own_write a o m, (ap (own_write a o) with_it.0, with_it.1), refl);
    bounded = λ p h. h;
    lacking = λ p. tt;
  }

  -- reads and writes go on alike, so the run of each body does with itself
  run_simulates : (b : Body) → Both (body_run (own_memory s) b) (body_run (own_memory s) b)
  run_simulates b = short_reads_simulate Always Good Needs Lacks (own_memory s) (own_memory s) reads writes b

  -- what a run that needs an address says of it, and of its observations one that is done
  abbrev Told : Ran → Type 0
  Told (need a) = Lacks a
  Told (done r) = AllByRecursion IsSeen r.observations

  -- a run that stops for an address lacks it, and what any other has observed is there and short, however it ended
  told_by : (u v : Step Own Names) → Lacking Always Good Needs Lacks u → (Fine Always Good Needs Lacks u → Along u v) → Told (ended u)
  told_by (gives x p) v lacks sim = (sim tt).1.1
  told_by (stopped (stop.Need a) p) v lacks sim = lacks
  told_by (stopped (stop.Fail x) p) v lacks sim = (sim (tt, tt)).1.1
  told_by (stopped stop.Spent p) v lacks sim = (sim (tt, tt)).1.1
  told_by (stopped stop.Big p) v lacks sim = (sim (tt, tt)).1.1
  told_by (stopped stop.NoMemory p) v lacks sim = (sim (tt, tt)).1.1

  -- a run goes on alike with itself from its beginning, where nothing is observed yet
  told : (b : Body) → Told (ended (own_run b s))
  told b =
      told_by (own_run b s) (own_run b s) ((run_simulates b).lacking (begun nothing_yet)) ((run_simulates b).forth (begun nothing_yet) nothing_yet (refl, tt))

-- that is told of a run which needs an address: it lacks that one
needed : (b : Body) (s : PartialState) (a : Address) → exec b s ≡ need a → Lacks s a
unfolding exec
needed b s a e = subst (Told s) e (told s b)

-- and that of a run which is done: all that it observed is there and short
seen : (b : Body) (s : PartialState) (r : Run) → exec b s ≡ done r → AllByRecursion (IsSeen s) r.observations
unfolding exec
seen b s r e = subst (Told s) e (told s b)

-- what a run lacks is missing from the state
pub needs_are_missing : NeedsAreMissing
needs_are_missing b s a e = (needed b s a e).0

-- what a run has seen is there
pub observed_is_there : ObservedIsThere
observed_is_there b s r e = each-more (IsSeen s) (IsThere s) r.observations (λ z all. all.0) (seen b s r e)

-- what a run lacks is short, and so is all that it has seen
pub runs_ask_short : RunsAskShort
runs_ask_short = record {
  needed = λ b s a e. (needed b s a e).1;
  observed = λ b s r e. each-more (IsSeen s) (λ z. IsShortObservation z.address z.obs) r.observations (λ z all. all.1) (seen b s r e);
}

-- a whole state lacks nothing
pub whole_runs_are_done : WholeRunsAreDone
whole_runs_are_done b s = by (exec b (known s)) refl
  where
    by : (x : Ran) → exec b (known s) ≡ x → (r : Run) × (exec b (known s) ≡ done r)
    by (done r) e = (r, e)
    by (need a) e = let missing : Some (s a) ≡ None = needs_are_missing b (known s) a e in absurd (cc)

-- a state with more values agrees on what is there
agree_on_more : (s t : PartialState) → Extends s t → (seen : List Seen) → AllByRecursion (IsThere s) seen → Agree s t seen
agree_on_more s t more [] all = tt
agree_on_more s t more (z ∷ seen) all = (agrees all.0, agree_on_more s t more seen all.1)
  where
    some_same : (v w : Value) → Some v ≡ Some w → v ≡ w
    some_same v w e = cc

    agrees : IsThere s z → AgreesOn s t z
    agrees there = record {
      there = there.value;
      is = more z.address there.value there.is;
      same = λ v is. let e : v ≡ there.value = some_same v there.value (sym is ∙ there.is) in (ap kind_of e, ap (observe z.obs) e);
    }

-- more values change nothing of what was observed, and a run rests on that alone
pub runs_stay_done : RunsStayDone
runs_stay_done b s t r more e = runs_are_determined b s t r e (agree_on_more s t more r.observations (observed_is_there b s r e))

-- ---- needs stay

module _ (s t : PartialState) (more : Extends s t) where
  -- an address that the larger state has no value at
  abbrev Missing : Address → Type 0
  Missing a = t a ≡ None

  -- the smaller state's run goes on as the larger's does, while the larger misses what the smaller needs
  abbrev Onward : {A : Type 0} → Stepping Own A → Stepping Own A → Type 0
  Onward f g = Simulates (λ o p. o ≡ p) (Good s) Missing (Needs s) f g

  -- if the step stops for an address, the larger state misses it too
  abbrev Fit : {A : Type 0} → Step Own A → Type 0
  Fit u = Fine (λ o p. o ≡ p) (Good s) Missing (Needs s) u

  -- two steps over the two states that have come to the same
  abbrev Alike : {A : Type 0} → Step Own A → Step Own A → Type 0
  Alike u v = Same (λ o p. o ≡ p) (Good s) Missing (Needs s) u v

  -- steps that are the same have come to the same memory
  alike : {A : Type 0} (u v : Step Own A) → u ≡ v → Alike u v
  alike (stopped e q) v is = (q.memory, refl, sym is)
  alike (gives x q) v is = (q.memory, refl, sym is)

  module _ (r : ReadOp) (a : Address) (p : Progress Own) where
    -- the step of a read, by whether own operations decide it and by the value that may be there
    abbrev at : Bool → Option Value → Step Own Item
    at b v = answered a (cond b (Some (answer r (replay (at_address a p.memory.operations) (default_of a.kind)), p.memory)) (own_value r a v p.memory)) p

    -- a decided read asks no state, a value that is there is the same in both, and a missing one is in both
    read_alike : (b : Bool) (v : Option Value) → s a ≡ v → Fit (at b v) → at b v ≡ at b (t a)
    read_alike true v is fine = refl
    read_alike false None is fine = ap (at false) (sym fine.0)
    read_alike false (Some v) is fine = ap (at false) (sym (more a v is))

  -- what the smaller state has the larger has, and what the smaller needs the larger misses too
  reads_on : (r : ReadOp) (a : Address) → Suits a.kind r → Onward (read_at (own_memory s) r a) (read_at (own_memory t) r a)
  reads_on r a suits = record {
    back = λ p fine. tt;
    forth = λ p m is fine. subst (λ m. Alike (read_at (own_memory s) r a p) (read_at (own_memory t) r a (onto m p))) is
        (alike (read_at (own_memory s) r a p) (read_at (own_memory t) r a p)
        (read_alike r a p (is_decided r (at_address a p.memory.operations)) (s a) refl fine));
    bounded = λ p h. answered_bounded a (own_read s r a p.memory) p h;
    lacking = λ p. answered_lacking (λ o p. o ≡ p) (Good s) Missing (Needs s) a (own_read s r a p.memory) p (λ e. tt);
  }

  -- a write is one more operation of the run's own, whatever the state
  writes_on : (a : Address) (o : WriteOp) → kind_written o ≡ a.kind → Onward (write_at (own_memory s) a o) (write_at (own_memory t) a o)
  writes_on a o k = record { back = λ p fine. tt; forth = λ p m is fine. (own_write a o m, ap (own_write a o) is, refl); bounded = λ p h. h; lacking = λ p. tt }

  -- the larger state misses the address that stopped the first run, so the second stopped for it too
  need_alike : (u v : Step Own Names) (a : Address) → ended u ≡ need a → t a ≡ None → (Fit u → Alike u v) → ended v ≡ need a
  need_alike (stopped (stop.Need c) p) v a e none sim = let is : c ≡ a = cc in ap ended (sim (subst Missing (sym is) none, tt)).2 ∙ e
  need_alike (gives x p) v a e none sim = absurd (cc)
  need_alike (stopped (stop.Fail x) p) v a e none sim = absurd (cc)
  need_alike (stopped stop.Spent p) v a e none sim = absurd (cc)
  need_alike (stopped stop.Big p) v a e none sim = absurd (cc)
  need_alike (stopped stop.NoMemory p) v a e none sim = absurd (cc)

-- both runs go on alike up to the address that both states miss
pub needs_stay : NeedsStay
unfolding exec
needs_stay b s t a more e none =
    let sim = body_simulates (λ o p. o ≡ p) (Good s) (Missing s t more) (Needs s) (own_memory s) (own_memory t) (reads_on s t more) (writes_on s t more) b in
    need_alike s t more (own_run b s) (own_run b t) a e none (sim.forth (begun nothing_yet) nothing_yet refl)
