-- The deltas of a run are of the kinds of their addresses, and so are those of a commit that is one of a run.
use Rattle.std.proofs.Common.{◌≡◌, Bool, true, false, cond, List, [], ◌∷◌, ◌++◌, fold, Option, Some, None, refl, sym, ap, ◌∙◌, subst}
use Rattle.std.specs.BTreeMap.{insert_entry}
use Rattle.std.specs.Ordering.{is_eq, match_ordering}
use Rattle.std.specs.declared.cmp.Ordering.{Ordering}
use Rattle.std.specs.declared.cmp.Ordering.TheVariants.{Less, Equal, Greater}
use Rattle.plain_data.proofs.Entries.{equal}
use Rattle.rdt_types.specs.declared.address.Address.{Address}
use Rattle.rdt_types.specs.declared.value.Value.{Value}
use Rattle.rdt_types.specs.declared.operation.WriteOp.{WriteOp}
use Rattle.rdt_types.specs.declared.delta.Delta.{Delta}
use Rattle.rdt_types.specs.Addresses.{address_cmp}
use Rattle.rdt_types.specs.Values.{kind_written, default_of}
use Rattle.rdt_types.specs.Deltas.{delta_of, kind_changed}
use Rattle.rdt_types.specs.DeltaMaps.{Deltas, delta_at, after_maybe, with_delta}
use Rattle.rdt_types.proofs.Addresses.{address_cmp-equal}
use Rattle.rdt_types.proofs.OneKind.{kind-delta_of, kind-compose}
use Rattle.conflict_table.specs.declared.read.ReadOp.{ReadOp}
use Rattle.conflict_table.specs.Reads.{replay, answer, is_decided}
use Rattle.txn_trees.specs.declared.statement.Body.{Body}
use Rattle.txn_lang.specs.declared.commit.Commit.{Commit}
use Rattle.txn_lang.specs.declared.progress.Stop.TheVariants as stop
use Rattle.txn_lang.specs.declared.progress.Progress.{Progress}
use Rattle.txn_lang.specs.declared.run.Run.{Run}
use Rattle.txn_lang.specs.Steps.{Step, stopped, gives, Stepping, answered, read_at, write_at}
use Rattle.txn_lang.specs.Items.{Names}
use Rattle.txn_lang.specs.Rules.{body_run}
use Rattle.txn_lang.specs.States.{Journal, PartialState}
use Rattle.txn_lang.specs.Own as owns
use Rattle.txn_lang.specs.Own.{Operations, at_address}
use Rattle.txn_lang.specs.Execution.{Ran, need, done, Own, own_memory, own_read, own_value, own_write, ended, own_run, exec, begun, nothing_yet}
use Rattle.txn_lang.proofs.Simulation.{Suits, Simulates, Fine, Same, onto, body_simulates, answered_bounded, answered_lacking}
use Rattle.journal_core.specs.Kinds.{AreOfTheirKinds, HasKinds}
use Rattle.journal_core.specs.Keeping.{IsOfRun}
use Rattle.journal_core.proofs.Each.{each-push}

-- ---- deltas of operations

-- a delta keeps its kind when it is composed after another, by the kind of a composition
kind-after : (before : Option Delta) (d : Delta) → kind_changed (after_maybe before d) ≡ kind_changed d
kind-after None d = refl
kind-after (Some b) d = kind-compose b d

-- a delta that goes in keeps the kinds
kinds-inserted : (ds : Deltas) (a : Address) (d : Delta) → kind_changed d ≡ a.kind → AreOfTheirKinds ds → AreOfTheirKinds (insert_entry address_cmp ds a d)
kinds-inserted [] a d is all = (is, tt)
kinds-inserted (e ∷ es) a d is all = by (kinds-inserted es a d is all.1) (address_cmp a e.0) refl
  where
    by : AreOfTheirKinds (insert_entry address_cmp es a d) → (r : Ordering) → address_cmp a e.0 ≡ r
        → AreOfTheirKinds (match_ordering r ((a, d) ∷ e ∷ es) ((e.0, d) ∷ es) (e ∷ insert_entry address_cmp es a d))
    by rest Less at = (is, all)
    by rest Equal at = (is ∙ ap (λ b. b.kind) (address_cmp-equal a e.0 at), all.1)
    by rest Greater at = (all.0, rest)

-- a delta that is composed with what stands at its address keeps the kinds: it goes in with its own kind
pub kinds-with : (ds : Deltas) (a : Address) (d : Delta) → kind_changed d ≡ a.kind → AreOfTheirKinds ds → AreOfTheirKinds (with_delta ds a d)
kinds-with ds a d is all = kinds-inserted ds a (after_maybe (delta_at ds a) d) (kind-after (delta_at ds a) d ∙ is) all

-- operations of their kinds make deltas of their kinds, by each of them in turn
kinds-of-deltas : (own : Operations) (ds : Deltas) → owns.AreOfTheirKinds own → AreOfTheirKinds ds
    → AreOfTheirKinds (fold (λ deltas w. with_delta deltas w.0 (delta_of w.1)) ds own)
kinds-of-deltas [] ds all there = there
kinds-of-deltas (w ∷ own) ds all there =
    kinds-of-deltas own (with_delta ds w.0 (delta_of w.1)) all.1 (kinds-with ds w.0 (delta_of w.1) (kind-delta_of w.1 ∙ all.0) there)

-- ---- runs: the operations are of their kinds at each step

module _ (s : PartialState) where
  -- two memories are one, and its operations are of the kinds of their addresses
  abbrev Always : Own → Own → Type 0
  Always o p = (o ≡ p) × owns.AreOfTheirKinds o.operations

  -- of a memory alone nothing more is asked
  abbrev Good : Own → Type 0
  Good o = Unit {0}

  -- each address may be read and written
  abbrev Any : Address → Type 0
  Any a = Unit {0}

  -- two steps keep this rule of their memories together
  abbrev Both : {A : Type 0} → Stepping Own A → Stepping Own A → Type 0
  Both f g = Simulates Always Good Any Any f g

  -- what two steps came to keeps this rule of their memories
  abbrev Along : {A : Type 0} → Step Own A → Step Own A → Type 0
  Along u v = Same Always Good Any Any u v

  module _ (r : ReadOp) (a : Address) (p : Progress Own) where
    -- the body's own writes at the address so far
    abbrev ops : List WriteOp
    ops = at_address a p.memory.operations

    -- by whether the own writes decide the read, else by whether the value is there: neither adds a write
    along : (b : Bool) (v : Option Value) → owns.AreOfTheirKinds p.memory.operations
        → Along (answered a (cond b (Some (answer r (replay ops (default_of a.kind)), p.memory)) (own_value r a v p.memory)) p)
        (answered a (cond b (Some (answer r (replay ops (default_of a.kind)), p.memory)) (own_value r a v p.memory)) p)
    along true v all = (p.memory, (refl, all), refl)
    along false None all = (p.memory, (refl, all), refl)
    along false (Some v) all = (_, (refl, all), refl)

  -- a read keeps the kinds of the operations: it leaves the body's own writes as they are
  reads : (r : ReadOp) (a : Address) → Suits a.kind r → Both (read_at (own_memory s) r a) (read_at (own_memory s) r a)
  reads r a suits = record {
    back = λ p fine. tt;
    forth = λ p m with_it fine. subst (λ m. Along (read_at (own_memory s) r a p) (read_at (own_memory s) r a (onto m p))) with_it.0
        (along r a p (is_decided r (ops r a p)) (s a) with_it.1);
    bounded = λ p h. answered_bounded a (own_read s r a p.memory) p h;
    lacking = λ p. answered_lacking Always Good Any Any a (own_read s r a p.memory) p (λ e. tt);
  }

  -- a write keeps the kinds of the operations: the one that it adds is of the kind of its address
  writes : (a : Address) (o : WriteOp) → kind_written o ≡ a.kind → Both (write_at (own_memory s) a o) (write_at (own_memory s) a o)
  writes a o k = record {
    back = λ p fine. tt;
    forth = λ p m with_it fine. (
      own_write a o m,
      (
        ap (own_write a o) with_it.0,
        each-push (λ w. kind_written w.1 ≡ w.0.kind) p.memory.operations (a, o) with_it.1 k,
      ),
      refl,
    );
    bounded = λ p h. h;
    lacking = λ p. tt;
  }

  -- so a whole body keeps them, since its reads and its writes do
  run_simulates : (b : Body) → Both (body_run (own_memory s) b) (body_run (own_memory s) b)
  run_simulates b = body_simulates Always Good Any Any (own_memory s) (own_memory s) reads writes b

  -- a run that is done has deltas of the kinds of their addresses
  abbrev Told : Ran → Type 0
  Told (need a) = Unit {0}
  Told (done r) = AreOfTheirKinds r.deltas

  -- a run that gives a result has the deltas of its operations, which are of their kinds; any other has none
  told_by : (u v : Step Own Names) → (Fine Always Good Any Any u → Along u v) → Told (ended u)
  told_by (gives x p) v sim = kinds-of-deltas p.memory.operations [] (sim tt).1.1 tt
  told_by (stopped (stop.Need a) p) v sim = tt
  told_by (stopped (stop.Fail x) p) v sim = tt
  told_by (stopped stop.Spent p) v sim = tt
  told_by (stopped stop.Big p) v sim = tt
  told_by (stopped stop.NoMemory p) v sim = tt

-- the deltas of a run that is done are of the kinds of their addresses
pub kinds-of-run : (b : Body) (s : PartialState) (r : Run) → exec b s ≡ done r → AreOfTheirKinds r.deltas
unfolding exec
kinds-of-run b s r e =
    subst (Told s) e (told_by s (own_run b s) (own_run b s) ((run_simulates s b).forth (begun nothing_yet) nothing_yet (refl, tt)))

-- ---- commits

-- so are those of a commit that is one of a run
pub kinds-of-commit : (commit : Commit) → IsOfRun commit → AreOfTheirKinds commit.deltas
kinds-of-commit commit of_run =
    subst AreOfTheirKinds (sym of_run.deltas) (kinds-of-run of_run.ran.body of_run.ran.values of_run.run of_run.ran.ran)

-- the delta at an address is of its kind
pub kind-at : (ds : Deltas) (a : Address) (d : Delta) → AreOfTheirKinds ds → delta_at ds a ≡ Some d → kind_changed d ≡ a.kind
kind-at [] a d all e = absurd (cc)
kind-at (pair ∷ ds) a d all e = by (kind-at ds a d all.1) (is_eq (address_cmp a pair.0)) refl e
  where
    by : (delta_at ds a ≡ Some d → kind_changed d ≡ a.kind) → (b : Bool) → is_eq (address_cmp a pair.0) ≡ b
        → cond b (Some pair.1) (delta_at ds a) ≡ Some d → kind_changed d ≡ a.kind
    by rest true is e =
        let same : pair.1 ≡ d = cc in
        ap kind_changed (sym same) ∙ all.0 ∙ ap (λ b. b.kind) (sym (address_cmp-equal a pair.0 (equal (address_cmp a pair.0) is)))
    by rest false is e = rest e

-- a journal with one commit more has kinds if that has
pub kinds-more : (journal : Journal) (commit : Commit) → HasKinds journal → AreOfTheirKinds commit.deltas → HasKinds (journal ++ commit ∷ [])
kinds-more journal commit all one = each-push (λ c. AreOfTheirKinds c.deltas) journal commit all one
