-- Serializability, without any code. The journal is a serial order: each commit has the outcome and the writes that its body
-- has when it runs alone on what the commits before it leave, though it ran earlier, on values that it read at fronts of
-- their own. These are the laws by which this is so.
use Rattle.std.specs.Prelude.{◌≡◌, ℕ, Bool, true, false, List, [], ◌∷◌, ◌++◌, Some, codes, refl}
use Rattle.std.specs.List.{list_any, AllByRecursion}
use Rattle.std.specs.BTreeMap.{is_at}
use Rattle.rdt_types.specs.declared.address.Kind.TheVariants as kind
use Rattle.rdt_types.specs.declared.address.Address.{Address}
use Rattle.rdt_types.specs.Addresses.{address_cmp}
use Rattle.conflict_table.specs.declared.observation.Obs.TheVariants as obs
use Rattle.txn_lang.specs.declared.run.Run.{Run}
use Rattle.txn_lang.specs.declared.run.Seen.{Seen}
use Rattle.txn_lang.specs.declared.snaps.Snap.{Snap}
use Rattle.txn_lang.specs.States.{Journal, known, left_by, x_at}
use Rattle.txn_lang.specs.Execution.{done, exec}
use Rattle.txn_lang.specs.Journals.{IsLegal, commit_of}
use Rattle.txn_lang.specs.Tree.{tree}
pub use Rattle.journal_core.specs.Kinds.{AreOfTheirKinds}
use Rattle.journal_core.specs.Pairs.{pairs, past_fronts, AreNumbered}
use Rattle.docc_prepare.specs.declared.attempt.Attempt.{Attempt}
use Rattle.docc_prepare.specs.Attempts.{ran, based, Fits}

-- A journal that is read commit by commit: they are numbered from 1, and their deltas are of the kinds of their addresses.
pub record IsOrderly (journal : Journal) : Type 0 where
  pub numbered : AreNumbered journal
  pub kinds : AllByRecursion (λ commit. AreOfTheirKinds commit.deltas) journal

-- A legal journal of which nothing is taken on trust is orderly.
abbrev pub LegalIsOrderly : Type 0
LegalIsOrderly = (journal : Journal) → IsLegal 0 journal → IsOrderly journal

-- What fits a journal fits it when it has grown.
abbrev pub FitsStays : Type 0
FitsStays = (journal later : Journal) (attempt : Attempt) → Fits journal attempt → Fits (journal ++ later) attempt

-- whether something was observed at an address
abbrev pub is_observed : List Seen → Address → Bool
is_observed seen address = list_any (λ z. is_at (address_cmp address) z.address) seen

-- Nothing is read in vain: what was read for a run that is done stands at addresses that the run observed.
abbrev pub ReadsAreObserved : Type 0
ReadsAreObserved = (journal : Journal) (attempt : Attempt) (run : Run) → Fits journal attempt → ran attempt ≡ done run
    → AllByRecursion (λ (read : Address × Snap). is_observed run.observations read.0 ≡ true) attempt.snaps

-- An attempt has run, and no commit of the journal clashes with what it observed, past the bases of that.
pub record RanUndisturbed (journal : Journal) (attempt : Attempt) (run : Run) : Type 0 where
  pub fits : Fits journal attempt
  pub runs : ran attempt ≡ done run
  pub undisturbed : pairs (based attempt.snaps run.observations) journal ≡ []

-- The heart: such an attempt runs on what the whole journal leaves exactly as it ran on what it read.
abbrev pub RunsAsItRan : Type 0
RunsAsItRan =
    (journal : Journal) (attempt : Attempt) (run : Run) → IsOrderly journal → RanUndisturbed journal attempt run
    → exec attempt.body.body (known (left_by journal)) ≡ done run

-- So its commit may follow the journal: the journal's order stays a serial order with the same outcomes.
abbrev pub AppendingStaysLegal : Type 0
AppendingStaysLegal =
    (m client : ℕ) (journal : Journal) (attempt : Attempt) (run : Run) → tree attempt.body.source ≡ Some attempt.body.body
    → IsOrderly journal → IsLegal m journal → RanUndisturbed journal attempt run
    → IsLegal m (journal ++ commit_of journal client attempt.body.source run ∷ [])

-- What was prepared need not be looked at again: to look past the fronts alone is to look at all pairs.
abbrev pub FrontsSpareNoPair : Type 0
FrontsSpareNoPair =
    (journal : Journal) (attempt : Attempt) (run : Run) → AreNumbered journal → Fits journal attempt → ran attempt ≡ done run
    → pairs (past_fronts attempt.shards attempt.fronts (based attempt.snaps run.observations)) journal
    ≡ pairs (based attempt.snaps run.observations) journal

-- ---- worked lines

-- who observed the counter x
abbrev saw_x : List Seen
saw_x = record { address = x_at; obs = obs.CounterIs } ∷ []

is_observed-example : is_observed saw_x x_at ≡ true
is_observed-example = refl

-- has observed no other counter
is_observed-other : is_observed saw_x (record { kind = kind.Counter; key = codes "y" }) ≡ false
is_observed-other = refl
