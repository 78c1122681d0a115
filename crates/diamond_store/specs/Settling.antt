-- What the journal decides of what is handed to it.
use Rattle.std.specs.Prelude.{◌≡◌, ℕ, ◌+◌, ◌<◌, ◌≤◌, [], ◌∷◌, ◌++◌, length, Some, None}
use Rattle.std.specs.List.{AllByRecursion}
use Rattle.dio_core.specs.Counts.{Rose}
use Rattle.abort_witness.specs.declared.witness.Found.{Found}
use Rattle.abort_witness.specs.declared.witness.Witness.{Witness}
use Rattle.abort_witness.specs.Kinds.{IsBasedOfOneKind, IsOfOneKind}
use Rattle.abort_witness.specs.Pairs.{HavePlaces}
use Rattle.txn_lang.specs.declared.commit.Commit.{Commit}
use Rattle.txn_lang.specs.States.{Journal}
use Rattle.txn_lang.specs.Journals.{own}
use Rattle.journal_core.specs.declared.ready.Ready.{Ready}
use Rattle.journal_core.specs.Bodies.{IsBodyText}
use Rattle.journal_core.specs.Holds.{bars, observed_alone}
use Rattle.journal_core.specs.Journals.{Standing, with_commit}
use Rattle.journal_core.specs.Pairs.{least_pair, past_fronts}
use Rattle.journal_core.specs.Readies.{IsRunOf, made_of}
use Rattle.journal_core.specs.Witnesses.{IsWitnessOf}
use Rattle.diamond_store.specs.declared.decision.Decision.{Decision}
use Rattle.diamond_store.specs.declared.decision.Decision.TheVariants as decision

-- no commit past the prepared fronts clashes with what was observed
abbrev pub IsClear : ℕ → Ready → Journal → Type 0
IsClear shards ready journal = least_pair (past_fronts shards ready.fronts ready.based) journal ≡ None

-- the witness is of the least pair past the prepared fronts
pub record IsClashPast (shards : ℕ) (ready : Ready) (journal : Journal) (witness : Witness) : Type 0 where
  pub found : Found
  pub least : least_pair (past_fronts shards ready.fronts ready.based) journal ≡ Some found
  pub names : IsWitnessOf ready.based journal found witness
  pub kinds : IsOfOneKind witness

-- no live hold of another client bars what was handed on; the first so many commits are no holds
abbrev pub IsUnbarred : ℕ → Ready → Journal → Type 0
IsUnbarred from ready journal = bars from journal ready.client ready.run.deltas ≡ None

-- What a journal of so many shards and this limit decides, and leaves, that was made with so many commits. The tests stand in the
-- order clash, held, full, denied.
abbrev pub Settles : ℕ → ℕ → ℕ → Ready → Journal → Decision → Journal → Type 0
Settles from shards limit ready old (decision.Number number) new =
    IsClear shards ready old
    × IsUnbarred from ready old
    × (number ≡ length old + 1)
    × (new ≡ old ++ made_of old ready ∷ [])
    × (length old < limit)
Settles from shards limit ready old (decision.Clash witness) new = IsClashPast shards ready old witness × (new ≡ old)
Settles from shards limit ready old (decision.Held barred) new =
    IsClear shards ready old × (bars from old ready.client ready.run.deltas ≡ Some barred) × (new ≡ old)
Settles from shards limit ready old (decision.Full told) new =
    IsClear shards ready old × IsUnbarred from ready old × (told ≡ limit) × (limit ≤ length old) × (new ≡ old)
Settles from shards limit ready old decision.Denied new =
    IsClear shards ready old × IsUnbarred from ready old × (new ≡ old) × (length old < limit)

-- a denial is a fault of the keeper, which is counted, and nothing else is
abbrev pub CountsFaults : Decision → ℕ → ℕ → Type 0
CountsFaults decision.Denied old new = Rose old new
CountsFaults other old new = new ≡ old

-- The journal decided so, and has its settings and its home still.
pub record HasSettled (from : ℕ) (ready : Ready) (old : Standing) (decision : Decision) (new : Standing) : Type 0 where
  pub shards : new.shards ≡ old.shards
  pub limit : new.limit ≡ old.limit
  pub home : new.home ≡ old.home
  pub settles : Settles from old.shards old.limit ready old.commits decision new.commits
  pub counts : CountsFaults decision old.faults new.faults

-- What is decided, and left, where nothing clashes and nothing bars: the commit is added below the limit, unless the keeper fails.
abbrev pub AddsOne : Commit → Standing → Decision → Standing → Type 0
AddsOne commit old (decision.Number number) new = (length old.commits < old.limit) × (number ≡ commit.number) × (new ≡ with_commit old commit)
AddsOne commit old (decision.Full limit) new = (limit ≡ old.limit) × (old.limit ≤ length old.commits) × (new ≡ old)
AddsOne commit old decision.Denied new = (length old.commits < old.limit) × Rose old.faults new.faults × (new ≡ record old { faults = new.faults })
AddsOne commit old other new = ⊥

-- Only the memory of the journal may have changed.
pub record IsAsBefore (old new : Standing) : Type 0 where
  pub shards : new.shards ≡ old.shards
  pub limit : new.limit ≡ old.limit
  pub commits : new.commits ≡ old.commits
  pub faults : new.faults ≡ old.faults
  pub home : new.home ≡ old.home

-- What is handed on is a run's, with its body's text as it is kept, as the next of its client, and each observation is of its
-- address' kind. Where nothing clashes the run has observed what its body observes on what the journal leaves.
pub record CanSettle (shards : ℕ) (ready : Ready) (journal : Journal) : Type 0 where
  pub run : IsRunOf ready.body ready.run
  pub body_text : IsBodyText ready.body
  pub next : ready.seq ≡ length (own ready.client journal) + 1
  pub kinds : AllByRecursion IsBasedOfOneKind ready.based
  pub few : HavePlaces ready.based
  pub observed : IsClear shards ready journal → observed_alone journal (made_of journal ready) ≡ ready.run.observations

-- where the answer is that the disk denied it, this holds
abbrev pub IfDenied : Decision → Type 0 → Type 0
IfDenied decision.Denied P = P
IfDenied other P = Unit {0}
