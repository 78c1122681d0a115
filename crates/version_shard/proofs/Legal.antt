-- Legal journals can be read change by change.
use Rattle.std.proofs.Common.{◌≡◌, ℕ, ◌==◌, nat_le, nat_lt, [], ◌∷◌, ◌++◌, fold, length, sym, subst, arith, length-append}
use Rattle.std.specs.List.{AllByRecursion}
use Rattle.std.specs.List.Sorted.{IsStrictlySortedBy}
use Rattle.std.specs.Map.{keys_of}
use Rattle.plain_data.proofs.Entries.{sorted-insert_entry}
use Rattle.plain_data.specs.Histories.{IsLawfulAfter}
use Rattle.rdt_types.specs.Addresses.{address_cmp}
use Rattle.rdt_types.specs.Shards.{shard_of}
use Rattle.rdt_types.specs.Deltas.{delta_of, kind_changed}
use Rattle.rdt_types.specs.DeltaMaps.{Deltas, delta_at, after_maybe, with_delta}
use Rattle.rdt_types.specs.contracts.address.AddressOrd.TheImpl.Laws as order
use Rattle.change_feed.specs.declared.change.Change.{Change}
use Rattle.change_feed.specs.Feeds.{AreOfTheirKinds}
use Rattle.txn_trees.specs.declared.statement.Body.{Body}
use Rattle.txn_lang.specs.declared.commit.Commit.{Commit}
use Rattle.txn_lang.specs.declared.progress.Stop.TheVariants as stop
use Rattle.txn_lang.specs.declared.run.Run.{Run}
use Rattle.txn_lang.specs.Own.{Operations}
use Rattle.txn_lang.specs.States.{Journal, PartialState, known, left_by}
use Rattle.txn_lang.specs.Items.{Names}
use Rattle.txn_lang.specs.Steps.{Step, stopped, gives}
use Rattle.txn_lang.specs.Execution.{Own, Ran, need, done, ended, own_run, exec}
use Rattle.txn_lang.specs.Journals.{MayFollow, IsRunAfter}
use Rattle.journal_core.specs.Changes.{changes_by, changes_of, changes, up_to, between}
use Rattle.journal_core.specs.Pairs.{AreNumberedFrom}
use Rattle.journal_core.proofs.Each.{each-filter, each-append}
use Rattle.version_shard.specs.Laws.{LegalIsReadable, TailsAreOfTheirKinds}
use Rattle.version_shard.proofs.Folding.{AreRising}

-- deltas stand by rising address
abbrev pub IsRising : Deltas → Type 0
IsRising deltas = IsStrictlySortedBy address_cmp (keys_of deltas)

-- ---- the deltas of a run rise

-- a delta goes in by the order of addresses, so the operations of a run leave deltas that rise
with-rises : (own : Operations) (deltas : Deltas) → IsRising deltas → IsRising (fold (λ ds w. with_delta ds w.0 (delta_of w.1)) deltas own)
with-rises [] deltas is = is
with-rises (w ∷ own) deltas is =
    with-rises own (with_delta deltas w.0 (delta_of w.1)) (sorted-insert_entry address_cmp order.total-law w.0
    (after_maybe (delta_at deltas w.0) (delta_of w.1)) deltas is)

-- the empty list of deltas rises
nothing-rises : IsRising []
unfolding IsStrictlySortedBy
nothing-rises = tt

-- a run that is done has deltas that rise
abbrev RanRises : Ran → Type 0
RanRises (need a) = Unit {0}
RanRises (done run) = IsRising run.deltas

-- a run that gives a result has the deltas of its operations, and any other that is done has none
ended-rises : (step : Step Own Names) → RanRises (ended step)
ended-rises (gives names p) = with-rises p.memory.operations [] nothing-rises
ended-rises (stopped (stop.Need a) p) = tt
ended-rises (stopped (stop.Fail t) p) = nothing-rises
ended-rises (stopped stop.Spent p) = nothing-rises
ended-rises (stopped _ p) = nothing-rises

-- so the deltas of each run rise
run-rises : (body : Body) (s : PartialState) (run : Run) → exec body s ≡ done run → IsRising run.deltas
unfolding exec
run-rises body s run e = subst RanRises e (ended-rises (own_run body s))

-- a commit has the deltas of its run
pub commit-rises : (before : Journal) (commit : Commit) → IsRunAfter before commit → IsRising commit.deltas
commit-rises before commit runs = subst IsRising (sym runs.deltas) (run-rises runs.body (known (left_by before)) runs.run runs.ran)

-- ---- a journal

-- a legal commit has the number behind those of the commits before it
pub legal-numbered : (before journal : Journal) → IsLawfulAfter MayFollow 0 before journal → AreNumberedFrom (length before) journal
legal-numbered before [] legal = tt
legal-numbered before (commit ∷ journal) legal =
    (legal.0.number, subst (λ (n : ℕ). AreNumberedFrom n journal) (length-append before (commit ∷ [])) (legal-numbered (before ++ commit ∷ []) journal legal.1))

-- each commit of a legal journal is one of a run, nothing being taken on trust, and so its deltas rise
legal-rising : (before journal : Journal) → IsLawfulAfter MayFollow 0 before journal → AreRising journal
legal-rising before [] legal = tt
legal-rising before (commit ∷ journal) legal =
    (commit-rises before commit (legal.0.runs (let n = legal.0.number in omega arith)), legal-rising (before ++ commit ∷ []) journal legal.1)

-- its commits are numbered from 1, and the deltas of each rise
pub legal-is-readable : LegalIsReadable
legal-is-readable journal legal = record { numbered = legal-numbered [] journal legal; rising = legal-rising [] journal legal }

-- ---- the kinds of a tail

-- the changes of a commit are of the kinds of its deltas
commit-kinds : (n : ℕ) (deltas : Deltas) → AllByRecursion (λ pair. kind_changed pair.1 ≡ pair.0.kind) deltas → AreOfTheirKinds (changes_by n deltas)
commit-kinds n [] all = tt
commit-kinds n (pair ∷ deltas) all = (all.0, commit-kinds n deltas all.1)

-- so all changes of a journal are, commit after commit
journal-kinds : (journal : Journal) → AllByRecursion (λ commit. AllByRecursion (λ pair. kind_changed pair.1 ≡ pair.0.kind) commit.deltas) journal
    → AreOfTheirKinds (changes journal)
journal-kinds [] all = tt
journal-kinds (commit ∷ rest) all =
    each-append (λ (change : Change). kind_changed change.delta ≡ change.address.kind) (changes_of commit) (changes rest)
    (commit-kinds commit.number commit.deltas all.0) (journal-kinds rest all.1)

-- the changes in a shard between two numbers are some of the journal's
pub tails-are-of-their-kinds : TailsAreOfTheirKinds
tails-are-of-their-kinds journal shards shard from to kinds =
    each-filter same (λ change. shard_of change.address shards == shard) (between from to (changes journal))
    (each-filter same (λ change. nat_lt from change.number) (up_to to (changes journal))
    (each-filter same (λ change. nat_le change.number to) (changes journal) (journal-kinds journal kinds)))
  where
    same : Change → Type 0
    same change = kind_changed change.delta ≡ change.address.kind
