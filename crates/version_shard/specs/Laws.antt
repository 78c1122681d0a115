-- The laws by which a journal can be followed.
use Rattle.std.specs.Prelude.{◌≡◌, ℕ, []}
use Rattle.std.specs.List.{AllByRecursion}
use Rattle.rdt_types.specs.Deltas.{kind_changed}
use Rattle.change_feed.specs.Feeds.{AreOfTheirKinds}
use Rattle.txn_lang.specs.States.{Journal}
use Rattle.txn_lang.specs.Journals.{IsLegal}
use Rattle.journal_core.specs.Changes.{changes, between, of_shard}
use Rattle.version_shard.specs.Standing.{IsReadable, Holds, empty}

-- A legal journal of which nothing is taken on trust can be read change by change.
abbrev pub LegalIsReadable : Type 0
LegalIsReadable = (journal : Journal) → IsLegal 0 journal → IsReadable journal

-- Where each delta of a journal is of the kind of its address, so is each of its changes in a shard between two numbers.
abbrev pub TailsAreOfTheirKinds : Type 0
TailsAreOfTheirKinds =
    (journal : Journal) (shards shard from to : ℕ) → AllByRecursion (λ commit. AllByRecursion (λ pair. kind_changed pair.1 ≡ pair.0.kind) commit.deltas) journal
    → AreOfTheirKinds (of_shard shards shard (between from to (changes journal)))

-- A shard that has followed nothing stands for the journal without commits.
abbrev pub EmptyHoldsNothing : Type 0
EmptyHoldsNothing = (number shards window : ℕ) → Holds [] (empty number shards window)
