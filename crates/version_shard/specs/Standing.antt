-- What a shard stands for: a journal.
use Rattle.std.specs.Prelude.{◌≡◌, ℕ, ◌≤◌, [], length, take}
use Rattle.std.specs.List.{AllByRecursion}
use Rattle.std.specs.List.Sorted.{IsStrictlySortedBy}
use Rattle.std.specs.Map.{keys_of}
use Rattle.rdt_types.specs.declared.address.Address.{Address}
use Rattle.rdt_types.specs.declared.settings.Settings.{Settings}
use Rattle.rdt_types.specs.Addresses.{address_cmp}
use Rattle.journal_core.specs.Changes as journals
use Rattle.journal_core.specs.Changes.{changes, between, of_shard, of_address}
use Rattle.change_feed.specs.declared.tail.Tail.{Tail}
use Rattle.journal_core.specs.Pairs.{AreNumbered}
use Rattle.journal_core.specs.Tails.{HasAll}
use Rattle.txn_lang.specs.States.{Journal, state}
use Rattle.version_shard.specs.Shards.{Sharded, IsIn, horizon, value_at, changes_past}

-- A journal whose changes can be read one by one: its commits are numbered from 1, and each changes an address once at most,
-- since its deltas stand by rising address.
pub record IsReadable (journal : Journal) : Type 0 where
  pub numbered : AreNumbered journal
  pub rising : AllByRecursion (λ commit. IsStrictlySortedBy address_cmp (keys_of commit.deltas)) journal

-- A shard stands for a journal whose length is its front. At each address in the shard and each number from the horizon on
-- it has the value that so many commits of the journal leave, and past that number exactly the journal's changes there.
pub record Holds (journal : Journal) (shard : Sharded) : Type 0 where
  pub readable : IsReadable journal
  pub front : length journal ≡ shard.front
  pub values : (address : Address) (number : ℕ) → IsIn shard address → horizon shard ≤ number
      → value_at shard address number ≡ state journal number address
  pub changes : (address : Address) (number : ℕ) → IsIn shard address → horizon shard ≤ number
      → changes_past shard address number ≡ of_address address (journals.past number (changes journal))

-- A tail is what comes next for a shard in a journal: all changes in the shard past its front and up to where the tail goes.
pub record IsNext (journal : Journal) (shard : Sharded) (tail : Tail) : Type 0 where
  pub readable : IsReadable journal
  pub within : tail.to ≤ length journal
  pub exact : HasAll shard.front tail.to (of_shard shard.shards shard.number (between shard.front tail.to (changes journal))) tail

-- a shard stands for the first commits of a journal, as many as its front says
abbrev pub HoldsSoFar : Journal → Sharded → Type 0
HoldsSoFar journal shard = Holds (take shard.front journal) shard

-- a fact of each journal that a shard stands for
abbrev pub InEach : Sharded → (Journal → Type 0) → Type 0
InEach shard Fact = (journal : Journal) → Holds journal shard → Fact journal

-- a shard that has followed up to a front: it is the one that it was, but for the front and what it keeps
abbrev pub HasReached : ℕ → Sharded → Sharded → Type 0
HasReached front old new = new ≡ record old { front = front; kept = new.kept }

-- it went on standing for the first commits of each journal in which a tail comes next for it
abbrev pub GoesOn : Tail → Sharded → Sharded → Type 0
GoesOn tail old new = (journal : Journal) → IsNext journal old tail → HoldsSoFar journal old → HoldsSoFar journal new

-- it stands for the first commits of each journal in which a tail comes first, up to where the tail goes
abbrev pub StandsBehind : Tail → Sharded → Sharded → Type 0
StandsBehind tail begun shard = (journal : Journal) → IsNext journal begun tail → Holds (take tail.to journal) shard

-- a shard that has followed nothing
abbrev pub empty : ℕ → ℕ → ℕ → Sharded
empty number shards window = record { number = number; shards = shards; window = window; front = 0; kept = [] }

-- the one of a number that settings say
abbrev pub empty_by : ℕ → Settings → Sharded
empty_by number settings = empty number settings.shards settings.window
