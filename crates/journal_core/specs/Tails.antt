-- Tails of a journal.
use Rattle.std.specs.Prelude.{◌≡◌, ℕ, List}
use Rattle.change_feed.specs.declared.change.Change.{Change}
use Rattle.change_feed.specs.declared.tail.Tail.{Tail}
use Rattle.rdt_types.specs.declared.address.Address.{Address}
use Rattle.txn_lang.specs.States.{Journal}
use Rattle.journal_core.specs.declared.lent.LentTail.{LentTail}
use Rattle.journal_core.specs.Changes.{between_in, between_at}

-- the tail goes from one number to another, and has exactly these changes
pub record HasAll (first last : ℕ) (all : List Change) (tail : Tail) : Type 0 where
  pub begins : tail.from ≡ first
  pub ends : tail.to ≡ last
  pub exact : tail.changes ≡ all

-- what is lent is a tail
abbrev pub tail_of : LentTail → Tail
tail_of lent = record { from = lent.from; to = lent.to; changes = lent.changes.now; in_order = lent.in_order }

-- it has a journal's changes in a shard
abbrev pub HasAllIn : ℕ → ℕ → ℕ → ℕ → Journal → Tail → Type 0
HasAllIn shards shard first last journal tail = HasAll first last (between_in shards shard first last journal) tail

-- or those at an address
abbrev pub HasAllAt : Address → ℕ → ℕ → Journal → Tail → Type 0
HasAllAt address first last journal tail = HasAll first last (between_at address first last journal) tail
