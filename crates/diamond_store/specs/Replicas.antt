-- What stands behind the lock of a shard.
use Rattle.std.specs.Prelude.{◌≡◌, ℕ, ◌≤◌, List, length, take}
use Rattle.txn_lang.specs.States.{Journal}
use Rattle.version_shard.specs.Shards.{Sharded}
use Rattle.version_shard.specs.Standing.{Holds}
use Rattle.diamond_store.specs.Numbers.{shards_in, window_in}

-- The shard has its number and the store's settings, and holds the first commits of a journal, as many as its front says.
pub record Replicates (numbers : List ℕ) (journal : Journal) (place : ℕ) (shard : Sharded) : Type 0 where
  pub number : shard.number ≡ place
  pub shards : shard.shards ≡ shards_in numbers
  pub window : shard.window ≡ window_in numbers
  pub reached : shard.front ≤ length journal
  pub holds : Holds (take shard.front journal) shard
