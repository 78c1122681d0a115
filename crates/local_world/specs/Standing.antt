-- What the parts of a world stand for: its journal.
use Rattle.std.specs.Prelude.{◌≡◌, ℕ, ◌≤◌, ◌<◌, ◌==◌, Bool, ◌&&◌, if◌then◌else◌, max, List, length, take, map, slice_get, get_or, set, Some, IsSome}
use Rattle.std.specs.BTreeMap.{is_at}
use Rattle.rdt_types.specs.declared.address.Address.{Address}
use Rattle.rdt_types.specs.Addresses.{address_cmp}
use Rattle.rdt_types.specs.Shards.{shard_of}
use Rattle.rdt_types.specs.declared.settings.Settings.{Settings}
use Rattle.txn_lang.specs.States.{Journal}
use Rattle.journal_core.specs.Changes.{changes, up_to}
use Rattle.journal_core.specs.Journals.{Standing}
use Rattle.hold_core.specs.Books.{Holding, book_of}
use Rattle.version_shard.specs.Shards.{Sharded}
use Rattle.version_shard.specs.Standing.{Holds}
use Rattle.change_feed.specs.Feeds.{Fed}
use Rattle.reactive_registry.specs.Registered.{Registered, kept_of, is_subscribed}
use Rattle.reactive_registry.specs.Standing.{StandsFor}
use Rattle.docc_prepare.specs.declared.limits.TheConstants.{CLIENTS}
use Rattle.docc_prepare.specs.Stores.{IsSound, feed_for}
use Rattle.local_world.specs.Stored.{Stored, store_of}

-- A shard has its number and the settings, and holds the journal's commits up to its front.
pub record IsHeld (journal : Journal) (settings : Settings) (place : ℕ) (shard : Sharded) : Type 0 where
  pub number : shard.number ≡ place
  pub shards : shard.shards ≡ settings.shards
  pub window : shard.window ≡ settings.window
  pub reached : shard.front ≤ length journal
  pub holds : Holds (take shard.front journal) shard

-- and so do so many shards
pub record AreHeldTo (journal : Journal) (settings : Settings) (count : ℕ) (shards : List Sharded) : Type 0 where
  pub as_many : length shards ≡ count
  pub each : (place : ℕ) (shard : Sharded) → slice_get shards place ≡ Some shard → IsHeld journal settings place shard

-- as many as the settings say
abbrev pub AreHeld : Journal → Settings → List Sharded → Type 0
AreHeld journal settings shards = AreHeldTo journal settings settings.shards shards

-- the fronts of shards
abbrev pub fronts_of : List Sharded → List ℕ
fronts_of shards = map (λ shard. shard.front) shards

-- the front of an address' shard once that has followed to a number, where it was behind it
abbrev pub front_to : Settings → List Sharded → Address → ℕ → ℕ
front_to settings shards address number = max (get_or (fronts_of shards) (shard_of address settings.shards) 0) number

-- and the fronts of all then
abbrev pub fronts_to : Settings → List Sharded → Address → ℕ → List ℕ
fronts_to settings shards address number =
    set (fronts_of shards) (shard_of address settings.shards) (front_to settings shards address number)

-- no front has fallen, and none is past the journal's end
pub record HaveRisen (journal : Journal) (old new : List ℕ) : Type 0 where
  pub as_many : length new ≡ length old
  pub risen : (place : ℕ) → get_or old place 0 ≤ get_or new place 0
  pub reached : (place : ℕ) → get_or new place 0 ≤ length journal

-- A registry stands for the journal's changes up to its front, and every client is entered.
pub record IsFollowing (journal : Journal) (registry : Registered) : Type 0 where
  pub reached : registry.front ≤ length journal
  pub stands : StandsFor (up_to registry.front (changes journal)) registry
  pub entered : (client : ℕ) → client < CLIENTS → IsSome (kept_of registry client)

-- who is told of what, once that is settled of one client and one address: the other pairs are as before
abbrev pub with_told : Registered → ℕ → Address → Bool → ℕ → Address → Bool
with_told registry client address told c a =
    if c == client && is_at (address_cmp address) a then told else is_subscribed registry c a

-- A feed is what the store of this journal and registry has for a client.
abbrev pub IsFedBy : Journal → Registered → ℕ → Fed → Type 0
IsFedBy journal registry client feed = (s : Stored) → s.journal ≡ journal → s.registry ≡ registry → feed ≡ feed_for (store_of s) client

-- a world of these parts
abbrev pub stored : Settings → Journal → List Sharded → List ℕ → Registered → Stored
stored settings journal shards seens registry = record {
  shards = settings.shards;
  window = settings.window;
  limit = settings.limit;
  journal = journal;
  fronts = fronts_of shards;
  seens = seens;
  registry = registry;
}

-- The store is sound, and the parts of the world stand for its journal.
pub record IsKept (settings : Settings) (standing : Standing) (shards : List Sharded) (seens : List ℕ) (registry : Registered) (book : Holding) : Type 0 where
  pub sound : IsSound (store_of (stored settings standing.commits shards seens registry))
  pub all_shards : standing.shards ≡ settings.shards
  pub limit_is : standing.limit ≡ settings.limit
  pub held : AreHeld standing.commits settings shards
  pub following : IsFollowing standing.commits registry
  -- every commit was run, so the book has the holds of the whole journal
  pub book_is : book ≡ book_of 0 standing.commits
