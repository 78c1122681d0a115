-- Changes kept by shard: the list at a place has those in the shard of that number, in the journal's order. What a place
-- past the lists has is nothing. `keeps-more` of proofs/ByShard ties the lists to `of_shard` of a journal's `changes`
-- (specs/Changes), and `first_clash-in_shard` and `of_address-in_shard` there say that the list of a shard is enough.
use Rattle.std.specs.Prelude.{◌≡◌, ◌≢◌, ℕ, ◌+◌, ◌<◌, ◌≤◌, List, [], ◌∷◌, ◌++◌, length, get_or}
use Rattle.change_feed.specs.declared.change.Change.{Change}
use Rattle.journal_core.specs.Changes.{of_shard}

-- the changes at a place
abbrev pub list_at : List (List Change × ℕ) → ℕ → List Change
list_at lists place = (get_or lists place ([], 0)).0

-- for how many more there is memory at a place
abbrev pub room_at : List (List Change × ℕ) → ℕ → ℕ
room_at lists place = (get_or lists place ([], 0)).1

-- there is memory for so many more in each list
abbrev pub HasRoom : ℕ → List (List Change × ℕ) → Type 0
HasRoom room lists = (place : ℕ) → place < length lists → room ≤ room_at lists place

-- these changes, by so many shards
pub record AreByShard (shards : ℕ) (all : List Change) (lists : List (List Change × ℕ)) : Type 0 where
  pub as_many : length lists ≡ shards
  pub theirs : (shard : ℕ) → list_at lists shard ≡ of_shard shards shard all

-- the same lists, with as much memory or more
pub record HasGrown (old new : List (List Change × ℕ)) : Type 0 where
  pub as_many : length new ≡ length old
  pub same : (place : ℕ) → list_at new place ≡ list_at old place
  pub kept : (place : ℕ) → room_at old place ≤ room_at new place

-- the same lists, with one change more at a place
pub record HasPut (at : ℕ) (change : Change) (old new : List (List Change × ℕ)) : Type 0 where
  pub as_many : length new ≡ length old
  pub put : list_at new at ≡ list_at old at ++ change ∷ []
  pub same : (place : ℕ) → place ≢ at → list_at new place ≡ list_at old place
  pub room : (place : ℕ) → room_at old place ≤ room_at new place + 1

-- the same lists, with these changes more, each in its shard
pub record HasAdded (shards : ℕ) (more : List Change) (old new : List (List Change × ℕ)) : Type 0 where
  pub as_many : length new ≡ length old
  pub added : (shard : ℕ) → list_at new shard ≡ list_at old shard ++ of_shard shards shard more
