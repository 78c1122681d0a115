-- Doubly linked lists of keys by index: each spot knows the one behind it and the one before it.
use Rattle.std.specs.Prelude.{◌≡◌, ℕ, zero, suc, Bool, true, false, ◌&&◌, List, [], ◌∷◌, ◌++◌, if◌then◌else◌, nat_eq}
use Rattle.std.specs.Prelude.{is_some, slice_get, refl}
use Rattle.std.specs.List.{list_any}
use Rattle.std.specs.HashMap.{HashMap, get}
use Rattle.std.specs.Option.{unwrap_or}
use Rattle.edge_slab.specs.declared.chains.Spot.{Spot}
use Rattle.edge_slab.specs.declared.chains.Spot.TheVariants.{End, Key, Nowhere}
use Rattle.edge_slab.specs.declared.chains.Ties.{Ties}
use Rattle.edge_slab.specs.declared.chains.Chains.{Chains}
use Rattle.edge_slab.specs.Edges.{without}

-- ties to two spots
abbrev pub ties_to : Spot → Spot → Ties
ties_to next last = record { next = next; last = last }

-- a key in no list is tied to nowhere
abbrev pub nowhere : Ties
nowhere = ties_to Nowhere Nowhere

-- the end of a list without items is tied to itself
abbrev pub ends_of_none : ℕ → Ties
ends_of_none list = ties_to (End list) (End list)

-- the ties of a key
abbrev pub key_ties : List Ties → ℕ → Ties
key_ties ties key = unwrap_or (slice_get ties key) nowhere

-- the ties of a list's end: its first item is the next one, its last item the one before
abbrev pub end_ties : {S : Type 0} → HashMap ℕ Ties S → ℕ → Ties
end_ties ends list = unwrap_or (get nat_eq ends list) (ends_of_none list)

-- the ties of a spot
abbrev pub ties_of : Chains → Spot → Ties
ties_of chains (End list) = end_ties chains.ends list
ties_of chains (Key key) = key_ties chains.ties.items key
ties_of chains Nowhere = nowhere

-- the spot behind
abbrev pub next_of : Chains → Spot → Spot
next_of chains spot = (ties_of chains spot).next

-- the spot before
abbrev pub last_of : Chains → Spot → Spot
last_of chains spot = (ties_of chains spot).last

-- whether ties of a spot are kept, and so can be set
abbrev pub is_there : Chains → Spot → Bool
is_there chains (End list) = is_some (get nat_eq chains.ends list)
is_there chains (Key key) = is_some (slice_get chains.ties.items key)
is_there chains Nowhere = false

-- whether two spots are one
abbrev pub is_same : Spot → Spot → Bool
is_same (End list) (End other) = nat_eq list other
is_same (Key key) (Key other) = nat_eq key other
is_same Nowhere Nowhere = true
is_same _ _ = false

-- whether a spot is the end of a list
abbrev pub is_end_of : ℕ → Spot → Bool
is_end_of list spot = is_same (End list) spot

-- two spots are tied: each knows the other as its neighbour
pub record Tied (next last : Spot → Spot) (before behind : Spot) : Type 0 where
  pub forth : next before ≡ behind
  pub back : last behind ≡ before

-- from one spot over these keys to another, each spot is tied to the one behind it
abbrev pub Runs : (Spot → Spot) → (Spot → Spot) → Spot → List ℕ → Spot → Type 0
Runs next last from [] to = Tied next last from to
Runs next last from (key ∷ keys) to = Tied next last from (Key key) × Runs next last (Key key) keys to

-- each list goes from its end over its keys round to its end
abbrev pub AreChains : Chains → (ℕ → List ℕ) → Type 0
AreChains chains lists = (list : ℕ) → Runs (next_of chains) (last_of chains) (End list) (lists list) (End list)

-- a key can be put at the end of a list without memory
pub record IsReadyFor (chains : Chains) (list key : ℕ) : Type 0 where
  pub end_there : is_there chains (End list) ≡ true
  pub key_there : is_there chains (Key key) ≡ true

-- the same lists, with a key at the end of one
abbrev pub with_key : ℕ → ℕ → (ℕ → List ℕ) → ℕ → List ℕ
with_key list key lists other = if nat_eq other list then lists other ++ key ∷ [] else lists other

-- whatever lists they were, they are still
abbrev pub KeepsChains : Chains → Chains → Type 0
KeepsChains old new = (lists : ℕ → List ℕ) → AreChains old lists → AreChains new lists

-- a key that was in none of the lists is at the end of one
abbrev pub PushesKey : ℕ → ℕ → Chains → Chains → Type 0
PushesKey list key old new =
    (lists : ℕ → List ℕ) → AreChains old lists → ((n : ℕ) → list_any (nat_eq key) (lists n) ≡ false) → AreChains new (with_key list key lists)

-- a key that was in one of the lists is in none
abbrev pub TakesKey : ℕ → Chains → Chains → Type 0
TakesKey key old new =
    (lists : ℕ → List ℕ) (list : ℕ) → AreChains old lists → list_any (nat_eq key) (lists list) ≡ true → AreChains new (λ n. without key (lists n))

-- the ties of a spot are these now, where there are any, and all others are as before
abbrev pub SetsTies : Spot → Ties → Chains → Chains → Type 0
SetsTies spot ties old new = (q : Spot) → ties_of new q ≡ (if is_same spot q && is_there old spot then ties else ties_of old q)

-- two spots were tied to one another; their other neighbours, and all other spots, have the ties that they had
pub record IsTied (old : Chains) (before behind : Spot) (new : Chains) : Type 0 where
  pub forth : is_there old before ≡ true → next_of new before ≡ behind
  pub back : is_there old behind ≡ true → last_of new behind ≡ before
  pub nexts : (spot : Spot) → is_same before spot ≡ false → next_of new spot ≡ next_of old spot
  pub lasts : (spot : Spot) → is_same behind spot ≡ false → last_of new spot ≡ last_of old spot
  pub there : (spot : Spot) → is_there new spot ≡ is_there old spot

-- what a walk does at a spot: it ends where this is no key
abbrev pub at_key : Spot → (ℕ → List ℕ) → List ℕ
at_key (Key key) goes_on = goes_on key
at_key (End list) goes_on = []
at_key Nowhere goes_on = []

-- the keys of a walk from a spot, at most so many
abbrev pub walk_from : (Spot → Spot) → ℕ → Spot → List ℕ
walk_from next zero spot = []
walk_from next (suc most) spot = at_key spot (λ key. key ∷ walk_from next most (next (Key key)))

-- a walk of two keys
abbrev next_example : Spot → Spot
next_example (End list) = Key 4
next_example (Key key) = if nat_eq key 4 then Key 2 else End 0
next_example Nowhere = Nowhere

walk-example : walk_from next_example 5 (Key 4) ≡ 4 ∷ 2 ∷ []
walk-example = refl
