-- The walks are exactly the pairs that were linked and not unlinked, in the order of linking: each call keeps it so.
use Rattle.std.specs.Prelude.{◌≡◌, ℕ, Bool, not, ◌&&◌, List, [], ◌∷◌, ◌++◌, filter, if◌then◌else◌, nat_eq, refl}
use Rattle.std.specs.List.{list_any}
use Rattle.edge_slab.specs.Edges.{Edges, subscribers_at, places_of, is_linked, across, IsLinked, IsUnlinked, IsDropped}

-- a subscriber and a place
pub record Pair : Type 0 where
  pub subscriber : ℕ
  pub place : ℕ

-- the pair of two numbers
abbrev pub pair_of : ℕ → ℕ → Pair
pair_of subscriber place = record { subscriber = subscriber; place = place }

-- whether it is this pair
abbrev pub is_pair : ℕ → ℕ → Pair → Bool
is_pair subscriber place pair = nat_eq subscriber pair.subscriber && nat_eq place pair.place

-- These pairs are linked, in this order: each walk gives those of its place, or of its subscriber.
pub record AreWalks (edges : Edges) (pairs : List Pair) : Type 0 where
  pub at_place : (place : ℕ) → subscribers_at edges place ≡ across (λ pair. pair.place) (λ pair. pair.subscriber) place pairs
  pub of_subscriber : (subscriber : ℕ)
      → places_of edges subscriber ≡ across (λ pair. pair.subscriber) (λ pair. pair.place) subscriber pairs

-- a pair is linked behind all others, unless it is linked
abbrev pub with_pair : ℕ → ℕ → List Pair → List Pair
with_pair subscriber place pairs =
    if list_any (is_pair subscriber place) pairs then pairs else pairs ++ pair_of subscriber place ∷ []

-- a pair is linked no longer
abbrev pub without_pair : ℕ → ℕ → List Pair → List Pair
without_pair subscriber place pairs = filter (λ pair. not (is_pair subscriber place pair)) pairs

-- nor is any pair of a subscriber
abbrev pub without_subscriber : ℕ → List Pair → List Pair
without_subscriber subscriber pairs = filter (λ pair. not (nat_eq subscriber pair.subscriber)) pairs

-- One that links a pair keeps the order of all others.
abbrev pub LinksKeepOrder : Type 0
LinksKeepOrder =
    (pairs : List Pair) (old new : Edges) (subscriber place : ℕ) → AreWalks old pairs
    → IsLinked (not (is_linked old subscriber place)) old subscriber place new → AreWalks new (with_pair subscriber place pairs)

-- So does one that unlinks a pair.
abbrev pub UnlinksKeepOrder : Type 0
UnlinksKeepOrder =
    (pairs : List Pair) (old new : Edges) (subscriber place : ℕ) → AreWalks old pairs → IsUnlinked old subscriber place new
    → AreWalks new (without_pair subscriber place pairs)

-- So does one that drops a subscriber.
abbrev pub DropsKeepOrder : Type 0
DropsKeepOrder =
    (pairs : List Pair) (old new : Edges) (subscriber : ℕ) → AreWalks old pairs → IsDropped old subscriber new
    → AreWalks new (without_subscriber subscriber pairs)

-- what is linked again after it was unlinked stands last
relinked-example : with_pair 1 7 (without_pair 1 7 (with_pair 2 7 (with_pair 1 7 []))) ≡ pair_of 2 7 ∷ pair_of 1 7 ∷ []
relinked-example = refl

-- what is linked already stays where it is
linked-example : with_pair 1 7 (with_pair 2 7 (with_pair 1 7 [])) ≡ pair_of 1 7 ∷ pair_of 2 7 ∷ []
linked-example = refl

dropped-example : without_subscriber 1 (with_pair 1 8 (with_pair 2 7 (with_pair 1 7 []))) ≡ pair_of 2 7 ∷ []
dropped-example = refl
