-- What a slab of edges holds: who is linked to what.
use Rattle.std.specs.Prelude.{◌≡◌, ℕ, Bool, not, ◌&&◌, List, [], ◌∷◌, ◌++◌, map, filter, if◌then◌else◌, nat_eq, refl}
use Rattle.std.specs.Coded.{Coded, code_by, coded×, coded_list, coded_ℕ}
use Rattle.std.specs.List.{list_any}
use Rattle.std.specs.Map.{lookup}
use Rattle.std.specs.Option.{unwrap_or}

-- of each place that has any its subscribers, and of each subscriber that has any its places, each in the order of linking
pub record Edges : Type 0 where
  pub at_place : List (ℕ × List ℕ)
  pub of_subscriber : List (ℕ × List ℕ)

-- they are stored as the pair of the two
abbrev pub edges_code : Coded Edges
edges_code =
    code_by (List (ℕ × List ℕ) × List (ℕ × List ℕ))
    (coded× (coded_list (coded× coded_ℕ (coded_list coded_ℕ))) (coded_list (coded× coded_ℕ (coded_list coded_ℕ))))
    (λ e. (e.at_place, e.of_subscriber)) (λ p. record { at_place = p.0; of_subscriber = p.1 }) (λ _. refl)

-- the list under a number; none is empty
abbrev pub list_under : ℕ → List (ℕ × List ℕ) → List ℕ
list_under number lists = unwrap_or (lookup (nat_eq number) lists) []

-- the subscribers of a place, in the order of linking
abbrev pub subscribers_at : Edges → ℕ → List ℕ
subscribers_at edges place = list_under place edges.at_place

-- the places of a subscriber, in the order of linking
abbrev pub places_of : Edges → ℕ → List ℕ
places_of edges subscriber = list_under subscriber edges.of_subscriber

-- whether a number is in a list
abbrev pub is_in : ℕ → List ℕ → Bool
is_in n ns = list_any (nat_eq n) ns

-- whether a subscriber is linked to a place
abbrev pub is_linked : Edges → ℕ → ℕ → Bool
is_linked edges subscriber place = is_in subscriber (subscribers_at edges place)

-- a list without a number
abbrev pub without : ℕ → List ℕ → List ℕ
without n ns = filter (λ m. not (nat_eq n m)) ns

-- of some things those that have a number on one side
abbrev pub those : {X : Type 0} → (X → ℕ) → ℕ → List X → List X
those side number all = filter (λ x. nat_eq number (side x)) all

-- and what they have on another side
abbrev pub across : {X : Type 0} → (X → ℕ) → (X → ℕ) → ℕ → List X → List ℕ
across side other number all = map other (those side number all)

-- ---- what calls do

-- nothing changes in either direction
pub record SameEdges (old new : Edges) : Type 0 where
  pub at_place : (place : ℕ) → subscribers_at new place ≡ subscribers_at old place
  pub of_subscriber : (subscriber : ℕ) → places_of new subscriber ≡ places_of old subscriber

-- where it is new, a pair is linked last in both directions; nothing else changes
pub record IsLinked (new_pair : Bool) (old : Edges) (subscriber place : ℕ) (new : Edges) : Type 0 where
  pub at_place : (p : ℕ) → subscribers_at new p
      ≡ (if new_pair && nat_eq p place then subscribers_at old p ++ subscriber ∷ [] else subscribers_at old p)
  pub of_subscriber : (s : ℕ) → places_of new s
      ≡ (if new_pair && nat_eq s subscriber then places_of old s ++ place ∷ [] else places_of old s)

-- a pair is taken out of both directions; nothing else changes
pub record IsUnlinked (old : Edges) (subscriber place : ℕ) (new : Edges) : Type 0 where
  pub at_place : (p : ℕ) → subscribers_at new p
      ≡ (if nat_eq p place then without subscriber (subscribers_at old p) else subscribers_at old p)
  pub of_subscriber : (s : ℕ) → places_of new s
      ≡ (if nat_eq s subscriber then without place (places_of old s) else places_of old s)

-- all pairs of a subscriber are taken out of both directions; nothing else changes
pub record IsDropped (old : Edges) (subscriber : ℕ) (new : Edges) : Type 0 where
  pub at_place : (p : ℕ) → subscribers_at new p ≡ without subscriber (subscribers_at old p)
  pub of_subscriber : (s : ℕ) → places_of new s ≡ (if nat_eq s subscriber then [] else places_of old s)

-- subscribers 1 and 2 at place 7, and 1 at place 8, linked in this order
abbrev three : Edges
three = record { at_place = (7, 1 ∷ 2 ∷ []) ∷ (8, 1 ∷ []) ∷ []; of_subscriber = (1, 7 ∷ 8 ∷ []) ∷ (2, 7 ∷ []) ∷ [] }

subscribers-example : subscribers_at three 7 ≡ 1 ∷ 2 ∷ []
subscribers-example = refl

places-example : places_of three 1 ≡ 7 ∷ 8 ∷ []
places-example = refl

-- nobody is at place 9
nobody-example : subscribers_at three 9 ≡ []
nobody-example = refl

without-example : without 1 (subscribers_at three 7) ≡ 2 ∷ []
without-example = refl
