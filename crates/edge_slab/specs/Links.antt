-- Edges in their two lists: each lies in that of its place and in that of its subscriber.
use Rattle.std.specs.Prelude.{◌≡◌, ℕ, ◌≤◌, Bool, true, not, ◌&&◌, List, map, filter, length, Some, None, nat_eq}
use Rattle.std.specs.List.{AllByRecursion, IsDistinct, list_any}
use Rattle.std.specs.Option.{option_map_or}
use Rattle.std.specs.HashMap as hash
use Rattle.slab.specs.Slab as slab
use Rattle.edge_slab.specs.declared.links.Edge.{Edge}
use Rattle.edge_slab.specs.declared.links.Links.{Links}
use Rattle.edge_slab.specs.declared.walk.Side.{Side}
use Rattle.edge_slab.specs.declared.walk.Side.TheVariants.{Subscribers, Places}
use Rattle.edge_slab.specs.declared.chains.Spot.{Spot}
use Rattle.edge_slab.specs.declared.chains.Spot.TheVariants.{End}
use Rattle.edge_slab.specs.declared.chains.Chains.{Chains}
use Rattle.edge_slab.specs.Edges.{Edges, across}
use Rattle.edge_slab.specs.Chains.{AreChains, IsReadyFor, next_of, walk_from}

-- a pair that is linked, and the key of its edge
pub record Linked : Type 0 where
  pub key : ℕ
  pub subscriber : ℕ
  pub place : ℕ

-- an edge under a key
abbrev pub linked_as : Edge → ℕ → Linked
linked_as edge key = record { key = key; subscriber = edge.subscriber; place = edge.place }

-- the edge of two numbers
abbrev pub edge_from : ℕ → ℕ → Edge
edge_from subscriber place = record { subscriber = subscriber; place = place }

-- the edge of a linked pair
abbrev pub edge_of : Linked → Edge
edge_of l = edge_from l.subscriber l.place

-- the keys of the pairs with a number on one side
abbrev pub keys_of : (Linked → ℕ) → ℕ → List Linked → List ℕ
keys_of side number all = across side (λ l. l.key) number all

-- whether a pair has a key
abbrev pub is_under : ℕ → Linked → Bool
is_under key l = nat_eq key l.key

-- linked pairs but for that under a key
abbrev pub but : ℕ → List Linked → List Linked
but key all = filter (λ l. not (is_under key l)) all

-- These pairs are linked, in this order: both lists of each edge run over the pairs' keys, and each key has the pair's edge.
pub record AreLinks (links : Links) (all : List Linked) : Type 0 where
  pub at_place : AreChains links.at_place (λ place. keys_of (λ l. l.place) place all)
  pub of_subscriber : AreChains links.of_subscriber (λ subscriber. keys_of (λ l. l.subscriber) subscriber all)
  pub held : AllByRecursion (λ l. slab.get links.edges l.key ≡ Some (edge_of l)) all
  pub few : length all ≤ slab.slab_len links.edges

-- an edge can be linked under a key without memory
pub record IsReady (links : Links) (edge : Edge) (key : ℕ) : Type 0 where
  pub room : slab.HasRoomFor links.edges 1
  pub next : links.edges.vacant_key ≡ key
  pub vacant : slab.get links.edges key ≡ None
  pub at_place : IsReadyFor links.at_place edge.place key
  pub of_subscriber : IsReadyFor links.of_subscriber edge.subscriber key

-- what an edge has on a side
abbrev pub side_of : Side → Edge → ℕ
side_of Subscribers edge = edge.subscriber
side_of Places edge = edge.place

-- what the edge under a key has on a side
abbrev pub item_of : Side → Links → ℕ → ℕ
item_of side links key = option_map_or (side_of side) (slab.get links.edges key) 0

-- the lists in which a walk gives this side: those of the other one
abbrev pub chains_of : Side → Links → Chains
chains_of Subscribers links = links.at_place
chains_of Places links = links.of_subscriber

-- what a walk gives from a spot on, at most so many
abbrev pub given_from : Side → Links → ℕ → Spot → List ℕ
given_from side links most spot = map (item_of side links) (walk_from (next_of (chains_of side links)) most spot)

-- what a walk over a list gives
abbrev pub walk_of : Side → Links → ℕ → List ℕ
walk_of side links number =
    given_from side links (slab.slab_len links.edges) (next_of (chains_of side links) (End number))

-- the walks over all lists
abbrev pub edges_of : Links → Edges
edges_of links = record {
  at_place = map (λ entry. (entry.0, walk_of Subscribers links entry.0)) links.at_place.ends.entries;
  of_subscriber = map (λ entry. (entry.0, walk_of Places links entry.0)) links.of_subscriber.ends.entries;
}

-- pairs of numbers are equal side by side
abbrev pub pair_eq : ℕ × ℕ → ℕ × ℕ → Bool
pair_eq a b = nat_eq a.0 b.0 && nat_eq a.1 b.1

-- whether it is this pair
abbrev pub is_of : ℕ → ℕ → Linked → Bool
is_of subscriber place l = nat_eq subscriber l.subscriber && nat_eq place l.place

-- What a slab of edges keeps of linked pairs: their links, under each pair its key and under no other pair one, and each pair
-- once in each walk.
pub record AreEdges {S : Type 0} (links : Links) (keys : hash.HashMap (ℕ × ℕ) ℕ S) (all : List Linked) : Type 0 where
  pub are_links : AreLinks links all
  pub found : AllByRecursion (λ l. hash.get pair_eq keys (l.subscriber, l.place) ≡ Some l.key) all
  pub listed : (subscriber place key : ℕ) → hash.get pair_eq keys (subscriber, place) ≡ Some key
      → list_any (λ l. is_under key l && is_of subscriber place l) all ≡ true
  pub once_at : (place : ℕ) → IsDistinct nat_eq (across (λ l. l.place) (λ l. l.subscriber) place all)
  pub once_of : (subscriber : ℕ) → IsDistinct nat_eq (across (λ l. l.subscriber) (λ l. l.place) subscriber all)

-- whatever pairs were linked, this makes of them those that are
abbrev pub TurnsLinks : (List Linked → List Linked) → Links → Links → Type 0
TurnsLinks does old new = (all : List Linked) → AreLinks old all → AreLinks new (does all)

-- the pair under a key, if there was one, is linked no more
abbrev pub DropsLink : ℕ → Links → Links → Type 0
DropsLink key old new = (all : List Linked) → AreLinks old all → list_any (is_under key) all ≡ true → AreLinks new (but key all)
