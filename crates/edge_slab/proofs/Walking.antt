-- What walks over links give.
use Rattle.std.proofs.Common.{◌≡◌, ℕ, zero, suc, Bool, true, false, cond, List, [], ◌∷◌, map, Some, None, nat_eq, refl, sym, ap, ◌∙◌, arith}
use Rattle.std.specs.Option.{unwrap_or, option_map_or}
use Rattle.std.specs.Map.{lookup}
use Rattle.std.specs.HashMap.{get}
use Rattle.std.proofs.lemmas.Bool.{eqb-true}
use Rattle.slab.specs.Slab as slab
use Rattle.edge_slab.specs.declared.chains.Ties.{Ties}
use Rattle.edge_slab.specs.declared.chains.Spot.{Spot}
use Rattle.edge_slab.specs.declared.chains.Spot.TheVariants.{End}
use Rattle.edge_slab.specs.declared.links.Links.{Links}
use Rattle.edge_slab.specs.declared.walk.Side.{Side}
use Rattle.edge_slab.specs.declared.walk.Side.TheVariants.{Subscribers, Places}
use Rattle.edge_slab.specs.Edges.{across, list_under, subscribers_at, places_of}
use Rattle.edge_slab.specs.Chains.{ends_of_none, AreChains, next_of, last_of, walk_from}
use Rattle.edge_slab.specs.Links.{Linked, edge_of, keys_of, AreLinks, side_of, item_of, chains_of, given_from, walk_of, edges_of}
use Rattle.edge_slab.proofs.Lists.{each, across-map, length-across}
use Rattle.edge_slab.proofs.Rings.{walked}

-- ---- the lists of all walks

-- nothing is walked from an end
walk_from-end : (next : Spot → Spot) (most n : ℕ) → walk_from next most (End n) ≡ []
walk_from-end next zero n = refl
walk_from-end next (suc most) n = refl

-- among the lists under the numbers of a map's entries, each number has its list, where one without an entry has none
under_each : (walk : ℕ → List ℕ) (n : ℕ) (entries : List (ℕ × Ties)) → (lookup (nat_eq n) entries ≡ None → walk n ≡ [])
    → list_under n (map (λ e. (e.0, walk e.0)) entries) ≡ walk n
under_each walk n [] none = sym (none refl)
under_each walk n (e ∷ entries) none = by (nat_eq n e.0) refl none (under_each walk n entries)
  where
    by : (b : Bool) → nat_eq n e.0 ≡ b → (cond b (Some e.1) (lookup (nat_eq n) entries) ≡ None → walk n ≡ [])
        → ((lookup (nat_eq n) entries ≡ None → walk n ≡ []) → list_under n (map (λ e. (e.0, walk e.0)) entries) ≡ walk n)
        → unwrap_or (cond b (Some (walk e.0)) (lookup (nat_eq n) (map (λ e. (e.0, walk e.0)) entries))) [] ≡ walk n
    by true same none rest = ap walk (sym (eqb-true n e.0 same))
    by false same none rest = rest none

-- where no end is kept, nothing is walked
none_walked : (side : Side) (links : Links) (n : ℕ) → get nat_eq (chains_of side links).ends n ≡ None → walk_of side links n ≡ []
none_walked side links n e =
    ap (given_from side links (slab.slab_len links.edges)) (ap (λ o. (unwrap_or o (ends_of_none n)).next) e)
    ∙ ap (map (item_of side links)) (walk_from-end (next_of (chains_of side links)) (slab.slab_len links.edges) n)

-- so the subscribers of a place are those that its walk gives
pub subscribers-walked : (links : Links) (place : ℕ) → subscribers_at (edges_of links) place ≡ walk_of Subscribers links place
subscribers-walked links place = under_each (walk_of Subscribers links) place links.at_place.ends.entries (none_walked Subscribers links place)

-- and the places of a subscriber
pub places-walked : (links : Links) (subscriber : ℕ) → places_of (edges_of links) subscriber ≡ walk_of Places links subscriber
places-walked links subscriber = under_each (walk_of Places links) subscriber links.of_subscriber.ends.entries (none_walked Places links subscriber)

-- ---- walks over the links of pairs

-- a walk over the chain of some pairs' keys gives what the pairs have on the walk's side
walk-across : (side : Side) (links : Links) (all : List Linked) (n : ℕ) (class : Linked → ℕ) → AreLinks links all
    → AreChains (chains_of side links) (λ m. keys_of class m all)
    → walk_of side links n ≡ across class (λ (l : Linked). side_of side (edge_of l)) n all
walk-across side links all n class are chains =
    ap (map (item_of side links))
    (walked (next_of (chains_of side links)) (last_of (chains_of side links)) n (keys_of class n all) (End n) (slab.slab_len links.edges)
    (omega (arith, are.few, length-across class (λ (l : Linked). l.key) n all)) (chains n))
    ∙ across-map class (λ (l : Linked). side_of side (edge_of l)) (λ (l : Linked). l.key) (item_of side links) all
    (each (λ (l : Linked). slab.get links.edges l.key ≡ Some (edge_of l)) (λ (l : Linked). item_of side links l.key ≡ side_of side (edge_of l))
    (λ l e. ap (λ o. option_map_or (side_of side) o 0) e) all are.held)
    n

module _ (links : Links) (all : List Linked) (are : AreLinks links all) where
  -- the subscribers of a place are those of the pairs with this place
  pub subscribers-across : (place : ℕ) → subscribers_at (edges_of links) place ≡ across (λ (l : Linked). l.place) (λ (l : Linked). l.subscriber) place all
  subscribers-across place = subscribers-walked links place ∙ walk-across Subscribers links all place (λ (l : Linked). l.place) are are.at_place

  -- and the places of a subscriber
  pub places-across : (subscriber : ℕ) → places_of (edges_of links) subscriber ≡ across (λ (l : Linked). l.subscriber) (λ (l : Linked). l.place) subscriber all
  places-across subscriber = places-walked links subscriber ∙ walk-across Places links all subscriber (λ (l : Linked). l.subscriber) are are.of_subscriber
