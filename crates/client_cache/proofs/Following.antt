-- Caches that are advanced by what is pending.
use Rattle.std.proofs.Common.{◌≡◌, Bool, true, false, cond, List, [], ◌∷◌, ◌++◌, map, filter, Option, Some, None, option_map, refl, sym, ap, ◌∙◌}
use Rattle.std.specs.List.{AllByRecursion}
use Rattle.std.specs.BTreeMap.{is_at}
use Rattle.rdt_types.specs.declared.address.Kind.{Kind}
use Rattle.rdt_types.specs.declared.address.Address.{Address}
use Rattle.rdt_types.specs.declared.value.Value.{Value}
use Rattle.rdt_types.specs.declared.delta.Delta.{Delta}
use Rattle.rdt_types.specs.Addresses.{address_cmp}
use Rattle.rdt_types.specs.Values.{default_of}
use Rattle.rdt_types.specs.Deltas.{kind_changed, compose, apply}
use Rattle.rdt_types.specs.DeltaMaps.{delta_at}
use Rattle.rdt_types.proofs.OneKind.{kind-compose}
use Rattle.rdt_types.proofs.Laws.{compositions_apply_in_turn}
use Rattle.change_feed.specs.declared.change.Change.{Change}
use Rattle.change_feed.specs.Changes.{of_address, deltas_of}
use Rattle.change_feed.specs.Pending.{deltas_at, composed_after, pending}
use Rattle.change_feed.specs.Feeds.{AreOfTheirKinds}
use Rattle.change_feed.proofs.Pending.{at-of_kind}
use Rattle.client_cache.specs.Histories.{apply_maybe, applied, state_at}
use Rattle.client_cache.specs.Cached.{held}
use Rattle.client_cache.specs.Laws.{PendingAppliesInTurn, CachesFollow}

-- ---- deltas of one kind

module _ (k : Kind) where
  -- a delta of this kind, or none
  abbrev IsOfKind : Option Delta → Type 0
  IsOfKind None = Unit {0}
  IsOfKind (Some d) = kind_changed d ≡ k

  -- a composition of deltas of one kind, applied, is each in turn, since one of two is
  in_turn : (before : Option Delta) (deltas : List Delta) (v : Value) → IsOfKind before → AllByRecursion (λ d. kind_changed d ≡ k) deltas
      → apply_maybe (composed_after before deltas) v ≡ applied deltas (apply_maybe before v)
  in_turn before [] v is all = refl
  in_turn None (d ∷ deltas) v is all = in_turn (Some d) deltas v all.0 all.1
  in_turn (Some b) (d ∷ deltas) v is all =
      in_turn (Some (compose b d)) deltas v (kind-compose b d ∙ all.0) all.1
      ∙ ap (applied deltas) (compositions_apply_in_turn b d v (is ∙ sym all.0))

-- ---- deltas at an address

-- what is pending is a composition of deltas of the address's kind, with none before it
pub pending_applies_in_turn : PendingAppliesInTurn
pending_applies_in_turn changes address value kinds =
    in_turn address.kind None (deltas_at address changes) value tt (at-of_kind address changes kinds)

-- the deltas of changes and then of others are applied one after the other
applied-append : (address : Address) (v : Value) (changes later : List Change)
    → applied (deltas_at address (changes ++ later)) v ≡ applied (deltas_at address later) (applied (deltas_at address changes) v)
applied-append address v [] later = refl
applied-append address v (change ∷ changes) later =
    by (is_at (address_cmp address) change.address) (λ w. applied-append address w changes later)
  where
    by : (b : Bool)
        → ((w : Value) → applied (deltas_of (of_address address (changes ++ later))) w
        ≡ applied (deltas_of (of_address address later)) (applied (deltas_of (of_address address changes)) w))
        → applied (deltas_of (cond b (change ∷ of_address address (changes ++ later)) (of_address address (changes ++ later)))) v
        ≡ applied (deltas_of (of_address address later)) (applied (deltas_of (cond b (change ∷ of_address address changes) (of_address address changes))) v)
    by true rest = rest (apply change.delta v)
    by false rest = rest v

-- ---- caches

-- a state, and then what is pending of later changes, is the state after all
pub state_at-append : (changes later : List Change) (address : Address) → AreOfTheirKinds later
    → apply_maybe (pending address later) (state_at changes address) ≡ state_at (changes ++ later) address
state_at-append changes later address kinds =
    pending_applies_in_turn later address (state_at changes address) kinds ∙ sym (applied-append address (default_of address.kind) changes later)

-- where a value is held after a feed, one was held before it
pub caches_follow : CachesFollow
caches_follow old new feed changes later address kinds holds same advances value found =
    by (held old address) (λ w e. holds w e) (sym (advances.held address) ∙ found)
  where
    by : (o : Option Value) → ((w : Value) → o ≡ Some w → w ≡ state_at changes address)
        → option_map (apply_maybe (delta_at feed.changes address)) o ≡ Some value → value ≡ state_at (changes ++ later) address
    by None is e = absurd (cc)
    by (Some w) is e =
        let value_is : value ≡ apply_maybe (delta_at feed.changes address) w = cc in
        value_is ∙ ap (λ d. apply_maybe d w) same ∙ ap (apply_maybe (pending address later)) (is w refl) ∙ state_at-append changes later address kinds
