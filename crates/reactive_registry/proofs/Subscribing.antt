-- What a subscription leaves of the two directions, by its answer.
use Rattle.std.proofs.Common.{◌≡◌, ℕ, Bool, true, false, cond, ◌&&◌, List, ◌++◌, Some, Result, Ok, Err, OnOk, OnErr, sym, subst, ◌∙◌}
use Rattle.std.specs.Ordering.{nat_cmp}
use Rattle.std.specs.BTreeMap.{is_at}
use Rattle.std.specs.BTreeSet.{insert_key}
use Rattle.rdt_types.specs.declared.address.Address.{Address}
use Rattle.rdt_types.specs.Addresses.{address_cmp}
use Rattle.change_feed.specs.declared.change.Change.{Change}
use Rattle.change_feed.specs.Changes.{of_address}
use Rattle.reactive_registry.specs.declared.places.Places.{Places}
use Rattle.reactive_registry.specs.Registered.{Kept, kept_in, is_address, subscribed}
use Rattle.reactive_registry.specs.Places.{links, AreLinked}
use Rattle.reactive_registry.proofs.Pairs.{linked_pair, linked_as_before, put_back, UpTo, up_to-filter, up_to-append}

-- what is kept after a subscription is up to the front, where what was missed is
up_to-subscribed : (front : ℕ) (k : Address) (missed : List Change) (kept : Kept) → UpTo front kept.changes → UpTo front missed
    → UpTo front (subscribed k missed kept).changes
up_to-subscribed front k missed kept old new = by (is_address kept k)
  where
    by : (b : Bool) → UpTo front (cond b kept (record kept {
      addresses = insert_key address_cmp kept.addresses k;
      changes = kept.changes ++ of_address k missed;
    })).changes
    by true = old
    by false = up_to-append front kept.changes (of_address k missed) old (up_to-filter front (λ c. is_at (address_cmp k) c.address) missed new)

-- by the answer: Ok puts the pair in both directions and keeps only changes up to the front, an error leaves both as before
pub linked_subscribed : {E : Type 0} (r : Result (Unit {0}) E) (front : ℕ) (es es' : List (ℕ × Kept)) (p p' : Places) (s : ℕ) (k : Address)
    (missed : List Change) (kept kept' : Kept) → AreLinked front es p → kept_in es s ≡ Some kept
    → ((q : ℕ) → kept_in es' q ≡ cond (is_at (nat_cmp s) q) (Some kept') (kept_in es q)) → UpTo front missed
    → OnOk r (kept' ≡ subscribed k missed kept)
    → OnOk r ((a : Address) → is_address kept' a ≡ cond (is_at (address_cmp k) a) true (is_address kept a))
    → OnOk r ((a : Address) (t : ℕ) → links p' a t ≡ cond (is_at (address_cmp k) a && is_at (nat_cmp s) t) true (links p a t))
    → OnErr r (kept' ≡ kept) → OnErr r ((a : Address) (t : ℕ) → links p' a t ≡ links p a t)
    → AreLinked front es' p'
linked_subscribed (Ok u) front es es' p p' s k missed kept kept' old found puts new is has places f g =
    linked_pair front es es' p p' s k kept kept' true old found puts has
    (subst (λ (x : Kept). UpTo front x.changes) (sym is) (up_to-subscribed front k missed kept (old.followed s kept found) new)) places
linked_subscribed (Err e) front es es' p p' s k missed kept kept' old found puts new f g h same as_placed =
    linked_as_before front es es' p p' old (λ q. puts q ∙ put_back es s kept kept' found same q) as_placed
