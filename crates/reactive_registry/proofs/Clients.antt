-- Whole registries go on standing, and clients that take from them hold the state.
use Rattle.std.proofs.Common.{◌≡◌, ℕ, ◌≤◌, Bool, true, false, cond, ◌++◌, Option, Some, None, option_map, option_and_then, refl, sym, ap, subst, ◌∙◌, arith}
use Rattle.std.specs.List.{AllByRecursion}
use Rattle.std.specs.Ordering.{nat_cmp}
use Rattle.std.specs.BTreeMap.{is_at}
use Rattle.change_feed.specs.declared.change.Change.{Change}
use Rattle.change_feed.specs.Changes.{past}
use Rattle.change_feed.specs.Pending.{pending}
use Rattle.client_cache.proofs.Following.{caches_follow}
use Rattle.reactive_registry.specs.Registered.{Kept, kept_of, told, pending_for}
use Rattle.reactive_registry.specs.Standing.{KeptFor}
use Rattle.reactive_registry.specs.Laws.{OneStands, AllStand, ClientsFollow}
use Rattle.reactive_registry.proofs.Pairs.{up_to-append, up_to-tail}
use Rattle.reactive_registry.proofs.Undone.{up_to-more, past-tail}
use Rattle.reactive_registry.proofs.Standing.{pending_is_since, follows_stand, past-front, past-append}

-- the one stands by itself, the others as before
pub one_stands : OneStands
one_stands changes old new subscriber kept stands front is one = record {
  followed = subst (λ n. AllByRecursion (λ (c : Change). c.number ≤ n) changes) (sym front) stands.followed;
  kept = λ s k e. subst (λ n. KeptFor changes n k) (sym front) (by s k (is_at (nat_cmp subscriber) s) (sym (is s) ∙ e));
}
  where
    by : (s : ℕ) (k : Kept) (b : Bool) → cond b kept (kept_of old s) ≡ Some k → KeptFor changes old.front k
    by s k true e = one k e
    by s k false e = stands.kept s k e

-- each subscriber stands, since it is told of all
pub all_stand : AllStand
all_stand changes later old new stands tail is = record {
  followed = up_to-append new.front changes later (up_to-more old.front new.front changes tail.rises stands.followed)
      (up_to-tail old.front new.front later tail);
  kept = λ s k e. by k (kept_of old s) (stands.kept s) (sym (is s) ∙ e);
}
  where
    by : (k : Kept) (o : Option Kept) → ((x : Kept) → o ≡ Some x → KeptFor changes old.front x) → option_map (told later) o ≡ Some k
        → KeptFor (changes ++ later) new.front k
    by k None each e = absurd (cc)
    by k (Some x) each e =
        let same : told later x ≡ k = cc in
        subst (KeptFor (changes ++ later) new.front) same
        (follows_stand changes later old.front new.front x tail.rises (each x refl) (past-tail old.front new.front later tail))

-- what is pending is what the changes past the number taken last come to, and these are the later ones
pub clients_follow : ClientsFollow
clients_follow before after registry subscriber kept old new feed address kinds stands found is first second holds same advances =
    let later : past kept.taken (before ++ after) ≡ after =
    past-append before after kept.taken kept.taken (omega arith) second ∙ ap (λ l. l ++ after) (past-front before kept.taken first)
    in
    caches_follow old new feed before after address kinds holds
    (same
    ∙ ap (λ (o : Option Kept). option_and_then (λ k. pending_for k address) o) found
    ∙ pending_is_since (before ++ after) registry.front kept address (stands.kept subscriber kept found) is
    ∙ ap (pending address) later)
    advances
