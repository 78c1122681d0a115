-- What the registry behind its lock stands for, as it follows and as clients come, and what it has for a client.
use Rattle.std.proofs.Common.{◌≡◌, ℕ, ◌≤◌, Bool, true, false, cond, ◌&&◌, ◌||◌, List, [], ◌∷◌, ◌++◌, filter, length, Option, Some, None, option_map}
use Rattle.std.proofs.Common.{option_and_then, Result, Ok, Err, IfOk, OnOk, OnErr, refl, sym, ap, ◌∙◌, subst, arith}
use Rattle.std.specs.Prelude.{nat_le}
use Rattle.std.proofs.lemmas.Bool.Decides.{nat_tests}
use Rattle.std.specs.Option.{option_map_or}
use Rattle.std.specs.List.{AllByRecursion, list_all}
use Rattle.std.specs.List.Sorted.{IsStrictlySortedBy}
use Rattle.std.specs.Map.{keys_of}
use Rattle.std.specs.Cmp.{eq_by_cmp_equiv}
use Rattle.std.specs.BTreeMap.{is_at}
use mathlib.Core.List.{IsPrefix}
use Rattle.rdt_types.specs.declared.address.Address.{Address}
use Rattle.rdt_types.specs.Addresses.{address_cmp}
use Rattle.rdt_types.specs.DeltaMaps.{Deltas, delta_at}
use Rattle.rdt_types.specs.contracts.address.AddressOrd.TheImpl.Laws as address_laws
use Rattle.rdt_types.proofs.Addresses.{address_cmp-equal}
use Rattle.change_feed.specs.declared.change.Change.{Change}
use Rattle.change_feed.specs.declared.tail.Tail.{Tail}
use Rattle.change_feed.specs.Tails.{IsTail}
use Rattle.change_feed.specs.Feeds.{Fed, begun, with_changes}
use Rattle.change_feed.specs.Pending.{deltas_at, pending}
use Rattle.txn_lang.specs.States.{Journal}
use Rattle.journal_core.specs.Changes.{changes, up_to, past, between, of_address}
use Rattle.journal_core.specs.Pairs.{AreNumbered}
use Rattle.journal_core.specs.Tails.{HasAll}
use Rattle.reactive_registry.specs.Registered.{Kept, Registered, kept_of, with_kept, is_address, is_subscribed, told, emptied, subscribed}
use Rattle.reactive_registry.specs.Registered.{pending_for, pending_of, empty}
use Rattle.reactive_registry.specs.Standing.{KeptFor, StandsFor}
use Rattle.reactive_registry.proofs.Pairs.{same_address}
use Rattle.reactive_registry.proofs.Standing.{deltas-chosen, pending_is_since, takes_stand}
use Rattle.reactive_registry.proofs.GoingOn.{subscribes_stand}
use Rattle.reactive_registry.proofs.Clients.{one_stands, all_stand}
use Rattle.docc_prepare.proofs.Feeding.{fed-is-pending}
use Rattle.local_world.proofs.SamePairs.{same_pairs}
use Rattle.local_world.proofs.Registries.{none-rising, rising-with_changes}
use Rattle.diamond_store.specs.Feeders.{Tells, HasNobody, taken_of, feed_between}
use Rattle.diamond_store.specs.Passes.{is_in}
use Rattle.journal_relay.proofs.Prefixes.{length-prefix}
use Rattle.journal_relay.proofs.Relaying.{changes-first, changes-split}

-- ---- the journal grows

module _ (journal later : Journal) (more : IsPrefix journal later) (numbered : AreNumbered later) where
  -- so the registry stands for the longer journal's changes up to its front
  pub tells-later : (registry : Registered) → Tells journal registry → Tells later registry
  tells-later registry tells = record {
    reached = (let r = tells.reached in let l = length-prefix journal later more in omega arith);
    stands = subst (λ (cs : List Change). StandsFor cs registry) (sym (changes-first journal later more numbered registry.front tells.reached)) tells.stands;
  }

  -- and what changed up to a number of the first commits is what changed in them
  pub feed-first : (addresses : List Address) (from to : ℕ) → to ≤ length journal
      → feed_between later addresses from to ≡ feed_between journal addresses from to
  feed-first addresses from to within =
      ap (λ (cs : List Change). let f : Fed = record { to = to; changes = with_changes [] (filter (λ c. is_in addresses c.address) (past from cs)) } in f)
      (changes-first journal later more numbered to within)

  -- so a feed up to a front that is at their end is what changed up to their end
  pub fed-whole : (addresses : List Address) (from front to : ℕ) (feed : Fed) → feed ≡ feed_between later addresses from front → front ≡ to
      → to ≡ length journal → feed ≡ feed_between journal addresses from (length journal)
  fed-whole addresses from front to feed is reached end =
      is ∙ ap (feed_between later addresses from) (reached ∙ end) ∙ feed-first addresses from (length journal) (omega arith)

-- ---- the registry follows

module _ (journal : Journal) (old new : Registered) (tells : Tells journal old) where
  -- the changes that the registry stands for
  abbrev followed : List Change
  followed = up_to old.front (changes journal)

  -- what stands by its front stands by an equal one
  by_front : new.front ≡ old.front → StandsFor followed new → Tells journal new
  by_front front stands = record {
    reached = subst (λ (n : ℕ). n ≤ length journal) (sym front) tells.reached;
    stands = subst (λ (n : ℕ). StandsFor (up_to n (changes journal)) new) (sym front) stands;
  }

  -- where nothing changed it stands as before
  tells-same : new.front ≡ old.front → ((s : ℕ) → kept_of new s ≡ kept_of old s) → Tells journal new
  tells-same front is = by_front front (record {
    followed = subst (λ (n : ℕ). AllByRecursion (λ (change : Change). change.number ≤ n) followed) (sym front) tells.stands.followed;
    kept = λ s k e. subst (λ (n : ℕ). KeptFor followed n k) (sym front) (tells.stands.kept s k (sym (is s) ∙ e));
  })

  -- where one client comes, goes or changes, and what is kept of it stands for the changes, the registry does
  tells-one : (client : ℕ) (kept : Option Kept) → new.front ≡ old.front → ((s : ℕ) → kept_of new s ≡ with_kept old client kept s)
      → ((k : Kept) → kept ≡ Some k → KeptFor followed old.front k) → Tells journal new
  tells-one client kept front is one = by_front front (one_stands followed old new client kept tells.stands front is one)

  -- by a tail of all changes up to a number it follows; for want of memory it stays
  pub tells-followed : {E : Type 0} (r : Result (Unit {0}) E) (tail : Tail) (from to : ℕ) → AreNumbered journal → from ≡ old.front → to ≤ length journal
      → old.front ≤ to → HasAll from to (between from to (changes journal)) tail → OnOk r (new.front ≡ tail.to)
      → OnOk r ((s : ℕ) → kept_of new s ≡ option_map (told tail.changes) (kept_of old s)) → OnErr r (new.front ≡ old.front)
      → OnErr r ((s : ℕ) → kept_of new s ≡ kept_of old s) → Tells journal new
  tells-followed (Ok u) tail from to numbered here within order all front is as_before same =
      let ends : new.front ≡ to = front ∙ all.ends in
      let in_order : IsTail old.front new.front tail.changes =
      subst (λ (n : ℕ). IsTail n new.front tail.changes) (all.begins ∙ here) (subst (λ (n : ℕ). IsTail tail.from n tail.changes) (sym front) tail.in_order)
      in record {
        reached = omega arith;
        stands = subst (λ (cs : List Change). StandsFor cs new)
            (ap (λ later. followed ++ later) (all.exact ∙ ap (λ (n : ℕ). between n to (changes journal)) here)
            ∙ changes-split journal old.front to order numbered
            ∙ ap (λ (n : ℕ). up_to n (changes journal)) (sym ends))
            (all_stand followed tail.changes old new tells.stands in_order is);
      }
  tells-followed (Err e) tail from to numbered here within order all front is as_before same = tells-same as_before same

-- a registry in which nobody has entered stands for all that it is to have followed
pub tells-empty : (journal : Journal) (front : ℕ) → front ≤ length journal → Tells journal (empty front)
tells-empty journal front within = record {
  reached = within;
  stands = record { followed = all (changes journal); kept = λ s k e. absurd (cc) };
}
  where
    all : (cs : List Change) → AllByRecursion (λ (change : Change). change.number ≤ front) (up_to front cs)
    all [] = tt
    all (c ∷ cs) = by (nat_le c.number front) refl (all cs)
      where
        by : (b : Bool) → nat_le c.number front ≡ b → AllByRecursion (λ (change : Change). change.number ≤ front) (up_to front cs)
            → AllByRecursion (λ (change : Change). change.number ≤ front) (cond b (c ∷ up_to front cs) (up_to front cs))
        by true e rest = (grind (arith, nat_tests), rest)
        by false e rest = rest

-- nobody has entered one that is empty
pub nobody-in-empty : (front : ℕ) → HasNobody (empty front)
nobody-in-empty front client = refl

-- ---- one client

-- one that has taken up to a number is kept, with that number
kept-taken : (o : Option Kept) (taken : ℕ) → option_map (λ (k : Kept). k.taken) o ≡ Some taken → (k : Kept) × (o ≡ Some k) × (k.taken ≡ taken)
kept-taken None taken took = absurd (cc)
kept-taken (Some k) taken took = (k, refl, (let same : Some k.taken ≡ Some taken = took in cc))

-- what is made of what is kept is made of one that is there
of-kept : (P : Kept → Type 0) (f : Kept → Kept) (o : Option Kept) → ((x : Kept) → o ≡ Some x → P (f x)) → (k : Kept) → option_map f o ≡ Some k → P k
of-kept P f None each k e = absurd (cc)
of-kept P f (Some x) each k e = let same : f x ≡ k = cc in subst P same (each x refl)

-- ---- an address is registered

-- what was missed at an address are all changes there past the number taken last
missed-is : (journal : Journal) (front from : ℕ) (address : Address) (missed : Tail) (k : Kept) → k.taken ≡ from
    → HasAll from front (of_address address (between from front (changes journal))) missed
    → deltas_at address missed.changes ≡ deltas_at address (past k.taken (up_to front (changes journal)))
missed-is journal front from address missed k taken all =
    ap (deltas_at address) all.exact
    ∙ deltas-chosen address (is_at (address_cmp address)) (between from front (changes journal))
    ∙ ap (λ b. cond b (deltas_at address (between from front (changes journal))) []) ((eq_by_cmp_equiv address_laws.total-law).refl address)
    ∙ ap (λ (n : ℕ). deltas_at address (past n (up_to front (changes journal)))) (sym taken)

module _ (journal : Journal) (old new : Registered) (client taken : ℕ) (address : Address) (tells : Tells journal old)
    (took : taken_of old client ≡ Some taken) (front : new.front ≡ old.front) where
  -- one that is told of an address more, and of what it missed there, goes on standing; for want of memory all is as before
  pub tells-registered : {E : Type 0} (r : Result (Unit {0}) E) (missed : Tail) (to : ℕ) → to ≡ old.front
      → HasAll taken to (of_address address (between taken to (changes journal))) missed
      → OnOk r ((s : ℕ) → kept_of new s ≡ with_kept old client (option_map (subscribed address missed.changes) (kept_of old client)) s)
      → OnErr r ((s : ℕ) → kept_of new s ≡ kept_of old s) → Tells journal new
  tells-registered (Ok u) missed to here all is same =
      tells-one journal old new tells client (option_map (subscribed address missed.changes) (kept_of old client)) front is
      (of-kept (KeptFor (followed journal old new tells) old.front) (subscribed address missed.changes) (kept_of old client)
      (λ x e. subscribes_stand (followed journal old new tells) missed.changes old.front x address (tells.stands.kept client x e)
      (missed-is journal old.front taken address missed x (its x e)
      (subst (λ (n : ℕ). HasAll taken n (of_address address (between taken n (changes journal))) missed) here all))))
    where
      its : (x : Kept) → kept_of old client ≡ Some x → x.taken ≡ taken
      its x e = let both : Some x.taken ≡ Some taken = sym (ap (option_map (λ (k : Kept). k.taken)) e) ∙ took in cc
  tells-registered (Err e) missed to here all is same = tells-same journal old new tells front same

-- where an address is told already, nothing more is
pub told-already : (registry : Registered) (client : ℕ) (address a : Address) → is_subscribed registry client address ≡ true
    → is_subscribed registry client a ≡ cond (is_at (address_cmp address) a) true (is_subscribed registry client a)
told-already registry client address a there = by (is_at (address_cmp address) a) refl
  where
    by : (b : Bool) → is_at (address_cmp address) a ≡ b → is_subscribed registry client a ≡ cond b true (is_subscribed registry client a)
    by true e = ap (is_subscribed registry client) (sym (same_address address a e)) ∙ there
    by false e = refl

-- ---- what a client takes

-- one that has taken up to the front has nothing left to take; for want of memory all is as before
pub tells-taken : {A E : Type 0} (r : Result A E) (journal : Journal) (old new : Registered) (client : ℕ) → Tells journal old → new.front ≡ old.front
    → OnOk r ((s : ℕ) → kept_of new s ≡ with_kept old client (option_map (emptied old.front) (kept_of old client)) s)
    → OnErr r ((s : ℕ) → kept_of new s ≡ kept_of old s) → Tells journal new
tells-taken (Ok a) journal old new client tells front is same =
    tells-one journal old new tells client (option_map (emptied old.front) (kept_of old client)) front is
    (of-kept (KeptFor (followed journal old new tells) old.front) (emptied old.front) (kept_of old client)
    (λ x e. takes_stand (followed journal old new tells) old.front x tells.stands.followed))
tells-taken (Err e) journal old new client tells front is same = tells-same journal old new tells front same

-- where all deltas are at some addresses, there is none elsewhere
nothing-elsewhere : (addresses : List Address) (deltas : Deltas) → list_all (λ pair. is_in addresses pair.0) deltas ≡ true
    → (a : Address) → is_in addresses a ≡ false
    → delta_at deltas a ≡ None
nothing-elsewhere addresses [] within a out = refl
nothing-elsewhere addresses (pair ∷ deltas) within a out =
    by (λ rest. nothing-elsewhere addresses deltas rest a out) (is_at (address_cmp a) pair.0) refl (is_in addresses pair.0) refl within
  where
    by : (list_all (λ p. is_in addresses p.0) deltas ≡ true → delta_at deltas a ≡ None) → (b : Bool) → is_at (address_cmp a) pair.0 ≡ b → (c : Bool)
        → is_in addresses pair.0 ≡ c → (c && list_all (λ p. is_in addresses p.0) deltas) ≡ true → cond b (Some pair.1) (delta_at deltas a) ≡ None
    by others true e true f rest = absurd (let no : true ≡ false = sym f ∙ ap (is_in addresses) (sym (same_address a pair.0 e)) ∙ out in cc)
    by others false e true f rest = others rest
    by others b e false f rest = absurd (cc)

module _ (journal : Journal) (registry : Registered) (client taken : ℕ) (addresses : List Address) (tells : Tells journal registry)
    (took : taken_of registry client ≡ Some taken) (has : (a : Address) → is_in addresses a ≡ true → is_subscribed registry client a ≡ true) where
  -- what is pending at an address that is told is what changed there since the client took
  pending-here : (a : Address) → is_in addresses a ≡ true → pending_of registry client a ≡ pending a (between taken registry.front (changes journal))
  pending-here a there =
      let k = kept-taken (kept_of registry client) taken took in
      let its : is_address k.0 a ≡ true = sym (ap (λ (o : Option Kept). option_map_or (λ kept. is_address kept a) o false) k.1) ∙ has a there in
      ap (λ (o : Option Kept). option_and_then (λ kept. pending_for kept a) o) k.1
      ∙ pending_is_since (up_to registry.front (changes journal)) registry.front k.0 a (tells.stands.kept client k.0 k.1) its
      ∙ ap (λ (n : ℕ). pending a (past n (up_to registry.front (changes journal)))) k.2

  -- so a feed of what is pending, with nothing elsewhere, is what changed at the client's addresses since it took
  pub fed-is : (feed : Fed) → IsStrictlySortedBy address_cmp (keys_of feed.changes) → feed.to ≡ registry.front
      → ((a : Address) → delta_at feed.changes a ≡ pending_of registry client a) → list_all (λ pair. is_in addresses pair.0) feed.changes ≡ true
      → feed ≡ feed_between journal addresses taken registry.front
  fed-is feed rising to is within =
      ap (λ (n : ℕ). let f : Fed = record { to = n; changes = feed.changes } in f) to
      ∙ ap (λ (ds : Deltas). let f : Fed = record { to = registry.front; changes = ds } in f)
      (same_pairs address_cmp address_laws.total-law address_cmp-equal feed.changes (with_changes [] chosen) rising (rising-with_changes chosen [] none-rising)
      (λ a. at a (is_in addresses a) refl ∙ sym (fed-is-pending (is_in addresses) a all)))
    where
      all : List Change
      all = between taken registry.front (changes journal)

      chosen : List Change
      chosen = filter (λ change. is_in addresses change.address) all

      at : (a : Address) (b : Bool) → is_in addresses a ≡ b → delta_at feed.changes a ≡ cond (is_in addresses a) (pending a all) None
      at a true e = is a ∙ pending-here a e ∙ sym (ap (λ b. cond b (pending a all) None) e)
      at a false e = nothing-elsewhere addresses feed.changes within a e ∙ sym (ap (λ b. cond b (pending a all) None) e)

-- a feed of a tail's changes at some addresses is what changed there
pub fed-from : {E : Type 0} (r : Result Fed E) (journal : Journal) (addresses : List Address) (from to : ℕ) (tail : Tail)
    → HasAll from to (between from to (changes journal)) tail → IfOk r (λ feed. feed.to ≡ tail.to)
    → IfOk r (λ feed. feed.changes ≡ with_changes [] (filter (λ change. is_in addresses change.address) tail.changes))
    → IfOk r (λ feed. feed ≡ feed_between journal addresses from to)
fed-from (Ok feed) journal addresses from to tail all ends is =
    ap (λ (n : ℕ). let f : Fed = record { to = n; changes = feed.changes } in f) (ends ∙ all.ends)
    ∙ ap (λ (ds : Deltas). let f : Fed = record { to = to; changes = ds } in f)
    (is ∙ ap (λ (cs : List Change). with_changes [] (filter (λ change. is_in addresses change.address) cs)) all.exact)
fed-from (Err e) journal addresses from to tail all ends is = tt

-- one without addresses is told of nothing
none-told : (cs : List Change) → filter (λ change. is_in [] change.address) cs ≡ []
none-told [] = refl
none-told (c ∷ cs) = none-told cs

pub fed-none : (journal : Journal) (addresses : List Address) (from to : ℕ) (feed : Fed) → addresses ≡ [] → feed ≡ begun to
    → feed ≡ feed_between journal addresses from to
fed-none journal addresses from to feed none is =
    is ∙ ap (λ (cs : List Change). let f : Fed = record { to = to; changes = with_changes [] cs } in f) (sym (none-told (between from to (changes journal))))
    ∙ ap (λ (at : List Address). feed_between journal at from to) (sym none)

-- ---- addresses in turn

-- of addresses the first of which is told next, each is told then or is left
pub told-next : (all rest : List Address) (address a : Address) → all ≡ address ∷ rest → (old new : Bool)
    → new ≡ cond (is_at (address_cmp address) a) true old → (old || is_in all a) ≡ true → (new || is_in rest a) ≡ true
told-next all rest address a split old new is before = by (is_at (address_cmp address) a) refl
  where
    by : (b : Bool) → is_at (address_cmp address) a ≡ b → (new || is_in rest a) ≡ true
    by true e = ap (λ b. b || is_in rest a) (is ∙ ap (λ b. cond b true old) e)
    by false e =
        ap (λ b. b || is_in rest a) (is ∙ ap (λ b. cond b true old) e)
        ∙ sym (ap (λ b. old || (b || is_in rest a)) ((eq_by_cmp_equiv address_laws.total-law).symm a address ∙ e))
        ∙ ap (λ (x : List Address). old || is_in x a) (sym split)
        ∙ before
