-- One that subscribes or unsubscribes goes on standing for changes.
use Rattle.std.proofs.Common.{◌≡◌, ℕ, Bool, true, false, not, cond, ◌||◌, List, [], ◌∷◌, ◌++◌, map, filter, refl, sym, ap, subst, ◌∙◌}
use Rattle.std.specs.List.{list_any}
use Rattle.std.specs.Cmp.{eq_by_cmp_equiv}
use Rattle.std.specs.Ordering.{match_ordering}
use Rattle.std.specs.declared.cmp.Ordering.{Ordering}
use Rattle.std.specs.declared.cmp.Ordering.TheVariants.{Less, Equal, Greater}
use Rattle.std.specs.Set.{remove_key}
use Rattle.std.specs.BTreeMap.{is_at}
use Rattle.std.specs.BTreeSet.{insert_key}
use Rattle.rdt_types.specs.declared.address.Address.{Address}
use Rattle.rdt_types.specs.declared.delta.Delta.{Delta}
use Rattle.rdt_types.specs.Addresses.{address_cmp}
use Rattle.rdt_types.specs.contracts.address.AddressOrd.TheImpl.Laws as addresses
use Rattle.rdt_types.proofs.Addresses.{address_cmp-equal}
use Rattle.change_feed.specs.declared.change.Change.{Change}
use Rattle.change_feed.specs.Changes.{past, of_address}
use Rattle.change_feed.specs.Pending.{deltas_at}
use Rattle.reactive_registry.specs.Registered.{Kept, is_address, unsubscribed, changes_elsewhere}
use Rattle.reactive_registry.specs.Standing.{KeptFor}
use Rattle.reactive_registry.specs.Laws.{SubscribesStand, UnsubscribesStand}
use Rattle.reactive_registry.proofs.Pairs.{same_address}
use Rattle.reactive_registry.proofs.Standing.{deltas-append}

-- ---- what passes one test and fails another

module _ {X : Type 0} (p q : X → Bool) where
  -- what passes both is what passes the first, where that passes the second
  both-pass : ((x : X) → p x ≡ true → q x ≡ true) → (xs : List X) → filter p (filter q xs) ≡ filter p xs
  both-pass also [] = refl
  both-pass also (x ∷ xs) = by (p x) (q x) refl refl (both-pass also xs)
    where
      by : (a b : Bool) → p x ≡ a → q x ≡ b → filter p (filter q xs) ≡ filter p xs
          → filter p (cond b (x ∷ filter q xs) (filter q xs)) ≡ cond a (x ∷ filter p xs) (filter p xs)
      by true true e f rest = rw e (ap (λ ys. x ∷ ys) rest)
      by true false e f rest = absurd (let g = also x e in cc)
      by false true e f rest = rw e rest
      by false false e f rest = rest

  -- nothing passes both, where what passes the first fails the second
  none-passes : ((x : X) → p x ≡ true → q x ≡ false) → (xs : List X) → filter p (filter q xs) ≡ []
  none-passes fails [] = refl
  none-passes fails (x ∷ xs) = by (p x) (q x) refl refl (none-passes fails xs)
    where
      by : (a b : Bool) → p x ≡ a → q x ≡ b → filter p (filter q xs) ≡ [] → filter p (cond b (x ∷ filter q xs) (filter q xs)) ≡ []
      by true true e f rest = absurd (let g = fails x e in cc)
      by true false e f rest = rest
      by false true e f rest = rw e rest
      by false false e f rest = rest

  -- whether any passes is the same among those that pass the second, where what passes the first passes it too
  any-of_both : ((x : X) → p x ≡ true → q x ≡ true) → (xs : List X) → list_any p (filter q xs) ≡ list_any p xs
  any-of_both also [] = refl
  any-of_both also (x ∷ xs) = by (p x) (q x) refl refl (any-of_both also xs)
    where
      by : (a b : Bool) → p x ≡ a → q x ≡ b → list_any p (filter q xs) ≡ list_any p xs
          → list_any p (cond b (x ∷ filter q xs) (filter q xs)) ≡ (a || list_any p xs)
      by true true e f rest = rw e refl
      by true false e f rest = absurd (let g = also x e in cc)
      by false true e f rest = rw e rest
      by false false e f rest = rest

  -- none of those that pass the second passes the first, where what passes the first fails the second
  any-of_none : ((x : X) → p x ≡ true → q x ≡ false) → (xs : List X) → list_any p (filter q xs) ≡ false
  any-of_none fails [] = refl
  any-of_none fails (x ∷ xs) = by (p x) (q x) refl refl (any-of_none fails xs)
    where
      by : (a b : Bool) → p x ≡ a → q x ≡ b → list_any p (filter q xs) ≡ false → list_any p (cond b (x ∷ filter q xs) (filter q xs)) ≡ false
      by true true e f rest = absurd (let g = fails x e in cc)
      by true false e f rest = rest
      by false true e f rest = rw e rest
      by false false e f rest = rest

-- where none passes, all are left
all-left : {X : Type 0} (p : X → Bool) (xs : List X) → list_any p xs ≡ false → filter (λ x. not (p x)) xs ≡ xs
all-left p [] e = refl
all-left p (x ∷ xs) e = by (all-left p xs) (p x) e
  where
    by : (list_any p xs ≡ false → filter (λ x. not (p x)) xs ≡ xs) → (b : Bool) → (b || list_any p xs) ≡ false
        → cond (not b) (x ∷ filter (λ x. not (p x)) xs) (filter (λ x. not (p x)) xs) ≡ x ∷ xs
    by rest true f = absurd (cc)
    by rest false f = ap (λ ys. x ∷ ys) (rest f)

-- a set without the first that passes is one without all, where none is left
pub without-all : {X : Type 0} (p : X → Bool) (xs : List X) → list_any p (remove_key p xs) ≡ false → remove_key p xs ≡ filter (λ x. not (p x)) xs
without-all p [] e = refl
without-all p (x ∷ xs) e = by (without-all p xs) (p x) refl e
  where
    later : (b : Bool) → b ≡ false → (b || list_any p (remove_key p xs)) ≡ false → list_any p (remove_key p xs) ≡ false
    later true e f = absurd (cc)
    later false e f = f

    by : (list_any p (remove_key p xs) ≡ false → remove_key p xs ≡ filter (λ x. not (p x)) xs) → (b : Bool) → p x ≡ b
        → list_any p (cond b xs (x ∷ remove_key p xs)) ≡ false
        → cond b xs (x ∷ remove_key p xs) ≡ cond (not b) (x ∷ filter (λ x. not (p x)) xs) (filter (λ x. not (p x)) xs)
    by rest true e f = sym (all-left p xs f)
    by rest false e f = ap (λ ys. x ∷ ys) (rest (later (p x) e f))

-- ---- addresses

-- what is at an address is not at another
apart : (a address x : Address) → is_at (address_cmp address) a ≡ false → is_at (address_cmp a) x ≡ true → is_at (address_cmp address) x ≡ false
apart a address x other here = ap (is_at (address_cmp address)) (sym (same_address a x here)) ∙ other

-- equal truths are equal when both are negated
flipped : (b c : Bool) → b ≡ c → not b ≡ not c
flipped b c e = ap not e

-- an address more is one of them
any-inserted : (a address : Address) (xs : List Address) → list_any (is_at (address_cmp a)) (insert_key address_cmp xs address)
    ≡ (is_at (address_cmp a) address || list_any (is_at (address_cmp a)) xs)
any-inserted a address [] = refl
any-inserted a address (x ∷ xs) = by (address_cmp address x) refl (any-inserted a address xs)
  where
    swapped : (b c d : Bool) → (b || (c || d)) ≡ (c || (b || d))
    swapped true true d = refl
    swapped true false d = refl
    swapped false c d = refl

    twice : (b d : Bool) → (b || d) ≡ (b || (b || d))
    twice true d = refl
    twice false d = refl

    by : (r : Ordering) → address_cmp address x ≡ r
        → list_any (is_at (address_cmp a)) (insert_key address_cmp xs address) ≡ (is_at (address_cmp a) address || list_any (is_at (address_cmp a)) xs)
        → list_any (is_at (address_cmp a)) (match_ordering r (address ∷ x ∷ xs) (x ∷ xs) (x ∷ insert_key address_cmp xs address))
        ≡ (is_at (address_cmp a) address || (is_at (address_cmp a) x || list_any (is_at (address_cmp a)) xs))
    by Less e rest = refl
    by Equal e rest =
        twice (is_at (address_cmp a) x) (list_any (is_at (address_cmp a)) xs)
        ∙ ap (λ y. is_at (address_cmp a) y || (is_at (address_cmp a) x || list_any (is_at (address_cmp a)) xs)) (sym (address_cmp-equal address x e))
    by Greater e rest =
        ap (λ b. is_at (address_cmp a) x || b) rest ∙ swapped (is_at (address_cmp a) x) (is_at (address_cmp a) address) (list_any (is_at (address_cmp a)) xs)

-- ---- the laws

-- the deltas of changes
abbrev of : List Change → List Delta
of all = map (λ change. change.delta) all

-- at the address that went nothing is left, of changes and of the address; elsewhere both are as they were
pub unsubscribes_stand : UnsubscribesStand
unsubscribes_stand changes front kept address stands = record {
  taken = stands.taken;
  deltas = λ a. by a (is_at (address_cmp address) a) refl;
}
  where
    there : deltas_at address (changes_elsewhere address kept.changes) ≡ cond (is_address (unsubscribed address kept) address)
        (deltas_at address (past kept.taken changes)) []
    there =
        ap of (none-passes (λ c. is_at (address_cmp address) c.address) (λ c. not (is_at (address_cmp address) c.address))
        (λ c e. flipped (is_at (address_cmp address) c.address) true e) kept.changes)
        ∙ sym (ap (λ b. cond b (deltas_at address (past kept.taken changes)) [])
        (any-of_none (is_at (address_cmp address)) (λ x. not (is_at (address_cmp address) x))
        (λ x e. flipped (is_at (address_cmp address) x) true e) kept.addresses))

    by : (a : Address) (b : Bool) → is_at (address_cmp address) a ≡ b
        → deltas_at a (changes_elsewhere address kept.changes) ≡ cond (is_address (unsubscribed address kept) a) (deltas_at a (past kept.taken changes)) []
    by a true e =
        subst (λ x. deltas_at x (changes_elsewhere address kept.changes) ≡ cond (is_address (unsubscribed address kept) x)
        (deltas_at x (past kept.taken changes)) [])
        (same_address address a e) there
    by a false e =
        ap of (both-pass (λ c. is_at (address_cmp a) c.address) (λ c. not (is_at (address_cmp address) c.address))
        (λ c h. flipped (is_at (address_cmp address) c.address) false (apart a address c.address e h)) kept.changes)
        ∙ stands.deltas a
        ∙ sym (ap (λ b. cond b (deltas_at a (past kept.taken changes)) [])
        (any-of_both (is_at (address_cmp a)) (λ x. not (is_at (address_cmp address) x))
        (λ x h. flipped (is_at (address_cmp address) x) false (apart a address x e h)) kept.addresses))

module _ (changes missed : List Change) (front : ℕ) (kept : Kept) (address : Address) (stands : KeptFor changes front kept)
    (all : deltas_at address missed ≡ deltas_at address (past kept.taken changes)) where
  -- what is kept with the address and with what it missed there
  abbrev more : Kept
  more = record kept { addresses = insert_key address_cmp kept.addresses address; changes = kept.changes ++ of_address address missed }

  -- at the new address nothing was kept, so what it missed there is all that is past the number taken last
  here : is_address kept address ≡ false → is_at (address_cmp address) address ≡ true
      → deltas_at address more.changes ≡ cond (is_address more address) (deltas_at address (past kept.taken changes)) []
  here new self =
      deltas-append address kept.changes (of_address address missed)
      ∙ ap (λ ds. ds ++ deltas_at address (of_address address missed)) (stands.deltas address
      ∙ ap (λ b. cond b (deltas_at address (past kept.taken changes)) []) new)
      ∙ ap of (both-pass (λ c. is_at (address_cmp address) c.address) (λ c. is_at (address_cmp address) c.address) (λ c e. e) missed)
      ∙ all
      ∙ sym (ap (λ b. cond b (deltas_at address (past kept.taken changes)) [])
      (any-inserted address address kept.addresses ∙ ap (λ b. b || is_address kept address) self))

  -- at another address neither the missed changes nor the new address count, so it stands as before
  elsewhere : (a : Address) → is_at (address_cmp address) a ≡ false
      → deltas_at a more.changes ≡ cond (is_address more a) (deltas_at a (past kept.taken changes)) []
  elsewhere a other =
      deltas-append a kept.changes (of_address address missed)
      ∙ ap (λ ds. deltas_at a kept.changes ++ of ds) (none-passes (λ c. is_at (address_cmp a) c.address) (λ c. is_at (address_cmp address) c.address)
      (λ c h. apart a address c.address other h) missed)
      ∙ nothing (deltas_at a kept.changes)
      ∙ stands.deltas a
      ∙ sym (ap (λ b. cond b (deltas_at a (past kept.taken changes)) []) (any-inserted a address kept.addresses
      ∙ ap (λ b. b || is_address kept a) ((eq_by_cmp_equiv addresses.total-law).symm a address ∙ other)))
    where
      nothing : (ds : List Delta) → ds ++ [] ≡ ds
      nothing [] = refl
      nothing (d ∷ ds) = ap (λ es. d ∷ es) (nothing ds)

  -- so it goes on standing with one address more, by whether an address is the new one
  one-more : is_address kept address ≡ false → KeptFor changes front more
  one-more new = record { taken = stands.taken; deltas = λ a. by a (is_at (address_cmp address) a) refl }
    where
      by : (a : Address) (b : Bool) → is_at (address_cmp address) a ≡ b → deltas_at a more.changes
          ≡ cond (is_address more a) (deltas_at a (past kept.taken changes)) []
      by a true e =
          let same : address ≡ a = same_address address a e in
          subst (λ x. deltas_at x more.changes ≡ cond (is_address more x) (deltas_at x (past kept.taken changes)) []) same
          (here new (ap (is_at (address_cmp address)) same ∙ e))
      by a false e = elsewhere a e

-- by whether it is subscribed already: then nothing changes, else it has one address more
pub subscribes_stand : SubscribesStand
subscribes_stand changes missed front kept address stands all = by (is_address kept address) refl
  where
    by : (b : Bool) → is_address kept address ≡ b
        → KeptFor changes front (cond b kept (record kept {
          addresses = insert_key address_cmp kept.addresses address;
          changes = kept.changes ++ of_address address missed;
        }))
    by true e = stands
    by false e = one-more changes missed front kept address stands all e
