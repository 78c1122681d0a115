-- The versions of one address, change by change.
use Rattle.std.proofs.Common.{◌≡◌, ℕ, ◌-◌, ◌<◌, ◌≤◌, zero, suc, Bool, true, false, cond, nat_lt, nat_le, List, [], ◌∷◌, ◌++◌, fold, take}
use Rattle.std.proofs.Common.{refl, sym, ap, ◌∙◌, subst, arith, append-nil, append_assoc, ◌⊎◌, inl, inr}
use Rattle.std.specs.List.{AllByRecursion}
use Rattle.std.specs.BTreeMap.{is_at}
use Rattle.std.specs.Cmp.{eq_by_cmp_equiv}
use Rattle.std.proofs.lemmas.List.Elements.{filter-append}
use Rattle.std.proofs.lemmas.List.{map-append}
use Rattle.std.proofs.lemmas.Bool.{cases_lt}
use Rattle.plain_data.proofs.Entries.{equal}
use Rattle.rdt_types.specs.declared.address.Address.{Address}
use Rattle.rdt_types.specs.declared.value.Value.{Value}
use Rattle.rdt_types.specs.contracts.address.AddressOrd.TheImpl.Laws as order
use Rattle.rdt_types.specs.Addresses.{address_cmp}
use Rattle.rdt_types.specs.Deltas.{apply}
use Rattle.rdt_types.proofs.Addresses.{address_cmp-equal}
use Rattle.change_feed.specs.declared.change.Change.{Change}
use Rattle.journal_core.specs.Changes as journals
use Rattle.journal_core.specs.Changes.{of_address}
use Rattle.journal_core.proofs.ByShard.{swapped}
use Rattle.journal_core.proofs.Each.{each-append}
use Rattle.version_shard.specs.declared.version.Version.{Version}
use Rattle.version_shard.specs.Versions.{Versioned, value_after, up_to, value_at, past, as_changes, changed, trimmed_from, trimmed}
use Rattle.version_shard.specs.Shards.{horizon_at}
use Rattle.version_shard.specs.code.Following.{followed, followed_along, cut_along}
use Rattle.version_shard.proofs.Numbered.{below, below-lesser, below-greater}
use Rattle.version_shard.proofs.Chains.{value_after-append}

-- ---- one address

-- a value after changes, one by one
abbrev pub left : Value → List Change → Value
left base own = fold (λ value change. apply change.delta value) base own

-- changes and then others leave what the others make of what the first leave
pub left-append : (base : Value) (xs ys : List Change) → left base (xs ++ ys) ≡ left (left base xs) ys
left-append base [] ys = refl
left-append base (x ∷ xs) ys = left-append (apply x.delta base) xs ys

-- Versions stand for the changes at an address from a horizon on: they have the value at each number, and the changes past it.
pub record Stands (address : Address) (horizon : ℕ) (base : Value) (own : List Change) (v : Versioned) : Type 0 where
  pub values : (n : ℕ) → horizon ≤ n → value_at v n ≡ left base (journals.up_to n own)
  pub changes : (n : ℕ) → horizon ≤ n → as_changes address (past n v.later) ≡ journals.past n own

-- ---- what is let go at a horizon

-- from the horizon on each number has its value, since all that was let go is up to it
pub trimmed-at : (h n : ℕ) (base : Value) (later : List Version) → h ≤ n
    → value_at (trimmed_from h base later) n ≡ value_after base (below (λ (x : Version). x.number) n later)
trimmed-at h n base [] within = refl
trimmed-at h n base (x ∷ rest) within = by (nat_le x.number h) refl (trimmed-at h n (apply x.delta base) rest within)
  where
    by : (b : Bool) → nat_le x.number h ≡ b → value_at (trimmed_from h (apply x.delta base) rest) n ≡ value_after (apply x.delta base) (below (λ (x : Version). x.number) n rest)
        → value_at (cond b (trimmed_from h (apply x.delta base) rest) (record { base = base; later = x ∷ rest })) n
        ≡ value_after base (below (λ (x : Version). x.number) n (x ∷ rest))
    by true e again = let here : nat_le x.number n ≡ true = grind (arith, within, e) in again ∙ sym (rw here refl)
    by false e again = refl

-- and nothing past it was let go
pub trimmed-past : (h n : ℕ) (base : Value) (later : List Version) → h ≤ n → past n (trimmed_from h base later).later ≡ past n later
trimmed-past h n base [] within = refl
trimmed-past h n base (x ∷ rest) within = by (nat_le x.number h) refl (trimmed-past h n (apply x.delta base) rest within)
  where
    by : (b : Bool) → nat_le x.number h ≡ b → past n (trimmed_from h (apply x.delta base) rest).later ≡ past n rest
        → past n (cond b (trimmed_from h (apply x.delta base) rest) (record { base = base; later = x ∷ rest })).later ≡ past n (x ∷ rest)
    by true e again = let out : nat_lt n x.number ≡ false = grind (arith, within, e) in again ∙ sym (rw out refl)
    by false e again = refl

-- what holds of each version holds of those that stay
pub trimmed-all : (P : Version → Type 0) (h : ℕ) (base : Value) (later : List Version) → AllByRecursion P later
    → AllByRecursion P (trimmed_from h base later).later
trimmed-all P h base [] all = tt
trimmed-all P h base (x ∷ rest) all = by (nat_le x.number h) (trimmed-all P h (apply x.delta base) rest all.1)
  where
    by : (b : Bool) → AllByRecursion P (trimmed_from h (apply x.delta base) rest).later
        → AllByRecursion P (cond b (trimmed_from h (apply x.delta base) rest) (record { base = base; later = x ∷ rest })).later
    by true again = again
    by false again = all

-- ---- one change more

module _ (a : Address) (h : ℕ) (base : Value) (own : List Change) (c : Change) (v : Versioned) (at : c.address ≡ a) (stands : Stands a h base own v) where
  -- the version that it makes
  abbrev version : Version
  version = record { number = c.number; delta = c.delta }

  -- at its number and past it the new version makes of the old ones' value what the change does, and before it they count alone
  changed-at : (n : ℕ) → h ≤ n → value_at (changed c.number c.delta v) n ≡ left base (journals.up_to n (own ++ c ∷ []))
  changed-at n within =
      ap (value_after v.base) (filter-append (λ x. nat_le x.number n) v.later (version ∷ []))
      ∙ value_after-append v.base (below (λ (x : Version). x.number) n v.later) (below (λ (x : Version). x.number) n (version ∷ []))
      ∙ ap (λ value. value_after value (below (λ (x : Version). x.number) n (version ∷ []))) (stands.values n within)
      ∙ by (nat_le c.number n)
      ∙ sym (left-append base (journals.up_to n own) (journals.up_to n (c ∷ [])))
      ∙ ap (left base) (sym (filter-append (λ d. nat_le d.number n) own (c ∷ [])))
    where
      by : (b : Bool) → value_after (left base (journals.up_to n own)) (cond b (version ∷ []) []) ≡ left (left base (journals.up_to n own)) (cond b (c ∷ []) [])
      by true = refl
      by false = refl

  -- past a number stand the changes as before, and the new one where its number is past it
  changed-past : (n : ℕ) → h ≤ n → as_changes a (past n (changed c.number c.delta v).later) ≡ journals.past n (own ++ c ∷ [])
  changed-past n within =
      ap (as_changes a) (filter-append (λ x. nat_lt n x.number) v.later (version ∷ []))
      ∙ map-append (λ x. record { number = x.number; address = a; delta = x.delta }) (past n v.later) (past n (version ∷ []))
      ∙ ap (λ l. l ++ as_changes a (past n (version ∷ []))) (stands.changes n within)
      ∙ ap (λ l. journals.past n own ++ l) (by (nat_lt n c.number))
      ∙ sym (filter-append (λ d. nat_lt n d.number) own (c ∷ []))
    where
      same : record { number = c.number; address = a; delta = c.delta } ≡ c
      same = ap (λ (b : Address). record { number = c.number; address = b; delta = c.delta }) (sym at)

      by : (b : Bool) → as_changes a (cond b (version ∷ []) []) ≡ cond b (c ∷ []) []
      by true = ap (λ (d : Change). d ∷ []) same
      by false = refl

  -- so the versions with one more stand for the changes with one more
  pub changed-stands : Stands a h base (own ++ c ∷ []) (changed c.number c.delta v)
  changed-stands = record { values = changed-at; changes = changed-past }

-- versions that are trimmed at a horizon go on standing from it on, or from a greater one
pub trimmed-stands : (a : Address) (h k : ℕ) (base : Value) (own : List Change) (v : Versioned) → Stands a h base own v → k ≤ h
    → Stands a h base own (trimmed k v)
trimmed-stands a h k base own v stands within = record {
  values = λ n le. trimmed-at k n v.base v.later (omega (arith, le, within)) ∙ stands.values n le;
  changes = λ n le. ap (as_changes a) (trimmed-past k n v.base v.later (omega (arith, le, within))) ∙ stands.changes n le;
}

-- they stand from a greater horizon on too
pub stands-later : (a : Address) (h k : ℕ) (base : Value) (own : List Change) (v : Versioned) → Stands a h base own v → h ≤ k → Stands a k base own v
stands-later a h k base own v stands within = record {
  values = λ n le. stands.values n (omega (arith, le, within));
  changes = λ n le. stands.changes n (omega (arith, le, within));
}

-- ---- changes one by one

module _ (a : Address) (window h : ℕ) (base : Value) where
  -- each change at the address adds a version, and lets go only what is up to the horizon; others leave all as it is
  pub along-stands : (changes own : List Change) (v : Versioned) → Stands a h base own v
      → AllByRecursion (λ c. horizon_at window (c.number - 1) ≤ h) changes
      → Stands a h base (own ++ of_address a changes) (followed_along window a changes v)
  along-stands [] own v stands near = subst (λ (l : List Change). Stands a h base l v) (sym (append-nil own)) stands
  along-stands (c ∷ rest) own v stands near = by (is_at (address_cmp c.address) a) refl (λ more w is. along-stands rest more w is near.1)
    where
      there : (b : Bool) → is_at (address_cmp c.address) a ≡ b → is_at (address_cmp a) c.address ≡ b
      there b e = (eq_by_cmp_equiv order.total-law).symm a c.address ∙ e

      by : (b : Bool) → is_at (address_cmp c.address) a ≡ b
          → ((more : List Change) (w : Versioned) → Stands a h base more w → Stands a h base (more ++ of_address a rest) (followed_along window a rest w))
          → Stands a h base (own ++ of_address a (c ∷ rest)) (followed_along window a rest (cond b (followed window c v) v))
      by true e again =
          rw (there true e)
          (subst (λ (l : List Change). Stands a h base l (followed_along window a rest (followed window c v))) (append_assoc own (c ∷ []) (of_address a rest))
          (again (own ++ c ∷ []) (followed window c v)
          (trimmed-stands a h (horizon_at window (c.number - 1)) base (own ++ c ∷ []) (changed c.number c.delta v)
          (changed-stands a h base own c v (address_cmp-equal c.address a (equal _ e)) stands) near.0)))
      by false e again = rw (there false e) (again own v stands)

-- ---- the way back

-- cut back to a number not below the horizon, the versions stand for the changes up to it, by which cut is the lesser
pub cut-stands : (a : Address) (h r : ℕ) (base : Value) (own : List Change) (v : Versioned) → Stands a h base own v → h ≤ r
    → Stands a h base (journals.up_to r own) (up_to r v)
cut-stands a h r base own v stands within = record {
  values = λ n le. by n le (cases_lt r n);
  changes = λ n le.
      ap (as_changes a) (swapped (λ x. nat_lt n x.number) (λ x. nat_le x.number r) v.later)
      ∙ as_changes-below (past n v.later)
      ∙ ap (journals.up_to r) (stands.changes n le)
      ∙ swapped (λ d. nat_le d.number r) (λ d. nat_lt n d.number) own;
}
  where
    as_changes-below : (later : List Version) → as_changes a (below (λ (x : Version). x.number) r later) ≡ journals.up_to r (as_changes a later)
    as_changes-below [] = refl
    as_changes-below (x ∷ rest) = cut (nat_le x.number r) (as_changes-below rest)
      where
        cut : (b : Bool) → as_changes a (below (λ (x : Version). x.number) r rest) ≡ journals.up_to r (as_changes a rest)
            → as_changes a (cond b (x ∷ below (λ (x : Version). x.number) r rest) (below (λ (x : Version). x.number) r rest))
            ≡ cond b (record { number = x.number; address = a; delta = x.delta } ∷ journals.up_to r (as_changes a rest)) (journals.up_to r (as_changes a rest))
        cut true e = ap (λ l. record { number = x.number; address = a; delta = x.delta } ∷ l) e
        cut false e = e

    by : (n : ℕ) → h ≤ n → (r < n) ⊎ (n ≤ r) → value_at (up_to r v) n ≡ left base (journals.up_to n (journals.up_to r own))
    by n le (inr low) =
        ap (value_after v.base) (below-lesser (λ (x : Version). x.number) n r v.later low)
        ∙ stands.values n le
        ∙ ap (left base) (sym (below-lesser (λ (d : Change). d.number) n r own low))
    by n le (inl high) =
        ap (value_after v.base) (below-greater (λ (x : Version). x.number) r n v.later (omega (arith, high)))
        ∙ stands.values r within
        ∙ ap (left base) (sym (below-greater (λ (d : Change). d.number) r n own (omega (arith, high))))

-- cut at the addresses of some changes it is cut, or none of them is at its address
pub cut-or-not : (r : ℕ) (a : Address) (changes : List Change) (x : Versioned)
    → (cut_along r a changes x ≡ up_to r x) ⊎ ((cut_along r a changes x ≡ x) × AllByRecursion (λ c. is_at (address_cmp c.address) a ≡ false) changes)
cut-or-not r a [] x = inr (refl, tt)
cut-or-not r a (c ∷ rest) x = by (is_at (address_cmp c.address) a) refl (cut-or-not r a rest)
  where
    twice : up_to r (up_to r x) ≡ up_to r x
    twice = ap (λ l. record x { later = l }) (below-lesser (λ (y : Version). y.number) r r x.later (omega arith))

    by : (b : Bool) → is_at (address_cmp c.address) a ≡ b
        → ((y : Versioned) → (cut_along r a rest y ≡ up_to r y) ⊎ ((cut_along r a rest y ≡ y)
        × AllByRecursion (λ c. is_at (address_cmp c.address) a ≡ false) rest))
        → (cut_along r a rest (cond b (up_to r x) x) ≡ up_to r x)
        ⊎ ((cut_along r a rest (cond b (up_to r x) x) ≡ x) × AllByRecursion (λ c. is_at (address_cmp c.address) a ≡ false) (c ∷ rest))
    by true e again = first (again (up_to r x))
      where
        first : (cut_along r a rest (up_to r x) ≡ up_to r (up_to r x)) ⊎ ((cut_along r a rest (up_to r x) ≡ up_to r x)
            × AllByRecursion (λ c. is_at (address_cmp c.address) a ≡ false) rest)
            → (cut_along r a rest (up_to r x) ≡ up_to r x)
            ⊎ ((cut_along r a rest (up_to r x) ≡ x) × AllByRecursion (λ c. is_at (address_cmp c.address) a ≡ false) (c ∷ rest))
        first (inl is) = inl (is ∙ twice)
        first (inr is) = inl is.0
    by false e again = second (again x)
      where
        second : (cut_along r a rest x ≡ up_to r x) ⊎ ((cut_along r a rest x ≡ x) × AllByRecursion (λ c. is_at (address_cmp c.address) a ≡ false) rest)
            → (cut_along r a rest x ≡ up_to r x)
            ⊎ ((cut_along r a rest x ≡ x) × AllByRecursion (λ c. is_at (address_cmp c.address) a ≡ false) (c ∷ rest))
        second (inl is) = inl is
        second (inr is) = inr (is.0, (e, is.1))

-- changes elsewhere are not followed
pub not_followed : (window : ℕ) (a : Address) (changes : List Change) (count : ℕ) (v : Versioned)
    → AllByRecursion (λ c. is_at (address_cmp c.address) a ≡ false) changes → followed_along window a (take count changes) v ≡ v
not_followed window a [] zero v apart = refl
not_followed window a [] (suc count) v apart = refl
not_followed window a (c ∷ rest) zero v apart = refl
not_followed window a (c ∷ rest) (suc count) v apart =
    ap (λ b. followed_along window a (take count rest) (cond b (followed window c v) v)) apart.0 ∙ not_followed window a rest count v apart.1

-- versions up to a number that followed some changes, and are then cut at the addresses of all, are cut to it
pub cut_back : (r window : ℕ) (a : Address) (changes : List Change) (count : ℕ) (v : Versioned) → up_to r v ≡ v
    → cut_along r a changes (followed_along window a (take count changes) v) ≡ up_to r (followed_along window a (take count changes) v)
cut_back r window a changes count v same = by (cut-or-not r a changes (followed_along window a (take count changes) v))
  where
    by : (cut_along r a changes (followed_along window a (take count changes) v) ≡ up_to r (followed_along window a (take count changes) v))
        ⊎ ((cut_along r a changes (followed_along window a (take count changes) v) ≡ followed_along window a (take count changes) v)
        × AllByRecursion (λ c. is_at (address_cmp c.address) a ≡ false) changes)
        → cut_along r a changes (followed_along window a (take count changes) v) ≡ up_to r (followed_along window a (take count changes) v)
    by (inl is) = is
    by (inr is) =
        let untouched = not_followed window a changes count v is.1 in
        is.0 ∙ untouched ∙ sym same ∙ ap (up_to r) (sym untouched)

-- ---- what holds of each version

module _ (P : Version → Type 0) (Q : Change → Type 0) (a : Address) (window : ℕ)
    (fits : (c : Change) → c.address ≡ a → Q c → P (record { number = c.number; delta = c.delta })) where
  -- what fits each change at the address holds of the version made of it, and trimming keeps it of those that stay
  pub along-all : (changes : List Change) (v : Versioned) → AllByRecursion Q changes → AllByRecursion P v.later
      → AllByRecursion P (followed_along window a changes v).later
  along-all [] v are all = all
  along-all (c ∷ rest) v are all = by (is_at (address_cmp c.address) a) refl (λ w every. along-all rest w are.1 every)
    where
      by : (b : Bool) → is_at (address_cmp c.address) a ≡ b
          → ((w : Versioned) → AllByRecursion P w.later → AllByRecursion P (followed_along window a rest w).later)
          → AllByRecursion P (followed_along window a rest (cond b (followed window c v) v)).later
      by true e again =
          again (followed window c v)
          (trimmed-all P (horizon_at window (c.number - 1)) v.base (changed c.number c.delta v).later
          (each-append P v.later (record { number = c.number; delta = c.delta } ∷ []) all (fits c (address_cmp-equal c.address a (equal _ e)) are.0, tt)))
      by false e again = again v all
