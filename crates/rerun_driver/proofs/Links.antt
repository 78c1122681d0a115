-- The numbers at addresses, once a set was put, lent or taken there.
use Rattle.std.proofs.Common.{◌≡◌, ℕ, ◌+◌, ◌<◌, ◌≤◌, arith, ◌⊎◌, inl, inr, ⊎_elim, Bool, true, false, cond, nat_eq}
use Rattle.std.proofs.Common.{zero, suc, List, [], length, get_or, drop, Option, Some, None, refl, sym, ap, ◌∙◌, ◌∷◌, ◌||◌, suc-ne-zero, true≢false}
use Rattle.std.proofs.lemmas.Bool.{eq-eqb, eqb-true, or_cases, or_left, or_right}
use Rattle.std.specs.Cmp.{eq_by_cmp_equiv}
use Rattle.std.specs.Option.{option_map_or}
use Rattle.std.specs.BTreeMap.{is_at}
use Rattle.std.specs.Ordering.{is_ne}
use Rattle.std.specs.declared.cmp.Ordering.{Ordering}
use Rattle.std.specs.declared.cmp.Ordering.TheVariants.{Less, Equal, Greater}
use Rattle.rdt_types.specs.declared.address.Address.{Address}
use Rattle.rdt_types.specs.Addresses.{address_cmp}
use Rattle.rdt_types.specs.contracts.address.AddressOrd.TheImpl.Laws as addresses
use Rattle.plain_data.proofs.Merging.{drop-item}
use Rattle.txn_lang.specs.declared.run.Seen.{Seen}
use Rattle.rerun_driver.specs.Watches.{is_observed_by}
use Rattle.rerun_driver.specs.code.Numbers.{Roomy, is_among, with_number, without_number}
use Rattle.rerun_driver.proofs.Rising.{among-with, among-without, among-fewer}

-- the numbers of a set that may be there
abbrev pub items : Option Roomy → List ℕ
items set = option_map_or (λ (s : Roomy). s.0) set []

module _ (f g : Address → Option Roomy) (k : Address) where
  -- one set is put at an address, and has what was made of those that were there
  pub put-at : (h : List ℕ → List ℕ) (new : Roomy) → ((a : Address) → g a ≡ cond (is_at (address_cmp k) a) (Some new) (f a))
      → ((a : Address) → is_at (address_cmp k) a ≡ true → new.0 ≡ h (items (f a)))
      → (a : Address) → items (g a) ≡ cond (is_at (address_cmp k) a) (h (items (f a))) (items (f a))
  put-at h new puts says a = ap items (puts a) ∙ by (is_at (address_cmp k) a) (says a)
    where
      by : (b : Bool) → (b ≡ true → new.0 ≡ h (items (f a))) → items (cond b (Some new) (f a)) ≡ cond b (h (items (f a))) (items (f a))
      by true same = same refl
      by false same = refl

  -- and if these are the same, all are
  pub same-at : (new : Roomy) → ((a : Address) → g a ≡ cond (is_at (address_cmp k) a) (Some new) (f a))
      → ((a : Address) → is_at (address_cmp k) a ≡ true → new.0 ≡ items (f a)) → (a : Address) → items (g a) ≡ items (f a)
  same-at new puts says a = put-at (λ xs. xs) new puts says a ∙ by (is_at (address_cmp k) a)
    where
      by : (b : Bool) → cond b (items (f a)) (items (f a)) ≡ items (f a)
      by true = refl
      by false = refl

  -- a set without numbers is taken from an address
  pub gone-at : ((a : Address) → g a ≡ cond (is_at (address_cmp k) a) None (f a))
      → ((a : Address) → is_at (address_cmp k) a ≡ true → items (f a) ≡ []) → (a : Address) → items (g a) ≡ items (f a)
  gone-at takes empty a = ap items (takes a) ∙ by (is_at (address_cmp k) a) (empty a)
    where
      by : (b : Bool) → (b ≡ true → items (f a) ≡ []) → items (cond b None (f a)) ≡ items (f a)
      by true none = sym (none refl)
      by false none = refl

  -- where there is no set, what is made of no numbers is none
  pub nowhere-at : (h : List ℕ → List ℕ) → h [] ≡ [] → ((a : Address) → g a ≡ f a) → ((a : Address) → is_at (address_cmp k) a ≡ true → f a ≡ None)
      → (a : Address) → items (g a) ≡ cond (is_at (address_cmp k) a) (h (items (f a))) (items (f a))
  nowhere-at h none same out a = ap items (same a) ∙ by (is_at (address_cmp k) a) (out a)
    where
      by : (b : Bool) → (b ≡ true → f a ≡ None) → items (f a) ≡ cond b (h (items (f a))) (items (f a))
      by true nothing = ap items (nothing refl) ∙ sym none ∙ sym (ap (λ o. h (items o)) (nothing refl))
      by false nothing = refl

  -- a number that the set at an address hasn't stands nowhere there
  pub none-at : (n : ℕ) (new : Roomy) → ((a : Address) → g a ≡ cond (is_at (address_cmp k) a) (Some new) (f a)) → is_among new.0 n ≡ false
      → (a : Address) → is_at (address_cmp k) a ≡ true → is_among (items (g a)) n ≡ false
  none-at n new puts none a at = ap (λ o. is_among (items o) n) (puts a ∙ ap (λ b. cond b (Some new) (f a)) at) ∙ none

  -- nor does any where there is no set
  pub nobody-at : (n : ℕ) → ((a : Address) → g a ≡ f a) → ((a : Address) → is_at (address_cmp k) a ≡ true → f a ≡ None)
      → (a : Address) → is_at (address_cmp k) a ≡ true → is_among (items (g a)) n ≡ false
  nobody-at n same out a at = ap (λ o. is_among (items o) n) (same a ∙ out a at)

-- ---- one number put at an address, or taken from it

module _ (g h : Address → List ℕ) (k : Address) (n : ℕ) where
  -- who stood somewhere stands there
  pub stays-put : ((a : Address) → h a ≡ cond (is_at (address_cmp k) a) (with_number (g a) n) (g a))
      → (a : Address) (m : ℕ) → is_among (g a) m ≡ true → is_among (h a) m ≡ true
  stays-put puts a m e = ap (λ xs. is_among xs m) (puts a) ∙ by (is_at (address_cmp k) a)
    where
      by : (b : Bool) → is_among (cond b (with_number (g a) n) (g a)) m ≡ true
      by true = among-with (g a) n m ∙ or_right (nat_eq n m) (is_among (g a) m) e
      by false = e

  -- and the number stands at its address
  pub there-put : ((a : Address) → h a ≡ cond (is_at (address_cmp k) a) (with_number (g a) n) (g a))
      → (a : Address) → is_at (address_cmp k) a ≡ true → is_among (h a) n ≡ true
  there-put puts a e =
      ap (λ xs. is_among xs n) (puts a ∙ ap (λ b. cond b (with_number (g a) n) (g a)) e)
      ∙ among-with (g a) n n ∙ or_left (nat_eq n n) (is_among (g a) n) (eq-eqb n n refl)

  -- the others stay where one is taken
  pub stays-out : ((a : Address) → h a ≡ cond (is_at (address_cmp k) a) (without_number (g a) n) (g a))
      → (a : Address) (m : ℕ) → nat_eq n m ≡ false → is_among (h a) m ≡ is_among (g a) m
  stays-out takes a m other = ap (λ xs. is_among xs m) (takes a) ∙ by (is_at (address_cmp k) a)
    where
      by : (b : Bool) → is_among (cond b (without_number (g a) n) (g a)) m ≡ is_among (g a) m
      by true = among-without (g a) n m other
      by false = refl

  -- who stands somewhere stood there, or is the one that is put
  pub only-put : ((a : Address) → h a ≡ cond (is_at (address_cmp k) a) (with_number (g a) n) (g a))
      → (a : Address) (m : ℕ) → is_among (h a) m ≡ true → (is_among (g a) m ≡ true) ⊎ ((n ≡ m) × (is_at (address_cmp k) a ≡ true))
  only-put puts a m e = by (is_at (address_cmp k) a) refl (sym (ap (λ xs. is_among xs m) (puts a)) ∙ e)
    where
      by : (b : Bool) → is_at (address_cmp k) a ≡ b → is_among (cond b (with_number (g a) n) (g a)) m ≡ true
          → (is_among (g a) m ≡ true) ⊎ ((n ≡ m) × (is_at (address_cmp k) a ≡ true))
      by true f e =
          ⊎_elim (λ new. inr (eqb-true n m new, f)) (λ was. inl was) (or_cases (nat_eq n m) (is_among (g a) m) (sym (among-with (g a) n m) ∙ e))
      by false f e = inl e

  -- who stands somewhere when one is taken stood there before
  pub fewer-out : ((a : Address) → h a ≡ cond (is_at (address_cmp k) a) (without_number (g a) n) (g a))
      → (a : Address) (m : ℕ) → is_among (h a) m ≡ true → is_among (g a) m ≡ true
  fewer-out takes a m e = by (is_at (address_cmp k) a) (sym (ap (λ xs. is_among xs m) (takes a)) ∙ e)
    where
      by : (b : Bool) → is_among (cond b (without_number (g a) n) (g a)) m ≡ true → is_among (g a) m ≡ true
      by true f = among-fewer (g a) n m f
      by false f = f

-- what is observed from a place on is observed
observed-behind : (xs : List Seen) (i : ℕ) (a : Address) → is_observed_by a (drop i xs) ≡ true → is_observed_by a xs ≡ true
observed-behind xs zero a e = e
observed-behind [] (suc i) a e = e
observed-behind (x ∷ xs) (suc i) a e = or_right (is_at (address_cmp a) x.address) (is_observed_by a xs) (observed-behind xs i a e)

-- what stands at a place was observed
observed-at : (observations : List Seen) (i : ℕ) (seen : Seen) → i < length observations → get_or observations i seen ≡ seen
    → (a : Address) → is_at (address_cmp seen.address) a ≡ true → is_observed_by a observations ≡ true
observed-at observations i seen within is a there =
    observed-behind observations i a (ap (is_observed_by a) (drop-item observations i seen within is)
    ∙ or_left (is_at (address_cmp a) seen.address) (is_observed_by a (drop (i + 1) observations))
    ((eq_by_cmp_equiv addresses.total-law).symm a seen.address ∙ there))

-- once a number was put at the next observed address, it still stands at observed ones alone, beside who stood there
pub only-next : (f g h : Address → List ℕ) (n i : ℕ) (observations : List Seen) (seen : Seen) → i < length observations → get_or observations i seen ≡ seen
    → ((a : Address) → h a ≡ cond (is_at (address_cmp seen.address) a) (with_number (g a) n) (g a))
    → ((a : Address) (m : ℕ) → is_among (g a) m ≡ true → (is_among (f a) m ≡ true) ⊎ ((n ≡ m) × (is_observed_by a observations ≡ true)))
    → (a : Address) (m : ℕ) → is_among (h a) m ≡ true → (is_among (f a) m ≡ true) ⊎ ((n ≡ m) × (is_observed_by a observations ≡ true))
only-next f g h n i observations seen within is puts so a m e =
    ⊎_elim (λ was. so a m was) (λ new. inr (new.0, observed-at observations i seen within is a new.1)) (only-put g h seen.address n puts a m e)

-- once it was taken from the next one, it stands at none so far
pub gone-next : (g h : Address → List ℕ) (n i : ℕ) (observations : List Seen) (seen : Seen) → i < length observations → get_or observations i seen ≡ seen
    → ((a : Address) → h a ≡ cond (is_at (address_cmp seen.address) a) (without_number (g a) n) (g a))
    → ((a : Address) → is_at (address_cmp seen.address) a ≡ true → is_among (h a) n ≡ false)
    → (a : Address) → (is_among (g a) n ≡ false) ⊎ (is_observed_by a (drop i observations) ≡ true)
    → (is_among (h a) n ≡ false) ⊎ (is_observed_by a (drop (i + 1) observations) ≡ true)
gone-next g h n i observations seen within is takes gone a (inl out) = inl (absent (is_among (h a) n) refl)
  where
    absent : (b : Bool) → is_among (h a) n ≡ b → is_among (h a) n ≡ false
    absent true e = absurd (true≢false (sym (fewer-out g h seen.address n takes a n e) ∙ out))
    absent false e = e
gone-next g h n i observations seen within is takes gone a (inr left) =
    ⊎_elim (λ here. inl (gone a ((eq_by_cmp_equiv addresses.total-law).symm seen.address a ∙ here))) (λ later. inr later)
    (or_cases (is_at (address_cmp a) seen.address) (is_observed_by a (drop (i + 1) observations))
    (sym (ap (is_observed_by a) (drop-item observations i seen within is)) ∙ left))

-- nothing is left past the end
pub drop-past : (ys : List Seen) (j : ℕ) → length ys ≤ j → drop j ys ≡ []
drop-past [] zero le = refl
drop-past [] (suc j) le = refl
drop-past (y ∷ ys) zero le = absurd (omega (arith, le))
drop-past (y ∷ ys) (suc j) le = drop-past ys j (omega (arith, le))

-- so at the end it stands at none
pub gone-all : (xs : List ℕ) (n : ℕ) (observations : List Seen) (i : ℕ) (a : Address) → length observations ≤ i
    → (is_among xs n ≡ false) ⊎ (is_observed_by a (drop i observations) ≡ true) → is_among xs n ≡ false
gone-all xs n observations i a past (inl out) = out
gone-all xs n observations i a past (inr left) = absurd (true≢false (sym left ∙ ap (is_observed_by a) (drop-past observations i past)))

-- once a number was put at the next observed address, those are left that were behind it
pub put-next : (g h : Address → List ℕ) (n i : ℕ) (observations : List Seen) (seen : Seen) → i < length observations → get_or observations i seen ≡ seen
    → ((a : Address) → h a ≡ cond (is_at (address_cmp seen.address) a) (with_number (g a) n) (g a)) → (a : Address)
    → (is_among (g a) n ≡ true) ⊎ (is_observed_by a (drop i observations) ≡ true)
    → (is_among (h a) n ≡ true) ⊎ (is_observed_by a (drop (i + 1) observations) ≡ true)
put-next g h n i observations seen within is puts a (inl there) = inl (stays-put g h seen.address n puts a n there)
put-next g h n i observations seen within is puts a (inr left) =
    ⊎_elim (λ here. inl (there-put g h seen.address n puts a ((eq_by_cmp_equiv addresses.total-law).symm seen.address a ∙ here))) (λ later. inr later)
    (or_cases (is_at (address_cmp a) seen.address) (is_observed_by a (drop (i + 1) observations))
    (sym (ap (is_observed_by a) (drop-item observations i seen within is)) ∙ left))

-- what is equal isn't ordered
pub not-ordered : (r : Ordering) → is_ne r ≡ false → r ≡ Equal
not-ordered Less e = absurd (cc)
not-ordered Equal e = refl
not-ordered Greater e = absurd (cc)

-- two lists have the same address at a place: so what is observed from there on is the same where it is behind
pub observed-from : (xs ys : List Seen) (i : ℕ) (x y : Seen) → i < length xs → i < length ys → get_or xs i x ≡ x → get_or ys i y ≡ y
    → x.address ≡ y.address → ((a : Address) → is_observed_by a (drop (i + 1) xs) ≡ is_observed_by a (drop (i + 1) ys))
    → (a : Address) → is_observed_by a (drop i xs) ≡ is_observed_by a (drop i ys)
observed-from xs ys i x y in_xs in_ys x_is y_is same behind a =
    ap (is_observed_by a) (drop-item xs i x in_xs x_is)
    ∙ (λ j. is_at (address_cmp a) (same j) || behind a j)
    ∙ sym (ap (is_observed_by a) (drop-item ys i y in_ys y_is))

-- a list of no length has no numbers
pub none-in : (xs : List ℕ) → length xs ≡ 0 → xs ≡ []
none-in [] e = refl
none-in (x ∷ xs) e = absurd (suc-ne-zero _ e)
