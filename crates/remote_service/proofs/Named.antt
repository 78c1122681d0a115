-- Which bases observations name.
use Rattle.std.proofs.Common.{◌≡◌, ℕ, suc, Bool, true, false, cond, ◌||◌, List, [], ◌∷◌, ◌++◌, Some, ◌⊎◌, inl, inr, refl, sym, ap, ◌∙◌, subst}
use Rattle.std.specs.List.{AllByRecursion}
use Rattle.std.specs.Ordering.{is_eq}
use Rattle.plain_data.proofs.Entries.{equal}
use Rattle.rdt_types.specs.declared.address.Address.{Address}
use Rattle.rdt_types.specs.Addresses.{address_cmp}
use Rattle.rdt_types.proofs.Addresses.{address_cmp-equal}
use Rattle.abort_witness.specs.declared.witness.Based.{Based}
use Rattle.remote_wire.specs.declared.request.Base.{Base}
use Rattle.remote_calls.specs.Spelled.{is_among, naming}
use Rattle.remote_service.specs.Serving.{IsAmong}

-- ---- lists

-- it is one of them
abbrev pub In : {A : Type 0} → List A → A → Type 0
In [] x = ⊥
In (y ∷ ys) x = (y ≡ x) ⊎ In ys x

-- so it stands at some place
pub in-among : {A : Type 0} (xs : List A) (x : A) → In xs x → IsAmong xs x
in-among [] x h = absurd h
in-among (y ∷ ys) x (inl e) = record { place = 0; there = ap (λ z. Some z) e }
in-among (y ∷ ys) x (inr h) = let a = in-among ys x h in record { place = suc a.place; there = a.there }

in-front : {A : Type 0} (xs ys : List A) (x : A) → In xs x → In (xs ++ ys) x
in-front [] ys x h = absurd h
in-front (z ∷ xs) ys x (inl e) = inl e
in-front (z ∷ xs) ys x (inr h) = inr (in-front xs ys x h)

in-last : {A : Type 0} (xs : List A) (x : A) → In (xs ++ x ∷ []) x
in-last [] x = inl refl
in-last (z ∷ xs) x = inr (in-last xs x)

-- each is one of all
pub each-in : {A : Type 0} (xs : List A) → AllByRecursion (In xs) xs
each-in [] = tt
each-in {A} (x ∷ xs) = (inl refl, more xs (each-in xs))
  where
    more : (ys : List A) → AllByRecursion (In xs) ys → AllByRecursion (In (x ∷ xs)) ys
    more [] all = tt
    more (y ∷ ys) all = (inr all.0, more ys all.1)

-- ---- what is named

abbrev pub entry : Based → Base
entry b = record { address = b.address; base = b.base }

-- what is named stays so
naming-keeps : (named : List Base) (rest : List Based) (n : Base) → In named n → In (naming named rest) n
naming-keeps named [] n h = h
naming-keeps named (b ∷ rest) n h =
    by (naming-keeps named rest n h) (naming-keeps (named ++ entry b ∷ []) rest n (in-front named (entry b ∷ []) n h)) (is_among named b.address)
  where
    by : In (naming named rest) n → In (naming (named ++ entry b ∷ []) rest) n → (x : Bool) → In (naming (cond x named (named ++ entry b ∷ [])) rest) n
    by same more true = same
    by same more false = more

-- what holds of what is named and of the rest holds of all that is named then
pub naming-all : (P : Base → Type 0) (named : List Base) (rest : List Based) → AllByRecursion P named → AllByRecursion (λ b. P (entry b)) rest
    → AllByRecursion P (naming named rest)
naming-all P named [] all each = all
naming-all P named (b ∷ rest) all each =
    by (naming-all P named rest all each.1) (naming-all P (named ++ entry b ∷ []) rest (pushed named all) each.1) (is_among named b.address)
  where
    pushed : (xs : List Base) → AllByRecursion P xs → AllByRecursion P (xs ++ entry b ∷ [])
    pushed [] a = (each.0, tt)
    pushed (x ∷ xs) a = (a.0, pushed xs a.1)

    by : AllByRecursion P (naming named rest) → AllByRecursion P (naming (named ++ entry b ∷ []) rest) → (x : Bool)
        → AllByRecursion P (naming (cond x named (named ++ entry b ∷ [])) rest)
    by same more true = same
    by same more false = more

module _ (f : Address → ℕ) where
  abbrev pub with_its : Address → Base
  with_its a = record { address = a; base = f a }

  -- where an address is named, it is so with its base
  named-in : (named : List Base) (a : Address) → AllByRecursion (λ n. n.base ≡ f n.address) named → is_among named a ≡ true → In named (with_its a)
  named-in [] a all e = absurd (cc)
  named-in (n ∷ named) a all e = by (is_eq (address_cmp a n.address)) refl e (named-in named a all.1)
    where
      by : (x : Bool) → is_eq (address_cmp a n.address) ≡ x → (x || is_among named a) ≡ true → (is_among named a ≡ true → In named (with_its a))
          → In (n ∷ named) (with_its a)
      by true is e rest =
          let same : a ≡ n.address = address_cmp-equal a n.address (equal (address_cmp a n.address) is) in
          inl ((λ i. record { address = n.address; base = all.0 i }) ∙ ap with_its (sym same))
      by false is e rest = inr (rest e)

  -- so each observation's address is named with its base
  pub naming-names : (named : List Base) (rest : List Based) → AllByRecursion (λ n. n.base ≡ f n.address) named
      → AllByRecursion (λ b. b.base ≡ f b.address) rest → AllByRecursion (λ b. In (naming named rest) (with_its b.address)) rest
  naming-names named [] all each = tt
  naming-names named (b ∷ rest) all each =
      by (is_among named b.address) refl (naming-names named rest all each.1)
      (naming-names (named ++ entry b ∷ []) rest (pushed named all) each.1)
    where
      pushed : (xs : List Base) → AllByRecursion (λ n. n.base ≡ f n.address) xs → AllByRecursion (λ n. n.base ≡ f n.address) (xs ++ entry b ∷ [])
      pushed [] a = (each.0, tt)
      pushed (x ∷ xs) a = (a.0, pushed xs a.1)

      by : (x : Bool) → is_among named b.address ≡ x → AllByRecursion (λ c. In (naming named rest) (with_its c.address)) rest
          → AllByRecursion (λ c. In (naming (named ++ entry b ∷ []) rest) (with_its c.address)) rest
          → In (naming (cond x named (named ++ entry b ∷ [])) rest) (with_its b.address)
          × AllByRecursion (λ c. In (naming (cond x named (named ++ entry b ∷ [])) rest) (with_its c.address)) rest
      by true is same more = (naming-keeps named rest (with_its b.address) (named-in named b.address all is), same)
      by false is same more = (
        naming-keeps (named ++ entry b ∷ []) rest (with_its b.address)
            (subst (λ (n : ℕ). In (named ++ entry b ∷ []) (record { address = b.address; base = n })) each.0 (in-last named (entry b))),
        more,
      )
