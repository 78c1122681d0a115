-- Laws of what is told: what is shown of told values holds of objects that may not tell.
use Rattle.std.proofs.Common.{◌≡◌, Option, Some, None, sym, subst}
use Rattle.std.specs.Prelude.{IfSome}
use Rattle.dio_core.specs.Told.{WhereTold}

-- what stays so related does so whether it is told or not
pub WhereTold-refl : {A : Type 0} (R : A → A → Type 0) (x : Option A) → ((a : A) → R a a) → WhereTold R x x
WhereTold-refl R None at = tt
WhereTold-refl R (Some a) at = at a

-- the same of two that are equal
pub WhereTold-same : {A : Type 0} (R : A → A → Type 0) (x y : Option A) → y ≡ x → ((a : A) → R a a) → WhereTold R x y
WhereTold-same R x y same at = subst (λ z. WhereTold R x z) (sym same) (WhereTold-refl R x at)

-- a weaker relation
pub WhereTold-map : {A B : Type 0} {R S : A → B → Type 0} (x : Option A) (y : Option B)
    → ((a : A) (b : B) → R a b → S a b) → WhereTold R x y → WhereTold S x y
WhereTold-map None None weaker told = tt
WhereTold-map None (Some b) weaker told = told
WhereTold-map (Some a) None weaker told = told
WhereTold-map (Some a) (Some b) weaker told = weaker a b told

-- two steps make one
pub WhereTold-then : {A B C : Type 0} {R : A → B → Type 0} {S : B → C → Type 0} {T : A → C → Type 0}
    (x : Option A) (y : Option B) (z : Option C) → ((a : A) (b : B) (c : C) → R a b → S b c → T a c)
    → WhereTold R x y → WhereTold S y z → WhereTold T x z
WhereTold-then None None None both first second = tt
WhereTold-then None None (Some c) both first second = second
WhereTold-then None (Some b) z both first second = absurd first
WhereTold-then (Some a) None z both first second = absurd first
WhereTold-then (Some a) (Some b) None both first second = second
WhereTold-then (Some a) (Some b) (Some c) both first second = both a b c first second

-- what held of what was told before, and what was done to it, make what holds of what is told after
pub IfSome-WhereTold : {A B : Type 0} (R : A → B → Type 0) (P : A → Type 0) (Q : B → Type 0) (x : Option A) (y : Option B)
    → ((a : A) (b : B) → P a → R a b → Q b) → IfSome x P → WhereTold R x y → IfSome y Q
IfSome-WhereTold R P Q None None after holds told = tt
IfSome-WhereTold R P Q None (Some b) after holds told = absurd told
IfSome-WhereTold R P Q (Some a) None after holds told = tt
IfSome-WhereTold R P Q (Some a) (Some b) after holds told = after a b holds told

-- two facts of what is told are one
pub IfSome-both : {A : Type 0} (P Q : A → Type 0) (x : Option A) → IfSome x P → IfSome x Q → IfSome x (λ a. P a × Q a)
IfSome-both P Q None p q = tt
IfSome-both P Q (Some a) p q = (p, q)
