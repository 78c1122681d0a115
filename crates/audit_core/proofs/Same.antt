-- The tests of equality pass what is the same, and nothing else.
use Rattle.std.proofs.Common.{◌≡◌, ◌&&◌, nat_eq, Bool, true, false, refl, ap, subst, Decides}
use mathlib.Core.Bool.{beq}
use Rattle.std.specs.Cmp.Lexicographic.{pointwise}
use Rattle.std.specs.FinMap as map
use Rattle.std.proofs.lemmas.Slice.Eq.{slice_eq-Decides}
use Rattle.std.proofs.lemmas.Bool.Decides.{Decides-eqb, Decides-int_eq, Decides-and, Decides-like}
use Rattle.std.proofs.lemmas.Bool.{false≢true}
use denote.Enum.Bare.{same_true}
use Rattle.plain_data.specs.Texts.{MapOf}
use Rattle.rdt_types.specs.declared.address.Address.{Address}
use Rattle.rdt_types.specs.declared.address.Kind.{Kind}
use Rattle.rdt_types.specs.declared.address.Kind.TheVariants as kind
use Rattle.rdt_types.specs.contracts.address.Kind.{the_type as the_kind}
use Rattle.rdt_types.specs.contracts.address.KindPartialEq.TheImpl as kind_eq
use Rattle.rdt_types.specs.contracts.address.AddressPartialEq.TheImpl as address_eq
use Rattle.rdt_types.specs.declared.mark.Mark.TheVariants as mark
use Rattle.rdt_types.specs.contracts.mark.MarkPartialEq.TheImpl as mark_eq
use Rattle.rdt_types.specs.declared.outcome.Item.TheVariants as item
use Rattle.rdt_types.specs.declared.outcome.Outcome.TheVariants as outcome
use Rattle.rdt_types.specs.contracts.outcome.ItemPartialEq.TheImpl as item_eq
use Rattle.rdt_types.specs.contracts.outcome.OutcomePartialEq.TheImpl as outcome_eq
use Rattle.rdt_types.specs.declared.delta.Delta.{Delta}
use Rattle.rdt_types.specs.declared.delta.Delta.TheVariants as delta
use Rattle.rdt_types.specs.contracts.delta.DeltaPartialEq.TheImpl as delta_eq
use Rattle.rdt_types.specs.Keyed.{Keyed}
use Rattle.rdt_types.specs.Listed.{Listed}

-- ---- tests of equality, and what they are made of

-- a test that passes what is the same, and nothing else
abbrev pub Tells : {A : Type 0} → (A → A → Bool) → Type 0
Tells {A} E = (a b : A) → Decides (E a b) (a ≡ b)

-- two texts
text_tells : Tells (pointwise nat_eq)
text_tells x y = slice_eq-Decides Decides-eqb x y (pointwise nat_eq x y) refl

-- two lists of texts
texts_tell : Tells (pointwise (pointwise nat_eq))
texts_tell x y = slice_eq-Decides text_tells x y (pointwise (pointwise nat_eq) x y) refl

-- two pairs
pair_tells : {A B : Type 0} {E : A → A → Bool} {F : B → B → Bool} → Tells E → Tells F → Tells (λ (x y : A × B). E x.0 y.0 && F x.1 y.1)
pair_tells {E = E} {F = F} e f x y =
    Decides-like (E x.0 y.0 && F x.1 y.1) (λ p i. (p.0 i, p.1 i)) (λ p. (ap (λ z. z.0) p, ap (λ z. z.1) p))
    (Decides-and (E x.0 y.0) (F x.1 y.1) (e x.0 y.0) (f x.1 y.1))

-- two maps
map_tells : {V : Type 0} {E : V → V → Bool} → Tells E → (a b : MapOf V)
    → Decides (pointwise (λ x y. pointwise nat_eq x.0 y.0 && E x.1 y.1) (map.entries a) (map.entries b)) (a ≡ b)
map_tells {E = E} e a b =
    Decides-like (pointwise (λ x y. pointwise nat_eq x.0 y.0 && E x.1 y.1) (map.entries a) (map.entries b))
    (map.same_entries_map a b) (ap map.entries)
    (slice_eq-Decides (pair_tells text_tells e) (map.entries a) (map.entries b) _ refl)

-- what passes is so of two, and of what is made of each
under : {A B : Type 0} (f : A → B) {b : Bool} {x y : A} → (f x ≡ f y → x ≡ y) → Decides b (x ≡ y) → Decides b (f x ≡ f y)
under f back is = (λ e. ap f (is.0 e), λ e. is.1 (back e))

-- what isn't the same doesn't pass
fails : {P : Type 0} → (P → ⊥) → Decides false P
fails not = (λ e. absurd (false≢true e), λ p. absurd (not p))

passes : {P : Type 0} → P → Decides true P
passes is = (λ e. is, λ p. refl)

-- two truth values
bool_tells : Tells beq
bool_tells true true = passes refl
bool_tells true false = fails (λ e. cc)
bool_tells false true = fails (λ e. cc)
bool_tells false false = passes refl

-- ---- addresses

-- a kind passes as itself
kind_itself : (k : Kind) → kind_eq.ghosts.eq k k ≡ true
kind_itself kind.Bool = refl
kind_itself kind.Counter = refl
kind_itself kind.Text = refl
kind_itself kind.Set = refl
kind_itself kind.Hash = refl
kind_itself kind.List = refl
kind_itself kind.Peak = refl

-- two kinds
kind_tells : Tells kind_eq.ghosts.eq
kind_tells a b = (same_true the_kind tt a b, λ e. subst (λ k. kind_eq.ghosts.eq a k ≡ true) e (kind_itself a))

-- two addresses
address_tells : Tells address_eq.ghosts.eq
address_tells a b =
    Decides-like (address_eq.ghosts.eq a b) (λ p i. record { kind = p.0 i; key = p.1 i }) (λ p. (ap (λ z. z.kind) p, ap (λ z. z.key) p))
    (Decides-and (kind_eq.ghosts.eq a.kind b.kind) (pointwise nat_eq a.key b.key) (kind_tells a.kind b.kind) (text_tells a.key b.key))

-- ---- what bodies come to

-- two values that bodies emit
item_tells : Tells item_eq.ghosts.eq
item_tells (item.Int a) (item.Int b) = under item.Int (λ e. cc) (Decides-int_eq a b)
item_tells (item.Bool a) (item.Bool b) = under item.Bool (λ e. cc) (bool_tells a b)
item_tells (item.Text a) (item.Text b) = under item.Text (λ e. cc) (text_tells a b)
item_tells (item.Texts a) (item.Texts b) = under item.Texts (λ e. cc) (texts_tell a b)
item_tells _ _ = fails (λ e. cc)

-- two outcomes
pub outcome_tells : Tells outcome_eq.ghosts.eq
outcome_tells (outcome.Ok a) (outcome.Ok b) = under outcome.Ok (λ e. cc) (slice_eq-Decides item_tells a b _ refl)
outcome_tells (outcome.Fail a) (outcome.Fail b) = under outcome.Fail (λ e. cc) (text_tells a b)
outcome_tells outcome.Spent outcome.Spent = passes refl
outcome_tells outcome.Big outcome.Big = passes refl
outcome_tells _ _ = fails (λ e. cc)

-- ---- what they write

-- two marks of a hash
mark_tells : Tells mark_eq.ghosts.eq
mark_tells (mark.Put a) (mark.Put b) = under mark.Put (λ e. cc) (text_tells a b)
mark_tells mark.Removed mark.Removed = passes refl
mark_tells _ _ = fails (λ e. cc)

-- two deltas of sets, or of hashes
keyed_tells : {M : Type 0} {E : M → M → Bool} → Tells E → (d e : Keyed M)
    → Decides (beq d.cleared e.cleared && pointwise (λ x y. pointwise nat_eq x.0 y.0 && E x.1 y.1) (map.entries d.marks) (map.entries e.marks)) (d ≡ e)
keyed_tells {E = E} tells d e =
    Decides-like _ (λ p i. record { cleared = p.0 i; marks = p.1 i }) (λ p. (ap (λ z. z.cleared) p, ap (λ z. z.marks) p))
    (Decides-and (beq d.cleared e.cleared) _ (bool_tells d.cleared e.cleared) (map_tells tells d.marks e.marks))

-- two deltas of lists
listed_tells : (d e : Listed)
    → Decides (beq d.cleared e.cleared && (pointwise (λ x y. pointwise nat_eq x.0 y.0 && true) (map.entries d.removed) (map.entries e.removed)
    && pointwise (pointwise nat_eq) d.pushed e.pushed)) (d ≡ e)
listed_tells d e =
    Decides-like _ (λ p i. record { cleared = p.0 i; removed = p.1.0 i; pushed = p.1.1 i })
    (λ p. (ap (λ z. z.cleared) p, (ap (λ z. z.removed) p, ap (λ z. z.pushed) p)))
    (Decides-and (beq d.cleared e.cleared) _ (bool_tells d.cleared e.cleared)
    (Decides-and _ _ (map_tells {E = λ (x y : Unit {0}). true} (λ x y. passes refl) d.removed e.removed) (texts_tell d.pushed e.pushed)))

-- two deltas
delta_tells : Tells delta_eq.ghosts.eq
delta_tells (delta.PutBool a) (delta.PutBool b) = under delta.PutBool (λ e. cc) (bool_tells a b)
delta_tells (delta.PutCounter a) (delta.PutCounter b) = under delta.PutCounter (λ e. cc) (Decides-int_eq a b)
delta_tells (delta.AddCounter a) (delta.AddCounter b) = under delta.AddCounter (λ e. cc) (Decides-int_eq a b)
delta_tells (delta.PutText a) (delta.PutText b) = under delta.PutText (λ e. cc) (text_tells a b)
delta_tells (delta.Set a) (delta.Set b) = under delta.Set (λ e. cc) (keyed_tells bool_tells a b)
delta_tells (delta.Hash a) (delta.Hash b) = under delta.Hash (λ e. cc) (keyed_tells mark_tells a b)
delta_tells (delta.List a) (delta.List b) = under delta.List (λ e. cc) (listed_tells a b)
delta_tells (delta.Raise a) (delta.Raise b) = under delta.Raise (λ e. cc) (Decides-int_eq a b)
delta_tells _ _ = fails (λ e. cc)

-- two addresses with their deltas
pub change_tells : Tells (λ (x y : Address × Delta). address_eq.ghosts.eq x.0 y.0 && delta_eq.ghosts.eq x.1 y.1)
change_tells = pair_tells address_tells delta_tells
