-- Observations that pass the test of equality are the same.
use Rattle.std.proofs.Common.{◌≡◌, nat_eq, int_eq, Bool, true, false, ◌&&◌, ℤ, [], ◌∷◌, List, refl, ap, ◌∙◌}
use Rattle.std.specs.Bool.{beq}
use denote.Enum.Bare.{same_true}
use Rattle.std.specs.Cmp.Lexicographic.{pointwise}
use Rattle.std.proofs.lemmas.Bool.{eqb-true, false≢true}
use Rattle.std.proofs.lemmas.Bool.Decides.{Decides-int_eq}
use Rattle.plain_data.specs.Texts.{Bytes}
use Rattle.rdt_types.specs.declared.address.Kind.{Kind}
use Rattle.rdt_types.specs.contracts.address.Kind.{the_type as the_kind}
use Rattle.rdt_types.specs.contracts.address.KindPartialEq.TheImpl as kind_eq
use Rattle.rdt_types.specs.contracts.address.AddressPartialEq.TheImpl as address_eq
use Rattle.conflict_table.specs.declared.observation.Obs.{Obs}
use Rattle.conflict_table.specs.declared.observation.Obs.TheVariants as obs
use Rattle.conflict_table.specs.contracts.observation.ObsPartialEq.TheImpl as obs_eq
use Rattle.abort_witness.specs.declared.witness.Based.{Based}
use Rattle.abort_witness.specs.contracts.witness.BasedPartialEq.TheImpl as based_eq
use Rattle.remote_service.specs.Keeping.{are_same}

-- where two tests pass together each does
pub and_parts : (a b : Bool) → (a && b) ≡ true → (a ≡ true) × (b ≡ true)
and_parts true b e = (refl, e)
and_parts false b e = absurd (cc)

-- bytes that pass the test one by one are the same text
text_same : (x y : Bytes) → pointwise nat_eq x y ≡ true → x ≡ y
text_same [] [] e = refl
text_same [] (b ∷ y) e = absurd (cc)
text_same (a ∷ x) [] e = absurd (cc)
text_same (a ∷ x) (b ∷ y) e = let both = and_parts (nat_eq a b) (pointwise nat_eq x y) e in
    ap (λ c. c ∷ x) (eqb-true a b both.0) ∙ ap (λ z. b ∷ z) (text_same x y both.1)

-- the test on kinds passes no two different ones
pub kind_same : (a b : Kind) → kind_eq.ghosts.eq a b ≡ true → a ≡ b
kind_same a b e = same_true the_kind tt a b e

-- the test on truth values passes no two different ones
bool_same : (a b : Bool) → beq a b ≡ true → a ≡ b
bool_same true true e = refl
bool_same false false e = refl
bool_same _ _ e = absurd (false≢true e)

-- nor does that on numbers
int_same : (m n : ℤ) → int_eq m n ≡ true → m ≡ n
int_same m n e = (Decides-int_eq m n).0 e

-- form by form: the test passes the same form alone, with the same text, place, number or answer
obs_same : (o p : Obs) → obs_eq.ghosts.eq o p ≡ true → o ≡ p
obs_same obs.BoolIs obs.BoolIs e = refl
obs_same obs.CounterIs obs.CounterIs e = refl
obs_same obs.TextIs obs.TextIs e = refl
obs_same (obs.SetHas x) (obs.SetHas y) e = ap (λ t. obs.SetHas t) (text_same x y e)
obs_same obs.SetAll obs.SetAll e = refl
obs_same (obs.HashAt x) (obs.HashAt y) e = ap (λ t. obs.HashAt t) (text_same x y e)
obs_same obs.HashAll obs.HashAll e = refl
obs_same (obs.ListAt i) (obs.ListAt j) e = ap (λ k. obs.ListAt k) (eqb-true i j e)
obs_same obs.ListAll obs.ListAll e = refl
obs_same (obs.PeakIs m) (obs.PeakIs n) e = ap (λ k. obs.PeakIs k) (int_same m n e)
obs_same (obs.PeakOver m a) (obs.PeakOver n b) e =
    let both = and_parts (int_eq m n) (beq a b) e in
    ap (λ k. obs.PeakOver k a) (int_same m n both.0) ∙ ap (λ r. obs.PeakOver n r) (bool_same a b both.1)
obs_same _ _ e = absurd (false≢true e)

-- address, observation and base each pass their own test
based_same : (x z : Based) → based_eq.ghosts.eq x z ≡ true → x ≡ z
based_same x z e =
    let outer = and_parts (address_eq.ghosts.eq x.address z.address) ((obs_eq.ghosts.eq x.obs z.obs) && (nat_eq x.base z.base)) e in
    let mid = and_parts (obs_eq.ghosts.eq x.obs z.obs) (nat_eq x.base z.base) outer.1 in
    let inner = and_parts (kind_eq.ghosts.eq x.address.kind z.address.kind) (pointwise nat_eq x.address.key z.address.key) outer.0 in
    let k = kind_same _ _ inner.0 in let t = text_same _ _ inner.1 in let o = obs_same _ _ mid.0 in let b = eqb-true x.base z.base mid.1 in
    λ i. record { address = record { kind = k i; key = t i }; obs = o i; base = b i }

-- so do lists of them
pub based_list_same : (xs ys : List Based) → are_same xs ys ≡ true → xs ≡ ys
based_list_same [] [] e = refl
based_list_same [] (y ∷ ys) e = absurd (cc)
based_list_same (x ∷ xs) [] e = absurd (cc)
based_list_same (x ∷ xs) (y ∷ ys) e = let both = and_parts (based_eq.ghosts.eq x y) (pointwise based_eq.ghosts.eq xs ys) e in
    ap (λ c. c ∷ xs) (based_same x y both.0) ∙ ap (λ z. y ∷ z) (based_list_same xs ys both.1)
