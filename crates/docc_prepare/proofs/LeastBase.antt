-- The least base of some observations.
use Rattle.std.proofs.Common.{◌≡◌, ℕ, ◌≤◌, ◌<◌, Bool, true, false, cond, zero, suc, min, List, [], ◌∷◌, Option, Some, None, refl, ◌∙◌, arith}
use Rattle.std.specs.Prelude.{nat_lt}
use Rattle.std.specs.List.{AllByRecursion}
use Rattle.std.proofs.lemmas.Bool.Decides.{nat_tests}
use Rattle.abort_witness.specs.declared.witness.Based.{Based}
use Rattle.version_shard.specs.Bases.{least_base, late_base}
use Rattle.docc_prepare.specs.Backends.{IsLeastBase}
use Rattle.docc_prepare.proofs.Each.{each-more}

-- the least base of observations, the first of which has one base and the others another as their least
least-of : (b : Based) (bs : List Based) (base other : ℕ) → min b.base other ≡ base → IsLeastBase bs other → IsLeastBase (b ∷ bs) base
least-of b bs base other is rest = by (nat_lt b.base other) refl
  where
    lower : (n : ℕ) → base ≤ n → AllByRecursion (λ (x : Based). n ≤ x.base) bs → AllByRecursion (λ (x : Based). base ≤ x.base) bs
    lower n le all = each-more (λ (x : Based). n ≤ x.base) (λ (x : Based). base ≤ x.base) bs (λ x l. omega arith) all

    by : (t : Bool) → nat_lt b.base other ≡ t → IsLeastBase (b ∷ bs) base
    by true e =
        let less : b.base < other = grind (arith, nat_tests) in record {
          place = zero;
          observation = b;
          there = refl;
          is = omega arith;
          least = (omega arith, lower other (omega arith) rest.least);
        }
    by false e =
        let over : other ≤ b.base = grind (arith, nat_tests) in
        let same = rest.is in record {
          place = suc rest.place;
          observation = rest.observation;
          there = rest.there;
          is = omega arith;
          least = (omega arith, lower other (omega arith) rest.least);
        }

-- what is found to be the least base is the least
least-base : (bs : List Based) (base : ℕ) → least_base bs ≡ Some base → IsLeastBase bs base
least-base [] base e = absurd (cc)
least-base (b ∷ bs) base e = by (λ other is. least-base bs other is) (least_base bs) refl e
  where
    none : (xs : List Based) → least_base xs ≡ None → AllByRecursion (λ (x : Based). base ≤ x.base) xs
    none [] h = tt
    none (x ∷ xs) h = some (least_base xs) h
      where
        some : (o : Option ℕ) → elim o as (λ _. Option ℕ) [ None ↦ Some x.base | Some other ↦ Some (min x.base other) ] ≡ None
            → AllByRecursion (λ (y : Based). base ≤ y.base) (x ∷ xs)
        some None h = absurd (cc)
        some (Some other) h = absurd (cc)

    by : ((other : ℕ) → least_base bs ≡ Some other → IsLeastBase bs other) → (o : Option ℕ) → least_base bs ≡ o
        → elim o as (λ _. Option ℕ) [ None ↦ Some b.base | Some other ↦ Some (min b.base other) ] ≡ Some base → IsLeastBase (b ∷ bs) base
    by rest None is h =
        let same : b.base ≡ base = cc in record {
          place = zero;
          observation = b;
          there = refl;
          is = same;
          least = (omega arith, none bs is);
        }
    by rest (Some other) is h = let same : min b.base other ≡ base = cc in least-of b bs base other same (rest other is)

-- a late base is the least, and below the horizon
pub late-is : (horizon : ℕ) (bs : List Based) (base : ℕ) → late_base horizon (least_base bs) ≡ Some base → IsLeastBase bs base × (base < horizon)
late-is horizon bs base e = by (least_base bs) refl e
  where
    by : (o : Option ℕ) → least_base bs ≡ o → late_base horizon o ≡ Some base → IsLeastBase bs base × (base < horizon)
    by None is h = absurd (cc)
    by (Some b) is h = test (nat_lt b horizon) refl h
      where
        test : (t : Bool) → nat_lt b horizon ≡ t → cond t (Some b) None ≡ Some base → IsLeastBase bs base × (base < horizon)
        test true below h =
            let same : b ≡ base = cc in
            let less : b < horizon = grind (arith, nat_tests) in
            (least-base bs base (is ∙ h), omega arith)
        test false below h = absurd (cc)
