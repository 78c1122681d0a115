-- The lesser of two bases.
use Rattle.std.proofs.Common.{◌≡◌, ℕ, ◌≤◌, Bool, true, false, cond, nat_lt, min, List, [], ◌∷◌, Option, Some, None, refl, ap, arith}
use Rattle.std.specs.List.{AllByRecursion}
use Rattle.abort_witness.specs.declared.witness.Based.{Based}
use Rattle.version_shard.specs.Bases.{least_base, late_base}

-- the lesser of two bases that may be there
abbrev pub lesser_base : Option ℕ → Option ℕ → Option ℕ
lesser_base None second = second
lesser_base (Some first) None = Some first
lesser_base (Some first) (Some second) = Some (min first second)

-- what is given where a test holds isn't there, so the test fails
none_there : {X : Type 0} (b : Bool) (x : X) → cond b (Some x) None ≡ None → b ≡ false
none_there true x e = absurd (cc)
none_there false x e = refl

-- where the least base isn't late none is
pub in_time : (horizon : ℕ) (based : List Based) → late_base horizon (least_base based) ≡ None → AllByRecursion (λ b. horizon ≤ b.base) based
in_time horizon [] e = tt
in_time horizon (b ∷ rest) e = by (least_base rest) (λ late. in_time horizon rest late) e
  where
    by : (o : Option ℕ) → (late_base horizon o ≡ None → AllByRecursion (λ b. horizon ≤ b.base) rest)
        → late_base horizon (elim o as (λ _. Option ℕ) [ None ↦ Some b.base | Some other ↦ Some (min b.base other) ]) ≡ None
        → AllByRecursion (λ b. horizon ≤ b.base) (b ∷ rest)
    by None again e = let out = none_there (nat_lt b.base horizon) b.base e in (grind (arith, out), again refl)
    by (Some other) again e =
        let out = none_there (nat_lt (min b.base other) horizon) (min b.base other) e in
        let first : horizon ≤ min b.base other = grind (arith, out) in
        let second : nat_lt other horizon ≡ false = grind (arith, first) in
        (omega (arith, first), again (ap (λ c. cond c (Some other) None) second))
