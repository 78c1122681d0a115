-- The greatest of some bases.
use Rattle.std.proofs.Common.{◌≡◌, ℕ, ◌≤◌, max, List, [], ◌∷◌, fold, subst, arith}
use Rattle.std.specs.List.{AllByRecursion}
use Rattle.rdt_types.specs.Shards.{shard_of}
use Rattle.abort_witness.specs.declared.witness.Based.{Based}
use Rattle.abort_witness.specs.Kinds.{IsBasedOfOneKind}
use Rattle.docc_prepare.specs.Backends.{CanValidate}
use Rattle.docc_prepare.specs.Calls.{Known}
use Rattle.docc_prepare.proofs.Each.{each-more}
use Rattle.diamond_store.specs.Reading.{greatest_base}

-- the greatest of a number and the bases
abbrev greatest_from : ℕ → List Based → ℕ
greatest_from n bs = fold (λ greatest b. max greatest b.base) n bs

-- where none is past a number, the greatest isn't
within-from : (n k : ℕ) (bs : List Based) → k ≤ n → AllByRecursion (λ (b : Based). b.base ≤ n) bs → greatest_from k bs ≤ n
within-from n k [] le all = le
within-from n k (b ∷ bs) le all = let first = all.0 in within-from n (max k b.base) bs (omega arith) all.1

-- so where none is past a number, the greatest base isn't: it is 0 where there is none
pub greatest-within : (n : ℕ) (bs : List Based) → AllByRecursion (λ (b : Based). b.base ≤ n) bs → greatest_base bs ≤ n
greatest-within n bs all = within-from n 0 bs (omega arith) all

-- the number isn't past the greatest of it and the bases
first-from : (k : ℕ) (bs : List Based) → k ≤ greatest_from k bs
first-from k [] = omega arith
first-from k (b ∷ bs) = let rest = first-from (max k b.base) bs in omega arith

-- none is past the greatest
above-from : (k n : ℕ) (bs : List Based) → greatest_from k bs ≤ n → AllByRecursion (λ (b : Based). b.base ≤ n) bs
above-from k n [] le = tt
above-from k n (b ∷ bs) le = (let first = first-from (max k b.base) bs in omega arith, above-from (max k b.base) n bs le)

-- so a number that is no less than the greatest is no less than each
pub bases-within : (n : ℕ) (bs : List Based) → greatest_base bs ≤ n → AllByRecursion (λ (b : Based). b.base ≤ n) bs
bases-within n bs le = above-from 0 n bs le

-- ---- what a client owes at a preparing

module _ (k : Known) (shard : ℕ) (bs : List Based) (each : AllByRecursion (CanValidate k shard) bs) where
  -- each base was seen
  pub seen-bases : greatest_base bs ≤ k.seen
  seen-bases = greatest-within k.seen bs (each-more (CanValidate k shard) (λ (b : Based). b.base ≤ k.seen) bs (λ b h. h.given.0) each)

  -- each observation is in the shard
  pub all-here : (shards : ℕ) → k.shards ≡ shards → AllByRecursion (λ (b : Based). shard_of b.address shards ≡ shard) bs
  all-here shards same = each-more (CanValidate k shard) (λ (b : Based). shard_of b.address shards ≡ shard) bs
      (λ b h. subst (λ (n : ℕ). shard_of b.address n ≡ shard) same h.here) each

  -- each is of its address' kind
  pub all-kinds : AllByRecursion IsBasedOfOneKind bs
  all-kinds = each-more (CanValidate k shard) IsBasedOfOneKind bs (λ b h. h.one_kind) each
