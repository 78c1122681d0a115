-- Where there is no pair, every commit misses every observation.
use Rattle.std.proofs.Common.{◌≡◌, ℕ, ◌+◌, Bool, true, false, cond, List, [], ◌∷◌, ◌++◌, map, None, refl, ap, ◌∙◌}
use Rattle.std.specs.Prelude.{slice_get}
use Rattle.std.specs.List.{list_any, AllByRecursion}
use Rattle.abort_witness.specs.declared.witness.Based.{Based}
use Rattle.abort_witness.specs.declared.witness.Found.{Found}
use Rattle.abort_witness.specs.Pairs.{clashes}
use Rattle.txn_lang.specs.declared.commit.Commit.{Commit}
use Rattle.txn_lang.specs.States.{Journal}
use Rattle.journal_core.specs.Changes.{changes_of}
use Rattle.journal_core.specs.Pairs.{hits_from, pairs}

-- whether some change of a commit clashes with an observation
abbrev pub hit : Based → Commit → Bool
hit b commit = list_any (clashes b) (changes_of commit)

-- no change of a commit clashes with an observation
abbrev pub Misses : Based → Commit → Type 0
Misses b commit = hit b commit ≡ false

-- a list that ends in nothing and begins with nothing is nothing
both-none : {A : Type 0} (xs ys : List A) → xs ++ ys ≡ [] → (xs ≡ []) × (ys ≡ [])
both-none [] ys e = (refl, e)
both-none (x ∷ xs) ys e = absurd (cc)

-- a commit without a hit misses each observation
misses-of-hits : (place : ℕ) (bs : List Based) (commit : Commit) → hits_from place bs commit ≡ [] → AllByRecursion (λ b. Misses b commit) bs
misses-of-hits place [] commit e = tt
misses-of-hits place (b ∷ bs) commit e = by (misses-of-hits (place + 1) bs commit) (hit b commit) refl e
  where
    by : (hits_from (place + 1) bs commit ≡ [] → AllByRecursion (λ b. Misses b commit) bs) → (x : Bool) → hit b commit ≡ x
        → cond x (record { place = place; number = commit.number } ∷ hits_from (place + 1) bs commit) (hits_from (place + 1) bs commit) ≡ []
        → Misses b commit × AllByRecursion (λ b. Misses b commit) bs
    by rest true is e = absurd (cc)
    by rest false is e = (is, rest e)

-- without a pair each commit misses each observation
pub misses-of-pairs : (bs : List Based) (journal : Journal) → pairs bs journal ≡ []
    → AllByRecursion (λ commit. AllByRecursion (λ b. Misses b commit) bs) journal
misses-of-pairs bs [] e = tt
misses-of-pairs bs (commit ∷ journal) e =
    let parts = both-none (hits_from 0 bs commit) (pairs bs journal) e in
    (misses-of-hits 0 bs commit parts.0, misses-of-pairs bs journal parts.1)

-- where there is no least pair there is none
pub none-of-least : (found : List Found) → slice_get found 0 ≡ None → found ≡ []
none-of-least [] e = refl
none-of-least (x ∷ xs) e = absurd (cc)

-- observations that are hit alike make the same pairs
module _ (f : Based → Based) where
  -- by each observation: it is hit at the same places
  hits-alike : (place : ℕ) (bs : List Based) (commit : Commit) → AllByRecursion (λ b. hit (f b) commit ≡ hit b commit) bs
      → hits_from place (map f bs) commit ≡ hits_from place bs commit
  hits-alike place [] commit all = refl
  hits-alike place (b ∷ bs) commit all =
      ap (λ x. cond x (record { place = place; number = commit.number } ∷ hits_from (place + 1) (map f bs) commit)
      (hits_from (place + 1) (map f bs) commit)) all.0
      ∙ ap (λ found. cond (hit b commit) (record { place = place; number = commit.number } ∷ found) found) (hits-alike (place + 1) bs commit all.1)

  -- so each commit has the same hits, and the journal the same pairs
  pub pairs-alike : (bs : List Based) (journal : Journal) → AllByRecursion (λ commit. AllByRecursion (λ b. hit (f b) commit ≡ hit b commit) bs) journal
      → pairs (map f bs) journal ≡ pairs bs journal
  pairs-alike bs [] all = refl
  pairs-alike bs (commit ∷ journal) all =
      ap (λ found. found ++ pairs (map f bs) journal) (hits-alike 0 bs commit all.0)
      ∙ ap (λ found. hits_from 0 bs commit ++ found) (pairs-alike bs journal all.1)
