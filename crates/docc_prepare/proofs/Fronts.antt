-- Fronts spare no pair: what clashes up to a front is no pair, and past it the front counts as the base does.
use Rattle.std.proofs.Common.{◌≡◌, ℕ, ◌+◌, ◌≤◌, ◌<◌, zero, suc, max, Bool, true, false, cond, ◌&&◌, ◌||◌, List, [], ◌∷◌, map, take, refl, sym, ap}
use Rattle.std.proofs.Common.{◌∙◌, subst, arith}
use Rattle.std.specs.Prelude.{nat_lt, nat_le, ◌==◌}
use Rattle.std.specs.List.{list_any, AllByRecursion}
use Rattle.std.specs.BTreeMap.{is_at}
use Rattle.std.proofs.lemmas.Bool.{eqb-true, eq-eqb}
use Rattle.std.proofs.lemmas.Bool.Decides.{nat_tests}
use Rattle.rdt_types.specs.declared.address.Address.{Address}
use Rattle.rdt_types.specs.declared.delta.Delta.{Delta}
use Rattle.rdt_types.specs.Addresses.{address_cmp}
use Rattle.conflict_table.specs.Clashes.{clash}
use Rattle.rdt_types.specs.Shards.{shard_of}
use Rattle.rdt_types.specs.DeltaMaps.{Deltas}
use Rattle.abort_witness.specs.declared.witness.Based.{Based}
use Rattle.abort_witness.specs.Pairs.{clashes}
use Rattle.change_feed.specs.declared.change.Change.{Change}
use Rattle.txn_lang.specs.declared.commit.Commit.{Commit}
use Rattle.txn_lang.specs.States.{Journal}
use Rattle.journal_core.specs.declared.ready.PreparedFront.{PreparedFront}
use Rattle.journal_core.specs.Pairs.{pairs, front_at, past_front, past_fronts, AreNumberedFrom}
use Rattle.docc_prepare.specs.Attempts.{based, in_shard, FrontFits, FrontsFit}
use Rattle.docc_prepare.specs.Serial.{FrontsSpareNoPair}
use Rattle.docc_prepare.proofs.Each.{each-more, each-index, each-passing}
use Rattle.docc_prepare.proofs.Missing.{hit, Misses, misses-of-pairs, pairs-alike}

-- ---- which test counts

-- past the front the base alone decides
past_alike : (base front n : ℕ) → front < n → nat_lt (max base front) n ≡ nat_lt base n
past_alike base front n h = by (nat_lt base n) refl
  where
    by : (b : Bool) → nat_lt base n ≡ b → nat_lt (max base front) n ≡ b
    by true e = let l : base < n = grind (arith, nat_tests) in grind (arith, nat_tests)
    by false e = let l : n ≤ base = grind (arith, nat_tests) in grind (arith, nat_tests)

-- up to the front nothing counts
below_front : (base front n : ℕ) → n ≤ front → nat_lt (max base front) n ≡ false
below_front base front n h = grind (arith, nat_tests)

-- an observation as if it was made at a front, where that is past its base
abbrev at_front : Based → ℕ → Based
at_front b front = record b { base = max b.base front }

-- a delta at an address, as a change of the commit of a number
abbrev change_at : ℕ → Address × Delta → Change
change_at n pair = record { number = n; address = pair.0; delta = pair.1 }

-- a commit past the front is hit by the front as by the base
any-past : (b : Based) (front n : ℕ) (ds : Deltas) → front < n → list_any (clashes (at_front b front)) (map (change_at n) ds) ≡ list_any (clashes b)
    (map (change_at n) ds)
any-past b front n [] past = refl
any-past b front n (pair ∷ ds) past =
    ap (λ t. ((t && is_at (address_cmp b.address) pair.0) && clash b.obs pair.1) || (list_any (clashes (at_front b front)) (map (change_at n) ds)))
    (past_alike b.base front n past)
    ∙ ap (λ x. clashes b (change_at n pair) || x) (any-past b front n ds past)

-- a commit up to the front isn't hit by it
any-below : (b : Based) (front n : ℕ) (ds : Deltas) → n ≤ front → list_any (clashes (at_front b front)) (map (change_at n) ds) ≡ false
any-below b front n [] below = refl
any-below b front n (pair ∷ ds) below =
    ap (λ t. ((t && is_at (address_cmp b.address) pair.0) && clash b.obs pair.1) || (list_any (clashes (at_front b front)) (map (change_at n) ds)))
    (below_front b.base front n below)
    ∙ any-below b front n ds below

-- by whether the commit is past the front: there both are hit alike, and up to it neither is hit
hit-alike : (b : Based) (front : ℕ) (commit : Commit) → (commit.number ≤ front → Misses b commit) → hit (at_front b front) commit ≡ hit b commit
hit-alike b front commit clear = by (nat_le commit.number front) refl
  where
    by : (x : Bool) → nat_le commit.number front ≡ x → hit (at_front b front) commit ≡ hit b commit
    by true e = let below : commit.number ≤ front = grind (arith, nat_tests) in any-below b front commit.number commit.deltas below ∙ sym (clear below)
    by false e = let past : front < commit.number = grind (arith, nat_tests) in any-past b front commit.number commit.deltas past

-- ---- what fits is clear up to the front

-- what holds of the first commits holds of those numbered no more
numbered_first : (P : Commit → Type 0) (m n front : ℕ) (journal : Journal) → m ≤ n + front → AreNumberedFrom n journal → AllByRecursion P (take front journal)
    → AllByRecursion (λ commit. commit.number ≤ m → P commit) journal
numbered_first P m n front [] upto numbers all = tt
numbered_first P m n zero (commit ∷ journal) upto numbers all =
    (λ h. absurd (let k = numbers.0 in omega arith), numbered_first P m (n + 1) zero journal (omega arith) numbers.1 (nothing journal))
  where
    nothing : (xs : Journal) → AllByRecursion P (take zero xs)
    nothing [] = tt
    nothing (x ∷ xs) = tt
numbered_first P m n (suc front) (commit ∷ journal) upto numbers all = (λ h. all.0, numbered_first P m (n + 1) front journal (omega arith) numbers.1 all.1)

module _ (journal : Journal) (shards : ℕ) (observed : List Based) where
  -- each commit up to a front misses each of some observations
  abbrev Clear : ℕ → List Based → Type 0
  Clear front bs = AllByRecursion (λ commit. AllByRecursion (λ b. Misses b commit) bs) (take front journal)

  -- up to 0 there is no commit
  nothing_clear : (bs : List Based) (xs : Journal) → AllByRecursion (λ commit. AllByRecursion (λ b. Misses b commit) bs) (take zero xs)
  nothing_clear bs [] = tt
  nothing_clear bs (x ∷ xs) = tt

  -- each shard is clear up to the front that counts for it
  clear_upto : (fronts : List PreparedFront) → AllByRecursion (λ prepared. FrontFits journal (in_shard shards prepared.shard observed) prepared) fronts
      → (k : ℕ) → Clear (front_at fronts k) (in_shard shards k observed)
  clear_upto [] all k = nothing_clear (in_shard shards k observed) journal
  clear_upto (prepared ∷ fronts) all k = by (clear_upto fronts all.1 k) (prepared.shard == k) refl
    where
      by : Clear (front_at fronts k) (in_shard shards k observed) → (x : Bool) → (prepared.shard == k) ≡ x
          → Clear (cond x prepared.front (front_at fronts k)) (in_shard shards k observed)
      by rest true is =
          subst (λ (l : ℕ). Clear prepared.front (in_shard shards l observed)) (eqb-true prepared.shard k is)
          (misses-of-pairs (in_shard shards prepared.shard observed) (take prepared.front journal) all.0.clear)
      by rest false is = rest

  module _ (fronts : List PreparedFront) (numbers : AreNumberedFrom 0 journal)
      (all : AllByRecursion (λ prepared. FrontFits journal (in_shard shards prepared.shard observed) prepared) fronts) where
    -- a commit misses an observation, if that is in a shard
    abbrev MissesInShard : Commit → ℕ → Based → Type 0
    MissesInShard commit k b = (shard_of b.address shards == k) ≡ true → Misses b commit

    -- by its number each commit misses what was observed in a shard that is clear up to it
    in_each_shard : AllByRecursion (λ commit. (k : ℕ) → commit.number ≤ front_at fronts k → AllByRecursion (MissesInShard commit k) observed) journal
    in_each_shard = each-index (λ k commit. commit.number ≤ front_at fronts k → AllByRecursion (MissesInShard commit k) observed) journal
        (λ k. numbered_first (λ commit. AllByRecursion (MissesInShard commit k) observed) (front_at fronts k) 0 (front_at fronts k) journal
        (omega arith) numbers
        (each-more (λ commit. AllByRecursion (λ b. Misses b commit) (in_shard shards k observed))
        (λ commit. AllByRecursion (MissesInShard commit k) observed) (take (front_at fronts k) journal)
        (λ commit. each-passing (λ b. Misses b commit) (λ b. shard_of b.address shards == k) observed) (clear_upto fronts all k)))

    -- each observation is in its own shard, so the commit misses it up to that shard's front
    pick : (commit : Commit) (bs : List Based) → ((k : ℕ) → commit.number ≤ front_at fronts k → AllByRecursion (MissesInShard commit k) bs)
        → AllByRecursion (λ b. hit (past_front shards fronts b) commit ≡ hit b commit) bs
    pick commit [] clear = tt
    pick commit (b ∷ bs) clear = (
      hit-alike b (front_at fronts (shard_of b.address shards)) commit (λ below. (clear (shard_of b.address shards) below).0
          (eq-eqb (shard_of b.address shards) (shard_of b.address shards) refl)),
      pick commit bs (λ k below. (clear k below).1),
    )

    -- each commit is hit past the fronts as it is without them, so the pairs are the same
    pub spare : pairs (past_fronts shards fronts observed) journal ≡ pairs observed journal
    spare = pairs-alike (past_front shards fronts) observed journal
        (each-more (λ commit. (k : ℕ) → commit.number ≤ front_at fronts k → AllByRecursion (MissesInShard commit k) observed)
        (λ commit. AllByRecursion (λ b. hit (past_front shards fronts b) commit ≡ hit b commit) observed) journal
        (λ commit. pick commit observed) in_each_shard)

-- the fronts of an attempt that fits are clear, so to look past them misses no pair
pub fronts_spare_no_pair : FrontsSpareNoPair
fronts_spare_no_pair journal attempt run numbers fits is =
    spare journal attempt.shards (based attempt.snaps run.observations) attempt.fronts numbers
    (subst (FrontsFit journal attempt.shards attempt.snaps attempt.fronts) is fits.fronts)
