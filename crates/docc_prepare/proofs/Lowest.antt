-- The lesser of two shards that may be there.
use Rattle.std.proofs.Common.{◌≡◌, ℕ, ◌+◌, ◌<◌, Bool, true, false, cond, min, List, ◌∷◌, length, drop, slice_index_or, Option, Some, None, refl, sym}
use Rattle.std.proofs.Common.{ap, ◌∙◌, arith}
use Rattle.std.proofs.lemmas.List.{drop_more}
use Rattle.rdt_types.specs.Shards.{shard_of}
use Rattle.txn_lang.specs.declared.run.Seen.{Seen}
use Rattle.journal_core.specs.declared.ready.PreparedFront.{PreparedFront}
use Rattle.docc_prepare.specs.Attempts.{has_front, lesser, least_unprepared}

-- the lesser of two numbers that may be there
abbrev pub lesser_of : Option ℕ → Option ℕ → Option ℕ
lesser_of None rest = rest
lesser_of (Some found) rest = Some (lesser found rest)

-- the least of three is the same whichever two are compared first
least-of-three : (a b c : ℕ) → min (min b a) c ≡ min a (min b c)
least-of-three a b c = grind arith

-- a shard is counted with one found before it as with those behind it
more : (shard : ℕ) (found rest : Option ℕ) → lesser_of (Some (lesser shard found)) rest ≡ lesser_of found (Some (lesser shard rest))
more shard None rest = refl
more shard (Some a) None = ap (λ x. Some x) (grind arith)
more shard (Some a) (Some c) = ap (λ x. Some x) (least-of-three a shard c)

-- one shard more is counted with those before it as with those behind it
pub counted_more : (prepared : Bool) (shard : ℕ) (found rest : Option ℕ)
    → lesser_of (cond prepared found (Some (lesser shard found))) rest ≡ lesser_of found (cond prepared rest (Some (lesser shard rest)))
counted_more true shard found rest = refl
counted_more false shard found rest = more shard found rest

module _ (shards : ℕ) (fronts : List PreparedFront) where
  -- one observation more is counted with what was found
  pub unprepared_more : (all : List Seen) (i : ℕ) (seen : Seen) (shard : ℕ) (found more : Option ℕ) → i < length all → seen ≡ slice_index_or all i seen
      → shard ≡ shard_of seen.address shards → more ≡ cond (has_front fronts shard) found (Some (lesser shard found))
      → lesser_of more (least_unprepared shards fronts (drop (i + 1) all)) ≡ lesser_of found (least_unprepared shards fronts (drop i all))
  unprepared_more all i seen shard found more within here in_shard is =
      let rest = least_unprepared shards fronts (drop (i + 1) all) in
      ap (λ f. lesser_of f rest) is
      ∙ (counted_more (has_front fronts shard) shard found rest
      ∙ (ap (λ (k : ℕ). lesser_of found (cond (has_front fronts k) rest (Some (lesser k rest)))) in_shard
      ∙ sym (ap (λ xs. lesser_of found (least_unprepared shards fronts xs)) (drop_more all i seen within ∙ ap (λ z. z ∷ drop (i + 1) all) (sym here)))))

-- nothing behind what was found leaves it
pub nothing_more : (found : Option ℕ) → lesser_of found None ≡ found
nothing_more None = refl
nothing_more (Some a) = refl
