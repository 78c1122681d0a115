-- Where one shard has as many of a run's observations as there are, it has them all, and once it is prepared the append is next.
use Rattle.std.proofs.Common.{◌≡◌, ℕ, suc, ◌≤◌, Bool, true, false, not, List, [], ◌∷◌, filter, length, if◌then◌else◌, Some, None}
use Rattle.std.proofs.Common.{refl, sym, ap, ◌∙◌, arith}
use Rattle.std.specs.Prelude.{◌==◌}
use Rattle.std.proofs.lemmas.Bool.Decides.{nat_tests}
use Rattle.std.proofs.lemmas.List.Filters.{length-filter_both}
use Rattle.rdt_types.specs.Shards.{shard_of}
use Rattle.abort_witness.specs.declared.witness.Based.{Based}
use Rattle.txn_lang.specs.declared.run.Run.{Run}
use Rattle.txn_lang.specs.declared.run.Seen.{Seen}
use Rattle.journal_core.specs.declared.ready.PreparedFront.{PreparedFront}
use Rattle.docc_prepare.specs.declared.attempt.Attempt.{Attempt}
use Rattle.docc_prepare.specs.declared.attempt.Next.TheVariants as next
use Rattle.docc_prepare.specs.Attempts.{SnapList, with_base, based, in_shard, has_front, lesser, least_unprepared, next_of, next_of_run}
use Rattle.docc_prepare.specs.Attempts.{next_event, with_front}
use Rattle.docc_prepare.proofs.Nexts.{prepares}
use Rattle.session_core.proofs.Bounds.{there-now}

module _ {A : Type 0} (p : A → Bool) where
  -- a list that is as long after a choice is as it was: the choice makes none longer
  pub filter-all : (xs : List A) → length (filter p xs) ≡ length xs → filter p xs ≡ xs
  filter-all [] e = refl
  filter-all (x ∷ xs) e = by (p x) (filter-all xs) e
    where
      by : (b : Bool) → (length (filter p xs) ≡ length xs → filter p xs ≡ xs) → length (if b then x ∷ filter p xs else filter p xs) ≡ length (x ∷ xs)
          → (if b then x ∷ filter p xs else filter p xs) ≡ x ∷ xs
      by true all e = ap (λ ys. x ∷ ys) (all (omega (arith, e)))
      by false all e = absurd (let both = length-filter_both p (λ y. not (p y)) (λ y. refl) xs in omega (arith, e, both))

-- each observation gets its base
pub length-based : (snaps : SnapList) (seen : List Seen) → length (based snaps seen) ≡ length seen
length-based snaps [] = refl
length-based snaps (s ∷ seen) = ap (λ n. suc n) (length-based snaps seen)

-- so the shard that has as many has those
pub whole-shard : (shards shard : ℕ) (snaps : SnapList) (seen : List Seen) → length (in_shard shards shard (based snaps seen)) ≡ length seen
    → in_shard shards shard (based snaps seen) ≡ based snaps seen
whole-shard shards shard snaps seen e = filter-all _ (based snaps seen) (e ∙ sym (length-based snaps seen))

-- what is in a shard is no more than there is
shard-short : (shards shard : ℕ) (snaps : SnapList) (seen : List Seen) → length (in_shard shards shard (based snaps seen)) ≤ length seen
shard-short shards shard snaps seen =
    let p = λ (b : Based). shard_of b.address shards == shard in
    let both = length-filter_both p (λ b. not (p b)) (λ b. refl) (based snaps seen) in
    let all = length-based snaps seen in omega (arith, both, all)

-- where a shard has a front, and all that was observed is in it, none is left to prepare
none-left : (shards shard : ℕ) (fronts : List PreparedFront) (snaps : SnapList) (seen : List Seen) → has_front fronts shard ≡ true
    → length (in_shard shards shard (based snaps seen)) ≡ length seen → least_unprepared shards fronts seen ≡ None
none-left shards shard fronts snaps [] there e = refl
none-left shards shard fronts snaps (s ∷ seen) there e = by (shard_of s.address shards == shard) refl e (none-left shards shard fronts snaps seen there)
  where
    rest : List Based
    rest = in_shard shards shard (based snaps seen)

    by : (x : Bool) → (shard_of s.address shards == shard) ≡ x → length (if x then with_base snaps s ∷ rest else rest) ≡ suc (length seen)
        → (length rest ≡ length seen → least_unprepared shards fronts seen ≡ None) → least_unprepared shards fronts (s ∷ seen) ≡ None
    by true here e left =
        let is : shard_of s.address shards ≡ shard = grind (arith, nat_tests) in
        ap (λ x. if x then least_unprepared shards fronts seen else Some (lesser (shard_of s.address shards) (least_unprepared shards fronts seen)))
        (ap (has_front fronts) is ∙ there)
        ∙ left (omega (arith, e))
    by false here e left = absurd (let short = shard-short shards shard snaps seen in omega (arith, e, short))

-- so once that shard is prepared the append is next
pub append-next : (a : Attempt) (run : Run) (shard front : ℕ) → next_event a ≡ next.Prepare shard run
    → length (in_shard a.shards shard (based a.snaps run.observations)) ≡ length run.observations
    → next_event (with_front a shard front) ≡ next.Append run
append-next a run shard front e all =
    let p = prepares a shard run e in
    ap (next_of a.shards (with_front a shard front).fronts) p.ran
    ∙ ap (next_of_run run) (none-left a.shards shard (with_front a shard front).fronts a.snaps run.observations (there-now shard front a.fronts) all)
