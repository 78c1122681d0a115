-- What the next event says of the run.
use Rattle.std.proofs.Common.{◌≡◌, ℕ, Option, Some, None, refl, sym, ap, ◌∙◌}
use Rattle.rdt_types.specs.declared.address.Address.{Address}
use Rattle.txn_lang.specs.declared.run.Run.{Run}
use Rattle.txn_lang.specs.Execution.{Ran, need, done}
use Rattle.docc_prepare.specs.declared.attempt.Attempt.{Attempt}
use Rattle.docc_prepare.specs.declared.attempt.Next.TheVariants as next
use Rattle.docc_prepare.specs.Attempts.{ran, least_unprepared, next_of, next_of_run, next_event}

-- a read comes next only where the run needs its address
pub needs : (attempt : Attempt) (address : Address) → next_event attempt ≡ next.Read address → ran attempt ≡ need address
needs attempt address e = by (ran attempt) refl e
  where
    last : (run : Run) (o : Option ℕ) → next_of_run run o ≡ next.Read address → done run ≡ need address
    last run None e = absurd (cc)
    last run (Some shard) e = absurd (cc)

    by : (r : Ran) → ran attempt ≡ r → next_of attempt.shards attempt.fronts r ≡ next.Read address → ran attempt ≡ need address
    by (need a) is e = let same : a ≡ address = cc in is ∙ ap (λ b. need b) same
    by (done run) is e = is ∙ last run (least_unprepared attempt.shards attempt.fronts run.observations) e

-- an append comes next only where its run is done
pub appends : (attempt : Attempt) (run : Run) → next_event attempt ≡ next.Append run → ran attempt ≡ done run
appends attempt run e = by (ran attempt) refl e
  where
    last : (other : Run) (o : Option ℕ) → next_of_run other o ≡ next.Append run → done other ≡ done run
    last other None e = let same : other ≡ run = cc in ap (λ r. done r) same
    last other (Some shard) e = absurd (cc)

    by : (r : Ran) → ran attempt ≡ r → next_of attempt.shards attempt.fronts r ≡ next.Append run → ran attempt ≡ done run
    by (need a) is e = absurd (cc)
    by (done other) is e = is ∙ last other (least_unprepared attempt.shards attempt.fronts other.observations) e

-- the run is done, and the shard is the least that isn't prepared
pub record IsPreparing (a : Attempt) (shard : ℕ) (run : Run) : Type 0 where
  pub ran : ran a ≡ done run
  pub least : least_unprepared a.shards a.fronts run.observations ≡ Some shard

-- a preparing comes next only where its run is done, and its shard is the least one without a front
pub prepares : (a : Attempt) (shard : ℕ) (run : Run) → next_event a ≡ next.Prepare shard run → IsPreparing a shard run
prepares a shard run e = by (ran a) refl e
  where
    last : (other : Run) (o : Option ℕ) → next_of_run other o ≡ next.Prepare shard run → (other ≡ run) × (o ≡ Some shard)
    last other None e = absurd (cc)
    last other (Some k) e = let run_is : other ≡ run = cc in let shard_is : k ≡ shard = cc in (run_is, ap (λ n. Some n) shard_is)

    by : (r : Ran) → ran a ≡ r → next_of a.shards a.fronts r ≡ next.Prepare shard run → IsPreparing a shard run
    by (need b) is e = absurd (cc)
    by (done other) is e = let parts = last other (least_unprepared a.shards a.fronts other.observations) e in record {
      ran = is ∙ ap (λ r. done r) parts.0;
      least = ap (λ (r : Run). least_unprepared a.shards a.fronts r.observations) (sym parts.0) ∙ parts.1;
    }
