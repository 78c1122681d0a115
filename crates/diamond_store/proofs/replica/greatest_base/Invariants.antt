use Rattle.std.proofs.Common.{◌≡◌, fold, max, drop}
use Rattle.diamond_store.specs.Reading.{greatest_base}
use Rattle.diamond_store.proofs.replica.greatest_base.Given as goal

-- the greatest so far, and then the rest, give the greatest of all
abbrev pub invariant-loop-b : goal.invariant-loop-b
invariant-loop-b l = fold (λ greatest b. max greatest b.base) l.greatest (drop l.b-index l.fn.based) ≡ greatest_base l.fn.based
