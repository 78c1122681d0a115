use Rattle.std.proofs.Common.{◌≡◌, ◌≤◌, ◌+◌, drop, option_map}
use Rattle.version_shard.specs.code.Clashing.{lesser, least_hit, most_steps}
use Rattle.version_shard.proofs.validating.least_hit.Given as goal

-- the least so far and the least of the rest are the least of all, and a step is left for each version that may be met
abbrev pub invariant-loop-based : goal.invariant-loop-based
invariant-loop-based g l = record {
  least : lesser (option_map (λ hit. (hit.based.now, hit.version.now)) l.least) (least_hit l.kept (drop l.based-index l.fn.based))
      ≡ least_hit l.fn.kept l.fn.based;
  steps : l.steps + most_steps l.kept (drop l.based-index l.fn.based) ≤ l.fn.steps + most_steps l.fn.kept l.fn.based;
}
