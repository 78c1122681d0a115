use Rattle.std.proofs.Common.{◌≡◌, Bool, ◌+◌, drop}
use Rattle.std.specs.Fn.{FnReturnsAt}
use Rattle.std.specs.List.{prefix_len}
use Rattle.predictive_parsing.specs.Reads.{Computes}
use Rattle.predictive_parsing.proofs.prefix.prefix_len.Given as goal

-- so many pass, and the prefix goes on with that of the rest
abbrev pub invariant-loop-len : goal.invariant-loop-len
invariant-loop-len g l =
    (passes : g.row.I.Denot → Bool) → Computes (FnReturnsAt g.F.Fn l.test) passes → l.len + prefix_len passes (drop l.len l.items) ≡ prefix_len passes l.items
