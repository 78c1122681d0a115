use Rattle.std.proofs.Common.{◌≡◌}
use Rattle.std.specs.Cmp.Lexicographic.{slice_cmp}
use Rattle.plain_data.proofs.sequence.ordered.Given as goal

-- what is left is ordered as all
abbrev pub invariant-loop : goal.invariant-loop
invariant-loop g l = slice_cmp g.T.Ord.cmp l.a l.b ≡ slice_cmp g.T.Ord.cmp l.fn.a l.fn.b
