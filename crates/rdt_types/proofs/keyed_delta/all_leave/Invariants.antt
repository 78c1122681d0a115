use Rattle.std.proofs.Common.{◌≡◌, is_some, drop}
use Rattle.std.specs.List.{list_all}
use Rattle.rdt_types.proofs.keyed_delta.all_leave.Given as goal

-- whether the rest does is whether all do
abbrev pub invariant-loop-mark : goal.invariant-loop-mark
invariant-loop-mark g l = list_all (λ mark. is_some (g.M.Leaves.left mark.1)) (drop l.mark-index l.marks)
    ≡ list_all (λ mark. is_some (g.M.Leaves.left mark.1)) l.marks
