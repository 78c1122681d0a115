use Rattle.std.proofs.Common.{◌≡◌, ◌++◌, drop}
use Rattle.plain_data.specs.code.Merging.{merged}
use Rattle.plain_data.proofs.overlay.merge.Given as goal

-- what is copied, and the rest with the marks that are left, are the whole
abbrev pub invariant-loop-key : goal.invariant-loop-key
invariant-loop-key g l = l.pairs.items ++ merged (g.L.Marking.left l.marking) l.rest (drop l.key-index l.over)
    ≡ merged (g.L.Marking.left l.marking) l.under l.over
