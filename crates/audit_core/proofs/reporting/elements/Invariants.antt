use Rattle.std.proofs.Common.{◌≡◌, map, take}
use Rattle.audit_core.proofs.reporting.elements.Given as goal

-- the elements so far
abbrev pub invariant-loop-pair : goal.invariant-loop-pair
invariant-loop-pair l = l.texts ≡ map (λ e. e.0) (take l.pair-index l.pairs)
