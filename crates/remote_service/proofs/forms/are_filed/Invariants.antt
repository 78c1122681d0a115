use Rattle.std.proofs.Common.{take}
use Rattle.std.specs.List.{AllByRecursion}
use Rattle.record_code.specs.Forms.{IsFiled}
use Rattle.remote_service.proofs.forms.are_filed.Given as goal

-- all so far
abbrev pub invariant-loop-pair : goal.invariant-loop-pair
invariant-loop-pair l = AllByRecursion IsFiled (take l.pair-index l.fn.changes)
