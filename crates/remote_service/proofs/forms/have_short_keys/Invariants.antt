use Rattle.std.proofs.Common.{take}
use Rattle.std.specs.List.{AllByRecursion}
use Rattle.record_code.specs.Forms.{IsShort}
use Rattle.remote_service.proofs.forms.have_short_keys.Given as goal

-- all so far
abbrev pub invariant-loop-marked : goal.invariant-loop-marked
invariant-loop-marked g l = AllByRecursion (λ marked. IsShort marked.0) (take l.marked-index l.fn.marks)
