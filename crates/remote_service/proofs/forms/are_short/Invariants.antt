use Rattle.std.proofs.Common.{take}
use Rattle.std.specs.List.{AllByRecursion}
use Rattle.record_code.specs.Forms.{IsShort}
use Rattle.remote_service.proofs.forms.are_short.Given as goal

-- all so far
abbrev pub invariant-loop-text : goal.invariant-loop-text
invariant-loop-text l = AllByRecursion IsShort (take l.text-index l.fn.texts)
