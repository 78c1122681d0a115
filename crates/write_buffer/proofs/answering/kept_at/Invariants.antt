use Rattle.std.proofs.Common.{◌≡◌, drop}
use Rattle.write_buffer.specs.code.Kept.{kept_from}
use Rattle.write_buffer.proofs.answering.kept_at.Given as goal

abbrev pub invariant-loop-item : goal.invariant-loop-item
invariant-loop-item l = kept_from l.removed l.items l.fn.place ≡ kept_from l.removed (drop l.item-index l.items) l.left
