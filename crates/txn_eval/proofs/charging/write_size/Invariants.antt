use Rattle.std.proofs.Common.{◌≡◌, ◌+◌, map, sum, length, drop}
use Rattle.txn_lang.specs.Items as spec
use Rattle.txn_eval.proofs.charging.write_size.Given as goal

abbrev pub invariant-loop-item : goal.invariant-loop-item
invariant-loop-item l = 8 + length l.key + sum (map spec.text_size l.fn.arguments) ≡ l.size + sum (map spec.text_size (drop l.item-index l.arguments))
