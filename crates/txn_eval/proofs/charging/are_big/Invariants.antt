use Rattle.std.proofs.Common.{◌≡◌, drop}
use Rattle.txn_lang.specs.Items as spec
use Rattle.txn_eval.proofs.charging.are_big.Given as goal

abbrev pub invariant-loop-text : goal.invariant-loop-text
invariant-loop-text l = spec.exceed 65536 l.fn.texts ≡ spec.exceed l.left (drop l.text-index l.texts)
