use Rattle.std.proofs.Common.{◌≡◌, ◌+◌, drop}
use Rattle.txn_lang.specs.Items as spec
use Rattle.txn_eval.proofs.charging.texts_size.Given as goal

abbrev pub invariant-loop-text : goal.invariant-loop-text
invariant-loop-text l = spec.texts_size l.fn.texts ≡ l.size + spec.texts_size (drop l.text-index l.texts)
