use Rattle.std.proofs.Common.{◌≡◌, map}
use Rattle.txn_lang.specs.Items as spec
use Rattle.txn_eval.proofs.items.texts_of.Given as goal

abbrev pub invariant-loop-item : goal.invariant-loop-item
invariant-loop-item l = l.texts ≡ map spec.text_in l.yielded
