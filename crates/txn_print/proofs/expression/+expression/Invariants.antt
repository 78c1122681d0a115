use Rattle.std.proofs.Common.{◌≡◌, take, map}
use Rattle.std.specs.List.{flat_map}
use Rattle.txn_print.specs.Pieces.{written}
use Rattle.txn_print.specs.Canonical.{further, shown_operand, after_comma, expression}
use Rattle.txn_print.proofs.expression.+expression.Given as goal

abbrev pub invariant-push_further-loop-operand : goal.invariant-push_further-loop-operand
invariant-push_further-loop-operand l = l.line ≡ written l.fn.line (flat_map further (map shown_operand (take l.operand-index l.rest)))

abbrev pub invariant-push_separated-loop-element : goal.invariant-push_separated-loop-element
invariant-push_separated-loop-element l = l.line ≡ written l.initial.line (flat_map after_comma (map expression (take l.element-index l.rest)))
