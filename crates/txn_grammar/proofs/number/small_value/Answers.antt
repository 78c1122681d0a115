use Rattle.std.proofs.Common.{arith, sym, Some, w64, ◌∙◌, ap, ◌+◌}
use Rattle.std.proofs.lemmas.Int.{to_z_pos}
use Rattle.std.proofs.lemmas.List.Sums.{fold_more}
use Rattle.txn_grammar.specs.Numbers.{with_digit}
use Rattle.txn_grammar.proofs.Values.{too_large, small}
use Rattle.txn_grammar.proofs.number.small_value.Goals as goal

pub returns-then-value-from : goal.returns-then-value-from
returns-then-value-from c =
    let k = fold_more with_digit 0 c.args.digits.now c.loop-digit.digit-index 0 (omega arith) in
    sym (too_large c.args.digits.now (c.loop-digit.digit-index + 1) (omega (arith, k)))

pub returns : goal.returns
returns c =
    sym (small c.args.digits.now c.loop-digit.digit-index c.loop-digit.value c.loop-digit.invariant.0 (omega arith) c.loop-digit.invariant.1
    ∙ ap (λ z. Some z) (sym (to_z_pos w64 c.loop-digit.value (omega arith))))
