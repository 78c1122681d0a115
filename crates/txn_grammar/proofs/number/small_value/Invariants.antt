use Rattle.std.proofs.Common.{◌≡◌, ◌≤◌, take, fold}
use Rattle.dtext.specs.declared.number.TheConstants.{MOST}
use Rattle.txn_grammar.specs.Numbers.{with_digit}
use Rattle.txn_grammar.proofs.number.small_value.Given as goal

abbrev pub invariant-loop-digit : goal.invariant-loop-digit
invariant-loop-digit l = (l.value ≡ fold with_digit 0 (take l.digit-index l.digits)) × (l.value ≤ MOST)
