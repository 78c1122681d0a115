use Rattle.std.proofs.Common.{arith}
use Rattle.std.proofs.lemmas.Grind.{common_steps}
use Rattle.txn_print.proofs.Equations.{at_chain}
use Rattle.txn_print.proofs.expression.rank_of.Goals as goal

pub returns-in-Chain : goal.returns-in-Chain
returns-in-Chain c = let e = at_chain c.args.e.now c.in-Chain.field-0 c.in-Chain.rest c.in-Chain.is in grind (arith, common_steps, e)
