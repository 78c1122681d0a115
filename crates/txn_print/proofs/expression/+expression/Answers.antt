use Rattle.std.proofs.Common.{arith}
use Rattle.std.proofs.lemmas.Grind.{common_steps}
use Rattle.txn_print.proofs.Equations.{at_number, at_text, at_bool, at_name, at_texts, at_len, at_str, at_negative, at_not, at_compare, at_chain, at_read}
use Rattle.txn_print.proofs.expression.+expression.Goals as goal

pub push_bare-returns-in-Number : goal.push_bare-returns-in-Number
push_bare-returns-in-Number t c = let e = at_number c.args.e.now c.in-Number.value c.in-Number.is in grind (arith, common_steps, e)

pub push_bare-returns-in-Text : goal.push_bare-returns-in-Text
push_bare-returns-in-Text t c = let e = at_text c.args.e.now c.in-Text.bytes c.in-Text.is in grind (arith, common_steps, e)

pub push_bare-returns-in-Bool : goal.push_bare-returns-in-Bool
push_bare-returns-in-Bool t c = let e = at_bool c.args.e.now c.in-Bool.value c.in-Bool.is in grind (arith, common_steps, e)

pub push_bare-returns-in-Name : goal.push_bare-returns-in-Name
push_bare-returns-in-Name t c = let e = at_name c.args.e.now c.in-Name.name c.in-Name.is in grind (arith, common_steps, e)

pub push_bare-returns-in_ok-push_separated-in-Texts : goal.push_bare-returns-in_ok-push_separated-in-Texts
push_bare-returns-in_ok-push_separated-in-Texts t c = let e = at_texts c.args.e.now c.in-Texts.elements c.in-Texts.is in grind (arith, common_steps, e)

pub push_bare-returns-in_ok-word-in-Len : goal.push_bare-returns-in_ok-word-in-Len
push_bare-returns-in_ok-word-in-Len t c = let e = at_len c.args.e.now c.in-Len.argument c.in-Len.is in grind (arith, common_steps, e)

pub push_bare-returns-in_ok-word-in-Str : goal.push_bare-returns-in_ok-word-in-Str
push_bare-returns-in_ok-word-in-Str t c = let e = at_str c.args.e.now c.in-Str.argument c.in-Str.is in grind (arith, common_steps, e)

pub push_bare-returns-in_ok-opening-in-Negative : goal.push_bare-returns-in_ok-opening-in-Negative
push_bare-returns-in_ok-opening-in-Negative t c = let e = at_negative c.args.e.now c.in-Negative.value c.in-Negative.is in grind (arith, common_steps, e)

pub push_bare-returns-in_ok-word-in-Not : goal.push_bare-returns-in_ok-word-in-Not
push_bare-returns-in_ok-word-in-Not t c = let e = at_not c.args.e.now c.in-Not.value c.in-Not.is in grind (arith, common_steps, e)

pub push_bare-returns-in_ok-word-in-Compare : goal.push_bare-returns-in_ok-word-in-Compare
push_bare-returns-in_ok-word-in-Compare t c =
    let e = at_compare c.args.e.now c.in-Compare.left c.in-Compare.relation c.in-Compare.right c.in-Compare.is in
    grind (arith, common_steps, e)

pub push_bare-returns-in_ok-push_expr-in-Chain : goal.push_bare-returns-in_ok-push_expr-in-Chain
push_bare-returns-in_ok-push_expr-in-Chain t c = let e = at_chain c.args.e.now c.in-Chain.first c.in-Chain.rest c.in-Chain.is in grind (arith, common_steps, e)

pub push_bare-returns-in_ok-push_target-in-Read : goal.push_bare-returns-in_ok-push_target-in-Read
push_bare-returns-in_ok-push_target-in-Read t c =
    let e = at_read c.args.e.now c.in-Read.kind c.in-Read.key c.in-Read.word c.in-Read.arguments c.in-Read.is in
    grind (arith, common_steps, e)
