use Rattle.std.proofs.Common.{ap, sym}
use Rattle.txn_lang.specs.Items.{named, texts_in}
use Rattle.txn_eval.proofs.Pauses.{name_form, named_over}
use Rattle.txn_eval.proofs.going.over_of.Goals as goal

pub returns-in_ok-clone-in-Name : goal.returns-in_ok-clone-in-Name
returns-in_ok-clone-in-Name c = (
  named c.args.here.now.names.now c.in-Name.listed,
  ap (λ x. texts_in (named c.args.here.now.names.now x)) (sym c.in_ok-clone-in-Name.ensures.cases),
  λ t more. named_over c.args.expr.now c.in-Name.listed (name_form c.args.expr.now c.in-Name.listed c.in-Name.is) c.args.here.now.names.now c.args.run.now c.charge.new.run c.charge-in-Name.new.run
      c.in_ok-charge-in-Name.ensures.rule c.in_ok-charge-in-Name-2.ensures.rule t,
)
