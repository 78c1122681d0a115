use Rattle.std.proofs.Common.{sym, ◌∙◌}
use Rattle.session_core.proofs.Performing.{abort_unshown, other_shown}
use Rattle.session_core.proofs.driving.unless_abort.Goals as goal

pub returns-then-is_abort : goal.returns-then-is_abort
returns-then-is_abort c = sym (abort_unshown c.args.reply (sym c.is_abort.ensures ∙ c.if-is_abort.true))

pub returns : goal.returns
returns c = sym (other_shown c.args.reply (sym c.is_abort.ensures ∙ c.if-is_abort.false))
