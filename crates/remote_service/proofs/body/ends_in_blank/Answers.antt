use Rattle.std.proofs.Common.{sym, ◌∙◌}
use Rattle.record_code.proofs.Bodies.{last_blank, no_last}
use Rattle.remote_service.proofs.body.ends_in_blank.Goals as goal

pub returns-in-Some : goal.returns-in-Some
returns-in-Some c = c.is_blank.ensures ∙ sym (last_blank c.args.text.now _ (sym c.in-Some.ensures.value))

pub returns-in-None : goal.returns-in-None
returns-in-None c = sym (no_last c.args.text.now (sym c.in-None.ensures.value))
