use Rattle.std.proofs.Common.{◌++◌, ◌∷◌, [], sym, ap, ◌∙◌}
use Rattle.session_text.specs.declared.reply.Reply.TheVariants as reply
use Rattle.call_programs.specs.Programs.{Program}
use Rattle.call_programs.proofs.Programs.{here, in_bind, bound, stops_in, fails}
use Rattle.client_watches.specs.Lines.{current}
use Rattle.client_watches.proofs.Parts.{wants}
use Rattle.client_watches.proofs.lines.say_current.Goals as goal

pub returns-in_err-all-clause-plays : goal.returns-in_err-all-clause-plays
returns-in_err-all-clause-plays g c =
    fails _ c.from_residual.result c.from_residual.ensures.1 (stops_in (λ found. Program.ends (current found)) c.in_err-all.ensures.plays)

pub returns-then-not-all-clause-plays : goal.returns-then-not-all-clause-plays
returns-then-not-all-clause-plays g c =
    bound (λ found. Program.ends (current found)) c.in_ok-all.ensures.plays
    (here (ap (λ b. Program.ends (current (b, c.catch_up.new.watching, c.catch_up.new.said))) c.if-not-all.true))

pub returns-in_err-push-clause-plays : goal.returns-in_err-push-clause-plays
returns-in_err-push-clause-plays g c =
    fails _ c.from_residual-in_err-push.result c.from_residual-in_err-push.ensures.1
    (wants (in_bind (λ found. Program.ends (current found)) c.in_ok-all.ensures.plays))

pub returns-clause-plays : goal.returns-clause-plays
returns-clause-plays g c =
    bound (λ found. Program.ends (current found)) c.in_ok-all.ensures.plays
    (here (ap (λ b. Program.ends (current (b, c.catch_up.new.watching, c.catch_up.new.said))) c.if-not-all.false
    ∙ ap (λ said. Program.ends (c.catch_up.new.watching, said))
    (sym (c.in_ok-push.ensures.ok ∙ ap (λ n. c.catch_up.new.said ++ reply.Current n ∷ []) c.at.ensures))))
