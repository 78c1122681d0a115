use Rattle.std.proofs.Common.{◌≡◌, Some, None, sym, ◌∙◌}
use Rattle.call_programs.proofs.Counted.{counts_over}
use Rattle.session_core.specs.declared.error.SessionError.TheVariants as error
use Rattle.session_core.specs.Holding.{Attends}
use Rattle.session_core.specs.LinePrograms.{line_over}
use Rattle.session_core.specs.Lines.{line_of}
use Rattle.session_core.proofs.Accounting.{follows-on, where-ok}
use Rattle.session_core.proofs.LinePerforming.{performs_err}
use Rattle.session_core.proofs.Quitting.{quits}
use Rattle.session_core.proofs.session.Session.line_by.Goals as goal

pub returns-in_default-turn-clause-follows : goal.returns-in_default-turn-clause-follows
returns-in_default-turn-clause-follows g c = follows-on (g.B.Backend.known c.turn-turn.new.backend) c.turn-turn.new.session
    (where-ok c.turn-turn.result (Attends (g.B.Backend.known c.turn-turn.new.backend) c.turn-turn.new.session) c.in_default-turn.not-Err
    c.turn-turn.ensures.attends)

pub returns-in-Some-clause-told : goal.returns-in-Some-clause-told
returns-in-Some-clause-told g c = λ none. let both : Some c.in-Some.error ≡ None = sym c.in-Some.is ∙ none in absurd (cc)

pub returns-in-Err-clause-told : goal.returns-in-Err-clause-told
returns-in-Err-clause-told g c = λ none. counts_over g.B.Backend.known g.B.Backend.goes _ _ error.StoreFault
    (line_over (g.B.Backend.known c.args.backend.now) c.args.self.now (line_of c.args.bytes.now)) c.turn-turn.result _ c.turn-turn.ensures.plays

pub returns-in_default-turn-clause-told : goal.returns-in_default-turn-clause-told
returns-in_default-turn-clause-told g c = λ none. counts_over g.B.Backend.known g.B.Backend.goes _ _ error.StoreFault
    (line_over (g.B.Backend.known c.args.backend.now) c.args.self.now (line_of c.args.bytes.now)) c.turn-turn.result _ c.turn-turn.ensures.plays

pub returns-in_default-turn-clause-quit : goal.returns-in_default-turn-clause-quit
returns-in_default-turn-clause-quit g c = λ replies is. quits g.B.Backend.known g.B.Backend.goes _ _ c.args.self.now c.turn-turn.new.session
    (line_of c.args.bytes.now) c.turn-turn.result replies is c.turn-turn.ensures.plays

pub returns-in_default-turn-clause-explained : goal.returns-in_default-turn-clause-explained
returns-in_default-turn-clause-explained g c = c.turn-turn.ensures.accounted.explained

pub returns-in_default-turn-clause-owns : goal.returns-in_default-turn-clause-owns
returns-in_default-turn-clause-owns g c = c.turn-turn.ensures.accounted.owns

pub returns-in_default-turn-clause-denied : goal.returns-in_default-turn-clause-denied
returns-in_default-turn-clause-denied g c = c.turn-turn.ensures.accounted.denied

pub returns-in_default-turn-clause-knows : goal.returns-in_default-turn-clause-knows
returns-in_default-turn-clause-knows g c = c.turn-turn.ensures.accounted.knows

pub returns-in-Err-clause-owns : goal.returns-in-Err-clause-owns
returns-in-Err-clause-owns g c = c.turn-turn.ensures.accounted.owns

pub returns-in-Err-clause-denied : goal.returns-in-Err-clause-denied
returns-in-Err-clause-denied g c = c.turn-turn.ensures.accounted.denied

pub returns-in-Err-clause-knows : goal.returns-in-Err-clause-knows
returns-in-Err-clause-knows g c = c.turn-turn.ensures.accounted.knows

pub returns-in-Some-clause-plays : goal.returns-in-Some-clause-plays
returns-in-Some-clause-plays g c = λ none. let both : Some c.in-Some.error ≡ None = sym c.in-Some.is ∙ none in absurd (cc)

pub returns-in-Err-clause-plays : goal.returns-in-Err-clause-plays
returns-in-Err-clause-plays g c = λ none. performs_err _ _ _ _ _ _ _ c.turn-turn.result c.in-Err.is c.turn-turn.ensures.plays

pub returns-in_default-turn-clause-plays : goal.returns-in_default-turn-clause-plays
returns-in_default-turn-clause-plays g c = λ none. c.turn-turn.ensures.plays
