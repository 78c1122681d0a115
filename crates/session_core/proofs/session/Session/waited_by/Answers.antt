use Rattle.std.proofs.Common.{◌≡◌, Some, None, sym, ◌∙◌}
use Rattle.call_programs.proofs.Counted.{counts_over}
use Rattle.session_core.specs.declared.error.SessionError.TheVariants as error
use Rattle.session_core.specs.LinePrograms.{sync}
use Rattle.session_core.proofs.LinePerforming.{performs_err}
use Rattle.session_core.proofs.session.Session.waited_by.Goals as goal

pub returns-in-Some-clause-told : goal.returns-in-Some-clause-told
returns-in-Some-clause-told g c = λ none. let both : Some c.in-Some.error ≡ None = sym c.in-Some.is ∙ none in absurd (cc)

pub returns-in-Err-clause-told : goal.returns-in-Err-clause-told
returns-in-Err-clause-told g c = λ none. counts_over g.B.Backend.known g.B.Backend.goes _ _ error.StoreFault (sync c.args.self.now)
    c.sync_turn-turn.result _ c.sync_turn-turn.ensures.plays

pub returns-in_default-turn-clause-told : goal.returns-in_default-turn-clause-told
returns-in_default-turn-clause-told g c = λ none. counts_over g.B.Backend.known g.B.Backend.goes _ _ error.StoreFault (sync c.args.self.now)
    c.sync_turn-turn.result _ c.sync_turn-turn.ensures.plays

pub returns-in-Some-clause-plays : goal.returns-in-Some-clause-plays
returns-in-Some-clause-plays g c = λ none. let both : Some c.in-Some.error ≡ None = sym c.in-Some.is ∙ none in absurd (cc)

pub returns-in-Err-clause-plays : goal.returns-in-Err-clause-plays
returns-in-Err-clause-plays g c = λ none. performs_err _ _ _ _ _ _ _ c.sync_turn-turn.result c.in-Err.is c.sync_turn-turn.ensures.plays

pub returns-in_default-turn-clause-plays : goal.returns-in_default-turn-clause-plays
returns-in_default-turn-clause-plays g c = λ none. c.sync_turn-turn.ensures.plays
