use Rattle.std.proofs.Common.{refl, subst, sym, ap, ◌∙◌}
use Rattle.client_watches.specs.Keeping.{Keeps}
use Rattle.rerun_driver.specs.Watches.{Watches, watch_of}
use Rattle.docc_prepare.specs.Calls.{Answer}
use Rattle.call_programs.specs.Programs.{Program}
use Rattle.call_programs.proofs.Programs.{one_call, fails}
use Rattle.client_watches.proofs.Parts.{wants, failed}
use Rattle.client_watches.proofs.Names.{none-told}
use Rattle.client_watches.proofs.Kept.{keeps-feed}
use Rattle.client_watches.proofs.fetching.take.Goals as goal

pub returns-in_err-feed-clause-plays : goal.returns-in_err-feed-clause-plays
returns-in_err-feed-clause-plays g c =
    fails _ c.from_residual.result c.from_residual.ensures.1 (failed c.in_err-feed.field-0.0 c.in_err-feed.ensures.goes)

pub returns-in_err-advance-clause-plays : goal.returns-in_err-advance-clause-plays
returns-in_err-advance-clause-plays g c =
    fails _ c.from_residual-in_err-advance.result c.from_residual-in_err-advance.ensures.1
    (wants (one_call (Answer.feed c.in_ok-feed.feed) c.in_ok-feed.ensures.goes tt refl))

pub returns-clause-plays : goal.returns-clause-plays
returns-clause-plays g c = one_call (Answer.feed c.in_ok-feed.feed) c.in_ok-feed.ensures.goes tt
    (λ i. Program.ends (record { watches = sym c.advance-2.ensures i; cache = sym c.in_ok-advance.ensures.ok i; loose = c.args.watching.now.loose }))

pub returns-clause-keeps : goal.returns-clause-keeps
returns-clause-keeps g c =
    subst (Keeps (g.B.Backend.known c.take.new.self))
    (sym (λ i. record { watches = c.advance-2.ensures i; cache = c.in_ok-advance.ensures.ok i; loose = c.args.watching.now.loose }))
    (keeps-feed (g.B.Backend.known c.args.backend.now) (g.B.Backend.known c.take.new.self) c.args.watching.now c.in_ok-feed.feed c.requires
    c.in_ok-feed.ensures.goes.answered.shows.0)

pub returns-clause-free : goal.returns-clause-free
returns-clause-free g c = λ name none.
    ap (λ (ws : Watches). watch_of ws name) c.advance-2.ensures ∙ none-told name c.in_ok-feed.feed.changes c.args.watching.now.watches none
