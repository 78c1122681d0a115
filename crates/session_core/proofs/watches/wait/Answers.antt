use Rattle.std.proofs.Common.{arith}
use Rattle.docc_prepare.specs.Calls.{Answer}
use Rattle.call_programs.proofs.Programs.{one_call, call_failed, fails}
use Rattle.session_core.proofs.Performing.{fault_is, performs_behind}
use Rattle.session_core.proofs.LinePerforming.{waited_for, none_to_wait_for}
use Rattle.session_core.proofs.Safe.{refreshed_on}
use Rattle.session_core.proofs.watches.wait.Goals as goal

-- a refresh adds no commit of the client's
pub sync-requires : goal.sync-requires
sync-requires g c =
    refreshed_on (g.B.Backend.known c.args.backend.now) (g.B.Backend.known c.refresh.new.self) c.args.session.now c.in_ok-refresh.field-0
    c.in_ok-refresh.ensures.goes.answered c.requires

pub returns-in_err-refresh-clause-plays : goal.returns-in_err-refresh-clause-plays
returns-in_err-refresh-clause-plays g c =
    fails _ c.from_residual.result c.from_residual.ensures.1
    (call_failed c.in_err-refresh.field-0.0 c.in_err-refresh.ensures.goes (fault_is c.in_err-refresh.field-0.0))

pub returns-then-branch-clause-plays : goal.returns-then-branch-clause-plays
returns-then-branch-clause-plays g c =
    performs_behind _ _ _ c.sync.result (one_call (Answer.number c.in_ok-refresh.field-0) c.in_ok-refresh.ensures.goes tt
    (waited_for c.args.session.now (g.B.Backend.known c.args.backend.now).seen c.in_ok-refresh.field-0
    (let more = c.if-branch.true in let is = c.seen-seen.ensures.seen in omega arith))) c.sync.ensures.plays

pub returns-else-branch-clause-plays : goal.returns-else-branch-clause-plays
returns-else-branch-clause-plays g c =
    one_call (Answer.number c.in_ok-refresh.field-0) c.in_ok-refresh.ensures.goes tt
    (none_to_wait_for c.args.session.now (g.B.Backend.known c.args.backend.now).seen c.in_ok-refresh.field-0
    (let few = c.if-branch.false in let is = c.seen-seen.ensures.seen in omega arith))
