use Rattle.std.proofs.Common.{◌≡◌, ◌≤◌, ◌-◌}
use Rattle.docc_prepare.specs.Backends.{Goes}
use Rattle.call_programs.specs.Programs.{Leads}
use Rattle.txn_eval.specs.Pausing.{IsPauseOf}
use Rattle.session_core.specs.Verbs.{events, look_in, look_at}
use Rattle.session_core.proofs.looking.look_at.Given as goal

abbrev pub invariant-loop : goal.invariant-loop
invariant-loop g l = record {
  plays : Leads (Goes g.B.Backend.known g.B.Backend.goes) l.fn.backend (look_at l.number l.body) l.backend
      (look_in (events - l.counter) l.number l.body l.snaps);
  seen : l.number ≤ (g.B.Backend.known l.backend).seen;
  paused : IsPauseOf l.body.body.stmts l.snaps l.pause;
  home : g.B.Backend.home l.backend ≡ g.B.Backend.home l.fn.backend;
}
