use Rattle.std.proofs.Common.{◌≡◌, ◌-◌}
use Rattle.docc_prepare.specs.Backends.{Goes}
use Rattle.call_programs.specs.Programs.{Leads}
use Rattle.session_core.specs.Events.{closed}
use Rattle.session_core.specs.Holding.{Attends, Holds}
use Rattle.session_core.specs.Remembering.{IsKnownOf}
use Rattle.session_core.specs.Verbs.{events, drive_in, drive}
use Rattle.session_core.proofs.driving.until_append.Given as goal

abbrev pub invariant-loop : goal.invariant-loop
invariant-loop g l = record {
  plays : Leads (Goes g.B.Backend.known g.B.Backend.goes) l.fn.backend (drive l.session l.fn.attempt) l.backend
      (drive_in (events - l.counter) l.session l.attempt);
  attends : Attends (g.B.Backend.known l.backend) (closed l.session);
  holds : Holds (g.B.Backend.known l.backend) l.attempt;
  known : IsKnownOf l.attempt l.known;
  home : g.B.Backend.home l.backend ≡ g.B.Backend.home l.fn.backend;
}
