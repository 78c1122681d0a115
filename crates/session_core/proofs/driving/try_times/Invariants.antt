use Rattle.std.proofs.Common.{◌≡◌, ◌-◌}
use Rattle.docc_prepare.specs.Backends.{Goes}
use Rattle.call_programs.specs.Programs.{Leads}
use Rattle.session_core.specs.Events.{closed}
use Rattle.session_core.specs.Holding.{Attends, Holds}
use Rattle.session_core.specs.Verbs.{try_times}
use Rattle.session_core.proofs.driving.try_times.Given as goal

-- it has come to the attempt of that number, counted from 1
abbrev pub invariant-loop : goal.invariant-loop
invariant-loop g l = record {
  plays : Leads (Goes g.B.Backend.known g.B.Backend.goes) l.fn.backend (try_times (l.tries - 1) l.session l.fn.attempt) l.backend
      (try_times (l.tries - l.counter) l.session l.attempt);
  attends : Attends (g.B.Backend.known l.backend) (closed l.session);
  holds : Holds (g.B.Backend.known l.backend) l.attempt;
  home : g.B.Backend.home l.backend ≡ g.B.Backend.home l.fn.backend;
}
