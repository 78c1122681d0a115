use Rattle.std.proofs.Common.{◌≡◌}
use Rattle.session_core.specs.Holding.{Attends}
use Rattle.diamond_server.specs.Talking.{first_session}
use Rattle.diamond_server.specs.Promises.{sides}
use Rattle.diamond_server.specs.code.Serving.{HasServed}
use Rattle.diamond_server.proofs.serving.serve_lines.Given as goal

-- so many lines were done and answered, the session goes on, and the backend stands where it stood
abbrev pub invariant-loop : goal.invariant-loop
invariant-loop g l = record {
  served : HasServed g.B.Backend.known g.B.Backend.goes l.counter l.fn.backend
      (sides g.K.Source g.K.Sink l.fn.link) l.backend l.ongoing.session
      (sides g.K.Source g.K.Sink l.link) l.ongoing.held;
  attends : Attends (g.B.Backend.known l.backend) l.ongoing.session;
  first : Attends (g.B.Backend.known l.fn.backend) (first_session (g.B.Backend.known l.fn.backend));
  home : g.B.Backend.home l.backend ≡ g.B.Backend.home l.fn.backend;
}
