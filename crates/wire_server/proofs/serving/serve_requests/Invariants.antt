use Rattle.std.proofs.Common.{◌≡◌}
use Rattle.diamond_server.specs.Promises.{sides}
use Rattle.remote_service.specs.Serving.{Serves}
use Rattle.wire_server.specs.code.Serving.{HasServed}
use Rattle.wire_server.proofs.serving.serve_requests.Given as goal

-- so many requests were answered, the service may go on, and the backend stands where it stood
abbrev pub invariant-loop : goal.invariant-loop
invariant-loop g l = record {
  served : HasServed g.B.Backend.known g.B.Backend.goes l.counter l.fn.backend
      (sides g.K.Source g.K.Sink l.fn.link) l.service l.backend
      (sides g.K.Source g.K.Sink l.link);
  serves : Serves l.service (g.B.Backend.known l.backend);
  home : g.B.Backend.home l.backend ≡ g.B.Backend.home l.fn.backend;
}
