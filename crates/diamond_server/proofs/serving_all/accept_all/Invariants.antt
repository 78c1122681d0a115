use Rattle.std.proofs.Common.{◌≡◌, ◌+◌}
use Rattle.diamond_store.specs.Answers.{Learns}
use Rattle.diamond_server.specs.code.Settling.{Turns}
use Rattle.diamond_server.proofs.serving_all.accept_all.Given as goal

-- each turn accepted a link
abbrev pub invariant-loop-turn : goal.invariant-loop-turn
invariant-loop-turn g l = record {
  learns : Learns l.fn.pass l.pass;
  given : g.Li.Listener.given_back l.listener ≡ g.Li.Listener.given_back l.fn.listener;
  turns : Turns l.pass (g.N.Naming.lock.first + l.fn.pass.draws) (g.N.Naming.lock.first + l.pass.draws) l._turn
      (g.Li.Listener.links l.fn.listener) (g.Li.Listener.links l.listener) (g.Li.Listener.accept_faults l.fn.listener)
      (g.Li.Listener.accept_faults l.listener) l.begun.items;
}
