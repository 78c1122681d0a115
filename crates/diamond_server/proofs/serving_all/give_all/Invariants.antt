use Rattle.std.proofs.Common.{◌≡◌, length}
use Rattle.std.specs.Vec.Iter.{into_iter_items, into_iter_len}
use Rattle.diamond_server.specs.Accounts.{AreEnded}
use Rattle.diamond_server.specs.Promises.{sides}
use Rattle.diamond_server.specs.code.Settling.{Settling}
use Rattle.diamond_server.proofs.serving_all.give_all.Given as goal

-- those given back, and those that are still to come
abbrev pub invariant-loop-ended : goal.invariant-loop-ended
invariant-loop-ended g l = record {
  same : l.pass ≡ l.fn.pass;
  links : g.Li.Listener.links l.listener ≡ g.Li.Listener.links l.fn.listener;
  count : g.Li.Listener.accept_faults l.listener ≡ g.Li.Listener.accept_faults l.fn.listener;
  len : into_iter_len l.ended-iterator ≡ length (into_iter_items l.ended-iterator);
  settling : Settling g.S.Serves.promised (sides g.Li.Link.Source g.Li.Link.Sink)
      l.fn.pass l.fn.all.items (into_iter_items l.ended-iterator) (g.Li.Listener.given_back l.fn.listener) (g.Li.Listener.given_back l.listener) l.faulted;
  ended : AreEnded g.Li.Link.End.ended (g.Li.Listener.given_back l.fn.listener) (g.Li.Listener.given_back l.listener);
}
