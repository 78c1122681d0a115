use Rattle.std.proofs.Common.{◌≡◌, ◌++◌, length, map}
use Rattle.std.specs.Prelude.{All}
use Rattle.std.specs.Vec.Iter.{into_iter_items, into_iter_len}
use Rattle.diamond_store.specs.Answers.{Learns}
use Rattle.diamond_server.specs.Accounts.{seat_of}
use Rattle.diamond_server.specs.code.Settling.{IsNear}
use Rattle.diamond_server.proofs.serving_all.join_all.Given as goal

-- those joined, and those that are still to come
abbrev pub invariant-loop-session : goal.invariant-loop-session
invariant-loop-session g l = record {
  learns : Learns l.fn.pass l.pass;
  len : into_iter_len l.session-iterator ≡ length (into_iter_items l.session-iterator);
  seats : map seat_of l.all.items ++ into_iter_items l.session-iterator ≡ l.fn.begun.items;
  near : All (IsNear l.pass) l.all.items;
}
