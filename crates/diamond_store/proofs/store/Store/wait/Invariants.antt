use Rattle.std.proofs.Common.{◌≡◌}
use Rattle.diamond_store.specs.Answers.{Learns}
use Rattle.diamond_store.proofs.store.Store.wait.Given as goal

-- the pass has learnt, and seen no more
abbrev pub invariant-loop : goal.invariant-loop
invariant-loop g l =
    (goal.iterator-loop g).can_next l.iterator' × (goal.iterator-loop g).is_finite l.iterator' × Learns l.fn.pass l.pass × (l.pass.seen ≡ l.fn.pass.seen)
