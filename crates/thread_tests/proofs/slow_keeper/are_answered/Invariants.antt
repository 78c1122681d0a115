use Rattle.diamond_store.specs.Passes.{known_of}
use Rattle.session_core.specs.Holding.{Follows}
use Rattle.thread_tests.proofs.slow_keeper.are_answered.Given as goal

-- the next line may follow
abbrev pub invariant-loop-line : goal.invariant-loop-line
invariant-loop-line g l = Follows (known_of l.served.pass) l.session
