use Rattle.std.proofs.Common.{ℕ, sym, subst}
use Rattle.session_core.specs.Holding.{Follows}
use Rattle.thread_tests.specs.Faults.{failing}
use Rattle.thread_tests.proofs.backends.broken.Broken.new.Goals as goal

pub returns : goal.returns
returns g c = λ s h. subst (λ (n : ℕ). Follows (failing c.args.served.pass n) s) (sym c.new-faults.ensures) h
