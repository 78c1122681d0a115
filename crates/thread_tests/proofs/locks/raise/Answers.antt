use Rattle.std.proofs.Common.{[]}
use Rattle.plain_data.proofs.Histories.{lawful_all}
use Rattle.thread_tests.proofs.locks.raise.Goals as goal

pub leave-requires-clause-lawful : goal.leave-requires-clause-lawful
leave-requires-clause-lawful g c = lawful_all (λ _ _ _. Unit {0}) g.N.Naming.lock.base (λ _ _. tt) [] _
