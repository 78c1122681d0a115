use Rattle.std.proofs.Math.Facts.{Fits-lt-pow}
use Rattle.journal_file.proofs.Recorded.{read-recorded}
use Rattle.journal_file.proofs.Chained.{takes-payload, all_small}
use Rattle.journal_file.proofs.chain.CommitChainChain.take.Goals as goal

pub take_commit-requires-clause-recorded : goal.take_commit-requires-clause-recorded
take_commit-requires-clause-recorded g c =
    (read-recorded c.args.version c.args.bytes.now c.in-Ok.commit (all_small c.args.bytes.now (λ k. Fits-lt-pow (c.type_inv.bytes k))) c.in-Ok.ensures.read).0

pub returns-in-Ok-clause-takes : goal.returns-in-Ok-clause-takes
returns-in-Ok-clause-takes g c =
    takes-payload c.take_commit.result c.args.bytes.now c.in-Ok.commit c.args.self.now c.take_commit.new.self
    (read-recorded c.args.version c.args.bytes.now c.in-Ok.commit (all_small c.args.bytes.now (λ k. Fits-lt-pow (c.type_inv.bytes k))) c.in-Ok.ensures.read).1
    c.take_commit.ensures.takes
