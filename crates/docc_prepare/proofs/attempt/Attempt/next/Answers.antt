use Rattle.docc_prepare.proofs.attempt.Attempt.next.Goals as goal

pub next_from-requires : goal.next_from-requires
next_from-requires c = c.begun.ensures c.args.self.now.body.body.stmts c.args.self.now.snaps
