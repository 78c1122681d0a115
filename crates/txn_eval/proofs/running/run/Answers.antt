use Rattle.txn_eval.proofs.running.run.Goals as goal

pub go_on-requires : goal.go_on-requires
go_on-requires c = c.begun.ensures c.args.body.now.body.stmts c.args.snaps.now
