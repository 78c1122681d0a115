use Rattle.diamond_server.proofs.serving_all.begin_next.Goals as goal

pub begin-requires-clause-newcomer : goal.begin-requires-clause-newcomer
begin-requires-clause-newcomer g c lifetimes outlive = c.in-Ok.ensures.joins.own_commits
