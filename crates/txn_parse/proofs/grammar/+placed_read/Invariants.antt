use Rattle.txn_parse.proofs.grammar.+placed_read.Given as goal

abbrev pub decreases-placed_read : goal.decreases-placed_read
decreases-placed_read l = l.levels
