use Rattle.diamond_server.proofs.ended.Ended.settled.Goals as goal

-- what was told of the link by what its client knew, is told of it by what the pass knows
pub returns-clause-served : goal.returns-clause-served
returns-clause-served g c = rw (← c.self.view_is) (c.settle.ensures.told _ _ _ c.self.invariant.0)

-- and it is ended
pub returns-clause-ended : goal.returns-clause-ended
returns-clause-ended g c = c.self.invariant.1
