use Rattle.thread_tests.proofs.backends.broken.BrokenBackend.seen.Goals as goal

-- it is the pass's own, whatever has failed
pub returns-clause-readable : goal.returns-clause-readable
returns-clause-readable g c =
    let is = c.seen.ensures.readable in record { within = is.within; can = is.can; can_on = is.can_on }
