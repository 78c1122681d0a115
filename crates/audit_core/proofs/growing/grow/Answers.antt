use Rattle.audit_core.proofs.Behind.{grown-more}
use Rattle.audit_core.proofs.growing.grow.Goals as goal

-- what was found, and the state that is asked for
pub returns : goal.returns
returns c = λ before was.
    grown-more before c.args.commit.now c.args.at c.args.so_far c.args.kept.now.auditor c.next.new.self c.args.kept.now.asked c.ask.new.asked
    c.next.result was c.in_ok-ask.ensures (c.next.ensures before was.found)
