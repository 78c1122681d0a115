use Rattle.commit_file.proofs.Settled.{marked-throughout, marked_at_rest}
use Rattle.commit_file.proofs.settling.put_mark.Goals as goal

pub returns-in-Done-clause-at_rest : goal.returns-in-Done-clause-at_rest
returns-in-Done-clause-at_rest g c =
    marked_at_rest c.args.end c.args.bytes.now (g.D.Disk.state c.args.disk.now) (g.D.Disk.state c.set_gate.new.disk)
    c.requires.within c.requires.closed (rw c.in-Done.is at c.set_gate.ensures.sets)

pub returns-in-Behind-clause-any_moment : goal.returns-in-Behind-clause-any_moment
returns-in-Behind-clause-any_moment g c = λ m ps form.
    marked-throughout m ps c.args.end c.args.bytes.now (g.D.Disk.state c.args.disk.now) (g.D.Disk.state c.set_gate.new.disk)
    (g.D.Disk.past c.args.disk.now) (g.D.Disk.past c.set_gate.new.disk) c.requires.within c.requires.closed form c.set_gate.ensures.moments

pub returns-in-Done-clause-any_moment : goal.returns-in-Done-clause-any_moment
returns-in-Done-clause-any_moment g c = λ m ps form.
    marked-throughout m ps c.args.end c.args.bytes.now (g.D.Disk.state c.args.disk.now) (g.D.Disk.state c.set_gate.new.disk)
    (g.D.Disk.past c.args.disk.now) (g.D.Disk.past c.set_gate.new.disk) c.requires.within c.requires.closed form c.set_gate.ensures.moments
