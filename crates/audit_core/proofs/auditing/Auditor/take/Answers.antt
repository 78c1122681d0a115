use Rattle.std.proofs.Common.{ap, ◌∙◌}
use Rattle.audit_core.specs.Dumps.{state_of}
use Rattle.audit_core.proofs.Taking.{state-more, counts-more}
use Rattle.audit_core.proofs.auditing.Auditor.take.Goals as goal

pub returns : goal.returns
returns c = λ before is follows. record {
  state = ap state_of c.in_ok-change_all.ensures.changed
      ∙ state-more before c.args.commit.now c.args.self.now.state is.state c.in_ok-change_all.ensures.rising;
  counts = counts-more before c.args.commit.now c.args.self.now.seqs.entries c.insert.new.self.entries is.counts
      c.in_ok-insert.ensures.updates.0 follows.seq;
}
