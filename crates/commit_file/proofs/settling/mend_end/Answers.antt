use Rattle.std.proofs.Common.{[], ◌∷◌}
use Rattle.commit_file.specs.Kept.{KeptAs}
use Rattle.commit_file.specs.Recovering.{replace_moments}
use Rattle.commit_file.proofs.Mended.{mended_at, kept_parts}
use Rattle.commit_file.proofs.Settled.{any_moment, no_moment, replaced-rests}
use Rattle.commit_file.proofs.settling.mend_end.Goals as goal

pub returns-in-0-clause-any_moment : goal.returns-in-0-clause-any_moment
returns-in-0-clause-any_moment g c = λ m ps unmarked form none.
    no_moment (KeptAs m ps) c.args.bytes.now (g.D.Disk.state c.args.disk.now) (g.D.Disk.past c.args.disk.now)
    c.requires.reads c.requires.pending (kept_parts m unmarked ps c.args.end c.args.bytes.now form none)

pub returns-clause-any_moment : goal.returns-clause-any_moment
returns-clause-any_moment g c = λ m ps unmarked form none.
    any_moment (KeptAs m ps) c.args.bytes.now (g.D.Disk.state c.args.disk.now) (g.D.Disk.state c.replace_end.new.disk)
    (g.D.Disk.past c.args.disk.now) (g.D.Disk.past c.replace_end.new.disk) (replace_moments c.args.end (0 ∷ []))
    c.requires.reads c.requires.pending (mended_at m unmarked ps c.args.end c.args.bytes.now c.requires.within form none)
    c.replace_end.ensures.moments

pub returns-clause-at_rest : goal.returns-clause-at_rest
returns-clause-at_rest g c =
    replaced-rests c.replace_end.result c.args.end (0 ∷ []) c.args.bytes.now (g.D.Disk.state c.args.disk.now) (g.D.Disk.state c.replace_end.new.disk)
    c.requires.reads c.replace_end.ensures.replaces
