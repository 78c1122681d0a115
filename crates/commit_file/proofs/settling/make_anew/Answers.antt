use Rattle.std.proofs.Common.{[]}
use Rattle.commit_file.specs.Files.{file}
use Rattle.commit_file.specs.Files.Contents.{Current}
use Rattle.commit_file.specs.Kept.{KeptAs}
use Rattle.commit_file.specs.Recovering.{replace_moments}
use Rattle.commit_file.proofs.Mended.{made_anew}
use Rattle.commit_file.proofs.Settled.{any_moment}
use Rattle.commit_file.proofs.settling.make_anew.Goals as goal

pub returns-clause-any_moment : goal.returns-clause-any_moment
returns-clause-any_moment g c = λ m.
    any_moment (KeptAs m []) c.args.bytes.now (g.D.Disk.state c.args.disk.now) (g.D.Disk.state c.replace_end.new.disk)
    (g.D.Disk.past c.args.disk.now) (g.D.Disk.past c.replace_end.new.disk) (replace_moments 0 (file (Current [])))
    c.requires.reads c.requires.pending (made_anew m c.args.bytes.now c.requires.short)
    (rw c.as_slice-2.ensures at c.replace_end.ensures.moments)
