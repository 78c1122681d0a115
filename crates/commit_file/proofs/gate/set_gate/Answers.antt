use Rattle.std.proofs.Common.{◌+◌, [], ◌∷◌}
use Rattle.dio_core.specs.Disks.{overwritten}
use Rattle.commit_file.specs.Through.{resting, write_moments}
use Rattle.commit_file.proofs.Runs.{moments-then}
use Rattle.commit_file.proofs.gate.set_gate.Goals as goal

pub returns-in-Err-write_through-clause-moments : goal.returns-in-Err-write_through-clause-moments
returns-in-Err-write_through-clause-moments g c =
    moments-then (g.D.Disk.state c.args.disk.now) (g.D.Disk.state c.write_through.new.disk) (g.D.Disk.state c.write_through-in-Ok.new.disk)
    (g.D.Disk.past c.args.disk.now) (g.D.Disk.past c.write_through.new.disk) (g.D.Disk.past c.write_through-in-Ok.new.disk)
    (λ s. resting (overwritten s.file (c.args.end + 1) c.args.bytes.now)) (write_moments (c.args.end + 1) c.args.bytes.now)
    (write_moments c.args.end (c.args.gate ∷ []))
    c.in-Ok.ensures.writes c.write_through.ensures.moments c.write_through-in-Ok.ensures.moments

pub returns-in-Ok-write_through-clause-moments : goal.returns-in-Ok-write_through-clause-moments
returns-in-Ok-write_through-clause-moments g c =
    moments-then (g.D.Disk.state c.args.disk.now) (g.D.Disk.state c.write_through.new.disk) (g.D.Disk.state c.write_through-in-Ok.new.disk)
    (g.D.Disk.past c.args.disk.now) (g.D.Disk.past c.write_through.new.disk) (g.D.Disk.past c.write_through-in-Ok.new.disk)
    (λ s. resting (overwritten s.file (c.args.end + 1) c.args.bytes.now)) (write_moments (c.args.end + 1) c.args.bytes.now)
    (write_moments c.args.end (c.args.gate ∷ []))
    c.in-Ok.ensures.writes c.write_through.ensures.moments c.write_through-in-Ok.ensures.moments
