use Rattle.std.proofs.Common.{IfSome, subst}
use Rattle.dio_core.specs.declared.disk.DiskFault.{DiskFault}
use Rattle.dio_core.specs.Moments.{AtAnyMoment}
use Rattle.commit_file.specs.Keepers.{Keeper, MayHold, IsJournal}
use Rattle.commit_file.proofs.Told.{mended-throughout, mended-stands, unmended-stands}
use Rattle.commit_file.proofs.keeper.FileKeeper.mend.Goals as goal

pub invariant_of-self : goal.invariant_of-self
invariant_of-self g c = (
  (unmended-stands DiskFault c.in_err-mend_at.field-0.0 c.self.inside.trouble c.self.inside.end (g.D.Disk.state c.self.inside.disk.now) (g.D.Disk.state c.mend_at.new.disk)
      c.self.invariant.0 c.in_err-mend_at.ensures.mends).0,
  c.self.invariant.1,
)

pub returns-in_err-mend_at-clause-any_moment : goal.returns-in_err-mend_at-clause-any_moment
returns-in_err-mend_at-clause-any_moment g c = λ m.
    subst (λ (k : Keeper). IfSome k.state (λ s. IsJournal m k s → AtAnyMoment (MayHold m k s) k.past (g.D.Disk.past c.mend_at.new.disk) (g.D.Disk.state c.mend_at.new.disk))) c.self.view_is
    (mended-throughout m c.self.inside.trouble c.self.inside.end (g.D.Disk.state c.self.inside.disk.now) (g.D.Disk.state c.mend_at.new.disk)
    (g.D.Disk.past c.self.inside.disk.now) (g.D.Disk.past c.mend_at.new.disk) c.self.invariant.0 c.mend_at.ensures.moments)

pub invariant_of-self-2 : goal.invariant_of-self-2
invariant_of-self-2 g c = (
  (mended-stands DiskFault c.self.inside.trouble c.self.inside.end (g.D.Disk.state c.self.inside.disk.now) (g.D.Disk.state c.mend_at.new.disk)
      c.self.invariant.0 c.in_ok-mend_at.ensures.mends).0,
  c.self.invariant.1,
)

pub returns-clause-any_moment : goal.returns-clause-any_moment
returns-clause-any_moment g c = λ m.
    subst (λ (k : Keeper). IfSome k.state (λ s. IsJournal m k s → AtAnyMoment (MayHold m k s) k.past (g.D.Disk.past c.mend_at.new.disk) (g.D.Disk.state c.mend_at.new.disk))) c.self.view_is
    (mended-throughout m c.self.inside.trouble c.self.inside.end (g.D.Disk.state c.self.inside.disk.now) (g.D.Disk.state c.mend_at.new.disk)
    (g.D.Disk.past c.self.inside.disk.now) (g.D.Disk.past c.mend_at.new.disk) c.self.invariant.0 c.mend_at.ensures.moments)
