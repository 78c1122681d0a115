use Rattle.std.proofs.Common.{subst}
use Rattle.commit_file.specs.Keepers.{Keeper, IsSure, is_doubtful}
use Rattle.commit_file.proofs.Told.{sure_now}
use Rattle.commit_file.proofs.keeper.FileKeeper.stands.Goals as goal

pub returns : goal.returns
returns g c = λ m.
    subst (λ (k : Keeper). IsSure m k) c.self.view_is
    (sure_now m (is_doubtful c.self.inside.trouble) c.self.inside.end (g.D.Disk.state c.self.inside.disk.now) c.self.invariant.0)
