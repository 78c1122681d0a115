use Rattle.std.proofs.Common.{refl, ◌∙◌}
use Rattle.diamond_store.proofs.Waited.{learns-self, learns-trans}
use Rattle.diamond_store.proofs.store.Store.wait.Goals as goal

pub loop-init : goal.loop-init
loop-init g c = (tt, tt, learns-self _ c.seen-seen.ensures.within c.seen-seen.ensures.legal, refl)

pub loop-preserved : goal.loop-preserved
loop-preserved g c = (tt, tt, learns-trans _ _ _ c.loop.invariant.2 c.look.ensures.learns, c.in-Some-look.ensures.seen ∙ c.loop.invariant.3)
