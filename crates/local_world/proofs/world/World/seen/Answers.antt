use Rattle.std.proofs.Common.{◌<◌, length, get_or, subst, sym, ap, ◌∙◌}
use Rattle.docc_prepare.specs.Stores.{seen_by, IsSound}
use Rattle.local_world.specs.Stored.{Stored, store_of}
use Rattle.local_world.proofs.Worlds.{client-there}
use Rattle.local_world.proofs.world.World.seen.Goals as goal

pub bounds-as_slice-client : goal.bounds-as_slice-client
bounds-as_slice-client c = subst (λ ns. c.args.client < length ns) (sym c.as_slice.ensures)
    (client-there c.self.inside.settings c.self.inside.journal c.self.inside.shards.items c.self.inside.seens c.self.inside.registry c.self.inside.holds c.self.invariant
    c.args.client c.requires)

pub returns-clause-seen : goal.returns-clause-seen
returns-clause-seen c = ap (λ ns. get_or ns c.args.client 0) c.as_slice.ensures ∙ ap (λ (o : Stored). seen_by (store_of o) c.args.client) c.self.view_is

pub returns-clause-sound : goal.returns-clause-sound
returns-clause-sound c = subst (λ (o : Stored). IsSound (store_of o)) c.self.view_is c.self.invariant.sound
