use Rattle.docc_prepare.specs.Calls.{Call, Answer}
use Rattle.local_world.specs.Standing.{stored}
use Rattle.local_world.proofs.Worlds.{stays, goes, client-there, refreshing}
use Rattle.local_world.proofs.world.World.refresh.Goals as goal

pub set-requires : goal.set-requires
set-requires c = client-there c.self.inside.settings c.self.inside.journal c.self.inside.shards.items c.self.inside.seens c.self.inside.registry c.self.inside.holds
    c.self.invariant c.args.client c.requires

pub invariant_of-self : goal.invariant_of-self
invariant_of-self c =
    stays c.self.inside.settings c.self.inside.journal c.self.inside.shards.items c.self.inside.seens c.self.inside.registry c.self.inside.holds c.self.invariant
    c.args.client c.requires
    c.self.inside.shards.items c.set.new.self c.self.inside.registry (Call.refresh) (Answer.number c.length-number.result) tt
    (refreshing c.self.inside.settings c.self.inside.journal c.self.inside.shards.items c.self.inside.seens c.self.inside.registry c.self.inside.holds c.self.invariant
    c.args.client c.requires c.set.new.self c.length-number.result c.length-number.ensures c.set.ensures)
    c.self.invariant.held c.self.invariant.following

pub returns : goal.returns
returns c =
    goes c.self.inside.settings c.self.inside.journal c.self.inside.shards.items c.self.inside.seens c.self.inside.registry c.self.inside.holds c.self.invariant
    c.args.client c.requires
    c.args.self.now (stored c.self.inside.settings c.self.inside.journal.commits c.self.inside.shards.items c.set.new.self c.self.inside.registry)
    (Call.refresh) (Answer.number c.length-number.result) c.self.view_is tt
    (λ can. refreshing c.self.inside.settings c.self.inside.journal c.self.inside.shards.items c.self.inside.seens c.self.inside.registry c.self.inside.holds
    c.self.invariant c.args.client c.requires c.set.new.self c.length-number.result c.length-number.ensures c.set.ensures)
