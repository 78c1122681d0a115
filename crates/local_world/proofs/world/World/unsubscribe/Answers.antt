use Rattle.std.proofs.Common.{false, ap}
use Rattle.docc_prepare.specs.Calls.{Call, Answer}
use Rattle.local_world.specs.Standing.{stored}
use Rattle.local_world.proofs.Worlds.{stays, goes, telling-to}
use Rattle.local_world.proofs.world.World.unsubscribe.Goals as goal
use Rattle.docc_prepare.specs.Stores.{Store}

pub hush-requires : goal.hush-requires
hush-requires c = record { following = c.self.invariant.following }

pub invariant_of-self : goal.invariant_of-self
invariant_of-self c =
    stays c.self.inside.settings c.self.inside.journal c.self.inside.shards.items c.self.inside.seens c.self.inside.registry c.self.inside.holds c.self.invariant
    c.args.client c.requires.client
    c.self.inside.shards.items c.self.inside.seens c.hush.new.registry (Call.unsubscribe c.args.address.now)
    (Answer.done) c.requires.short
    (ap (λ (s : Store). let p : Store × Answer = (s, Answer.done) in p) (telling-to c.self.inside.settings c.self.inside.journal
    c.self.inside.shards.items c.self.inside.seens c.self.inside.registry c.self.inside.holds c.self.invariant c.args.client c.requires.client c.args.address.now
    false c.hush.new.registry c.hush.ensures.told c.hush.ensures.taken))
    c.self.invariant.held c.hush.ensures.following

pub returns : goal.returns
returns c =
    goes c.self.inside.settings c.self.inside.journal c.self.inside.shards.items c.self.inside.seens c.self.inside.registry c.self.inside.holds c.self.invariant
    c.args.client c.requires.client
    c.args.self.now (stored c.self.inside.settings c.self.inside.journal.commits c.self.inside.shards.items c.self.inside.seens c.hush.new.registry)
    (Call.unsubscribe c.args.address.now) (Answer.done) c.self.view_is c.requires.short
    (λ can. ap (λ (s : Store). let p : Store × Answer = (s, Answer.done) in p)
    (telling-to c.self.inside.settings c.self.inside.journal c.self.inside.shards.items c.self.inside.seens c.self.inside.registry c.self.inside.holds
    c.self.invariant c.args.client c.requires.client c.args.address.now false c.hush.new.registry c.hush.ensures.told c.hush.ensures.taken))
