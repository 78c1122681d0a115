use Rattle.std.proofs.Common.{true, false, refl, ap}
use Rattle.docc_prepare.specs.Calls.{Call, Answer}
use Rattle.local_world.specs.Standing.{stored}
use Rattle.local_world.proofs.Worlds.{stays, goes, not_taking, telling-to}
use Rattle.local_world.proofs.world.World.subscribe.Goals as goal
use Rattle.docc_prepare.specs.Stores.{Store}

pub tell-requires-clause-legal : goal.tell-requires-clause-legal
tell-requires-clause-legal c =
    c.self.invariant.sound.legal

pub tell-requires-clause-following : goal.tell-requires-clause-following
tell-requires-clause-following c =
    c.self.invariant.following

pub invariant_of-self : goal.invariant_of-self
invariant_of-self c =
    stays c.self.inside.settings c.self.inside.journal c.self.inside.shards.items c.self.inside.seens c.self.inside.registry c.self.inside.holds c.self.invariant
    c.args.client c.requires.client
    c.self.inside.shards.items c.self.inside.seens c.tell.new.registry (Call.subscribe c.args.address.now)
    (Answer.failed false) (c.requires.short)
    ((
      refl,
      not_taking c.self.inside.settings c.self.inside.journal c.self.inside.shards.items c.self.inside.seens c.self.inside.registry c.self.inside.holds
          c.self.invariant c.args.client c.requires.client c.tell.new.registry c.in_default.ensures.err c.tell.ensures.taken,
    ))
    c.self.invariant.held (c.tell.ensures.following)

pub returns-in_default : goal.returns-in_default
returns-in_default c =
    goes c.self.inside.settings c.self.inside.journal c.self.inside.shards.items c.self.inside.seens c.self.inside.registry c.self.inside.holds c.self.invariant
    c.args.client c.requires.client
    c.args.self.now (stored c.self.inside.settings c.self.inside.journal.commits c.self.inside.shards.items c.self.inside.seens c.tell.new.registry)
    (Call.subscribe c.args.address.now) (Answer.failed false) c.self.view_is (c.requires.short)
    (λ can. (
      refl,
      not_taking c.self.inside.settings c.self.inside.journal c.self.inside.shards.items c.self.inside.seens c.self.inside.registry c.self.inside.holds
          c.self.invariant c.args.client c.requires.client c.tell.new.registry c.in_default.ensures.err c.tell.ensures.taken,
    ))

pub invariant_of-self-2 : goal.invariant_of-self-2
invariant_of-self-2 c =
    stays c.self.inside.settings c.self.inside.journal c.self.inside.shards.items c.self.inside.seens c.self.inside.registry c.self.inside.holds c.self.invariant
    c.args.client c.requires.client
    c.self.inside.shards.items c.self.inside.seens c.tell.new.registry (Call.subscribe c.args.address.now) (Answer.done)
    (c.requires.short)
    (ap (λ (s : Store). let p : Store × Answer = (s, Answer.done) in p) (telling-to c.self.inside.settings c.self.inside.journal
    c.self.inside.shards.items c.self.inside.seens c.self.inside.registry c.self.inside.holds c.self.invariant c.args.client c.requires.client c.args.address.now
    true c.tell.new.registry c.in-Ok.ensures.told c.tell.ensures.taken))
    c.self.invariant.held (c.tell.ensures.following)

pub returns : goal.returns
returns c =
    goes c.self.inside.settings c.self.inside.journal c.self.inside.shards.items c.self.inside.seens c.self.inside.registry c.self.inside.holds c.self.invariant
    c.args.client c.requires.client
    c.args.self.now (stored c.self.inside.settings c.self.inside.journal.commits c.self.inside.shards.items c.self.inside.seens c.tell.new.registry)
    (Call.subscribe c.args.address.now) (Answer.done) c.self.view_is (c.requires.short)
    (λ can. ap (λ (s : Store). let p : Store × Answer = (s, Answer.done) in p)
    (telling-to c.self.inside.settings c.self.inside.journal c.self.inside.shards.items c.self.inside.seens c.self.inside.registry c.self.inside.holds
    c.self.invariant c.args.client c.requires.client c.args.address.now true c.tell.new.registry c.in-Ok.ensures.told c.tell.ensures.taken))
