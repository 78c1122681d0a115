use Rattle.std.proofs.Common.{false, set, refl, ap, ◌∙◌}
use Rattle.docc_prepare.specs.Calls.{Call, Answer}
use Rattle.local_world.specs.Standing.{stored}
use Rattle.local_world.proofs.Worlds.{stays, goes, client-there, not_taking, taking}
use Rattle.local_world.proofs.world.World.take.Goals as goal

pub take_all-requires-clause-legal : goal.take_all-requires-clause-legal
take_all-requires-clause-legal c =
    c.self.invariant.sound.legal

pub take_all-requires-clause-following : goal.take_all-requires-clause-following
take_all-requires-clause-following c =
    c.self.invariant.following

pub set-requires : goal.set-requires
set-requires c =
    client-there c.self.inside.settings c.self.inside.journal c.self.inside.shards.items c.self.inside.seens c.self.inside.registry c.self.inside.holds c.self.invariant
    c.args.client c.requires.client

pub invariant_of-self : goal.invariant_of-self
invariant_of-self c =
    stays c.self.inside.settings c.self.inside.journal c.self.inside.shards.items c.self.inside.seens c.self.inside.registry c.self.inside.holds c.self.invariant
    c.args.client c.requires.client
    c.self.inside.shards.items c.self.inside.seens c.take_all.new.registry (Call.take) (Answer.failed false) (tt)
    ((
      refl,
      not_taking c.self.inside.settings c.self.inside.journal c.self.inside.shards.items c.self.inside.seens c.self.inside.registry c.self.inside.holds
          c.self.invariant c.args.client c.requires.client c.take_all.new.registry c.take_all.ensures.told c.in_default.ensures.err,
    ))
    c.self.invariant.held (c.take_all.ensures.following)

pub returns-in_default : goal.returns-in_default
returns-in_default c =
    goes c.self.inside.settings c.self.inside.journal c.self.inside.shards.items c.self.inside.seens c.self.inside.registry c.self.inside.holds c.self.invariant
    c.args.client c.requires.client
    c.args.self.now (stored c.self.inside.settings c.self.inside.journal.commits c.self.inside.shards.items c.self.inside.seens
    c.take_all.new.registry) (Call.take) (Answer.failed false) c.self.view_is (tt)
    (λ can. (
      refl,
      not_taking c.self.inside.settings c.self.inside.journal c.self.inside.shards.items c.self.inside.seens c.self.inside.registry c.self.inside.holds
          c.self.invariant c.args.client c.requires.client c.take_all.new.registry c.take_all.ensures.told c.in_default.ensures.err,
    ))

pub invariant_of-self-2 : goal.invariant_of-self-2
invariant_of-self-2 c =
    stays c.self.inside.settings c.self.inside.journal c.self.inside.shards.items c.self.inside.seens c.self.inside.registry c.self.inside.holds c.self.invariant
    c.args.client c.requires.client
    c.self.inside.shards.items c.set.new.self c.take_all.new.registry (Call.take) (Answer.feed c.in-Ok.feed) (tt)
    (taking c.self.inside.settings c.self.inside.journal c.self.inside.shards.items c.self.inside.seens c.self.inside.registry c.self.inside.holds c.self.invariant
    c.args.client c.requires.client c.in-Ok.feed c.set.new.self c.take_all.new.registry c.in-Ok.ensures.feed c.take_all.ensures.told
    c.in-Ok.ensures.taken (c.set.ensures ∙ ap (set c.self.inside.seens c.args.client) c.to.ensures))
    c.self.invariant.held (c.take_all.ensures.following)

pub returns : goal.returns
returns c =
    goes c.self.inside.settings c.self.inside.journal c.self.inside.shards.items c.self.inside.seens c.self.inside.registry c.self.inside.holds c.self.invariant
    c.args.client c.requires.client
    c.args.self.now (stored c.self.inside.settings c.self.inside.journal.commits c.self.inside.shards.items c.set.new.self c.take_all.new.registry)
    (Call.take) (Answer.feed c.in-Ok.feed) c.self.view_is (tt)
    (λ can. taking c.self.inside.settings c.self.inside.journal c.self.inside.shards.items c.self.inside.seens c.self.inside.registry c.self.inside.holds
    c.self.invariant c.args.client c.requires.client c.in-Ok.feed c.set.new.self c.take_all.new.registry c.in-Ok.ensures.feed
    c.take_all.ensures.told c.in-Ok.ensures.taken (c.set.ensures ∙ ap (set c.self.inside.seens c.args.client) c.to.ensures))
