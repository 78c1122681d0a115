use Rattle.std.proofs.Common.{◌<◌, ◌≤◌, max, get_or, length, false, refl, ap, subst, sym, ◌∙◌}
use Rattle.docc_prepare.specs.Calls.{Call, Answer}
use Rattle.local_world.specs.Standing.{stored}
use Rattle.local_world.proofs.Worlds.{stays, goes, client-there, seen-within, want, reading}
use Rattle.local_world.proofs.world.World.read.Goals as goal
use Rattle.rdt_types.specs.Shards.{shard_of}
use Rattle.local_world.specs.Standing.{fronts_of}

pub bounds-as_slice-client : goal.bounds-as_slice-client
bounds-as_slice-client c =
    subst (λ ns. c.args.client < length ns) (sym c.as_slice.ensures) (client-there c.self.inside.settings c.self.inside.journal
    c.self.inside.shards.items c.self.inside.seens c.self.inside.registry c.self.inside.holds c.self.invariant c.args.client c.requires.client)

pub read_in-requires-clause-legal : goal.read_in-requires-clause-legal
read_in-requires-clause-legal c =
    c.self.invariant.sound.legal

pub read_in-requires-clause-all_shards : goal.read_in-requires-clause-all_shards
read_in-requires-clause-all_shards c =
    c.self.invariant.all_shards

pub read_in-requires-clause-held : goal.read_in-requires-clause-held
read_in-requires-clause-held c =
    c.self.invariant.held

pub read_in-requires-clause-within : goal.read_in-requires-clause-within
read_in-requires-clause-within c =
    subst (λ ns. get_or ns c.args.client 0 ≤ length c.self.inside.journal.commits) (sym c.as_slice.ensures)
    (seen-within c.self.inside.settings c.self.inside.journal c.self.inside.shards.items c.self.inside.seens c.self.inside.registry c.self.inside.holds
    c.self.invariant c.args.client c.requires.client)

pub set-requires : goal.set-requires
set-requires c =
    client-there c.self.inside.settings c.self.inside.journal c.self.inside.shards.items c.self.inside.seens c.self.inside.registry c.self.inside.holds c.self.invariant
    c.args.client c.requires.client

pub invariant_of-self : goal.invariant_of-self
invariant_of-self c =
    stays c.self.inside.settings c.self.inside.journal c.self.inside.shards.items c.self.inside.seens c.self.inside.registry c.self.inside.holds c.self.invariant
    c.args.client c.requires.client
    c.read_in.new.shards.items c.self.inside.seens c.self.inside.registry (Call.read c.args.address.now) (Answer.failed false)
    (c.requires.short)
    ((
      refl,
      want c.self.inside.settings c.self.inside.journal c.self.inside.shards.items c.self.inside.seens c.self.inside.registry c.self.inside.holds c.self.invariant
          c.args.client c.requires.client c.read_in.new.shards.items c.read_in.ensures.risen,
    ))
    c.read_in.ensures.held (c.self.invariant.following)

pub returns-in_default : goal.returns-in_default
returns-in_default c =
    goes c.self.inside.settings c.self.inside.journal c.self.inside.shards.items c.self.inside.seens c.self.inside.registry c.self.inside.holds c.self.invariant
    c.args.client c.requires.client
    c.args.self.now (stored c.self.inside.settings c.self.inside.journal.commits c.read_in.new.shards.items c.self.inside.seens
    c.self.inside.registry) (Call.read c.args.address.now) (Answer.failed false) c.self.view_is (c.requires.short)
    (λ can. (
      refl,
      want c.self.inside.settings c.self.inside.journal c.self.inside.shards.items c.self.inside.seens c.self.inside.registry c.self.inside.holds
          c.self.invariant c.args.client c.requires.client c.read_in.new.shards.items c.read_in.ensures.risen,
    ))

pub invariant_of-self-2 : goal.invariant_of-self-2
invariant_of-self-2 c =
    stays c.self.inside.settings c.self.inside.journal c.self.inside.shards.items c.self.inside.seens c.self.inside.registry c.self.inside.holds c.self.invariant
    c.args.client c.requires.client
    c.read_in.new.shards.items c.set.new.self c.self.inside.registry (Call.read c.args.address.now) (Answer.snap c.in-Ok.snap)
    (c.requires.short)
    (reading c.self.inside.settings c.self.inside.journal c.self.inside.shards.items c.self.inside.seens c.self.inside.registry c.self.inside.holds c.self.invariant
    c.args.client c.requires.client c.args.address.now c.read_in.new.shards.items c.set.new.self c.in-Ok.snap
    (c.in-Ok.ensures.base ∙ ap (max (get_or (fronts_of c.self.inside.shards.items)
    (shard_of c.args.address.now c.self.inside.settings.shards) 0)) (ap (λ ns. get_or ns c.args.client 0) c.as_slice.ensures))
    c.in-Ok.ensures.value c.in-Ok.ensures.ok c.set.ensures)
    c.read_in.ensures.held (c.self.invariant.following)

pub returns : goal.returns
returns c =
    goes c.self.inside.settings c.self.inside.journal c.self.inside.shards.items c.self.inside.seens c.self.inside.registry c.self.inside.holds c.self.invariant
    c.args.client c.requires.client
    c.args.self.now (stored c.self.inside.settings c.self.inside.journal.commits c.read_in.new.shards.items c.set.new.self c.self.inside.registry)
    (Call.read c.args.address.now) (Answer.snap c.in-Ok.snap) c.self.view_is (c.requires.short)
    (λ can. reading c.self.inside.settings c.self.inside.journal c.self.inside.shards.items c.self.inside.seens c.self.inside.registry c.self.inside.holds
    c.self.invariant c.args.client c.requires.client c.args.address.now c.read_in.new.shards.items c.set.new.self c.in-Ok.snap
    (c.in-Ok.ensures.base ∙ ap (max (get_or (fronts_of c.self.inside.shards.items)
    (shard_of c.args.address.now c.self.inside.settings.shards) 0)) (ap (λ ns. get_or ns c.args.client 0) c.as_slice.ensures))
    c.in-Ok.ensures.value c.in-Ok.ensures.ok c.set.ensures)
