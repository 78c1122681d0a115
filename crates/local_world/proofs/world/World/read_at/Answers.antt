use Rattle.std.proofs.Common.{◌≤◌, false, refl, subst, sym, arith}
use Rattle.docc_prepare.specs.Calls.{Call, Answer, value_answered}
use Rattle.local_world.specs.Standing.{stored}
use Rattle.local_world.proofs.Worlds.{stays, goes, seen-within, want, backing}
use Rattle.local_world.proofs.world.World.read_at.Goals as goal
use Rattle.docc_prepare.specs.Stores.{seen_by}
use Rattle.local_world.specs.Stored.{Stored, store_of}

pub read_back-requires-clause-legal : goal.read_back-requires-clause-legal
read_back-requires-clause-legal c =
    c.self.invariant.sound.legal

pub read_back-requires-clause-all_shards : goal.read_back-requires-clause-all_shards
read_back-requires-clause-all_shards c =
    c.self.invariant.all_shards

pub read_back-requires-clause-held : goal.read_back-requires-clause-held
read_back-requires-clause-held c =
    c.self.invariant.held

pub read_back-requires-clause-within : goal.read_back-requires-clause-within
read_back-requires-clause-within c =
    let seen : c.args.number ≤ seen_by (store_of (stored c.self.inside.settings c.self.inside.journal.commits c.self.inside.shards.items
    c.self.inside.seens c.self.inside.registry)) c.args.client =
    subst (λ (o : Stored). c.args.number ≤ seen_by (store_of o) c.args.client) (sym c.self.view_is) c.requires.seen in
    let within = seen-within c.self.inside.settings c.self.inside.journal c.self.inside.shards.items c.self.inside.seens c.self.inside.registry c.self.inside.holds
    c.self.invariant c.args.client c.requires.client in omega arith

pub invariant_of-self : goal.invariant_of-self
invariant_of-self c =
    stays c.self.inside.settings c.self.inside.journal c.self.inside.shards.items c.self.inside.seens c.self.inside.registry c.self.inside.holds c.self.invariant
    c.args.client c.requires.client
    c.read_back.new.shards.items c.self.inside.seens c.self.inside.registry (Call.read_at c.args.address.now c.args.number)
    (Answer.failed false) ((
      c.requires.short,
      subst (λ (o : Stored). c.args.number ≤ seen_by (store_of o) c.args.client)
          (sym c.self.view_is) c.requires.seen,
    ))
    ((
      refl,
      want c.self.inside.settings c.self.inside.journal c.self.inside.shards.items c.self.inside.seens c.self.inside.registry c.self.inside.holds c.self.invariant
          c.args.client c.requires.client c.read_back.new.shards.items c.read_back.ensures.risen,
    ))
    c.read_back.ensures.held (c.self.invariant.following)

pub returns-in_default : goal.returns-in_default
returns-in_default c =
    goes c.self.inside.settings c.self.inside.journal c.self.inside.shards.items c.self.inside.seens c.self.inside.registry c.self.inside.holds c.self.invariant
    c.args.client c.requires.client
    c.args.self.now (stored c.self.inside.settings c.self.inside.journal.commits c.read_back.new.shards.items c.self.inside.seens
    c.self.inside.registry) (Call.read_at c.args.address.now c.args.number) (Answer.failed false) c.self.view_is
    ((c.requires.short, c.requires.seen))
    (λ can. (
      refl,
      want c.self.inside.settings c.self.inside.journal c.self.inside.shards.items c.self.inside.seens c.self.inside.registry c.self.inside.holds
          c.self.invariant c.args.client c.requires.client c.read_back.new.shards.items c.read_back.ensures.risen,
    ))

pub invariant_of-self-2 : goal.invariant_of-self-2
invariant_of-self-2 c =
    stays c.self.inside.settings c.self.inside.journal c.self.inside.shards.items c.self.inside.seens c.self.inside.registry c.self.inside.holds c.self.invariant
    c.args.client c.requires.client
    c.read_back.new.shards.items c.self.inside.seens c.self.inside.registry (Call.read_at c.args.address.now c.args.number)
    (value_answered c.in-Ok.answer) ((
      c.requires.short,
      subst (λ (o : Stored). c.args.number ≤ seen_by (store_of o) c.args.client)
          (sym c.self.view_is) c.requires.seen,
    ))
    (backing c.self.inside.settings c.self.inside.journal c.self.inside.shards.items c.self.inside.seens c.self.inside.registry c.self.inside.holds c.self.invariant
    c.args.client c.requires.client c.args.address.now c.args.number c.read_back.new.shards.items
    (value_answered c.in-Ok.answer) c.in-Ok.ensures.moved c.in-Ok.ensures.answer)
    c.read_back.ensures.held (c.self.invariant.following)

pub returns : goal.returns
returns c =
    goes c.self.inside.settings c.self.inside.journal c.self.inside.shards.items c.self.inside.seens c.self.inside.registry c.self.inside.holds c.self.invariant
    c.args.client c.requires.client
    c.args.self.now (stored c.self.inside.settings c.self.inside.journal.commits c.read_back.new.shards.items c.self.inside.seens
    c.self.inside.registry) (Call.read_at c.args.address.now c.args.number) (value_answered c.in-Ok.answer) c.self.view_is
    ((c.requires.short, c.requires.seen))
    (λ can. backing c.self.inside.settings c.self.inside.journal c.self.inside.shards.items c.self.inside.seens c.self.inside.registry c.self.inside.holds
    c.self.invariant c.args.client c.requires.client c.args.address.now c.args.number c.read_back.new.shards.items
    (value_answered c.in-Ok.answer) c.in-Ok.ensures.moved c.in-Ok.ensures.answer)
