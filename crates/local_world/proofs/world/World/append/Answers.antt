use Rattle.std.proofs.Common.{false, subst, sym}
use Rattle.docc_prepare.specs.Calls.{Call, Answer, commit_answered}
use Rattle.local_world.specs.Standing.{stored}
use Rattle.local_world.proofs.Worlds.{goes, client-there, may-decide, appending, appended, not_appended, stands_still}
use Rattle.local_world.proofs.world.World.append.Goals as goal
use Rattle.docc_prepare.specs.Backends.{CanAppend}
use Rattle.docc_prepare.specs.Stores.{known_by}
use Rattle.local_world.specs.Stored.{Stored, store_of}

pub decide-requires-clause-may : goal.decide-requires-clause-may
decide-requires-clause-may c =
    may-decide c.self.inside.settings c.self.inside.journal c.self.inside.shards.items c.self.inside.seens c.self.inside.registry c.self.inside.holds c.self.invariant
    c.args.client c.requires.client c.args.ready.now (subst (λ (o : Stored). CanAppend (known_by (store_of o) c.args.client) c.args.ready.now)
    (sym c.self.view_is) c.requires.can)

pub decide-requires-clause-book : goal.decide-requires-clause-book
decide-requires-clause-book c = c.self.invariant.book_is

pub invariant_of-self : goal.invariant_of-self
invariant_of-self c =
    not_appended c.self.inside.settings c.self.inside.journal c.self.inside.shards.items c.self.inside.seens c.self.inside.registry c.self.inside.holds c.self.invariant
    c.args.client c.requires.client c.args.ready.now (subst (λ (o : Stored). CanAppend (known_by (store_of o) c.args.client) c.args.ready.now)
    (sym c.self.view_is) c.requires.can) c.decide.new.journal c.decide.new.holds c.in_default.ensures.err c.decide.ensures.shards
    c.decide.ensures.limit c.decide.ensures.book

pub returns-in_default : goal.returns-in_default
returns-in_default c =
    goes c.self.inside.settings c.self.inside.journal c.self.inside.shards.items c.self.inside.seens c.self.inside.registry c.self.inside.holds c.self.invariant
    c.args.client c.requires.client
    c.args.self.now (stored c.self.inside.settings c.decide.new.journal.commits c.self.inside.shards.items c.self.inside.seens
    c.self.inside.registry) (Call.append c.args.ready.now) (Answer.failed false) c.self.view_is (c.requires.can)
    (λ can. stands_still c.self.inside.settings c.self.inside.journal c.self.inside.shards.items c.self.inside.seens c.self.inside.registry c.self.inside.holds
    c.self.invariant c.args.client c.requires.client c.args.ready.now (subst (λ (o : Stored). CanAppend
    (known_by (store_of o) c.args.client) c.args.ready.now) (sym c.self.view_is) c.requires.can) c.decide.new.journal c.in_default.ensures.err)

pub set-requires : goal.set-requires
set-requires c =
    client-there c.self.inside.settings c.self.inside.journal c.self.inside.shards.items c.self.inside.seens c.self.inside.registry c.self.inside.holds c.self.invariant
    c.args.client c.requires.client

pub invariant_of-self-2 : goal.invariant_of-self-2
invariant_of-self-2 c =
    appended c.self.inside.settings c.self.inside.journal c.self.inside.shards.items c.self.inside.seens c.self.inside.registry c.self.inside.holds c.self.invariant
    c.args.client c.requires.client c.args.ready.now (subst (λ (o : Stored). CanAppend (known_by (store_of o) c.args.client) c.args.ready.now)
    (sym c.self.view_is) c.requires.can) (commit_answered c.in-Ok.answer) c.decide.new.journal c.set.new.self c.length.result
    c.decide.new.holds c.in-Ok.ensures.decided c.length.ensures c.set.ensures c.decide.ensures.shards c.decide.ensures.limit c.decide.ensures.book

pub returns : goal.returns
returns c =
    goes c.self.inside.settings c.self.inside.journal c.self.inside.shards.items c.self.inside.seens c.self.inside.registry c.self.inside.holds c.self.invariant
    c.args.client c.requires.client
    c.args.self.now (stored c.self.inside.settings c.decide.new.journal.commits c.self.inside.shards.items c.set.new.self c.self.inside.registry)
    (Call.append c.args.ready.now) (commit_answered c.in-Ok.answer) c.self.view_is (c.requires.can)
    (λ can. appending c.self.inside.settings c.self.inside.journal c.self.inside.shards.items c.self.inside.seens c.self.inside.registry c.self.inside.holds
    c.self.invariant c.args.client c.requires.client c.args.ready.now (subst (λ (o : Stored). CanAppend
    (known_by (store_of o) c.args.client) c.args.ready.now) (sym c.self.view_is) c.requires.can)
    (commit_answered c.in-Ok.answer) c.decide.new.journal c.set.new.self c.length.result c.in-Ok.ensures.decided c.length.ensures c.set.ensures)
