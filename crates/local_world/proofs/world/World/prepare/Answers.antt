use Rattle.std.proofs.Common.{◌≡◌, ℕ, max, get_or, set, false, refl, ap, subst, sym, ◌∙◌}
use Rattle.docc_prepare.specs.Calls.{Call, Answer, front_answered}
use Rattle.local_world.specs.Standing.{stored}
use Rattle.local_world.proofs.Worlds.{stays, goes, client-there, all-here, all-kinds, preparing, want_nothing}
use Rattle.local_world.proofs.world.World.prepare.Goals as goal
use Rattle.std.specs.List.{AllByRecursion}
use Rattle.rdt_types.specs.Shards.{shard_of}
use Rattle.abort_witness.specs.Kinds.{IsBasedOfOneKind}
use Rattle.docc_prepare.specs.Backends.{CanPrepare}
use Rattle.docc_prepare.specs.Stores.{HasStalled, known_by}
use Rattle.local_world.specs.Stored.{Stored, store_of}

pub validate_in-requires-clause-here : goal.validate_in-requires-clause-here
validate_in-requires-clause-here c =
    subst (λ bs. AllByRecursion (λ b. shard_of b.address c.index-here.result.now.shards ≡ c.index-here.result.now.number) bs)
    (sym c.as_slice.ensures) (all-here c.self.inside.settings c.self.inside.journal c.self.inside.shards.items c.self.inside.seens
    c.self.inside.registry c.self.inside.holds c.self.invariant c.args.client c.requires.client c.args.shard c.args.based.now c.index-here.result.now
    (subst (λ (o : Stored). CanPrepare (known_by (store_of o) c.args.client) c.args.shard c.args.based.now)
    (sym c.self.view_is) c.requires.can) c.index-here.ensures)

pub validate_in-requires-clause-kinds : goal.validate_in-requires-clause-kinds
validate_in-requires-clause-kinds c =
    subst (AllByRecursion IsBasedOfOneKind) (sym c.as_slice.ensures) (all-kinds c.self.inside.settings c.self.inside.journal
    c.self.inside.shards.items c.self.inside.seens c.self.inside.registry c.self.inside.holds c.self.invariant c.args.client c.requires.client c.args.shard
    c.args.based.now c.index-here.result.now (subst (λ (o : Stored). CanPrepare
    (known_by (store_of o) c.args.client) c.args.shard c.args.based.now) (sym c.self.view_is) c.requires.can) c.index-here.ensures)

pub set-requires : goal.set-requires
set-requires c =
    client-there c.self.inside.settings c.self.inside.journal c.self.inside.shards.items c.self.inside.seens c.self.inside.registry c.self.inside.holds c.self.invariant
    c.args.client c.requires.client

pub returns-in_default : goal.returns-in_default
returns-in_default c =
    goes c.self.inside.settings c.self.inside.journal c.self.inside.shards.items c.self.inside.seens c.self.inside.registry c.self.inside.holds c.self.invariant
    c.args.client c.requires.client
    c.args.self.now c.args.self.now (Call.prepare c.args.shard c.args.based.now) (Answer.failed false) c.self.view_is (c.requires.can)
    (λ can. (
      refl,
      subst (λ (o : Stored). HasStalled (store_of (stored c.self.inside.settings c.self.inside.journal.commits c.self.inside.shards.items
          c.self.inside.seens c.self.inside.registry)) (store_of o))
          c.self.view_is (want_nothing c.self.inside.settings c.self.inside.journal c.self.inside.shards.items c.self.inside.seens
          c.self.inside.registry c.self.inside.holds c.self.invariant c.args.client c.requires.client),
    ))

pub invariant_of-self : goal.invariant_of-self
invariant_of-self c =
    stays c.self.inside.settings c.self.inside.journal c.self.inside.shards.items c.self.inside.seens c.self.inside.registry c.self.inside.holds c.self.invariant
    c.args.client c.requires.client
    c.self.inside.shards.items c.set.new.self c.self.inside.registry (Call.prepare c.args.shard c.args.based.now)
    (front_answered c.in-Ok.answer) (subst (λ (o : Stored). CanPrepare (known_by (store_of o) c.args.client) c.args.shard c.args.based.now)
    (sym c.self.view_is) c.requires.can)
    (preparing c.self.inside.settings c.self.inside.journal c.self.inside.shards.items c.self.inside.seens c.self.inside.registry c.self.inside.holds c.self.invariant
    c.args.client c.requires.client c.args.shard c.args.based.now c.index-here.result.now
    (subst (λ (o : Stored). CanPrepare (known_by (store_of o) c.args.client) c.args.shard c.args.based.now)
    (sym c.self.view_is) c.requires.can) c.index-here.ensures (front_answered c.in-Ok.answer) c.set.new.self c.as_slice.result.now
    c.as_slice.ensures c.in-Ok.ensures.answer (c.set.ensures ∙ ap (set c.self.inside.seens c.args.client) c.max.ensures
    ∙ ap (λ (n : ℕ). set c.self.inside.seens c.args.client (max n c.front-front.result))
    (ap (λ ns. get_or ns c.args.client 0) c.as_slice-2.ensures) ∙ ap (λ (n : ℕ). set c.self.inside.seens c.args.client
    (max (get_or c.self.inside.seens c.args.client 0) n)) c.front-front.ensures))
    c.self.invariant.held (c.self.invariant.following)

pub returns : goal.returns
returns c =
    goes c.self.inside.settings c.self.inside.journal c.self.inside.shards.items c.self.inside.seens c.self.inside.registry c.self.inside.holds c.self.invariant
    c.args.client c.requires.client
    c.args.self.now (stored c.self.inside.settings c.self.inside.journal.commits c.self.inside.shards.items c.set.new.self c.self.inside.registry)
    (Call.prepare c.args.shard c.args.based.now) (front_answered c.in-Ok.answer) c.self.view_is (c.requires.can)
    (λ can. preparing c.self.inside.settings c.self.inside.journal c.self.inside.shards.items c.self.inside.seens c.self.inside.registry c.self.inside.holds
    c.self.invariant c.args.client c.requires.client c.args.shard c.args.based.now c.index-here.result.now
    (subst (λ (o : Stored). CanPrepare (known_by (store_of o) c.args.client) c.args.shard c.args.based.now)
    (sym c.self.view_is) c.requires.can) c.index-here.ensures (front_answered c.in-Ok.answer) c.set.new.self c.as_slice.result.now
    c.as_slice.ensures c.in-Ok.ensures.answer (c.set.ensures ∙ ap (set c.self.inside.seens c.args.client) c.max.ensures
    ∙ ap (λ (n : ℕ). set c.self.inside.seens c.args.client (max n c.front-front.result))
    (ap (λ ns. get_or ns c.args.client 0) c.as_slice-2.ensures) ∙ ap (λ (n : ℕ). set c.self.inside.seens c.args.client
    (max (get_or c.self.inside.seens c.args.client 0) n)) c.front-front.ensures))
