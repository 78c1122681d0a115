use Rattle.std.proofs.Common.{◌<◌, ℕ, max, get_or, set, length, ap, subst, sym, ◌∙◌}
use Rattle.docc_prepare.specs.Stores.{IsSound, followed}
use Rattle.local_world.specs.Stored.{Stored, store_of}
use Rattle.local_world.proofs.Worlds.{client-there, followed-to, followed-kept, stalled-kept}
use Rattle.local_world.proofs.world.World.follow.Goals as goal

pub follow_at-requires-clause-legal : goal.follow_at-requires-clause-legal
follow_at-requires-clause-legal c = c.self.invariant.sound.legal

pub follow_at-requires-clause-held : goal.follow_at-requires-clause-held
follow_at-requires-clause-held c = c.self.invariant.held

pub follow_at-requires-clause-there : goal.follow_at-requires-clause-there
follow_at-requires-clause-there c = subst (λ (o : Stored). c.args.shard < o.shards) (sym c.self.view_is) c.requires.shard

pub invariant_of-self : goal.invariant_of-self
invariant_of-self c = stalled-kept c.self.inside.settings c.self.inside.journal c.self.inside.shards.items c.self.inside.seens c.self.inside.registry c.self.inside.holds
    c.self.invariant c.args.client c.requires.client c.follow_at.new.shards.items c.follow_at.ensures.risen c.follow_at.ensures.held

pub returns-in_err-follow_at-clause-sound : goal.returns-in_err-follow_at-clause-sound
returns-in_err-follow_at-clause-sound c = subst (λ (o : Stored). IsSound (store_of o)) c.self.view_is c.self.invariant.sound

pub set-requires : goal.set-requires
set-requires c = client-there c.self.inside.settings c.self.inside.journal c.self.inside.shards.items c.self.inside.seens c.self.inside.registry c.self.inside.holds
    c.self.invariant c.args.client c.requires.client

pub bounds-as_slice-client : goal.bounds-as_slice-client
bounds-as_slice-client c = subst (λ ns. c.args.client < length ns) (sym c.as_slice.ensures)
    (client-there c.self.inside.settings c.self.inside.journal c.self.inside.shards.items c.self.inside.seens c.self.inside.registry c.self.inside.holds c.self.invariant
    c.args.client c.requires.client)

pub invariant_of-self-2 : goal.invariant_of-self-2
invariant_of-self-2 c = followed-kept c.self.inside.settings c.self.inside.journal c.self.inside.shards.items c.self.inside.seens
    c.self.inside.registry c.self.inside.holds c.self.invariant c.args.client c.requires.client c.args.shard c.follow_at.new.shards.items c.set.new.self
    c.length-end.result c.length-end.ensures c.in_ok-follow_at.ensures.ok (c.set.ensures ∙ ap (set c.self.inside.seens c.args.client) c.max.ensures
    ∙ ap (λ (n : ℕ). set c.self.inside.seens c.args.client (max n c.length-end.result)) (ap (λ ns. get_or ns c.args.client 0) c.as_slice.ensures))
    c.follow_at.ensures.held

pub returns-clause-sound : goal.returns-clause-sound
returns-clause-sound c = subst (λ (o : Stored). IsSound (store_of o)) c.self.view_is c.self.invariant.sound

pub returns-clause-front : goal.returns-clause-front
returns-clause-front c = c.length-end.ensures ∙ ap (λ (o : Stored). length o.journal) c.self.view_is

pub returns-clause-ok : goal.returns-clause-ok
returns-clause-ok c =
    followed-to c.self.inside.settings c.self.inside.journal c.self.inside.shards.items c.self.inside.seens c.self.inside.registry c.self.inside.holds c.self.invariant
    c.args.client c.requires.client c.args.shard c.follow_at.new.shards.items c.set.new.self c.length-end.result c.length-end.ensures
    c.in_ok-follow_at.ensures.ok (c.set.ensures ∙ ap (set c.self.inside.seens c.args.client) c.max.ensures
    ∙ ap (λ (n : ℕ). set c.self.inside.seens c.args.client (max n c.length-end.result)) (ap (λ ns. get_or ns c.args.client 0) c.as_slice.ensures))
    ∙ ap (λ (o : Stored). followed (store_of o) c.args.client c.args.shard) c.self.view_is
