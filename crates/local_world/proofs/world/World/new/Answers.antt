use Rattle.std.proofs.Common.{◌∙◌}
use Rattle.local_world.proofs.Made.{is-first, first-sound, first-kept}
use Rattle.local_world.proofs.world.World.new.Goals as goal

pub invariant_of-result : goal.invariant_of-result
invariant_of-result c =
    first-kept c.in_ok-registry.registry c.in_ok-registry.ensures c.args.settings.now c.in_ok-journal.journal c.in_ok-shards.shards.items c.in_ok-seens.seens
    (c.in_ok-journal.ensures.commits ∙ c.new.ensures) c.in_ok-shards.ensures.fronts c.in_ok-seens.ensures
    c.in_ok-holds.holds c.in_ok-holds.ensures c.in_ok-journal.ensures.shards c.in_ok-journal.ensures.limit c.in_ok-shards.ensures.held

pub returns-clause-first : goal.returns-clause-first
returns-clause-first c =
    is-first c.in_ok-registry.registry c.in_ok-registry.ensures c.args.settings.now c.in_ok-journal.journal c.in_ok-shards.shards.items c.in_ok-seens.seens
    (c.in_ok-journal.ensures.commits ∙ c.new.ensures) c.in_ok-shards.ensures.fronts c.in_ok-seens.ensures

pub returns-clause-sound : goal.returns-clause-sound
returns-clause-sound c =
    first-sound c.in_ok-registry.registry c.in_ok-registry.ensures c.args.settings.now c.in_ok-journal.journal c.in_ok-shards.shards.items c.in_ok-seens.seens
    (c.in_ok-journal.ensures.commits ∙ c.new.ensures) c.in_ok-shards.ensures.fronts c.in_ok-seens.ensures
