use Rattle.local_world.proofs.Registries.{following-hush, taken-hush, told-hush}
use Rattle.local_world.proofs.telling.hush.Goals as goal

pub returns-clause-following : goal.returns-clause-following
returns-clause-following c =
    following-hush c.args.journal.now.commits c.args.registry.now c.unsubscribe.new.self c.args.client c.args.address.now c.requires.following
    c.unsubscribe.ensures.front c.unsubscribe.ensures.gone c.unsubscribe.ensures.told

pub returns-clause-taken : goal.returns-clause-taken
returns-clause-taken c =
    taken-hush c.args.journal.now.commits c.args.registry.now c.unsubscribe.new.self c.args.client c.args.address.now c.requires.following
    c.unsubscribe.ensures.front c.unsubscribe.ensures.gone c.unsubscribe.ensures.told

pub returns-clause-told : goal.returns-clause-told
returns-clause-told c =
    told-hush c.args.journal.now.commits c.args.registry.now c.unsubscribe.new.self c.args.client c.args.address.now c.requires.following
    c.unsubscribe.ensures.front c.unsubscribe.ensures.gone c.unsubscribe.ensures.told
