use Rattle.std.proofs.Common.{true}
use Rattle.local_world.proofs.Registries.{following-tell, taken-tell, told-tell, told-untold, missed-from}
use Rattle.local_world.proofs.telling.tell.Goals as goal

pub last_taken-taken-requires : goal.last_taken-taken-requires
last_taken-taken-requires c = λ k e. (c.requires.following.stands.kept c.args.client k e).taken

pub subscribe-requires-clause-entered : goal.subscribe-requires-clause-entered
subscribe-requires-clause-entered c = c.requires.following.entered c.args.client c.requires.client

pub returns-clause-following : goal.returns-clause-following
returns-clause-following c =
    following-tell c.args.journal.now.commits c.args.registry.now c.subscribe.new.self c.args.client c.last_taken-taken.result c.args.address.now
    c.in_ok-missed.missed
    c.requires.following c.last_taken-taken.ensures.taken
    (missed-from c.args.journal.now.commits c.in_ok-missed.missed c.args.address.now c.last_taken-taken.result c.front-front.result
    c.args.registry.now.front c.front-front.ensures c.in_ok-missed.ensures)
    c.subscribe.ensures.front c.subscribe.result c.subscribe.ensures.ok c.subscribe.ensures.err

pub returns-clause-taken : goal.returns-clause-taken
returns-clause-taken c =
    taken-tell c.args.journal.now.commits c.args.registry.now c.subscribe.new.self c.args.client c.last_taken-taken.result c.args.address.now
    c.in_ok-missed.missed
    c.requires.following c.last_taken-taken.ensures.taken
    (missed-from c.args.journal.now.commits c.in_ok-missed.missed c.args.address.now c.last_taken-taken.result c.front-front.result
    c.args.registry.now.front c.front-front.ensures c.in_ok-missed.ensures)
    c.subscribe.ensures.front c.subscribe.result c.subscribe.ensures.ok c.subscribe.ensures.err

pub returns-clause-told : goal.returns-clause-told
returns-clause-told c = told-tell c.subscribe.result c.args.registry.now c.subscribe.new.self c.args.client c.args.address.now true c.subscribe.ensures.told

pub returns-clause-err : goal.returns-clause-err
returns-clause-err c = told-untold c.subscribe.result c.args.registry.now c.subscribe.new.self c.subscribe.ensures.err
