use Rattle.std.proofs.Common.{◌≡◌, [], arith}
use Rattle.std.proofs.lemmas.Grind.{common_steps}
use Rattle.change_feed.specs.Feeds.{with_changes}
use Rattle.reactive_registry.proofs.Pending.{fed_pending}
use Rattle.reactive_registry.proofs.subscriber.feed_of.Goals as goal

pub returns-clause-pending : goal.returns-clause-pending
returns-clause-pending c a =
    let e : c.loop-change.feed.changes ≡ with_changes [] c.args.changes.now = grind (arith, common_steps) in
    fed_pending c.loop-change.feed.changes c.args.changes.now a e
