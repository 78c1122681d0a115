use Rattle.std.proofs.lemmas.List.{nil_from_length}
use Rattle.diamond_store.proofs.Told.{fed-from, fed-none}
use Rattle.diamond_store.proofs.feeder.from_journal.Goals as goal

pub returns-clause-feed : goal.returns-clause-feed
returns-clause-feed g c =
    fed-from c.feed_of.result c.tail_all.new.token.seen c.args.addresses.now.keys c.args.span.from c.args.span.to c.in_ok-tail.tail c.in_ok-tail.ensures.tail
    c.feed_of.ensures.to c.feed_of.ensures.changes

pub returns-then-is_empty-clause-feed : goal.returns-then-is_empty-clause-feed
returns-then-is_empty-clause-feed g c =
    fed-none c.args.token.now.seen c.args.addresses.now.keys c.args.span.from c.args.span.to c.new.result
    (nil_from_length c.args.addresses.now.keys (c.is_empty.ensures.0 c.if-is_empty.true)) c.new.ensures
