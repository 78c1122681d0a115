use Rattle.std.proofs.Common.{sym, subst, ◌∙◌}
use Rattle.std.specs.List.Sorted.{IsStrictlySortedBy}
use Rattle.std.specs.Map.{keys_of}
use Rattle.rdt_types.specs.Addresses.{address_cmp}
use Rattle.rdt_types.specs.DeltaMaps.{Deltas}
use Rattle.diamond_store.proofs.Told.{tells-taken, fed-is}
use Rattle.diamond_store.proofs.feeder.take_pending.Goals as goal

pub returns-then-is_within-clause-tells : goal.returns-then-is_within-clause-tells
returns-then-is_within-clause-tells c = λ journal tells.
    tells-taken c.take.result journal c.args.registry.now c.take.new.self c.args.taker.now.client tells c.take.ensures.front c.take.ensures.ok c.take.ensures.err

pub returns-then-is_within-clause-feed : goal.returns-then-is_within-clause-feed
returns-then-is_within-clause-feed c = λ journal tells.
    fed-is journal c.args.registry.now c.args.taker.now.client c.args.taker.now.taken c.args.taker.now.addresses.now.keys tells c.requires.taken c.requires.told c.in_ok-feed.feed
    (subst (λ (ds : Deltas). IsStrictlySortedBy address_cmp (keys_of ds)) c.changes.ensures c.as_slice-rising.ensures.rising)
    c.in_ok-feed.ensures.to c.in_ok-feed.ensures.pending (sym c.is_within.ensures ∙ c.if-is_within.true)

pub returns-else-is_within-clause-tells : goal.returns-else-is_within-clause-tells
returns-else-is_within-clause-tells c = λ journal tells.
    tells-taken c.take.result journal c.args.registry.now c.take.new.self c.args.taker.now.client tells c.take.ensures.front c.take.ensures.ok c.take.ensures.err
