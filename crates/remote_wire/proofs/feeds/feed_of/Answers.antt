use Rattle.std.proofs.Common.{[], ap, ◌∙◌}
use Rattle.rdt_types.specs.DeltaMaps.{Deltas}
use Rattle.change_feed.specs.Feeds.{Fed, joined}
use Rattle.remote_wire.proofs.Added.{joined-nothing}
use Rattle.remote_wire.proofs.feeds.feed_of.Goals as goal

pub loop-address-init : goal.loop-address-init
loop-address-init c = record {
  to = ap (λ (f : Fed). f.to) c.new-feed.ensures;
  joined =
      ap (λ (f : Fed). joined f.changes c.as_slice-address-items.result.now) c.new-feed.ensures
      ∙ (ap (λ (l : Deltas). joined [] l) c.as_slice-address-items.ensures.pairs
      ∙ joined-nothing c.args.changes.now c.as_slice-address-items.ensures.rising);
}
