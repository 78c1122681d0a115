use Rattle.std.proofs.Common.{refl, ap, ◌∙◌}
use Rattle.journal_core.specs.Changes.{between}
use Rattle.journal_core.proofs.Rising.{all-are-tail}
use Rattle.journal_relay.specs.Relays.{Relayed}
use Rattle.journal_relay.proofs.Relaying.{between-relayed}
use Rattle.journal_relay.proofs.Tails.{tail-order}
use Rattle.journal_relay.proofs.relay.Relay.tail_all.Goals as goal

pub shared_between-requires : goal.shared_between-requires
shared_between-requires c = tail-order 0 c.self.inside.to c.self.inside.all.0 c.self.invariant

pub invariant_of-result : goal.invariant_of-result
invariant_of-result c =
    let all = c.self.inside.all.0 in
    record {
      in_order = rw c.in_ok-changes.ensures (all-are-tail c.args.from c.args.to all c.requires.order (tail-order 0 c.self.inside.to all c.self.invariant));
    }

-- what is shared is what the relay has there, and that is what the journal has
pub returns : goal.returns
returns c journal relays = record {
  begins = refl;
  ends = refl;
  exact =
      c.in_ok-changes.ensures
      ∙ ap (λ (r : Relayed). between c.args.from c.args.to r.changes) c.self.view_is
      ∙ between-relayed journal c.args.self.now c.args.from c.args.to relays c.requires.within;
}
