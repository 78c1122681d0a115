-- What a feed has that was given changes one by one.
use Rattle.std.proofs.Common.{◌≡◌, List, [], ap, ◌∙◌}
use Rattle.rdt_types.specs.declared.address.Address.{Address}
use Rattle.rdt_types.specs.DeltaMaps.{Deltas, delta_at}
use Rattle.change_feed.specs.declared.change.Change.{Change}
use Rattle.change_feed.specs.Pending.{pending}
use Rattle.change_feed.specs.Feeds.{with_changes}
use Rattle.change_feed.proofs.Feeds.{feeds_keep_pending}

-- it has what is pending after them
pub fed_pending : (deltas : Deltas) (changes : List Change) (a : Address) → deltas ≡ with_changes [] changes → delta_at deltas a ≡ pending a changes
fed_pending deltas changes a e = ap (λ (d : Deltas). delta_at d a) e ∙ feeds_keep_pending changes a
