use Rattle.std.proofs.Common.{◌∙◌}
use Rattle.std.specs.FinMap as map
use Rattle.plain_data.specs.Texts.{text_cmp}
use Rattle.plain_data.proofs.TextMaps.{rising-from_sorted}
use Rattle.plain_data.proofs.Overlays.{pairs-overlaid}
use Rattle.plain_data.proofs.text_map.TextMap.overlaid.Goals as goal

pub from_vec-requires : goal.from_vec-requires
from_vec-requires g c =
    rw (pairs-overlaid (g.L.Marking.left c.args.marking.now) c.args.self.now c.args.marks.now _ _ _ c.as_slice.ensures.pairs
    c.as_slice-2.ensures.pairs c.in_ok-pairs.ensures)
    (rising-from_sorted text_cmp _ (map.entries_sorted _))

pub returns : goal.returns
returns g c =
    map.same_entries_map _ _
    (c.from_vec.ensures
    ∙ pairs-overlaid (g.L.Marking.left c.args.marking.now) c.args.self.now c.args.marks.now _ _ _ c.as_slice.ensures.pairs c.as_slice-2.ensures.pairs
    c.in_ok-pairs.ensures)
