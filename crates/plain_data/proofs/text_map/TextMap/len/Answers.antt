use Rattle.std.proofs.Common.{length, sym, ap, ◌∙◌}
use Rattle.std.specs.FinMap as map
use Rattle.plain_data.specs.Texts.{text_cmp}
use Rattle.plain_data.proofs.text_map.TextMap.len.Goals as goal

pub returns : goal.returns
returns g c =
    c.len.ensures
    ∙ ap length (sym (map.entries-from_sorted text_cmp _ c.self.invariant) ∙ ap map.entries c.self.view_is)
    ∙ sym (map.len-entries _)
