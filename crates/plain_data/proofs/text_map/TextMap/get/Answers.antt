use Rattle.std.proofs.Common.{sym, ap, ◌∙◌}
use Rattle.std.specs.FinMap as map
use Rattle.plain_data.specs.Texts.{text_cmp}
use Rattle.plain_data.proofs.TextMaps.{lookup-is-find}
use Rattle.plain_data.proofs.text_map.TextMap.get.Goals as goal

pub returns : goal.returns
returns g c =
    c.get.ensures
    ∙ lookup-is-find text_cmp c.args.key.now c.self.inside.entries
    ∙ sym (map.get-from_sorted text_cmp _ _ c.self.invariant)
    ∙ ap (λ m. map.get m c.args.key.now) c.self.view_is
