use Rattle.std.proofs.Common.{sym, ap, ◌∙◌}
use Rattle.std.specs.FinMap as map
use Rattle.plain_data.specs.Texts.{text_cmp}
use Rattle.plain_data.proofs.TextMaps.{lookup-is-find, pair_is}
use Rattle.plain_data.proofs.text_map.TextMap.get_pair.Goals as goal

pub returns : goal.returns
returns g c =
    pair_is c.get_pair.result c.args.key.now _
    (c.get_pair.ensures.value
    ∙ lookup-is-find text_cmp c.args.key.now c.self.inside.entries
    ∙ sym (map.get-from_sorted text_cmp _ _ c.self.invariant)
    ∙ ap (λ m. map.get m c.args.key.now) c.self.view_is)
    c.get_pair.ensures.key
