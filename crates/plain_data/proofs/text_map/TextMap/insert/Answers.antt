use Rattle.std.proofs.Common.{ap, ◌∙◌}
use Rattle.std.proofs.lemmas.Result.{on_ok_weaker}
use Rattle.std.specs.FinMap as map
use Rattle.std.specs.Cmp.Lexicographic.{nat_list_cmp_total}
use Rattle.plain_data.specs.Texts.{text_cmp}
use Rattle.plain_data.proofs.TextMaps.{sorted-from_rising, from_sorted-put}
use Rattle.plain_data.proofs.text_map.TextMap.insert.Goals as goal

pub invariant_of-self : goal.invariant_of-self
invariant_of-self g c = sorted-from_rising text_cmp _ c.insert.ensures.rising

pub returns-clause-ok : goal.returns-clause-ok
returns-clause-ok g c =
    on_ok_weaker c.insert.result
    (λ is. from_sorted-put text_cmp nat_list_cmp_total _ _ _ _ c.self.invariant (invariant_of-self g c) is
    ∙ ap (λ m. map.insert m c.args.key c.args.value) c.self.view_is)
    c.insert.ensures.ok
