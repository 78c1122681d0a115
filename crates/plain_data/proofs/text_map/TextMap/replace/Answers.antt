use Rattle.std.proofs.Common.{◌≡◌, true, is_some, sym, ap, ◌∙◌}
use Rattle.std.proofs.lemmas.Bool.{OnTrue_at, OnTrue_from}
use Rattle.std.specs.FinMap as map
use Rattle.std.specs.Cmp.Lexicographic.{nat_list_cmp_total}
use Rattle.plain_data.specs.Texts.{text_cmp}
use Rattle.plain_data.proofs.TextMaps.{lookup-is-find, sorted-from_rising, from_sorted-put}
use Rattle.plain_data.proofs.text_map.TextMap.replace.Goals as goal

pub invariant_of-self : goal.invariant_of-self
invariant_of-self g c = sorted-from_rising text_cmp _ c.replace.ensures.rising

pub returns-clause-found : goal.returns-clause-found
returns-clause-found g c =
    c.replace.ensures.found
    ∙ ap is_some (lookup-is-find text_cmp c.args.key.now c.self.inside.entries
    ∙ sym (map.get-from_sorted text_cmp _ _ c.self.invariant)
    ∙ ap (λ m. map.get m c.args.key.now) c.self.view_is)

pub returns-clause-there : goal.returns-clause-there
returns-clause-there g c =
    OnTrue_from c.replace.result _
    (λ there. from_sorted-put text_cmp nat_list_cmp_total _ _ _ _ c.self.invariant (invariant_of-self g c) (OnTrue_at there c.replace.ensures.there)
    ∙ ap (λ m. map.insert m c.args.key.now c.args.value) c.self.view_is)
