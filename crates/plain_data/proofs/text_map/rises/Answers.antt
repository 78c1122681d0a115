use Rattle.std.proofs.Common.{◌≡◌, rules}
use Rattle.std.specs.Ordering.{is_lt}
use Rattle.std.specs.Cmp.Lexicographic.{nat_list_cmp_total}
use Rattle.std.proofs.lemmas.List.Sorted.{answers_always}
use Rattle.plain_data.specs.Texts.{text_cmp}
use Rattle.plain_data.proofs.TextMaps.{rising-from_adjacent}
use Rattle.plain_data.proofs.text_map.rises.Goals as goal

pub returns : goal.returns
returns g c =
    rising-from_adjacent text_cmp nat_list_cmp_total c.args.entries.now c.is_sorted_by.result
    (c.is_sorted_by.ensures.cases (λ x y. is_lt (text_cmp x.0 y.0)) (answers_always _ (λ a r. r ≡ is_lt (text_cmp a.0.now.0 a.1.0.now.0)) _
    (λ f a r f' h. search rules)))
