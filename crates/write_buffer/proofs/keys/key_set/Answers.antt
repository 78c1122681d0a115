use Rattle.std.proofs.Common.{◌≡◌, map, sym, ap, ◌∙◌, subst}
use Rattle.std.proofs.lemmas.List.{take_all}
use Rattle.std.specs.List.Sorted.{IsStrictlySortedBy}
use Rattle.std.specs.Map.{keys_of}
use Rattle.plain_data.specs.Texts.{text_cmp}
use Rattle.write_buffer.proofs.KeySets.{bare, keys-bare, rising-bare}
use Rattle.write_buffer.proofs.keys.key_set.Goals as goal

pub from_vec-requires : goal.from_vec-requires
from_vec-requires g c =
    let whole : c.loop-entry.keys.items ≡ bare c.as_slice-entry-items.result.now =
    c.loop-entry.invariant ∙ ap bare (take_all _ c.as_slice-entry-items.result.now c.loop-entry-test.false) in
    subst (λ es. IsStrictlySortedBy text_cmp (keys_of es)) (sym whole) (rising-bare c.as_slice-entry-items.result.now c.as_slice-entry-items.ensures.rising)

pub returns : goal.returns
returns g c =
    let whole : c.loop-entry.keys.items ≡ bare c.as_slice-entry-items.result.now =
    c.loop-entry.invariant ∙ ap bare (take_all _ c.as_slice-entry-items.result.now c.loop-entry-test.false) in
    ap (map (λ e. e.0)) (c.from_vec.ensures ∙ whole) ∙ keys-bare c.as_slice-entry-items.result.now ∙ ap (map (λ e. e.0)) c.as_slice-entry-items.ensures.pairs
