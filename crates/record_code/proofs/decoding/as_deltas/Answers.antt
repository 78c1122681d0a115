use Rattle.std.proofs.Common.{◌≡◌, true, T, sym, ap, subst, ◌∙◌}
use Rattle.std.specs.FinMap.Entries.{is_sorted}
use Rattle.plain_data.proofs.TextMaps.{rising-from_sorted}
use Rattle.rdt_types.specs.Addresses.{address_cmp}
use Rattle.record_code.proofs.decoding.as_deltas.Goals as goal

pub from_vec-requires : goal.from_vec-requires
from_vec-requires c =
    let sorted : is_sorted address_cmp c.args.pairs.items ≡ true =
    ap (is_sorted address_cmp) (sym c.deref.ensures.value) ∙ (sym c.rise.ensures ∙ c.if-rise.true) in
    rising-from_sorted address_cmp c.args.pairs.items (subst T (sym sorted) tt)
