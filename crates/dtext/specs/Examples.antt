-- Spellings, read.
use Rattle.std.specs.Prelude.{◌≡◌, [], codes, pos, negsuc, Ok, Err, refl}
use Rattle.predictive_parsing.specs.Reading.{one, turns, many, optional, whole}
use Rattle.rdt_types.specs.declared.outcome.Item.TheVariants as items
use Rattle.rdt_types.specs.declared.operation.WriteOp.TheVariants as op
use Rattle.predictive_parsing.specs.Bytes.{byte, word}
use Rattle.dtext.specs.code.Reading.{piece, pieces, text, digits, positive, natural, negative, number, item, part}
use Rattle.dtext.specs.code.Reading.{put_or_push, put_value, text_or_field, text_behind, raise_or_remove, remove_or_clear, removal}
use Rattle.dtext.specs.code.Reading.{hash_part}

-- a text that doesn't end
open_text : whole text (codes "\"a") ≡ Err []
unfolding whole text pieces piece byte many turns one
open_text = refl

-- a needless zero: nothing goes on behind `0`
needless_zero : whole item (codes "01") ≡ Err (codes "1")
unfolding whole item number natural byte one
needless_zero = refl

-- a negative number
minus_five : whole item (codes "-5") ≡ Ok (items.Int (negsuc 4))
unfolding whole item number negative positive digits byte one
minus_five = refl

-- a field and a text are a hash's
field_put : whole part (codes "put \"f\" \"v\"") ≡ Ok (op.HashPut (codes "f") (codes "v"))
unfolding whole part put_or_push put_value text_or_field text_behind optional word text pieces piece byte many turns one
field_put = refl

-- a raise, and a removal, which begins as it does
peak_raised : whole part (codes "raise 1") ≡ Ok (op.Raise (pos 1))
unfolding whole part raise_or_remove number natural positive digits word byte one
peak_raised = refl

element_removed : whole part (codes "remove \"x\"") ≡ Ok (op.SetRemove (codes "x"))
unfolding whole part raise_or_remove word text pieces piece byte many turns one
element_removed = refl

-- a removal beside a hash
field_removed : whole hash_part (codes "remove \"f\"") ≡ Ok (op.HashRemove (codes "f"))
unfolding whole hash_part remove_or_clear removal word text pieces piece byte many turns one
field_removed = refl
