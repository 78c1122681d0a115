-- Items that are lent, so that comparing copies none. The clauses of src/lent.rt say which item is lent.
use Rattle.std.specs.Prelude.{◌≡◌, pos, refl}
use Rattle.rdt_types.specs.declared.outcome.Item.{Item}
use Rattle.rdt_types.specs.declared.outcome.Item.TheVariants as item
use Rattle.txn_eval.specs.declared.lent.Lent.{Lent}
use Rattle.txn_eval.specs.declared.lent.Lent.TheVariants as lent

-- the item that is lent
abbrev pub shown : Lent → Item
shown (lent.Int n) = item.Int n
shown (lent.Bool b) = item.Bool b
shown (lent.Text t) = item.Text t.now
shown (lent.Texts ts) = item.Texts ts.now

-- a number
shown-example : shown (lent.Int (pos 7)) ≡ item.Int (pos 7)
shown-example = refl
