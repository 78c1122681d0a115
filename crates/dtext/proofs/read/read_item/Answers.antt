use Rattle.std.proofs.Common.{refl}
use Rattle.dtext.specs.Follows.{no_digit}
use Rattle.dtext.specs.code.Reading as spec
use Rattle.dtext.specs.Spellings.{ItemRule}
use Rattle.dtext.proofs.FormFits.{item_fits}
use Rattle.dtext.proofs.Wholes.{promised}
use Rattle.dtext.proofs.read.read_item.Goals as goal

pub returns : goal.returns
returns c =
    let k = promised spec.item ItemRule no_digit item_fits refl c.args.bytes.now c.new-cursor.result c.finish.result c.new-cursor.ensures
    (λ n. c.finish.ensures.answer (spec.item c.new-cursor.result) c.next_item-found.ensures (λ e. n (c.finish.ensures.memory e)))
    in
    record { read = k.read; spellings = k.spellings; refused = k.refused }
