use Rattle.std.proofs.Common.{refl}
use Rattle.dtext.specs.Follows.{no_more}
use Rattle.dtext.specs.code.Reading as spec
use Rattle.dtext.specs.Spellings.{PartRule}
use Rattle.dtext.proofs.PartFits.{part_fits}
use Rattle.dtext.proofs.Wholes.{promised}
use Rattle.dtext.proofs.read.read_part.Goals as goal

pub returns : goal.returns
returns c =
    let k = promised spec.part PartRule no_more part_fits refl c.args.bytes.now c.new-cursor.result c.finish.result c.new-cursor.ensures
    (λ n. c.finish.ensures.answer (spec.part c.new-cursor.result) c.part-found.ensures (λ e. n (c.finish.ensures.memory e)))
    in
    record { read = k.read; spellings = k.spellings; refused = k.refused }
