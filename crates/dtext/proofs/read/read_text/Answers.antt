use Rattle.std.proofs.Common.{refl}
use Rattle.predictive_parsing.specs.Fits.{any}
use Rattle.dtext.specs.code.Reading as spec
use Rattle.dtext.specs.Spellings.{TextRule}
use Rattle.dtext.proofs.TextFits.{text_fits}
use Rattle.dtext.proofs.Wholes.{promised}
use Rattle.dtext.proofs.read.read_text.Goals as goal

pub returns : goal.returns
returns c =
    let k = promised spec.text TextRule any text_fits refl c.args.bytes.now c.new-cursor.result c.finish.result c.new-cursor.ensures
    (λ n. c.finish.ensures.answer (spec.text c.new-cursor.result) c.next_text-found.ensures (λ e. n (c.finish.ensures.memory e)))
    in
    record { read = k.read; spellings = k.spellings; refused = k.refused }
