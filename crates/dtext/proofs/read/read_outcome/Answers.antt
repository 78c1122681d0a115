use Rattle.std.proofs.Common.{refl}
use Rattle.dtext.specs.Follows.{no_more}
use Rattle.dtext.specs.code.Reading as spec
use Rattle.dtext.specs.Spellings.{OutcomeRule}
use Rattle.dtext.proofs.FormFits.{outcome_fits}
use Rattle.dtext.proofs.Wholes.{promised}
use Rattle.dtext.proofs.read.read_outcome.Goals as goal

pub returns : goal.returns
returns c =
    let k = promised spec.outcome OutcomeRule no_more outcome_fits refl c.args.bytes.now c.new-cursor.result c.finish.result c.new-cursor.ensures
    (λ n. c.finish.ensures.answer (spec.outcome c.new-cursor.result) c.next_outcome-found.ensures (λ e. n (c.finish.ensures.memory e)))
    in
    record { read = k.read; spellings = k.spellings; refused = k.refused }
