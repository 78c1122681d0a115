use Rattle.std.proofs.Common.{arith, refl, sym, subst}
use Rattle.cli_words.specs.Forms.{texts}
use Rattle.cli_words.specs.Refusals.{Refuses}
use Rattle.cli_words.specs.code.Answers.{Explains}
use Rattle.cli_words.proofs.Refused.{after_next, stops, all_read, spelled, missing-is, unfinished}
use Rattle.cli_words.proofs.reading.read_words.Goals as goal

pub loop-place-init : goal.loop-place-init
loop-place-init c = refl

pub loop-place-preserved : goal.loop-place-preserved
loop-place-preserved c =
    after_next c.args.words.now c.loop-place.place _ c.loop-place.reading _ c.loop-place-test.true c.loop-place.invariant (c.in-Ok.ensures)

pub returns-in-Ok-finish-clause-plan : goal.returns-in-Ok-finish-clause-plan
returns-in-Ok-finish-clause-plan c =
    spelled _ c.loop-place.reading c.in-Ok-finish.plan
    (all_read c.args.words.now c.loop-place.place c.loop-place.reading (omega (arith, c.loop-place-test.false)) c.loop-place.invariant)
    (c.in-Ok-finish.ensures)

pub returns-in-Err-clause-refused : goal.returns-in-Err-clause-refused
returns-in-Err-clause-refused c =
    subst (Refuses (texts c.args.words.now)) (sym c.stopped_at.ensures)
    (stops c.args.words.now c.loop-place.place _ c.loop-place.reading c.in-Err.stop c.loop-place-test.true c.loop-place.invariant (c.in-Err.ensures)).0

pub returns-in-Err-clause-why : goal.returns-in-Err-clause-why
returns-in-Err-clause-why c =
    subst (Explains (texts c.args.words.now)) (sym c.stopped_at.ensures)
    (stops c.args.words.now c.loop-place.place _ c.loop-place.reading c.in-Err.stop c.loop-place-test.true c.loop-place.invariant (c.in-Err.ensures)).1

pub returns-in-Err-finish-clause-refused : goal.returns-in-Err-finish-clause-refused
returns-in-Err-finish-clause-refused c =
    subst (Refuses (texts c.args.words.now)) (sym c.cut_short.ensures)
    (unfinished c.args.words.now c.loop-place.place c.loop-place.reading c.in-Err-finish.missing (omega (arith, c.loop-place-test.false))
    c.loop-place.invariant (c.in-Err-finish.ensures))

pub returns-in-Err-finish-clause-why : goal.returns-in-Err-finish-clause-why
returns-in-Err-finish-clause-why c =
    subst (Explains (texts c.args.words.now)) (sym c.cut_short.ensures) (
      c.loop-place.reading,
      all_read c.args.words.now c.loop-place.place c.loop-place.reading (omega (arith, c.loop-place-test.false)) c.loop-place.invariant,
      missing-is c.loop-place.reading c.in-Err-finish.missing c.in-Err-finish.ensures,
    )
