use Rattle.std.proofs.Common.{refl}
use Rattle.diamond_server.specs.code.Serving.{MayWake}
use Rattle.diamond_server.proofs.Held.{passes-held}
use Rattle.diamond_server.proofs.Stopping.{stops-of, stops-unpassed}
use Rattle.diamond_server.proofs.answering.passed_on_and_woken.Goals as goal

-- what was held back could not be written
pub returns-then-not-pass_on-clause-stops : goal.returns-then-not-pass_on-clause-stops
returns-then-not-pass_on-clause-stops g c =
    stops-unpassed c.pass_on.result _ 0 0 _ _ _ _ c.if-not-pass_on.true c.pass_on.ensures.passes c.pass_on.ensures.none (MayWake.asleep refl)

-- the session stopped behind the wait
pub returns-in-Err-clause-stops : goal.returns-in-Err-clause-stops
returns-in-Err-clause-stops g c =
    stops-of c.in-Err.why c.stop_of.result _ _ _ _ _ _ _ c.stop_of.ensures c.in-Err.ensures.told c.in-Err.ensures.begun
    (passes-held c.pass_on.result _ _ _ _ c.if-not-pass_on.false c.pass_on.ensures.none c.pass_on.ensures.passes)
