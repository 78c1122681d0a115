use Rattle.std.proofs.Common.{arith, sym, ◌∙◌}
use Rattle.std.proofs.lemmas.Grind.{common_steps}
use Rattle.session_core.proofs.Trims.{trimmed_end-take-blank, trimmed_end-take-solid}
use Rattle.session_core.proofs.words.trimmed_end.Goals as goal
use Rattle.session_core.proofs.words.trimmed_end.Goals.{then-loop-end-test+else-is_blank, else-loop-end-test}

pub loop-end-preserved : goal.loop-end-preserved
loop-end-preserved c =
    (sym (trimmed_end-take-blank c.args.text.now c.loop-end.end (omega arith) c.loop-end.invariant.1 (grind arith)) ∙ c.loop-end.invariant.0, omega arith)

pub returns-clause-value : goal.returns-clause-value
returns-clause-value c =
    elim c.loop-end-test.branch [
      | then-loop-end-test+else-is_blank w ↦ sym (trimmed_end-take-solid c.args.text.now c.loop-end.end (omega arith) c.loop-end.invariant.1
          (grind arith)) ∙ c.loop-end.invariant.0
      | else-loop-end-test w ↦ grind (arith, common_steps)
    ]
