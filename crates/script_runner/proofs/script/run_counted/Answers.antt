use Rattle.std.proofs.Common.{Option, Some, None, Ok, Err, ℕ, sym, subst}
use Rattle.std.specs.Prelude.{IfSome, IfOk, Result}
use Rattle.plain_data.specs.declared.or_no_memory.OrNoMemory.{OrNoMemory}
use Rattle.dio_core.specs.Told.{WhereTold}
use Rattle.txn_grammar.specs.Characters.{Text}
use Rattle.script_runner.specs.Script.{reading, writing, HasPassedOn}
use Rattle.script_runner.specs.code.Turns.{Ends, StopsBetween}
use Rattle.script_runner.proofs.Plays.{counted-end}
use Rattle.script_runner.proofs.Promises.{keeps_promises}
use Rattle.script_runner.proofs.script.run_counted.Goals as goal

-- the end of the run took nothing more
pub returns-clause-keeps : goal.returns-clause-keeps
returns-clause-keeps g c =
    let settings = c.args.settings.now in
    let r = reading g.S.Source c.args.source.now c.run_lines-ended.new.source in
    let w = writing g.W.Sink c.args.sink.now c.close.new.sink in
    let ended = c.run_lines-ended.result in
    keeps_promises settings r w ended _ _ _
    (subst (λ t. WhereTold (Ends settings ended w.taken t) r.left r.left_then) (sym c.close.ensures.taken) c.run_lines-ended.ensures.ran)
    c.run_lines-ended.ensures.reads c.run_lines-ended.ensures.writes
    c.close.ensures.closes
    (λ is. subst (λ sink. IfSome r.left (HasPassedOn settings (writing g.W.Sink c.args.sink.now sink))) (sym (c.close.ensures.wanting is))
    (subst (λ e. StopsBetween settings e r.left (writing g.W.Sink c.args.sink.now c.run_lines-ended.new.sink)) is c.run_lines-ended.ensures.between))

-- a number is answered where the lines ended well
pub returns-clause-commits : goal.returns-clause-commits
returns-clause-commits g c =
    counted-end c.args.settings.now (g.S.Source.left c.args.source.now) c.run_lines-ended.result _ c.run_lines-ended.ensures.commits
    c.unwrap_or-commits.ensures
