use Rattle.std.proofs.Common.{◌≡◌, List, [], Result, Ok, Err, IfOk, OnErr, ap, sym, ◌∙◌, subst}
use Rattle.rdt_types.specs.declared.address.Address.{Address}
use Rattle.txn_trees.specs.declared.statement.Stmt.{Stmt}
use Rattle.txn_trees.specs.declared.statement.Body.{Body}
use Rattle.txn_lang.specs.declared.progress.Stop.{Stop}
use Rattle.txn_lang.specs.declared.progress.Stop.TheVariants as stop
use Rattle.txn_lang.specs.declared.snaps.Snap.{Snap}
use Rattle.txn_lang.specs.Execution.{begun, exec, need}
use Rattle.txn_lang.specs.Rules.{all_steps}
use Rattle.txn_eval.specs.declared.pause.Pause.{Pause}
use Rattle.txn_eval.specs.declared.running.Step.{Step}
use Rattle.txn_eval.specs.Pausing.{IsPauseOf}
use Rattle.txn_eval.specs.Running.{ran_of, values_of}
use Rattle.txn_eval.specs.code.Answers.{EndsAs}
use Rattle.txn_eval.specs.code.Buffering.{kept_ended, nothing_kept}
use Rattle.txn_eval.specs.code.Loops.{stmts_on}
use Rattle.txn_eval.specs.code.Pauses.{Goes, GoesOn, stmts_left}
use Rattle.txn_eval.proofs.Ending.{exec_is_steps}
use Rattle.txn_eval.proofs.Pauses.{told_of_all, need_told, end_told, all}
use Rattle.txn_eval.proofs.running.go_on.Goals as goal

if_ok : {A E P : Type 0} (r : Result A E) → P → IfOk r (λ _. P)
if_ok (Ok x) p = p
if_ok (Err e) p = tt

on_err : {A E P : Type 0} (r : Result A E) → P → OnErr r P
on_err (Ok x) p = tt
on_err (Err e) p = p

module _ (body : Body) (stmts : List Stmt) (snaps : List (Address × Snap)) (old k : Pause) (are : stmts ≡ body.stmts) (is : IsPauseOf body.stmts snaps old) where
  -- what all statements of a body do is what the definition says
  steps_are : kept_ended (all_steps (stmts_on snaps stmts) [] (begun nothing_kept)) ≡ exec body (values_of snaps)
  steps_are = ap (λ ss. kept_ended (all_steps (stmts_on snaps ss) [] (begun nothing_kept))) are ∙ sym (exec_is_steps body snaps)

  -- what is told of what is left is told of all
  of_all : (r : Result (Unit {0}) Stop) → GoesOn (values_of snaps) r (stmts_left stmts) old k
      → Goes (values_of snaps) r k.names k.run (λ t. stmts_left stmts t k) (all stmts snaps)
  of_all r goes = told_of_all stmts snaps r old k (subst (λ ss. IsPauseOf ss snaps old) (sym are) is) goes

  -- how a run has ended is told of the whole body
  ends : {E : Type 0} (r : Result (Unit {0}) Stop) (told : Result Step E) → GoesOn (values_of snaps) r (stmts_left stmts) old k
      → IfOk told (λ step. EndsAs r k.run (ran_of step)) → IfOk told (λ step. ran_of step ≡ exec body (values_of snaps))
  ends r (Ok step) goes end = end_told stmts snaps r k (ran_of step) (of_all r goes) end ∙ steps_are
  ends r (Err e) goes end = tt

  -- and where it needs a value, so does that
  needs : (e : Stop) (a : Address) → e ≡ stop.Need a → GoesOn (values_of snaps) (Err e) (stmts_left stmts) old k → need a ≡ exec body (values_of snaps)
  needs e a stops goes =
      need_told stmts snaps a k (of_all (Err (stop.Need a)) (subst (λ x. GoesOn (values_of snaps) (Err x) (stmts_left stmts) old k) stops goes)) ∙ steps_are

pub returns-in-Ok-clause-ran : goal.returns-in-Ok-clause-ran
returns-in-Ok-clause-ran c =
    ends c.args.body.now.body c.as_slice.result.now c.args.snaps.now c.args.pause.now c.go_through.new.pause c.as_slice.ensures c.requires (Ok tt)
    c.settled.result c.in-Ok.ensures.goes c.settled.ensures.ended

pub returns-in-Need-clause-ran : goal.returns-in-Need-clause-ran
returns-in-Need-clause-ran c =
    needs c.args.body.now.body c.as_slice.result.now c.args.snaps.now c.args.pause.now c.go_through.new.pause c.as_slice.ensures c.requires
    c.in-Err.stop c.in-Need.address c.in-Need.is c.in-Err.ensures.goes

pub returns-in_default : goal.returns-in_default
returns-in_default c =
    let told = c.settled-in_default.result in
    let first = c.settled-in_default.ensures.begun c.args.body.now.body.stmts c.args.snaps.now in
    record {
      ran = ends c.args.body.now.body c.as_slice.result.now c.args.snaps.now c.args.pause.now c.go_through.new.pause c.as_slice.ensures c.requires
          (Err c.in-Err.stop) told c.in-Err.ensures.goes c.settled-in_default.ensures.ended;
      paused = if_ok told first;
      again = on_err told first;
    }
