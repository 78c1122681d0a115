use Rattle.std.proofs.Common.{◌≡◌, ℕ, suc, ◌+◌, List, sym, ap, subst, ◌∙◌, arith}
use Rattle.std.specs.BTreeMap.{insert_entry}
use Rattle.rdt_types.specs.declared.address.Address.{Address}
use Rattle.rdt_types.specs.Addresses.{address_cmp}
use Rattle.txn_lang.specs.declared.snaps.Snap.{Snap}
use Rattle.txn_lang.specs.Few.{AreReadInTurn}
use Rattle.txn_lang.specs.States.{known}
use Rattle.txn_lang.proofs.Few.{reads_are_few}
use Rattle.txn_lang.proofs.Given.{read_next}
use Rattle.txn_lang.proofs.Observed.{runs_stay_done, needs_are_missing}
use Rattle.txn_eval.specs.Pausing.{IsPauseOf}
use Rattle.txn_eval.specs.Running.{values_of, ran_of}
use Rattle.txn_eval.proofs.MoreKnown.{pauses_stay}
use Rattle.audit_core.specs.Dumps.{Values, state_of}
use Rattle.audit_core.specs.code.Running.{IsLent}
use Rattle.audit_core.proofs.Lending.{lent-extends, lent-more}
use Rattle.audit_core.proofs.running.run_lent.Goals as goal

pub loop-init : goal.loop-init
loop-init c = record {
  turn = tt;
  lent = λ m is. is;
  paused = c.begun-pause.ensures c.args.body.now.body.stmts c.args.snaps.now;
}

-- what is done on the values that were lent is done on the state
pub returns-in-Done-clause-ran : goal.returns-in-Done-clause-ran
returns-in-Done-clause-ran c = λ m lent.
    runs_stay_done c.args.body.now.body (values_of c.loop.snaps) (known m) c.in-Done.run'
    (lent-extends m c.loop.state c.loop.snaps (c.loop.invariant.lent m lent))
    (sym c.in_ok-run.ensures.ran ∙ ap ran_of c.in-Done.is)

pub loop-preserved : goal.loop-preserved
loop-preserved c =
    let body = c.args.body.now.body in
    let before = c.loop.snaps in
    let address = c.in-Need.address in
    let snap : Snap = record { base = 0; value = state_of c.loop.state address } in
    let more = insert_entry address_cmp before address snap in
    let needed = sym c.in_ok-run.ensures.ran ∙ ap ran_of c.in-Need.is in
    let missing = needs_are_missing body (values_of before) address needed in
    let next = read_next before address snap body needed in
    let up : suc c.loop.counter ≡ c.loop.counter + 1 = omega arith in
    record {
      turn = subst (λ (snaps : List (Address × Snap)). AreReadInTurn body (c.loop.counter + 1) (values_of snaps)) (sym c.in_ok-lend-in-Need.ensures.lent)
          (subst (λ (n : ℕ). AreReadInTurn body n (values_of more)) up (values_of before, c.loop.invariant.turn, next));
      lent = λ m is.
          subst (λ (snaps : List (Address × Snap)). IsLent m c.lend.new.state snaps) (sym c.in_ok-lend-in-Need.ensures.lent)
          (subst (λ (values : Values). IsLent m values more) (sym c.in_ok-lend-in-Need.ensures.without)
          (lent-more m c.loop.state before address missing (c.loop.invariant.lent m is)));
      paused = subst (λ (snaps : List (Address × Snap)). IsPauseOf body.stmts snaps c.go_on.new.pause) (sym c.in_ok-lend-in-Need.ensures.lent)
          (pauses_stay body.stmts before more c.go_on.new.pause next.others c.in_ok-run.ensures.paused);
    }

pub unreachable-requires : goal.unreachable-requires
unreachable-requires c =
    let few = reads_are_few c.args.body.now.body c.loop.counter (values_of c.loop.snaps) c.loop.invariant.turn in omega arith
