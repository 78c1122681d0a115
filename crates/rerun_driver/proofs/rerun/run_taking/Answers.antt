use Rattle.std.proofs.Common.{◌≡◌, ℕ, suc, ◌+◌, List, sym, ap, subst, ◌∙◌, arith}
use Rattle.std.specs.BTreeMap.{insert_entry}
use Rattle.rdt_types.specs.declared.address.Address.{Address}
use Rattle.rdt_types.specs.Addresses.{address_cmp}
use Rattle.txn_lang.specs.declared.snaps.Snap.{Snap}
use Rattle.txn_lang.specs.Few.{AreReadInTurn}
use Rattle.txn_lang.specs.Observed.{Extends}
use Rattle.txn_lang.proofs.Few.{reads_are_few}
use Rattle.txn_lang.proofs.Given.{read_next}
use Rattle.txn_lang.proofs.Observed.{runs_stay_done, needs_stay}
use Rattle.client_cache.specs.Cached.{held}
use Rattle.txn_eval.specs.Pausing.{IsPauseOf}
use Rattle.txn_eval.specs.Running.{values_of, ran_of}
use Rattle.txn_eval.proofs.MoreKnown.{pauses_stay}
use Rattle.rerun_driver.proofs.CacheRuns.{extends-more}
use Rattle.rerun_driver.proofs.rerun.run_taking.Goals as goal

pub loop-init : goal.loop-init
loop-init c = record { values = c.requires.taken; turn = tt; paused = c.requires.paused }

pub returns-in-Done-clause-ran : goal.returns-in-Done-clause-ran
returns-in-Done-clause-ran c =
    sym (runs_stay_done c.args.body.now.body (values_of c.loop.snaps) (held c.args.cache.now) c.in-Done.run' c.loop.invariant.values
    (sym c.in_ok-run.ensures.ran ∙ ap ran_of c.in-Done.is))

pub returns-in-None-clause-ran : goal.returns-in-None-clause-ran
returns-in-None-clause-ran c =
    sym (needs_stay c.args.body.now.body (values_of c.loop.snaps) (held c.args.cache.now) c.in-Need.address c.loop.invariant.values
    (sym c.in_ok-run.ensures.ran ∙ ap ran_of c.in-Need.is) (sym c.in-None.ensures))

pub loop-preserved : goal.loop-preserved
loop-preserved c =
    let body = c.args.body.now.body in
    let before = c.loop.snaps in
    let address = c.in-Need.address in
    let snap : Snap = record { base = c.at.result; value = c.in-Some.value.now } in
    let needed = sym c.in_ok-run.ensures.ran ∙ ap ran_of c.in-Need.is in
    let more = insert_entry address_cmp before address snap in
    let next = read_next before address snap body needed in
    let up : suc c.loop.counter ≡ c.loop.counter + 1 = omega arith in
    record {
      values = subst (λ (snaps : List (Address × Snap)). Extends (values_of snaps) (held c.args.cache.now)) (sym c.in_ok-take_value-in-Some.ensures)
          (extends-more before (held c.args.cache.now) address snap c.loop.invariant.values (sym c.in-Some.ensures));
      turn = subst (λ (snaps : List (Address × Snap)). AreReadInTurn body (c.loop.counter + 1) (values_of snaps)) (sym c.in_ok-take_value-in-Some.ensures)
          (subst (λ (n : ℕ). AreReadInTurn body n (values_of more)) up (values_of before, c.loop.invariant.turn, next));
      paused = subst (λ (snaps : List (Address × Snap)). IsPauseOf body.stmts snaps c.go_on.new.pause) (sym c.in_ok-take_value-in-Some.ensures)
          (pauses_stay body.stmts before more c.go_on.new.pause next.others c.in_ok-run.ensures.paused);
    }

pub unreachable-requires : goal.unreachable-requires
unreachable-requires c =
    let few = reads_are_few c.args.body.now.body c.loop.counter (values_of c.loop.snaps) c.loop.invariant.turn in omega arith

pub returns-in-Done-clause-begun : goal.returns-in-Done-clause-begun
returns-in-Done-clause-begun c = record { taken = c.loop.invariant.values; paused = c.in_ok-run.ensures.paused }

pub returns-in-None-clause-begun : goal.returns-in-None-clause-begun
returns-in-None-clause-begun c = record { taken = c.loop.invariant.values; paused = c.in_ok-run.ensures.paused }
