use Rattle.std.proofs.Common.{◌≡◌, ◌<◌, ◌+◌, ◌-◌, ℕ, suc, List, ◌∷◌, Some, map, drop, length, length-drop, get_or, slice_get, refl, ap, sym, ◌∙◌, subst, arith}
use Rattle.std.proofs.Math.Seq.{drop-cons}
use Rattle.std.proofs.lemmas.Option.{slice_get_within}
use Rattle.std.proofs.lemmas.Result.{err_from_is_err_and}
use Rattle.txn_trees.specs.declared.statement.StmtNode.TheOpen.{StmtNode-F}
use Rattle.txn_trees.specs.declared.statement.StmtNode.TheVariants as form
use Rattle.txn_trees.specs.declared.statement.Stmt.{Stmt}
use Rattle.plain_data.specs.Texts.{Bytes}
use Rattle.txn_lang.specs.Items.{Names}
use Rattle.txn_lang.specs.Rules.{turns, stmt_run}
use Rattle.txn_eval.specs.Running.{values_of}
use Rattle.txn_eval.specs.declared.pause.Over.{Over}
use Rattle.txn_eval.specs.code.Buffering.{kept}
use Rattle.txn_eval.specs.declared.pause.Around.TheVariants as around
use Rattle.txn_eval.specs.Pausing.{texts_over}
use Rattle.txn_eval.specs.code.Pauses.{Enters, inside, block_left, node_left, left_behind}
use Rattle.txn_eval.proofs.Pauses.{extends_itself, stop_in, stop_going, within_branch, within_turn}
use Rattle.txn_eval.proofs.Pauses.{block_needs, if_form, for_form, if_stops, for_stops, then_goes, else_goes, none_goes, for_goes, plain_goes, on_ok, on_going}
use Rattle.txn_eval.proofs.Pauses.{turn_goes, turn_names, turns_end, turn_done, turn_stops, turn_needs, round_done, round_needs, next_goes}
use Rattle.txn_eval.proofs.going.+step.Goals as goal

-- the statement that was found is the first of those that are left
next : (stmts : List Stmt) (at : ℕ) (stmt : Stmt) → at < length stmts → stmt ≡ get_or stmts at stmt → drop at stmts ≡ stmt ∷ drop (suc at) stmts
next stmts at stmt within is = drop-cons stmts at stmt within ∙ ap (λ s. s ∷ drop (suc at) stmts) (sym is)

-- behind a turn fewer texts are left
fewer : (place : ℕ) (over taken : Over) (names after : Names) (text : Bytes) → slice_get (texts_over over names) place ≡ Some text → after ≡ names
    → left_behind place taken after ≡ left_behind place over after → length (left_behind place taken after) < length (drop place (texts_over over names))
fewer place over taken names after text there same behind =
    let all = texts_over over names in
    let within : place < length all = slice_get_within all place text there in
    let left : length (left_behind place taken after) ≡ length all - (place + 1)
    = ap length behind ∙ (ap (λ ns. length (left_behind place over ns)) same ∙ length-drop (place + 1) all) in
    let before : length (drop place all) ≡ length all - place = length-drop place all in
    omega (arith, within, left, before)

pub branch-returns-in-Need-clause-goes : goal.branch-returns-in-Need-clause-goes
branch-returns-in-Need-clause-goes b c = λ node same.
    block_needs (values_of c.args.known.now.snaps.now) c.enter.result c.in-Err.stop c.in-Need.address c.args.frame.around c.args.stmts.now c.args.frame.outside _
    c.block.new.pause c.enter.new.pause (node_left node) _ _ c.in-Need.is c.enter.ensures (λ t more. same t c.block.new.pause) c.in-Err.ensures.goes

pub fresh-returns-in_err-item-in-If-clause-goes : goal.fresh-returns-in_err-item-in-If-clause-goes
fresh-returns-in_err-item-in-If-clause-goes b c =
    let p = err_from_is_err_and c.from_residual.result c.from_residual.ensures.1 in
    rw (p.1, p.2) (if_stops (values_of c.args.known.now.snaps.now) c.args.stmt.now c.args.pause.now c.requires c.in-If.expr c.in-If.yes c.in-If.no
    (if_form c.args.stmt.now c.in-If.expr c.in-If.yes c.in-If.no c.in-If.is) c.in_err-item-in-If.field-0.0 c.head.new.run c.in_err-item-in-If.ensures)

pub fresh-returns-then-bool_in-clause-goes : goal.fresh-returns-then-bool_in-clause-goes
fresh-returns-then-bool_in-clause-goes b c =
    then_goes (values_of c.args.known.now.snaps.now) c.args.stmt.now c.args.pause.now c.requires c.in-If.expr c.in-If.yes c.in-If.no
    (if_form c.args.stmt.now c.in-If.expr c.in-If.yes c.in-If.no c.in-If.is) c.in_ok-item-in-If.item c.head.new.run c.in_ok-item-in-If.ensures
    c.as_slice.result.now c.len-outside.result c.len-outside.ensures c.branch-known.result c.branch-known.new.pause
    (sym c.bool_in.ensures ∙ c.if-bool_in.true) c.as_slice.ensures
    c.branch-known.ensures.goes

pub fresh-returns-in-Some-clause-goes : goal.fresh-returns-in-Some-clause-goes
fresh-returns-in-Some-clause-goes b c =
    else_goes (values_of c.args.known.now.snaps.now) c.args.stmt.now c.args.pause.now c.requires c.in-If.expr c.in-If.yes c.in-If.no
    (if_form c.args.stmt.now c.in-If.expr c.in-If.yes c.in-If.no c.in-If.is) c.in_ok-item-in-If.item c.head.new.run c.in_ok-item-in-If.ensures
    c.as_slice-in-Some.result.now c.len-outside.result c.len-outside.ensures c.branch-known-in-Some.result c.branch-known-in-Some.new.pause
    c.in-Some.no (sym c.bool_in.ensures ∙ c.if-bool_in.false) c.in-Some.is c.as_slice-in-Some.ensures
    c.branch-known-in-Some.ensures.goes

pub fresh-returns-in-If-clause-goes : goal.fresh-returns-in-If-clause-goes
fresh-returns-in-If-clause-goes b c =
    none_goes (values_of c.args.known.now.snaps.now) c.args.stmt.now c.args.pause.now c.requires c.in-If.expr c.in-If.yes c.in-If.no
    (if_form c.args.stmt.now c.in-If.expr c.in-If.yes c.in-If.no c.in-If.is) c.in_ok-item-in-If.item c.head.new.run c.in_ok-item-in-If.ensures
    (sym c.bool_in.ensures ∙ c.if-bool_in.false) c.in-None.is

pub fresh-returns : goal.fresh-returns
fresh-returns b c = record {
  goes = plain_goes (values_of c.args.known.now.snaps.now) c.args.stmt.now c.args.pause.now c.requires c.plain.result c.plain.new.names c.plain.new.run c.plain.ensures;
  trail = on_ok c.plain.result c.requires;
  at = on_going c.plain.result refl;
}

pub go_through-loop-stmt-preserved : goal.go_through-loop-stmt-preserved
go_through-loop-stmt-preserved b c = λ t more.
    c.loop-stmt.invariant t more
    ∙ next_goes (values_of c.args.known.now.snaps.now) c.args.stmts.now c.loop-stmt.pause c.in-Some.stmt.now
    (next c.args.stmts.now c.loop-stmt.pause.at c.in-Some.stmt.now c.in-Some.ensures.lookup.3.0 c.in-Some.ensures.lookup.1)
    c.step.new.pause c.in_ok-step.ensures.goes c.in_ok-step.ensures.at c.in_ok-step.ensures.trail t more

pub fresh-returns-in_err-over-in-For-clause-goes : goal.fresh-returns-in_err-over-in-For-clause-goes
fresh-returns-in_err-over-in-For-clause-goes b c =
    let p = err_from_is_err_and c.from_residual-in_err-over-in-For.result c.from_residual-in_err-over-in-For.ensures.1 in
    rw (p.1, p.2) (for_stops (values_of c.args.known.now.snaps.now) c.args.stmt.now c.args.pause.now c.requires c.in-For.name c.in-For.expr c.in-For.stmts
    (for_form c.args.stmt.now c.in-For.name c.in-For.expr c.in-For.stmts c.in-For.is) c.in_err-over-in-For.field-0.0 c.over_of.new.run
    c.in_err-over-in-For.ensures)

pub fresh-returns-in-For-clause-goes : goal.fresh-returns-in-For-clause-goes
fresh-returns-in-For-clause-goes b c =
    for_goes (values_of c.args.known.now.snaps.now) c.args.stmt.now c.args.pause.now c.requires c.in-For.name c.in-For.expr c.in-For.stmts c.as_slice-in-For.result.now
    (for_form c.args.stmt.now c.in-For.name c.in-For.expr c.in-For.stmts c.in-For.is) c.as_slice-in-For.ensures c.in_ok-over-in-For.over c.over_of.new.run
    c.turns.result c.turns.new.pause c.in_ok-over-in-For.ensures c.turns.ensures.goes

pub round-returns-in-Ok-clause-goes : goal.round-returns-in-Ok-clause-goes
round-returns-in-Ok-clause-goes b c = λ e.
    round_done (values_of c.args.known.now.snaps.now) c.args.name.now c.args.stmts.now c.args.standing.left.over e c.args.standing.left.next c.args.standing.outside (record c.args.pause.now { at = c.args.standing.at })
    c.block.new.pause c.turns.new.pause c.turns.result c.in-Ok.ensures.goes (c.turns.ensures.goes e)

pub round-returns-in-Need-clause-goes : goal.round-returns-in-Need-clause-goes
round-returns-in-Need-clause-goes b c = λ e.
    round_needs (values_of c.args.known.now.snaps.now) c.args.name.now c.args.stmts.now c.args.standing.left.over e c.args.standing.left.next c.args.standing.outside
    (record c.args.pause.now { at = c.args.standing.at }) c.enter.result c.in-Err.stop c.in-Need.address c.args.pause.now.at c.block.new.pause c.enter.new.pause
    c.in-Need.is c.enter.ensures c.in-Err.ensures.goes

pub turn-returns-clause-goes : goal.turn-returns-clause-goes
turn-returns-clause-goes b c =
    turn_goes (values_of c.args.known.now.snaps.now) c.args.name.now c.args.stmts.now c.args.text c.args.pause.now.names c.args.pause.now.run c.charge.new.run
    (record { at = 0; names = c.bind.new.self; run = c.charge.new.run; trail = c.args.pause.now.trail }) c.block.new.pause c.len-outside.result c.block.result
    c.in_ok-charge.ensures.rule c.in_ok-bind.ensures.ok refl refl c.requires c.len-outside.ensures c.block.ensures.goes

pub turns-loop-over-smaller : goal.turns-loop-over-smaller
turns-loop-over-smaller b c =
    let s = values_of c.args.known.now.snaps.now in
    let names = c.loop-over.pause.names in
    let there = sym c.in_ok-text.ensures.text ∙ c.in-Some.is in
    let same = turn_names s c.args.name.now c.args.stmts.now c.in-Some.text names c.turn.new.pause.names c.loop-over.pause.run c.turn.new.pause.run
    (c.in-Ok.ensures.goes s (extends_itself s)) in
    fewer c.loop-over.next c.loop-over.over c.text_over.new.over names c.turn.new.pause.names c.in-Some.text there same
    (c.in_ok-text.ensures.behind c.turn.new.pause.names)

pub turns-loop-over-preserved : goal.turns-loop-over-preserved
turns-loop-over-preserved b c =
    let s = values_of c.args.known.now.snaps.now in
    let names = c.loop-over.pause.names in
    let there = sym c.in_ok-text.ensures.text ∙ c.in-Some.is in
    let same = turn_names s c.args.name.now c.args.stmts.now c.in-Some.text names c.turn.new.pause.names c.loop-over.pause.run c.turn.new.pause.run
    (c.in-Ok.ensures.goes s (extends_itself s)) in
    record {
      goes = λ t more.
          turn_done s c.args.name.now c.args.stmts.now c.loop-over.over _ c.loop-over.next c.in-Some.text names c.loop-over.pause.run c.loop-over.invariant.goes
          there c.turn.new.pause.names c.turn.new.pause.run c.in-Ok.ensures.goes t more
          ∙ ap (λ ts. turns c.args.name.now (map (stmt_run (kept t)) c.args.stmts.now) ts c.turn.new.pause.names c.turn.new.pause.run)
          (sym (c.in_ok-text.ensures.behind c.turn.new.pause.names));
      names = same ∙ c.loop-over.invariant.names;
      trail = c.in-Ok.ensures.trail;
      here = refl;
      at = refl;
      outside = c.loop-over.invariant.outside ∙ ap length (sym same);
    }

pub turns-returns-in-Need-clause-goes : goal.turns-returns-in-Need-clause-goes
turns-returns-in-Need-clause-goes b c = λ e.
    let s = values_of c.args.known.now.snaps.now in
    let names = c.loop-over.pause.names in
    let there = sym c.in_ok-text.ensures.text ∙ c.in-Some.is in
    let taken = c.text_over.new.over in
    turn_needs s c.args.name.now c.args.stmts.now c.loop-over.over _ c.loop-over.next c.in-Some.text names c.loop-over.pause.run c.loop-over.invariant.goes there
    taken (λ ns. sym (c.in_ok-text.ensures.behind ns))
    c.enter.result c.in-Err.stop c.in-Need.address (length names) c.args.pause.now.at (c.loop-over.next + 1) c.turn.new.pause c.enter.new.pause e c.in-Need.is
    (subst (λ n. Enters c.enter.result c.in-Need.address c.enter.new.pause
    (inside (around.Turn (record { over = taken; next = c.loop-over.next + 1 })) n c.args.pause.now.at c.turn.new.pause)) c.loop-over.invariant.outside c.enter.ensures)
    refl c.in-Err.ensures.goes

pub turns-returns-in_default-stop : goal.turns-returns-in_default-stop
turns-returns-in_default-stop b c =
    let s = values_of c.args.known.now.snaps.now in
    let names = c.loop-over.pause.names in
    let there = sym c.in_ok-text.ensures.text ∙ c.in-Some.is in
    record {
      goes = λ e. stop_in s c.in-Err.stop (node_left (StmtNode-F.For c.args.name.now e c.args.stmts.now)) _ _ c.turn.new.pause (λ a is. c.in_default-stop.not-Need a is)
          (turn_stops s c.args.name.now c.args.stmts.now c.loop-over.over _ c.loop-over.next c.in-Some.text names c.loop-over.pause.run c.loop-over.invariant.goes there
          c.in-Err.stop c.turn.new.pause.names c.turn.new.pause.run _ c.in-Err.ensures.goes);
      trail = tt;
      at = stop_going _ c.in-Err.stop (λ a is. c.in_default-stop.not-Need a is);
    }

pub turns-returns-clause-goes : goal.turns-returns-clause-goes
turns-returns-clause-goes b c = λ e t more.
    let names = c.loop-over.pause.names in
    c.loop-over.invariant.goes t more
    ∙ turns_end (values_of c.args.known.now.snaps.now) c.args.name.now c.args.stmts.now c.loop-over.over t c.loop-over.next names c.loop-over.pause.run
    (sym c.in_ok-text.ensures.text ∙ c.in_default.is)

pub within-returns-in-If-clause-goes : goal.within-returns-in-If-clause-goes
within-returns-in-If-clause-goes b c =
    within_branch (values_of c.args.known.now.snaps.now) c.args.stmt.now c.args.pause.now c.args.frame (StmtNode-F.If c.in-If.field-0 c.in-If.yes c.in-If.field-2)
    around.Then c.as_slice.result.now c.branch-known.result c.branch-known.new.pause
    (if_form c.args.stmt.now c.in-If.field-0 c.in-If.yes c.in-If.field-2 c.in-If.is) c.in-Then.is
    (λ t k. ap (λ zs. block_left zs c.args.frame.outside t k) c.as_slice.ensures) c.branch-known.ensures.goes

pub within-returns-in-Some-clause-goes : goal.within-returns-in-Some-clause-goes
within-returns-in-Some-clause-goes b c =
    let i = c.in-If-node in
    within_branch (values_of c.args.known.now.snaps.now) c.args.stmt.now c.args.pause.now c.args.frame (StmtNode-F.If i.field-0 i.field-1 (Some c.in-Some.no))
    around.Else c.as_slice-in-Some.result.now c.branch-known-in-Some.result c.branch-known-in-Some.new.pause
    (if_form c.args.stmt.now i.field-0 i.field-1 (Some c.in-Some.no) (i.is ∙ ap (λ o. form.If i.field-0 i.field-1 o) c.in-Some.is)) c.in-Else.is
    (λ t k. ap (λ zs. block_left zs c.args.frame.outside t k) c.as_slice-in-Some.ensures) c.branch-known-in-Some.ensures.goes

pub within-returns-in-For-clause-goes : goal.within-returns-in-For-clause-goes
within-returns-in-For-clause-goes b c =
    within_turn (values_of c.args.known.now.snaps.now) c.args.stmt.now c.args.pause.now c.args.frame c.in-For.name c.in-For.field-1 c.in-For.stmts
    c.as_slice-in-For.result.now c.in-Turn.left c.round.result c.round.new.pause
    (for_form c.args.stmt.now c.in-For.name c.in-For.field-1 c.in-For.stmts c.in-For.is) c.as_slice-in-For.ensures c.in-Turn.is c.round.ensures.goes
