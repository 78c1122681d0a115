use Rattle.std.proofs.Common.{◌≡◌, ℕ, Option, Bool, Ok, Err, length, inl, inr, refl, ap, subst, arith}
use Rattle.std.specs.Prelude.{IfSome}
use Rattle.std.proofs.lemmas.Grind.{common_steps}
use Rattle.std.proofs.lemmas.Result.{err_from_is_err_and}
use Rattle.dio_core.specs.declared.line.Line.{Line}
use Rattle.dio_core.specs.Lines.{TakesLine}
use Rattle.script_runner.specs.Play.{ScriptWorld}
use Rattle.script_runner.specs.Script.{writing}
use Rattle.script_runner.specs.Worlds.{world_of}
use Rattle.script_runner.specs.code.Turns.{moment, Turns}
use Rattle.script_runner.proofs.Plays.{plays-none, plays-more, plays-ended, plays-stopped, plays-unread, plays-too_many, plays-counted, cut_unread, stops-between, unread-between}
use Rattle.script_runner.proofs.script.run_lines.Goals as goal

-- no line was played yet
pub loop-init : goal.loop-init
loop-init g c = record {
  stands = c.in_ok-script.ensures.stands;
  plays = plays-none c.args.settings.now (g.S.Source.left c.args.source.now) (g.W.Sink.taken c.args.sink.now) (world_of c.in_ok-script.script)
      c.in_ok-script.ensures.first;
  passed = inl refl;
  reads = refl;
  writes = refl;
}

-- a turn found no line
pub returns-then-not-branch-clause-ran : goal.returns-then-not-branch-clause-ran
returns-then-not-branch-clause-ran g c =
    let left = g.S.Source.left in
    let taken = g.W.Sink.taken in
    let now = moment (world_of c.loop.script) (left c.loop.source) (taken c.loop.sink) in
    let then = moment (world_of c.turn.new.script) (left c.turn.new.source) (taken c.turn.new.sink) in
    plays-ended c.args.settings.now c.commits_of.result c.loop.counter (left c.args.source.now) (taken c.args.sink.now) now then (omega arith) c.loop.invariant.plays
    (subst (λ (b : Bool). Turns (Ok b) now then) c.if-not-branch.true c.in_ok-turn.ensures.turns)

-- behind the last line that may be read there is none
pub returns-in-End-clause-ran : goal.returns-in-End-clause-ran
returns-in-End-clause-ran g c =
    let left = g.S.Source.left in
    let taken = g.W.Sink.taken in
    let now = moment (world_of c.loop.script) (left c.loop.source) (taken c.loop.sink) in
    let then = moment (world_of c.loop.script) (left c.read_line.new.source) (taken c.loop.sink) in
    plays-ended c.args.settings.now c.commits_of-in-End.result c.loop.counter (left c.args.source.now) (taken c.args.sink.now) now then (omega arith) c.loop.invariant.plays
    (subst (λ (l : Line). TakesLine l now.left then.left) c.in-End.is c.in_ok-read_line.ensures.line, refl)

-- a turn stopped
pub returns-in_err-turn-clause-ran : goal.returns-in_err-turn-clause-ran
returns-in_err-turn-clause-ran g c =
    let left = g.S.Source.left in
    let taken = g.W.Sink.taken in
    let now = moment (world_of c.loop.script) (left c.loop.source) (taken c.loop.sink) in
    let then = moment (world_of c.turn.new.script) (left c.turn.new.source) (taken c.turn.new.sink) in
    let p = err_from_is_err_and c.from_residual-in_err-turn.result c.from_residual-in_err-turn.ensures.1 in
    rw (p.1, p.2) (plays-stopped c.args.settings.now (Option ℕ) c.loop.counter (left c.args.source.now) (taken c.args.sink.now) now then
    (omega arith) c.loop.invariant.plays c.in_err-turn.field-0.0
    c.in_err-turn.ensures.turns)

-- a turn did a line
pub loop-preserved : goal.loop-preserved
loop-preserved g c =
    let left = g.S.Source.left in
    let taken = g.W.Sink.taken in
    let now = moment (world_of c.loop.script) (left c.loop.source) (taken c.loop.sink) in
    let then = moment (world_of c.turn.new.script) (left c.turn.new.source) (taken c.turn.new.sink) in
    let turned = subst (λ (b : Bool). Turns (Ok b) now then) c.if-not-branch.false c.in_ok-turn.ensures.turns in record {
      stands = c.in_ok-turn.ensures.stands;
      passed = inr (c.in_ok-turn.ensures.passed (ap Ok c.if-not-branch.false));
      plays = plays-more c.args.settings.now c.loop.counter (left c.args.source.now) (taken c.args.sink.now) now then c.loop.invariant.plays turned;
      reads = grind (arith, common_steps);
      writes = grind (arith, common_steps);
    }

-- a line broke off behind the last one that may be read
pub returns-in_err-read_line-clause-ran : goal.returns-in_err-read_line-clause-ran
returns-in_err-read_line-clause-ran g c =
    let left = g.S.Source.left in
    let taken = g.W.Sink.taken in
    let now = moment (world_of c.loop.script) (left c.loop.source) (taken c.loop.sink) in
    let then = moment (world_of c.loop.script) (left c.read_line.new.source) (taken c.loop.sink) in
    let p = err_from_is_err_and c.from_residual-in_err-read_line.result c.from_residual-in_err-read_line.ensures.1 in
    rw (p.1, p.2) (plays-unread c.args.settings.now (Option ℕ) c.loop.counter (left c.args.source.now) (taken c.args.sink.now) now then
    (omega arith) c.loop.invariant.plays refl
    c.in_err-read_line.field-0.0 c.in_err-read_line.ensures.stops)

-- there was no memory for a world
pub returns-in_err-script-clause-ran : goal.returns-in_err-script-clause-ran
returns-in_err-script-clause-ran g c =
    let p = err_from_is_err_and c.from_residual.result c.from_residual.ensures.1 in
    rw (p.1, p.2) (cut_unread c.args.settings.now (g.S.Source.left c.args.source.now) (g.W.Sink.taken c.args.sink.now))

-- there is a line behind the last one that may be read
pub returns-in_default : goal.returns-in_default
returns-in_default g c =
    let left = g.S.Source.left in
    let taken = g.W.Sink.taken in
    let now = moment (world_of c.loop.script) (left c.loop.source) (taken c.loop.sink) in
    let then = moment (world_of c.loop.script) (left c.read_line.new.source) (taken c.loop.sink) in record {
      ran = plays-too_many c.args.settings.now (Option ℕ) c.loop.counter (left c.args.source.now) (taken c.args.sink.now) now then c.in_ok-read_line.field-0
          (omega arith) refl c.in_default.not-End c.loop.invariant.plays c.in_ok-read_line.ensures.line;
      between = tt;
      commits = tt;
      reads = grind (arith, common_steps);
      writes = c.loop.invariant.writes;
    }

-- memory was wanting between two answers: a turn that stops for it has written nothing
pub returns-in_err-turn-clause-between : goal.returns-in_err-turn-clause-between
returns-in_err-turn-clause-between g c =
    let now = moment (world_of c.loop.script) (g.S.Source.left c.loop.source) (g.W.Sink.taken c.loop.sink) in
    let p = err_from_is_err_and c.from_residual-in_err-turn.result c.from_residual-in_err-turn.ensures.1 in
    rw (p.1, p.2) (stops-between (Option ℕ) c.args.settings.now g.W.Sink c.loop.counter (g.S.Source.left c.args.source.now) now c.args.sink.now c.loop.sink
    c.turn.new.sink c.loop.invariant.plays refl c.loop.invariant.passed c.in_err-turn.field-0.0
    (λ is. c.in_err-turn.ensures.wanting (ap Err is)))

-- or behind the last line that may be read
pub returns-in_err-read_line-clause-between : goal.returns-in_err-read_line-clause-between
returns-in_err-read_line-clause-between g c =
    let now = moment (world_of c.loop.script) (g.S.Source.left c.loop.source) (g.W.Sink.taken c.loop.sink) in
    let p = err_from_is_err_and c.from_residual-in_err-read_line.result c.from_residual-in_err-read_line.ensures.1 in
    rw (p.1, p.2) (stops-between (Option ℕ) c.args.settings.now g.W.Sink c.loop.counter (g.S.Source.left c.args.source.now) now c.args.sink.now c.loop.sink
    c.loop.sink c.loop.invariant.plays refl c.loop.invariant.passed c.in_err-read_line.field-0.0 (λ is. refl))

-- or before the first
pub returns-in_err-script-clause-between : goal.returns-in_err-script-clause-between
returns-in_err-script-clause-between g c =
    let p = err_from_is_err_and c.from_residual.result c.from_residual.ensures.1 in
    rw (p.1, p.2) (unread-between c.args.settings.now (g.S.Source.left c.args.source.now) (writing g.W.Sink c.args.sink.now c.args.sink.now) refl)

-- what the script has behind all lines is what the input leaves
pub returns-then-not-branch-clause-commits : goal.returns-then-not-branch-clause-commits
returns-then-not-branch-clause-commits g c =
    let left = g.S.Source.left in
    let taken = g.W.Sink.taken in
    let now = moment (world_of c.loop.script) (left c.loop.source) (taken c.loop.sink) in
    let then = moment (world_of c.turn.new.script) (left c.turn.new.source) (taken c.turn.new.sink) in
    plays-counted c.args.settings.now c.loop.counter (left c.args.source.now) (taken c.args.sink.now) now then _ c.loop.invariant.plays
    (subst (λ (b : Bool). Turns (Ok b) now then) c.if-not-branch.true c.in_ok-turn.ensures.turns)
    (subst (λ (w : ScriptWorld). IfSome c.commits_of.result (λ k. k ≡ length w.store.journal)) (c.in_ok-turn.ensures.idle (ap Ok c.if-not-branch.true)) c.commits_of.ensures)

pub returns-in-End-clause-commits : goal.returns-in-End-clause-commits
returns-in-End-clause-commits g c =
    let left = g.S.Source.left in
    let taken = g.W.Sink.taken in
    let now = moment (world_of c.loop.script) (left c.loop.source) (taken c.loop.sink) in
    let then = moment (world_of c.loop.script) (left c.read_line.new.source) (taken c.loop.sink) in
    plays-counted c.args.settings.now c.loop.counter (left c.args.source.now) (taken c.args.sink.now) now then _ c.loop.invariant.plays
    (subst (λ (l : Line). TakesLine l now.left then.left) c.in-End.is c.in_ok-read_line.ensures.line, refl)
    c.commits_of-in-End.ensures
