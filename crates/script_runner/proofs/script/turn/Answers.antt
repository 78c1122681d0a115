use Rattle.std.proofs.Common.{refl, inr}
use Rattle.std.proofs.lemmas.Result.{err_from_is_err_and}
use Rattle.script_runner.specs.Worlds.{world_of}
use Rattle.script_runner.proofs.Turns.{line-wanting}
use Rattle.script_runner.proofs.script.turn.Goals as goal

-- there was no memory for what the line does
pub returns-in_err-answer : goal.returns-in_err-answer
returns-in_err-answer g c =
    let left = g.S.Source.left in
    let taken = g.W.Sink.taken in
    let wanting = line-wanting (world_of c.args.script.now) (world_of c.answer.new.script) c.in_ok-line.line c.in_default.not-End
    (left c.args.source.now) (left c.read_line.new.source) (taken c.args.sink.now) (taken c.args.sink.now) c.in_ok-line.ensures.line refl in
    let p = err_from_is_err_and c.from_residual-in_err-answer.result c.from_residual-in_err-answer.ensures.1 in
    rw (p.1, p.2) (record {
      turns = inr wanting;
      stands = tt;
      passed = λ is. absurd (cc is);
      idle = λ is. absurd (cc is);
      wanting = λ is. refl;
      reads = c.in_ok-line.ensures.reads;
      writes = refl;
    })
