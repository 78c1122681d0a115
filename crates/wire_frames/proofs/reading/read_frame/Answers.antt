use Rattle.std.proofs.Common.{◌≡◌, ◌<◌, ◌≤◌, length, arith}
use Rattle.std.proofs.lemmas.Grind.{common_steps}
use Rattle.std.proofs.lemmas.Result.{err_from_is_err_and}
use Rattle.wire_frames.proofs.Pieced.{IsHead, head-taken, takes-lacks, memory-told, memory-lacks}
use Rattle.wire_frames.proofs.reading.read_frame.Goals as goal

-- behind a length fewer bytes come than it tells
pub returns-in_err-rest_of_frame-clause-frame : goal.returns-in_err-rest_of_frame-clause-frame
returns-in_err-rest_of_frame-clause-frame g c =
    let left = g.R.Source.left in
    let head = c.fill.new.buf in
    let size = c.length_of-length.result in
    let four : length head ≡ 4 = c.in_ok-fill.ensures.size in
    let some : 0 < size = grind (arith, common_steps) in
    let within : size ≤ c.args.most = grind (arith, common_steps) in
    let full : length head ≤ c.in_ok-fill.field-0 = omega (arith, four, c.in-4.is) in
    let is : IsHead c.args.most size head = record {
      four = four;
      number = c.length_of-length.ensures.number;
      spelled = c.length_of-length.ensures.spelled;
      some = some;
      within = within;
    } in
    let p = err_from_is_err_and c.from_residual-in_err-rest_of_frame.result c.from_residual-in_err-rest_of_frame.ensures.1 in
    rw (p.1, p.2) (takes-lacks c.args.most size head _ (left c.args.source.now) (left c.fill.new.source) (left c.rest_of_frame.new.source) is
    (head-taken c.in_ok-fill.field-0 head (left c.args.source.now) (left c.fill.new.source) c.in_ok-fill.ensures.fills.0 full)
    c.in_err-rest_of_frame.ensures.rest)

-- so where memory is wanting, a length was taken
pub returns-in_err-rest_of_frame-clause-memory : goal.returns-in_err-rest_of_frame-clause-memory
returns-in_err-rest_of_frame-clause-memory g c = λ e.
    let left = g.R.Source.left in
    let head = c.fill.new.buf in
    let size = c.length_of-length.result in
    let four : length head ≡ 4 = c.in_ok-fill.ensures.size in
    let some : 0 < size = grind (arith, common_steps) in
    let within : size ≤ c.args.most = grind (arith, common_steps) in
    let full : length head ≤ c.in_ok-fill.field-0 = omega (arith, four, c.in-4.is) in
    let is : IsHead c.args.most size head = record {
      four = four;
      number = c.length_of-length.ensures.number;
      spelled = c.length_of-length.ensures.spelled;
      some = some;
      within = within;
    } in
    let p = err_from_is_err_and c.from_residual-in_err-rest_of_frame.result c.from_residual-in_err-rest_of_frame.ensures.1 in
    memory-lacks c.args.most size head _ (left c.args.source.now) (left c.fill.new.source) (left c.rest_of_frame.new.source) is
    (head-taken c.in_ok-fill.field-0 head (left c.args.source.now) (left c.fill.new.source) c.in_ok-fill.ensures.fills.0 full)
    c.in_err-rest_of_frame.ensures.rest (memory-told _ _ _ p.1 p.2 e)
