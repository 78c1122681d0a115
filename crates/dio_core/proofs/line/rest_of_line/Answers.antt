use Rattle.std.proofs.Common.{List, [], ◌∷◌, if◌then◌else◌, ◌≡◌, ◌+◌, ◌<◌, ◌++◌, ℕ, length, take, arith, refl, sym, subst, ap, ◌∙◌}
use Rattle.std.proofs.lemmas.Grind.{common_steps}
use Rattle.std.proofs.lemmas.Result.{err_from_is_err_and}
use Rattle.std.proofs.lemmas.List.{length-take}
use Rattle.dio_core.specs.declared.line.TheConstants.{NEWLINE, LONGEST_LINE, LONGEST_RUN}
use Rattle.dio_core.specs.Sources.{with_prefix}
use Rattle.dio_core.specs.Lines.{TakesLine, IsShort}
use Rattle.dio_core.specs.code.Lines.{Reads, GoesOn, answer_of}
use Rattle.dio_core.proofs.Lines.{Reads-first, Reads-begun, read-part, kept-short, answer-short, TakesLine-newline, TakesLine-end, TakesLine-full}
use Rattle.dio_core.proofs.line.rest_of_line.Goals as goal

-- there is no memory for a line that has begun
pub returns-in_err-kept-clause-begun : goal.returns-in_err-kept-clause-begun
returns-in_err-kept-clause-begun g c =
    let begun = c.args.begun.now in
    let rest = g.S.Source.left c.args.source.now in
    let p = err_from_is_err_and c.from_residual.result c.from_residual.ensures.1 in
    let few : length begun < LONGEST_LINE + 1 = omega (arith, c.requires.few) in
    rw (p.1, p.2) (
      length begun,
      c.requires.some,
      few,
      Reads-begun (length begun) _ (with_prefix begun rest) rest (Reads-first begun _ rest c.requires.unbroken refl),
    )

pub loop-taken-init : goal.loop-taken-init
loop-taken-init g c =
    let begun = c.args.begun.now in
    let is : c.keep.new.kept.items ≡ take LONGEST_LINE begun =
    c.keep.ensures ∙ ap (λ none. take LONGEST_LINE (none ++ begun)) c.in_ok-kept.ensures.items in record {
      reads = Reads-first begun _ (g.S.Source.left c.args.source.now) c.requires.unbroken is;
      long = omega (arith, ap length is, length-take LONGEST_LINE begun);
      some = c.requires.some;
      most = omega (arith, c.requires.few);
      piece = refl;
      written = refl;
      counted = refl;
    }

-- a read failed in a line
pub returns-in_err-part-clause-begun : goal.returns-in_err-part-clause-begun
returns-in_err-part-clause-begun g c =
    let before = c.loop-taken in
    let old = with_prefix c.args.begun.now (g.S.Source.left c.args.source.now) in
    let new = g.S.Source.left c.next_part.new.source in
    let begun = Reads-begun before.taken _ old _ before.invariant.reads in
    let p = err_from_is_err_and c.from_residual-in_err-part.result c.from_residual-in_err-part.ensures.1 in
    rw (p.1, p.2) (before.taken, omega arith, c.loop-taken-test.true, rw c.in_err-part.ensures.err begun)

-- the input ends
pub returns-in_default-clause-line : goal.returns-in_default-clause-line
returns-in_default-clause-line g c =
    let left = g.S.Source.left in
    let before = c.loop-taken in
    let old = with_prefix c.args.begun.now (left c.args.source.now) in
    let ended = subst (λ part. GoesOn part c.next_part.new.buf (left before.source) (left c.next_part.new.source)) c.in_default.is c.in_ok-part.ensures.part in
    let line = TakesLine-end before.taken before.kept.items old (left before.source) (left c.next_part.new.source) c.loop-taken-test.true
    before.invariant.some before.invariant.reads ended.0 ended.1 in
    subst (λ answer. TakesLine answer old (left c.next_part.new.source))
    (ap (answer_of before.taken) (sym {A = List ℕ} c.make_room.ensures.same) ∙ sym c.answer.ensures) line

-- a newline comes
pub returns-then-part-clause-line : goal.returns-then-part-clause-line
returns-then-part-clause-line g c =
    let left = g.S.Source.left in
    let before = c.loop-taken in
    let part = c.in-Some.part in
    let kept = c.keep-in-loop-taken.new.kept.items in
    let old = with_prefix c.args.begun.now (left c.args.source.now) in
    let new = left c.next_part.new.source in
    let read = read-part before.taken c.min-most.result part _ c.next_part.new.buf before.piece before.kept.items c.make_room.new.kept.items kept
    old (left before.source) new c.loop-taken-test.true c.min-most.ensures before.invariant.piece c.next_part.auto.buf
    c.in-Some.is c.in_ok-part.ensures.part c.make_room.ensures.same c.keep-in-loop-taken.ensures before.invariant.long before.invariant.reads in
    let reads = subst (λ e. Reads (before.taken + part.count) kept old (if e then with_prefix (NEWLINE ∷ []) new else new)) c.if-part.true read.reads in
    subst (λ answer. TakesLine answer old new) (sym c.answer-then-part.ensures)
    (TakesLine-newline (before.taken + part.count) kept old _ new (read.ended c.if-part.true) reads refl)

pub returns-then-part-clause-short : goal.returns-then-part-clause-short
returns-then-part-clause-short g c =
    let kept = c.keep-in-loop-taken.new.kept.items in
    let short = kept-short _ kept c.keep-in-loop-taken.ensures in
    subst IsShort (sym c.answer-then-part.ensures) (answer-short (c.loop-taken.taken + c.in-Some.part.count) kept short)

-- the line goes on
pub loop-taken-preserved : goal.loop-taken-preserved
loop-taken-preserved g c =
    let left = g.S.Source.left in
    let before = c.loop-taken in
    let part = c.in-Some.part in
    let kept = c.keep-in-loop-taken.new.kept.items in
    let old = with_prefix c.args.begun.now (left c.args.source.now) in
    let new = left c.next_part.new.source in
    let read = read-part before.taken c.min-most.result part _ c.next_part.new.buf before.piece before.kept.items c.make_room.new.kept.items kept
    old (left before.source) new c.loop-taken-test.true c.min-most.ensures before.invariant.piece c.next_part.auto.buf
    c.in-Some.is c.in_ok-part.ensures.part c.make_room.ensures.same c.keep-in-loop-taken.ensures before.invariant.long before.invariant.reads in record {
      reads = subst (λ e. Reads (before.taken + part.count) kept old (if e then with_prefix (NEWLINE ∷ []) new else new)) c.if-part.false read.reads;
      long = read.long;
      some = omega (arith, before.invariant.some);
      most = read.most;
      piece = read.whole;
      written = grind (arith, common_steps);
      counted = grind (arith, common_steps);
    }

-- as many bytes as the longest run are taken
pub returns-clause-line : goal.returns-clause-line
returns-clause-line g c =
    let before = c.loop-taken in
    let old = with_prefix c.args.begun.now (g.S.Source.left c.args.source.now) in
    let all_taken : before.taken ≡ LONGEST_RUN = omega (arith, c.loop-taken-test.false, before.invariant.most) in
    TakesLine-full before.kept.items old (g.S.Source.left before.source)
    (subst (λ n. Reads n before.kept.items old (g.S.Source.left before.source)) all_taken before.invariant.reads)
