-- One line of a script.
use Rattle.std.proofs.Common.{◌≡◌, [], Option, refl, ap, sym, ◌∙◌, subst, arith}
use Rattle.dio_core.specs.declared.line.Line.{Line}
use Rattle.dio_core.specs.declared.line.Line.TheVariants as line
use Rattle.dio_core.specs.Told.{WhereTold}
use Rattle.dio_core.specs.Lines.{TakesFirst, Answers, TakesLine, line_of}
use Rattle.dio_core.specs.Sinks.{with_more, TakesPrefix}
use Rattle.dio_core.proofs.Told.{WhereTold-map}
use Rattle.dio_core.proofs.Sinks.{with_more-nil}
use Rattle.txn_grammar.specs.Characters.{Text}
use Rattle.script_runner.specs.code.Lines.{Leaves}
use Rattle.script_runner.specs.Play.{ScriptWorld, answer}
use Rattle.script_runner.specs.code.Turns.{moment, DoesLine, BeginsLine}

-- a line that is there is the first of the input
first_taken : (l : Line) (all rest : Text) → (l ≡ line.End → ⊥) → Answers l all rest → TakesFirst l all rest
first_taken line.End all rest some takes = absurd (some refl)
first_taken (line.Bytes bytes) all rest some takes = takes
first_taken line.TooLong all rest some takes = takes

module _ (old new : ScriptWorld) (before reply : Text) (l : Line) (some : l ≡ line.End → ⊥) (empty : before ≡ [])
    (done : Leaves before reply new (answer old l)) (left left_then taken taken_then : Option Text) where
  -- what was answered to the line, with nothing before it, is what the play answers to it
  answer_is : (raw : Text) → l ≡ line_of raw → Leaves [] reply new (answer old (line_of raw))
  answer_is raw is = subst (λ (k : Line). Leaves [] reply new (answer old k)) is (subst (λ (z : Text). Leaves z reply new (answer old l)) empty done)

  -- a line was done, and its reply was taken
  pub line-done : TakesLine l left left_then → taken_then ≡ with_more taken reply
      → WhereTold (DoesLine (moment old left taken) (moment new left_then taken_then)) left left_then
  line-done takes wrote = WhereTold-map left left_then (λ all rest is.
      let line = first_taken l all rest some is in
      let same = answer_is line.raw line.answered in record {
        raw = line.raw;
        read = line.first.0;
        world = sym same.left_is;
        output = wrote ∙ ap (with_more taken) (sym same.output_is);
      }) takes

  -- a line was done, and of its reply a prefix was taken
  pub line-begun : TakesLine l left left_then → TakesPrefix reply taken taken_then
      → WhereTold (BeginsLine (moment old left taken) (moment new left_then taken_then)) left left_then
  line-begun takes wrote = WhereTold-map left left_then (λ all rest is.
      let line = first_taken l all rest some is in
      let same = answer_is line.raw line.answered in record {
        raw = line.raw;
        read = line.first.0;
        output = subst (λ (bytes : Text). TakesPrefix bytes taken taken_then) (sym same.output_is) wrote;
      }) takes

-- a line was read, and there was no memory for what it does
pub line-wanting : (old new : ScriptWorld) (l : Line) → (l ≡ line.End → ⊥)
    → (left left_then taken taken_then : Option Text)
    → TakesLine l left left_then → taken_then ≡ taken
    → WhereTold (BeginsLine (moment old left taken) (moment new left_then taken_then)) left left_then
line-wanting old new l some left left_then taken taken_then takes same = WhereTold-map left left_then (λ all rest is.
    let line = first_taken l all rest some is in record {
      raw = line.raw;
      read = line.first.0;
      output = (0, omega arith, same ∙ sym (with_more-nil taken));
    }) takes
