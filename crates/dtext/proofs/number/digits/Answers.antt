use Rattle.std.proofs.Common.{◌<◌, length, sym, subst, ◌∙◌, ap}
use Rattle.dtext.specs.code.Reading.{more}
use Rattle.dtext.specs.code.Reading as spec
use Rattle.predictive_parsing.proofs.Cursors.{made_shorter}
use Rattle.dtext.proofs.NumberFits.{digits_more, digits_done}
use Rattle.dtext.proofs.number.digits.Goals as goal

pub loop-more-smaller : goal.loop-more-smaller
loop-more-smaller c =
    subst (λ xs. length xs < length c.loop-more.cursor) (sym c.skip.ensures)
    (made_shorter (more c.args.limit c.loop-more.value) c.loop-more.cursor c.in-Some.more (sym c.in-Some.ensures.value))

pub loop-more-preserved : goal.loop-more-preserved
loop-more-preserved c = (
  ap (spec.digits c.args.limit c.in-Some.more) c.skip.ensures
      ∙ sym (digits_more c.args.limit c.loop-more.value c.loop-more.cursor c.in-Some.more (sym c.in-Some.ensures.value))
      ∙ c.loop-more.invariant.0,
  c.in-Some.ensures.within,
)

pub returns : goal.returns
returns c = record {
  read = sym c.loop-more.invariant.0 ∙ digits_done c.args.limit c.loop-more.value c.loop-more.cursor (sym c.in_default.ensures.value);
  within = c.loop-more.invariant.1;
}
