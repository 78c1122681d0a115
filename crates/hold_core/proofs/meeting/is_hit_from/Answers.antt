use Rattle.std.proofs.Common.{◌+◌, ◌<◌, ◌||◌, length, drop, sym, ap, ◌∙◌, arith}
use Rattle.std.specs.List.{list_any}
use Rattle.std.specs.Option.{option_copied}
use Rattle.std.proofs.lemmas.List.{at_drop_more}
use Rattle.std.proofs.lemmas.List.Sums.{sum_by-drop_more}
use Rattle.hold_core.specs.code.Index.{is_hit_at, is_met_at}
use Rattle.hold_core.proofs.Found.{one_if, found-met, found-hit, not-found, hit-past}
use Rattle.hold_core.proofs.meeting.is_hit_from.Goals as goal

-- what isn't at the address is past it
pub returns-in_default-clause-hit : goal.returns-in_default-clause-hit
returns-in_default-clause-hit g c =
    let all = c.args.observations.now in
    let i = c.loop-place.place-index in
    let within : i < length c.args.places.now = omega (arith, c.loop-place-test.true) in
    let none = not-found all c.args.address.now _ (sym c.seen_at.ensures ∙ ap option_copied c.in_default.is) in
    sym (hit-past all (c.args.address.now, c.args.delta.now) c.args.places.now i 0 c.requires.rises c.requires.reached within none)
    ∙ c.loop-place.invariant.hit

pub returns-then-clash-clause-hit : goal.returns-then-clash-clause-hit
returns-then-clash-clause-hit g c =
    let places = c.args.places.now in
    let hit = is_hit_at c.args.observations.now (c.args.address.now, c.args.delta.now) in
    let i = c.loop-place.place-index in
    let here = sym c.seen_at.ensures ∙ ap option_copied c.in-Some.is in
    let is = found-hit c.args.observations.now (c.args.address.now, c.args.delta.now) _ c.in-Some.seen.now here ∙ sym c.clash.ensures.table ∙ c.if-clash.true in
    sym (ap (λ b. b || list_any hit (drop (i + 1) places)) is)
    ∙ sym (at_drop_more (list_any hit) places i 0 (omega (arith, c.loop-place-test.true)))
    ∙ c.loop-place.invariant.hit

pub returns-then-clash-clause-steps : goal.returns-then-clash-clause-steps
returns-then-clash-clause-steps g c =
    let places = c.args.places.now in
    let met = is_met_at c.args.observations.now c.args.address.now in
    let here = sym c.seen_at.ensures ∙ ap option_copied c.in-Some.is in
    let one = ap one_if (found-met c.args.observations.now c.args.address.now _ c.in-Some.seen.now here) in
    let more = sum_by-drop_more (λ place. one_if (met place)) places c.loop-place.place-index 0 (omega (arith, c.loop-place-test.true)) in
    omega (arith, c.clash.ensures.one_step, one, more, c.loop-place.invariant.steps)

pub loop-place-preserved : goal.loop-place-preserved
loop-place-preserved g c =
    let all = c.args.observations.now in
    let places = c.args.places.now in
    let hit = is_hit_at all (c.args.address.now, c.args.delta.now) in
    let i = c.loop-place.place-index in
    let within : i < length places = omega (arith, c.loop-place-test.true) in
    let here = sym c.seen_at.ensures ∙ ap option_copied c.in-Some.is in
    let is = found-hit all (c.args.address.now, c.args.delta.now) _ c.in-Some.seen.now here ∙ sym c.clash.ensures.table ∙ c.if-clash.false in
    let one = ap one_if (found-met all c.args.address.now _ c.in-Some.seen.now here) in
    let more = sum_by-drop_more (λ place. one_if (is_met_at all c.args.address.now place)) places i 0 within in
    record {
      hit = sym (ap (λ b. b || list_any hit (drop (i + 1) places)) is) ∙ sym (at_drop_more (list_any hit) places i 0 within) ∙ c.loop-place.invariant.hit;
      steps = omega (arith, c.clash.ensures.one_step, one, more, c.loop-place.invariant.steps);
    }
