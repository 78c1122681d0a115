use Rattle.std.proofs.Common.{List, ℕ, count_by, sym, ap, ◌∙◌, subst, arith}
use Rattle.std.specs.List.{list_any}
use Rattle.journal_core.proofs.Rising.{all_behind}
use Rattle.hold_core.specs.code.Index.{Rises, IsReached, is_hit_at, is_met_at}
use Rattle.hold_core.proofs.Found.{rises-of, rises-left, reached-left, hit-first, hit-all, met-left, met-all}
use Rattle.hold_core.proofs.meeting.is_hit.Goals as goal

pub first_at-from-requires : goal.first_at-from-requires
first_at-from-requires g c = rises-of c.args.observations.now c.args.address.now c.args.places.now c.requires

pub is_hit_from-requires : goal.is_hit_from-requires
is_hit_from-requires g c =
    let all = c.args.observations.now in
    let address = c.args.address.now in
    let places = c.args.places.now in
    let from = c.first_at-from.result in
    record {
      rises = subst (λ (l : List ℕ). Rises all address l) (sym (all_behind places from))
          (rises-left all address places from (rises-of all address places c.requires));
      reached = subst (λ (l : List ℕ). IsReached all address l) (sym (all_behind places from)) (reached-left all address places from c.first_at-from.ensures);
    }

pub returns-clause-disturbs : goal.returns-clause-disturbs
returns-clause-disturbs g c =
    let all = c.args.observations.now in
    let address = c.args.address.now in
    let delta = c.args.delta.now in
    let places = c.args.places.now in
    let from = c.first_at-from.result in
    c.is_hit_from.ensures.hit
    ∙ ap (list_any (is_hit_at all (address, delta))) (all_behind places from)
    ∙ hit-first all (address, delta) places from c.first_at-from.ensures
    ∙ hit-all all places c.requires address delta

pub returns-clause-steps : goal.returns-clause-steps
returns-clause-steps g c =
    let all = c.args.observations.now in
    let address = c.args.address.now in
    let places = c.args.places.now in
    let from = c.first_at-from.result in
    let left = ap (count_by (is_met_at all address)) (all_behind places from) in
    let fewer = met-left all address places from in
    let same = met-all all places c.requires address c.args.delta.now in
    omega (arith, c.is_hit_from.ensures.steps, left, fewer, same)
