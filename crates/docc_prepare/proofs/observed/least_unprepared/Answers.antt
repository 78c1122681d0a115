use Rattle.std.proofs.Common.{◌≡◌, Some, cond, true, false, sym, ap, ◌∙◌}
use Rattle.docc_prepare.specs.Attempts.{has_front, lesser}
use Rattle.docc_prepare.proofs.Lowest.{unprepared_more}
use Rattle.docc_prepare.proofs.observed.least_unprepared.Goals.{in-None, in-Some}
use Rattle.docc_prepare.proofs.observed.least_unprepared.Goals as goal

-- a shard that has a front leaves what was found
pub loop-seen-preserved-then-has_front : goal.loop-seen-preserved-then-has_front
loop-seen-preserved-then-has_front c =
    let fronts = c.args.fronts.now in
    let shard = c.shard_of-shard.result in
    let found = c.loop-seen.found in
    let prepared : has_front fronts shard ≡ true = sym c.has_front.ensures ∙ c.if-has_front.true in
    unprepared_more c.args.shards fronts c.args.observations.now c.loop-seen.seen-index c.seen-item.result shard found found
    c.loop-seen-test.true c.seen-item.is c.shard_of-shard.ensures (ap (λ b. cond b found (Some (lesser shard found))) (sym prepared))
    ∙ c.loop-seen.invariant

-- and one without is counted with it
pub loop-seen-preserved : goal.loop-seen-preserved
loop-seen-preserved c =
    let fronts = c.args.fronts.now in
    let shard = c.shard_of-shard.result in
    let found = c.loop-seen.found in
    let counted : c.match-found.found ≡ Some (lesser shard found) =
    elim c.match-found.branch [
      | in-None w ↦ w.found-is ∙ ap (λ o. Some (lesser shard o)) (sym w.in-None.is)
      | in-Some w ↦ w.found-is ∙ ap (λ n. Some n) w.min.ensures ∙ ap (λ o. Some (lesser shard o)) (sym w.in-Some.is)
    ] in
    let unprepared : has_front fronts shard ≡ false = sym c.has_front.ensures ∙ c.if-has_front.false in
    unprepared_more c.args.shards fronts c.args.observations.now c.loop-seen.seen-index c.seen-item.result shard found c.match-found.found
    c.loop-seen-test.true c.seen-item.is c.shard_of-shard.ensures (counted ∙ ap (λ b. cond b found (Some (lesser shard found))) (sym unprepared))
    ∙ c.loop-seen.invariant
