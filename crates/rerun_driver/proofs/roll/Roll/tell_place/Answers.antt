use Rattle.std.proofs.Common.{◌≤◌, not, length, sym, ap, subst, ◌∙◌, arith}
use Rattle.std.proofs.lemmas.Bool.{and_parts, not-true}
use Rattle.std.specs.Map.{values_of}
use Rattle.indexmap.specs.IndexMap.{set_value_at}
use Rattle.plain_data.proofs.Entries.{within-get}
use Rattle.rerun_driver.specs.Watches.{Watches, told, touches}
use Rattle.rerun_driver.specs.code.Numbers.{Roomy}
use Rattle.rerun_driver.specs.code.Rolls.{Rolled, IsRoll, told_place}
use Rattle.rerun_driver.specs.code.Shown.{shown}
use Rattle.rerun_driver.proofs.Rolls.{shown-told, told-past, stale-fewer}
use Rattle.rerun_driver.proofs.Keeping.{past-shown, values-long, keeps-turned, keeps-still}
use Rattle.rerun_driver.proofs.roll.Roll.tell_place.Goals as goal

pub returns-in_default : goal.returns-in_default
returns-in_default c =
    let changes = c.args.changes.now in
    let place = c.args.place in
    let past = past-shown c.self.inside.order.0 c.self.inside.watches.entries place c.self.invariant.as_many (sym c.in_default.ensures) in
    sym (ap (λ (ws : Watches). (c.args.self.now.0, ws))
    (told-past changes c.args.self.now.1 place (subst (λ (roll : Rolled). length roll.1 ≤ place) c.self.view_is past)))

pub index_mut-requires : goal.index_mut-requires
index_mut-requires c =
    omega (arith, within-get c.self.inside.order.0 c.args.place c.in-Some.number (sym c.in-Some.ensures), c.self.invariant.as_many)

pub put-requires : goal.put-requires
put-requires c =
    let kept = c.self.inside.watches.entries in
    let w = c.index_mut.result.now in
    let fresh = not-true w.stale
    (and_parts (not w.stale) (touches c.args.changes.now w.observations) (sym c.tell-turned.ensures.turned ∙ c.if-turned.true)).0 in
    let few = stale-fewer c.self.inside.order.0 (values_of kept) c.args.place w c.index_mut.ensures.value fresh in
    omega (arith, few, ap length c.self.invariant.listed, values-long kept, c.self.invariant.room)

pub invariant_of-self : goal.invariant_of-self
invariant_of-self c =
    let kept = c.self.inside.watches.entries in
    let w = c.index_mut.result.now in
    let inside = c.self.inside in
    subst (λ v. IsRoll inside.order c.put.new.self inside.made (set_value_at kept c.args.place v)) (sym c.tell-turned.ensures.told)
    (subst (λ (s : Roomy). IsRoll inside.order s inside.made (set_value_at kept c.args.place (told c.args.changes.now w))) (sym c.put.ensures)
    (keeps-turned inside.order inside.stale inside.made kept c.self.invariant c.args.changes.now c.args.place c.in-Some.number w
    (sym c.in-Some.ensures) c.index_mut.ensures.value (sym c.tell-turned.ensures.turned ∙ c.if-turned.true)))

pub invariant_of-self-else-turned : goal.invariant_of-self-else-turned
invariant_of-self-else-turned c =
    let kept = c.self.inside.watches.entries in
    let w = c.index_mut.result.now in
    let inside = c.self.inside in
    subst (λ v. IsRoll inside.order inside.stale inside.made (set_value_at kept c.args.place v)) (sym c.tell-turned.ensures.told)
    (keeps-still inside.order inside.stale inside.made kept c.self.invariant c.args.changes.now c.args.place w c.index_mut.ensures.value
    (sym c.tell-turned.ensures.turned ∙ c.if-turned.false))

pub returns-then-turned : goal.returns-then-turned
returns-then-turned c =
    let kept = c.self.inside.watches.entries in
    let place = c.args.place in
    let changes = c.args.changes.now in
    ap (λ v. (c.self.inside.order.0, shown (set_value_at kept place v))) c.tell-turned.ensures.told
    ∙ ap (λ (ws : Watches). (c.self.inside.order.0, ws)) (shown-told changes kept place c.index_mut.result.now c.index_mut.ensures.value)
    ∙ ap (λ (roll : Rolled). (roll.0, told_place changes place roll.1)) c.self.view_is

pub returns-else-turned : goal.returns-else-turned
returns-else-turned c =
    let kept = c.self.inside.watches.entries in
    let place = c.args.place in
    let changes = c.args.changes.now in
    ap (λ v. (c.self.inside.order.0, shown (set_value_at kept place v))) c.tell-turned.ensures.told
    ∙ ap (λ (ws : Watches). (c.self.inside.order.0, ws)) (shown-told changes kept place c.index_mut.result.now c.index_mut.ensures.value)
    ∙ ap (λ (roll : Rolled). (roll.0, told_place changes place roll.1)) c.self.view_is
