use Rattle.std.proofs.Common.{◌≡◌, Some, None, cond, nat_eq, is_some, ap, sym, subst, ◌∙◌}
use Rattle.std.specs.Map.{set_value}
use Rattle.rerun_driver.specs.declared.watch.Watch.{Watch}
use Rattle.rerun_driver.specs.Watches.{Watches, watch_of, with_report}
use Rattle.rerun_driver.specs.code.Numbers.{Roomy, without_number}
use Rattle.rerun_driver.specs.code.Rolls.{Rolled, IsRoll, IsInOrder, number_of, number_in, seen_in, seen_by}
use Rattle.rerun_driver.specs.code.Shown.{shown}
use Rattle.rerun_driver.proofs.Shown.{Kept, is_named, lookup-shown, shown-set_value, shown-settled}
use Rattle.rerun_driver.proofs.Rolls.{named-none, seen-set, seen-named}
use Rattle.rerun_driver.proofs.Keeping.{in-order, keeps-settled, unreported}
use Rattle.rerun_driver.proofs.roll.Roll.settle.Goals as goal

pub returns-in_default-clause-kept : goal.returns-in_default-clause-kept
returns-in_default-clause-kept c =
    let inside = c.self.inside in
    let roll = c.args.self.now in
    let ordered = subst IsInOrder c.self.view_is (in-order inside.order inside.stale inside.made inside.watches.entries c.self.invariant) in
    sym (ap (λ (ws : Watches). (roll.0, ws))
    (unreported roll.1 c.args.name.now c.args.number c.args.run (named-none roll.0 roll.1 c.args.name.now ordered.as_many (sym c.in_default.ensures))))

pub returns-in_default-clause-answer : goal.returns-in_default-clause-answer
returns-in_default-clause-answer c =
    let inside = c.self.inside in
    let ordered = subst IsInOrder c.self.view_is (in-order inside.order inside.stale inside.made inside.watches.entries c.self.invariant) in
    sym (ap is_some (named-none c.args.self.now.0 c.args.self.now.1 c.args.name.now ordered.as_many (sym c.in_default.ensures)))

pub returns-in_default-get_mut-clause-kept : goal.returns-in_default-get_mut-clause-kept
returns-in_default-get_mut-clause-kept c =
    let roll = c.args.self.now in
    let kept = c.self.inside.watches.entries in
    let none : watch_of roll.1 c.args.name.now ≡ None =
    sym (c.in_default-get_mut.ensures.value ∙ sym (lookup-shown c.as_slice.result.now kept) ∙ (λ i. watch_of (c.self.view_is i).1 (c.as_slice.ensures i))) in
    (λ i. (c.self.inside.order.0, shown (c.get_mut.follows.holds-at-none i).entries))
    ∙ c.self.view_is
    ∙ sym (ap (λ (ws : Watches). (roll.0, ws)) (unreported roll.1 c.args.name.now c.args.number c.args.run none))

pub returns-in_default-get_mut-clause-answer : goal.returns-in_default-get_mut-clause-answer
returns-in_default-get_mut-clause-answer c =
    let kept = c.self.inside.watches.entries in
    ap is_some (c.in_default-get_mut.ensures.value ∙ sym (lookup-shown c.as_slice.result.now kept)
    ∙ (λ i. watch_of (c.self.view_is i).1 (c.as_slice.ensures i)))

pub invariant_of-self-2 : goal.invariant_of-self-2
invariant_of-self-2 c =
    let inside = c.self.inside in
    let kept = inside.watches.entries in
    let made = c.in-Some.made in
    let bytes = c.as_slice.result.now in
    let watch = c.settle-before.new.self in
    let at : number_in inside.order.0 (shown kept) bytes ≡ Some made = (λ i. number_of (c.self.view_is i) (c.as_slice.ensures i)) ∙ sym c.in-Some.ensures in
    subst (λ (stale : Roomy). IsRoll inside.order stale inside.made (c.get_mut.follows.lender watch).entries) (sym c.take_out.ensures.taken)
    (subst (λ (es : Kept). IsRoll inside.order (without_number inside.stale.0 made, inside.stale.1) inside.made es)
    (sym (c.get_mut.follows.holds watch).0)
    (keeps-settled inside.order inside.stale inside.made kept c.self.invariant bytes made watch at (ap (λ (w : Watch). w.stale) c.settle-before.ensures.kept)))

pub returns-clause-kept : goal.returns-clause-kept
returns-clause-kept c =
    let kept = c.self.inside.watches.entries in
    let bytes = c.as_slice.result.now in
    let watch = c.settle-before.new.self in
    ap (λ (ws : Watches). (c.self.inside.order.0, ws))
    (ap shown ((c.get_mut.follows.holds watch).0 ∙ ap (set_value (is_named bytes) kept) c.settle-before.ensures.kept)
    ∙ shown-settled c.args.name.now bytes c.as_slice.ensures c.args.number c.args.run kept c.in-Some-get_mut.watch.now (sym c.in-Some-get_mut.ensures.value))
    ∙ ap (λ (roll : Rolled). (roll.0, with_report roll.1 c.args.name.now c.args.number c.args.run)) c.self.view_is

pub returns-clause-answer : goal.returns-clause-answer
returns-clause-answer c =
    let kept = c.self.inside.watches.entries in
    ap is_some (c.in-Some-get_mut.ensures.value ∙ sym (lookup-shown c.as_slice.result.now kept)
    ∙ (λ i. watch_of (c.self.view_is i).1 (c.as_slice.ensures i)))

pub returns-clause-seen : goal.returns-clause-seen
returns-clause-seen c n =
    let inside = c.self.inside in
    let kept = inside.watches.entries in
    let made = c.in-Some.made in
    let bytes = c.as_slice.result.now in
    let watch = c.settle-before.new.self in
    let at : number_in inside.order.0 (shown kept) bytes ≡ Some made = (λ i. number_of (c.self.view_is i) (c.as_slice.ensures i)) ∙ sym c.in-Some.ensures in
    ap (λ (ws : Watches). seen_in inside.order.0 ws n) (ap shown (c.get_mut.follows.holds watch).0 ∙ shown-set_value bytes kept watch)
    ∙ seen-set bytes watch made n inside.order.0 (shown kept) c.self.invariant.rising at
    ∙ (λ i. cond (nat_eq made n) (ap (λ (w : Watch). w.observations) c.settle-before.ensures.kept i) (seen_by (c.self.view_is i) n))

pub returns-clause-before : goal.returns-clause-before
returns-clause-before c =
    let inside = c.self.inside in
    let kept = inside.watches.entries in
    let made = c.in-Some.made in
    let bytes = c.as_slice.result.now in
    let watch = c.in-Some-get_mut.watch.now in
    let at : number_in inside.order.0 (shown kept) bytes ≡ Some made = (λ i. number_of (c.self.view_is i) (c.as_slice.ensures i)) ∙ sym c.in-Some.ensures in
    let found : watch_of (shown kept) bytes ≡ Some watch = lookup-shown bytes kept ∙ sym c.in-Some-get_mut.ensures.value in
    c.settle-before.ensures.before ∙ sym (seen-named bytes watch made inside.order.0 (shown kept) c.self.invariant.rising at found)
    ∙ (λ i. seen_by (c.self.view_is i) made)
