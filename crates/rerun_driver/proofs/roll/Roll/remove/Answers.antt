use Rattle.std.proofs.Common.{◌≡◌, Some, [], cond, nat_eq, is_some, ap, sym, subst, ◌∙◌}
use Rattle.rerun_driver.specs.Watches.{watch_of, without_watch}
use Rattle.rerun_driver.specs.code.Numbers.{Roomy, without_number}
use Rattle.rerun_driver.specs.code.Rolls.{Rolled, IsRoll, IsInOrder, number_of, number_in, seen_in, seen_by}
use Rattle.rerun_driver.specs.code.Shown.{shown}
use Rattle.rerun_driver.proofs.Shown.{Kept, lookup-shown, shown-remove_entry}
use Rattle.rerun_driver.proofs.Rolls.{named-none, without-none, seen-removed, seen-named}
use Rattle.rerun_driver.proofs.Keeping.{in-order, keeps-removed}
use Rattle.rerun_driver.proofs.roll.Roll.remove.Goals as goal

pub returns-in_default-clause-answer : goal.returns-in_default-clause-answer
returns-in_default-clause-answer c =
    let inside = c.self.inside in
    let ordered = subst IsInOrder c.self.view_is (in-order inside.order inside.stale inside.made inside.watches.entries c.self.invariant) in
    sym (ap is_some (named-none c.args.self.now.0 c.args.self.now.1 c.args.name.now ordered.as_many (sym c.in_default.ensures)))

pub returns-in_default-clause-gone : goal.returns-in_default-clause-gone
returns-in_default-clause-gone c =
    let inside = c.self.inside in
    let ordered = subst IsInOrder c.self.view_is (in-order inside.order inside.stale inside.made inside.watches.entries c.self.invariant) in
    sym (without-none c.args.self.now.1 c.args.name.now
    (named-none c.args.self.now.0 c.args.self.now.1 c.args.name.now ordered.as_many (sym c.in_default.ensures)))

pub returns-in_default-shift_remove-clause-answer : goal.returns-in_default-shift_remove-clause-answer
returns-in_default-shift_remove-clause-answer c =
    let kept = c.self.inside.watches.entries in
    ap is_some (c.in_default-shift_remove.ensures.value ∙ sym (lookup-shown c.as_slice.result.now kept)
    ∙ (λ i. watch_of (c.self.view_is i).1 (c.as_slice.ensures i)))

pub returns-in_default-shift_remove-clause-gone : goal.returns-in_default-shift_remove-clause-gone
returns-in_default-shift_remove-clause-gone c =
    let kept = c.self.inside.watches.entries in
    ap shown c.shift_remove.ensures.entries ∙ shown-remove_entry c.as_slice.result.now kept
    ∙ (λ i. without_watch (c.self.view_is i).1 (c.as_slice.ensures i))

pub returns-in_default-shift_remove-clause-none : goal.returns-in_default-shift_remove-clause-none
returns-in_default-shift_remove-clause-none c =
    ap (λ (es : Kept). (c.self.inside.order.0, shown es)) c.in_default-shift_remove.ensures.unchanged ∙ c.self.view_is

pub invariant_of-self-2 : goal.invariant_of-self-2
invariant_of-self-2 c =
    let inside = c.self.inside in
    let kept = inside.watches.entries in
    let made = c.in-Some.made in
    let bytes = c.as_slice.result.now in
    let at : number_in inside.order.0 (shown kept) bytes ≡ Some made = (λ i. number_of (c.self.view_is i) (c.as_slice.ensures i)) ∙ sym c.in-Some.ensures in
    subst (λ (order : Roomy). IsRoll order c.take_out-2.new.self inside.made c.shift_remove.new.self.entries) (sym c.take_out.ensures.taken)
    (subst (λ (stale : Roomy). IsRoll (without_number inside.order.0 made, inside.order.1) stale inside.made c.shift_remove.new.self.entries)
    (sym c.take_out-2.ensures.taken)
    (subst (λ (es : Kept). IsRoll (without_number inside.order.0 made, inside.order.1) (without_number inside.stale.0 made, inside.stale.1) inside.made es)
    (sym c.shift_remove.ensures.entries)
    (keeps-removed inside.order inside.stale inside.made kept c.self.invariant bytes made at)))

pub returns-clause-answer : goal.returns-clause-answer
returns-clause-answer c =
    let kept = c.self.inside.watches.entries in
    ap is_some (c.in-Some-shift_remove.ensures.value ∙ sym (lookup-shown c.as_slice.result.now kept)
    ∙ (λ i. watch_of (c.self.view_is i).1 (c.as_slice.ensures i)))

pub returns-clause-gone : goal.returns-clause-gone
returns-clause-gone c =
    let kept = c.self.inside.watches.entries in
    ap shown c.shift_remove.ensures.entries ∙ shown-remove_entry c.as_slice.result.now kept
    ∙ (λ i. without_watch (c.self.view_is i).1 (c.as_slice.ensures i))

pub returns-clause-seen : goal.returns-clause-seen
returns-clause-seen c n =
    let inside = c.self.inside in
    let kept = inside.watches.entries in
    let made = c.in-Some.made in
    let bytes = c.as_slice.result.now in
    let at : number_in inside.order.0 (shown kept) bytes ≡ Some made = (λ i. number_of (c.self.view_is i) (c.as_slice.ensures i)) ∙ sym c.in-Some.ensures in
    let order = ap (λ (o : Roomy). o.0) c.take_out.ensures.taken in
    let ws = ap shown c.shift_remove.ensures.entries ∙ shown-remove_entry bytes kept in
    (λ i. seen_in (order i) (ws i) n)
    ∙ seen-removed bytes made n inside.order.0 (shown kept) c.self.invariant.rising at
    ∙ ap (λ (roll : Rolled). cond (nat_eq made n) [] (seen_by roll n)) c.self.view_is

pub returns-clause-before : goal.returns-clause-before
returns-clause-before c =
    let inside = c.self.inside in
    let kept = inside.watches.entries in
    let made = c.in-Some.made in
    let bytes = c.as_slice.result.now in
    let watch = c.in-Some-shift_remove.watch in
    let at : number_in inside.order.0 (shown kept) bytes ≡ Some made = (λ i. number_of (c.self.view_is i) (c.as_slice.ensures i)) ∙ sym c.in-Some.ensures in
    let found : watch_of (shown kept) bytes ≡ Some watch = lookup-shown bytes kept ∙ sym c.in-Some-shift_remove.ensures.value in
    sym (seen-named bytes watch made inside.order.0 (shown kept) c.self.invariant.rising at found) ∙ (λ i. seen_by (c.self.view_is i) made)

pub returns-clause-order : goal.returns-clause-order
returns-clause-order c = in-order c.take_out.new.self c.take_out-2.new.self c.self.inside.made c.shift_remove.new.self.entries (invariant_of-self-2 c)
