use Rattle.std.proofs.Common.{◌≡◌, ℕ, ◌+◌, None, ◌++◌, ◌∷◌, [], List, cond, nat_eq, ap, sym, subst, ◌∙◌, arith}
use Rattle.std.specs.Map.{lookup}
use Rattle.indexmap.proofs.CallerLemmas.{insert_entry-new}
use Rattle.rerun_driver.specs.Watches.{watch_of}
use Rattle.rerun_driver.specs.code.Numbers.{Roomy, with_number}
use Rattle.rerun_driver.specs.code.Rolls.{Rolled, IsRoll, seen_in, seen_by}
use Rattle.rerun_driver.specs.code.Shown.{shown}
use Rattle.rerun_driver.proofs.Shown.{Kept, is_named, lookup-shown, shown-append}
use Rattle.rerun_driver.proofs.Rising.{with-last}
use Rattle.rerun_driver.proofs.Rolls.{seen-added, seen-above}
use Rattle.rerun_driver.proofs.Keeping.{in-order, keeps-added}
use Rattle.rerun_driver.proofs.roll.Roll.add.Goals as goal

pub invariant_of-self-2 : goal.invariant_of-self-2
invariant_of-self-2 c =
    let inside = c.self.inside in
    let kept = inside.watches.entries in
    let key = c.into_vec.result in
    let none : lookup (is_named key.items) kept ≡ None =
    sym (lookup-shown key.items kept) ∙ (λ i. watch_of (c.self.view_is i).1 (c.into_vec.ensures i)) ∙ c.requires.free in
    subst (λ (order : Roomy). IsRoll order c.reserve-2.new.self (inside.made + 1) c.insert.new.self.entries) (sym c.put.ensures)
    (subst (λ (numbers : List ℕ).
    IsRoll (with_number numbers inside.made, c.reserve.new.self.1) c.reserve-2.new.self (inside.made + 1) c.insert.new.self.entries)
    (sym c.in_ok-reserve.ensures.numbers)
    (subst (λ (numbers : List ℕ).
    IsRoll (with_number inside.order.0 inside.made, c.reserve.new.self.1) (numbers, c.reserve-2.new.self.1) (inside.made + 1) c.insert.new.self.entries)
    (sym c.in_ok-reserve-2.ensures.numbers)
    (subst (λ (es : Kept). IsRoll (with_number inside.order.0 inside.made, c.reserve.new.self.1) (inside.stale.0, c.reserve-2.new.self.1) (inside.made + 1) es)
    (sym (c.in_ok-insert.ensures.entries ∙ insert_entry-new _ inside.watches key c.args.watch none))
    (keeps-added inside.order inside.stale inside.made kept c.self.invariant c.reserve-2.new.self.1 c.reserve.new.self.1 key c.args.watch c.requires.fresh
    (omega (arith, c.in_ok-reserve-2.ensures.room, c.len.ensures.len))))))

pub returns-clause-ok : goal.returns-clause-ok
returns-clause-ok c =
    let kept = c.self.inside.watches.entries in
    let key = c.into_vec.result in
    let none : lookup (is_named key.items) kept ≡ None =
    sym (lookup-shown key.items kept) ∙ (λ i. watch_of (c.self.view_is i).1 (c.into_vec.ensures i)) ∙ c.requires.free in
    ap shown (c.in_ok-insert.ensures.entries ∙ insert_entry-new _ c.self.inside.watches key c.args.watch none)
    ∙ shown-append kept ((key, c.args.watch) ∷ [])
    ∙ (λ i. (c.self.view_is i).1 ++ (c.into_vec.ensures i, c.args.watch) ∷ [])

pub returns-clause-seen : goal.returns-clause-seen
returns-clause-seen c n =
    let inside = c.self.inside in
    let kept = inside.watches.entries in
    let key = c.into_vec.result in
    let made = inside.made in
    let none : lookup (is_named key.items) kept ≡ None =
    sym (lookup-shown key.items kept) ∙ (λ i. watch_of (c.self.view_is i).1 (c.into_vec.ensures i)) ∙ c.requires.free in
    let order = ap (λ (o : Roomy). o.0) c.put.ensures ∙ ap (λ (numbers : List ℕ). with_number numbers made) c.in_ok-reserve.ensures.numbers
    ∙ with-last inside.order.0 made c.self.invariant.below in
    let ws = ap shown (c.in_ok-insert.ensures.entries ∙ insert_entry-new _ inside.watches key c.args.watch none)
    ∙ shown-append kept ((key, c.args.watch) ∷ []) in
    (λ i. seen_in (order i) (ws i) n)
    ∙ seen-added key.items c.args.watch made n inside.order.0 (shown kept)
    (in-order inside.order inside.stale made kept c.self.invariant).as_many c.self.invariant.below
    ∙ ap (λ (roll : Rolled). cond (nat_eq made n) c.args.watch.observations (seen_by roll n)) c.self.view_is

pub returns-clause-unseen : goal.returns-clause-unseen
returns-clause-unseen c =
    let inside = c.self.inside in
    sym (ap (λ (roll : Rolled). seen_by roll inside.made) c.self.view_is)
    ∙ seen-above inside.made inside.order.0 (shown inside.watches.entries) c.self.invariant.below

pub returns-clause-order : goal.returns-clause-order
returns-clause-order c = in-order c.put.new.self c.reserve-2.new.self (c.self.inside.made + 1) c.insert.new.self.entries (invariant_of-self-2 c)
