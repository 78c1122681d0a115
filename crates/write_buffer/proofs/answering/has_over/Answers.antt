use Rattle.std.proofs.Common.{◌≡◌, Some, None, true, false, sym, ◌∙◌, ap}
use Rattle.std.specs.FinMap as fin
use Rattle.rdt_types.specs.Values.{set_in}
use Rattle.write_buffer.proofs.Over.{has-marked, has-unmarked}
use Rattle.write_buffer.proofs.answering.has_over.Goals as goal

pub returns-in-Some : goal.returns-in-Some
returns-in-Some c =
    let found : Some c.in-Some.added.now ≡ fin.get c.args.d.now.marks c.args.element.now =
    c.in-Some.ensures ∙ ap (λ m. fin.get m c.args.element.now) c.marks.ensures.marks in
    sym (has-marked c.args.d.now (set_in c.args.value.now) c.args.element.now c.in-Some.added.now (sym found))

pub returns-then-cleared : goal.returns-then-cleared
returns-then-cleared c =
    let none : None ≡ fin.get c.args.d.now.marks c.args.element.now = c.in-None.ensures ∙ ap (λ m. fin.get m c.args.element.now) c.marks.ensures.marks in
    sym (has-unmarked c.args.d.now (set_in c.args.value.now) c.args.element.now true (sym none) (sym c.if-cleared.ensures))

pub returns-else-cleared : goal.returns-else-cleared
returns-else-cleared c =
    let none : None ≡ fin.get c.args.d.now.marks c.args.element.now = c.in-None.ensures ∙ ap (λ m. fin.get m c.args.element.now) c.marks.ensures.marks in
    c.has_element.ensures ∙ sym (has-unmarked c.args.d.now (set_in c.args.value.now) c.args.element.now false (sym none) (sym c.if-cleared.ensures))
