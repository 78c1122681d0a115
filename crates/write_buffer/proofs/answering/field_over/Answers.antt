use Rattle.std.proofs.Common.{◌≡◌, Some, None, true, false, sym, ◌∙◌, ap}
use Rattle.std.specs.FinMap as fin
use Rattle.rdt_types.specs.Marks.{put_by}
use Rattle.rdt_types.specs.declared.mark.Mark.TheVariants as mark
use Rattle.rdt_types.specs.Values.{hash_in}
use Rattle.write_buffer.proofs.Over.{get-applied}
use Rattle.write_buffer.proofs.answering.field_over.Goals as goal

pub returns-in-Some-Put : goal.returns-in-Some-Put
returns-in-Some-Put c =
    let found : Some c.in-Some-Put.field-0.now ≡ fin.get c.args.d.now.marks c.args.field.now =
    c.in-Some-Put.ensures ∙ ap (λ m. fin.get m c.args.field.now) c.marks.ensures.marks in
    let put : fin.get c.args.d.now.marks c.args.field.now ≡ Some (mark.Put c.in-Some-Put.text) = sym found ∙ ap (λ m. Some m) c.in-Some-Put.field-0-is in
    sym (get-applied put_by c.args.d.now (hash_in c.args.value.now) c.args.field.now _ _ put (λ i. c.args.d.now.cleared))

pub returns-in-Some-Removed : goal.returns-in-Some-Removed
returns-in-Some-Removed c =
    let found : Some c.in-Some-Removed.field-0.now ≡ fin.get c.args.d.now.marks c.args.field.now =
    c.in-Some-Removed.ensures ∙ ap (λ m. fin.get m c.args.field.now) c.marks.ensures.marks in
    let removed : fin.get c.args.d.now.marks c.args.field.now ≡ Some mark.Removed = sym found ∙ ap (λ m. Some m) c.in-Some-Removed.field-0-is in
    sym (get-applied put_by c.args.d.now (hash_in c.args.value.now) c.args.field.now _ _ removed (λ i. c.args.d.now.cleared))

pub returns-then-cleared : goal.returns-then-cleared
returns-then-cleared c =
    let none : None ≡ fin.get c.args.d.now.marks c.args.field.now = c.in-None.ensures ∙ ap (λ m. fin.get m c.args.field.now) c.marks.ensures.marks in
    sym (get-applied put_by c.args.d.now (hash_in c.args.value.now) c.args.field.now None true (sym none) (sym c.if-cleared.ensures))

pub returns-else-cleared : goal.returns-else-cleared
returns-else-cleared c =
    let none : None ≡ fin.get c.args.d.now.marks c.args.field.now = c.in-None.ensures ∙ ap (λ m. fin.get m c.args.field.now) c.marks.ensures.marks in
    c.field_in.ensures ∙ sym (get-applied put_by c.args.d.now (hash_in c.args.value.now) c.args.field.now None false (sym none) (sym c.if-cleared.ensures))
