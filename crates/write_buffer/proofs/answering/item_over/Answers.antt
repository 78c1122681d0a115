use Rattle.std.proofs.Common.{◌≡◌, ◌++◌, nat_eq, not, true, Ok, Err, slice_get, sym, ◌∙◌, ap}
use Rattle.conflict_table.proofs.Keys.{empty-has_some}
use Rattle.std.specs.FinMap as fin
use Rattle.write_buffer.specs.code.Kept.{kept_from}
use Rattle.write_buffer.proofs.Over.{whole_list, kept_place, kept_or}
use Rattle.write_buffer.proofs.answering.item_over.Goals as goal

pub returns-then-is_empty : goal.returns-then-is_empty
returns-then-is_empty c =
    let d = c.args.d.now in
    let counted : nat_eq (fin.len c.removed.result.now) 0 ≡ true = sym c.is_empty.ensures ∙ c.if-is_empty.true in
    let none : d.removed ≡ fin.empty = empty-has_some d.removed (ap (λ m. not (nat_eq (fin.len m) 0)) (sym c.removed.ensures.removed) ∙ ap not counted) in
    let list = whole_list d c.args.items.now (sym c.if-cleared.ensures) none in
    c.item_in_two.ensures ∙ ap (λ ys. slice_get (c.args.items.now ++ ys) c.args.place) c.pushed-then-is_empty.ensures.pushed
    ∙ ap (λ xs. slice_get xs c.args.place) (sym list)

pub returns-in-Ok : goal.returns-in-Ok
returns-in-Ok c =
    let d = c.args.d.now in
    let found : kept_from d.removed c.args.items.now c.args.place ≡ Ok c.in-Ok.item.now =
    ap (λ r. kept_from r c.args.items.now c.args.place) (sym c.removed-2.ensures.removed) ∙ c.in-Ok.ensures.found in
    sym (kept_place d c.args.items.now c.args.place (sym c.if-cleared.ensures) ∙ ap (λ r. kept_or r d.pushed) found)

pub returns-in-Err : goal.returns-in-Err
returns-in-Err c =
    let d = c.args.d.now in
    let found : kept_from d.removed c.args.items.now c.args.place ≡ Err c.in-Err.left =
    ap (λ r. kept_from r c.args.items.now c.args.place) (sym c.removed-2.ensures.removed) ∙ c.in-Err.ensures.behind in
    c.get-in-Err.ensures ∙ ap (λ ys. slice_get ys c.in-Err.left) c.pushed-in-Err.ensures.pushed
    ∙ sym (kept_place d c.args.items.now c.args.place (sym c.if-cleared.ensures) ∙ ap (λ r. kept_or r d.pushed) found)
