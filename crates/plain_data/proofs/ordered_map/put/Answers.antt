use Rattle.std.proofs.Common.{◌≡◌, ◌<◌, List, length, Some, sym, ap, ◌∙◌, subst}
use Rattle.std.specs.List.{slice_get}
use Rattle.std.specs.Map.{keys_of}
use Rattle.std.specs.List.Sorted.{IsStrictlySortedBy}
use Rattle.plain_data.proofs.Entries.{Below, insert_entry-hit, insert_entry-gap, sorted-insert_entry, get-within, less, unequal}
use Rattle.plain_data.proofs.ordered_map.put.Goals as goal

pub returns-then-holds_at-clause-ok : goal.returns-then-holds_at-clause-ok
returns-then-holds_at-clause-ok g c =
    let R = g.K.Ord.cmp in
    let es = c.args.entries.now.items in
    let i = c.place_of-place.result in
    let e = c.index_mut.result.now in
    let lower = subst (λ (xs : List (g.row.K.Denot × g.row.V.Denot)). Below R g.met.K.Ord.total c.args.key xs i) c.as_slice.ensures.value
    c.place_of-place.ensures.below in
    let within : i < length es = subst (λ (xs : List (g.row.K.Denot × g.row.V.Denot)). i < length xs) c.as_slice-2.ensures.value c.if-holds_at.ensures.within in
    let here : slice_get es i ≡ Some e = get-within es i e within ∙ ap (λ p. Some p) (sym c.index_mut.ensures.value) in
    insert_entry-hit R g.met.K.Ord.total c.args.key c.args.value es i e lower here
    (c.if-holds_at.ensures.yes e (ap (λ xs. slice_get xs i) c.as_slice-2.ensures.value ∙ here))

pub returns-clause-ok : goal.returns-clause-ok
returns-clause-ok g c =
    let R = g.K.Ord.cmp in
    let es = c.args.entries.now.items in
    let i = c.place_of-place.result in
    let lower = subst (λ (xs : List (g.row.K.Denot × g.row.V.Denot)). Below R g.met.K.Ord.total c.args.key xs i) c.as_slice.ensures.value
    c.place_of-place.ensures.below in
    c.in_ok-insert.ensures.items
    ∙ insert_entry-gap R g.met.K.Ord.total c.args.key c.args.value es i lower
    (λ e here. less (R c.args.key e.0)
    (c.place_of-place.ensures.reached e (ap (λ xs. slice_get xs i) c.as_slice.ensures.value ∙ here))
    (unequal _ (c.if-holds_at.ensures.no e (ap (λ xs. slice_get xs i) c.as_slice-2.ensures.value ∙ here))))

pub returns-then-holds_at-clause-rising : goal.returns-then-holds_at-clause-rising
returns-then-holds_at-clause-rising g c =
    let R = g.K.Ord.cmp in
    subst (λ (xs : List (g.row.K.Denot × g.row.V.Denot)). IsStrictlySortedBy R (keys_of xs)) (sym (returns-then-holds_at-clause-ok g c))
    (sorted-insert_entry R g.met.K.Ord.total c.args.key c.args.value c.args.entries.now.items c.requires)

pub returns-clause-rising : goal.returns-clause-rising
returns-clause-rising g c =
    let R = g.K.Ord.cmp in
    subst (λ (xs : List (g.row.K.Denot × g.row.V.Denot)). IsStrictlySortedBy R (keys_of xs)) (sym (returns-clause-ok g c))
    (sorted-insert_entry R g.met.K.Ord.total c.args.key c.args.value c.args.entries.now.items c.requires)
