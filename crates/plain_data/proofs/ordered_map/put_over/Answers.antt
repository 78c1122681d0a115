use Rattle.std.proofs.Common.{◌≡◌, ◌<◌, List, length, Some, is_some, sym, ap, ◌∙◌, subst}
use Rattle.std.specs.List.{slice_get}
use Rattle.std.specs.Map.{keys_of}
use Rattle.std.specs.List.Sorted.{IsStrictlySortedBy}
use Rattle.std.proofs.lemmas.Map.Entries.{lookup_at_gap}
use Rattle.plain_data.proofs.Entries.{Below, insert_entry-hit, lookup-hit, sorted-insert_entry, get-within, less, unequal}
use Rattle.plain_data.proofs.ordered_map.put_over.Goals as goal

pub returns-then-holds_at-clause-found : goal.returns-then-holds_at-clause-found
returns-then-holds_at-clause-found g c =
    let R = g.K.Ord.cmp in
    let es = c.args.entries.now.items in
    let i = c.place_of-place.result in
    let e = c.index_mut.result.now in
    let lower = subst (λ (xs : List (g.row.K.Denot × g.row.V.Denot)). Below R g.met.K.Ord.total c.args.key.now xs i) c.as_slice.ensures.value
    c.place_of-place.ensures.below in
    let within : i < length es = subst (λ (xs : List (g.row.K.Denot × g.row.V.Denot)). i < length xs) c.as_slice-2.ensures.value c.if-holds_at.ensures.within in
    let here : slice_get es i ≡ Some e = get-within es i e within ∙ ap (λ p. Some p) (sym c.index_mut.ensures.value) in
    sym (ap is_some (lookup-hit R g.met.K.Ord.total c.args.key.now es i e lower here
    (c.if-holds_at.ensures.yes e (ap (λ xs. slice_get xs i) c.as_slice-2.ensures.value ∙ here))))

pub returns-then-holds_at-clause-there : goal.returns-then-holds_at-clause-there
returns-then-holds_at-clause-there g c =
    let R = g.K.Ord.cmp in
    let es = c.args.entries.now.items in
    let i = c.place_of-place.result in
    let e = c.index_mut.result.now in
    let lower = subst (λ (xs : List (g.row.K.Denot × g.row.V.Denot)). Below R g.met.K.Ord.total c.args.key.now xs i) c.as_slice.ensures.value
    c.place_of-place.ensures.below in
    let within : i < length es = subst (λ (xs : List (g.row.K.Denot × g.row.V.Denot)). i < length xs) c.as_slice-2.ensures.value c.if-holds_at.ensures.within in
    let here : slice_get es i ≡ Some e = get-within es i e within ∙ ap (λ p. Some p) (sym c.index_mut.ensures.value) in
    insert_entry-hit R g.met.K.Ord.total c.args.key.now c.args.value es i e lower here
    (c.if-holds_at.ensures.yes e (ap (λ xs. slice_get xs i) c.as_slice-2.ensures.value ∙ here))

pub returns-clause-found : goal.returns-clause-found
returns-clause-found g c =
    let R = g.K.Ord.cmp in
    let es = c.args.entries.now.items in
    let i = c.place_of-place.result in
    let lower = subst (λ (xs : List (g.row.K.Denot × g.row.V.Denot)). Below R g.met.K.Ord.total c.args.key.now xs i) c.as_slice.ensures.value
    c.place_of-place.ensures.below in
    sym (ap is_some (lookup_at_gap g.met.K.Ord.total c.args.key.now es i c.requires lower
    (λ e here. less (R c.args.key.now e.0)
    (c.place_of-place.ensures.reached e (ap (λ xs. slice_get xs i) c.as_slice.ensures.value ∙ here))
    (unequal _ (c.if-holds_at.ensures.no e (ap (λ xs. slice_get xs i) c.as_slice-2.ensures.value ∙ here))))))

pub returns-then-holds_at-clause-rising : goal.returns-then-holds_at-clause-rising
returns-then-holds_at-clause-rising g c =
    let R = g.K.Ord.cmp in
    subst (λ (xs : List (g.row.K.Denot × g.row.V.Denot)). IsStrictlySortedBy R (keys_of xs)) (sym (returns-then-holds_at-clause-there g c))
    (sorted-insert_entry R g.met.K.Ord.total c.args.key.now c.args.value c.args.entries.now.items c.requires)
