use Rattle.std.proofs.Common.{◌≡◌, None, Some, sym, ap, ◌∙◌}
use Rattle.std.proofs.lemmas.Map.Entries.{lookup_at_gap}
use Rattle.plain_data.proofs.Entries.{lookup-hit, less}
use Rattle.plain_data.proofs.ordered_map.halved.Goals as goal

pub returns-in-None-clause-value : goal.returns-in-None-clause-value
returns-in-None-clause-value g c =
    sym (lookup_at_gap g.met.K.Ord.total c.args.key.now c.args.entries.now c.place_of-place.result c.requires c.place_of-place.ensures.below
    (λ e here. let h : None ≡ Some e = c.in-None.ensures ∙ here in absurd (cc)))

pub returns-in-Equal-clause-value : goal.returns-in-Equal-clause-value
returns-in-Equal-clause-value g c =
    sym (lookup-hit g.K.Ord.cmp g.met.K.Ord.total c.args.key.now c.args.entries.now c.place_of-place.result c.in-Some.pair.now
    c.place_of-place.ensures.below (sym c.in-Some.ensures) (sym c.in-Equal.ensures))

pub returns-in_default-clause-value : goal.returns-in_default-clause-value
returns-in_default-clause-value g c =
    let R = g.K.Ord.cmp in
    let k = c.args.key.now in
    sym (lookup_at_gap g.met.K.Ord.total k c.args.entries.now c.place_of-place.result c.requires c.place_of-place.ensures.below
    (λ e here.
    let h : Some c.in-Some.pair.now ≡ Some e = c.in-Some.ensures ∙ here in
    let is : c.in-Some.pair.now ≡ e = (let k : h ≡ h = λ i. h in cc h) in
    less (R k e.0) (c.place_of-place.ensures.reached e here) (λ f. c.in_default.not-Equal (c.cmp.ensures ∙ (ap (λ p. R k p.0) is ∙ f)))))
