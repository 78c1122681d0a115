use Rattle.std.proofs.Common.{◌≡◌, ◌<◌, length, sym, ap, ◌∙◌, arith}
use Rattle.rdt_types.specs.Addresses.{address_cmp}
use Rattle.rdt_types.proofs.Addresses.{address_cmp-equal}
use Rattle.rerun_driver.specs.Watches.{is_observed_by}
use Rattle.rerun_driver.proofs.Links.{not-ordered, observed-from, drop-past}
use Rattle.rerun_driver.proofs.touching.are_where.Goals as goal

pub loop-place-preserved : goal.loop-place-preserved
loop-place-preserved c behind =
    let place = c.loop-place.place in
    let seen = c.index-observations-place.result in
    let earlier = c.index-before-place.result in
    let in_before : place < length c.args.before.now = c.loop-place-test.true in
    let in_observations : place < length c.args.observations.now = (let same = c.if-observations-before.false in omega arith) in
    let compared : c.cmp.result ≡ address_cmp seen.address earlier.address =
    c.cmp.ensures ∙ (λ i. address_cmp (sym c.index-observations-place.is i).address (sym c.index-before-place.is i).address) in
    c.loop-place.invariant (observed-from c.args.observations.now c.args.before.now place seen earlier in_observations in_before
    (sym c.index-observations-place.is) (sym c.index-before-place.is)
    (address_cmp-equal seen.address earlier.address (sym compared ∙ not-ordered c.cmp.result (sym c.is_ne.ensures ∙ c.if-is_ne.false)))
    behind)

pub returns : goal.returns
returns c =
    c.loop-place.invariant (λ a. ap (is_observed_by a)
    (drop-past c.args.observations.now c.loop-place.place (let same = c.if-observations-before.false in let past = c.loop-place-test.false in omega arith)
    ∙ sym (drop-past c.args.before.now c.loop-place.place (let past = c.loop-place-test.false in omega arith))))
