use Rattle.std.proofs.Common.{◌≡◌, ◌+◌, ◌∷◌, ◌||◌, [], true, drop, sym, ap, ◌∙◌, subst, arith}
use Rattle.std.specs.Map.{keys_of}
use Rattle.std.specs.List.Sorted.{IsStrictlySortedBy}
use Rattle.std.proofs.Math.ListN.{drop_of_length-le}
use Rattle.std.proofs.lemmas.List.{drop_more}
use Rattle.rdt_types.specs.declared.address.Address.{Address}
use Rattle.rdt_types.specs.declared.delta.Delta.{Delta}
use Rattle.rdt_types.specs.Addresses.{address_cmp}
use Rattle.rdt_types.specs.DeltaMaps.{Deltas}
use Rattle.journal_core.specs.Holds.{disturbs_some}
use Rattle.hold_core.specs.Books.{met_in}
use Rattle.hold_core.proofs.Singly.{disturbs-cons, disturbs-none, above-first, behind-first, met-cons}
use Rattle.hold_core.proofs.watched.is_hit_by_some.Goals as goal

pub returns-then-is_hit-clause-disturbs : goal.returns-then-is_hit-clause-disturbs
returns-then-is_hit-clause-disturbs g c =
    let seen = c.args.hold.now.observations in
    let i = c.loop-address.address-index in
    let pair : Address × Delta = c.loop-address-item.result in
    let rest : Deltas = drop (i + 1) c.args.deltas.now in
    let left = drop_more c.args.deltas.now i pair (omega (arith, c.loop-address-test.true))
    ∙ ap (λ (p : Address × Delta). p ∷ rest) (sym c.loop-address-item.is) in
    let first : disturbs_some (pair ∷ []) seen ≡ true = sym c.is_hit.ensures.disturbs ∙ c.if-is_hit.true in
    sym (ap (λ b. b || disturbs_some rest seen) first)
    ∙ sym (disturbs-cons pair rest seen)
    ∙ sym (ap (λ (ds : Deltas). disturbs_some ds seen) left)
    ∙ c.loop-address.invariant.same

pub returns-then-is_hit-clause-steps : goal.returns-then-is_hit-clause-steps
returns-then-is_hit-clause-steps g c =
    let seen = c.args.hold.now.observations in
    let i = c.loop-address.address-index in
    let pair : Address × Delta = c.loop-address-item.result in
    let rest : Deltas = drop (i + 1) c.args.deltas.now in
    let left = drop_more c.args.deltas.now i pair (omega (arith, c.loop-address-test.true))
    ∙ ap (λ (p : Address × Delta). p ∷ rest) (sym c.loop-address-item.is) in
    let rising = subst (λ (ds : Deltas). IsStrictlySortedBy address_cmp (keys_of ds)) left c.loop-address.invariant.rising in
    let all = ap (λ (ds : Deltas). met_in ds seen) left in
    omega (arith, c.is_hit.ensures.steps, met-cons pair rest seen (above-first pair rest rising), all, c.loop-address.invariant.steps)

pub loop-address-preserved : goal.loop-address-preserved
loop-address-preserved g c =
    let seen = c.args.hold.now.observations in
    let i = c.loop-address.address-index in
    let pair : Address × Delta = c.loop-address-item.result in
    let rest : Deltas = drop (i + 1) c.args.deltas.now in
    let left = drop_more c.args.deltas.now i pair (omega (arith, c.loop-address-test.true))
    ∙ ap (λ (p : Address × Delta). p ∷ rest) (sym c.loop-address-item.is) in
    let rising = subst (λ (ds : Deltas). IsStrictlySortedBy address_cmp (keys_of ds)) left c.loop-address.invariant.rising in
    let all = ap (λ (ds : Deltas). met_in ds seen) left in
    record {
      rising = behind-first pair rest rising;
      same = sym (ap (λ b. b || disturbs_some rest seen) (sym c.is_hit.ensures.disturbs ∙ c.if-is_hit.false))
          ∙ sym (disturbs-cons pair rest seen)
          ∙ sym (ap (λ (ds : Deltas). disturbs_some ds seen) left)
          ∙ c.loop-address.invariant.same;
      steps = omega (arith, c.is_hit.ensures.steps, met-cons pair rest seen (above-first pair rest rising), all, c.loop-address.invariant.steps);
    }

pub returns-clause-disturbs : goal.returns-clause-disturbs
returns-clause-disturbs g c =
    let seen = c.args.hold.now.observations in
    sym (ap (λ (ds : Deltas). disturbs_some ds seen) (drop_of_length-le c.args.deltas.now c.loop-address-test.false) ∙ disturbs-none seen)
    ∙ c.loop-address.invariant.same
