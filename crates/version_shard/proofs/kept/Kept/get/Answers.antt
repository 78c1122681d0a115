use Rattle.std.proofs.Common.{sym, ap, ◌∙◌}
use Rattle.std.specs.BTreeMap.{is_at}
use Rattle.std.specs.Map.{lookup}
use Rattle.std.specs.Ordering.{nat_cmp, is_eq}
use Rattle.rdt_types.specs.Addresses.{address_cmp}
use Rattle.version_shard.proofs.Marks.{apart, alike, own_at, not-own, others-first, nowhere, found-at}
use Rattle.version_shard.proofs.kept.Kept.get.Goals as goal

pub returns-in-Some : goal.returns-in-Some
returns-in-Some c =
    others-first c.self.inside.others.entries c.self.inside.marked.entries c.args.address.now c.in-Some.versions.now c.in-Some.ensures.value
    ∙ ap (lookup (is_at (address_cmp c.args.address.now))) c.self.view_is

pub returns-in_default-get : goal.returns-in_default-get
returns-in_default-get c =
    let a = c.args.address.now in
    let marked = c.self.inside.marked.entries in
    sym (nowhere c.self.inside.others.entries marked a c.self.invariant c.in_default.ensures.value
    (ap (own_at a) (sym (c.in_default-get.ensures.value ∙ ap (λ m. lookup (is_at (nat_cmp m)) marked) c.mark_of.ensures))))
    ∙ ap (lookup (is_at (address_cmp a))) c.self.view_is

pub returns-then-is_ne : goal.returns-then-is_ne
returns-then-is_ne c =
    let a = c.args.address.now in
    let marked = c.self.inside.marked.entries in
    sym (nowhere c.self.inside.others.entries marked a c.self.invariant c.in_default.ensures.value
    (not-own a c.in-Some-get.own.now (lookup (is_at (nat_cmp _)) marked)
    (c.in-Some-get.ensures.value ∙ ap (λ m. lookup (is_at (nat_cmp m)) marked) c.mark_of.ensures)
    (ap is_eq (sym c.cmp.ensures) ∙ apart c.cmp.result (sym c.is_ne.ensures ∙ c.if-is_ne.true))))
    ∙ ap (lookup (is_at (address_cmp a))) c.self.view_is

pub returns : goal.returns
returns c =
    let a = c.args.address.now in
    let marked = c.self.inside.marked.entries in
    found-at c.self.inside.others.entries marked a c.in-Some-get.own.now c.self.invariant c.in_default.ensures.value
    (c.in-Some-get.ensures.value ∙ ap (λ m. lookup (is_at (nat_cmp m)) marked) c.mark_of.ensures)
    (ap is_eq (sym c.cmp.ensures) ∙ alike c.cmp.result (sym c.is_ne.ensures ∙ c.if-is_ne.false))
    ∙ ap (lookup (is_at (address_cmp a))) c.self.view_is
