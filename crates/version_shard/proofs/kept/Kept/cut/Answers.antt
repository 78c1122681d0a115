use Rattle.std.proofs.Common.{is_some, refl, sym, ap, ◌∙◌, subst}
use Rattle.std.specs.BTreeMap.{is_at}
use Rattle.std.specs.Map.{lookup}
use Rattle.std.specs.Ordering.{nat_cmp, is_eq}
use Rattle.rdt_types.specs.Addresses.{address_cmp}
use Rattle.version_shard.specs.declared.kept.Own.{Own}
use Rattle.version_shard.specs.Versions.{up_to}
use Rattle.version_shard.specs.Shards.{Kept}
use Rattle.version_shard.specs.code.Marks.{mark_of, kept_by}
use Rattle.version_shard.proofs.Keeping.{IsCut, put_one, cut_nowhere}
use Rattle.version_shard.proofs.Marks.{IsPutAt, apart, alike, own_at, not-own, written-back, same-kept}
use Rattle.version_shard.proofs.Marks.{versions-other, versions-own, nowhere, put-other, put-found}
use Rattle.version_shard.proofs.kept.Kept.cut.Goals as goal

pub returns-in-Some : goal.returns-in-Some
returns-in-Some c =
    let k = c.args.address.now in
    let others = c.self.inside.others.entries in
    let marked = c.self.inside.marked.entries in
    let put = c.cut.new.self in
    let new = (c.get_mut.follows.lender put).entries in
    subst (λ (old : Kept). IsCut old (kept_by new marked) k c.args.number) c.self.view_is
    (put_one (kept_by others marked) (kept_by new marked) k (up_to c.args.number) put
    (put-other others new marked k put ((c.get_mut.follows.holds put).3 (ap is_some (sym c.in-Some.ensures.value))).0)
    (c.cut.ensures ∙ ap (up_to c.args.number) (versions-other others marked k c.in-Some.versions.now c.in-Some.ensures.value)))

pub returns-in_default-get_mut : goal.returns-in_default-get_mut
returns-in_default-get_mut c =
    let k = c.args.address.now in
    let others = c.self.inside.others.entries in
    let marked = c.self.inside.marked.entries in
    subst (λ (new : Kept). IsCut c.args.self.now new k c.args.number)
    (sym (same-kept others c.get_mut.follows.lender-at-none.entries marked c.get_mut-2.follows.lender-at-none.entries
    (ap (λ m. m.entries) c.get_mut.follows.holds-at-none)
    (ap (λ m. m.entries) c.get_mut-2.follows.holds-at-none) ∙ c.self.view_is))
    (cut_nowhere c.args.self.now k c.args.number
    (sym (ap (lookup (is_at (address_cmp k))) (sym c.self.view_is)
    ∙ nowhere others marked k c.self.invariant c.in_default.ensures.value
    (ap (own_at k) (sym (c.in_default-get_mut.ensures.value ∙ ap (λ m. lookup (is_at (nat_cmp m)) marked) c.mark_of.ensures))))))

pub returns-then-is_ne : goal.returns-then-is_ne
returns-then-is_ne c =
    let k = c.args.address.now in
    let others = c.self.inside.others.entries in
    let marked = c.self.inside.marked.entries in
    let own = c.in-Some-get_mut.own.now in
    subst (λ (new : Kept). IsCut c.args.self.now new k c.args.number)
    (sym (same-kept others c.get_mut.follows.lender-at-none.entries marked (c.get_mut-2.follows.lender own).entries
    (ap (λ m. m.entries) c.get_mut.follows.holds-at-none)
    (written-back (is_at (nat_cmp c.mark_of.result)) marked (c.get_mut-2.follows.lender own).entries c.in-Some-get_mut.own.now own
    (c.get_mut-2.follows.holds own).0 c.in-Some-get_mut.ensures.value refl) ∙ c.self.view_is))
    (cut_nowhere c.args.self.now k c.args.number
    (sym (ap (lookup (is_at (address_cmp k))) (sym c.self.view_is)
    ∙ nowhere others marked k c.self.invariant c.in_default.ensures.value
    (not-own k own _ (c.in-Some-get_mut.ensures.value ∙ ap (λ m. lookup (is_at (nat_cmp m)) marked) c.mark_of.ensures)
    (ap is_eq (sym c.cmp.ensures) ∙ apart c.cmp.result (sym c.is_ne.ensures ∙ c.if-is_ne.true))))))

pub returns : goal.returns
returns c =
    let k = c.args.address.now in
    let others = c.self.inside.others.entries in
    let marked = c.self.inside.marked.entries in
    let own = c.in-Some-get_mut.own.now in
    let put : Own = record { address = own.address; versions = c.cut-2.new.self } in
    let new = (c.get_mut-2.follows.lender put).entries in
    let there = c.in-Some-get_mut.ensures.value ∙ ap (λ m. lookup (is_at (nat_cmp m)) marked) c.mark_of.ensures in
    let same = ap is_eq (sym c.cmp.ensures) ∙ alike c.cmp.result (sym c.is_ne.ensures ∙ c.if-is_ne.false) in
    let puts : IsPutAt marked new (mark_of k) put =
    subst (λ m. IsPutAt marked new m put) c.mark_of.ensures ((c.get_mut-2.follows.holds put).3 (ap is_some (sym c.in-Some-get_mut.ensures.value))).0 in
    subst (λ (o : Kept). IsCut c.args.self.now (kept_by o new) k c.args.number) (sym (ap (λ m. m.entries) c.get_mut.follows.holds-at-none))
    (subst (λ (old : Kept). IsCut old (kept_by others new) k c.args.number) c.self.view_is
    (put_one (kept_by others marked) (kept_by others new) k (up_to c.args.number) put.versions
    (put-found others marked k own c.self.invariant c.in_default.ensures.value there same new put.versions (c.get_mut-2.follows.holds put).4 puts)
    (c.cut-2.ensures ∙ ap (up_to c.args.number) (versions-own others marked k own c.self.invariant c.in_default.ensures.value there same))))
