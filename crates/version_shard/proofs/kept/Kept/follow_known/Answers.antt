use Rattle.std.proofs.Common.{◌≡◌, ◌≤◌, true, is_some, refl, sym, ap, ◌∙◌, subst}
use Rattle.std.specs.BTreeMap.{is_at}
use Rattle.std.specs.List.{AllByRecursion}
use Rattle.std.specs.Map.{lookup}
use Rattle.std.specs.Ordering.{nat_cmp, is_eq}
use Rattle.rdt_types.specs.Addresses.{address_cmp}
use Rattle.version_shard.specs.declared.kept.Own.{Own}
use Rattle.version_shard.specs.Versions.{Versioned}
use Rattle.version_shard.specs.Shards.{Kept, versions_of}
use Rattle.version_shard.specs.code.Marks.{mark_of, IsPut, HasFollowed, changed_by, kept_by}
use Rattle.version_shard.proofs.Keeping.{on_err}
use Rattle.version_shard.proofs.Marks.{IsPutAt, apart, alike, own_at, not-own, written-back, same-kept}
use Rattle.version_shard.proofs.Marks.{versions-other, versions-own, nowhere, put-other, put-found}
use Rattle.version_shard.proofs.kept.Kept.follow_known.Goals as goal

pub change-requires : goal.change-requires
change-requires c =
    let k = c.args.change.now.address in
    let others = c.self.inside.others.entries in
    let marked = c.self.inside.marked.entries in
    subst (λ (v : Versioned). AllByRecursion (λ version. version.number ≤ c.args.change.now.number) v.later)
    (sym (versions-other others marked k c.in-Some.versions.now c.in-Some.ensures.value ∙ ap (λ (m : Kept). versions_of m k) c.self.view_is)) c.requires

pub returns-in_err-change-clause-err : goal.returns-in_err-change-clause-err
returns-in_err-change-clause-err c =
    let k = c.args.change.now.address in
    let others = c.self.inside.others.entries in
    let marked = c.self.inside.marked.entries in
    let new = c.change.new.self in
    on_err c.from_residual.result _
    (ap (λ (o : Kept). kept_by o marked)
    (written-back (is_at (address_cmp k)) others (c.get_mut.follows.lender new).entries c.in-Some.versions.now new (c.get_mut.follows.holds new).0
    c.in-Some.ensures.value c.in_err-change.ensures.err)
    ∙ c.self.view_is)

pub returns-in-Some-clause-ok : goal.returns-in-Some-clause-ok
returns-in-Some-clause-ok c =
    let k = c.args.change.now.address in
    let others = c.self.inside.others.entries in
    let marked = c.self.inside.marked.entries in
    let put = c.change.new.self in
    let new = (c.get_mut.follows.lender put).entries in
    subst (λ (old : Kept). HasFollowed old (kept_by new marked) c.args.change.now c.args.horizon true) c.self.view_is
    (subst (λ (v : Versioned). IsPut (kept_by others marked) (kept_by new marked) k v)
    (c.in_ok-change.ensures.ok
    ∙ ap (changed_by c.args.change.now c.args.horizon) (versions-other others marked k c.in-Some.versions.now c.in-Some.ensures.value))
    (put-other others new marked k put ((c.get_mut.follows.holds put).3 (ap is_some (sym c.in-Some.ensures.value))).0))

pub returns-in_default-get_mut-clause-ok : goal.returns-in_default-get_mut-clause-ok
returns-in_default-get_mut-clause-ok c =
    let k = c.args.change.now.address in
    let others = c.self.inside.others.entries in
    let marked = c.self.inside.marked.entries in (
      same-kept others c.get_mut.follows.lender-at-none.entries marked c.get_mut-2.follows.lender-at-none.entries
          (ap (λ m. m.entries) c.get_mut.follows.holds-at-none)
          (ap (λ m. m.entries) c.get_mut-2.follows.holds-at-none) ∙ c.self.view_is,
      ap (lookup (is_at (address_cmp k))) (sym c.self.view_is)
          ∙ nowhere others marked k c.self.invariant c.in_default.ensures.value
          (ap (own_at k) (sym (c.in_default-get_mut.ensures.value ∙ ap (λ m. lookup (is_at (nat_cmp m)) marked) c.mark_of.ensures))),
    )

pub returns-then-is_ne-clause-ok : goal.returns-then-is_ne-clause-ok
returns-then-is_ne-clause-ok c =
    let k = c.args.change.now.address in
    let others = c.self.inside.others.entries in
    let marked = c.self.inside.marked.entries in
    let own = c.in-Some-get_mut.own.now in (
      same-kept others c.get_mut.follows.lender-at-none.entries marked (c.get_mut-2.follows.lender own).entries
          (ap (λ m. m.entries) c.get_mut.follows.holds-at-none)
          (written-back (is_at (nat_cmp c.mark_of.result)) marked (c.get_mut-2.follows.lender own).entries c.in-Some-get_mut.own.now own
          (c.get_mut-2.follows.holds own).0 c.in-Some-get_mut.ensures.value refl) ∙ c.self.view_is,
      ap (lookup (is_at (address_cmp k))) (sym c.self.view_is)
          ∙ nowhere others marked k c.self.invariant c.in_default.ensures.value
          (not-own k own _ (c.in-Some-get_mut.ensures.value ∙ ap (λ m. lookup (is_at (nat_cmp m)) marked) c.mark_of.ensures)
          (ap is_eq (sym c.cmp.ensures) ∙ apart c.cmp.result (sym c.is_ne.ensures ∙ c.if-is_ne.true))),
    )

pub change-requires-2 : goal.change-requires-2
change-requires-2 c =
    let k = c.args.change.now.address in
    let others = c.self.inside.others.entries in
    let marked = c.self.inside.marked.entries in
    subst (λ (v : Versioned). AllByRecursion (λ version. version.number ≤ c.args.change.now.number) v.later)
    (sym (versions-own others marked k c.in-Some-get_mut.own.now c.self.invariant c.in_default.ensures.value
    (c.in-Some-get_mut.ensures.value ∙ ap (λ m. lookup (is_at (nat_cmp m)) marked) c.mark_of.ensures)
    (ap is_eq (sym c.cmp.ensures) ∙ alike c.cmp.result (sym c.is_ne.ensures ∙ c.if-is_ne.false))
    ∙ ap (λ (m : Kept). versions_of m k) c.self.view_is)) c.requires

pub returns-in_err-change-2-clause-err : goal.returns-in_err-change-2-clause-err
returns-in_err-change-2-clause-err c =
    let k = c.args.change.now.address in
    let others = c.self.inside.others.entries in
    let marked = c.self.inside.marked.entries in
    let own : Own = record { address = c.in-Some-get_mut.own.now.address; versions = c.change-2.new.self } in
    let back : own ≡ c.in-Some-get_mut.own.now =
    ap (λ (v : Versioned). record { address = c.in-Some-get_mut.own.now.address; versions = v }) c.in_err-change-2.ensures.err in
    on_err c.from_residual-in_err-change-2.result _
    (same-kept others c.get_mut.follows.lender-at-none.entries marked (c.get_mut-2.follows.lender own).entries
    (ap (λ m. m.entries) c.get_mut.follows.holds-at-none)
    (written-back (is_at (nat_cmp c.mark_of.result)) marked (c.get_mut-2.follows.lender own).entries c.in-Some-get_mut.own.now own
    (c.get_mut-2.follows.holds own).0 c.in-Some-get_mut.ensures.value back) ∙ c.self.view_is)

pub returns-clause-ok : goal.returns-clause-ok
returns-clause-ok c =
    let k = c.args.change.now.address in
    let others = c.self.inside.others.entries in
    let marked = c.self.inside.marked.entries in
    let own = c.in-Some-get_mut.own.now in
    let put : Own = record { address = own.address; versions = c.change-2.new.self } in
    let new = (c.get_mut-2.follows.lender put).entries in
    let there = c.in-Some-get_mut.ensures.value ∙ ap (λ m. lookup (is_at (nat_cmp m)) marked) c.mark_of.ensures in
    let same = ap is_eq (sym c.cmp.ensures) ∙ alike c.cmp.result (sym c.is_ne.ensures ∙ c.if-is_ne.false) in
    let puts : IsPutAt marked new (mark_of k) put =
    subst (λ m. IsPutAt marked new m put) c.mark_of.ensures ((c.get_mut-2.follows.holds put).3 (ap is_some (sym c.in-Some-get_mut.ensures.value))).0 in
    subst (λ (o : Kept). HasFollowed c.args.self.now (kept_by o new) c.args.change.now c.args.horizon true)
    (sym (ap (λ m. m.entries) c.get_mut.follows.holds-at-none))
    (subst (λ (old : Kept). HasFollowed old (kept_by others new) c.args.change.now c.args.horizon true) c.self.view_is
    (subst (λ (v : Versioned). IsPut (kept_by others marked) (kept_by others new) k v)
    (c.in_ok-change-2.ensures.ok
    ∙ ap (changed_by c.args.change.now c.args.horizon) (versions-own others marked k own c.self.invariant c.in_default.ensures.value there same))
    (put-found others marked k own c.self.invariant c.in_default.ensures.value there same new put.versions (c.get_mut-2.follows.holds put).4 puts)))
