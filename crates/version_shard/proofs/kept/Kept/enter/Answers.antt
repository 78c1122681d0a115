use Rattle.std.proofs.Common.{◌≡◌, None, is_some, sym, ap, ◌∙◌, subst}
use Rattle.std.specs.BTreeMap.{is_at}
use Rattle.std.specs.Map.{lookup}
use Rattle.std.specs.Ordering.{nat_cmp}
use Rattle.rdt_types.specs.Addresses.{address_cmp}
use Rattle.version_shard.specs.Shards.{Kept}
use Rattle.version_shard.specs.code.Marks.{IsPut, kept_by, mark_of}
use Rattle.version_shard.proofs.Marks.{IsPutAt, found, none-first, none-there, put-other, put-own, marked-put}
use Rattle.version_shard.proofs.kept.Kept.enter.Goals as goal

pub returns-then-contains_key-clause-ok : goal.returns-then-contains_key-clause-ok
returns-then-contains_key-clause-ok c =
    let own = c.args.own in
    let others = c.self.inside.others.entries in
    let marked = c.self.inside.marked.entries in
    let new = c.insert.new.self.entries in
    subst (λ (old : Kept). IsPut old (kept_by new marked) own.address own.versions) c.self.view_is
    (put-other others new marked own.address own.versions c.in_ok-insert.ensures.updates.0)

pub returns-clause-ok : goal.returns-clause-ok
returns-clause-ok c =
    let own = c.args.own in
    let others = c.self.inside.others.entries in
    let marked = c.self.inside.marked.entries in
    let new = c.insert-2.new.self.entries in
    let puts : IsPutAt marked new (mark_of own.address) own = subst (λ m. IsPutAt marked new m own) c.mark_of-mark.ensures c.in_ok-insert-2.ensures.updates.0 in
    let none : lookup (is_at (address_cmp own.address)) others ≡ None =
    none-first _ _ (sym (found own.address others marked c.self.invariant) ∙ ap (lookup (is_at (address_cmp own.address))) c.self.view_is ∙ c.requires) in
    subst (λ (old : Kept). IsPut old (kept_by others new) own.address own.versions) c.self.view_is
    (put-own others marked new own none c.self.invariant (marked-put marked new own c.self.invariant c.in_ok-insert-2.ensures.ordered puts) puts
    (none-there (lookup (is_at (nat_cmp (mark_of own.address))) marked) (λ o. o.address ≡ own.address)
    (sym (c.contains_key.ensures ∙ ap (λ m. is_some (lookup (is_at (nat_cmp m)) marked)) c.mark_of-mark.ensures) ∙ c.if-contains_key.false)))
