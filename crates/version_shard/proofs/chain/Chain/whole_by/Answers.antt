use Rattle.std.proofs.Common.{◌<◌, ◌≤◌, ◌/◌, ◌-◌, ◌+◌, ◌%◌, length, get_or, take, sym, ap, ◌∙◌, subst, arith}
use Rattle.version_shard.specs.Versions.{Versioned, value_after}
use Rattle.version_shard.proofs.Chains.{whole-within, whole-before}
use Rattle.version_shard.proofs.chain.Chain.whole_by.Goals as goal

pub index-requires : goal.index-requires
index-requires c =
    let inside = c.self.inside in
    let count = c.args.count in
    let len = inside.wholes.ok.0 in
    let enough : 32 ≤ inside.behind + count = subst (λ n. 32 ≤ n + count) c.from.ensures c.if-passed-lt-SPACING.false in
    let low = whole-within inside.behind inside.base inside.later.items inside.wholes.items c.self.invariant count
    (subst (λ (v : Versioned). count ≤ length v.later) (sym c.self.view_is) c.requires) enough in
    subst (λ n. (n + count) / 32 - 1 < inside.wholes.len) (sym c.from.ensures) (omega (arith, len, low))

pub returns-clause-value : goal.returns-clause-value
returns-clause-value c =
    let inside = c.self.inside in
    let count = c.args.count in
    let enough : 32 ≤ inside.behind + count = subst (λ n. 32 ≤ n + count) c.from.ensures c.if-passed-lt-SPACING.false in
    c.index.ensures
    ∙ ap (λ n. get_or inside.wholes.items ((n + count) / 32 - 1) c.index.result.now) c.from.ensures
    ∙ whole-before inside.behind inside.base inside.later.items inside.wholes.items c.self.invariant count c.index.result.now
    (subst (λ (v : Versioned). count ≤ length v.later) (sym c.self.view_is) c.requires) enough
    ∙ ap (λ n. value_after inside.base (take (count - (n + count) % 32) inside.later.items)) (sym c.from.ensures)
    ∙ ap (λ (v : Versioned). value_after v.base (take (count - (c.from.result + count) % 32) v.later)) c.self.view_is
