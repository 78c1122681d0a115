use Rattle.std.proofs.Common.{◌≡◌, ◌+◌, ◌-◌, IfOk, get_or, take, drop, ap, ◌∙◌, subst, arith}
use Rattle.rdt_types.specs.declared.value.Value.{Value}
use Rattle.rdt_types.specs.Deltas.{apply}
use Rattle.version_shard.specs.declared.version.Version.{Version}
use Rattle.version_shard.specs.Versions.{Versioned, value_after}
use Rattle.version_shard.proofs.Chains.{value_after-next}
use Rattle.version_shard.proofs.chain.Chain.after.Goals as goal

-- the first delta is applied to the whole value, and the others to what that leaves
pub returns : goal.returns
returns c =
    let chain = c.args.self.now in
    let from = c.whole_by-from.result.0 in
    let before = c.whole_by-from.ensures.before in
    let apart = c.if-from-count.false in
    let version : c.index.result.now ≡ get_or chain.later from c.index.result.now =
    c.index.ensures ∙ ap (λ (v : Versioned). get_or v.later from c.index.result.now) c.self.view_is in
    let first : c.in_ok-first.first ≡ apply (get_or chain.later from c.index.result.now).delta (value_after chain.base (take from chain.later)) =
    c.in_ok-first.ensures
    ∙ ap (λ (v : Version). apply v.delta c.whole_by-from.result.1.now) version
    ∙ ap (apply (get_or chain.later from c.index.result.now).delta) c.whole_by-from.ensures.value in
    subst (λ (w : Value). IfOk c.applied.result (λ value. value ≡ w))
    (ap (λ v. value_after v (take (c.args.count - (from + 1)) (drop (from + 1) chain.later))) first
    ∙ value_after-next chain.base chain.later from c.args.count c.index.result.now (omega (arith, before, apart)) c.requires)
    c.applied.ensures
