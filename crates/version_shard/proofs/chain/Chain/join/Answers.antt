use Rattle.std.proofs.Common.{drop, sym, ap, ◌∙◌}
use Rattle.rdt_types.specs.declared.value.Value.{Value}
use Rattle.version_shard.proofs.Chains.{trimmed-none, trimmed-parts}
use Rattle.version_shard.proofs.chain.Chain.join.Goals as goal

pub returns-then-count-eq0-clause-ok : goal.returns-then-count-eq0-clause-ok
returns-then-count-eq0-clause-ok c =
    let chain = c.args.self.now in
    sym (trimmed-none c.args.horizon c.count_to-count.result chain.base chain.later c.count_to-count.ensures c.if-count-eq0.true)

pub returns-clause-ok : goal.returns-clause-ok
returns-clause-ok c =
    let chain = c.args.self.now in
    let count = c.count_to-count.result in
    c.begin_behind.ensures
    ∙ ap (λ (base : Value). record chain { base = base; later = drop count chain.later }) c.in_ok-base.ensures
    ∙ sym (trimmed-parts c.args.horizon count chain.base chain.later c.count_to-count.ensures)
