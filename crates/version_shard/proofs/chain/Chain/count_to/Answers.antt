use Rattle.std.proofs.Common.{nat_le, subst, rules, arith}
use Rattle.std.proofs.lemmas.List.Sorted.{IsPartitionedBy-leb, IsPartitionPoint-from_clause}
use Rattle.version_shard.specs.Versions.{Versioned}
use Rattle.version_shard.specs.code.Chains.{Parts}
use Rattle.version_shard.proofs.Chains.{parts-at}
use Rattle.version_shard.proofs.chain.Chain.count_to.Goals as goal

pub returns : goal.returns
returns c =
    let all = c.self.inside.later.items in
    let count = c.partition_point in
    let len = c.self.inside.later.ok.0 in
    let bound = count.ensures.bound in
    subst (λ (v : Versioned). Parts c.args.number count.result v.later) c.self.view_is
    (parts-at c.args.number count.result all
    (IsPartitionPoint-from_clause (λ version. nat_le version.number c.args.number) all count.result count.ensures.partitioned
    (IsPartitionedBy-leb (λ version. version.number) all c.args.number c.self.invariant.in_order) (λ a r f h. search rules))
    (omega (arith, len, bound)))
