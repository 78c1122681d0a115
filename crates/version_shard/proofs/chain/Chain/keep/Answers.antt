use Rattle.std.proofs.Common.{◌≤◌, length, sym, subst}
use Rattle.version_shard.specs.Versions.{Versioned}
use Rattle.version_shard.proofs.Chains.{kept}
use Rattle.version_shard.proofs.chain.Chain.keep.Goals as goal

pub invariant_of-self : goal.invariant_of-self
invariant_of-self c =
    let inside = c.self.inside in
    let count = c.args.count in
    rw (c.truncate.ensures.items, c.truncate-2.ensures.items, c.from.ensures)
    (kept inside.behind inside.base inside.later.items inside.wholes.items c.self.invariant count
    (subst (λ (v : Versioned). count ≤ length v.later) (sym c.self.view_is) c.requires))
