use Rattle.std.proofs.Common.{◌≡◌, ◌≤◌, length, take, sym, ap, ◌∙◌, subst}
use Rattle.version_shard.specs.Versions.{Versioned, value_after}
use Rattle.version_shard.proofs.Chains.{begun}
use Rattle.version_shard.proofs.chain.Chain.begin_behind.Goals as goal

pub invariant_of-self : goal.invariant_of-self
invariant_of-self c =
    let inside = c.self.inside in
    let count = c.args.count in
    let base : c.put.new.place ≡ value_after inside.base (take count inside.later.items) =
    c.put.ensures ∙ c.requires.value ∙ ap (λ (v : Versioned). value_after v.base (take count v.later)) (sym c.self.view_is) in
    rw (base, c.let_go.ensures, c.let_go-2.ensures, c.from.ensures)
    (begun inside.behind inside.base inside.later.items inside.wholes.items c.self.invariant count
    (subst (λ (v : Versioned). count ≤ length v.later) (sym c.self.view_is) c.requires.within))
