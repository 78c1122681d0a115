use Rattle.std.proofs.Common.{◌≡◌, ◌-◌, ◌≤◌, List, length, get_or, ap, sym, ◌∙◌, subst, arith}
use Rattle.version_shard.specs.declared.version.Version.{Version}
use Rattle.version_shard.specs.Versions.{Versioned, up_to}
use Rattle.version_shard.proofs.Numbered.{below-all}
use Rattle.version_shard.proofs.Chains.{newest-up_to}
use Rattle.version_shard.proofs.chain.Chain.is_up_to.Goals as goal

pub returns-in-Some : goal.returns-in-Some
returns-in-Some c is =
    let all = c.self.inside.later.items in
    let len = c.self.inside.later.ok.0 in
    let newest = c.in-Some.newest.now in
    let there : get_or all (length all - 1) newest ≡ newest = ap (λ n. get_or all (n - 1) newest) (sym len) ∙ sym c.in-Some.ensures.lookup in
    subst (λ (v : Versioned). up_to c.args.number v ≡ v) c.self.view_is
    (ap (λ (l : List Version). record { base = c.self.inside.base; later = l })
    (below-all (λ (version : Version). version.number) c.args.number all
    (newest-up_to c.args.number all newest c.self.invariant.in_order
    (subst (λ (x : Version). x.number ≤ c.args.number) (sym there) (grind (arith, is))))))
