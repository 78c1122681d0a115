use Rattle.std.proofs.Common.{◌≡◌, List, IfOk, sym, subst}
use Rattle.version_shard.specs.declared.version.Version.{Version}
use Rattle.version_shard.specs.Versions.{value_after}
use Rattle.version_shard.proofs.Chains.{parts-up_to}
use Rattle.version_shard.proofs.chain.Chain.at.Goals as goal

pub returns : goal.returns
returns c =
    let chain = c.args.self.now in
    subst (λ (l : List Version). IfOk c.after.result (λ value. value ≡ value_after chain.base l))
    (sym (parts-up_to c.args.number c.count_to.result chain.later c.count_to.ensures)) c.after.ensures
