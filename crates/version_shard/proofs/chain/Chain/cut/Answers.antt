use Rattle.std.proofs.Common.{List, sym, ap, ◌∙◌}
use Rattle.version_shard.specs.declared.version.Version.{Version}
use Rattle.version_shard.proofs.Chains.{parts-up_to}
use Rattle.version_shard.proofs.chain.Chain.cut.Goals as goal

pub returns : goal.returns
returns c =
    c.keep.ensures
    ∙ ap (λ (l : List Version). record c.args.self.now { later = l })
    (sym (parts-up_to c.args.number c.count_to.result c.args.self.now.later c.count_to.ensures))
