use Rattle.std.proofs.Common.{[], ◌∷◌, ◌++◌, sym, ap, ◌∙◌}
use Rattle.rdt_types.specs.Deltas.{apply}
use Rattle.version_shard.specs.declared.version.Version.{Version}
use Rattle.version_shard.specs.Versions.{Versioned, latest}
use Rattle.version_shard.proofs.Chains.{value_after-append, trimmed-newest}
use Rattle.version_shard.proofs.versions.Versions.change.Goals as goal

-- the newest value is what the delta made, also where all versions went
pub invariant_of-self-2 : goal.invariant_of-self-2
invariant_of-self-2 c =
    let chain = c.self.inside.chain in
    let version : Version = record { number = c.args.number; delta = c.args.delta.now } in
    c.in_ok-newest.ensures
    ∙ ap (λ (v : Versioned). apply c.args.delta.now (latest v)) (sym c.self.view_is)
    ∙ sym (value_after-append chain.base chain.later (version ∷ []))
    ∙ sym (trimmed-newest c.args.horizon chain.base (chain.later ++ version ∷ []))
    ∙ ap latest (sym c.in_ok-change.ensures.ok)
