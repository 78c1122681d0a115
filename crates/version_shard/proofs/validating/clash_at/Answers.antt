use Rattle.std.proofs.Common.{sym, ap}
use Rattle.version_shard.specs.Shards.{versions_of}
use Rattle.version_shard.specs.code.Clashing.{first_clashing}
use Rattle.version_shard.specs.declared.version.Version.{Version}
use Rattle.version_shard.proofs.Numbered.{above-none}
use Rattle.version_shard.proofs.Keeping.{up_to-kept}
use Rattle.version_shard.proofs.validating.clash_at.Goals as goal

-- no version is past the front, and so none is past a base that is
pub returns-then-front-based-clause-first : goal.returns-then-front-based-clause-first
returns-then-front-based-clause-first g c =
    let based = c.args.based.now in
    let kept = c.args.kept.now in
    ap (first_clashing based.obs)
    (sym (above-none (λ (version : Version). version.number) based.base (versions_of kept based.address).later
    (up_to-kept c.args.front based.base kept based.address c.requires c.if-front-based.true)))
