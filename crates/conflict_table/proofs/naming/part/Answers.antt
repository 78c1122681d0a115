use Rattle.std.proofs.Common.{sym, ap, ◌∙◌, is_some}
use Rattle.conflict_table.specs.Parts.{shown}
use Rattle.conflict_table.proofs.Named.{clashes_have_parts, is_some-map}
use Rattle.conflict_table.proofs.naming.part.Goals as goal

-- a clash has a part
pub unwrap-requires : goal.unwrap-requires
unwrap-requires c =
    sym (is_some-map shown c.named.result)
    ∙ ap is_some c.named.ensures
    ∙ clashes_have_parts c.args.obs.now c.args.delta.now c.requires.kind
    ∙ c.requires.clash
