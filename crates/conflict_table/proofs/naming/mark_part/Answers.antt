use Rattle.std.proofs.Common.{sym, ap, ◌∙◌, option_map}
use Rattle.std.specs.FinMap as map
use Rattle.conflict_table.specs.Parts as parts
use Rattle.conflict_table.proofs.Keys.{twice_mapped}
use Rattle.conflict_table.proofs.naming.mark_part.Goals as goal

-- the pair that is found is the mark at the key
pub returns-in-Set : goal.returns-in-Set
returns-in-Set c =
    c.set_part.ensures
    ∙ ap (option_map (λ e. parts.set_part e.0 e.1)) c.get_pair.ensures
    ∙ twice_mapped (λ e. parts.set_part e.0 e.1) c.args.key.now (map.get c.marks.result.now c.args.key.now)
    ∙ ap (λ m. option_map (parts.set_part c.args.key.now) (map.get m c.args.key.now)) c.marks.ensures.marks
    ∙ sym (ap (parts.mark_part c.args.key.now) c.in-Set.is)

pub returns-in-Hash : goal.returns-in-Hash
returns-in-Hash c =
    c.hash_part.ensures
    ∙ ap (option_map (λ e. parts.hash_part e.0 e.1)) c.get_pair-in-Hash.ensures
    ∙ twice_mapped (λ e. parts.hash_part e.0 e.1) c.args.key.now (map.get c.marks-in-Hash.result.now c.args.key.now)
    ∙ ap (λ m. option_map (parts.hash_part c.args.key.now) (map.get m c.args.key.now)) c.marks-in-Hash.ensures.marks
    ∙ sym (ap (parts.mark_part c.args.key.now) c.in-Hash.is)
