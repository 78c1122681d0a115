use Rattle.std.proofs.Common.{◌≡◌, take}
use Rattle.std.specs.List.{flat_map}
use Rattle.audit_core.specs.Reports.{field_texts}
use Rattle.audit_core.proofs.reporting.fields.Given as goal

-- the fields so far, with their texts
abbrev pub invariant-loop-pair : goal.invariant-loop-pair
invariant-loop-pair l = l.texts ≡ flat_map field_texts (take l.pair-index l.pairs)
