use Rattle.std.proofs.Common.{◌≡◌, drop}
use Rattle.std.specs.List.{list_all}
use Rattle.record_code.specs.Reading.{suits}
use Rattle.record_code.proofs.decoding.suit.Given as goal

-- whether the rest does is whether all do
abbrev pub invariant-loop-address : goal.invariant-loop-address
invariant-loop-address l = list_all suits (drop l.address-index l.pairs) ≡ list_all suits l.pairs
