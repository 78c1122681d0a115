use Rattle.std.proofs.Common.{◌≡◌, drop}
use Rattle.std.specs.List.{list_all}
use Rattle.record_code.specs.Reading.{suits_spot}
use Rattle.record_code.proofs.kinds.all_suit.Given as goal

-- whether the version has those of the rest is whether it has all
abbrev pub invariant-loop-spot : goal.invariant-loop-spot
invariant-loop-spot l = list_all (suits_spot l.version) (drop l.spot-index l.spots) ≡ list_all (suits_spot l.version) l.spots
