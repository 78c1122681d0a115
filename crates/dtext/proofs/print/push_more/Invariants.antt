use Rattle.std.proofs.Common.{◌≡◌, ◌++◌, take}
use Rattle.std.specs.List.{flat_map}
use Rattle.dtext.specs.Printing.{after_comma}
use Rattle.dtext.proofs.print.push_more.Given as goal

-- the texts so far
abbrev pub invariant-loop-text : goal.invariant-loop-text
invariant-loop-text l = l.out ≡ l.fn.out ++ flat_map after_comma (take l.text-index l.texts)
