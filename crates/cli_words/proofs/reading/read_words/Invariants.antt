use Rattle.std.proofs.Common.{◌≡◌, take}
use Rattle.std.specs.Prelude.{Ok}
use Rattle.cli_words.specs.declared.reading.Reading.TheVariants as reading
use Rattle.cli_words.specs.Forms.{texts}
use Rattle.cli_words.specs.code.Reading.{after}
use Rattle.cli_words.proofs.reading.read_words.Given as goal

-- what the words so far have made
abbrev pub invariant-loop-place : goal.invariant-loop-place
invariant-loop-place l = after (take l.place (texts l.fn.words)) reading.Start ≡ Ok l.reading
