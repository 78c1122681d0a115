-- What may follow a line.
use Rattle.std.specs.Prelude.{ℕ, Bool, Option}
use Rattle.predictive_parsing.specs.Reading.{ahead}
use Rattle.predictive_parsing.specs.Fits.{any, unless}
use Rattle.session_text.specs.Lines.{is_any}

-- nothing at all
abbrev pub at_end : Option ℕ → Bool
at_end = unless (ahead is_any) any
