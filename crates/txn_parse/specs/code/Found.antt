-- What was found in a token. The clauses of `name_ahead`, `text_ahead` and `take_copy` in src/token.rt tie it to the tokens of
-- `txn_grammar`.
use Rattle.std.specs.Prelude.{ℕ, Option}
use Rattle.std.specs.Option.{option_map}
use denote.Ref.{Bor}

-- what was lent, with its column, as the value that it is
abbrev pub lent : {A : Type 0} → Option (ℕ × Bor A) → Option (ℕ × A)
lent found = option_map (λ found. (found.0, found.1.now)) found
