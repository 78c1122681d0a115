-- What digits are worth.
use Rattle.std.specs.Prelude.{◌≡◌, ℕ, ◌&&◌, ◌==◌, if◌then◌else◌, nat_le, nat_lt, length, fold}
use Rattle.std.specs.Prelude.{slice_index, pos, ℤ, codes, Option, Some, None, refl}
pub use Rattle.predictive_parsing.specs.Digits.{with_digit}
use Rattle.dtext.specs.declared.number.TheConstants.{MOST}
use Rattle.txn_grammar.specs.Characters.{Text}

-- what digits are worth
abbrev pub digits_value : Text → ℕ
digits_value digits = fold with_digit 0 digits

-- the value, unless it is above the largest number
unfoldable pub small_value : Text → Option ℤ
small_value digits = if nat_le (digits_value digits) MOST then Some (pos (digits_value digits)) else None

-- the number that the digits write, where none of them is a needless zero in front and it isn't too large
unfoldable pub number_value : Text → Option ℤ
number_value digits = if nat_lt 1 (length digits) && slice_index digits 0 == 48 then None else small_value digits

largest : number_value (codes "9223372036854775807") ≡ Some (pos 9223372036854775807)
unfolding number_value small_value
largest = refl

too_large : number_value (codes "9223372036854775808") ≡ None
unfolding number_value small_value
too_large = refl

needless_zero : number_value (codes "01") ≡ None
unfolding number_value small_value
needless_zero = refl
