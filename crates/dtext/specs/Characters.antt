-- The classes of bytes that texts are cut by.
use Rattle.std.specs.Prelude.{ℕ, Bool, ◌&&◌, ◌||◌, nat_eq, nat_le}
pub use Rattle.predictive_parsing.specs.Digits.{is_digit}

-- `a` to `z`
abbrev pub is_letter : ℕ → Bool
is_letter byte = nat_le 97 byte && nat_le byte 122

-- what a word goes on with: a letter, a digit or `_`
abbrev pub is_word : ℕ → Bool
is_word byte = is_letter byte || is_digit byte || nat_eq byte 95

-- space, tab and CR
abbrev pub is_blank : ℕ → Bool
is_blank byte = nat_eq byte 32 || nat_eq byte 9 || nat_eq byte 13
