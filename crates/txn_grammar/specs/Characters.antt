-- Texts, and the classes of bytes that tokens are made of, by the names that this crate's users have for them.
use Rattle.std.specs.Prelude.{ℕ, List}
pub use Rattle.dtext.specs.Characters.{is_letter, is_digit, is_word, is_blank}

-- a text, by its bytes
abbrev pub Text : Type 0
Text = List ℕ
