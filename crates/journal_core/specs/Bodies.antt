-- The text of a body as it is kept: short, and without blanks at its end.
use Rattle.std.specs.Prelude.{◌≡◌, ℕ, ◌≤◌, Bool, true, false, List, [], ◌∷◌, length, codes, refl}
use Rattle.txn_grammar.specs.Characters.{is_blank}
use Rattle.journal_core.specs.declared.limits.TheConstants.{LONGEST_BODY}

-- whether the last byte is a blank
abbrev pub ends_in_blank : List ℕ → Bool
ends_in_blank [] = false
ends_in_blank (b ∷ []) = is_blank b
ends_in_blank (b ∷ c ∷ text) = ends_in_blank (c ∷ text)

-- a body's text as it is kept: no longer than a line, and without blanks at its end
pub record IsBodyText (text : List ℕ) : Type 0 where
  pub short : length text ≤ LONGEST_BODY
  pub trimmed : ends_in_blank text ≡ false

-- a space at the end is one, and the space between two words is none
ends_in_blank-example : ends_in_blank (codes "emit 1; ") ≡ true
ends_in_blank-example = refl

no-blank-example : ends_in_blank (codes "emit 1;") ≡ false
no-blank-example = refl
