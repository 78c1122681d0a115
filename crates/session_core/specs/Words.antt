-- The words of a line.
use Rattle.std.specs.Prelude.{◌≡◌, ℕ, ◌==◌, Bool, true, false, if◌then◌else◌, [], ◌∷◌, drop, codes, refl}
use Rattle.std.specs.List.{prefix_len}
use Rattle.txn_grammar.specs.Characters.{Text, is_blank}

-- the text without the blanks at its beginning
abbrev pub trimmed_start : Text → Text
trimmed_start z = drop (prefix_len is_blank z) z

-- a byte before what is left of those after it: a blank goes where nothing is left
abbrev pub unless_last_blank : ℕ → Text → Text
unless_last_blank b [] = if is_blank b then [] else b ∷ []
unless_last_blank b (c ∷ z) = b ∷ c ∷ z

-- the text without the blanks at its end
abbrev pub trimmed_end : Text → Text
trimmed_end [] = []
trimmed_end (b ∷ z) = unless_last_blank b (trimmed_end z)

-- nothing, or a remark, which begins with `#`
abbrev pub is_quiet : Text → Bool
is_quiet [] = true
is_quiet (b ∷ z) = b == 35

trimmed_end-example : trimmed_end (codes "emit 1; ") ≡ codes "emit 1;"
trimmed_end-example = refl

remark-example : is_quiet (trimmed_start (codes "  # a remark")) ≡ true
remark-example = refl

verb-example : is_quiet (trimmed_start (codes " seen")) ≡ false
verb-example = refl
