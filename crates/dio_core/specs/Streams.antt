-- What readers and writers of std tell. They may begin to tell what they didn't before, and a source or a sink may not.
use Rattle.std.specs.Prelude.{◌≡◌, ℕ, List, [], ◌∷◌, Option, Some, None, is_some, if◌then◌else◌, refl}
use Rattle.dio_core.specs.declared.source.TheConstants.{READ_AHEAD}

-- what is told now, by what has told from the first
abbrev pub told_since : Option (List ℕ) → Option (List ℕ) → Option (List ℕ)
told_since first now = if is_some first then now else None

told_since-example : told_since None (Some (7 ∷ [])) ≡ None
told_since-example = refl

READ_AHEAD-is : READ_AHEAD ≡ 8192
READ_AHEAD-is = refl
