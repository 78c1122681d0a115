-- What `next_line` knows on its way through a line. The laws of proofs/Lines.antt tie it to `TakesLine`.
use Rattle.std.specs.Prelude.{◌≡◌, ℕ, ◌+◌, ◌<◌, ◌≤◌, ◌⊎◌, Bool, true, false, List, [], ◌∷◌, ◌++◌, length, take, Option, Some, None, IfSome, nat_lt}
use Rattle.std.specs.Prelude.{if◌then◌else◌}
use Rattle.dio_core.specs.declared.line.TheConstants.{NEWLINE, LONGEST_LINE}
use Rattle.dio_core.specs.declared.line.Part.{Part}
use Rattle.dio_core.specs.declared.line.Line.{Line}
use Rattle.dio_core.specs.declared.line.Line.TheVariants as line
use Rattle.dio_core.specs.Told.{WhereTold}
use Rattle.dio_core.specs.Sources.{with_prefix}
use Rattle.dio_core.specs.Lines.{IsBegun, IsUnbroken}

-- these bytes are n of a line, and its newline where it has ended
abbrev pub IsPart : Bool → ℕ → List ℕ → Type 0
IsPart true n bytes = IsUnbroken (take n bytes) × (bytes ≡ take n bytes ++ NEWLINE ∷ [])
IsPart false n bytes = IsUnbroken bytes × (n ≡ length bytes)

-- One read gave n bytes of a line, at the beginning of the buffer, and its newline where it has ended.
abbrev pub GivesPart : Bool → ℕ → List ℕ → Option (List ℕ) → Option (List ℕ) → Type 0
GivesPart true n buffer old new = (n < length buffer) × IsUnbroken (take n buffer) × (old ≡ with_prefix (take n buffer ++ NEWLINE ∷ []) new)
GivesPart false n buffer old new = (0 < n) × (n ≤ length buffer) × IsUnbroken (take n buffer) × (old ≡ with_prefix (take n buffer) new)

-- the same, or nothing at the end of the input
abbrev pub GoesOn : Option Part → List ℕ → Option (List ℕ) → Option (List ℕ) → Type 0
GoesOn None buffer old new = IfSome old (λ bytes. bytes ≡ []) × (new ≡ old)
GoesOn (Some part) buffer old new = GivesPart part.ended part.count buffer old new

-- there is room for so many bytes more, unless no more are to be kept
abbrev pub HasRoom : ℕ → List ℕ → ℕ → Type 0
HasRoom n kept capacity = (LONGEST_LINE ≤ length kept) ⊎ (length kept + n ≤ capacity)

-- n bytes of a line have been taken, and these of them are kept: the first, as many as may be answered
pub record IsReading (n : ℕ) (kept all rest : List ℕ) : Type 0 where
  pub begun : IsBegun n all rest
  pub keeps : kept ≡ take LONGEST_LINE (take n all)

-- the same of a source that may not tell what it has left
abbrev pub Reads : ℕ → List ℕ → Option (List ℕ) → Option (List ℕ) → Type 0
Reads n kept old new = WhereTold (IsReading n kept) old new

-- what is answered of a line of so many bytes, of which these are kept
abbrev pub answer_of : ℕ → List ℕ → Line
answer_of taken kept = if nat_lt LONGEST_LINE taken then line.TooLong else line.Bytes kept
