-- What reading a frame knows on its way through it.
use Rattle.std.specs.Prelude.{◌≡◌, ℕ, ◌<◌, ◌≤◌, List, ◌++◌, length, take, Option, Bool, true, false, Result, Ok, Err}
use Rattle.dio_core.specs.Sources.{with_prefix}
use Rattle.wire_frames.specs.declared.reading.FrameFault.{FrameFault}
use Rattle.wire_frames.specs.declared.reading.FrameFault.TheVariants as fault
use Rattle.wire_frames.specs.Frames.{IsAtEnd}

-- So many bytes are at the front of a buffer, and are the next that were left.
pub record Fronts (count : ℕ) (buffer : List ℕ) (old new : Option (List ℕ)) : Type 0 where
  pub within : count ≤ length buffer
  pub taken : old ≡ with_prefix (take count buffer) new

-- A buffer is filled, or as far as the stream goes; at a fault it isn't full.
abbrev pub Fills : {E : Type 0} → Result ℕ E → List ℕ → Option (List ℕ) → Option (List ℕ) → Type 0
Fills (Ok count) buffer old new = Fronts count buffer old new × (count < length buffer → IsAtEnd new)
Fills (Err e) buffer old new = (count : ℕ) × (count < length buffer) × Fronts count buffer old new

-- Fewer bytes than these were taken.
pub record IsShortOf (size : ℕ) (old new : Option (List ℕ)) : Type 0 where
  pub begun : List ℕ
  pub few : length begun < size
  pub taken : old ≡ with_prefix begun new

-- why fewer were taken
abbrev pub Lacks : FrameFault → ℕ → Option (List ℕ) → Option (List ℕ) → Type 0
Lacks fault.Broken size old new = IsShortOf size old new × IsAtEnd new
Lacks fault.ReadFault size old new = IsShortOf size old new
Lacks fault.NoMemory size old new = IsShortOf size old new

-- So many bytes more were taken and are kept.
pub record IsMore (more : ℕ) (kept kept_then : List ℕ) (old new : Option (List ℕ)) : Type 0 where
  pub piece : List ℕ
  pub long : length piece ≡ more
  pub keeps : kept_then ≡ kept ++ piece
  pub taken : old ≡ with_prefix piece new

-- So many bytes more were taken and are kept, or fewer were taken.
abbrev pub TakesPiece : {A : Type 0} → ℕ → List ℕ → Result A FrameFault → List ℕ → Option (List ℕ) → Option (List ℕ) → Type 0
TakesPiece more kept (Ok x) kept_then old new = IsMore more kept kept_then old new
TakesPiece more kept (Err why) kept_then old new = Lacks why more old new

-- The bytes of a frame were taken, or fewer.
abbrev pub TakesRest : ℕ → Result (List ℕ) FrameFault → Option (List ℕ) → Option (List ℕ) → Type 0
TakesRest size (Ok text) old new = (length text ≡ size) × (old ≡ with_prefix text new)
TakesRest size (Err why) old new = Lacks why size old new

-- whether a read failed
abbrev pub rest_failed : {A : Type 0} → Result A FrameFault → Bool
rest_failed (Ok x) = false
rest_failed (Err fault.ReadFault) = true
rest_failed (Err fault.Broken) = false
rest_failed (Err fault.NoMemory) = false
