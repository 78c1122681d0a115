-- Frames, how a stream of bytes is cut into them, and what one call takes of it.
use Rattle.std.specs.Prelude.{◌≡◌, ℕ, ◌+◌, ◌<◌, ◌≤◌, ◌⊎◌, ◌&&◌, Bool, true, false, List, [], ◌∷◌, ◌++◌, length, take, drop, nat_lt, nat_le}
use Rattle.std.specs.Prelude.{if◌then◌else◌, Option, IfSome, Result, Ok, Err, refl}
use Rattle.std.specs.Int.{w32, to_be_bytes, from_be_bytes}
use Rattle.dio_core.specs.Sources.{with_prefix}
use Rattle.wire_frames.specs.declared.reading.Frame.{Frame}
use Rattle.wire_frames.specs.declared.reading.Frame.TheVariants as read
use Rattle.wire_frames.specs.declared.reading.FrameFault.{FrameFault}
use Rattle.wire_frames.specs.declared.reading.FrameFault.TheVariants as fault

-- ---- frames

-- A FRAME: the length of its bytes in four bytes, the first of them the highest, and then its bytes.
abbrev pub frame : List ℕ → List ℕ
frame bytes = to_be_bytes w32 (length bytes) ++ bytes

frame-example : frame (7 ∷ 8 ∷ []) ≡ 0 ∷ 0 ∷ 0 ∷ 2 ∷ 7 ∷ 8 ∷ []
frame-example = refl

-- frames of these texts, one behind another
abbrev pub frames : List (List ℕ) → List ℕ
frames [] = []
frames (text ∷ texts) = frame text ++ frames texts

frames-example : frames ((7 ∷ []) ∷ (8 ∷ []) ∷ []) ≡ 0 ∷ 0 ∷ 0 ∷ 1 ∷ 7 ∷ 0 ∷ 0 ∷ 0 ∷ 1 ∷ 8 ∷ []
frames-example = refl

-- ---- how a stream is cut

-- a frame has at least one byte, and no more than the most
abbrev pub is_sized : ℕ → ℕ → Bool
is_sized most size = nat_lt 0 size && nat_le size most

-- the length that these bytes begin with
abbrev pub length_field : List ℕ → ℕ
length_field bytes = from_be_bytes w32 (take 4 bytes)

-- What stands at the front of a stream: a frame with these bytes, and others behind it; or nothing; or no frame.
pub data Front : Type 0 where
  Whole : List ℕ → List ℕ → Front
  Nothing : Front
  Broken : Front

-- behind its length
abbrev pub front_behind : ℕ → ℕ → List ℕ → Front
front_behind most size bytes =
    if is_sized most size
    then (if nat_lt (length bytes) size then Front.Broken else Front.Whole (take size bytes) (drop size bytes))
    else Front.Broken

-- THE CUT: what stands at the front of these bytes, where a frame has at most so many.
abbrev pub frame_in : ℕ → List ℕ → Front
frame_in most [] = Front.Nothing
frame_in most (byte ∷ bytes) =
    if nat_lt (length (byte ∷ bytes)) 4 then Front.Broken
    else front_behind most (length_field (byte ∷ bytes)) (drop 4 (byte ∷ bytes))

-- a frame of two bytes, behind which stands a 9
frame_in-example : frame_in 2 (0 ∷ 0 ∷ 0 ∷ 2 ∷ 7 ∷ 8 ∷ 9 ∷ []) ≡ Front.Whole (7 ∷ 8 ∷ []) (9 ∷ [])
frame_in-example = refl

-- one more byte than there may be; none; an end within the bytes; an end within the length
frame_in-long : frame_in 2 (0 ∷ 0 ∷ 0 ∷ 3 ∷ 7 ∷ 8 ∷ 9 ∷ []) ≡ Front.Broken
frame_in-long = refl

frame_in-empty : frame_in 2 (0 ∷ 0 ∷ 0 ∷ 0 ∷ 7 ∷ []) ≡ Front.Broken
frame_in-empty = refl

frame_in-cut : frame_in 2 (0 ∷ 0 ∷ 0 ∷ 2 ∷ 7 ∷ []) ≡ Front.Broken
frame_in-cut = refl

frame_in-short : frame_in 2 (0 ∷ 0 ∷ 0 ∷ []) ≡ Front.Broken
frame_in-short = refl

-- ---- what one call takes

-- a text that a frame may have
abbrev pub IsText : ℕ → List ℕ → Type 0
IsText most text = (0 < length text) × (length text ≤ most)

-- a length that no frame has
abbrev pub IsNoLength : ℕ → List ℕ → Type 0
IsNoLength most bytes = (length bytes ≡ 4) × (is_sized most (length_field bytes) ≡ false)

-- these bytes are the whole length of a frame, and not all bytes that it tells
abbrev pub HasLength : ℕ → List ℕ → Type 0
HasLength most bytes =
    (4 ≤ length bytes) × (length bytes < 4 + length_field bytes) × (is_sized most (length_field bytes) ≡ true)

-- These bytes begin a frame and don't end it: they end within its length, or behind that within its bytes.
abbrev pub IsBegun : ℕ → List ℕ → Type 0
IsBegun most bytes = (length bytes < 4) ⊎ HasLength most bytes

-- of a frame of two bytes one is there
IsBegun-example : length_field (0 ∷ 0 ∷ 0 ∷ 2 ∷ 7 ∷ []) ≡ 2
IsBegun-example = refl

-- nothing is left, where that is told
abbrev pub IsAtEnd : Option (List ℕ) → Type 0
IsAtEnd left = IfSome left (λ bytes. bytes ≡ [])

-- What was taken breaks off within a frame, at a fault.
pub record BreaksOff (most : ℕ) (old new : Option (List ℕ)) : Type 0 where
  pub begun : List ℕ
  pub within : IsBegun most begun
  pub taken : old ≡ with_prefix begun new

-- What was taken breaks off behind the length of a frame, since there is no memory for its bytes. So an end within a length, or
-- a length that no frame has, is no want of memory.
pub record LacksMemory (most : ℕ) (old new : Option (List ℕ)) : Type 0 where
  pub begun : List ℕ
  pub within : HasLength most begun
  pub taken : old ≡ with_prefix begun new

-- What was taken is no frame: a length that none has, or what begins one, and then the stream is at its end.
pub record IsBroken (most : ℕ) (old new : Option (List ℕ)) : Type 0 where
  pub bytes : List ℕ
  pub some : 0 < length bytes
  pub broken : IsNoLength most bytes ⊎ (IsBegun most bytes × IsAtEnd new)
  pub taken : old ≡ with_prefix bytes new

-- WHAT A READ TAKES, from what was left before it to what is left after it.
abbrev pub TakesFrame : ℕ → Result Frame FrameFault → Option (List ℕ) → Option (List ℕ) → Type 0
-- a frame, and no byte behind it
TakesFrame most (Ok (read.Bytes text)) old new = IsText most text × (old ≡ with_prefix (frame text) new)
-- nothing, since nothing is left
TakesFrame most (Ok read.End) old new = IsAtEnd old × (new ≡ old)
TakesFrame most (Err fault.Broken) old new = IsBroken most old new
TakesFrame most (Err fault.ReadFault) old new = BreaksOff most old new
TakesFrame most (Err fault.NoMemory) old new = BreaksOff most old new

-- the answer is that a read failed
abbrev pub frame_failed : Result Frame FrameFault → Bool
frame_failed (Ok read) = false
frame_failed (Err fault.ReadFault) = true
frame_failed (Err fault.Broken) = false
frame_failed (Err fault.NoMemory) = false
