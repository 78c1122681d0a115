-- Laws: whatever a read answers of a stream that tells is what stands at its front.
use Rattle.std.specs.Prelude.{◌≡◌, ◌<◌, ◌^◌, ℕ, List, ◌++◌, Some, Err}
use Rattle.wire_frames.specs.declared.reading.FrameFault.TheVariants as fault
use Rattle.wire_frames.specs.Frames.{Front, frame, frame_in, IsText, TakesFrame}

-- a frame stands at the front of its bytes, whatever stands behind it
abbrev pub FramesAreCut : Type 0
FramesAreCut = (most : ℕ) (text rest : List ℕ) → most < 2 ^ 32 → IsText most text → frame_in most (frame text ++ rest) ≡ Front.Whole text rest

-- where no frame is answered since the bytes are broken, none stands at their front, and they aren't at their end
abbrev pub BrokenIsNoFrame : Type 0
BrokenIsNoFrame =
    (most : ℕ) (all rest : List ℕ) → TakesFrame most (Err fault.Broken) (Some all) (Some rest) → frame_in most all ≡ Front.Broken
