-- What stands at the front of a stream.
use Rattle.std.proofs.Common.{◌≡◌, ℕ, ◌<◌, ◌≤◌, true, false, List, [], ◌∷◌, ◌++◌, length, take, drop, Some, refl, ap, sym, ◌∙◌, inl, inr, append_assoc, arith}
use Rattle.std.proofs.Common.{length-append, length-drop, if◌then◌else◌}
use Rattle.std.specs.Int.{w32, to_be_bytes, from_be_bytes}
use Rattle.std.proofs.lemmas.Bool.{lt-ltb, le-ltb}
use Rattle.std.proofs.lemmas.Bool.Decides.{nat_tests}
use Rattle.std.proofs.lemmas.List.{append-nil, take_at, drop_at, take_all}
use Rattle.std.proofs.lemmas.Nat.{from_be_bytes-to_be_bytes_4}
use Rattle.dio_core.proofs.Sources.{WhereTold-prefix}
use Rattle.wire_frames.specs.Frames.{Front, frame, frames, is_sized, length_field, front_behind, frame_in, IsNoLength, IsBegun}
use Rattle.wire_frames.specs.Laws.{FramesAreCut, BrokenIsNoFrame}

-- behind the length of what has one
front_long : (most : ℕ) (all : List ℕ) → 4 ≤ length all → frame_in most all ≡ front_behind most (length_field all) (drop 4 all)
front_long most [] long = absurd (omega (arith, long))
front_long most (byte ∷ bytes) long =
    ap (λ short. if short then Front.Broken else front_behind most (length_field (byte ∷ bytes)) (drop 4 (byte ∷ bytes)))
    (le-ltb (length (byte ∷ bytes)) 4 long)

-- what ends within its length is no frame
front_short : (most : ℕ) (all : List ℕ) → 0 < length all → length all < 4 → frame_in most all ≡ Front.Broken
front_short most [] some few = absurd (omega (arith, some))
front_short most (byte ∷ bytes) some few =
    ap (λ short. if short then Front.Broken else front_behind most (length_field (byte ∷ bytes)) (drop 4 (byte ∷ bytes)))
    (lt-ltb (length (byte ∷ bytes)) 4 few)

-- as many bytes as it tells
behind_whole : (most size : ℕ) (bytes : List ℕ) → is_sized most size ≡ true → size ≤ length bytes
    → front_behind most size bytes ≡ Front.Whole (take size bytes) (drop size bytes)
behind_whole most size bytes sized there = rw (sized, le-ltb (length bytes) size there) refl

-- fewer
behind_short : (most size : ℕ) (bytes : List ℕ) → is_sized most size ≡ true → length bytes < size → front_behind most size bytes ≡ Front.Broken
behind_short most size bytes sized few = rw (sized, lt-ltb (length bytes) size few) refl

-- a length that no frame has
behind_none : (most size : ℕ) (bytes : List ℕ) → is_sized most size ≡ false → front_behind most size bytes ≡ Front.Broken
behind_none most size bytes none = rw none refl

-- a text's length is one that a frame has
pub is_sized-text : (most size : ℕ) → 0 < size → size ≤ most → is_sized most size ≡ true
is_sized-text most size some within = grind (arith, nat_tests)

pub frames-cut : FramesAreCut
frames-cut most text rest small is =
    let head = to_be_bytes w32 (length text) in
    let all = frame text ++ rest in
    let parts : all ≡ head ++ (text ++ rest) = append_assoc head text rest in
    let field : length_field all ≡ length text =
    ap (λ bytes. from_be_bytes w32 (take 4 bytes)) parts ∙ ap (from_be_bytes w32) (take_at head (text ++ rest) 4 refl)
    ∙ from_be_bytes-to_be_bytes_4 (length text) (omega (arith, is.1, small)) in
    let long : 4 ≤ length all = omega (arith, ap length parts, length-append head (text ++ rest)) in
    let behind : drop 4 all ≡ text ++ rest = ap (drop 4) parts ∙ drop_at head (text ++ rest) 4 refl in
    front_long most all long ∙ ap (λ size. front_behind most size (drop 4 all)) field ∙ ap (front_behind most (length text)) behind
    ∙ behind_whole most (length text) (text ++ rest) (is_sized-text most (length text) is.0 is.1) (omega (arith, length-append text rest))
    ∙ ap (λ front. Front.Whole front (drop (length text) (text ++ rest))) (take_at text rest (length text) refl)
    ∙ ap (Front.Whole text) (drop_at text rest (length text) refl)

-- what begins a frame and doesn't end it is none
front_begun : (most : ℕ) (bytes : List ℕ) → 0 < length bytes → IsBegun most bytes → frame_in most bytes ≡ Front.Broken
front_begun most bytes some (inl few) = front_short most bytes some few
front_begun most bytes some (inr more) =
    front_long most bytes more.0
    ∙ behind_short most (length_field bytes) (drop 4 bytes) more.2 (omega (arith, length-drop 4 bytes, more.0, more.1))

-- nor is what begins with a length that none has
front_none : (most : ℕ) (bytes rest : List ℕ) → IsNoLength most bytes → frame_in most (bytes ++ rest) ≡ Front.Broken
front_none most bytes rest is =
    let field : length_field (bytes ++ rest) ≡ length_field bytes =
    ap (from_be_bytes w32) (take_at bytes rest 4 is.0 ∙ sym (take_all 4 bytes (omega (arith, is.0)))) in
    front_long most (bytes ++ rest) (omega (arith, length-append bytes rest, is.0))
    ∙ behind_none most (length_field (bytes ++ rest)) (drop 4 (bytes ++ rest)) (ap (is_sized most) field ∙ is.1)

pub broken-no_frame : BrokenIsNoFrame
broken-no_frame most all rest is =
    let parts : all ≡ is.bytes ++ rest = WhereTold-prefix is.bytes (Some all) (Some rest) is.taken in
    ap (frame_in most) parts ∙ elim is.broken [
      | inl none ↦ front_none most is.bytes rest none
      | inr ends ↦ ap (λ left. frame_in most (is.bytes ++ left)) ends.1 ∙ ap (frame_in most) (append-nil is.bytes)
          ∙ front_begun most is.bytes is.some ends.0
    ]

-- frames one behind another, with one more
pub frames-more : (texts more : List (List ℕ)) → frames (texts ++ more) ≡ frames texts ++ frames more
frames-more [] more = refl
frames-more (text ∷ texts) more =
    ap (λ rest. frame text ++ rest) (frames-more texts more) ∙ sym (append_assoc (frame text) (frames texts) (frames more))

-- one frame alone
pub frames-one : (text : List ℕ) → frames (text ∷ []) ≡ frame text
frames-one text = append-nil (frame text)
