-- What reading a frame has taken on its way, piece by piece.
use Rattle.std.proofs.Common.{◌≡◌, ℕ, ◌+◌, ◌-◌, ◌<◌, ◌≤◌, List, ◌++◌, length, take, drop, Option, refl, ap, sym, ◌∙◌, inr, arith}
use Rattle.std.proofs.Common.{length-append, length-drop, take-take}
use Rattle.std.proofs.lemmas.Slice.{take-put_mid}
use borrow.Rule.Slice.PartMut.{put_mid, mid_of, same_len_mid}
use Rattle.std.specs.Prelude.{Result, Err}
use Rattle.std.specs.Int.{w32, to_be_bytes, from_be_bytes}
use Rattle.std.proofs.lemmas.List.{take_all, take_at, length-take-le}
use Rattle.std.proofs.Math.Seq.{take-append-add}
use Rattle.dio_core.specs.Sources.{with_prefix}
use Rattle.dio_core.proofs.Sources.{with_prefix-append}
use Rattle.wire_frames.specs.declared.reading.FrameFault.{FrameFault}
use Rattle.wire_frames.specs.declared.reading.FrameFault.TheVariants as fault
use Rattle.wire_frames.specs.Frames.{is_sized, length_field, HasLength, LacksMemory, TakesFrame}
use Rattle.wire_frames.specs.code.Pieces.{Fronts, IsShortOf, Lacks}
use Rattle.wire_frames.proofs.Cut.{is_sized-text}

-- ---- a buffer is filled

-- the bytes that were read into the rest of it stand behind those that do
pub fronts-more : (count more : ℕ) (buffer piece : List ℕ) (old mid new : Option (List ℕ)) → Fronts count buffer old mid
    → more ≤ length piece → length piece ≡ length (mid_of count (length buffer - count) buffer) → mid ≡ with_prefix (take more piece) new
    → Fronts (count + more) (put_mid count (length buffer - count) buffer piece) old new
fronts-more count more buffer piece old mid new fronts within size next =
    let rest = length buffer - count in
    let filled = put_mid count rest buffer piece in
    let long = length-take-le count buffer fronts.within in
    let whole = same_len_mid count rest buffer piece size in
    let room = length-take-le rest (drop count buffer) (omega (arith, length-drop count buffer)) in
    let front : take (count + more) filled ≡ take count buffer ++ take more piece =
    sym (take-take (count + more) (count + length piece) filled (omega (arith, within)))
    ∙ ap (take (count + more)) (take-put_mid count rest buffer piece (count + length piece) refl fronts.within)
    ∙ ap (λ n. take (n + more) (take count buffer ++ piece)) (sym long)
    ∙ take-append-add (take count buffer) piece more in record {
      within = omega (arith, whole, room, size, within, fronts.within);
      taken =
          fronts.taken ∙ ap (with_prefix (take count buffer)) next ∙ sym (with_prefix-append (take count buffer) (take more piece) new)
          ∙ ap (λ bytes. with_prefix bytes new) (sym front);
    }

-- ---- pieces of a frame

-- what was kept, and then a piece
taken-more : (kept piece kept_then : List ℕ) (old mid new : Option (List ℕ)) → old ≡ with_prefix kept mid → kept_then ≡ kept ++ piece
    → mid ≡ with_prefix piece new → old ≡ with_prefix kept_then new
taken-more kept piece kept_then old mid new first is next =
    first ∙ ap (with_prefix kept) next ∙ sym (with_prefix-append kept piece new) ∙ ap (λ bytes. with_prefix bytes new) (sym is)

-- fewer bytes than a piece, behind what was kept, are fewer than the whole
short-behind : (kept : List ℕ) (more size : ℕ) (old mid new : Option (List ℕ)) → old ≡ with_prefix kept mid → length kept + more ≤ size
    → IsShortOf more mid new → IsShortOf size old new
short-behind kept more size old mid new first within short = record {
  begun = kept ++ short.begun;
  few = omega (arith, length-append kept short.begun, short.few, within);
  taken = taken-more kept short.begun (kept ++ short.begun) old mid new first refl short.taken;
}

pub lacks-behind : (why : FrameFault) (kept : List ℕ) (more size : ℕ) (old mid new : Option (List ℕ)) → old ≡ with_prefix kept mid
    → length kept + more ≤ size → Lacks why more mid new → Lacks why size old new
lacks-behind fault.Broken kept more size old mid new first within lacks =
    (short-behind kept more size old mid new first within lacks.0, lacks.1)
lacks-behind fault.ReadFault kept more size old mid new first within lacks = short-behind kept more size old mid new first within lacks
lacks-behind fault.NoMemory kept more size old mid new first within lacks = short-behind kept more size old mid new first within lacks

-- ---- a whole frame

-- a full buffer is what was taken
pub head-taken : (count : ℕ) (head : List ℕ) (old mid : Option (List ℕ)) → Fronts count head old mid → length head ≤ count → old ≡ with_prefix head mid
head-taken count head old mid fronts full = fronts.taken ∙ ap (λ bytes. with_prefix bytes mid) (take_all count head full)

-- WHAT A LENGTH HAS: four bytes that spell it, and it is one that a frame has.
pub record IsHead (most size : ℕ) (head : List ℕ) : Type 0 where
  pub four : length head ≡ 4
  pub number : size ≡ from_be_bytes w32 head
  pub spelled : to_be_bytes w32 size ≡ head
  pub some : 0 < size
  pub within : size ≤ most

-- behind it the length is that still
field-behind : (most size : ℕ) (head begun : List ℕ) → IsHead most size head → length_field (head ++ begun) ≡ size
field-behind most size head begun is = ap (from_be_bytes w32) (take_at head begun 4 is.four) ∙ sym is.number

-- a length, and fewer bytes than it tells, begin a frame
begun-behind : (most size : ℕ) (head begun : List ℕ) → IsHead most size head → length begun < size → HasLength most (head ++ begun)
begun-behind most size head begun is few =
    let field = field-behind most size head begun is in (
      omega (arith, length-append head begun, is.four),
      omega (arith, length-append head begun, is.four, few, field),
      ap (is_sized most) field ∙ is_sized-text most size is.some is.within,
    )

-- fewer are none
pub takes-lacks : (most size : ℕ) (head : List ℕ) (why : FrameFault) (old mid new : Option (List ℕ)) → IsHead most size head
    → old ≡ with_prefix head mid → Lacks why size mid new → TakesFrame most (Err why) old new
takes-lacks most size head fault.Broken old mid new is first lacks = record {
  bytes = head ++ lacks.0.begun;
  some = omega (arith, length-append head lacks.0.begun, is.four);
  broken = inr (inr (begun-behind most size head lacks.0.begun is lacks.0.few), lacks.1);
  taken = taken-more head lacks.0.begun (head ++ lacks.0.begun) old mid new first refl lacks.0.taken;
}
takes-lacks most size head fault.ReadFault old mid new is first lacks = record {
  begun = head ++ lacks.begun;
  within = inr (begun-behind most size head lacks.begun is lacks.few);
  taken = taken-more head lacks.begun (head ++ lacks.begun) old mid new first refl lacks.taken;
}
takes-lacks most size head fault.NoMemory old mid new is first lacks = record {
  begun = head ++ lacks.begun;
  within = inr (begun-behind most size head lacks.begun is lacks.few);
  taken = taken-more head lacks.begun (head ++ lacks.begun) old mid new first refl lacks.taken;
}

-- an error that goes on as want of memory was that
pub memory-told : {A : Type 0} (result : Result A FrameFault) (told why : FrameFault) → result ≡ Err told → told ≡ why
    → result ≡ Err fault.NoMemory → why ≡ fault.NoMemory
memory-told result told why goes_on is e = cc

-- where memory is wanting, a length was taken
pub memory-lacks : (most size : ℕ) (head : List ℕ) (why : FrameFault) (old mid new : Option (List ℕ)) → IsHead most size head
    → old ≡ with_prefix head mid → Lacks why size mid new → why ≡ fault.NoMemory → LacksMemory most old new
memory-lacks most size head fault.Broken old mid new is first lacks e = absurd cc
memory-lacks most size head fault.ReadFault old mid new is first lacks e = absurd cc
memory-lacks most size head fault.NoMemory old mid new is first lacks e = record {
  begun = head ++ lacks.begun;
  within = begun-behind most size head lacks.begun is lacks.few;
  taken = taken-more head lacks.begun (head ++ lacks.begun) old mid new first refl lacks.taken;
}
