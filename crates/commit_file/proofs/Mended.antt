-- What a crash leaves while the end of a file is mended, marked, or the file is made anew.
use Rattle.std.proofs.Common.{◌≡◌, inl, inr, ℕ, zero, suc, ◌+◌, ◌-◌, ◌<◌, ◌≤◌, Bool, true, false, List, [], ◌∷◌, ◌++◌, length, take, drop, min, refl, ap, sym, ◌∙◌, subst, append_assoc, arith, cond, ltb}
use Rattle.std.proofs.Common.{length-append, Option, Some, None}
use Rattle.std.specs.Prelude.{◌==◌}
use Rattle.std.specs.List.{AllByRecursion}
use Rattle.std.proofs.lemmas.Bool.{cases_eq, lt-ltb}
use Rattle.std.proofs.lemmas.Bool.Decides.{nat_tests}
use Rattle.std.proofs.lemmas.List.{append-nil, take_at, drop_at, take-append-drop, length-take-le}
use Rattle.dio_core.specs.Disks.{Durable, DiskState, settled, loosened, shortened, overwritten}
use Rattle.dio_core.specs.Moments.{LeavesOnly}
use Rattle.commit_file.specs.declared.version.Version.TheVariants.{One, Two}
use Rattle.commit_file.specs.Files.{Contents, header, frames, opened, file, all_of}
use Rattle.commit_file.specs.Files.Contents.{Current}
use Rattle.commit_file.specs.Kept.{Meaning, Reading, payloads, payloads_past, payloads_marked, payload_at, payload_behind, length_field, stride, listed, kept, KeptAs}
use Rattle.commit_file.specs.Kept.Reading.{Journal}
use Rattle.commit_file.specs.Standing.{gate_moments}
use Rattle.commit_file.specs.Through.{resting}
use Rattle.commit_file.specs.Recovering.{replace_moments, OpensNone, HasForm}
use Rattle.commit_file.proofs.Frames.{kept-opened, kept-unmarked, kept-short, payloads-take, payloads-one, payloads-closed}
use Rattle.commit_file.proofs.Images.{take_past, LeavesOnly-settled, LeavesOnly-begun, LeavesOnly-shortened, IsUnreached-loosened, IsUnreached-settled, overwritten-begun}
use Rattle.commit_file.proofs.Opening.{LeavesOnly-gate}

-- ---- what opens no frame

-- a part of what holds no frame behind a mark holds none
marked-take : (n : ℕ) (rest : List ℕ) → payloads_marked rest ≡ [] → payloads_marked (take n rest) ≡ []
marked-take zero rest none = refl
marked-take (suc n) [] none = refl
marked-take (suc n) (mark ∷ rest) none = elim (cases_eq mark 2) [
  | inl is ↦
      let yes : (mark == 2) ≡ true = grind (arith, nat_tests) in
      let behind : payloads rest ≡ [] = ap (λ b. cond b (payloads rest) []) (sym yes) ∙ none in
      ap (λ b. cond b (payloads (take n rest)) []) yes ∙ payloads-take n rest behind
  | inr not ↦
      let no : (mark == 2) ≡ false = grind (arith, nat_tests) in ap (λ b. cond b (payloads (take n rest)) []) no
]

-- nor do bytes that are none at all, or one, or have a byte 0 behind it
marked-one : (rest : List ℕ) → length rest ≤ 1 → payloads_marked rest ≡ []
marked-one [] few = refl
marked-one (mark ∷ []) few = if_none (mark == 2)
  where
    if_none : (b : Bool) → cond b (payloads []) [] ≡ []
    if_none true = refl
    if_none false = refl
marked-one (a ∷ b ∷ rest) few = absurd (omega arith)

marked-two : (mark : ℕ) → payloads_marked (mark ∷ 0 ∷ []) ≡ []
marked-two mark = if_none (mark == 2)
  where
    if_none : (b : Bool) → cond b (payloads (0 ∷ [])) [] ≡ []
    if_none true = refl
    if_none false = refl

-- a byte with a byte 0 behind it opens no frame, for want of a length
payloads-two : (gate : ℕ) → payloads (gate ∷ 0 ∷ []) ≡ []
payloads-two gate = elim (cases_eq gate 1) [
  | inr shut ↦ payloads-closed gate (0 ∷ []) shut
  | inl is_open ↦
      let yes : (gate == 1) ≡ true = grind (arith, nat_tests) in
      let few : ltb 1 (4 + length_field (0 ∷ [])) ≡ true = lt-ltb 1 (4 + length_field (0 ∷ [])) (omega arith) in
      let at : payload_at (gate ∷ 0 ∷ []) ≡ None =
      ap (λ b. cond b (payload_behind (0 ∷ [])) None) yes
      ∙ ap (λ b. cond b None (Some (take (length_field (0 ∷ [])) (drop 4 (0 ∷ []))))) few in
      ap (λ o. listed o (payloads_past (stride o) (0 ∷ []))) at
]

none-take : (unmarked : Bool) (n : ℕ) (rest : List ℕ) → OpensNone unmarked rest → OpensNone unmarked (take n rest)
none-take false n rest none = payloads-take n rest none
none-take true n rest none = (payloads-take n rest none.0, marked-take n rest none.1)

none-one : (unmarked : Bool) (rest : List ℕ) → length rest ≤ 1 → OpensNone unmarked rest
none-one false rest few = payloads-one rest few
none-one true rest few = (payloads-one rest few, marked-one rest few)

none-two : (unmarked : Bool) (gate : ℕ) → OpensNone unmarked (gate ∷ 0 ∷ [])
none-two false gate = payloads-two gate
none-two true gate = (payloads-two gate, marked-two gate)

none-closed : (unmarked : Bool) (rest : List ℕ) → OpensNone unmarked (0 ∷ rest)
none-closed false rest = refl
none-closed true rest = (refl, refl)

-- the written part of a file, and then what opens no frame
pub kept-form : (m : Meaning) (unmarked : Bool) (front : List ℕ) (ps : List (List ℕ)) (rest : List ℕ) → HasForm m unmarked front ps
    → OpensNone unmarked rest → kept m (front ++ rest) ≡ Journal ps
kept-form m false front ps rest form none =
    ap (λ l. kept m (l ++ rest)) form.1 ∙ kept-opened m form.0 rest form.3 none ∙ ap Journal form.2
kept-form m true front ps rest form none =
    ap (λ l. kept m (l ++ rest)) form.0 ∙ kept-unmarked m ps rest form.1 form.2 none.0 none.1

-- ---- the mark

length-closed : (front : List ℕ) → length (front ++ 0 ∷ []) ≡ length front + 1
length-closed front = length-append front (0 ∷ [])

-- a closed gate behind the closed gate
staged-is : (front : List ℕ) → overwritten (front ++ 0 ∷ []) (length front + 1) (0 ∷ []) ≡ front ++ 0 ∷ 0 ∷ []
staged-is front =
    let closed = front ++ 0 ∷ [] in
    ap (λ k. overwritten closed k (0 ∷ [])) (sym (length-closed front))
    ∙ ap (λ l. overwritten l (length closed) (0 ∷ [])) (sym (append-nil closed))
    ∙ overwritten-begun closed [] (0 ∷ []) ∙ append_assoc front (0 ∷ []) (0 ∷ [])

-- and the mark in the place of the first
pub marked-is : (front : List ℕ)
    → overwritten (overwritten (front ++ 0 ∷ []) (length front + 1) (0 ∷ [])) (length front) (2 ∷ []) ≡ front ++ 2 ∷ 0 ∷ []
marked-is front = ap (λ l. overwritten l (length front) (2 ∷ [])) (staged-is front) ∙ overwritten-begun front (0 ∷ 0 ∷ []) (2 ∷ [])

-- ---- the moments

module _ (m : Meaning) (unmarked : Bool) (front : List ℕ) (ps : List (List ℕ)) (form : HasForm m unmarked front ps) where
  abbrev P : Durable → Type 0
  P = LeavesOnly (KeptAs m ps)

  abbrev n : ℕ
  n = length front

  holds : (rest : List ℕ) → OpensNone unmarked rest → KeptAs m ps (front ++ rest)
  holds rest none = kept-form m unmarked front ps rest form none

  front_alone : KeptAs m ps front
  front_alone = ap (kept m) (sym (append-nil front)) ∙ holds [] (none-one unmarked [] (omega arith))

  -- one byte is written at the end of the written part
  gate : P (loosened n (n + 1) (settled front))
  gate =
      LeavesOnly-begun (KeptAs m ps) n front (loosened n (n + 1) (settled front))
      (IsUnreached-loosened n n (n + 1) (settled front) (omega arith) (IsUnreached-settled n front (omega arith)))
      (ap (take n) (sym (append-nil front)) ∙ take_at front [] n refl)
      (λ back long. holds back (none-one unmarked back (omega (arith, long))))

  done : P (settled (overwritten front n (0 ∷ [])))
  done = LeavesOnly-settled (KeptAs m ps) (overwritten front n (0 ∷ []))
      (ap (λ l. kept m (overwritten l n (0 ∷ []))) (sym (append-nil front))
      ∙ ap (kept m) (overwritten-begun front [] (0 ∷ [])) ∙ holds (0 ∷ []) (none-closed unmarked []))

  module _ (rest : List ℕ) (none : OpensNone unmarked rest) where
    cut_front : take n (front ++ rest) ≡ front
    cut_front = take_at front rest n refl

    cut_short : P (shortened n (settled (front ++ rest)))
    cut_short =
        LeavesOnly-shortened (KeptAs m ps) n (front ++ rest) (omega (arith, length-append front rest)) (λ k above below.
        let parts : take k (front ++ rest) ≡ front ++ take (k - n) rest = take_past front rest k (k - n) (omega arith) in
        ap (kept m) parts ∙ holds (take (k - n) rest) (none-take unmarked (k - n) rest none))

    -- each moment of mending the end
    pub mended : AllByRecursion P (replace_moments n (0 ∷ []) (resting (front ++ rest)))
    mended =
        let start : P (settled (front ++ rest)) = LeavesOnly-settled (KeptAs m ps) (front ++ rest) (holds rest none) in
        let low : n ≡ min n (length front) = omega arith in
        let cut_done : P (settled (take n (front ++ rest))) =
        subst (λ f. P (settled f)) (sym cut_front) (LeavesOnly-settled (KeptAs m ps) front front_alone) in
        let loose : P (loosened (min n (length (take n (front ++ rest)))) (n + 1) (settled (take n (front ++ rest)))) =
        subst (λ f. P (loosened (min n (length f)) (n + 1) (settled f))) (sym cut_front)
        (subst (λ k. P (loosened k (n + 1) (settled front))) low gate) in
        let written : P (settled (overwritten (take n (front ++ rest)) n (0 ∷ []))) =
        subst (λ f. P (settled (overwritten f n (0 ∷ [])))) (sym cut_front) done in
        (start, (cut_short, (cut_done, (cut_done, (loose, (written, tt))))))

  -- ---- a mark in the place of the closed gate

  abbrev closed : List ℕ
  closed = front ++ 0 ∷ []

  -- with a closed gate behind it
  abbrev staged : List ℕ
  staged = overwritten closed (n + 1) (0 ∷ [])

  behind_loose : P (loosened (min (n + 1) (length closed)) (n + 1 + 1) (settled closed))
  behind_loose =
      let low : min (n + 1) (length closed) ≡ n + 1 = omega (arith, length-closed front) in
      LeavesOnly-begun (KeptAs m ps) (n + 1) closed (loosened (min (n + 1) (length closed)) (n + 1 + 1) (settled closed))
      (IsUnreached-loosened (n + 1) (min (n + 1) (length closed)) (n + 1 + 1) (settled closed) (omega (arith, low))
      (IsUnreached-settled (n + 1) closed (omega (arith, length-closed front))))
      (ap (take (n + 1)) (sym (append-nil closed)) ∙ take_at closed [] (n + 1) (length-closed front))
      (λ back long. ap (kept m) (append_assoc front (0 ∷ []) back) ∙ holds (0 ∷ back) (none-closed unmarked back))

  gate_loose : P (loosened (min n (length staged)) (n + 1) (settled staged))
  gate_loose =
      let long : length staged ≡ n + 2 = ap length (staged-is front) ∙ length-append front (0 ∷ 0 ∷ []) in
      LeavesOnly-gate (KeptAs m ps) n front (0 ∷ []) (loosened (min n (length staged)) (n + 1) (settled staged))
      (IsUnreached-loosened n (min n (length staged)) (n + 1) (settled staged) (omega (arith, long)) (IsUnreached-settled n staged (omega (arith, long))))
      (omega arith, tt) (omega arith) (omega (arith, long)) (omega (arith, long))
      (ap (take n) (staged-is front) ∙ take_at front (0 ∷ 0 ∷ []) n refl)
      (ap (drop (n + 1)) (staged-is front ∙ sym (append_assoc front (0 ∷ []) (0 ∷ []))) ∙ drop_at closed (0 ∷ []) (n + 1) (length-closed front))
      (λ mark. holds (mark ∷ 0 ∷ []) (none-two unmarked mark))

  -- each moment of marking the end
  pub marked : AllByRecursion P (gate_moments 2 n (0 ∷ []) (resting closed))
  marked =
      let start : P (settled closed) = LeavesOnly-settled (KeptAs m ps) closed (holds (0 ∷ []) (none-closed unmarked [])) in
      let written : P (settled staged) =
      LeavesOnly-settled (KeptAs m ps) staged (ap (kept m) (staged-is front) ∙ holds (0 ∷ 0 ∷ []) (none-closed unmarked (0 ∷ []))) in
      let set : P (settled (overwritten staged n (2 ∷ []))) =
      LeavesOnly-settled (KeptAs m ps) (overwritten staged n (2 ∷ [])) (ap (kept m) (marked-is front) ∙ holds (2 ∷ 0 ∷ []) (none-two unmarked 2)) in
      (start, (behind_loose, (written, (written, (gate_loose, (set, tt))))))

-- each moment of making a file of at most 13 bytes anew
pub made_anew : (m : Meaning) (old : List ℕ) → length old ≤ 13
    → AllByRecursion (LeavesOnly (KeptAs m [])) (replace_moments 0 (file (Current [])) (resting old))
made_anew m old short =
    let P : Durable → Type 0 = LeavesOnly (KeptAs m []) in
    let start : P (settled old) = LeavesOnly-settled (KeptAs m []) old (kept-short m old short) in
    let cut : P (shortened 0 (settled old)) = λ image left. kept-short m image (omega (arith, left.no_longer)) in
    let none : P (settled []) = LeavesOnly-settled (KeptAs m []) [] refl in
    let loose : P (loosened 0 13 (settled [])) = λ image left. kept-short m image (omega (arith, left.no_longer)) in
    let done : P (settled (file (Current []))) = LeavesOnly-settled (KeptAs m []) (file (Current [])) refl in
    (start, (cut, (none, (none, (loose, (done, tt))))))

-- a file in two parts
pub kept_parts : (m : Meaning) (unmarked : Bool) (ps : List (List ℕ)) (end : ℕ) (bytes : List ℕ) → HasForm m unmarked (take end bytes) ps
    → OpensNone unmarked (drop end bytes) → KeptAs m ps bytes
kept_parts m unmarked ps end bytes form none =
    ap (kept m) (sym (take-append-drop end bytes)) ∙ kept-form m unmarked (take end bytes) ps (drop end bytes) form none

-- each moment of mending the end of a file
pub mended_at : (m : Meaning) (unmarked : Bool) (ps : List (List ℕ)) (end : ℕ) (bytes : List ℕ) → end ≤ length bytes
    → HasForm m unmarked (take end bytes) ps → OpensNone unmarked (drop end bytes)
    → AllByRecursion (LeavesOnly (KeptAs m ps)) (replace_moments end (0 ∷ []) (resting bytes))
mended_at m unmarked ps end bytes within form none =
    let front = take end bytes in
    let P : Durable → Type 0 = LeavesOnly (KeptAs m ps) in
    subst (λ f. AllByRecursion P (replace_moments end (0 ∷ []) (resting f))) (take-append-drop end bytes)
    (subst (λ n. AllByRecursion P (replace_moments n (0 ∷ []) (resting (front ++ drop end bytes)))) (length-take-le end bytes within)
    (mended m unmarked front ps form (drop end bytes) none))

-- each moment of marking it
pub marked_at : (m : Meaning) (ps : List (List ℕ)) (end : ℕ) (bytes : List ℕ) → end ≤ length bytes → HasForm m true (take end bytes) ps
    → AllByRecursion (LeavesOnly (KeptAs m ps)) (gate_moments 2 end (0 ∷ []) (resting (take end bytes ++ 0 ∷ [])))
marked_at m ps end bytes within form =
    subst (λ n. AllByRecursion (LeavesOnly (KeptAs m ps)) (gate_moments 2 n (0 ∷ []) (resting (take end bytes ++ 0 ∷ []))))
    (length-take-le end bytes within) (marked m true (take end bytes) ps form)
