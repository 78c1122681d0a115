-- What is kept, by what a file holds.
use Rattle.std.proofs.Common.{◌≡◌, Bool, true, false, cond, ltb, ℕ, ◌<◌, ◌^◌, ◌&&◌, not, List, [], length, take, drop, refl, ap, sym, ◌∙◌, arith}
use Rattle.std.proofs.lemmas.Bool.Decides.{Decides-eqb}
use Rattle.std.proofs.lemmas.Slice.Eq.{slice_eq-Decides}
use Rattle.std.specs.Prelude.{nat_eq}
use Rattle.std.specs.Cmp.Lexicographic.{pointwise}
use Rattle.commit_file.specs.declared.version.Version.TheVariants.{One, Two}
use Rattle.commit_file.specs.Files.{Contents, header, opened, end_of}
use Rattle.commit_file.specs.Files.Contents.{Current, Marked}
use Rattle.commit_file.specs.Kept.{Meaning, Reading, kept, checked, payloads, payloads_marked, behind_frames}
use Rattle.commit_file.specs.Kept.Reading.{Journal, NotJournal}
use Rattle.file_oracle.specs.Verdicts.{has_header, is_headless, left_of, all_checked}

-- a header of version 2 is none of version 1
two_not_one : (bytes : List ℕ) → has_header Two bytes ≡ true → has_header One bytes ≡ false
two_not_one bytes two =
    let is : take 12 bytes ≡ header Two =
    (slice_eq-Decides Decides-eqb (take 12 bytes) (header Two) (has_header Two bytes) refl).0 two in
    ap (λ l. pointwise nat_eq l (header One)) is

module _ (m : Meaning) (first behind : List (List ℕ)) where
  -- by whether a file is long, and which header it has
  judged : (long two one : Bool) → (two ≡ true → one ≡ false) → (long && not two && not one) ≡ false
      → cond long (cond two (checked m Two [] 12 first) (cond one (all_checked m (Marked first behind)) (NotJournal 0))) (Journal [])
      ≡ all_checked m (cond long (cond one (Marked first behind) (Current first)) (Current []))
  judged false two one apart headed = refl
  judged true true true apart headed = absurd (cc (apart refl))
  judged true true false apart headed = refl
  judged true false true apart headed = refl
  judged true false false apart headed = absurd (cc headed)

  headless : (long two one : Bool) → (long && not two && not one) ≡ true
      → cond long (cond two (checked m Two [] 12 first) (cond one (all_checked m (Marked first behind)) (NotJournal 0))) (Journal [])
      ≡ NotJournal 0
  headless false two one is = absurd (cc is)
  headless true true one is = absurd (cc is)
  headless true false true is = absurd (cc is)
  headless true false false is = refl

-- of a file that begins as no journal does
pub headless_told : (m : Meaning) (bytes : List ℕ) → is_headless bytes ≡ true → NotJournal 0 ≡ kept m bytes
headless_told m bytes is = sym (headless m (payloads (drop 12 bytes)) (payloads_marked (behind_frames (drop 12 bytes)))
    (ltb 13 (length bytes)) (has_header Two bytes) (has_header One bytes) is)

-- of another what is kept is what its contents are checked to be
pub headed_told : (m : Meaning) (bytes : List ℕ) (reading : Reading) → is_headless bytes ≡ false → reading ≡ all_checked m (left_of bytes)
    → reading ≡ kept m bytes
headed_told m bytes reading headed is = is ∙ sym (judged m (payloads (drop 12 bytes)) (payloads_marked (behind_frames (drop 12 bytes)))
    (ltb 13 (length bytes)) (has_header Two bytes) (has_header One bytes) (two_not_one bytes) headed)

-- what is written in memory fits
pub fits_told : (c : Contents) (bytes : List ℕ) (n : ℕ) → bytes ≡ opened c → n ≡ length bytes → n < 2 ^ 64 → end_of c < 2 ^ 64
fits_told c bytes n is long fits = omega (arith, long, fits, ap length is)
