-- All commits of a file that was written are counted.
use Rattle.std.proofs.Common.{◌≡◌, ℕ, suc, ◌+◌, ◌-◌, ◌*◌, ◌^◌, ◌<◌, Bool, true, false, List, [], ◌∷◌, ◌++◌, length, fold, refl, ap, sym, ◌∙◌, arith, length-append}
use Rattle.std.specs.Prelude.{min, nat_lt}
use Rattle.std.specs.Int.{w32, to_be_bytes}
use Rattle.std.proofs.Math.Nat.{min-eq_left}
use Rattle.std.proofs.lemmas.Bool.{lt-ltb}
use Rattle.std.proofs.lemmas.List.Sums.{fold-append}
use Rattle.std.proofs.lemmas.Nat.{from_be_bytes-to_be_bytes_4}
use Rattle.commit_file.specs.Files.{Contents, frame, frames, opened, all_of, AreShort, IsShort}
use Rattle.commit_file.specs.Files.Contents.{Current, Marked}
use Rattle.serve_status.specs.declared.frames.FilePlace.TheVariants as place
use Rattle.serve_status.specs.declared.frames.FileReading.{FileReading}
use Rattle.serve_status.specs.Frames.{at, before, longer, with_byte, unread, commits_in}

-- in front of a gate, behind so many commits
abbrev gate : Bool → ℕ → FileReading
gate marks count = record { place = place.Gate; marks = marks; commits = count }

-- a byte of a commit leaves one byte less
before-byte : (left byte : ℕ) (r : FileReading) → with_byte (before (suc left) r) byte ≡ before left r
before-byte left byte r =
    let some : nat_lt 0 (suc left) ≡ true = lt-ltb 0 (suc left) (omega arith) in
    let less : suc left - 1 ≡ left = omega arith in
    rw (some, less) refl

-- so all of its bytes end it
before-all : (p : List ℕ) (r : FileReading) → fold with_byte (before (length p) r) p ≡ before 0 r
before-all [] r = refl
before-all (byte ∷ p) r = ap (λ s. fold with_byte s p) (before-byte (length p) byte r) ∙ before-all p r

-- a length that fits is not cut
longer-fits : (length byte : ℕ) → length * 256 + byte < 2 ^ 64 → longer length byte ≡ length * 256 + byte
longer-fits length byte fits =
    ap (λ n. min (n + byte) (2 ^ 64 - 1)) (min-eq_left (omega (arith, fits))) ∙ min-eq_left (omega (arith, fits))

-- four bytes, the highest first
longer-four : (a b c d n : ℕ) → a * 16777216 + b * 65536 + c * 256 + d ≡ n → n < 2 ^ 32 → longer (longer (longer (longer 0 a) b) c) d ≡ n
longer-four a b c d n is fits =
    ap (λ l. longer (longer (longer l b) c) d) (longer-fits 0 a (omega (arith, is, fits)))
    ∙ ap (λ l. longer (longer l c) d) (longer-fits (0 * 256 + a) b (omega (arith, is, fits)))
    ∙ ap (λ l. longer l d) (longer-fits ((0 * 256 + a) * 256 + b) c (omega (arith, is, fits)))
    ∙ longer-fits (((0 * 256 + a) * 256 + b) * 256 + c) d (omega (arith, is, fits))
    ∙ omega (arith, is)

-- the length of a commit is read as it was written
before-length : (n : ℕ) (r : FileReading) → n < 2 ^ 32 → fold with_byte (at (place.Length 0 0) r) (to_be_bytes w32 n) ≡ before n r
before-length n r fits = ap (λ left. before left r) (longer-four _ _ _ _ n (omega (arith, from_be_bytes-to_be_bytes_4 n fits)) fits)

-- a commit is one more
gate-frame : (marks : Bool) (count : ℕ) (p : List ℕ) → length p < 2 ^ 32 → fold with_byte (gate marks count) (frame p) ≡ gate marks (min (count + 1) (2 ^ 64 - 1))
gate-frame marks count p short =
    fold-append with_byte (at (place.Length 0 0) (gate marks count)) (to_be_bytes w32 (length p)) p
    ∙ ap (λ r. fold with_byte r p) (before-length (length p) (gate marks count) short)
    ∙ before-all p (gate marks count)

-- several are as many more
gate-frames : (marks : Bool) (count : ℕ) (ps : List (List ℕ)) → AreShort ps → count + length ps < 2 ^ 64
    → fold with_byte (gate marks count) (frames ps) ≡ gate marks (count + length ps)
gate-frames marks count [] short fits = ap (gate marks) (omega arith)
gate-frames marks count (p ∷ ps) short fits =
    let one : min (count + 1) (2 ^ 64 - 1) ≡ count + 1 = min-eq_left (omega (arith, fits)) in
    let all : count + 1 + length ps ≡ count + length (p ∷ ps) = omega arith in
    fold-append with_byte (gate marks count) (frame p) (frames ps)
    ∙ ap (λ r. fold with_byte r (frames ps)) (gate-frame marks count p short.0 ∙ ap (gate marks) one)
    ∙ gate-frames marks (count + 1) ps short.1 (omega (arith, fits))
    ∙ ap (gate marks) all

-- behind a closed gate nothing is counted
rest-same : (bytes : List ℕ) (r : FileReading) → fold with_byte (at place.Rest r) bytes ≡ at place.Rest r
rest-same [] r = refl
rest-same (byte ∷ bytes) r = rest-same bytes r

-- from the first on
first-frames : (marks : Bool) (ps : List (List ℕ)) → AreShort ps → length ps < 2 ^ 64 → fold with_byte (gate marks 0) (frames ps) ≡ gate marks (length ps)
first-frames marks ps short fits =
    let none : 0 + length ps ≡ length ps = omega arith in
    gate-frames marks 0 ps short (omega (arith, fits)) ∙ ap (gate marks) none

-- the commits in front of a mark, and those behind it
marked-frames : (old ps : List (List ℕ)) → AreShort old → AreShort ps → length old + length ps < 2 ^ 64
    → fold with_byte (gate true 0) (frames old ++ 2 ∷ frames ps) ≡ gate false (length old + length ps)
marked-frames old ps short_old short fits =
    fold-append with_byte (gate true 0) (frames old) (2 ∷ frames ps)
    ∙ ap (λ r. fold with_byte r (2 ∷ frames ps)) (first-frames true old short_old (omega (arith, fits)))
    ∙ gate-frames false (length old) ps short fits

-- up to where the closed gate stands
unread-opened : (c : Contents) → IsShort c → length (all_of c) < 2 ^ 64 → fold with_byte unread (opened c) ≡ gate false (length (all_of c))
unread-opened (Current ps) short fits = first-frames false ps short fits
unread-opened (Marked old ps) short fits =
    marked-frames old ps short.0 short.1 (omega (arith, fits, length-append old ps)) ∙ ap (gate false) (sym (length-append old ps))

-- and behind it are none
pub commits_in-closed : (c : Contents) (rest : List ℕ) → IsShort c → length (all_of c) < 2 ^ 64 → commits_in (opened c ++ 0 ∷ rest) ≡ length (all_of c)
commits_in-closed c rest short fits =
    ap (λ r. r.commits) (
    fold-append with_byte unread (opened c) (0 ∷ rest)
    ∙ ap (λ r. fold with_byte r (0 ∷ rest)) (unread-opened c short fits)
    ∙ rest-same rest (gate false (length (all_of c)))
    )
