-- Frames, one by one.
use Rattle.std.proofs.Common.{◌≡◌, ℕ, zero, suc, ◌+◌, List, [], ◌∷◌, length, drop, Some, None, refl, ap, sym, ◌∙◌, length-append, arith}
use Rattle.commit_file.specs.Files.{frame, frames}
use Rattle.commit_file.specs.Kept.{payload_at, payloads_past, payloads, stride, listed, behind_frames}
use Rattle.commit_file.proofs.Frames.{length-body}

-- bytes that are passed over
payloads_past-drop : (n : ℕ) (bytes : List ℕ) → payloads_past n bytes ≡ payloads (drop n bytes)
payloads_past-drop zero bytes = refl
payloads_past-drop (suc n) [] = refl
payloads_past-drop (suc n) (b ∷ bytes) = payloads_past-drop n bytes

-- where no frame begins, none is listed
pub payloads_none : (bytes : List ℕ) → payload_at bytes ≡ None → payloads bytes ≡ []
payloads_none [] none = refl
payloads_none (gate ∷ bytes) none = ap (λ o. listed o (payloads_past (stride o) bytes)) none

-- a frame, and those behind it
payloads_some : (bytes p : List ℕ) → payload_at bytes ≡ Some p → payloads bytes ≡ p ∷ payloads (drop (5 + length p) bytes)
payloads_some [] p some = absurd (cc some)
payloads_some (gate ∷ bytes) p some =
    let five : 5 + length p ≡ suc (4 + length p) = omega arith in
    ap (λ o. listed o (payloads_past (stride o) bytes)) some
    ∙ ap (λ ps. p ∷ ps) (payloads_past-drop (4 + length p) bytes ∙ ap (λ n. payloads (drop n (gate ∷ bytes))) (sym five))

drop-nothing : (n : ℕ) → drop {A = ℕ} n [] ≡ []
drop-nothing zero = refl
drop-nothing (suc n) = refl

drop-drop : (a b : ℕ) (xs : List ℕ) → drop (a + b) xs ≡ drop b (drop a xs)
drop-drop a b [] = drop-nothing (a + b) ∙ sym (ap (drop b) (drop-nothing a) ∙ drop-nothing b)
drop-drop zero b (x ∷ xs) = let none : 0 + b ≡ b = omega arith in ap (λ n. drop n (x ∷ xs)) none
drop-drop (suc a) b (x ∷ xs) =
    let more : suc a + b ≡ suc (a + b) = omega arith in ap (λ n. drop n (x ∷ xs)) more ∙ drop-drop a b xs

-- what stands behind them
pub behind_none : (bytes : List ℕ) → payload_at bytes ≡ None → behind_frames bytes ≡ bytes
behind_none bytes none = ap (λ ps. drop (length (frames ps)) bytes) (payloads_none bytes none)

behind_some : (bytes p : List ℕ) → payload_at bytes ≡ Some p → behind_frames bytes ≡ behind_frames (drop (5 + length p) bytes)
behind_some bytes p some =
    let rest = payloads (drop (5 + length p) bytes) in
    let long : length (frames (p ∷ rest)) ≡ (5 + length p) + length (frames rest) = omega (arith, length-append (frame p) (frames rest), length-body p) in
    ap (λ ps. drop (length (frames ps)) bytes) (payloads_some bytes p some)
    ∙ ap (λ n. drop n bytes) long ∙ drop-drop (5 + length p) (length (frames rest)) bytes

-- ---- the next frame, and what stands behind it

pub one_listed : (bytes p rest : List ℕ) → payload_at bytes ≡ Some p → rest ≡ drop (5 + length p) bytes → payloads bytes ≡ p ∷ payloads rest
one_listed bytes p rest some is = payloads_some bytes p some ∙ ap (λ l. p ∷ payloads l) (sym is)

pub one_behind : (bytes p rest : List ℕ) → payload_at bytes ≡ Some p → rest ≡ drop (5 + length p) bytes
    → behind_frames bytes ≡ behind_frames rest
one_behind bytes p rest some is = behind_some bytes p some ∙ ap behind_frames (sym is)
