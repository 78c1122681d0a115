-- A text without the blanks at its end, by its last byte.
use Rattle.std.proofs.Common.{◌≡◌, ℕ, Bool, ◌<◌, ◌≤◌, ◌+◌, ◌-◌, true, false, List, [], ◌∷◌, ◌++◌, length, take, get_or, arith, refl, sym, ap, ◌∙◌}
use Rattle.std.proofs.lemmas.List.{take_more}
use Rattle.std.proofs.Math.Seq.{take-append_seam}
use Rattle.std.specs.Prelude.{if◌then◌else◌}
use Rattle.std.proofs.lemmas.List.Elements.{All-nil, All-cons}
use Rattle.txn_grammar.specs.Characters.{is_blank}
use Rattle.txn_grammar.specs.Parsed.{parsed}
use Rattle.txn_grammar.specs.Blanks.{AreBlank}
use Rattle.txn_grammar.proofs.Blanks.{keep_body}
use Rattle.journal_core.specs.Bodies.{ends_in_blank}
use Rattle.session_core.specs.Words.{trimmed_end, unless_last_blank}

-- a blank at the end goes
trimmed_end-blank : (z : List ℕ) (b : ℕ) → is_blank b ≡ true → trimmed_end (z ++ b ∷ []) ≡ trimmed_end z
trimmed_end-blank [] b h = rw h
trimmed_end-blank (x ∷ z) b h = ap (unless_last_blank x) (trimmed_end-blank z b h)

-- a byte before others stays, whether it is a blank or not
unless_last_blank-longer : (x : ℕ) (z : List ℕ) (b : ℕ) → unless_last_blank x (z ++ b ∷ []) ≡ x ∷ (z ++ b ∷ [])
unless_last_blank-longer x [] b = refl
unless_last_blank-longer x (y ∷ z) b = refl

-- another byte at the end stays, and all before it
trimmed_end-solid : (z : List ℕ) (b : ℕ) → is_blank b ≡ false → trimmed_end (z ++ b ∷ []) ≡ z ++ b ∷ []
trimmed_end-solid [] b h = rw h
trimmed_end-solid (x ∷ z) b h = ap (unless_last_blank x) (trimmed_end-solid z b h) ∙ unless_last_blank-longer x z b

-- a prefix, by its last byte
take-last : (z : List ℕ) (n : ℕ) → 0 < n → n ≤ length z → take n z ≡ take (n - 1) z ++ get_or z (n - 1) 0 ∷ []
take-last z n some within =
    let more : n ≡ n - 1 + 1 = omega arith in
    let inside : n - 1 < length z = omega arith in
    ap (λ (k : ℕ). take k z) more ∙ take_more z (n - 1) 0 inside

-- the last byte of a prefix is a blank at its end, and goes
pub trimmed_end-take-blank : (z : List ℕ) (n : ℕ) → 0 < n → n ≤ length z → is_blank (get_or z (n - 1) 0) ≡ true
    → trimmed_end (take n z) ≡ trimmed_end (take (n - 1) z)
trimmed_end-take-blank z n some within blank = ap trimmed_end (take-last z n some within) ∙ trimmed_end-blank (take (n - 1) z) _ blank

-- the last byte of a prefix is no blank, so it stays, and all before it
pub trimmed_end-take-solid : (z : List ℕ) (n : ℕ) → 0 < n → n ≤ length z → is_blank (get_or z (n - 1) 0) ≡ false → trimmed_end (take n z) ≡ take n z
trimmed_end-take-solid z n some within solid =
    ap trimmed_end (take-last z n some within) ∙ (trimmed_end-solid (take (n - 1) z) _ solid ∙ sym (take-last z n some within))

-- what is left doesn't end in a blank, since a byte that is left at the end is none
pub trimmed_end-trimmed : (z : List ℕ) → ends_in_blank (trimmed_end z) ≡ false
trimmed_end-trimmed [] = refl
trimmed_end-trimmed (b ∷ z) = by (trimmed_end z) (trimmed_end-trimmed z)
  where
    last : (x : Bool) → is_blank b ≡ x → ends_in_blank (if x then [] else b ∷ []) ≡ false
    last true e = refl
    last false e = e

    by : (left : List ℕ) → ends_in_blank left ≡ false → ends_in_blank (unless_last_blank b left) ≡ false
    by [] h = last (is_blank b) refl
    by (c ∷ left) h = h

-- ---- a text is what is left of it, and blanks

-- byte by byte from the back: a blank joins the blanks where nothing is left behind it, and any other byte stays
split : (z : List ℕ) → (w : List ℕ) × AreBlank w × (z ≡ trimmed_end z ++ w)
split [] = ([], All-nil (λ b. is_blank b ≡ true), refl)
split (b ∷ z) = let rest = split z in by (trimmed_end z) (is_blank b) refl rest.0 rest.1 rest.2
  where
    by : (left : List ℕ) (blank : Bool) → is_blank b ≡ blank → (w : List ℕ) → AreBlank w → z ≡ left ++ w
        → (v : List ℕ) × AreBlank v × (b ∷ z ≡ unless_last_blank b left ++ v)
    by [] true e w all cut =
        (b ∷ w, All-cons (λ x. is_blank x ≡ true) b w e all, ap (λ x. b ∷ x) cut ∙ sym (ap (λ t. (if t then [] else b ∷ []) ++ (b ∷ w)) e))
    by [] false e w all cut = (w, all, ap (λ x. b ∷ x) cut ∙ sym (ap (λ t. (if t then [] else b ∷ []) ++ w) e))
    by (c ∷ left) blank e w all cut = (w, all, ap (λ x. b ∷ x) cut)

-- blanks at the end mean nothing to the grammar
pub parsed_trimmed : (z : List ℕ) → parsed (trimmed_end z) ≡ parsed z
parsed_trimmed z = let cut = split z in sym (ap parsed cut.2 ∙ keep_body (trimmed_end z) cut.0 cut.1)

-- a text begins with what is left of it, since only blanks behind that are gone
pub take-trimmed : (z : List ℕ) → take (length (trimmed_end z)) z ≡ trimmed_end z
take-trimmed z = let cut = split z in ap (take (length (trimmed_end z))) cut.2 ∙ take-append_seam (trimmed_end z) cut.0
