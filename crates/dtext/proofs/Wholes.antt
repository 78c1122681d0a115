-- The whole of some bytes.
use Rattle.std.proofs.Common.{◌≡◌, ◌≢◌, ◌+◌, ◌-◌, ℕ, Bool, true, length, Option, None, Result, Ok, Err, IfOk, refl, ap, sym, ◌∙◌}
use Rattle.predictive_parsing.specs.Reading.{Reader, whole, whole_of}
use Rattle.predictive_parsing.specs.Rules.{Rule, Whole}
use Rattle.predictive_parsing.specs.Fits.{Fits}
use Rattle.predictive_parsing.specs.Bytes.{IsByte}
use Rattle.predictive_parsing.specs.Columns.{IsColumn}
use Rattle.predictive_parsing.proofs.Wholes.{whole_sound, whole_complete, whole_stops}
use Rattle.predictive_parsing.proofs.Columns.{column_by}
use Rattle.plain_data.specs.Texts.{Bytes}
use Rattle.dtext.specs.declared.error.TextError.{TextError}
use Rattle.dtext.specs.declared.error.TextError.TheVariants.{At, NoMemory}
use Rattle.dtext.specs.Answers.{answer, AnswersEach, RefusesBy}

module _ {A : Type 0} (p : Reader ℕ A) (P : Rule ℕ A) (follows : Option ℕ → Bool) (fp : Fits IsByte p P follows) (ends : follows None ≡ true) where
  -- ---- what a reader answers of the whole

  module _ (bytes : Bytes) (result : Result A TextError) (told : result ≢ Err NoMemory → result ≡ answer (whole_of (p bytes)) (length bytes)) where
    -- a value that is answered was read
    ok_by : (w : Result A Bytes) (a : A) → Ok a ≡ answer w (length bytes) → w ≡ Ok a
    ok_by (Ok b) a e = cc
    ok_by (Err rest) a e = absurd (cc)

    -- a column that is answered is that of the bytes left
    err_by : (w : Result A Bytes) (column : ℕ) → Err (At column) ≡ answer w (length bytes)
        → (rest : Bytes) × (w ≡ Err rest) × (column ≡ length bytes - length rest + 1)
    err_by (Ok b) column e = absurd (cc)
    err_by (Err rest) column e = (rest, refl, cc)

    -- what is answered is a spelling's value
    pub told_ok : (a : A) → result ≡ Ok a → Whole P bytes a
    unfolding whole
    told_ok a e = whole_sound IsByte p P follows fp ends bytes a (ok_by (whole_of (p bytes)) a (sym e ∙ told (λ h. let k = sym e ∙ h in cc)))

    -- each spelling is answered
    pub told_spelling : (a : A) → Whole P bytes a → result ≢ Err NoMemory → result ≡ Ok a
    unfolding whole
    told_spelling a r n = told n ∙ ap (λ w. answer w (length bytes)) (whole_complete IsByte p P follows fp ends bytes a r)

    -- a column that is answered is one
    pub told_column : (column : ℕ) → result ≡ Err (At column) → IsColumn IsByte P bytes column
    unfolding whole
    told_column column e =
        let k = err_by (whole_of (p bytes)) column (sym e ∙ told (λ h. let k = sym e ∙ h in cc)) in
        column_by IsByte P bytes column k.0 (whole_stops IsByte p P follows fp ends bytes k.0 k.1) k.2

  -- what holds of each value that is Ok
  if_ok : (r : Result A TextError) (Q : A → Type 0) → ((a : A) → r ≡ Ok a → Q a) → IfOk r Q
  if_ok (Ok a) Q h = h a refl
  if_ok (Err e) Q h = tt

  -- The three promises of a call that reads the whole of some bytes.
  pub record Promised (bytes : Bytes) (result : Result A TextError) : Type 0 where
    pub read : IfOk result (λ a. Whole P bytes a)
    pub spellings : AnswersEach (Whole P bytes) result
    pub refused : RefusesBy P bytes result

  -- They hold of what the reader makes of a cursor at the first of these bytes.
  pub promised : (bytes cursor : Bytes) (result : Result A TextError) → cursor ≡ bytes
      → (result ≢ Err NoMemory → result ≡ answer (whole_of (p cursor)) (length bytes)) → Promised bytes result
  promised bytes cursor result same told =
      let known : result ≢ Err NoMemory → result ≡ answer (whole_of (p bytes)) (length bytes) =
      λ n. told n ∙ ap (λ ts. answer (whole_of (p ts)) (length bytes)) same in
      record {
        read = if_ok result (λ a. Whole P bytes a) (told_ok bytes result known);
        spellings = told_spelling bytes result known;
        refused = told_column bytes result known;
      }
