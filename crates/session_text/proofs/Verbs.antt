-- The whole of a line.
use Rattle.std.proofs.Common.{◌≡◌, ◌≢◌, Result, Ok, Err, IfOk, refl, ap, sym, ◌∙◌}
use Rattle.plain_data.specs.Texts.{Bytes}
use Rattle.predictive_parsing.specs.Reading.{whole, whole_of}
use Rattle.predictive_parsing.specs.Bytes.{IsByte}
use Rattle.predictive_parsing.proofs.Wholes.{whole_sound, whole_complete}
use Rattle.session_text.specs.declared.verb.Verb.{Verb}
use Rattle.session_text.specs.declared.verb.VerbError.{VerbError}
use Rattle.session_text.specs.declared.verb.VerbError.TheVariants.{BadVerb, NoMemory}
use Rattle.session_text.specs.Answers.{verb_answer}
use Rattle.session_text.specs.Lines.{VerbRule, IsVerb}
use Rattle.session_text.specs.code.Lines.{line}
use Rattle.session_text.specs.Follows.{at_end}
use Rattle.session_text.proofs.LineFits.{line_fits}

module _ (bytes cursor : Bytes) (result : Result Verb VerbError) (same : cursor ≡ bytes)
    (told : result ≢ Err NoMemory → result ≡ verb_answer (whole_of (line cursor))) where
  -- what was told of the bytes at the cursor holds of the line, at whose start the cursor stands
  known : result ≢ Err NoMemory → result ≡ verb_answer (whole line bytes)
  unfolding whole
  known n = told n ∙ ap (λ ts. verb_answer (whole_of (line ts))) same

  -- only a line that was read is answered with a verb
  ok_by : (w : Result Verb Bytes) (verb : Verb) → Ok verb ≡ verb_answer w → w ≡ Ok verb
  ok_by (Ok b) verb e = cc
  ok_by (Err rest) verb e = absurd (cc)

  -- what is answered is asked for
  verb_read : (r : Result Verb VerbError) → result ≡ r → IfOk r (λ verb. IsVerb bytes verb)
  verb_read (Ok verb) e =
      whole_sound IsByte line VerbRule at_end line_fits refl bytes verb
      (ok_by (whole line bytes) verb (sym e ∙ known (λ h. let k = sym e ∙ h in cc)))
  verb_read (Err error) e = tt

  -- so the verb that is answered is one that the line asks for
  pub read_is : IfOk result (λ verb. IsVerb bytes verb)
  read_is = verb_read result refl

  -- each form is answered
  pub forms_are : (verb : Verb) → IsVerb bytes verb → result ≢ Err NoMemory → result ≡ Ok verb
  forms_are verb r n = known n ∙ ap verb_answer (whole_complete IsByte line VerbRule at_end line_fits refl bytes verb r)

  -- so what is refused is none
  pub bad_is : result ≡ Err BadVerb → (verb : Verb) → IsVerb bytes verb → ⊥
  bad_is e verb r = let k = forms_are verb r (λ h. let m = sym e ∙ h in cc) in let m = sym e ∙ k in cc
