-- The verb of a line.
use Rattle.std.proofs.Common.{◌≡◌, ℕ, List, Option, Some, None, Result, Ok, Err, refl, ap}
use Rattle.std.proofs.Common.{subst}
use Rattle.std.specs.Prelude.{IfOk}
use Rattle.std.specs.Result.{result_ok}
use Rattle.predictive_parsing.specs.Reading.{whole}
use Rattle.predictive_parsing.specs.Bytes.{IsByte}
use Rattle.predictive_parsing.proofs.Wholes.{whole_sound, whole_complete}
use Rattle.session_text.specs.declared.verb.Verb.{Verb}
use Rattle.session_text.specs.declared.verb.Verb.TheVariants as asks
use Rattle.session_text.specs.declared.verb.VerbError.{VerbError}
use Rattle.session_text.specs.declared.verb.VerbError.TheVariants as verb
use Rattle.session_text.specs.Lines.{VerbRule, IsVerb}
use Rattle.session_text.specs.code.Lines.{line}
use Rattle.session_text.specs.Follows.{at_end}
use Rattle.session_text.proofs.LineFits.{line_fits}
use Rattle.txn_grammar.specs.Characters.{Text}
use Rattle.session_core.specs.Lines.{asked, of_form, VerbsAreForms}
use Rattle.session_core.specs.code.Reading.{form_of, line_of_form, verb_of}

-- a verb comes only of a reading that went well, and is the one that was read
read_by : (r : Result Verb (List ℕ)) (v : Verb) → result_ok r ≡ Some v → r ≡ Ok v
read_by (Ok found) v e = let k : found ≡ v = cc in ap (λ x. Ok x) k
read_by (Err rest) v e = absurd (cc)

-- what is asked for is of its form
asked_sound : (text : Text) (v : Verb) → asked text ≡ Some v → IsVerb text v
unfolding asked
asked_sound text v e = whole_sound IsByte line VerbRule at_end line_fits refl text v (read_by (whole line text) v e)

-- and each form is asked for
pub asked_complete : (text : Text) (v : Verb) → IsVerb text v → asked text ≡ Some v
unfolding asked
asked_complete text v r = ap result_ok (whole_complete IsByte line VerbRule at_end line_fits refl text v r)

-- a verb is asked for exactly where the text is of its form, by the two lemmas above
pub verbs_are_forms : VerbsAreForms
verbs_are_forms text v = (asked_sound text v, asked_complete text v)

-- a text of no form asks for nothing
pub none_asked : (text : Text) → ((v : Verb) → IsVerb text v → ⊥) → asked text ≡ None
none_asked text none = by (asked text) refl
  where
    by : (o : Option Verb) → asked text ≡ o → o ≡ None
    by (Some v) e = absurd (none v (asked_sound text v e))
    by None e = refl

-- a verb that was read is of the text's form
pub read-verb : (text : Text) (r : Result Verb VerbError) (v : Verb) → IfOk r (λ x. IsVerb text x) → verb_of r ≡ Ok (Some v) → IsVerb text v
read-verb text (Ok found) v h e = let k : found ≡ v = cc in subst (λ (x : Verb). IsVerb text x) k h
read-verb text (Err verb.BadVerb) v h e = absurd (cc)
read-verb text (Err verb.NoMemory) v h e = absurd (cc)

-- none was read only where the text has none
pub read-none : (r : Result Verb VerbError) → verb_of r ≡ Ok None → r ≡ Err verb.BadVerb
read-none (Ok found) e = absurd (cc)
read-none (Err verb.BadVerb) e = refl
read-none (Err verb.NoMemory) e = absurd (cc)

-- what was read is the verb that is asked for
pub asked-is : (text : Text) (r : Result Verb VerbError) (o : Option Verb) → IfOk r (λ x. IsVerb text x)
    → (r ≡ Err verb.BadVerb → (v : Verb) → IsVerb text v → ⊥) → verb_of r ≡ Ok o → asked text ≡ o
asked-is text r (Some v) read bad e = asked_complete text v (read-verb text r v read e)
asked-is text r None read bad e = none_asked text (bad (read-none r e))

-- a line of the form of a verb asks for what that does, and one of no verb's form is refused
pub form_reads : (o : Option Verb) → line_of_form (form_of o) ≡ of_form o
form_reads None = refl
form_reads (Some (asks.Begin text)) = refl
form_reads (Some (asks.Do text)) = refl
form_reads (Some (asks.Try tries text)) = refl
form_reads (Some (asks.Look text)) = refl
form_reads (Some (asks.At number text)) = refl
form_reads (Some (asks.Watch name text)) = refl
form_reads (Some v) = refl
