-- The reader of lines reads what their rule derives.
use Rattle.std.proofs.Common.{◌≡◌, ◌<◌, ◌≤◌, ℕ, Bool, true, false, not, [], ◌∷◌, ◌++◌, Option, Some, None, refl, ap, ◌∙◌, inl, inr, arith}
use Rattle.std.proofs.lemmas.Bool.Decides.{nat_tests}
use Rattle.plain_data.specs.Texts.{Bytes}
use Rattle.std.specs.List.{AllPass}
use Rattle.std.proofs.lemmas.List.Elements.{All-head}
use Rattle.predictive_parsing.specs.Reading.{Reader, and_then, next, pure, ahead, passing}
use Rattle.predictive_parsing.specs.Rules.{Rule, One, Then, Pure, Run}
use Rattle.predictive_parsing.specs.Fits.{Fits, any, unless}
use Rattle.predictive_parsing.specs.Bytes.{IsByte}
use Rattle.predictive_parsing.specs.Choices.{In, AreWords}
use Rattle.predictive_parsing.proofs.Combined.{pure_fits, one_fits, seen, onwards, followed, narrowed, either_fits, run_fits, run_up_to_fits, passing_ahead}
use Rattle.predictive_parsing.proofs.Choices.{one_of_fits}
use Rattle.dtext.specs.Characters.{is_blank, is_letter, is_digit, is_word}
use Rattle.dtext.specs.Follows.{no_digit}
use Rattle.dtext.specs.Spellings.{NaturalRule}
use Rattle.dtext.proofs.NumberFits.{natural_fits, positive_fits, digit_first}
use Rattle.session_text.specs.code.Words.{verbs_are_bytes}
use Rattle.session_text.specs.declared.limits.TheConstants.{MOST_ATTEMPTS, LARGEST, NAME_REST}
use Rattle.session_text.specs.declared.verb.Verb.{Verb}
use Rattle.session_text.specs.declared.verb.Verb.TheVariants as verb
use Rattle.session_text.specs.declared.words.TheConstants.{OTHER_VERBS}
use Rattle.session_text.specs.declared.words.VerbWord.{VerbWord}
use Rattle.session_text.specs.declared.words.VerbWord.TheVariants as word
use Rattle.session_text.specs.Follows.{at_end}
use Rattle.session_text.specs.Lines.{is_solid, is_any, Gap, Rest, BodyRule, NameRule, Alone, word_of, Form, VerbRule}
use Rattle.session_text.specs.code.Lines.{gap, solid, rest, body, name, alone, tries, at, watch, unwatch, form, line}

-- ---- what follows

-- no blank
abbrev no_blank : Option ℕ → Bool
no_blank = unless (ahead is_blank) any

-- nothing that a word goes on with
abbrev pub no_word : Option ℕ → Bool
no_word = unless (ahead is_word) any

-- there is no byte at the end
at_end_none : (h : Option ℕ) → at_end h ≡ true → h ≡ None
at_end_none None e = refl
at_end_none (Some b) e = absurd (cc)

-- so what may follow where none is may follow there
at_end_follows : (follows : Option ℕ → Bool) → follows None ≡ true → (h : Option ℕ) → at_end h ≡ true → follows h ≡ true
at_end_follows follows e h n = ap follows (at_end_none h n) ∙ e

module _ {A : Type 0} {p : Reader ℕ A} {P : Rule ℕ A} {follows : Option ℕ → Bool} where
  -- nothing may follow, where that is enough
  ending : follows None ≡ true → Fits IsByte p P follows → Fits IsByte p P at_end
  ending e fp = narrowed IsByte at_end (at_end_follows follows e) fp

-- ---- bytes apart

-- a blank is nothing else
blank_is : (b : ℕ) → is_blank b ≡ true → (is_digit b ≡ false) × (is_word b ≡ false)
blank_is b e = (grind (arith, nat_tests, e), grind (arith, nat_tests, e))

-- where a blank is ahead, a number and a name end
blank_no_digit : (h : Option ℕ) → ahead is_blank h ≡ true → no_digit h ≡ true
blank_no_digit None e = absurd (cc)
blank_no_digit (Some b) e = ap not (blank_is b e).0

-- the same of a name, as it goes on with no blank
blank_no_word : (h : Option ℕ) → ahead is_blank h ≡ true → no_word h ≡ true
blank_no_word None e = absurd (cc)
blank_no_word (Some b) e = ap not (blank_is b e).1

-- where something solid is ahead, blanks end
solid_no_blank : (h : Option ℕ) → ahead is_solid h ≡ true → no_blank h ≡ true
solid_no_blank None e = absurd (cc)
solid_no_blank (Some b) e = e

-- a letter is solid
letter_solid : (h : Option ℕ) → ahead is_letter h ≡ true → no_blank h ≡ true
letter_solid None e = absurd (cc)
letter_solid (Some b) e = let k : is_blank b ≡ false = grind (arith, nat_tests, e) in ap not k

-- ---- the parts of a line

-- blanks
gap_fits : Fits IsByte gap Gap no_blank
unfolding gap
gap_fits = onwards IsByte (one_fits IsByte (passing is_blank) 32 32 refl (omega arith)) (λ _. seen IsByte (λ _. tt) (run_fits IsByte is_blank))

-- a blank is ahead
gap_begins : (ts us : Bytes) (a : Unit {0}) → Gap ts a us → ahead is_blank (next ts) ≡ true
gap_begins ts us a r = passing_ahead IsByte is_blank ts r.middle r.value r.first

-- some bytes, the first solid
abbrev Solid : Rule ℕ Bytes
Solid = Then (One (passing is_solid)) (λ first. Then (Run is_any) (λ others. Pure (first ∷ others)))

-- one solid byte and a run of any bytes, which only the end stops
solid_fits : Fits IsByte solid Solid at_end
unfolding solid
solid_fits =
    onwards IsByte (one_fits IsByte (passing is_solid) 97 97 refl (omega arith))
    (λ first. seen IsByte (λ others. first ∷ others) (run_fits IsByte is_any))

-- the first of these bytes is solid
solid_begins : (ts us a : Bytes) → Solid ts a us → ahead is_solid (next ts) ≡ true
solid_begins ts us a r = passing_ahead IsByte is_solid ts r.middle r.value r.first

-- the rest of a line
rest_fits : Fits IsByte rest Rest at_end
unfolding rest
rest_fits = either_fits IsByte (ahead is_solid) solid (pure []) Solid (Pure []) at_end solid_fits (narrowed IsByte at_end (λ h e. refl) (pure_fits IsByte []))
    solid_begins (λ ts us a r e. ap (λ xs. ahead is_solid (next xs)) r.here ∙ ap (ahead is_solid) (at_end_none (next us) e))

-- no blank is ahead of it
rest_no_blank : (ts us a : Bytes) → Rest ts a us → at_end (next us) ≡ true → no_blank (next ts) ≡ true
rest_no_blank ts us a (inl r) e = solid_no_blank (next ts) (solid_begins ts us a r)
rest_no_blank ts us a (inr r) e = ap (λ xs. no_blank (next xs)) r.here ∙ at_end_follows no_blank refl (next us) e

-- a body behind blanks
abbrev Behind : Rule ℕ Bytes
Behind = Then Gap (λ _. Rest)

-- the blanks end where the rest of the line begins, which has no blank ahead
behind_fits : Fits IsByte (λ ts. and_then (gap ts) (λ _. rest)) Behind at_end
behind_fits = followed IsByte gap_fits (λ _. rest_fits) (λ u us vs b r e. rest_no_blank us vs b r e)

-- a body
body_fits : Fits IsByte body BodyRule at_end
unfolding body
body_fits = either_fits IsByte (ahead is_blank) _ (pure []) Behind (Pure []) at_end behind_fits (narrowed IsByte at_end (λ h e. refl) (pure_fits IsByte []))
    (λ ts us a r. gap_begins ts r.middle r.value r.first)
    (λ ts us a r e. ap (λ xs. ahead is_blank (next xs)) r.here ∙ ap (ahead is_blank) (at_end_none (next us) e))

-- what a blank or the line's end may follow, a body may follow
body_after : (follows : Option ℕ → Bool) → ((h : Option ℕ) → ahead is_blank h ≡ true → follows h ≡ true) → follows None ≡ true
    → (ts us a : Bytes) → BodyRule ts a us → at_end (next us) ≡ true → follows (next ts) ≡ true
body_after follows blank none ts us a (inl r) e = blank (next ts) (gap_begins ts r.middle r.value r.first)
body_after follows blank none ts us a (inr r) e = ap (λ xs. follows (next xs)) r.here ∙ at_end_follows follows none (next us) e

-- names
pub name_fits : Fits IsByte name NameRule no_word
unfolding name
name_fits =
    onwards IsByte (one_fits IsByte (passing is_letter) 97 97 refl (omega arith))
    (λ first. seen IsByte (λ others. first ∷ others) (run_up_to_fits IsByte is_word NAME_REST))

-- a letter is ahead
pub name_begins : (ts us a : Bytes) → NameRule ts a us → ahead is_letter (next ts) ≡ true
name_begins ts us a r = passing_ahead IsByte is_letter ts r.middle r.value r.first

-- blanks up to the end
alone_fits : (asked : Verb) → Fits IsByte (alone asked) (Alone asked) at_end
unfolding alone
alone_fits asked = ending refl (seen IsByte (λ _. asked) (run_fits IsByte is_blank))

-- a run of blanks, or the end, is where a name ends
alone_after : (asked : Verb) (ts us : Bytes) (a : Verb) → Alone asked ts a us → at_end (next us) ≡ true → no_word (next ts) ≡ true
alone_after asked ts us a r e =
    by_run ts r.middle r.value r.first.cut r.first.pass
    (ap (λ xs. no_word (next xs)) r.second.here ∙ at_end_follows no_word refl (next us) e)
  where
    by_run : (ts ms front : Bytes) → ts ≡ front ++ ms → AllPass is_blank front → no_word (next ms) ≡ true → no_word (next ts) ≡ true
    by_run ts ms [] c pass h = ap (λ xs. no_word (next xs)) c ∙ h
    by_run ts ms (b ∷ front) c pass h = ap (λ xs. no_word (next xs)) c ∙ ap not (blank_is b (All-head (λ x. is_blank x ≡ true) b front pass)).1

-- numbers begin with a digit
digit_solid : (b : ℕ) → 48 ≤ b → b ≤ 57 → is_blank b ≡ false
digit_solid b l h = grind (arith, nat_tests, l, h)

-- a number has a digit ahead, and a digit is no blank
natural_solid : (limit : ℕ) → limit < 18446744073709551616 → (ts us : Bytes) (n : ℕ) → NaturalRule limit ts n us → no_blank (next ts) ≡ true
natural_solid limit l ts us n r =
    let x = digit_first ts us n r.spelled (omega (arith, r.within)) in
    ap (λ xs. no_blank (next xs)) x.2 ∙ ap not (digit_solid x.0 x.3 x.4)

-- ---- the forms

-- behind blanks
after_gap : {A : Type 0} {p : Reader ℕ A} {P : Rule ℕ A} → Fits IsByte p P at_end
    → ((ts us : Bytes) (a : A) → P ts a us → no_blank (next ts) ≡ true)
    → Fits IsByte (λ ts. and_then (gap ts) (λ _. p)) (Then Gap (λ _. P)) at_end
after_gap fp solid = followed IsByte gap_fits (λ _. fp) (λ u us vs b r e. solid us vs b r)

-- a digit ends the blanks, and a blank or the end of the line ends the number of attempts
tries_fits : Fits IsByte tries (Form word.Try) at_end
unfolding tries
tries_fits = after_gap
    (followed IsByte (positive_fits MOST_ATTEMPTS (omega arith) (omega arith)) (λ n. seen IsByte (verb.Try n) body_fits)
    (λ n us vs b r e. body_after no_digit blank_no_digit refl us r.middle r.value r.first
    (ap (λ xs. at_end (next xs)) r.second.here ∙ e)))
    (λ ts us a r. natural_solid MOST_ATTEMPTS (omega arith) ts r.middle r.value (record { spelled = r.first.spelled; within = r.first.within }))

-- the same of the number of a commit
at_fits : Fits IsByte at (Form word.At) at_end
unfolding at
at_fits = after_gap
    (followed IsByte (natural_fits LARGEST (omega arith) (omega arith)) (λ n. seen IsByte (verb.At n) body_fits)
    (λ n us vs b r e. body_after no_digit blank_no_digit refl us r.middle r.value r.first
    (ap (λ xs. at_end (next xs)) r.second.here ∙ e)))
    (λ ts us a r. natural_solid LARGEST (omega arith) ts r.middle r.value r.first)

-- a letter ends the blanks, and a blank or the end of the line ends the name
watch_fits : Fits IsByte watch (Form word.Watch) at_end
unfolding watch
watch_fits = after_gap
    (followed IsByte name_fits (λ n. seen IsByte (verb.Watch n) body_fits)
    (λ n us vs b r e. body_after no_word blank_no_word refl us r.middle r.value r.first
    (ap (λ xs. at_end (next xs)) r.second.here ∙ e)))
    (λ ts us a r. letter_solid (next ts) (name_begins ts r.middle r.value r.first))

-- the same, where only blanks follow the name
unwatch_fits : Fits IsByte unwatch (Form word.Unwatch) at_end
unfolding unwatch
unwatch_fits = after_gap
    (followed IsByte name_fits (λ n. alone_fits (verb.Unwatch n)) (λ n us vs b r e. alone_after (verb.Unwatch n) us vs b r e))
    (λ ts us a r. letter_solid (next ts) (name_begins ts r.middle r.value r.first))

-- verb by verb: a body, a number or a name and a body, or nothing more
form_fits : (w : VerbWord) → Fits IsByte (form w) (Form w) at_end
unfolding form
form_fits word.Do = seen IsByte verb.Do body_fits
form_fits word.Try = tries_fits
form_fits word.Begin = seen IsByte verb.Begin body_fits
form_fits word.Step = alone_fits verb.Step
form_fits word.Go = alone_fits verb.Go
form_fits word.Drop = alone_fits verb.Drop
form_fits word.Sync = alone_fits verb.Sync
form_fits word.Wait = alone_fits verb.Wait
form_fits word.Seen = alone_fits verb.Seen
form_fits word.Quit = alone_fits verb.Quit
form_fits word.Look = seen IsByte verb.Look body_fits
form_fits word.At = at_fits
form_fits word.Watch = watch_fits
form_fits word.Unwatch = unwatch_fits

-- ---- lines

-- each word begins with a letter
word_solid : (w : VerbWord) (us : Bytes) → no_blank (next (word_of w ++ us)) ≡ true
word_solid word.Do us = refl
word_solid word.Try us = refl
word_solid word.Begin us = refl
word_solid word.Step us = refl
word_solid word.Go us = refl
word_solid word.Drop us = refl
word_solid word.Sync us = refl
word_solid word.Wait us = refl
word_solid word.Seen us = refl
word_solid word.Quit us = refl
word_solid word.Look us = refl
word_solid word.At us = refl
word_solid word.Watch us = refl
word_solid word.Unwatch us = refl

-- each is among the words
all_words : (w : VerbWord) → In (word.Do ∷ OTHER_VERBS) w
all_words word.Do = inl refl
all_words word.Try = inr (inl refl)
all_words word.Begin = inr (inr (inl refl))
all_words word.Step = inr (inr (inr (inl refl)))
all_words word.Go = inr (inr (inr (inr (inl refl))))
all_words word.Drop = inr (inr (inr (inr (inr (inl refl)))))
all_words word.Sync = inr (inr (inr (inr (inr (inr (inl refl))))))
all_words word.Wait = inr (inr (inr (inr (inr (inr (inr (inl refl)))))))
all_words word.Seen = inr (inr (inr (inr (inr (inr (inr (inr (inl refl))))))))
all_words word.Quit = inr (inr (inr (inr (inr (inr (inr (inr (inr (inl refl)))))))))
all_words word.Look = inr (inr (inr (inr (inr (inr (inr (inr (inr (inr (inl refl))))))))))
all_words word.At = inr (inr (inr (inr (inr (inr (inr (inr (inr (inr (inr (inl refl)))))))))))
all_words word.Watch = inr (inr (inr (inr (inr (inr (inr (inr (inr (inr (inr (inr (inl refl))))))))))))
all_words word.Unwatch = inr (inr (inr (inr (inr (inr (inr (inr (inr (inr (inr (inr (inr (inl refl)))))))))))))

-- these are all the verbs' words, made of bytes, and none begins another
words : AreWords word_of word.Do OTHER_VERBS
words = record { all = all_words; bytes = verbs_are_bytes; apart = refl }

-- lines
pub line_fits : Fits IsByte line VerbRule at_end
unfolding line
line_fits = followed IsByte (run_fits IsByte is_blank) (λ _. onwards IsByte (one_of_fits word_of word.Do OTHER_VERBS words) form_fits)
    (λ u us vs b r e. ap (λ xs. no_blank (next xs)) r.first ∙ word_solid r.value r.middle)
