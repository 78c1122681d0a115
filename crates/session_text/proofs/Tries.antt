-- `try` makes as many attempts as stand behind its word, which are few.
use Rattle.std.proofs.Common.{◌≡◌, ℕ, ◌≤◌, ◌<◌, List, [], refl, sym, ◌∙◌, subst}
use Rattle.session_text.specs.declared.limits.TheConstants.{MOST_ATTEMPTS}
use Rattle.session_text.specs.declared.verb.Verb.{Verb}
use Rattle.session_text.specs.declared.verb.Verb.TheVariants as verb
use Rattle.session_text.specs.declared.words.VerbWord.{VerbWord}
use Rattle.session_text.specs.declared.words.VerbWord.TheVariants as word
use Rattle.session_text.specs.Lines.{Form, IsVerb}

-- by the word: `try` has its number behind it, and no other word makes a try
form_tries : (w : VerbWord) (bytes rest : List ℕ) (v : Verb) (tries : ℕ) (text : List ℕ) → Form w bytes v rest → v ≡ verb.Try tries text
    → (0 < tries) × (tries ≤ MOST_ATTEMPTS)
form_tries word.Try bytes rest v tries text form e =
    let attempts = form.second.value in
    let same : verb.Try attempts form.second.second.value ≡ verb.Try tries text = sym form.second.second.second.is ∙ e in
    let is : attempts ≡ tries = cc in
    subst (λ (n : ℕ). (0 < n) × (n ≤ MOST_ATTEMPTS)) is (form.second.first.some, form.second.first.within)
form_tries word.Do bytes rest v tries text form e = absurd (let h : verb.Do form.value ≡ verb.Try tries text = sym form.second.is ∙ e in cc)
form_tries word.Begin bytes rest v tries text form e = absurd (let h : verb.Begin form.value ≡ verb.Try tries text = sym form.second.is ∙ e in cc)
form_tries word.Look bytes rest v tries text form e = absurd (let h : verb.Look form.value ≡ verb.Try tries text = sym form.second.is ∙ e in cc)
form_tries word.Step bytes rest v tries text form e = absurd (let h : verb.Step ≡ verb.Try tries text = sym form.second.is ∙ e in cc)
form_tries word.Go bytes rest v tries text form e = absurd (let h : verb.Go ≡ verb.Try tries text = sym form.second.is ∙ e in cc)
form_tries word.Drop bytes rest v tries text form e = absurd (let h : verb.Drop ≡ verb.Try tries text = sym form.second.is ∙ e in cc)
form_tries word.Sync bytes rest v tries text form e = absurd (let h : verb.Sync ≡ verb.Try tries text = sym form.second.is ∙ e in cc)
form_tries word.Wait bytes rest v tries text form e = absurd (let h : verb.Wait ≡ verb.Try tries text = sym form.second.is ∙ e in cc)
form_tries word.Seen bytes rest v tries text form e = absurd (let h : verb.Seen ≡ verb.Try tries text = sym form.second.is ∙ e in cc)
form_tries word.Quit bytes rest v tries text form e = absurd (let h : verb.Quit ≡ verb.Try tries text = sym form.second.is ∙ e in cc)
form_tries word.At bytes rest v tries text form e =
    absurd (let h : verb.At form.second.value form.second.second.value ≡ verb.Try tries text = sym form.second.second.second.is ∙ e in cc)
form_tries word.Watch bytes rest v tries text form e =
    absurd (let h : verb.Watch form.second.value form.second.second.value ≡ verb.Try tries text = sym form.second.second.second.is ∙ e in cc)
form_tries word.Unwatch bytes rest v tries text form e =
    absurd (let h : verb.Unwatch form.second.value ≡ verb.Try tries text = sym form.second.second.second.is ∙ e in cc)

-- what stands behind the word of the line
pub tries_within : (bytes : List ℕ) (tries : ℕ) (text : List ℕ) → IsVerb bytes (verb.Try tries text) → (0 < tries) × (tries ≤ MOST_ATTEMPTS)
tries_within bytes tries text is = form_tries is.second.value is.second.middle [] (verb.Try tries text) tries text is.second.second refl
