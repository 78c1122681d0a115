-- The body of a verb is no longer than its line.
use Rattle.std.proofs.Common.{◌≡◌, ◌≤◌, ℕ, List, [], ◌++◌, length, Some, None, refl, ap, sym, ◌∙◌, inl, inr, arith}
use Rattle.std.proofs.lemmas.List.{length-append}
use Rattle.predictive_parsing.specs.Rules.{Of}
use Rattle.session_text.specs.declared.verb.Verb.{Verb}
use Rattle.session_text.specs.declared.verb.Verb.TheVariants as verb
use Rattle.session_text.specs.declared.words.VerbWord.{VerbWord}
use Rattle.session_text.specs.declared.words.VerbWord.TheVariants as word
use Rattle.session_text.specs.Lines.{Gap, Rest, BodyRule, NameRule, Alone, Form, VerbRule, IsVerb}
use Rattle.session_text.specs.Bodies.{body_in, IsWithin}

-- what is left behind a front is no longer than the whole
behind : (ts front us : List ℕ) → ts ≡ front ++ us → length us ≤ length ts
behind ts front us e = omega (arith, ap length e, length-append front us)

-- what is left behind blanks is no longer
gap_behind : (ts us : List ℕ) (u : Unit {0}) → Gap ts u us → length us ≤ length ts
gap_behind ts us u r =
    let first = ap length r.first.first in
    let more = behind r.middle r.second.value r.second.middle r.second.first.cut in
    let here = ap length r.second.second.here in
    omega (arith, first, more, here)

-- the rest is a solid byte and those behind it, as they stand in the line, or nothing
rest_within : (ts us t : List ℕ) → Rest ts t us → length t ≤ length ts
rest_within ts us t (inl r) =
    let first = ap length r.first.first in
    let more = ap length r.second.first.cut in
    let sum = length-append r.second.value r.second.middle in
    let is = ap length r.second.second.is in
    omega (arith, first, more, sum, is)
rest_within ts us t (inr r) = let is = ap length r.is in omega (arith, is)

-- a body is the rest behind blanks, or nothing
body_within : (ts us t : List ℕ) → BodyRule ts t us → length t ≤ length ts
body_within ts us t (inl r) =
    let gap = gap_behind ts r.middle r.value r.first in
    let rest = rest_within r.middle us t r.second in
    omega (arith, gap, rest)
body_within ts us t (inr r) = let is = ap length r.is in omega (arith, is)

-- what is left behind a name is no longer
name_behind : (ts us n : List ℕ) → NameRule ts n us → length us ≤ length ts
name_behind ts us n r =
    let first = ap length r.first.first in
    let more = behind r.middle r.second.value r.second.middle r.second.first.cut in
    let here = ap length r.second.second.here in
    omega (arith, first, more, here)

module _ (v : Verb) (t : List ℕ) (has : body_in v ≡ Some t) where
  -- where a verb has a body, that is the body which was derived
  of_within : (f : List ℕ → Verb) → ((a : List ℕ) → body_in (f a) ≡ Some a) → (ts us : List ℕ) → Of f BodyRule ts v us → length t ≤ length ts
  of_within f is ts us r =
      let same : Some t ≡ Some r.value = sym has ∙ (ap body_in r.second.is ∙ is r.value) in
      let k : t ≡ r.value = cc in
      let within = body_within ts r.middle r.value r.first in
      omega (arith, within, ap length k)

  -- a verb that stands alone has no body
  alone_within : (asked : Verb) → body_in asked ≡ None → (ts us : List ℕ) → Alone asked ts v us → length t ≤ length ts
  alone_within asked none ts us r = absurd (let k : Some t ≡ None = sym has ∙ (ap body_in r.second.is ∙ none) in cc)

  -- verb by verb: a body stands behind what was read before it, which only shortens what is left
  form_within : (w : VerbWord) (ts us : List ℕ) → Form w ts v us → length t ≤ length ts
  form_within word.Do ts us r = of_within verb.Do (λ a. refl) ts us r
  form_within word.Try ts us r =
      let gap = gap_behind ts r.middle r.value r.first in
      let number = behind r.middle _ r.second.middle r.second.first.spelled in
      let body = of_within (verb.Try r.second.value) (λ a. refl) r.second.middle us r.second.second in
      omega (arith, gap, number, body)
  form_within word.Begin ts us r = of_within verb.Begin (λ a. refl) ts us r
  form_within word.Step ts us r = alone_within verb.Step refl ts us r
  form_within word.Go ts us r = alone_within verb.Go refl ts us r
  form_within word.Drop ts us r = alone_within verb.Drop refl ts us r
  form_within word.Sync ts us r = alone_within verb.Sync refl ts us r
  form_within word.Wait ts us r = alone_within verb.Wait refl ts us r
  form_within word.Seen ts us r = alone_within verb.Seen refl ts us r
  form_within word.Quit ts us r = alone_within verb.Quit refl ts us r
  form_within word.Look ts us r = of_within verb.Look (λ a. refl) ts us r
  form_within word.At ts us r =
      let gap = gap_behind ts r.middle r.value r.first in
      let number = behind r.middle _ r.second.middle r.second.first.spelled in
      let body = of_within (verb.At r.second.value) (λ a. refl) r.second.middle us r.second.second in
      omega (arith, gap, number, body)
  form_within word.Watch ts us r =
      let gap = gap_behind ts r.middle r.value r.first in
      let name = name_behind r.middle r.second.middle r.second.value r.second.first in
      let body = of_within (verb.Watch r.second.value) (λ a. refl) r.second.middle us r.second.second in
      omega (arith, gap, name, body)
  form_within word.Unwatch ts us r =
      let gap = gap_behind ts r.middle r.value r.first in
      let name = name_behind r.middle r.second.middle r.second.value r.second.first in
      let none = alone_within (verb.Unwatch r.second.value) refl r.second.middle us r.second.second in
      omega (arith, gap, name, none)

  -- blanks and the verb's word only shorten what is left for the form
  line_within : (ts us : List ℕ) → VerbRule ts v us → length t ≤ length ts
  line_within ts us r =
      let blanks = behind ts r.value r.middle r.first.cut in
      let word = behind r.middle _ r.second.middle r.second.first in
      let form = form_within r.second.value r.second.middle us r.second.second in
      omega (arith, blanks, word, form)

-- the body of a verb is no longer than its line
pub verb_within : (text : List ℕ) (v : Verb) (limit : ℕ) → IsVerb text v → length text ≤ limit → IsWithin limit v
verb_within text v limit r short t has = omega (arith, line_within v t has text [] r, short)
