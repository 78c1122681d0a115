-- A line makes as many tries as the form of its verb allows.
use Rattle.std.proofs.Common.{◌≡◌, ℕ, ◌≤◌, ◌<◌, Bool, true, false, Option, Some, None, Result, Ok, Err, refl, sym, ◌∙◌, subst, arith}
use Rattle.session_text.specs.declared.limits.TheConstants.{MOST_ATTEMPTS}
use Rattle.session_text.specs.declared.reply.Why.{Why}
use Rattle.session_text.specs.declared.verb.Verb.{Verb}
use Rattle.session_text.specs.declared.verb.Verb.TheVariants as verb
use Rattle.session_text.specs.Lines.{IsVerb}
use Rattle.session_text.proofs.Tries.{tries_within}
use Rattle.txn_grammar.specs.Characters.{Text}
use Rattle.txn_lang.specs.declared.checked.Checked.{Checked}
use Rattle.session_core.specs.declared.line.Line.{Line}
use Rattle.session_core.specs.declared.line.Line.TheVariants as asks
use Rattle.session_core.specs.Bodies.{body_of}
use Rattle.session_core.specs.Words.{trimmed_start, is_quiet}
use Rattle.session_core.specs.Lines.{asked, with_body, of_verb, of_form}
use Rattle.session_core.specs.Bounds.{TriesAreFew}
use Rattle.session_core.proofs.Asked.{line-quiet, line-asks}
use Rattle.session_core.proofs.Forms.{verbs_are_forms}

-- one at least, and no more than the form allows
abbrev Few : ℕ → Type 0
Few tries = (0 < tries) × (tries ≤ MOST_ATTEMPTS)

-- the line of a verb with a body is that of another only where its own is
of-body : (f : Checked → Line) (r : Result Checked Why) (tries : ℕ) (body : Checked) → ((c : Checked) → f c ≡ asks.Try tries body → Few tries)
    → with_body f r ≡ asks.Try tries body → Few tries
of-body f (Ok c) tries body few e = few c e
of-body f (Err reason) tries body few e = absurd (cc)

-- `do` is one try, and `try` makes as many as it says
of-try : (bytes : Text) (v : Verb) (tries : ℕ) (body : Checked) → IsVerb bytes v → of_verb v ≡ asks.Try tries body → Few tries
of-try bytes (verb.Do text) tries body is e =
    of-body (asks.Try 1) (body_of false text) tries body (λ c h. let one : 1 ≡ tries = cc in (omega arith, omega arith)) e
of-try bytes (verb.Try most text) tries body is e =
    of-body (asks.Try most) (body_of false text) tries body (λ c h. let same : most ≡ tries = cc in subst Few same (tries_within bytes most text is))
    e
of-try bytes (verb.Begin text) tries body is e = of-body asks.Begin (body_of false text) tries body (λ c h. absurd (cc)) e
of-try bytes (verb.Look text) tries body is e = of-body asks.Look (body_of true text) tries body (λ c h. absurd (cc)) e
of-try bytes (verb.At n text) tries body is e = of-body (asks.At n) (body_of true text) tries body (λ c h. absurd (cc)) e
of-try bytes (verb.Watch name text) tries body is e = of-body (asks.Watch name) (body_of true text) tries body (λ c h. absurd (cc)) e
of-try bytes verb.Step tries body is e = absurd (cc)
of-try bytes verb.Go tries body is e = absurd (cc)
of-try bytes verb.Drop tries body is e = absurd (cc)
of-try bytes verb.Seen tries body is e = absurd (cc)
of-try bytes verb.Quit tries body is e = absurd (cc)
of-try bytes (verb.Unwatch name) tries body is e = absurd (cc)
of-try bytes verb.Sync tries body is e = absurd (cc)
of-try bytes verb.Wait tries body is e = absurd (cc)

-- a line that isn't quiet asks for what its verb does
pub tries_are_few : TriesAreFew
tries_are_few text tries body e = by (is_quiet (trimmed_start text)) refl
  where
    of : (o : Option Verb) → asked text ≡ o → of_form o ≡ asks.Try tries body → Few tries
    of None is h = absurd (cc)
    of (Some v) is h = of-try text v tries body ((verbs_are_forms text v).0 is) h

    by : (x : Bool) → is_quiet (trimmed_start text) ≡ x → Few tries
    by true q = absurd (let h : asks.Quiet ≡ asks.Try tries body = sym (line-quiet text q) ∙ e in cc)
    by false q = of (asked text) refl (sym (line-asks text (asked text) q refl) ∙ e)
