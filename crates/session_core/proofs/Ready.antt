-- A line that is short enough has a body that is ready: it is that of its text, which is no longer than the line, and which is
-- without the blanks at its end.
use Rattle.std.proofs.Common.{◌≡◌, ℕ, ◌≤◌, Bool, true, false, cond, [], ◌∷◌, length, Option, Some, None, Result, Ok, Err, refl, sym, ap, subst, arith}
use Rattle.dio_core.specs.declared.line.TheConstants.{LONGEST_LINE}
use Rattle.session_text.specs.declared.reply.Why.{Why}
use Rattle.session_text.specs.declared.verb.Verb.{Verb}
use Rattle.session_text.specs.declared.verb.Verb.TheVariants as verb
use Rattle.session_text.specs.Bodies.{IsWithin}
use Rattle.session_text.proofs.Within.{verb_within}
use Rattle.txn_trees.specs.declared.statement.Body.{Body}
use Rattle.txn_grammar.specs.Characters.{Text, is_blank}
use Rattle.txn_lang.specs.declared.checked.Checked.{Checked}
use Rattle.txn_lang.specs.Tree.{tree}
use Rattle.txn_lang.specs.Writes.{first_write}
use Rattle.journal_core.specs.Bodies.{IsBodyText}
use Rattle.session_core.specs.declared.line.Line.{Line}
use Rattle.session_core.specs.declared.line.Line.TheVariants as asks
use Rattle.session_core.specs.Words.{trimmed_start, trimmed_end, unless_last_blank, is_quiet}
use Rattle.session_core.specs.Bodies.{if_pure, if_tree, checked_of, or_refused, body_of}
use Rattle.session_core.specs.Lines.{asked, with_body, of_verb, of_form, line_of}
use Rattle.session_core.specs.Holding.{IsReady, BodyIsReady}
use Rattle.session_core.proofs.Asked.{line-quiet, line-asks}
use Rattle.session_core.proofs.Forms.{verbs_are_forms}
use Rattle.session_core.proofs.Trims.{trimmed_end-trimmed}

-- what is left of a text is no longer
trimmed-shorter : (z : Text) → length (trimmed_end z) ≤ length z
trimmed-shorter [] = omega arith
trimmed-shorter (b ∷ z) = by (trimmed_end z) (trimmed-shorter z)
  where
    last : (x : Bool) → length (cond x [] (b ∷ [])) ≤ length (b ∷ z)
    last true = omega arith
    last false = omega arith

    by : (left : Text) → length left ≤ length z → length (unless_last_blank b left) ≤ length (b ∷ z)
    by [] h = last (is_blank b)
    by (c ∷ left) h = omega arith

-- so what is left of a line is a text as it is kept
trimmed-kept : (text : Text) → length text ≤ LONGEST_LINE → IsBodyText (trimmed_end text)
trimmed-kept text short = record { short = let less = trimmed-shorter text in omega arith; trimmed = trimmed_end-trimmed text }

-- ---- bodies

-- a body that may be there is ready
abbrev ReadyIf : Option Checked → Type 0
ReadyIf None = Unit {0}
ReadyIf (Some c) = IsReady c

module _ (source : Text) (kept : IsBodyText source) where
  -- what is made of a tree has that tree's text
  ready-pure : (read_only : Bool) (body : Body) (e : tree source ≡ Some body) (o : Option ℕ) (w : first_write body ≡ o) (c : Checked)
      → if_pure read_only source body e o w ≡ Some c → IsReady c
  ready-pure read_only body e None w c is = subst ReadyIf is (record { text = e; body_text = kept })
  ready-pure true body e (Some column) w c is = absurd (cc)
  ready-pure false body e (Some column) w c is = subst ReadyIf is (record { text = e; body_text = kept })

  -- a body is made where there is a tree
  ready-tree : (read_only : Bool) (o : Option Body) (e : tree source ≡ o) (c : Checked) → if_tree read_only source o e ≡ Some c → IsReady c
  ready-tree read_only None e c is = absurd (cc)
  ready-tree read_only (Some body) e c is = ready-pure read_only body e (first_write body) refl c is

-- the body of a text is made of the text without the blanks at its end
body-ready : (read_only : Bool) (text : Text) (c : Checked) → length text ≤ LONGEST_LINE → body_of read_only text ≡ Ok c → IsReady c
unfolding checked_of
body-ready read_only text c short e = ready-tree (trimmed_end text) (trimmed-kept text short) read_only
    (tree (trimmed_end text)) refl c (by (checked_of read_only text) e)
  where
    by : (o : Option Checked) → or_refused text o ≡ Ok c → o ≡ Some c
    by None h = absurd (cc)
    by (Some d) h = let same : d ≡ c = cc in ap (λ x. Some x) same

-- ---- lines

-- a refused body asks for nothing that has to be ready
with-ready : (f : Checked → Line) (r : Result Checked Why) → ((c : Checked) → r ≡ Ok c → BodyIsReady (f c)) → BodyIsReady (with_body f r)
with-ready f (Ok c) ready = ready c refl
with-ready f (Err reason) ready = tt

-- verb by verb: what commits has a body of its text
verb-ready : (v : Verb) → IsWithin LONGEST_LINE v → BodyIsReady (of_verb v)
verb-ready (verb.Do text) within = with-ready (asks.Try 1) (body_of false text) (λ c e. body-ready false text c (within text refl) e)
verb-ready (verb.Try tries text) within = with-ready (asks.Try tries) (body_of false text) (λ c e. body-ready false text c (within text refl) e)
verb-ready (verb.Begin text) within = with-ready asks.Begin (body_of false text) (λ c e. body-ready false text c (within text refl) e)
verb-ready (verb.Look text) within = with-ready asks.Look (body_of true text) (λ c e. tt)
verb-ready (verb.At n text) within = with-ready (asks.At n) (body_of true text) (λ c e. tt)
verb-ready (verb.Watch name text) within = with-ready (asks.Watch name) (body_of true text) (λ c e. tt)
verb-ready verb.Step within = tt
verb-ready verb.Go within = tt
verb-ready verb.Drop within = tt
verb-ready verb.Seen within = tt
verb-ready verb.Quit within = tt
verb-ready (verb.Unwatch name) within = tt
verb-ready verb.Sync within = tt
verb-ready verb.Wait within = tt

-- a text of no form is refused, and the body of a form is no longer than its line
form-ready : (text : Text) (o : Option Verb) → length text ≤ LONGEST_LINE → asked text ≡ o → BodyIsReady (of_form o)
form-ready text None short e = tt
form-ready text (Some v) short e = verb-ready v (verb_within text v LONGEST_LINE ((verbs_are_forms text v).0 e) short)

-- each line that is short enough
pub line-ready : (text : Text) → length text ≤ LONGEST_LINE → BodyIsReady (line_of text)
line-ready text short = by (is_quiet (trimmed_start text)) refl
  where
    by : (x : Bool) → is_quiet (trimmed_start text) ≡ x → BodyIsReady (line_of text)
    by true e = subst BodyIsReady (sym (line-quiet text e)) tt
    by false e = subst BodyIsReady (sym (line-asks text (asked text) e refl)) (form-ready text (asked text) short refl)
