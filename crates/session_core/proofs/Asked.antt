-- What a line asks for, by its form.
use Rattle.std.proofs.Common.{◌≡◌, true, false, cond, Option, ap, ◌∙◌}
use Rattle.session_text.specs.declared.verb.Verb.{Verb}
use Rattle.txn_grammar.specs.Characters.{Text}
use Rattle.session_core.specs.declared.line.Line.TheVariants as asks
use Rattle.session_core.specs.Words.{trimmed_start, is_quiet}
use Rattle.session_core.specs.Lines.{asked, of_form, line_of}

-- a quiet line asks for nothing, for that is tested first
pub line-quiet : (text : Text) → is_quiet (trimmed_start text) ≡ true → line_of text ≡ asks.Quiet
unfolding line_of
line-quiet text e = ap (λ x. cond x asks.Quiet (of_form (asked text))) e

-- any other line asks for what its form does, and is refused where it has none
pub line-asks : (text : Text) (o : Option Verb) → is_quiet (trimmed_start text) ≡ false → asked text ≡ o → line_of text ≡ of_form o
unfolding line_of
line-asks text o e is = ap (λ x. cond x asks.Quiet (of_form (asked text))) e ∙ ap of_form is
