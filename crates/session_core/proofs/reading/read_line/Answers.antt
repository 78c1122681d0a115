use Rattle.std.proofs.Common.{◌≡◌, Option, Some, None, Ok, sym, ap, subst, ◌∙◌}
use Rattle.std.specs.Prelude.{IfSome}
use Rattle.session_text.specs.declared.verb.Verb.{Verb}
use Rattle.session_text.specs.Bodies.{IsWithin}
use Rattle.session_text.proofs.Within.{verb_within}
use Rattle.dio_core.specs.declared.line.TheConstants.{LONGEST_LINE}
use Rattle.session_core.specs.declared.line.Line.{Line}
use Rattle.session_core.specs.Words.{is_quiet}
use Rattle.session_core.specs.code.Reading.{ReadsLine, line_of_form, verb_of}
use Rattle.session_core.proofs.Forms.{asked-is, form_reads, read-verb}
use Rattle.session_core.proofs.Asked.{line-quiet, line-asks}
use Rattle.session_core.proofs.reading.read_line.Goals as goal

pub returns-then-is_quiet : goal.returns-then-is_quiet
returns-then-is_quiet c = record {
  line_is = line-quiet c.args.bytes.now (ap is_quiet (sym c.trimmed_start.ensures.value) ∙ (sym c.is_quiet.ensures ∙ c.if-is_quiet.true));
  ready = tt;
}

pub form_of-requires : goal.form_of-requires
form_of-requires c = by c.in_ok-verb.verb (sym c.in_ok-verb.ensures)
  where
    by : (o : Option Verb) → verb_of c.read_verb.result ≡ Ok o → IfSome o (IsWithin LONGEST_LINE)
    by (Some v) e = verb_within c.args.bytes.now v LONGEST_LINE (read-verb c.args.bytes.now c.read_verb.result v c.read_verb.ensures.read e) c.requires
    by None e = tt

pub returns : goal.returns
returns c =
    subst (λ (l : Line). ReadsLine c.line_of_form.result l)
    (ap line_of_form c.form_of.ensures.form ∙ (form_reads c.in_ok-verb.verb
    ∙ sym (line-asks c.args.bytes.now c.in_ok-verb.verb (ap is_quiet (sym c.trimmed_start.ensures.value) ∙ (sym c.is_quiet.ensures ∙ c.if-is_quiet.false))
    (asked-is c.args.bytes.now c.read_verb.result c.in_ok-verb.verb c.read_verb.ensures.read c.read_verb.ensures.bad (sym c.in_ok-verb.ensures)))))
    c.line_of_form.ensures
