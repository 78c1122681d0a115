use Rattle.std.proofs.Common.{ap, ◌∙◌, subst}
use Rattle.dio_core.specs.Lines.{IsShort}
use Rattle.dio_core.specs.declared.line.Line.TheVariants as line
use Rattle.txn_grammar.specs.Characters.{Text}
use Rattle.session_core.specs.Words.{trimmed_start}
use Rattle.script_runner.specs.code.Lines.{Answers}
use Rattle.script_runner.specs.Play.{text_line}
use Rattle.script_runner.specs.Worlds.{world_of}
use Rattle.script_runner.proofs.Standing.{answered-stands}
use Rattle.script_runner.proofs.lines.answer.Goals as goal

-- the world stands behind every line
pub returns-in-Bytes-clause-stands : goal.returns-in-Bytes-clause-stands
returns-in-Bytes-clause-stands g c =
    let old = world_of c.args.script.now in
    let new = world_of c.text_line.new.script in
    let before = c.args.output.now in
    let after = c.text_line.new.output in
    answered-stands c.text_line.result before after old new (line.Bytes c.in-Bytes.bytes) c.requires.stands (subst IsShort c.in-Bytes.is c.requires.short)
    (subst (λ (z : Text). Answers c.text_line.result before after new (text_line old z))
    (c.trimmed_start.ensures.value ∙ ap trimmed_start c.as_slice.ensures) c.text_line.ensures)
