use Rattle.std.proofs.Common.{length, take, ap, ◌∙◌}
use Rattle.session_core.specs.Words.{trimmed_end}
use Rattle.session_core.proofs.Trims.{take-trimmed}
use Rattle.session_core.proofs.words.trim_end.Goals as goal

-- as many bytes are kept as the text has without the blanks at its end
pub returns-clause-value : goal.returns-clause-value
returns-clause-value c =
    let kept = c.trimmed_end-end.ensures.value ∙ ap trimmed_end c.as_slice.ensures in
    c.truncate.ensures ∙ (ap (λ z. take (length z) c.args.text.now) kept ∙ take-trimmed c.args.text.now)
