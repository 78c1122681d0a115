use Rattle.std.proofs.Common.{sym, ◌∙◌}
use Rattle.std.proofs.lemmas.Bool.Decides.{Decides-like}
use Rattle.std.proofs.lemmas.Slice.Eq.{slice_eq-Decides}
use Rattle.audit_core.proofs.Same.{change_tells}
use Rattle.audit_core.proofs.comparing.same_deltas.Goals as goal

pub returns : goal.returns
returns c =
    let a = c.as_slice.ensures.pairs in
    let b = c.as_slice-2.ensures.pairs in
    Decides-like _ (λ is. sym a ∙ is ∙ b) (λ is. a ∙ is ∙ sym b) (slice_eq-Decides change_tells _ _ _ c.eq.ensures)
