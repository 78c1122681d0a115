-- What is written behind what was written before.
use Rattle.std.proofs.Common.{◌≡◌, ℕ, List, ◌++◌, ap, ◌∙◌, append_assoc}
use Rattle.std.specs.Prelude.{Result, Ok, Err, OnOk}

-- two pieces, one behind the other, are one piece
pub then_written : {A E : Type 0} (r : Result A E) (out first after second new : List ℕ) → after ≡ out ++ first
    → OnOk r (new ≡ after ++ second) → OnOk r (new ≡ out ++ (first ++ second))
then_written (Ok x) out first after second new e w = w ∙ ap (λ (l : List ℕ). l ++ second) e ∙ append_assoc out first second
then_written (Err x) out first after second new e w = tt
