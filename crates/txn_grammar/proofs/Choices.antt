-- A reader that chooses among branches by the item ahead fits where each branch does.
use Rattle.std.proofs.Common.{◌≡◌, Bool, List, Option, Some, ap, unwrap_or}
use Rattle.predictive_parsing.specs.Reading.{Reader, next}
use Rattle.predictive_parsing.specs.Rules.{Rule}
use Rattle.predictive_parsing.specs.Fits.{Fits}
use Rattle.predictive_parsing.proofs.Combined.{guided_fits, fits_as}
use Rattle.txn_grammar.specs.code.Forms.{of_next, chosen}

-- one of the branches
abbrev pub AnyOf : {I A B : Type 0} → (B → Rule I A) → Rule I A
AnyOf {I} {A} {B} Branch ts a us = (b : B) × Branch b ts a us

-- Each branch begins with an item that tells it, and all of them are the rule.
pub chosen_fits : {I A B : Type 0} (Possible : I → Type 0) (f : I → Option B) (other : B) (branches : B → Reader I A)
    (Branch : B → Rule I A) (follows : Option I → Bool)
    → ((b : B) → Fits Possible (branches b) (Branch b) follows)
    → ((b : B) (ts us : List I) (a : A) → Branch b ts a us → of_next f (next ts) ≡ Some b)
    → (P : Rule I A) → ((ts us : List I) (a : A) → AnyOf Branch ts a us → P ts a us) → ((ts us : List I) (a : A) → P ts a us → AnyOf Branch ts a us)
    → Fits Possible (chosen f other branches) P follows
chosen_fits Possible f other branches Branch follows fits begun P to from =
    fits_as Possible to from (guided_fits Possible (λ h. unwrap_or (of_next f h) other) branches Branch follows fits
    (λ b ts us a r h. ap (λ o. unwrap_or o other) (begun b ts us a r)) other)
