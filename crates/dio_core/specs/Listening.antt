-- A listener in memory, in whole.
use Rattle.std.specs.Prelude.{◌≡◌, ℕ, true, false, List, [], ◌∷◌, ◌++◌, refl}
use Rattle.dio_core.specs.Memory.{Plan, plan_of, fails_next, succeeded, failed}
use Rattle.dio_core.specs.declared.listener.Accepted.{Accepted}
use Rattle.dio_core.specs.declared.listener.Accepted.TheVariants as accepted

-- the links left, those given back, each with its status, and the plan of its accepts
pub record Hall (K : Type 0) : Type 0 where
  pub left : List K
  pub back : List (K × ℕ)
  pub plan : Plan

-- one link more was given back, with its status
abbrev pub with_back : {K : Type 0} → K → ℕ → Hall K → Hall K
with_back link status hall = record hall { back = hall.back ++ (link, status) ∷ [] }

-- One accept, from the listener before it to the listener after it: it fails where it is planned alone, and else hands out
-- the first link that is left.
abbrev pub Hands : {K : Type 0} → Accepted K → Hall K → Hall K → Type 0
Hands (accepted.Link link) old new =
    (fails_next old.plan ≡ false) × (old.left ≡ link ∷ new.left) × (new ≡ record old { left = new.left; plan = succeeded old.plan })
Hands accepted.NoMore old new = (fails_next old.plan ≡ false) × (old.left ≡ []) × (new ≡ record old { plan = succeeded old.plan })
Hands accepted.Failed old new = (fails_next old.plan ≡ true) × (new ≡ record old { plan = failed old.plan })

-- of two links the first is handed out
Hands-example : Hands {K = ℕ} (accepted.Link 7) (record { left = 7 ∷ 8 ∷ []; back = []; plan = plan_of [] })
    (record { left = 8 ∷ []; back = []; plan = succeeded (plan_of []) })
Hands-example = (refl, refl, refl)
