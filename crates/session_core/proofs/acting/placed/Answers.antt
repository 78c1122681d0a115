use Rattle.std.proofs.Common.{◌≡◌, ◌≤◌, ◌<◌, ◌++◌, ◌∷◌, [], ℕ, List, Bool, Result, Ok, Err, true, false, if◌then◌else◌, is_ok, refl, ap, ◌∙◌, vec_len, vec_capacity, arith}
use Rattle.std.specs.Prelude.{OnErr}
use Rattle.session_core.proofs.acting.placed.Goals as goal

-- where there is room, a push doesn't fail
fits : {A E : Type 0} (result : Result A E) (count room : ℕ) → OnErr result (room ≤ count) → count < room → is_ok result ≡ false → ⊥
fits (Ok x) count room full some failed = absurd (cc)
fits (Err e) count room full some failed = absurd (let up = full in omega arith)

-- and what is pushed on nothing stands alone
alone : {A : Type 0} (ok : Bool) (items more : List A) (x : A) → items ≡ [] → more ≡ (if ok then items ++ x ∷ [] else items) → (ok ≡ false → ⊥)
    → more ≡ x ∷ []
alone true items more x none is fitting = is ∙ ap (λ xs. xs ++ x ∷ []) none
alone false items more x none is fitting = absurd (fitting refl)

pub returns : goal.returns
returns c = c.from_vec.ensures ∙ alone (is_ok c.push.result) c.args.place.items _ c.args.reply c.requires.none c.push.ensures.items
    (fits c.push.result (vec_len c.args.place) (vec_capacity c.args.place) c.push.ensures.full c.requires.room)
