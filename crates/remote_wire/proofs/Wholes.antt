-- All of bytes: what is written is read with nothing behind it, and the other way round.
use Rattle.std.proofs.Common.{◌≡◌, ℕ, ◌≤◌, ◌<◌, Bool, true, false, cond, ltb, List, [], ◌∷◌, ◌++◌, length, get_or, Option}
use Rattle.std.proofs.Common.{Some, None, refl, sym, ap, subst, ◌∙◌, zero, suc, arith}
use Rattle.std.proofs.lemmas.Bool.{ltb-false, le-ltb}
use Rattle.std.proofs.lemmas.List.{append-nil}
use Rattle.record_code.specs.Fields.{Reader, ◌>>=◌}
use Rattle.record_code.proofs.Codes.{IsBytes, IsCode, bind_some}
use Rattle.remote_wire.specs.Whole.{with_none_behind, ended, whole}
use Rattle.remote_wire.specs.Laws.{AreBytes}

pub fits_at : (i : ℕ) (bytes : List ℕ) → AreBytes bytes → get_or bytes i 0 < 256
fits_at i [] h = omega arith
fits_at zero (b ∷ bytes) h = h.0
fits_at (suc i) (b ∷ bytes) h = fits_at i bytes h.1

-- what isn't left out
unless_some : {A : Type 0} (b : Bool) (read : Option A) (y : A) → cond b None read ≡ Some y → (b ≡ false)
    × (read ≡ Some y)
unless_some true read y e = absurd cc
unless_some false read y e = (refl, e)

end_is : {A : Type 0} (x : A) (rest : List ℕ) (y : A) → with_none_behind x rest ≡ Some y → (x ≡ y) × (rest ≡ [])
end_is x [] y e = (cc, refl)
end_is x (b ∷ rest) y e = absurd cc

module _ {A : Type 0} {F : A → Type 0} {a : A → List ℕ} {at_a : Reader A} (code : IsCode F a at_a) (most : ℕ) where
  pub whole_again : (x : A) → F x → length (a x) ≤ most → whole most at_a (a x) ≡ Some x
  whole_again x h short =
      let few : ltb most (length (a x)) ≡ false = le-ltb _ _ short in
      let read : at_a (a x) ≡ Some (x, []) = ap at_a (sym (append-nil (a x))) ∙ code.again x [] h in
      rw (few, read) refl

  pub whole_takes : (bytes : List ℕ) (x : A) → IsBytes bytes → whole most at_a bytes ≡ Some x → F x
      × (length (a x) ≤ most) × (bytes ≡ a x)
  whole_takes bytes x fits e =
      let g = unless_some (ltb most (length bytes)) (at_a bytes >>= ended) x e in
      let p = bind_some (at_a bytes) ended x g.1 in
      let q = end_is p.0.0 p.0.1 x p.2 in
      let t = code.takes bytes p.0 fits p.1 in
      let parts : bytes ≡ a x = t.1 ∙ ap (λ (l : List ℕ). a p.0.0 ++ l) q.1 ∙ append-nil (a p.0.0) ∙ ap a q.0 in
      let few : length bytes ≤ most = ltb-false _ _ g.0 in
      let short : length (a x) ≤ most = subst (λ (l : List ℕ). length l ≤ most) parts few in
      (subst F q.0 t.0, short, parts)
