-- Reading things one behind the other, as a loop does.
use Rattle.std.proofs.Common.{◌≡◌, ℕ, suc, ◌-◌, ◌+◌, ◌≤◌, ◌<◌, List, [], ◌∷◌, ◌++◌, Option, Some, None, refl, sym, ap}
use Rattle.std.proofs.Common.{◌∙◌, append_assoc, arith}
use Rattle.std.proofs.lemmas.List.{append-nil}
use Rattle.record_code.specs.declared.field_error.FieldError.{FieldError}
use Rattle.record_code.specs.declared.field_error.FieldError.TheVariants as errors
use Rattle.record_code.specs.Fields.{Reader, ◌>>=◌, each_at}
use Rattle.record_code.specs.code.Reads.{Refuses}

-- what was read before, and what is still read
abbrev pub with_front : {A : Type 0} → List A → Option (List A × List ℕ) → Option (List A × List ℕ)
with_front front read = read >>= λ x. Some (front ++ x.0, x.1)

regroup : {A : Type 0} (front : List A) (first : A) (read : Option (List A × List ℕ))
    → with_front front (read >>= λ x. Some (first ∷ x.0, x.1)) ≡ with_front (front ++ first ∷ []) read
regroup {A} front first (Some x) = ap (λ (xs : List A). Some (xs, x.1)) (simp append_assoc)
regroup front first None = refl

module _ {A : Type 0} (one : Reader A) where
  pub goes_on : (front : List A) (count i : ℕ) (bytes : List ℕ) (first : A) (behind : List ℕ)
      (whole : Option (List A × List ℕ)) → i < count
      → one bytes ≡ Some (first, behind) → with_front front (each_at one (count - i) bytes) ≡ whole
      → with_front (front ++ first ∷ []) (each_at one (count - (i + 1)) behind) ≡ whole
  unfolding each_at
  goes_on front count i bytes first behind whole lt read so_far =
      let k : count - i ≡ suc (count - (i + 1)) = omega arith in
      let next : with_front front (each_at one (count - i) bytes) ≡ with_front (front ++ first ∷ [])
      (each_at one (count - (i + 1)) behind) =
      rw (k, read) (regroup front first (each_at one (count - (i + 1)) behind)) in
      sym next ∙ so_far

  pub ends : (error : FieldError) (front : List A) (count i : ℕ) (bytes : List ℕ) (whole : Option (List A × List ℕ))
      → i < count
      → Refuses error (one bytes) → with_front front (each_at one (count - i) bytes) ≡ whole → Refuses error whole
  unfolding each_at
  ends errors.NoMemory front count i bytes whole lt refuses so_far = tt
  ends errors.Malformed front count i bytes whole lt refuses so_far =
      let k : count - i ≡ suc (count - (i + 1)) = omega arith in
      let next : with_front front (each_at one (count - i) bytes) ≡ None = rw (k, refuses) refl in
      sym so_far ∙ next

  pub is_done : (front : List A) (count i : ℕ) (bytes : List ℕ) (whole : Option (List A × List ℕ)) → count ≤ i
      → with_front front (each_at one (count - i) bytes) ≡ whole → whole ≡ Some (front, bytes)
  unfolding each_at
  is_done front count i bytes whole le so_far =
      let k : count - i ≡ 0 = omega arith in
      let next : with_front front (each_at one (count - i) bytes) ≡ Some (front, bytes) =
      rw k (ap (λ (xs : List A). Some (xs, bytes)) (append-nil front)) in
      sym so_far ∙ next
