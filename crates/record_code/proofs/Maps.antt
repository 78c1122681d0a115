-- Texts that rise strictly, as the finite map that they are.
use Rattle.std.proofs.Common.{◌≡◌, ℕ, Bool, true, false, T, List, Some, None, refl, sym, ap, subst, ◌∙◌}
use Rattle.std.specs.FinMap as map
use Rattle.std.specs.FinMap.Entries.{is_sorted}
use Rattle.std.specs.List.Sorted.{IsStrictlySortedBy}
use Rattle.std.specs.Map.{keys_of}
use Rattle.plain_data.specs.Texts.{MapOf, text_cmp}
use Rattle.plain_data.proofs.TextMaps.{rising-from_sorted}
use Rattle.record_code.specs.Reading.{map_of}

-- a test that holds is true
pub true_of : (b : Bool) → T b → b ≡ true
true_of true h = refl
true_of false h = absurd h

module _ {M : Type 0} where
  -- the pairs of a map are read as it
  pub map_found : (pairs : List (List ℕ × M)) (m : MapOf M) → map.entries m ≡ pairs → map_of pairs ≡ Some m
  map_found pairs m e =
      let sorted : T (is_sorted text_cmp pairs) = subst (λ es. T (is_sorted text_cmp es)) e (map.entries_sorted m) in
      let same : map.from_sorted pairs ≡ m = map.same_entries_map (map.from_sorted pairs) m
      (map.entries-from_sorted text_cmp pairs sorted ∙ sym e) in
      rw (true_of (is_sorted text_cmp pairs) sorted) (ap (λ (n : MapOf M). Some n) same)

  -- pairs that don't rise are none
  pub map_lost : (pairs : List (List ℕ × M)) → (IsStrictlySortedBy text_cmp (keys_of pairs) → ⊥) → map_of pairs ≡ None
  map_lost pairs falls = by (is_sorted text_cmp pairs) refl
    where
      by : (b : Bool) → is_sorted text_cmp pairs ≡ b → map_of pairs ≡ None
      by true e = absurd (falls (rising-from_sorted text_cmp pairs (subst T (sym e) tt)))
      by false e = rw e refl

  -- what is read as a map is the pairs of it
  pub map_is : (pairs : List (List ℕ × M)) (m : MapOf M) → map_of pairs ≡ Some m → map.entries m ≡ pairs
  map_is pairs m found = by (is_sorted text_cmp pairs) refl
    where
      by : (b : Bool) → is_sorted text_cmp pairs ≡ b → map.entries m ≡ pairs
      by true e =
          let is : Some (map.from_sorted pairs) ≡ Some m = sym (rw e refl) ∙ found in
          let same : map.from_sorted pairs ≡ m = cc in
          ap map.entries (sym same) ∙ map.entries-from_sorted text_cmp pairs (subst T (sym e) tt)
      by false e = absurd (let is : None ≡ Some m = sym (rw e refl) ∙ found in cc)
