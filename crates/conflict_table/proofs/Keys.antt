-- Whether a map of texts has a key, and whether it has any.
use Rattle.std.proofs.Common.{◌≡◌, Bool, true, false, not, T, ◌||◌, List, [], ◌∷◌, length, nat_eq, slice_get, is_some, option_map}
use Rattle.std.proofs.Common.{Option, Some, None, refl, sym, ap, ◌∙◌, subst}
use Rattle.std.proofs.lemmas.Bool.{false≢true, not-false, eqb-true, true_from_ne_false, or_left, or_right}
use Rattle.std.proofs.Math.Bool.{or-true}
use Rattle.std.proofs.Math.Dec.{eqb-suc-zero}
use Rattle.std.specs.Ordering.{eq_by_cmp}
use Rattle.std.specs.Cmp.{eq_by_cmp_equiv}
use Rattle.std.specs.Cmp.Lexicographic.{nat_list_cmp_total}
use Rattle.std.specs.FinMap as map
use Rattle.plain_data.specs.Texts.{Bytes, MapOf, text_cmp}
use Rattle.plain_data.specs.Overlays.{overlaid, found_after}
use Rattle.plain_data.proofs.Overlays.{get-overlaid, len-some}
use Rattle.conflict_table.specs.Clashes.{has_some}

-- two tests that hold in the same cases are equal
same_test : (a b : Bool) → (a ≡ true → b ≡ true) → (b ≡ true → a ≡ true) → a ≡ b
same_test true b f g = sym (f refl)
same_test false true f g = g refl
same_test false false f g = refl

-- nothing changes by another test that fails
pub or_none : (a : Bool) → (a || false) ≡ a
or_none true = refl
or_none false = refl

-- one of two tests that hold together
pub either : {P : Type 0} (a b : Bool) → (a || b) ≡ true → (a ≡ true → P) → (b ≡ true → P) → P
either true b h f g = f refl
either false b h f g = g h

-- a text ties with itself
pub tied : (x : Bytes) → eq_by_cmp text_cmp x x ≡ true
tied x = (eq_by_cmp_equiv nat_list_cmp_total).refl x

-- a list has a first item exactly where its length isn't 0
pub first_item : {X : Type 0} (xs : List X) → is_some (slice_get xs 0) ≡ not (nat_eq (length xs) 0)
first_item [] = refl
first_item (x ∷ xs) = sym (ap not (eqb-suc-zero (length xs)))

module _ {V : Type 0} where
  -- the empty map has no key
  pub no_key : (m : MapOf V) (x : Bytes) → m ≡ map.empty → map.contains_key m x ≡ false
  no_key m x none = ap (λ n. map.contains_key n x) none ∙ ap is_some (map.get-empty text_cmp x)

  -- and is the only one that has none
  pub empty-has_some : (m : MapOf V) → has_some m ≡ false → m ≡ map.empty
  empty-has_some m none = map.empty_of_len m (eqb-true (map.len m) 0 (not-false _ none))

  -- the length of the empty map is 0
  pub has_some-empty : (m : MapOf V) → m ≡ map.empty → has_some m ≡ false
  has_some-empty m none = ap has_some none ∙ ap (λ n. not (nat_eq n 0)) (map.len-empty text_cmp V)

  -- a key that is there is some
  pub has_some-key : (m : MapOf V) (x : Bytes) → map.contains_key m x ≡ true → has_some m ≡ true
  has_some-key m x there = true_from_ne_false (has_some m) (λ none. false≢true (sym (no_key m x (empty-has_some m none)) ∙ there))

  -- a map with pairs has a first one
  pub first-has_some : (m : MapOf V) → is_some (slice_get (map.entries m) 0) ≡ has_some m
  first-has_some m = first_item (map.entries m) ∙ ap (λ n. not (nat_eq n 0)) (sym (map.len-entries m))

  -- and a key
  pub key-has_some : (m : MapOf V) → has_some m ≡ true → (x : Bytes) × (map.contains_key m x ≡ true)
  key-has_some m some = let one = len-some m (subst T (sym some) tt) in (one.0, ap is_some one.2)

-- what is made of the pair at a key is made of its value
pub twice_mapped : {V W : Type 0} (f : Bytes × V → W) (key : Bytes) (o : Option V)
    → option_map f (option_map (λ v. (key, v)) o) ≡ option_map (λ v. f (key, v)) o
twice_mapped f key None = refl
twice_mapped f key (Some v) = refl

-- marks that each leave something
module _ {V M : Type 0} (left : M → Option V) (leaves : (mark : M) → is_some (left mark) ≡ true) where
  -- a mark leaves something, and without a mark there is what was there
  found : (o : Option M) (u : Option V) → is_some (found_after left o u) ≡ (is_some u || is_some o)
  found None u = sym (or_none (is_some u))
  found (Some mark) u = leaves mark ∙ sym (or-true (is_some u))

  -- the keys of either are the keys of an overlay
  pub contains-overlaid : (under : MapOf V) (over : MapOf M) (x : Bytes)
      → map.contains_key (overlaid left under over) x ≡ (map.contains_key under x || map.contains_key over x)
  contains-overlaid under over x = ap is_some (get-overlaid left under over x) ∙ found (map.get over x) (map.get under x)

  -- so it has some where one of them has
  pub has_some-overlaid : (under : MapOf V) (over : MapOf M) → has_some (overlaid left under over) ≡ (has_some under || has_some over)
  has_some-overlaid under over = same_test _ _ down up
    where
      down : has_some (overlaid left under over) ≡ true → (has_some under || has_some over) ≡ true
      down some =
          let key = key-has_some (overlaid left under over) some in
          either (map.contains_key under key.0) (map.contains_key over key.0) (sym (contains-overlaid under over key.0) ∙ key.1)
          (λ there. or_left _ _ (has_some-key under key.0 there))
          (λ there. or_right _ _ (has_some-key over key.0 there))

      up : (has_some under || has_some over) ≡ true → has_some (overlaid left under over) ≡ true
      up some =
          either (has_some under) (has_some over) some
          (λ there. let key = key-has_some under there in has_some-key _ key.0 (contains-overlaid under over key.0 ∙ or_left _ _ key.1))
          (λ there. let key = key-has_some over there in has_some-key _ key.0 (contains-overlaid under over key.0 ∙ or_right _ _ key.1))
