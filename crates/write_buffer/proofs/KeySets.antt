-- The keys of a set or hash after a delta are its keys alone after the marks that keep or take away.
use Rattle.std.proofs.Common.{◌≡◌, Bool, true, false, cond, T, List, [], ◌∷◌, Option, Some, None, is_some, refl, sym, ap, ◌∙◌, subst}
use Rattle.std.proofs.Common.{map as list_map}
use Rattle.std.specs.FinMap as map
use Rattle.std.specs.FinMap.Entries.{find, is_sorted}
use Rattle.std.specs.List.{list_any}
use Rattle.std.specs.List.Sorted.{IsStrictlySortedBy}
use Rattle.std.specs.Ordering.{eq_by_cmp}
use Rattle.plain_data.specs.Texts.{Bytes, MapOf, SetOfTexts, text_cmp}
use Rattle.plain_data.specs.Overlays.{found_after}
use Rattle.plain_data.proofs.Overlays.{same_map}
use Rattle.plain_data.proofs.TextMaps.{sorted-from_rising, rising-from_sorted}
use Rattle.rdt_types.specs.Keyed.{Keyed, applied}
use Rattle.rdt_types.specs.Marks.{added}
use Rattle.write_buffer.specs.code.Keeping.{keeping}
use Rattle.write_buffer.proofs.Over.{get-applied, added-is}

module _ {V : Type 0} where
  -- pairs without their values
  abbrev pub bare : List (Bytes × V) → List (Bytes × Unit {0})
  bare es = list_map (λ e. (e.0, tt)) es

  -- they have the same keys
  pub keys-bare : (es : List (Bytes × V)) → list_map (λ e. e.0) (bare es) ≡ list_map (λ e. e.0) es
  keys-bare [] = refl
  keys-bare (e ∷ es) = ap (λ keys. e.0 ∷ keys) (keys-bare es)

  -- and so they rise where the pairs do
  pub rising-bare : (es : List (Bytes × V)) → IsStrictlySortedBy text_cmp (list_map (λ e. e.0) es) → IsStrictlySortedBy text_cmp (list_map (λ e. e.0) (bare es))
  rising-bare es rising = subst (IsStrictlySortedBy text_cmp) (sym (keys-bare es)) rising

  -- pairs without their values are found at the same keys
  find-bare : (q : Bytes) (es : List (Bytes × V)) → find text_cmp q (bare es) ≡ added (is_some (find text_cmp q es))
  find-bare q [] = refl
  find-bare q (e ∷ es) =
      elim (eq_by_cmp text_cmp q e.0) as (λ b. cond b (Some tt) (find text_cmp q (bare es)) ≡ added (is_some (cond b (Some e.1) (find text_cmp q es)))) [
        | true ↦ refl
        | false ↦ find-bare q es
      ]

  -- a map's keys as a set
  key_set : MapOf V → SetOfTexts
  key_set m = map.from_sorted (bare (map.entries m))

  -- the pairs of a map rise, and without their values they still do
  sorted-bare : (m : MapOf V) → T (is_sorted text_cmp (bare (map.entries m)))
  sorted-bare m = sorted-from_rising text_cmp _ (rising-bare (map.entries m) (rising-from_sorted text_cmp _ (map.entries_sorted m)))

  -- a text is in the set where it is a key of the map
  get-key_set : (m : MapOf V) (q : Bytes) → map.get (key_set m) q ≡ added (map.contains_key m q)
  unfolding key_set
  get-key_set m q = map.get-from_sorted text_cmp _ q (sorted-bare m) ∙ find-bare q (map.entries m) ∙ ap (λ o. added (is_some o)) (sym (map.get-entries m q))

  -- the set lists the keys that the map lists
  keys-key_set : (m : MapOf V) → map.keys (key_set m) ≡ map.keys m
  unfolding key_set
  keys-key_set m = ap (list_map (λ e. e.0)) (map.entries-from_sorted text_cmp _ (sorted-bare m)) ∙ keys-bare (map.entries m)

-- maps that have the same keys list the same keys, since a set is all that its members make of it
same_keys : {V W : Type 0} (m : MapOf V) (n : MapOf W) → ((q : Bytes) → map.contains_key m q ≡ map.contains_key n q) → map.keys m ≡ map.keys n
same_keys m n is =
    sym (keys-key_set m) ∙ ap (λ s. map.keys s) (same_map (key_set m) (key_set n) (λ q. get-key_set m q ∙ ap added (is q) ∙ sym (get-key_set n q)))
    ∙ keys-key_set n

-- maps that list the same keys have the same ones, unless they are cleared
still_there : {V W : Type 0} (m : MapOf V) (n : MapOf W) (cleared : Bool) (q : Bytes) → map.keys m ≡ map.keys n
    → is_some (cond cleared None (map.get m q)) ≡ is_some (cond cleared None (map.get n q))
still_there m n true q is = refl
still_there m n false q is = map.contains_key-keys m q ∙ ap (list_any (eq_by_cmp text_cmp q)) is ∙ sym (map.contains_key-keys n q)

module _ {M V : Type 0} (left : M → Option V) where
  -- after a mark a key is there or not, whatever was kept of what stood there
  kept : (o : Option M) (a : Option (Unit {0})) (b : Option V) → is_some a ≡ is_some b
      → is_some (found_after (keeping left) o a) ≡ is_some (found_after left o b)
  kept None a b is = is
  kept (Some mark) a b is = added-is (is_some (left mark))

  -- the keys after a delta are those of the keys alone after it
  pub keys-applied : (d : Keyed M) (s : SetOfTexts) (m : MapOf V) → map.keys s ≡ map.keys m
      → map.keys (applied (keeping left) d s) ≡ map.keys (applied left d m)
  keys-applied d s m is =
      same_keys _ _
      (λ q.
      let mark = map.get d.marks q in
      ap is_some (get-applied (keeping left) d s q mark d.cleared refl refl)
      ∙ kept mark (cond d.cleared None (map.get s q)) (cond d.cleared None (map.get m q)) (still_there s m d.cleared q is)
      ∙ ap is_some (sym (get-applied left d m q mark d.cleared refl refl)))
