-- What calls keep of a roll: as many numbers as watches, which rise, and the stale ones listed.
use Rattle.std.proofs.Common.{◌≡◌, ℕ, zero, suc, ◌+◌, ◌<◌, ◌≤◌, Bool, true, false, not, cond, ◌&&◌, ◌||◌, List}
use Rattle.std.proofs.Common.{[], ◌∷◌, ◌++◌, length, slice_get, Some, None, Vec, Global, refl, sym, ap, subst, ◌∙◌, arith}
use Rattle.std.proofs.lemmas.Bool.{and_parts, not-true}
use Rattle.std.specs.List.{AllByRecursion}
use Rattle.std.specs.Map.{values_of, set_value, remove_entry}
use Rattle.indexmap.specs.IndexMap.{set_value_at}
use Rattle.plain_data.specs.Texts.{Bytes}
use Rattle.rdt_types.specs.DeltaMaps.{Deltas}
use Rattle.rerun_driver.specs.declared.watch.Watch.{Watch}
use Rattle.std.specs.Option.{option_map_or}
use Rattle.std.specs.Str.{bytes_eq}
use Rattle.txn_lang.specs.declared.run.Run.{Run}
use Rattle.rerun_driver.specs.Watches.{Watches, watch_of, told, touches, settled, with_report}
use Rattle.rerun_driver.specs.code.Numbers.{Roomy, with_number, without_number}
use Rattle.rerun_driver.specs.code.Rolls.{IsRoll, IsInOrder, number_in, stale_numbers}
use Rattle.rerun_driver.specs.code.Shown.{shown}
use Rattle.rerun_driver.proofs.Shown.{Kept, is_named}
use Rattle.rerun_driver.proofs.Rising.{rising-with, rising-without, with-last}
use Rattle.rerun_driver.proofs.Rolls.{stale-put, stale-same, stale-settled, stale-removed, stale-added, as-many-removed, all-without, removed-few}

-- a write leaves the length
length-set_at : (kept : Kept) (p : ℕ) (v : Watch) → length (set_value_at kept p v) ≡ length kept
length-set_at [] p v = refl
length-set_at (x ∷ kept) zero v = refl
length-set_at (x ∷ kept) (suc p) v = ap suc (length-set_at kept p v)

-- so does one by name, which changes one entry or none
length-set : (test : Vec ℕ Global → Bool) (kept : Kept) (v : Watch) → length (set_value test kept v) ≡ length kept
length-set test [] v = refl
length-set test (x ∷ kept) v = by (test x.0) (length-set test kept v)
  where
    by : (b : Bool) → length (set_value test kept v) ≡ length kept → length (cond b ((x.0, v) ∷ kept) (x ∷ set_value test kept v)) ≡ suc (length kept)
    by true rest = refl
    by false rest = ap suc rest

-- what is shown has an entry for each that is kept
pub length-shown : (kept : Kept) → length (shown kept) ≡ length kept
length-shown [] = refl
length-shown (x ∷ kept) = ap suc (length-shown kept)

-- what is shown of it is in order
pub in-order : (order stale : Roomy) (made : ℕ) (kept : Kept) → IsRoll order stale made kept → IsInOrder (order.0, shown kept)
in-order order stale made kept r = record { rising = r.rising; as_many = r.as_many ∙ sym (length-shown kept) }

module _ (order stale : Roomy) (made : ℕ) (kept : Kept) (r : IsRoll order stale made kept) where
  -- a watch that becomes stale is listed
  pub keeps-turned : (changes : Deltas) (p n : ℕ) (w : Watch) → slice_get order.0 p ≡ Some n → slice_get (values_of kept) p ≡ Some w
      → (not w.stale && touches changes w.observations) ≡ true
      → IsRoll order (with_number stale.0 n, stale.1) made (set_value_at kept p (told changes w))
  keeps-turned changes p n w at e turned =
      let parts = and_parts (not w.stale) (touches changes w.observations) turned in
      let same = length-set_at kept p (told changes w) in
      record {
        as_many = r.as_many ∙ sym same;
        rising = r.rising;
        below = r.below;
        listed = ap (λ xs. with_number xs n) r.listed
            ∙ stale-put order.0 kept p n w (told changes w) r.rising at e (not-true w.stale parts.0) (told-stale w.stale parts.1);
        room = subst (λ l. l ≤ stale.1) (sym same) r.room;
      }
    where
      told-stale : (b : Bool) → touches changes w.observations ≡ true → (b || touches changes w.observations) ≡ true
      told-stale true t = refl
      told-stale false t = t

  -- one that doesn't isn't
  pub keeps-still : (changes : Deltas) (p : ℕ) (w : Watch) → slice_get (values_of kept) p ≡ Some w
      → (not w.stale && touches changes w.observations) ≡ false → IsRoll order stale made (set_value_at kept p (told changes w))
  keeps-still changes p w e still =
      let same = length-set_at kept p (told changes w) in
      record {
        as_many = r.as_many ∙ sym same;
        rising = r.rising;
        below = r.below;
        listed = r.listed ∙ stale-same order.0 kept p w (told changes w) e (as-before w.stale (touches changes w.observations) still);
        room = subst (λ l. l ≤ stale.1) (sym same) r.room;
      }
    where
      as-before : (b t : Bool) → (not b && t) ≡ false → (b || t) ≡ b
      as-before true t e = refl
      as-before false t e = e

  -- a watch that reports is listed no longer
  pub keeps-settled : (name : Bytes) (n : ℕ) (v : Watch) → number_in order.0 (shown kept) name ≡ Some n → v.stale ≡ false
      → IsRoll order (without_number stale.0 n, stale.1) made (set_value (is_named name) kept v)
  keeps-settled name n v at fresh =
      let same = length-set (is_named name) kept v in
      record {
        as_many = r.as_many ∙ sym same;
        rising = r.rising;
        below = r.below;
        listed = ap (λ xs. without_number xs n) r.listed ∙ stale-settled name v n order.0 kept r.rising at fresh;
        room = subst (λ l. l ≤ stale.1) (sym same) r.room;
      }

  -- nor is one that is gone
  pub keeps-removed : (name : Bytes) (n : ℕ) → number_in order.0 (shown kept) name ≡ Some n
      → IsRoll (without_number order.0 n, order.1) (without_number stale.0 n, stale.1) made (remove_entry (is_named name) kept)
  keeps-removed name n at = record {
    as_many = as-many-removed name n order.0 kept r.rising at r.as_many;
    rising = rising-without order.0 n r.rising;
    below = all-without (λ m. m < made) order.0 n r.below;
    listed = ap (λ xs. without_number xs n) r.listed ∙ stale-removed name n order.0 kept r.rising at;
    room = (let few = removed-few name kept in let h = r.room in omega (arith, few, h));
  }

  -- a new watch, for which there is room
  pub keeps-added : (room more : ℕ) (key : Vec ℕ Global) (v : Watch) → v.stale ≡ false → length kept + 1 ≤ room
      → IsRoll (with_number order.0 made, more) (stale.0, room) (made + 1) (kept ++ (key, v) ∷ [])
  keeps-added room more key v fresh fits = record {
    as_many = ap length last ∙ longer order.0 kept r.as_many;
    rising = rising-with order.0 made r.rising;
    below = subst (AllByRecursion (λ m. m < made + 1)) (sym last) (higher order.0 r.below);
    listed = r.listed ∙ stale-added key v made order.0 kept r.as_many fresh
        ∙ ap (λ o. stale_numbers o (values_of (kept ++ (key, v) ∷ []))) (sym last);
    room = (let h = one-more kept in omega (arith, fits, h));
  }
    where
      last : with_number order.0 made ≡ order.0 ++ made ∷ []
      last = with-last order.0 made r.below

      longer : (xs : List ℕ) (ys : Kept) → length xs ≡ length ys → length (xs ++ made ∷ []) ≡ length (ys ++ (key, v) ∷ [])
      longer [] [] e = refl
      longer [] (y ∷ ys) e = absurd (omega (arith, e))
      longer (x ∷ xs) [] e = absurd (omega (arith, e))
      longer (x ∷ xs) (y ∷ ys) e = ap suc (longer xs ys (omega (arith, e)))

      higher : (xs : List ℕ) → AllByRecursion (λ m. m < made) xs → AllByRecursion (λ m. m < made + 1) (xs ++ made ∷ [])
      higher [] all = (omega arith, tt)
      higher (x ∷ xs) all = (let h = all.0 in omega (arith, h), higher xs all.1)

      one-more : (ys : Kept) → length (ys ++ (key, v) ∷ []) ≡ length ys + 1
      one-more [] = refl
      one-more (y ∷ ys) = let h = one-more ys in omega (arith, h)

-- ---- places

-- there is a value for each entry
pub values-long : (kept : Kept) → length (values_of kept) ≡ length kept
values-long [] = refl
values-long (x ∷ kept) = ap suc (values-long kept)

-- where no number stands, no watch does
none-past : (xs : List ℕ) (p : ℕ) → slice_get xs p ≡ None → length xs ≤ p
none-past [] p e = omega arith
none-past (x ∷ xs) zero e = absurd (cc)
none-past (x ∷ xs) (suc p) e = let h = none-past xs p e in omega (arith, h)

-- so a place past the numbers is past what is shown, since these are as many
pub past-shown : (order : List ℕ) (kept : Kept) (p : ℕ) → length order ≡ length kept → slice_get order p ≡ None → length (shown kept) ≤ p
past-shown order kept p same e = let h = none-past order p e in let k = length-shown kept in omega (arith, same, h, k)

-- a report of none changes nothing
pub unreported : (ws : Watches) (name : Bytes) (number : ℕ) (run : Run) → watch_of ws name ≡ None → with_report ws name number run ≡ ws
unreported ws name number run none =
    ap (λ o. option_map_or (λ watch. set_value (bytes_eq name) ws (settled number run watch)) o ws) none
