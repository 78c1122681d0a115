-- What is kept of watches by their names, and how contracts see it.
use Rattle.std.proofs.Common.{◌≡◌, ℕ, suc, Bool, true, false, not, cond, ◌+◌, ◌||◌, List, [], ◌∷◌, ◌++◌}
use Rattle.std.proofs.Common.{length, slice_get, nat_lt, position, Option, Some, None, option_map, Vec, Global, refl, ap, sym, ◌∙◌, arith}
use Rattle.std.proofs.lemmas.List.Folds.{find_at}
use Rattle.std.proofs.lemmas.Option.{slice_get_past}
use Rattle.std.proofs.lemmas.Bool.{ltb-false}
use Rattle.std.specs.List.{list_any, find, position_or_len}
use Rattle.std.specs.Option.{option_and_then, option_map_or}
use Rattle.std.specs.Map.{lookup, remove_entry, set_value, values_of}
use Rattle.std.specs.Str.{bytes_eq}
use Rattle.plain_data.specs.Texts.{Bytes}
use Rattle.rdt_types.specs.declared.address.Address.{Address}
use Rattle.rerun_driver.specs.declared.watch.Watch.{Watch}
use Rattle.txn_lang.specs.declared.run.Run.{Run}
use Rattle.rerun_driver.specs.Watches.{first_stale, is_observed, is_observed_by, settled, with_report}
use Rattle.rerun_driver.specs.code.Shown.{shown}

-- the watches by their names, as the code keeps them
abbrev pub Kept : Type 0
Kept = List (Vec ℕ Global × Watch)

-- one list behind another
pub shown-append : (kept more : Kept) → shown (kept ++ more) ≡ shown kept ++ shown more
shown-append [] more = refl
shown-append (e ∷ kept) more = ap (λ rest. (e.0.items, e.1) ∷ rest) (shown-append kept more)

-- ---- by names

module _ (name : Bytes) where
  -- the kept name is this one
  abbrev pub is_named : Vec ℕ Global → Bool
  is_named key = bytes_eq name key.items

  -- the watch of a name is the one that is kept by its bytes
  pub lookup-shown : (kept : Kept) → lookup (bytes_eq name) (shown kept) ≡ lookup is_named kept
  lookup-shown [] = refl
  lookup-shown (e ∷ kept) = ap (cond (is_named e.0) (Some e.1)) (lookup-shown kept)

  -- it is taken out there
  pub shown-remove_entry : (kept : Kept) → shown (remove_entry is_named kept) ≡ remove_entry (bytes_eq name) (shown kept)
  shown-remove_entry [] = refl
  shown-remove_entry (e ∷ kept) = by (is_named e.0) (shown-remove_entry kept)
    where
      by : (b : Bool) → shown (remove_entry is_named kept) ≡ remove_entry (bytes_eq name) (shown kept)
          → shown (cond b kept (e ∷ remove_entry is_named kept)) ≡ cond b (shown kept) ((e.0.items, e.1) ∷ remove_entry (bytes_eq name) (shown kept))
      by true rest = refl
      by false rest = ap (λ (r : List (List ℕ × Watch)). (e.0.items, e.1) ∷ r) rest

  -- and another is put in its place
  pub shown-set_value : (kept : Kept) (watch : Watch) → shown (set_value is_named kept watch) ≡ set_value (bytes_eq name) (shown kept) watch
  shown-set_value [] watch = refl
  shown-set_value (e ∷ kept) watch = by (is_named e.0) (shown-set_value kept watch)
    where
      by : (b : Bool) → shown (set_value is_named kept watch) ≡ set_value (bytes_eq name) (shown kept) watch
          → shown (cond b ((e.0, watch) ∷ kept) (e ∷ set_value is_named kept watch))
          ≡ cond b ((e.0.items, watch) ∷ shown kept) ((e.0.items, e.1) ∷ set_value (bytes_eq name) (shown kept) watch)
      by true rest = refl
      by false rest = ap (λ (r : List (List ℕ × Watch)). (e.0.items, e.1) ∷ r) rest

-- ---- the first stale watch

-- the test by which the first stale watch is found
abbrev is_stale : Watch → Bool
is_stale watch = watch.stale

-- an entry as contracts see it
abbrev pub as_shown : Vec ℕ Global × Watch → Bytes × Watch
as_shown entry = (entry.0.items, entry.1)

-- it is the first that is kept as stale
first_stale-shown : (kept : Kept) → first_stale (shown kept) ≡ option_map as_shown (find (λ entry. is_stale entry.1) kept)
first_stale-shown [] = refl
first_stale-shown (e ∷ kept) = by e.1.stale (first_stale-shown kept)
  where
    by : (b : Bool) → first_stale (shown kept) ≡ option_map as_shown (find (λ entry. is_stale entry.1) kept)
        → cond b (Some (as_shown e)) (first_stale (shown kept)) ≡ option_map as_shown (cond b (Some e) (find (λ entry. is_stale entry.1) kept))
    by true rest = refl
    by false rest = rest

-- its place among the watches is that among the entries
place-values : (kept : Kept) → position_or_len is_stale (values_of kept) ≡ position_or_len (λ (entry : Vec ℕ Global × Watch). is_stale entry.1) kept
place-values [] = refl
place-values (e ∷ kept) = by e.1.stale (place-values kept)
  where
    by : (b : Bool) → position_or_len is_stale (values_of kept) ≡ position_or_len (λ (entry : Vec ℕ Global × Watch). is_stale entry.1) kept
        → cond (not b) (1 + position_or_len is_stale (values_of kept)) 0
        ≡ cond (not b) (1 + position_or_len (λ (entry : Vec ℕ Global × Watch). is_stale entry.1) kept) 0
    by true rest = refl
    by false rest = ap (λ n. 1 + n) rest

-- there is a value for each entry
length-values : (kept : Kept) → length (values_of kept) ≡ length kept
length-values [] = refl
length-values (e ∷ kept) = ap suc (length-values kept)

-- what stands at the place that was found, or that there is none
pub found_at : (kept : Kept) (found : Option ℕ) → position is_stale (values_of kept) ≡ found
    → first_stale (shown kept) ≡ option_map as_shown (option_and_then (slice_get kept) found)
found_at kept found e =
    first_stale-shown kept
    ∙ ap (option_map as_shown) (find_at (λ (entry : Vec ℕ Global × Watch). is_stale entry.1) kept ∙ ap (slice_get kept) (sym (place-values kept))
    ∙ by (nat_lt (position_or_len is_stale (values_of kept)) (length (values_of kept))) refl e)
  where
    by : (b : Bool) → nat_lt (position_or_len is_stale (values_of kept)) (length (values_of kept)) ≡ b
        → cond b (Some (position_or_len is_stale (values_of kept))) None ≡ found
        → slice_get kept (position_or_len is_stale (values_of kept)) ≡ option_and_then (slice_get kept) found
    by true is e = ap (option_and_then (slice_get kept)) e
    by false is e =
        slice_get_past kept (position_or_len is_stale (values_of kept))
        (let same = length-values kept in let past = ltb-false _ _ is in omega (arith, same, past))
        ∙ ap (option_and_then (slice_get kept)) e

-- none is stale
pub none_stale : (kept : Kept) → position is_stale (values_of kept) ≡ None → first_stale (shown kept) ≡ None
none_stale kept e = found_at kept None e

-- the one at the place is the first
pub stale_at : (kept : Kept) (place : ℕ) (entry : Vec ℕ Global × Watch) → position is_stale (values_of kept) ≡ Some place → slice_get kept place ≡ Some entry
    → first_stale (shown kept) ≡ Some (entry.0.items, entry.1)
stale_at kept place entry e f = found_at kept (Some place) e ∙ ap (option_map as_shown) f

-- ---- addresses

-- a test of the values is one of the entries, which have the same watches
pub any-shown : (address : Address) (kept : Kept)
    → list_any (λ (watch : Watch). is_observed_by address watch.observations) (values_of kept) ≡ is_observed (shown kept) address
any-shown address [] = refl
any-shown address (e ∷ kept) = ap (λ rest. is_observed_by address e.1.observations || rest) (any-shown address kept)

-- ---- reports

module _ (name bytes : Bytes) (same : bytes ≡ name) (number : ℕ) (run : Run) where
  -- the watch that is kept by the bytes of its name takes the report
  pub shown-settled : (kept : Kept) (watch : Watch) → lookup (is_named bytes) kept ≡ Some watch
      → shown (set_value (is_named bytes) kept (settled number run watch)) ≡ with_report (shown kept) name number run
  shown-settled kept watch there =
      shown-set_value bytes kept (settled number run watch)
      ∙ ap (λ b. set_value (bytes_eq b) (shown kept) (settled number run watch)) same
      ∙ sym (ap (λ o. option_map_or (λ w. set_value (bytes_eq name) (shown kept) (settled number run w)) o (shown kept))
      (lookup-shown name kept ∙ ap (λ b. lookup (is_named b) kept) (sym same) ∙ there))
