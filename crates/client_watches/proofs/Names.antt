-- Watches by their names: what stays once one is made, settled or forgotten.
use Rattle.std.proofs.Common.{◌≡◌, ℕ, Bool, true, false, cond, [], ◌∷◌, ◌++◌, Option, Some, None, refl, ap, ◌∙◌}
use Rattle.std.proofs.lemmas.Slice.Eq.{bytes_eq-Decides}
use Rattle.std.specs.Map.{set_value, remove_entry}
use Rattle.std.specs.Option.{option_map_or}
use Rattle.std.specs.Str.{bytes_eq}
use Rattle.plain_data.specs.Texts.{Bytes}
use Rattle.rdt_types.specs.DeltaMaps.{Deltas}
use Rattle.txn_lang.specs.declared.run.Run.{Run}
use Rattle.rerun_driver.specs.declared.watch.Watch.{Watch}
use Rattle.rerun_driver.specs.Watches.{Watches, watch_of, told, all_told, settled, with_report}
use Rattle.client_watches.specs.Keeping.{AreDistinct}

-- ---- names

-- bytes equal themselves, and no others
pub same_name : (x y : Bytes) → bytes_eq x y ≡ true → x ≡ y
same_name x y e = (bytes_eq-Decides x y).0 e

-- and themselves they do equal
pub name_itself : (x : Bytes) → bytes_eq x x ≡ true
name_itself x = (bytes_eq-Decides x x).1 refl

-- names that differ one way round differ the other
pub other_name : (x y : Bytes) → bytes_eq x y ≡ false → bytes_eq y x ≡ false
other_name x y e = by (bytes_eq y x) refl
  where
    by : (b : Bool) → bytes_eq y x ≡ b → bytes_eq y x ≡ false
    by false h = h
    by true h = absurd (let same = same_name y x h in let is : bytes_eq x y ≡ true = ap (bytes_eq x) same ∙ name_itself x in cc)

-- ---- a watch that is not there

module _ (name : Bytes) where
  -- a list without it, and one more of another name
  pub none-append : (ws : Watches) (e : Bytes × Watch) → watch_of ws name ≡ None → bytes_eq name e.0 ≡ false → watch_of (ws ++ e ∷ []) name ≡ None
  none-append [] e none other = ap (λ b. cond b (Some e.1) None) other
  none-append (x ∷ ws) e none other = by (bytes_eq name x.0) none (λ rest. none-append ws e rest other)
    where
      by : (b : Bool) → cond b (Some x.1) (watch_of ws name) ≡ None → (watch_of ws name ≡ None → watch_of (ws ++ e ∷ []) name ≡ None)
          → cond b (Some x.1) (watch_of (ws ++ e ∷ []) name) ≡ None
      by true h more = absurd (cc)
      by false h more = more h

  -- a watch in the place of another
  pub none-set : (test : Bytes → Bool) (ws : Watches) (v : Watch) → watch_of ws name ≡ None → watch_of (set_value test ws v) name ≡ None
  none-set test [] v none = refl
  none-set test (x ∷ ws) v none = by (bytes_eq name x.0) (test x.0) refl none (λ rest. none-set test ws v rest)
    where
      by : (b c : Bool) → bytes_eq name x.0 ≡ b → cond b (Some x.1) (watch_of ws name) ≡ None
          → (watch_of ws name ≡ None → watch_of (set_value test ws v) name ≡ None)
          → watch_of (cond c ((x.0, v) ∷ ws) (x ∷ set_value test ws v)) name ≡ None
      by true c e h more = absurd (cc)
      by false true e h more = ap (λ b. cond b (Some v) (watch_of ws name)) e ∙ h
      by false false e h more = ap (λ b. cond b (Some x.1) (watch_of (set_value test ws v) name)) e ∙ more h

  -- one less
  pub none-remove : (test : Bytes → Bool) (ws : Watches) → watch_of ws name ≡ None → watch_of (remove_entry test ws) name ≡ None
  none-remove test [] none = refl
  none-remove test (x ∷ ws) none = by (bytes_eq name x.0) (test x.0) refl none (λ rest. none-remove test ws rest)
    where
      by : (b c : Bool) → bytes_eq name x.0 ≡ b → cond b (Some x.1) (watch_of ws name) ≡ None
          → (watch_of ws name ≡ None → watch_of (remove_entry test ws) name ≡ None)
          → watch_of (cond c ws (x ∷ remove_entry test ws)) name ≡ None
      by true c e h more = absurd (cc)
      by false true e h more = h
      by false false e h more = ap (λ b. cond b (Some x.1) (watch_of (remove_entry test ws) name)) e ∙ more h

  -- told ones
  pub none-told : (changes : Deltas) (ws : Watches) → watch_of ws name ≡ None → watch_of (all_told changes ws) name ≡ None
  none-told changes [] none = refl
  none-told changes (x ∷ ws) none = by (bytes_eq name x.0) none (none-told changes ws)
    where
      by : (b : Bool) → cond b (Some x.1) (watch_of ws name) ≡ None → (watch_of ws name ≡ None → watch_of (all_told changes ws) name ≡ None)
          → cond b (Some (told changes x.1)) (watch_of (all_told changes ws) name) ≡ None
      by true h more = absurd (cc)
      by false h more = more h

-- ---- names that differ

-- they differ still once a watch stands in the place of another
pub distinct-set : (test : Bytes → Bool) (ws : Watches) (v : Watch) → AreDistinct ws → AreDistinct (set_value test ws v)
distinct-set test [] v all = tt
distinct-set test (x ∷ ws) v all = by (test x.0) (distinct-set test ws v all.1)
  where
    by : (c : Bool) → AreDistinct (set_value test ws v) → AreDistinct (cond c ((x.0, v) ∷ ws) (x ∷ set_value test ws v))
    by true rest = all
    by false rest = (none-set x.0 test ws v all.0, rest)

-- once one is gone
pub distinct-remove : (test : Bytes → Bool) (ws : Watches) → AreDistinct ws → AreDistinct (remove_entry test ws)
distinct-remove test [] all = tt
distinct-remove test (x ∷ ws) all = by (test x.0) (distinct-remove test ws all.1)
  where
    by : (c : Bool) → AreDistinct (remove_entry test ws) → AreDistinct (cond c ws (x ∷ remove_entry test ws))
    by true rest = all.1
    by false rest = (none-remove x.0 test ws all.0, rest)

-- once all are told
pub distinct-told : (changes : Deltas) (ws : Watches) → AreDistinct ws → AreDistinct (all_told changes ws)
distinct-told changes [] all = tt
distinct-told changes (x ∷ ws) all = (none-told x.0 changes ws all.0, distinct-told changes ws all.1)

-- and once there is one more, of a name that none had
pub distinct-append : (ws : Watches) (e : Bytes × Watch) → AreDistinct ws → watch_of ws e.0 ≡ None → AreDistinct (ws ++ e ∷ [])
distinct-append [] e all free = (refl, tt)
distinct-append (x ∷ ws) e all free = by (bytes_eq e.0 x.0) refl free (λ h. distinct-append ws e all.1 h)
  where
    by : (b : Bool) → bytes_eq e.0 x.0 ≡ b → cond b (Some x.1) (watch_of ws e.0) ≡ None → (watch_of ws e.0 ≡ None → AreDistinct (ws ++ e ∷ []))
        → AreDistinct (x ∷ (ws ++ e ∷ []))
    by true is h rest = absurd (cc)
    by false is h rest = (none-append x.0 ws e all.0 (other_name e.0 x.0 is), rest h)

-- ---- reports

-- by whether there is a watch of the name
abbrev pub reported_in : Watches → Bytes → ℕ → Run → Option Watch → Watches
reported_in ws name n run o = option_map_or (λ watch. set_value (bytes_eq name) ws (settled n run watch)) o ws

-- a report changes no name
pub distinct-report : (ws : Watches) (name : Bytes) (n : ℕ) (run : Run) → AreDistinct ws → AreDistinct (with_report ws name n run)
distinct-report ws name n run all = by (watch_of ws name)
  where
    by : (o : Option Watch) → AreDistinct (reported_in ws name n run o)
    by None = all
    by (Some watch) = distinct-set (bytes_eq name) ws (settled n run watch) all

-- nor does it add one
pub none-report : (q : Bytes) (ws : Watches) (name : Bytes) (n : ℕ) (run : Run) → watch_of ws q ≡ None → watch_of (with_report ws name n run) q ≡ None
none-report q ws name n run none = by (watch_of ws name)
  where
    by : (o : Option Watch) → watch_of (reported_in ws name n run o) q ≡ None
    by None = none
    by (Some watch) = none-set q (bytes_eq name) ws (settled n run watch) none
