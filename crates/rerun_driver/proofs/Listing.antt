-- The stale watches by their numbers: the names and the bodies of these are those of all that are stale.
use Rattle.std.proofs.Common.{◌≡◌, ℕ, zero, suc, ◌<◌, Bool, true, false, cond, nat_eq, List, [], ◌∷◌, ◌++◌, map, length, drop, get_or, slice_get}
use Rattle.std.proofs.Common.{Option, Some, None, option_map, option_and_then, refl, sym, ap, ◌∙◌, append_assoc, arith}
use Rattle.std.proofs.lemmas.Bool.{eq-eqb, ne_eqb}
use Rattle.std.proofs.lemmas.List.{map-append}
use Rattle.std.specs.List.{AllByRecursion}
use Rattle.std.specs.Map.{values_of}
use Rattle.plain_data.specs.Texts.{Bytes}
use Rattle.txn_lang.specs.declared.checked.Checked.{Checked}
use Rattle.rerun_driver.specs.declared.watch.StaleWatch.{StaleWatch}
use Rattle.rerun_driver.specs.declared.watch.Watch.{Watch}
use Rattle.rerun_driver.specs.Watches.{Watches, Bodies, bodies_of, stale_of}
use Rattle.rerun_driver.specs.code.Numbers.{IsRising, place_in}
use Rattle.rerun_driver.specs.code.Rolls.{stale_numbers, body_in, and_those, bodies_in}
use Rattle.rerun_driver.specs.code.Shown.{shown}
use Rattle.rerun_driver.proofs.Rolls.{and-then-suc, all-stale}
use Rattle.rerun_driver.proofs.Shown.{Kept}

-- ---- one

-- an entry's name and body
abbrev pub listed : Bytes × Watch → Bytes × Checked
listed entry = (entry.0, entry.1.body)

-- those of the entry at a place
abbrev body_at : Kept → Option ℕ → Option (Bytes × Checked)
body_at kept place = option_map (λ entry. (entry.0.items, entry.1.body)) (option_and_then (slice_get kept) place)

-- there is none where nothing is kept
body_at-none : (place : Option ℕ) → body_at [] place ≡ None
body_at-none None = refl
body_at-none (Some p) = refl

-- at the place of the number they are those of the number
body-place : (order : List ℕ) (kept : Kept) (n : ℕ) → body_at kept (place_in order n) ≡ body_in order (shown kept) n
body-place [] kept n = refl
body-place (m ∷ ms) [] n = body_at-none (place_in (m ∷ ms) n)
body-place (m ∷ ms) (entry ∷ kept) n = by (nat_eq m n) (body-place ms kept n)
  where
    by : (b : Bool) → body_at kept (place_in ms n) ≡ body_in ms (shown kept) n
        → body_at (entry ∷ kept) (cond b (Some 0) (option_map suc (place_in ms n)))
        ≡ cond b (Some (entry.0.items, entry.1.body)) (body_in ms (shown kept) n)
    by true rest = refl
    by false rest = ap (option_map (λ e. (e.0.items, e.1.body))) (and-then-suc entry kept (place_in ms n)) ∙ rest

-- the same, where the place is known
pub body-found : (order : List ℕ) (kept : Kept) (n : ℕ) (o : Option ℕ) → place_in order n ≡ o
    → option_map (λ entry. (entry.0.items, entry.1.body)) (option_and_then (slice_get kept) o) ≡ body_in order (shown kept) n
body-found order kept n o e = ap (body_at kept) (sym e) ∙ body-place order kept n

-- ---- all

-- numbers above the first are those of watches behind it
bodies-above : (m : ℕ) (ms : List ℕ) (e : Bytes × Watch) (ws : Watches) (ns : List ℕ) → AllByRecursion (λ k. m < k) ns
    → bodies_in (m ∷ ms) (e ∷ ws) ns ≡ bodies_in ms ws ns
bodies-above m ms e ws [] all = refl
bodies-above m ms e ws (n ∷ ns) all =
    ap (λ b. and_those (cond b (Some (e.0, e.1.body)) (body_in ms ws n)) (bodies_in (m ∷ ms) (e ∷ ws) ns))
    (ne_eqb m n (λ same. let h = all.0 in omega (arith, h, same)))
    ∙ ap (and_those (body_in ms ws n)) (bodies-above m ms e ws ns all.1)

-- THE NUMBERS OF THE STALE ONES give all that are stale
pub stale-bodies : (order : List ℕ) (kept : Kept) → IsRising order → length order ≡ length kept
    → bodies_in order (shown kept) (stale_numbers order (values_of kept)) ≡ stale_of (shown kept)
stale-bodies [] [] r same = refl
stale-bodies [] (e ∷ kept) r same = absurd (omega (arith, same))
stale-bodies (m ∷ ms) [] r same = absurd (omega (arith, same))
stale-bodies (m ∷ ms) (e ∷ kept) r same = by e.1.stale (stale-bodies ms kept r.1 (omega (arith, same)))
  where
    entry : Bytes × Watch
    entry = (e.0.items, e.1)

    others : List ℕ
    others = stale_numbers ms (values_of kept)

    above : bodies_in (m ∷ ms) (entry ∷ shown kept) others ≡ bodies_in ms (shown kept) others
    above = bodies-above m ms entry (shown kept) others (all-stale (λ k. m < k) ms (values_of kept) r.0)

    by : (b : Bool) → bodies_in ms (shown kept) others ≡ stale_of (shown kept)
        → bodies_in (m ∷ ms) (entry ∷ shown kept) (cond b (m ∷ others) others) ≡ cond b (listed entry ∷ stale_of (shown kept)) (stale_of (shown kept))
    by true rest =
        ap (λ b. and_those (cond b (Some (listed entry)) (body_in ms (shown kept) m)) (bodies_in (m ∷ ms) (entry ∷ shown kept) others)) (eq-eqb m m refl)
        ∙ ap (λ (l : Bodies). listed entry ∷ l) (above ∙ rest)
    by false rest = above ∙ rest

-- ---- one after another

-- one more is listed, and the others are left
pub list-on : (list : List StaleWatch) (watch : StaleWatch) (o : Option (Bytes × Checked)) (others : Bodies)
    → Some (watch.name.now, watch.body.now) ≡ o
    → bodies_of (list ++ watch ∷ []) ++ others ≡ bodies_of list ++ and_those o others
list-on list watch o others is =
    ap (λ (l : Bodies). l ++ others) (map-append _ list (watch ∷ []))
    ∙ append_assoc (bodies_of list) ((watch.name.now, watch.body.now) ∷ []) others
    ∙ ap (λ p. bodies_of list ++ and_those p others) is
