-- Deltas of lists: what they leave, what they change, and what two of them do.
use Rattle.std.proofs.Common.{◌≡◌, ◌<◌, ℕ, zero, suc, Bool, true, false, not, cond, ◌||◌, List, [], ◌∷◌, ◌++◌, length, replicate, nat_eq}
use Rattle.std.proofs.Common.{slice_get, Option, Some, None, refl, sym, ap, ◌∙◌, ◌⊎◌, inl, inr, length-append, arith}
use Rattle.std.proofs.lemmas.Bool.{true≢false, not-false, eqb-true, or_parts, cases_eq}
use Rattle.std.proofs.lemmas.List.{length-replicate}
use Rattle.std.proofs.lemmas.List.Elements.{filter-append}
use Rattle.std.proofs.Math.Bool.{or-true}
use Rattle.std.proofs.Math.Dec.{eqb-suc-zero}
use Rattle.std.specs.FinMap as map
use Rattle.plain_data.specs.Texts.{Bytes, SetOfTexts, has_text}
use Rattle.plain_data.specs.Overlays.{union}
use Rattle.plain_data.proofs.TextMaps.{empty-length}
use Rattle.rdt_types.specs.Listed.{Listed, without, applied, composed}
use Rattle.rdt_types.proofs.Listed.{without-none}
use Rattle.conflict_table.specs.Clashes.{has_some}
use Rattle.conflict_table.proofs.Keys.{empty-has_some, key-has_some, has_some-overlaid, or_none}

-- whether a list has items
abbrev pub has_items : List Bytes → Bool
has_items xs = not (nat_eq (length xs) 0)

-- a list whose length is 0 is empty
pub has_no_items : (xs : List Bytes) → has_items xs ≡ false → xs ≡ []
has_no_items xs none = empty-length xs (eqb-true (length xs) 0 (not-false _ none))

-- two lists after one another have items where one of them has
has_items-append : (xs ys : List Bytes) → has_items (xs ++ ys) ≡ (has_items xs || has_items ys)
has_items-append [] ys = refl
has_items-append (x ∷ xs) ys = ap not (eqb-suc-zero (length (xs ++ ys))) ∙ sym (ap (λ b. not b || has_items ys) (eqb-suc-zero (length xs)))

-- a place within a list is there with more behind it
pub slice_get-append : (xs ys : List Bytes) (i : ℕ) → i < length xs → slice_get (xs ++ ys) i ≡ slice_get xs i
slice_get-append [] ys i h = absurd (omega arith)
slice_get-append (x ∷ xs) ys zero h = refl
slice_get-append (x ∷ xs) ys (suc i) h = slice_get-append xs ys i (omega arith)

-- the last of equal items
slice_get-replicate : (i : ℕ) (x : Bytes) → slice_get (replicate (suc i) x) i ≡ Some x
slice_get-replicate zero x = refl
slice_get-replicate (suc i) x = slice_get-replicate i x

-- whether the first item stays goes by whether its text is taken out
without_step : (removed : SetOfTexts) (b : Bool) (x : Bytes) (xs : List Bytes) → has_text removed x ≡ b
    → without removed (x ∷ xs) ≡ cond (not b) (x ∷ without removed xs) (without removed xs)
without_step removed b x xs is = ap (λ b. cond (not b) (x ∷ without removed xs) (without removed xs)) is

-- where nothing is taken out all stay
without_nothing : (removed : SetOfTexts) (xs : List Bytes) → removed ≡ map.empty → without removed xs ≡ xs
without_nothing removed xs none = ap (λ r. without r xs) none ∙ without-none xs

-- of items that are all taken out none stays
without_all : (removed : SetOfTexts) (n : ℕ) (x : Bytes) → has_text removed x ≡ true → without removed (replicate n x) ≡ []
without_all removed zero x there = refl
without_all removed (suc n) x there = without_step removed true x (replicate n x) there ∙ without_all removed n x there

-- and of items that aren't all stay
without_others : (removed : SetOfTexts) (n : ℕ) (x : Bytes) → has_text removed x ≡ false → without removed (replicate n x) ≡ replicate n x
without_others removed zero x there = refl
without_others removed (suc n) x there =
    without_step removed false x (replicate n x) there
    ∙ ap (λ ys. x ∷ ys) (without_others removed n x there)

-- a delta that neither clears nor takes out pushes
pub applied_pushes : (d : Listed) (xs : List Bytes) → (d.cleared || has_some d.removed) ≡ false → applied d xs ≡ xs ++ d.pushed
applied_pushes d xs h =
    let none = or_parts d.cleared (has_some d.removed) h in
    ap (λ b. cond b [] (without d.removed xs) ++ d.pushed) none.0
    ∙ ap (λ ys. ys ++ d.pushed) (without_nothing d.removed xs (empty-has_some d.removed none.1))

-- ---- some list that changes

-- a text is longer by a byte in front
pub longer : (x : Bytes) → x ≡ 0 ∷ x → ⊥
longer x e = let lengths : length x ≡ suc (length x) = ap length e in absurd (omega arith)

-- an item that may be there is not both of two texts
not_both : (o : Option Bytes) (x : Bytes) → (o ≡ Some x → ⊥) ⊎ (o ≡ Some (0 ∷ x) → ⊥)
not_both None x = inl (λ e. absurd (cc))
not_both (Some p) x = by (cases_eq (length p) (length x))
  where
    by : (length p ≡ length x) ⊎ (length p ≡ length x → ⊥) → (Some p ≡ Some x → ⊥) ⊎ (Some p ≡ Some (0 ∷ x) → ⊥)
    by (inl same) = inr (λ e. let is : p ≡ 0 ∷ x = cc in let lengths : length p ≡ suc (length x) = ap length is in absurd (omega arith))
    by (inr other) = inl (λ e. other (let is : p ≡ x = cc in ap length is))

-- a list that is longer than a place, and the item at it is another after the delta
abbrev pub ChangesAt : ℕ → Listed → Type 0
ChangesAt i d = (xs : List Bytes) × (i < length xs) × (slice_get (applied d xs) i ≡ slice_get xs i → ⊥)

-- equal items of which none stays change at their last place, unless the delta pushes the same item there
all_gone : (i : ℕ) (d : Listed) (x : Bytes) → applied d (replicate (suc i) x) ≡ d.pushed → (slice_get d.pushed i ≡ Some x → ⊥)
    → ChangesAt i d
all_gone i d x gone other = (
  replicate (suc i) x,
  omega (arith, length-replicate (suc i) x),
  λ same. other (sym (ap (λ xs. slice_get xs i) gone) ∙ same ∙ slice_get-replicate i x),
)

-- after a clear there is only what the delta pushes
cleared_goes : (d : Listed) (xs : List Bytes) → d.cleared ≡ true → applied d xs ≡ d.pushed
cleared_goes d xs clears = ap (λ b. cond b [] (without d.removed xs) ++ d.pushed) clears

-- a clear changes every place
cleared_changes : (i : ℕ) (d : Listed) → d.cleared ≡ true → ChangesAt i d
cleared_changes i d clears = by (not_both (slice_get d.pushed i) [])
  where
    by : (slice_get d.pushed i ≡ Some [] → ⊥) ⊎ (slice_get d.pushed i ≡ Some (0 ∷ []) → ⊥) → ChangesAt i d
    by (inl other) = all_gone i d [] (cleared_goes d (replicate (suc i) []) clears) other
    by (inr other) = all_gone i d (0 ∷ []) (cleared_goes d (replicate (suc i) (0 ∷ [])) clears) other

-- where equal items are all taken out there is only what the delta pushes, as after a clear
removed_goes : (b : Bool) (d : Listed) (n : ℕ) (x : Bytes) → d.cleared ≡ b → has_text d.removed x ≡ true
    → applied d (replicate n x) ≡ d.pushed
removed_goes true d n x clears there = cleared_goes d _ clears
removed_goes false d n x keeps there =
    ap (λ b. cond b [] (without d.removed (replicate n x)) ++ d.pushed) keeps
    ∙ ap (λ xs. xs ++ d.pushed) (without_all d.removed n x there)

-- where other items follow those that are taken out they move to the front
moved_up : (d : Listed) (n : ℕ) (x y : Bytes) → d.cleared ≡ false → has_text d.removed x ≡ true → has_text d.removed y ≡ false
    → applied d (replicate n x ++ replicate n y) ≡ replicate n y ++ d.pushed
moved_up d n x y keeps there stays =
    ap (λ b. cond b [] (without d.removed (replicate n x ++ replicate n y)) ++ d.pushed) keeps
    ∙ ap (λ xs. xs ++ d.pushed) (filter-append (λ item. not (has_text d.removed item)) (replicate n x) (replicate n y)
    ∙ ap (λ xs. xs ++ without d.removed (replicate n y)) (without_all d.removed n x there)
    ∙ without_others d.removed n y stays)

-- and so does a text that is taken out: it is followed by other items, or by none
removed_changes : (i : ℕ) (d : Listed) (x : Bytes) → d.cleared ≡ false → has_text d.removed x ≡ true → ChangesAt i d
removed_changes i d x keeps there = by (has_text d.removed (0 ∷ x)) refl
  where
    none_stays : has_text d.removed (0 ∷ x) ≡ true → (slice_get d.pushed i ≡ Some x → ⊥) ⊎ (slice_get d.pushed i ≡ Some (0 ∷ x) → ⊥)
        → ChangesAt i d
    none_stays longer_there (inl other) = all_gone i d x (removed_goes false d (suc i) x keeps there) other
    none_stays longer_there (inr other) = all_gone i d (0 ∷ x) (removed_goes false d (suc i) (0 ∷ x) keeps longer_there) other

    one_stays : has_text d.removed (0 ∷ x) ≡ false → ChangesAt i d
    one_stays stays = (
      replicate (suc i) x ++ replicate (suc i) (0 ∷ x),
      omega (arith, length-append (replicate (suc i) x) (replicate (suc i) (0 ∷ x)), length-replicate (suc i) x),
      λ same. longer x (let items : Some (0 ∷ x) ≡ Some x =
          sym (slice_get-replicate i (0 ∷ x))
          ∙ sym (slice_get-append (replicate (suc i) (0 ∷ x)) d.pushed i (omega (arith, length-replicate (suc i) (0 ∷ x))))
          ∙ sym (ap (λ xs. slice_get xs i) (moved_up d (suc i) x (0 ∷ x) keeps there stays))
          ∙ same
          ∙ slice_get-append (replicate (suc i) x) (replicate (suc i) (0 ∷ x)) i (omega (arith, length-replicate (suc i) x))
          ∙ slice_get-replicate i x in cc),
    )

    by : (b : Bool) → has_text d.removed (0 ∷ x) ≡ b → ChangesAt i d
    by true longer_there = none_stays longer_there (not_both (slice_get d.pushed i) x)
    by false stays = one_stays stays

-- a delta that clears or takes out changes every place, of some list
pub changed_at : (i : ℕ) (d : Listed) → (d.cleared || has_some d.removed) ≡ true → ChangesAt i d
changed_at i d h = by d.cleared refl h
  where
    by : (b : Bool) → d.cleared ≡ b → (b || has_some d.removed) ≡ true → ChangesAt i d
    by true clears some = cleared_changes i d clears
    by false keeps some = let key = key-has_some d.removed some in removed_changes i d key.0 keeps key.1

-- an empty list has nothing to clear or to take out
of_nothing : (b : Bool) (d : Listed) → cond b [] (without d.removed []) ++ d.pushed ≡ d.pushed
of_nothing true d = refl
of_nothing false d = refl

-- one that clears, takes out or pushes changes some list
pub changed : (d : Listed) → ((d.cleared || has_some d.removed) || has_items d.pushed) ≡ true → (xs : List Bytes) × (applied d xs ≡ xs → ⊥)
changed d h = by (d.cleared || has_some d.removed) refl h
  where
    by : (b : Bool) → (d.cleared || has_some d.removed) ≡ b → (b || has_items d.pushed) ≡ true → (xs : List Bytes) × (applied d xs ≡ xs → ⊥)
    by true takes some = let change = changed_at 0 d takes in (change.0, λ same. change.2 (ap (λ xs. slice_get xs 0) same))
    by false keeps some = ([], λ same. true≢false (sym some ∙ ap has_items (sym (of_nothing d.cleared d) ∙ same)))

-- ---- compositions

-- a union has texts where one of the two sets has
has_some-union : (r s : SetOfTexts) → has_some (union r s) ≡ (has_some r || has_some s)
has_some-union r s = has_some-overlaid (λ text. Some text) (λ text. refl) r s

-- whether a delta clears, or also takes out
pub clears-composed : (d e : Listed) → (composed d e).cleared ≡ (d.cleared || e.cleared)
clears-composed d e = by e.cleared refl
  where
    by : (b : Bool) → e.cleared ≡ b → (composed d e).cleared ≡ (d.cleared || b)
    by true is =
        ap (λ b. (cond b e (record {
          cleared = d.cleared;
          removed = cond d.cleared map.empty (union d.removed e.removed);
          pushed = without e.removed d.pushed ++ e.pushed;
        })).cleared) is
        ∙ is
        ∙ sym (or-true d.cleared)
    by false is =
        ap (λ b. (cond b e (record {
          cleared = d.cleared;
          removed = cond d.cleared map.empty (union d.removed e.removed);
          pushed = without e.removed d.pushed ++ e.pushed;
        })).cleared) is
        ∙ sym (or_none d.cleared)

-- whether a delta clears or takes items out
abbrev pub takes : Listed → Bool
takes d = d.cleared || has_some d.removed

-- a second that clears stands alone, and a first that clears stays so; else what is taken out is the union
takes_parts : (c : Bool) (r : SetOfTexts) (p : List Bytes) (b : Bool) (s : SetOfTexts) (q : List Bytes)
    → takes (composed (record { cleared = c; removed = r; pushed = p }) (record { cleared = b; removed = s; pushed = q }))
    ≡ ((c || has_some r) || (b || has_some s))
takes_parts c r p true s q = sym (or-true (c || has_some r))
takes_parts true r p false s q = refl
takes_parts false r p false s q = has_some-union r s

-- so a composition clears or takes out where one of the two does
pub takes-composed : (d e : Listed) → takes (composed d e) ≡ (takes d || takes e)
takes-composed d e = takes_parts d.cleared d.removed d.pushed e.cleared e.removed e.pushed

-- what the first pushed and the second takes out is taken out
still_some : (r s p q n : Bool) → (s ≡ false → n ≡ (p || q)) → ((r || s) || n) ≡ ((r || p) || (s || q))
still_some true s p q n none = refl
still_some false true p q n none = sym (or-true p)
still_some false false p q n none = none refl

-- where the second takes nothing out, all that was pushed stays
pushed_by : (s : SetOfTexts) (p q : List Bytes) → has_some s ≡ false → has_items (without s p ++ q) ≡ (has_items p || has_items q)
pushed_by s p q none = ap (λ xs. has_items (xs ++ q)) (without_nothing s p (empty-has_some s none)) ∙ has_items-append p q

-- whether a delta does anything
abbrev pub acts : Listed → Bool
acts d = (d.cleared || has_some d.removed) || has_items d.pushed

-- a clear of either one is left; else what the first pushed stays, or the second takes texts out and so does something itself
acts_parts : (c : Bool) (r : SetOfTexts) (p : List Bytes) (b : Bool) (s : SetOfTexts) (q : List Bytes)
    → acts (composed (record { cleared = c; removed = r; pushed = p }) (record { cleared = b; removed = s; pushed = q }))
    ≡ (((c || has_some r) || has_items p) || ((b || has_some s) || has_items q))
acts_parts c r p true s q = sym (or-true ((c || has_some r) || has_items p))
acts_parts true r p false s q = refl
acts_parts false r p false s q =
    ap (λ b. b || has_items (without s p ++ q)) (has_some-union r s)
    ∙ still_some (has_some r) (has_some s) (has_items p) (has_items q) _ (pushed_by s p q)

-- so a composition does anything where one of the two does
pub acts-composed : (d e : Listed) → acts (composed d e) ≡ (acts d || acts e)
acts-composed d e = acts_parts d.cleared d.removed d.pushed e.cleared e.removed e.pushed
