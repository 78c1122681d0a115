-- Deltas of lists: their composition is one after the other, and keeps their form.
use Rattle.std.proofs.Common.{◌≡◌, nat_eq, Bool, true, false, not, ◌||◌, cond, T, Option, Some, None, List, [], ◌∷◌, ◌++◌, length, refl, sym}
use Rattle.std.proofs.Common.{ap, ◌∙◌, subst, append_assoc, append-nil}
use Rattle.std.specs.Option.{is_some}
use Rattle.std.specs.List.{filter}
use Rattle.std.specs.Ordering.{eq_by_cmp}
use Rattle.std.specs.Cmp.Lexicographic.{nat_list_cmp_total}
use Rattle.std.specs.FinMap as map
use Rattle.plain_data.specs.Texts.{Bytes, text_cmp, SetOfTexts, with_text, has_text}
use Rattle.plain_data.specs.Overlays.{found_after, union}
use Rattle.plain_data.proofs.Overlays.{same_map, get-overlaid, len-one, some-len, len-some, nonzero}
use Rattle.rdt_types.specs.Listed.{Listed, of_parts, without, pushing, removing, clearing, has_form, applied, composed}
use Rattle.rdt_types.specs.Values.{others}

-- tests that agree on every text keep the same items
filter-alike : (p q : Bytes → Bool) → ((x : Bytes) → p x ≡ q x) → (xs : List Bytes) → filter p xs ≡ filter q xs
filter-alike p q same [] = refl
filter-alike p q same (x ∷ xs) = λ i. cond (same x i) (x ∷ filter-alike p q same xs i) (filter-alike p q same xs i)

-- what a test keeps of two lists after one another is what it keeps of each
filter-append : (p : Bytes → Bool) (xs ys : List Bytes) → filter p (xs ++ ys) ≡ filter p xs ++ filter p ys
filter-append p [] ys = refl
filter-append p (x ∷ xs) ys = by (filter-append p xs ys) (p x)
  where
    by : filter p (xs ++ ys) ≡ filter p xs ++ filter p ys → (b : Bool)
        → cond b (x ∷ filter p (xs ++ ys)) (filter p (xs ++ ys)) ≡ cond b (x ∷ filter p xs) (filter p xs) ++ filter p ys
    by rest true = ap (λ zs. x ∷ zs) rest
    by rest false = rest

-- where nothing is taken out all items stay
pub without-none : (items : List Bytes) → without map.empty items ≡ items
without-none [] = refl
without-none (x ∷ xs) =
    (λ i. cond (not (is_some (map.get-empty {X = Unit {0}} text_cmp x i))) (x ∷ without map.empty xs) (without map.empty xs))
    ∙ ap (λ ys. x ∷ ys) (without-none xs)

-- a set of one text has what ties with that text
has-one : (text item : Bytes) → has_text (with_text map.empty text) item ≡ eq_by_cmp text_cmp item text
has-one text item =
    ap is_some (map.get-insert nat_list_cmp_total map.empty text tt item ∙ ap (cond (eq_by_cmp text_cmp item text) (Some tt)) (map.get-empty text_cmp item))
    ∙ by (eq_by_cmp text_cmp item text)
  where
    by : (b : Bool) → is_some (cond {A = Option (Unit {0})} b (Some tt) None) ≡ b
    by true = refl
    by false = refl

-- a push takes nothing out, and its item is the last
pub applied-pushing : (items : List Bytes) (item : Bytes) → applied (pushing item) items ≡ items ++ item ∷ []
applied-pushing items item = ap (λ xs. xs ++ item ∷ []) (without-none items)

-- a removal pushes nothing, and an item stays where it doesn't tie with the one text
pub applied-removing : (items : List Bytes) (text : Bytes) → applied (removing text) items ≡ others text items
applied-removing items text = append-nil _ ∙ filter-alike _ _ (λ item. ap not (has-one text item)) items

-- a text is in a union where either set has it
has-union : (some more : SetOfTexts) (x : Bytes) → has_text (union some more) x ≡ (has_text some x || has_text more x)
has-union some more x = ap is_some (get-overlaid (λ u. Some u) some more x) ∙ by (map.get more x) (map.get some x)
  where
    by : (later earlier : Option (Unit {0})) → is_some (found_after (λ u. Some u) later earlier) ≡ (is_some earlier || is_some later)
    by None None = refl
    by None (Some u) = refl
    by (Some u) None = refl
    by (Some u) (Some v) = refl

-- to take out what either names is to take out what one names and then what the other names
without-union : (some more : SetOfTexts) (items : List Bytes) → without (union some more) items ≡ without more (without some items)
without-union some more [] = refl
without-union some more (x ∷ xs) =
    ap (λ c. cond (not c) (x ∷ without (union some more) xs) (without (union some more) xs)) (has-union some more x)
    ∙ by (has_text some x) (has_text more x) refl (without-union some more xs)
  where
    by : (a b : Bool) → has_text more x ≡ b → without (union some more) xs ≡ without more (without some xs)
        → cond (not (a || b)) (x ∷ without (union some more) xs) (without (union some more) xs)
        ≡ without more (cond (not a) (x ∷ without some xs) (without some xs))
    by true b e rest = rest
    by false true e rest = rest ∙ ap (λ c. cond (not c) (x ∷ without more (without some xs)) (without more (without some xs))) (sym e)
    by false false e rest =
        ap (λ ys. x ∷ ys) rest
        ∙ ap (λ c. cond (not c) (x ∷ without more (without some xs)) (without more (without some xs))) (sym e)

-- a second that clears forgets the first; else it takes out of what the first leaves and of what it pushed
applied-fields : (d : Listed) (cleared : Bool) (removed : SetOfTexts) (pushed items : List Bytes)
    → applied (composed d (record { cleared = cleared; removed = removed; pushed = pushed })) items
    ≡ applied (record { cleared = cleared; removed = removed; pushed = pushed }) (applied d items)
applied-fields d true removed pushed items = refl
applied-fields d false removed pushed items =
    ap (λ xs. xs ++ (without removed d.pushed ++ pushed)) (begun d.cleared)
    ∙ sym (append_assoc (without removed (cond d.cleared [] (without d.removed items))) (without removed d.pushed) pushed)
    ∙ ap (λ xs. xs ++ pushed) (sym (filter-append (λ item. not (has_text removed item)) (cond d.cleared [] (without d.removed items)) d.pushed))
  where
    begun : (b : Bool)
        → cond b [] (without (cond b map.empty (union d.removed removed)) items) ≡ without removed (cond b [] (without d.removed items))
    begun true = refl
    begun false = without-union d.removed removed items

-- a composition, applied, is one delta after the other
pub applied-composed : (d e : Listed) (items : List Bytes) → applied (composed d e) items ≡ applied e (applied d items)
applied-composed d e items = applied-fields d e.cleared e.removed e.pushed items

-- of three sets it is one which two are united first
union-union : (first second third : SetOfTexts) → union (union first second) third ≡ union first (union second third)
union-union first second third =
    same_map _ _
    (λ q.
    get-overlaid (λ u. Some u) (union first second) third q
    ∙ ap (found_after (λ u. Some u) (map.get third q)) (get-overlaid (λ u. Some u) first second q)
    ∙ by (map.get third q) (map.get second q) (map.get first q)
    ∙ ap (λ o. found_after (λ u. Some u) o (map.get first q)) (sym (get-overlaid (λ u. Some u) second third q))
    ∙ sym (get-overlaid (λ u. Some u) first (union second third) q))
  where
    by : (c b a : Option (Unit {0}))
        → found_after (λ u. Some u) c (found_after (λ u. Some u) b a) ≡ found_after (λ u. Some u) (found_after (λ u. Some u) c b) a
    by None b a = refl
    by (Some u) b a = refl

-- what two deltas leave of the items that a first pushed
pushed-composed : (second third : SetOfTexts) (items pushed more : List Bytes)
    → without third (without second items ++ pushed) ++ more ≡ without (union second third) items ++ (without third pushed ++ more)
pushed-composed second third items pushed more =
    ap (λ xs. xs ++ more) (filter-append (λ item. not (has_text third item)) (without second items) pushed)
    ∙ append_assoc (without third (without second items)) (without third pushed) more
    ∙ ap (λ xs. xs ++ (without third pushed ++ more)) (sym (without-union second third items))

-- it is one which two of three deltas are composed first
pub composed-composed : (d e f : Listed) → composed (composed d e) f ≡ composed d (composed e f)
composed-composed d e f = by e.cleared e.removed e.pushed f.cleared f.removed f.pushed
  where
    removed_by : (b : Bool) (r s : SetOfTexts)
        → cond b map.empty (union (cond b map.empty (union d.removed r)) s) ≡ cond b map.empty (union d.removed (union r s))
    removed_by true r s = refl
    removed_by false r s = union-union d.removed r s

    by : (b : Bool) (r : SetOfTexts) (p : List Bytes) (c : Bool) (s : SetOfTexts) (q : List Bytes)
        → composed (composed d (of_parts b r p)) (of_parts c s q) ≡ composed d (composed (of_parts b r p) (of_parts c s q))
    by b r p true s q = refl
    by true r p false s q = refl
    by false r p false s q = λ i. of_parts d.cleared (removed_by d.cleared r s i) (pushed-composed r s d.pushed p q i)

-- ---- forms

-- a delta that removes has one text to take out
pub form-removing : (text : Bytes) → T (has_form (removing text))
form-removing text = subst (λ n. T (not (nat_eq n 0) || false)) (sym (len-one text tt)) tt

-- a delta that clears takes nothing out besides
pub form-clearing : T (has_form clearing)
form-clearing = subst (λ n. T (nat_eq n 0)) (sym (map.len-empty text_cmp (Unit {0}))) tt

-- where something more is taken out, something is
some-union : (some more : SetOfTexts) → T (not (nat_eq (map.len more) 0)) → T (not (nat_eq (map.len (union some more)) 0))
some-union some more h =
    let one = len-some more h in
    some-len (union some more) one.0 one.1 (get-overlaid (λ u. Some u) some more one.0 ∙ ap (λ o. found_after (λ u. Some u) o (map.get some one.0)) one.2)

-- where something more is pushed, something is
some-append : (xs ys : List Bytes) → T (not (nat_eq (length ys) 0)) → T (not (nat_eq (length (xs ++ ys)) 0))
some-append [] ys h = h
some-append (x ∷ xs) ys h = subst (λ b. T (not b)) (sym (nonzero (length (xs ++ ys)))) tt

-- where one of two tests holds, so does one of the two that follow from them
either : (a b c d : Bool) → (T a → T c) → (T b → T d) → T (a || b) → T (c || d)
either true b true d first second h = tt
either true b false d first second h = absurd (first tt)
either false b true d first second h = tt
either false b false d first second h = second h

-- over a clear nothing is taken out besides; else what the second takes out or pushes is taken out or pushed by both
form-fields : (d : Listed) (cleared : Bool) (removed : SetOfTexts) (pushed : List Bytes)
    → T (has_form (record { cleared = false; removed = removed; pushed = pushed }))
    → T (has_form (record { cleared = cleared; removed = cond cleared map.empty (union d.removed removed); pushed = without removed d.pushed ++ pushed }))
form-fields d true removed pushed second = form-clearing
form-fields d false removed pushed second =
    either _ _ _ _ (some-union d.removed removed) (some-append (without removed d.pushed) pushed) second

-- what is composed with a delta that doesn't clear keeps the form
pub form-composed : (d e : Listed) → e.cleared ≡ false → T (has_form e)
    → T (has_form (record {
      cleared = d.cleared;
      removed = cond d.cleared map.empty (union d.removed e.removed);
      pushed = without e.removed d.pushed ++ e.pushed;
    }))
form-composed d e is second =
    form-fields d d.cleared e.removed e.pushed (subst (λ b. T (has_form (record { cleared = b; removed = e.removed; pushed = e.pushed }))) is second)

-- the same of what is made part by part
pub form-made : (d e : Listed) (removed : SetOfTexts) (kept pushed : List Bytes) → e.cleared ≡ false → T (has_form e)
    → removed ≡ cond d.cleared map.empty (union d.removed e.removed)
    → kept ≡ without e.removed d.pushed → pushed ≡ kept ++ e.pushed
    → T (has_form (record { cleared = d.cleared; removed = removed; pushed = pushed }))
form-made d e removed kept pushed is second removed-is kept-is pushed-is =
    subst (λ (texts : SetOfTexts). T (has_form (record { cleared = d.cleared; removed = texts; pushed = pushed }))) (sym removed-is)
    (subst (λ (items : List Bytes). T (has_form (record {
      cleared = d.cleared;
      removed = cond d.cleared map.empty (union d.removed e.removed);
      pushed = items;
    })))
    (sym (pushed-is ∙ ap (λ xs. xs ++ e.pushed) kept-is)) (form-composed d e is second))
