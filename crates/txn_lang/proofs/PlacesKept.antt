-- What is kept of names, as they are bound and forgotten.
use Rattle.std.proofs.Common.{◌≡◌, ◌+◌, ◌-◌, ℕ, zero, suc, Bool, true, false, cond, List, [], ◌∷◌, ◌++◌, take, length, fold}
use Rattle.std.proofs.Common.{Option, Some, None, refl, ap, sym, ◌∙◌, subst, arith}
use Rattle.std.proofs.Common.{append_assoc}
use Rattle.std.specs.List.{slice_get, take-map}
use Rattle.std.specs.Option.{option_map}
use Rattle.std.specs.declared.cmp.Ordering.TheVariants.{Equal}
use Rattle.std.specs.Ordering.{eq_by_cmp, is_eq}
use Rattle.std.specs.FinMap as fin
use Rattle.std.proofs.lemmas.List.{map-append, length-map, length-append}
use Rattle.std.proofs.lemmas.List.Sums.{fold-append}
use Rattle.std.proofs.lemmas.Cmp.{nat_list_cmp_total}
use Rattle.std.proofs.Math.Seq.{take-append_seam}
use Rattle.plain_data.specs.Texts.{Bytes, MapOf, text_cmp}
use Rattle.plain_data.proofs.Entries.{equal}
use Rattle.plain_data.proofs.Histories.{IsLawful-push, IsLawful-prefix, IsLawful-place}
use Rattle.txn_lang.specs.Bindings.{bound, later}
use Rattle.txn_lang.specs.declared.environment.Binding.{Binding}
use Rattle.txn_lang.specs.code.Places.{names_of, placed, place_bound, place_there, Hides, Keeps}

-- what a name is bound to behind one more binding
bound-push : (names : List (Bytes × ℕ)) (n : Bytes × ℕ) (x : Bytes) → bound (names ++ n ∷ []) x ≡ cond (eq_by_cmp text_cmp x n.0) (Some n.1) (bound names x)
bound-push names n x = fold-append (later x) None names (n ∷ [])

-- a choice of what is kept is one of what is there
place_there-cond : (b : Bool) (p : Option ℕ) (o : Option (Option ℕ)) → place_there (cond b (Some p) o) ≡ cond b p (place_there o)
place_there-cond true p o = refl
place_there-cond false p o = refl

-- what is found at a name once another is put
place_there-insert : (places : MapOf (Option ℕ)) (k : Bytes) (p : Option ℕ) (x : Bytes)
    → place_there (fin.get (fin.insert places k p) x) ≡ cond (eq_by_cmp text_cmp x k) p (place_there (fin.get places x))
place_there-insert places k p x =
    ap place_there (fin.get-insert nat_list_cmp_total places k p x) ∙ place_there-cond (eq_by_cmp text_cmp x k) p (fin.get places x)

-- the same name has the same place
later-tied : (names : List (Bytes × ℕ)) (x y : Bytes) (start : Option ℕ) → text_cmp x y ≡ Equal → fold (later x) start names ≡ fold (later y) start names
later-tied [] x y start tied = refl
later-tied (n ∷ names) x y start tied =
    ap (λ r. fold (later x) (cond (is_eq r) (Some n.1) start) names) (nat_list_cmp_total.congr x y n.0 tied) ∙ later-tied names x y (later y start n) tied

-- the item behind others
item_behind : {A : Type 0} (before rest : List A) (x : A) → slice_get (before ++ x ∷ rest) (length before) ≡ Some x
item_behind [] rest x = refl
item_behind (y ∷ before) rest x = item_behind before rest x

-- a list whose last item is known
split_last : {A : Type 0} (xs : List A) (n : ℕ) (x : A) → n + 1 ≡ length xs → slice_get xs n ≡ Some x → xs ≡ take n xs ++ x ∷ []
split_last [] n x e there = absurd (cc)
split_last (y ∷ []) zero x e there = let is : y ≡ x = cc in ap (λ z. z ∷ []) is
split_last (y ∷ z ∷ xs) zero x e there = absurd (omega arith)
split_last (y ∷ xs) (suc n) x e there = ap (λ zs. y ∷ zs) (split_last xs n x (omega arith) there)

module _ {A : Type 0} where
  -- nothing is kept of no names
  pub keeps-empty : Keeps {A = A} fin.empty []
  keeps-empty = record { newest = λ x. ap place_there (fin.get-empty text_cmp x); hidden = tt }

  -- ---- one more binding

  -- as many names as bindings
  pub length-names_of : (bs : List (Binding A)) → length (names_of bs) ≡ length bs
  length-names_of bs = length-map bs (λ (b : Binding A). (b.name, b.value))

  -- the names of bindings behind which one more stands
  names_of-push : (bs : List (Binding A)) (b : Binding A) → names_of (bs ++ b ∷ []) ≡ names_of bs ++ (b.name, b.value) ∷ []
  names_of-push bs b = map-append (λ (b : Binding A). (b.name, b.value)) bs (b ∷ [])

  -- the places of names behind which one more is bound
  placed-push : (from : ℕ) (names : List (Bytes × A)) (n : Bytes × A) → placed from (names ++ n ∷ []) ≡ placed from names ++ (n.0, from + length names) ∷ []
  placed-push from [] n = ap (λ p. (n.0, p) ∷ []) (omega arith)
  placed-push from (m ∷ names) n =
      ap (λ ns. (m.0, from) ∷ ns) (placed-push (suc from) names n ∙ ap (λ p. placed (suc from) names ++ (n.0, p) ∷ []) (omega arith))

  -- the same of bindings, from 0
  placed-names : (bs : List (Binding A)) (b : Binding A) → placed 0 (names_of (bs ++ b ∷ [])) ≡ placed 0 (names_of bs) ++ (b.name, length bs) ∷ []
  placed-names bs b =
      let count : 0 + length (names_of bs) ≡ length bs = omega (arith, length-names_of bs) in
      ap (placed 0) (names_of-push bs b)
      ∙ placed-push 0 (names_of bs) (b.name, b.value)
      ∙ ap (λ n. placed 0 (names_of bs) ++ (b.name, n) ∷ []) count

  -- the place of a name behind one more binding
  place-push : (bs : List (Binding A)) (b : Binding A) (x : Bytes)
      → place_bound (names_of (bs ++ b ∷ [])) x ≡ cond (eq_by_cmp text_cmp x b.name) (Some (length bs)) (place_bound (names_of bs) x)
  place-push bs b x =
      ap (λ ns. bound ns x) (placed-names bs b) ∙ bound-push (placed 0 (names_of bs)) (b.name, length bs) x

  -- a name that is bound
  keeps-bind : (places : MapOf (Option ℕ)) (bs : List (Binding A)) (b : Binding A) → Keeps places bs → Hides 0 bs b
      → Keeps (fin.insert places b.name (Some (length bs))) (bs ++ b ∷ [])
  keeps-bind places bs b keeps hides = record {
    newest = λ x.
        place_there-insert places b.name (Some (length bs)) x
        ∙ ap (cond (eq_by_cmp text_cmp x b.name) (Some (length bs))) (keeps.newest x)
        ∙ sym (place-push bs b x);
    hidden = IsLawful-push Hides 0 bs b keeps.hidden hides;
  }

  -- a name that is bound, as the code puts its binding together
  pub keeps-bound : (places : MapOf (Option ℕ)) (bs : List (Binding A)) (names : List (Bytes × A)) (x key own : Bytes) (i : A) (hidden : Option ℕ) (place : ℕ)
      → Keeps places bs → names_of bs ≡ names → hidden ≡ place_bound names x → key ≡ x → own ≡ x → place ≡ length bs
      → Keeps (fin.insert places key (Some place)) (bs ++ (record { name = own; value = i; hidden = hidden }) ∷ [])
  keeps-bound places bs names x key own i hidden place keeps are hides is own_is place_is =
      let b : Binding A = record { name = own; value = i; hidden = hidden } in
      subst (λ p. Keeps (fin.insert places key (Some p)) (bs ++ b ∷ [])) (sym place_is)
      (subst (λ k. Keeps (fin.insert places k (Some (length bs))) (bs ++ b ∷ [])) (own_is ∙ sym is)
      (keeps-bind places bs b keeps (hides ∙ ap (place_bound names) (sym own_is) ∙ ap (λ ns. place_bound ns own) (sym are))))

  -- ---- the last binding forgotten

  -- the name that was bound last is forgotten
  keeps-forget : (places : MapOf (Option ℕ)) (bs : List (Binding A)) (b : Binding A) → Keeps places (bs ++ b ∷ [])
      → Keeps (fin.insert places b.name b.hidden) bs
  keeps-forget places bs b keeps = record {
    newest = λ x. place_there-insert places b.name b.hidden x ∙ by x (eq_by_cmp text_cmp x b.name) refl;
    hidden = IsLawful-prefix Hides 0 bs (bs ++ b ∷ []) (b ∷ [], refl) keeps.hidden;
  }
    where
      last_hides : Hides 0 bs b
      last_hides =
          subst (λ before. Hides 0 before b) (take-append_seam bs (b ∷ []))
          (IsLawful-place Hides 0 (bs ++ b ∷ []) keeps.hidden (length bs) b (item_behind bs [] b))

      by : (x : Bytes) (tied : Bool) → eq_by_cmp text_cmp x b.name ≡ tied → cond tied b.hidden (place_there (fin.get places x)) ≡ place_bound (names_of bs) x
      by x true e = last_hides ∙ sym (later-tied (placed 0 (names_of bs)) x b.name None (equal (text_cmp x b.name) e))
      by x false e = keeps.newest x ∙ place-push bs b x ∙ ap (λ t. cond t (Some (length bs)) (place_bound (names_of bs) x)) e

  -- the same, of a list whose last place is known
  pub keeps-forgotten : (places : MapOf (Option ℕ)) (bs : List (Binding A)) (n : ℕ) (b : Binding A)
      → Keeps places bs → n + 1 ≡ length bs → slice_get bs n ≡ Some b
      → Keeps (fin.insert places b.name b.hidden) (take n bs)
  keeps-forgotten places bs n b keeps e there = keeps-forget places (take n bs) b (subst (Keeps places) (split_last bs n b e there) keeps)

  -- what is left of names when the last is forgotten
  pub names_of-forgot : (bs : List (Binding A)) (names : List (Bytes × A)) (k : ℕ) → names_of bs ≡ names → k ≡ length bs
      → names_of (take (k - 1) bs) ≡ take (length names - 1) names
  names_of-forgot bs names k are is =
      sym (take-map (λ (b : Binding A). (b.name, b.value)) (k - 1) bs)
      ∙ ap (λ n. take (n - 1) (names_of bs)) (is ∙ sym (length-names_of bs))
      ∙ ap (λ ns. take (length ns - 1) ns) are

  -- ---- what stands at a place

  -- the item of the binding at a place
  abbrev item_at : List (Binding A) → Option ℕ → Option A
  item_at all None = None
  item_at all (Some p) = option_map (λ b. b.value) (slice_get all p)

  -- a choice between two places is one between their items
  item_at-cond : (all : List (Binding A)) (k : ℕ) (b : Binding A) (o : Option ℕ) (tied : Bool) → slice_get all k ≡ Some b
      → item_at all (cond tied (Some k) o) ≡ cond tied (Some b.value) (item_at all o)
  item_at-cond all k b o true there = ap (option_map (λ b. b.value)) there
  item_at-cond all k b o false there = refl

  -- the item at the place of a name is what the name is bound to, binding by binding
  items-placed : (x : Bytes) (all before bs : List (Binding A)) (k : ℕ) (o : Option ℕ) → before ++ bs ≡ all → k ≡ length before
      → item_at all (fold (later x) o (placed k (names_of bs))) ≡ fold (later x) (item_at all o) (names_of bs)
  items-placed x all before [] k o split count = refl
  items-placed x all before (b ∷ bs) k o split count =
      let there : slice_get all k ≡ Some b = ap (λ l. slice_get l k) (sym split) ∙ ap (slice_get (before ++ b ∷ bs)) count ∙ item_behind before bs b in
      let more : suc k ≡ length (before ++ b ∷ []) = omega (arith, count, length-append before (b ∷ [])) in
      items-placed x all (before ++ b ∷ []) bs (suc k) (later x o (b.name, k)) (append_assoc before (b ∷ []) bs ∙ split) more
      ∙ ap (λ i. fold (later x) i (names_of bs)) (item_at-cond all k b o (eq_by_cmp text_cmp x b.name) there)

  -- a name that has no place isn't bound
  pub not_placed : (bs : List (Binding A)) (names : List (Bytes × A)) (x : Bytes) → names_of bs ≡ names → None ≡ place_bound names x → None ≡ bound names x
  not_placed bs names x are none =
      ap (item_at bs) (none ∙ ap (λ ns. place_bound ns x) (sym are)) ∙ items-placed x bs [] bs 0 None refl refl ∙ ap (λ ns. bound ns x) are

  -- a name that has a place is bound to the item that stands there
  pub placed_is : (bs : List (Binding A)) (names : List (Bytes × A)) (x : Bytes) (p : ℕ) → names_of bs ≡ names → Some p ≡ place_bound names x
      → option_map (λ b. b.value) (slice_get bs p) ≡ bound names x
  placed_is bs names x p are some =
      ap (item_at bs) (some ∙ ap (λ ns. place_bound ns x) (sym are)) ∙ items-placed x bs [] bs 0 None refl refl ∙ ap (λ ns. bound ns x) are
