-- Chains of tied spots: a key more at their end, a key less, and the walk over one.
use Rattle.std.proofs.Common.{◌≡◌, ℕ, zero, suc, ◌≤◌, Bool, true, false, not, cond, ◌||◌, List, [], ◌∷◌, ◌++◌, length, nat_eq, refl, sym, ap, subst}
use Rattle.std.proofs.Common.{◌∙◌, arith}
use Rattle.std.specs.List.{list_any}
use Rattle.std.proofs.lemmas.Bool.{eqb-true, eqb-false, eq-eqb, or_parts, false_from_ne_true}
use Rattle.edge_slab.specs.declared.chains.Spot.{Spot}
use Rattle.edge_slab.specs.declared.chains.Spot.TheVariants.{End, Key, Nowhere}
use Rattle.edge_slab.specs.Edges.{without}
use Rattle.edge_slab.specs.Chains.{Tied, Runs, is_same, at_key, walk_from}

-- ---- spots

-- spots that are the same by test are one
pub same_spot : (a b : Spot) → is_same a b ≡ true → a ≡ b
same_spot (End m) (End n) e = ap (λ k. End k) (eqb-true m n e)
same_spot (Key m) (Key n) e = ap (λ k. Key k) (eqb-true m n e)
same_spot Nowhere Nowhere e = refl
same_spot (End m) (Key n) e = absurd (cc)
same_spot (End m) Nowhere e = absurd (cc)
same_spot (Key m) (End n) e = absurd (cc)
same_spot (Key m) Nowhere e = absurd (cc)
same_spot Nowhere (End n) e = absurd (cc)
same_spot Nowhere (Key n) e = absurd (cc)

-- a spot is the same as itself
pub same_spot_itself : (a : Spot) → is_same a a ≡ true
same_spot_itself (End n) = eq-eqb n n refl
same_spot_itself (Key n) = eq-eqb n n refl
same_spot_itself Nowhere = refl

-- spots that differ fail the test
pub apart : (a b : Spot) → (a ≡ b → ⊥) → is_same a b ≡ false
apart a b ne = false_from_ne_true (is_same a b) (λ e. ne (same_spot a b e))

-- a key is no end
pub key_no_end : (k n : ℕ) → Key k ≡ End n → ⊥
key_no_end k n e = cc

-- numbers that differ are different keys
pub other_key : (k j : ℕ) → nat_eq k j ≡ false → Key j ≡ Key k → ⊥
other_key k j f e = let same : j ≡ k = cc in eqb-false k j f (sym same)

-- and different ends
pub other_end : (m n : ℕ) → nat_eq m n ≡ false → End m ≡ End n → ⊥
other_end m n f e = let same : m ≡ n = cc in eqb-false m n f same

-- ---- one chain

module _ (next last : Spot → Spot) where
  -- the spot to which the first tie goes
  abbrev first : List ℕ → Spot → Spot
  first [] to = to
  first (key ∷ keys) to = Key key

  -- that tie
  first_tied : (keys : List ℕ) (from to : Spot) → Runs next last from keys to → Tied next last from (first keys to)
  first_tied [] from to runs = runs
  first_tied (key ∷ keys) from to runs = runs.0

  -- a key of a chain is tied on both sides
  pub tied_both : (k : ℕ) (keys : List ℕ) (from to : Spot) → Runs next last from keys to → list_any (nat_eq k) keys ≡ true
      → (next (last (Key k)) ≡ Key k) × (last (next (Key k)) ≡ Key k)
  tied_both k [] from to runs e = absurd (cc)
  tied_both k (j ∷ js) from to runs e = by (nat_eq k j) refl e (tied_both k js (Key j) to runs.1)
    where
      here : (next (last (Key j)) ≡ Key j) × (last (next (Key j)) ≡ Key j)
      here =
          let ahead = first_tied js (Key j) to runs.1 in
          (ap next runs.0.back ∙ runs.0.forth, ap last ahead.forth ∙ ahead.back)

      by : (b : Bool) → nat_eq k j ≡ b → (b || list_any (nat_eq k) js) ≡ true
          → (list_any (nat_eq k) js ≡ true → (next (last (Key k)) ≡ Key k) × (last (next (Key k)) ≡ Key k))
          → (next (last (Key k)) ≡ Key k) × (last (next (Key k)) ≡ Key k)
      by true same f rest =
          subst (λ (i : ℕ). (next (last (Key i)) ≡ Key i) × (last (next (Key i)) ≡ Key i)) (sym (eqb-true k j same)) here
      by false same f rest = rest f

  -- where a chain goes, the spot before is tied to it
  pub closed : (keys : List ℕ) (from to : Spot) → Runs next last from keys to → next (last to) ≡ to
  closed [] from to runs = ap next runs.back ∙ runs.forth
  closed (key ∷ keys) from to runs = closed keys (Key key) to runs.1

  -- the spot before isn't a key that the chain lacks
  pub before_apart : (k : ℕ) (keys : List ℕ) (from to : Spot) → (from ≡ Key k → ⊥) → list_any (nat_eq k) keys ≡ false → Runs next last from keys to
      → last to ≡ Key k → ⊥
  before_apart k [] from to differs e runs is = differs (sym runs.back ∙ is)
  before_apart k (j ∷ js) from to differs e runs is =
      let parts = or_parts (nat_eq k j) (list_any (nat_eq k) js) e in
      before_apart k js (Key j) to (other_key k j parts.0) parts.1 runs.1 is

  -- a walk over a chain gives its keys
  pub walked : (list : ℕ) (keys : List ℕ) (from : Spot) (most : ℕ) → length keys ≤ most → Runs next last from keys (End list)
      → walk_from next most (next from) ≡ keys
  walked list [] from zero few runs = refl
  walked list [] from (suc most) few runs = ap (λ s. at_key s (λ key. key ∷ walk_from next most (next (Key key)))) runs.forth
  walked list (key ∷ keys) from zero few runs = absurd (omega (arith, few))
  walked list (key ∷ keys) from (suc most) few runs =
      ap (λ s. at_key s (λ key. key ∷ walk_from next most (next (Key key)))) runs.0.forth
      ∙ ap (λ l. key ∷ l) (walked list keys (Key key) most (omega (arith, few)) runs.1)

-- the same ties make the same chain
pub same_runs : (next last next' last' : Spot → Spot) → ((s : Spot) → next' s ≡ next s) → ((s : Spot) → last' s ≡ last s)
    → (keys : List ℕ) (from to : Spot) → Runs next last from keys to → Runs next' last' from keys to
same_runs next last next' last' nexts lasts [] from to runs = record { forth = nexts from ∙ runs.forth; back = lasts to ∙ runs.back }
same_runs next last next' last' nexts lasts (key ∷ keys) from to runs = (
  record { forth = nexts from ∙ runs.0.forth; back = lasts (Key key) ∙ runs.0.back },
  same_runs next last next' last' nexts lasts keys (Key key) to runs.1,
)

-- ---- a key less

-- a key, tied on both sides, was taken out: its neighbours are tied to one another, and all other ties are as they were
pub record Removes (next last next' last' : Spot → Spot) (k : ℕ) : Type 0 where
  pub forth : next (last (Key k)) ≡ Key k
  pub back : last (next (Key k)) ≡ Key k
  pub joined : next' (last (Key k)) ≡ next (Key k)
  pub joined_back : last' (next (Key k)) ≡ last (Key k)
  pub nexts : (s : Spot) → is_same (last (Key k)) s ≡ false → next' s ≡ next s
  pub lasts : (s : Spot) → is_same (next (Key k)) s ≡ false → last' s ≡ last s

module _ (next last next' last' : Spot → Spot) (k : ℕ) (out : Removes next last next' last' k) where
  -- a tie without the key is as it was
  kept : (o s : Spot) → (o ≡ Key k → ⊥) → (s ≡ Key k → ⊥) → Tied next last o s → Tied next' last' o s
  kept o s differs ns tied = record {
    forth = out.nexts o (apart (last (Key k)) o (λ e. ns (sym tied.forth ∙ ap next (sym e) ∙ out.forth))) ∙ tied.forth;
    back = out.lasts s (apart (next (Key k)) s (λ e. differs (sym tied.back ∙ ap last (sym e) ∙ out.back))) ∙ tied.back;
  }

  -- the tie over the gap
  over : (s : Spot) → Tied next last (Key k) s → Tied next' last' (last (Key k)) s
  over s tied = record { forth = out.joined ∙ tied.forth; back = ap last' (sym tied.forth) ∙ out.joined_back }

  module _ (to : Spot) (ends : to ≡ Key k → ⊥) where
    -- a chain from a spot before the key goes on without it
    abbrev Before : List ℕ → Type 0
    Before keys = (from : Spot) → (from ≡ Key k → ⊥) → Runs next last from keys to → Runs next' last' from (without k keys) to

    -- and one from the key itself goes on from the spot before
    abbrev Behind : List ℕ → Type 0
    Behind keys = (last (Key k) ≡ Key k → ⊥) → Runs next last (Key k) keys to → Runs next' last' (last (Key k)) (without k keys) to

    both : (keys : List ℕ) → Before keys × Behind keys
    both [] = (λ from differs runs. kept from to differs ends runs, λ alone runs. over to runs)
    both (j ∷ js) = by (nat_eq k j) refl (both js)
      where
        by : (b : Bool) → nat_eq k j ≡ b → Before js × Behind js
            → ((from : Spot) → (from ≡ Key k → ⊥) → Runs next last from (j ∷ js) to
            → Runs next' last' from (cond (not b) (j ∷ without k js) (without k js)) to)
            × ((last (Key k) ≡ Key k → ⊥) → Runs next last (Key k) (j ∷ js) to
            → Runs next' last' (last (Key k)) (cond (not b) (j ∷ without k js) (without k js)) to)
        by true same rest =
            let is : Key j ≡ Key k = ap (λ i. Key i) (sym (eqb-true k j same)) in (
              λ from differs runs.
                  let before : last (Key k) ≡ from = ap last (sym is) ∙ runs.0.back in
                  subst (λ (s : Spot). Runs next' last' s (without k js) to) before
                  (rest.1 (λ e. differs (sym before ∙ e)) (subst (λ (s : Spot). Runs next last s js to) is runs.1)),
              λ alone runs. absurd (alone (ap last (sym is) ∙ runs.0.back)),
            )
        by false same rest =
            let not_it = other_key k j same in (
              λ from differs runs. (kept from (Key j) differs not_it runs.0, rest.0 (Key j) not_it runs.1),
              λ alone runs. (over (Key j) runs.0, rest.0 (Key j) not_it runs.1),
            )

  -- each chain goes on without the key
  pub removed : (keys : List ℕ) (list : ℕ) → Runs next last (End list) keys (End list) → Runs next' last' (End list) (without k keys) (End list)
  removed keys list runs = (both (End list) (λ e. key_no_end k list (sym e)) keys).0 (End list) (λ e. key_no_end k list (sym e)) runs

-- ---- a key more

-- a key was tied between the last spot of a list and its end, and all other ties are as they were
pub record Pushes (next last next' last' : Spot → Spot) (list k : ℕ) : Type 0 where
  pub closed : next (last (End list)) ≡ End list
  pub forth : next' (last (End list)) ≡ Key k
  pub back : last' (Key k) ≡ last (End list)
  pub forth_end : next' (Key k) ≡ End list
  pub back_end : last' (End list) ≡ Key k
  pub nexts : (s : Spot) → is_same (last (End list)) s ≡ false → is_same (Key k) s ≡ false → next' s ≡ next s
  pub lasts : (s : Spot) → is_same (End list) s ≡ false → is_same (Key k) s ≡ false → last' s ≡ last s

module _ (next last next' last' : Spot → Spot) (list k : ℕ) (put : Pushes next last next' last' list k) where
  -- a tie without the key and the end is as it was
  stays : (o s : Spot) → (o ≡ Key k → ⊥) → (s ≡ Key k → ⊥) → (s ≡ End list → ⊥) → Tied next last o s → Tied next' last' o s
  stays o s differs ns ne tied = record {
    forth = put.nexts o (apart (last (End list)) o (λ e. ne (sym tied.forth ∙ ap next (sym e) ∙ put.closed))) (apart (Key k) o (λ e. differs (sym e))) ∙ tied.forth;
    back = put.lasts s (apart (End list) s (λ e. ne (sym e))) (apart (Key k) s (λ e. ns (sym e))) ∙ tied.back;
  }

  -- the list has the key at its end
  here : (keys : List ℕ) (from : Spot) → (from ≡ Key k → ⊥) → list_any (nat_eq k) keys ≡ false → Runs next last from keys (End list)
      → Runs next' last' from (keys ++ k ∷ []) (End list)
  here [] from differs e runs = (
    record { forth = ap next' (sym runs.back) ∙ put.forth; back = put.back ∙ runs.back },
    record { forth = put.forth_end; back = put.back_end },
  )
  here (j ∷ js) from differs e runs =
      let parts = or_parts (nat_eq k j) (list_any (nat_eq k) js) e in
      let not_it = other_key k j parts.0 in
      (stays from (Key j) differs not_it (key_no_end j list) runs.0, here js (Key j) not_it parts.1 runs.1)

  -- the others are as they were
  there : (m : ℕ) → (End m ≡ End list → ⊥) → (keys : List ℕ) (from : Spot) → (from ≡ Key k → ⊥) → list_any (nat_eq k) keys ≡ false
      → Runs next last from keys (End m) → Runs next' last' from keys (End m)
  there m other [] from differs e runs = stays from (End m) differs (λ f. key_no_end k m (sym f)) other runs
  there m other (j ∷ js) from differs e runs =
      let parts = or_parts (nat_eq k j) (list_any (nat_eq k) js) e in
      let not_it = other_key k j parts.0 in
      (stays from (Key j) differs not_it (key_no_end j list) runs.0, there m other js (Key j) not_it parts.1 runs.1)

  -- by whether it is the list
  pub pushed : (m : ℕ) (keys : List ℕ) → list_any (nat_eq k) keys ≡ false → Runs next last (End m) keys (End m)
      → Runs next' last' (End m) (cond (nat_eq m list) (keys ++ k ∷ []) keys) (End m)
  pushed m keys e runs = by (nat_eq m list) refl
    where
      differs : (n : ℕ) → End n ≡ Key k → ⊥
      differs n f = key_no_end k n (sym f)

      by : (b : Bool) → nat_eq m list ≡ b → Runs next' last' (End m) (cond b (keys ++ k ∷ []) keys) (End m)
      by true same =
          let is : list ≡ m = sym (eqb-true m list same) in
          subst (λ (n : ℕ). Runs next' last' (End n) (keys ++ k ∷ []) (End n)) is
          (here keys (End list) (differs list) e (subst (λ (n : ℕ). Runs next last (End n) keys (End n)) (sym is) runs))
      by false same = there m (other_end m list same) keys (End m) (differs m) e runs
