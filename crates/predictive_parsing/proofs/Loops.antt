-- Reading as many as begin, turn by turn: what a loop in a reader's code keeps.
use Rattle.std.proofs.Common.{◌≡◌, ℕ, suc, zero, ◌+◌, ◌-◌, ◌<◌, ◌≤◌, Bool, true, false, List, [], ◌∷◌, ◌++◌, length}
use Rattle.std.proofs.Common.{Option, None, Ok, Err, refl, ap, sym, ◌∙◌, inl, inr, arith, append_assoc, append-nil}
use Rattle.predictive_parsing.specs.Reading.{Outcome, Reader, next, turns, many, and_then, pure}
use Rattle.predictive_parsing.proofs.Basic.{bool_cases}

-- what was found before goes in front
abbrev pub with_front : {I A : Type 0} → List A → Outcome I (List A) → Outcome I (List A)
with_front found (Ok read) = Ok (found ++ read.0, read.1)
with_front found (Err ts) = Err ts

-- two fronts make one
fronts : {I A : Type 0} (f g : List A) (r : Outcome I (List A)) → with_front f (with_front g r) ≡ with_front (f ++ g) r
fronts f g (Ok read) = ap (λ xs. Ok (xs, read.1)) (sym (append_assoc f g read.0))
fronts f g (Err ts) = refl

-- one value in front
one_front : {I A : Type 0} (a : A) (r : Outcome I (List A)) → and_then r (λ rest. pure (a ∷ rest)) ≡ with_front (a ∷ []) r
one_front a (Ok read) = refl
one_front a (Err ts) = refl

-- as a loop begins, nothing is found
pub no_front : {I A : Type 0} (r : Outcome I (List A)) → with_front [] r ≡ r
no_front (Ok read) = refl
no_front (Err ts) = refl

-- ---- turns that are counted

module _ {I A : Type 0} (starts : Option I → Bool) (item : Reader I A) where
  -- the turns that are left behind one value, with that value in front
  after : ℕ → A → Reader I (List A)
  after n a us = and_then (turns starts item n us) (λ rest. pure (a ∷ rest))

  -- where none begins no turn reads anything, however many are left
  turns_stop : (n : ℕ) (ts : List I) → starts (next ts) ≡ false → turns starts item n ts ≡ Ok ([], ts)
  unfolding turns
  turns_stop zero ts s = refl
  turns_stop (suc n) ts s = rw s refl

  -- where one begins, a turn reads one and goes on with the others
  turns_go : (n : ℕ) (ts : List I) → starts (next ts) ≡ true → turns starts item (suc n) ts ≡ and_then (item ts) (after n)
  unfolding turns after
  turns_go n ts s = rw s refl

  -- as a loop begins, nothing is found, and as many turns are left as items
  pub many_begins : (found : List A) (ts : List I) → found ≡ [] → with_front found (turns starts item (length ts - 0) ts) ≡ many starts item ts
  unfolding many
  many_begins found ts e =
      let k : length ts - 0 ≡ length ts = omega arith in
      ap (λ xs. with_front xs (turns starts item (length ts - 0) ts)) e ∙ no_front (turns starts item (length ts - 0) ts) ∙ ap (λ n. turns starts item n ts) k

  -- The loop has found these, the items ts are left with so many turns, and all is read as `whole`.
  module _ (found : List A) (n : ℕ) (ts : List I) (whole : Outcome I (List A)) (so_far : with_front found (turns starts item n ts) ≡ whole) where
    -- where one begins and a turn is left, the whole is what this turn reads behind what was found
    one_of : (m : ℕ) → n ≡ m + 1 → starts (next ts) ≡ true → whole ≡ with_front found (and_then (item ts) (after m))
    one_of m e s =
        let k : n ≡ suc m = omega arith in
        sym so_far ∙ ap (λ i. with_front found (turns starts item i ts)) k ∙ ap (with_front found) (turns_go m ts s)

    -- a turn finds one more
    pub turn_made : (m : ℕ) (us : List I) (a : A) → n ≡ m + 1 → starts (next ts) ≡ true → item ts ≡ Ok (a, us)
        → with_front (found ++ a ∷ []) (turns starts item m us) ≡ whole
    unfolding after
    turn_made m us a l s e =
        sym (fronts found (a ∷ []) (turns starts item m us))
        ∙ ap (with_front found) (sym (ap (λ o. and_then o (after m)) e ∙ one_front a (turns starts item m us)))
        ∙ sym (one_of m l s)

    -- the loop ends where one begins and is refused
    pub turn_refused : (m : ℕ) (us : List I) → n ≡ m + 1 → starts (next ts) ≡ true → item ts ≡ Err us → whole ≡ Err us
    turn_refused m us l s e = one_of m l s ∙ ap (λ o. with_front found (and_then o (after m))) e

    -- it ends where none begins
    pub turns_over : starts (next ts) ≡ false → whole ≡ Ok (found, ts)
    turns_over s = sym so_far ∙ ap (with_front found) (turns_stop n ts s) ∙ ap (λ xs. Ok (xs, ts)) (append-nil found)

    -- and where all turns are made
    pub turns_made : n ≡ 0 → whole ≡ Ok (found, ts)
    unfolding turns
    turns_made e = sym so_far ∙ ap (λ i. with_front found (turns starts item i ts)) e ∙ ap (λ xs. Ok (xs, ts)) (append-nil found)

-- ---- as many turns as items

module _ {I A : Type 0} (starts : Option I → Bool) (item : Reader I A) (at_end : starts None ≡ false)
    (shrinks : (ts us : List I) (a : A) → item ts ≡ Ok (a, us) → length us < length ts) where
  -- the turns that are left behind one value
  abbrev next_turns : ℕ → A → Reader I (List A)
  next_turns = after starts item

  -- where two numbers of turns read the same behind one, they read the same with it
  same_after : (m n : ℕ) (ts : List I) (r : Outcome I A) → item ts ≡ r
      → ((us : List I) (a : A) → item ts ≡ Ok (a, us) → turns starts item m us ≡ turns starts item n us)
      → and_then r (next_turns m) ≡ and_then r (next_turns n)
  unfolding after
  same_after m n ts (Ok (a, us)) e same = ap (λ o. and_then o (λ rest. pure (a ∷ rest))) (same us a e)
  same_after m n ts (Err us) e same = refl

  -- How many turns are allowed makes no difference where they are enough, as each takes an item.
  same_turns : (m n : ℕ) (ts : List I) → length ts ≤ m → length ts ≤ n → turns starts item m ts ≡ turns starts item n ts
  same_turns zero n [] l k = turns_stop starts item zero [] at_end ∙ sym (turns_stop starts item n [] at_end)
  same_turns zero n (t ∷ ts) l k = absurd (omega arith)
  same_turns (suc m) zero [] l k = turns_stop starts item (suc m) [] at_end ∙ sym (turns_stop starts item zero [] at_end)
  same_turns (suc m) zero (t ∷ ts) l k = absurd (omega arith)
  same_turns (suc m) (suc n) ts l k = elim (bool_cases (starts (next ts))) [
    | inl s ↦ turns_go starts item m ts s
        ∙ same_after m n ts (item ts) refl (λ us a e. let h = shrinks ts us a e in same_turns m n us (omega arith) (omega arith))
        ∙ sym (turns_go starts item n ts s)
    | inr s ↦ turns_stop starts item (suc m) ts s ∙ sym (turns_stop starts item (suc n) ts s)
  ]

  -- none is read where none begins
  pub many_stop : (ts : List I) → starts (next ts) ≡ false → many starts item ts ≡ Ok ([], ts)
  unfolding many
  many_stop ts s = turns_stop starts item (length ts) ts s

  -- nothing begins at the end, so where one begins an item is left
  pub some_left : (ts : List I) → starts (next ts) ≡ true → (n : ℕ) × (length ts ≡ suc n)
  some_left [] s = absurd (let k = at_end in cc)
  some_left (t ∷ ts) s = (length ts, omega arith)

  -- one is read where one begins, and then all the others
  pub many_go : (ts : List I) → starts (next ts) ≡ true
      → many starts item ts ≡ and_then (item ts) (λ a us. and_then (many starts item us) (λ rest. pure (a ∷ rest)))
  unfolding many after
  many_go ts s =
      let k = some_left ts s in
      ap (λ m. turns starts item m ts) k.1 ∙ turns_go starts item k.0 ts s ∙ with_all (item ts) refl k.0 k.1
    where
      with_all : (r : Outcome I A) → item ts ≡ r → (n : ℕ) → length ts ≡ suc n
          → and_then r (next_turns n) ≡ and_then r (λ a us. and_then (turns starts item (length us) us) (λ rest. pure (a ∷ rest)))
      with_all (Ok (a, us)) e n l =
          let h = shrinks ts us a e in ap (λ o. and_then o (λ rest. pure (a ∷ rest)))
          (same_turns n (length us) us (omega arith) (omega arith))
      with_all (Err us) e n l = refl

  -- The loop has found these, the items ts are left, and all is read as `whole`.
  module _ (found : List A) (ts : List I) (whole : Outcome I (List A)) (so_far : with_front found (many starts item ts) ≡ whole) where
    -- a turn finds one more
    pub turn : (us : List I) (a : A) → starts (next ts) ≡ true → item ts ≡ Ok (a, us) → with_front (found ++ a ∷ []) (many starts item us) ≡ whole
    turn us a s e =
        sym (fronts found (a ∷ []) (many starts item us))
        ∙ ap (with_front found) (sym (many_go ts s
        ∙ ap (λ o. and_then o (λ b vs. and_then (many starts item vs) (λ rest. pure (b ∷ rest)))) e
        ∙ one_front a (many starts item us)))
        ∙ so_far

    -- the loop ends where one begins and is refused
    pub refused : (us : List I) → starts (next ts) ≡ true → item ts ≡ Err us → whole ≡ Err us
    refused us s e =
        sym so_far ∙ ap (with_front found) (many_go ts s ∙ ap (λ o. and_then o (λ b vs. and_then (many starts item vs) (λ rest. pure (b ∷ rest)))) e)

    -- it ends where none begins
    pub ended : starts (next ts) ≡ false → whole ≡ Ok (found, ts)
    ended s = sym so_far ∙ ap (with_front found) (many_stop ts s) ∙ ap (λ xs. Ok (xs, ts)) (append-nil found)
