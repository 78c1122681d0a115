-- Lists of what fits.
use Rattle.std.proofs.Common.{◌≡◌, ℕ, zero, suc, ◌<◌, ◌≤◌, Bool, true, false, not, List, [], ◌∷◌, ◌++◌, length, Option}
use Rattle.std.proofs.Common.{None, Ok, Err, refl, ap, sym, ◌∙◌, subst, inl, inr, arith, length-append}
use Rattle.std.proofs.lemmas.List.Elements.{All-nil}
use Rattle.predictive_parsing.specs.Reading.{Reader, next, and_then, pure, many, list}
use Rattle.predictive_parsing.specs.Rules.{Rule, Then, Pure, Many, none, more, ListOf}
use Rattle.predictive_parsing.specs.Fits.{Fits, Taken, Stuck, Completes, unless}
use Rattle.predictive_parsing.proofs.Basic.{bool_cases, both, not_true, ok_pair, Bound, bind_ok, bind_err, taken_as, stuck_as}
use Rattle.predictive_parsing.proofs.Loops.{many_stop, many_go}
use Rattle.predictive_parsing.proofs.Combined.{pure_fits, then_taken, then_fits, first_stuck, second_stuck, seen}

-- What begins with an item takes one at least.
module _ {I A : Type 0} (Possible : I → Type 0) (starts : Option I → Bool) (item : Reader I A) (P : Rule I A)
    (between : Option I → Bool) (fi : Fits Possible item P between)
    (begins : (ts us : List I) (a : A) → P ts a us → starts (next ts) ≡ true) (at_end : starts None ≡ false) where
  -- an empty prefix would begin at the end, where nothing begins, so the prefix has an item at least
  shrinks_by : (ts us prefix : List I) (a : A) → ts ≡ prefix ++ us → P (prefix ++ []) a [] → length us < length ts
  shrinks_by ts us [] a e r = absurd (let k = begins [] [] a r in cc)
  shrinks_by ts us (t ∷ prefix) a e r = omega (arith, ap length e, length-append prefix us)

  -- so what is left is shorter behind each that is read
  pub shrinks : (ts us : List I) (a : A) → item ts ≡ Ok (a, us) → length us < length ts
  shrinks ts us a e = let x = fi.takes ts us a e in shrinks_by ts us x.prefix a x.cut (x.derives [])

module _ {I A : Type 0} (Possible : I → Type 0) (starts : Option I → Bool) (item : Reader I A) (P : Rule I A)
    (between : Option I → Bool) (fi : Fits Possible item P between)
    (begins : (ts us : List I) (a : A) → P ts a us → starts (next ts) ≡ true) (at_end : starts None ≡ false)
    (goes : (h : Option I) → starts h ≡ true → between h ≡ true) where
  -- as many as begin
  all : Reader I (List A)
  all = many starts item

  -- what is left is shorter after each turn
  shorter : (ts us : List I) (a : A) → item ts ≡ Ok (a, us) → length us < length ts
  shorter = shrinks Possible starts item P between fi begins at_end

  -- ---- one turn

  -- one, and then all the others
  and_all : A → Reader I (List A)
  and_all a us = and_then (all us) (λ rest. pure (a ∷ rest))

  -- the rule of one, and then of all the others
  AndAll : A → Rule I (List A)
  AndAll a = Then (Many P) (λ rest. Pure (a ∷ rest))

  -- none is read where none begins
  all_stop : (ts : List I) → starts (next ts) ≡ false → all ts ≡ Ok ([], ts)
  unfolding all
  all_stop ts s = many_stop starts item at_end shorter ts s

  -- where one begins, one is read and then all the others
  all_go : (ts : List I) → starts (next ts) ≡ true → and_then (item ts) and_all ≡ all ts
  unfolding all and_all
  all_go ts s = sym (many_go starts item at_end shorter ts s)

  -- a derivation of one and of the others is one of all
  one_more : (ts us : List I) (xs : List A) → Then P AndAll ts xs us → Many P ts xs us
  unfolding AndAll
  one_more ts us xs r =
      let s = r.second in
      subst (λ ys. Many P ts ys us) (sym s.second.is)
      (subst (λ vs. Many P ts (r.value ∷ s.value) vs) s.second.here (more ts r.middle s.middle r.value s.value r.first s.first))

  -- ---- what is taken

  -- where none begins the prefix is empty, and the empty list is read again where the same item is ahead
  none_taken : (ts : List I) → starts (next ts) ≡ false → Taken all (Many P) ts [] ts
  none_taken ts s = record { prefix = []; cut = refl; derives = λ vs. none vs; again = λ vs h. all_stop vs (ap starts h ∙ s) }

  -- the prefix of one and the prefix of all the others, after one another, are a prefix of all
  more_taken : (ts us vs : List I) (a : A) (rest : List A) → starts (next ts) ≡ true → item ts ≡ Ok (a, us)
      → Taken all (Many P) us rest vs → Taken all (Many P) ts (a ∷ rest) vs
  unfolding and_all AndAll
  more_taken ts us vs a rest s e x =
      let y =
      then_taken Possible all (Many P) (λ xs. pure (a ∷ xs)) (λ xs. Pure (a ∷ xs)) us vs vs rest (a ∷ rest) x
      ((pure_fits Possible (a ∷ rest)).takes vs vs (a ∷ rest) refl) in
      let z = then_taken Possible item P and_all AndAll ts us vs a (a ∷ rest) (fi.takes ts us a e) y in
      taken_as (λ xs. and_then (item xs) and_all) all (Then P AndAll) (Many P) one_more ts vs (a ∷ rest) (λ xs h. all_go xs (ap starts h ∙ s)) z

  -- where none begins, whatever was read is the empty list
  nothing_taken : (ts us : List I) (xs : List A) → starts (next ts) ≡ false → all ts ≡ Ok (xs, us) → Taken all (Many P) ts xs us
  nothing_taken ts us xs s e =
      let k = ok_pair [] xs ts us (sym (all_stop ts s) ∙ e) in
      subst (λ ys. Taken all (Many P) ts ys us) k.0 (subst (λ vs. Taken all (Many P) ts [] vs) k.1 (none_taken ts s))

  -- what is read behind one is all the others, and then these with the one in front
  rest_ok : (a : A) (us vs : List I) (xs : List A) → and_all a us ≡ Ok (xs, vs) → Bound (all us) (λ rest. pure (a ∷ rest)) (Ok (xs, vs))
  unfolding and_all
  rest_ok a us vs xs e = bind_ok (all us) (λ rest. pure (a ∷ rest)) xs vs e

  -- The number bounds the items that are left.
  all_takes : (n : ℕ) (ts us : List I) (xs : List A) → length ts ≤ n → all ts ≡ Ok (xs, us) → Taken all (Many P) ts xs us
  all_takes zero [] us xs l e = nothing_taken [] us xs at_end e
  all_takes zero (t ∷ ts) us xs l e = absurd (omega arith)
  all_takes (suc n) ts us xs l e = elim (bool_cases (starts (next ts))) [
    | inl s ↦
        let x = bind_ok (item ts) and_all xs us (all_go ts s ∙ e) in
        let y = rest_ok x.value x.middle us xs x.second in
        let k = ok_pair (x.value ∷ y.value) xs y.middle us y.second in
        let h = shorter ts x.middle x.value x.first in
        subst (λ ys. Taken all (Many P) ts ys us) k.0 (subst (λ vs. Taken all (Many P) ts (x.value ∷ y.value) vs) k.1
        (more_taken ts x.middle y.middle x.value y.value s x.first (all_takes n x.middle y.middle y.value (omega arith) y.first)))
    | inr s ↦ nothing_taken ts us xs s e
  ]

  -- ---- what is derived

  -- an item may be followed by another, and by what follows them all
  pub meets : (ts us : List I) (xs : List A) → Many P ts xs us → between (next us) ≡ true → between (next ts) ≡ true
  meets ts us xs (none ts') h = h
  meets ts us xs (more ts' us' vs' a rest r rs) h = goes (next ts) (begins ts us' a r)

  -- by the derivation: one that is derived begins and is read, and where none is left none begins
  all_reads : (ts us : List I) (xs : List A) → Many P ts xs us → between (next us) ≡ true → starts (next us) ≡ false → all ts ≡ Ok (xs, us)
  unfolding and_all
  all_reads ts us xs (none ts') h s = all_stop ts s
  all_reads ts us xs (more ts' us' vs' a rest r rs) h s =
      sym (all_go ts (begins ts us' a r))
      ∙ ap (λ o. and_then o and_all) (fi.reads ts us' a r (meets us' us rest rs h))
      ∙ ap (λ o. and_then o (λ ys. pure (a ∷ ys))) (all_reads us' us rest rs h s)

  -- ---- where it is stuck

  -- no items at all are a list of them
  all_some : Completes Possible (Many P) []
  all_some = record { rest = []; value = []; possible = All-nil Possible; derives = λ vs. none vs }

  -- behind one there need be no others
  more_some : (a : A) → Completes Possible (AndAll a) []
  unfolding AndAll
  more_some a = record {
    rest = [];
    value = a ∷ [];
    possible = All-nil Possible;
    derives = λ vs. record { value = []; middle = vs; first = none vs; second = record { is = refl; here = refl } };
  }

  -- where one begins, all are stuck where one and the others are
  turn_stuck : (ts us : List I) → starts (next ts) ≡ true
      → Stuck Possible (λ xs. and_then (item xs) and_all) (Then P AndAll) ts us → Stuck Possible all (Many P) ts us
  turn_stuck ts us s x =
      stuck_as (λ xs. and_then (item xs) and_all) all (Then P AndAll) (Many P) one_more Possible ts us
      (λ xs h. all_go xs (ap starts h ∙ s)) x

  -- where the others are stuck, so are they behind one
  rest_stuck : (us vs : List I) (a : A) → Stuck Possible all (Many P) us vs → Stuck Possible (and_all a) (AndAll a) us vs
  unfolding and_all AndAll
  rest_stuck us vs a x = first_stuck Possible all (Many P) (λ xs. pure (a ∷ xs)) (λ xs. Pure (a ∷ xs)) us vs (λ xs. (pure_fits Possible (a ∷ xs)).some) x

  -- putting one in front refuses nothing, so the others were refused
  rest_err : (a : A) (us vs : List I) → and_all a us ≡ Err vs → all us ≡ Err vs
  unfolding and_all
  rest_err a us vs e = elim (bind_err (all us) (λ rest. pure (a ∷ rest)) vs e) [
    | inl h ↦ h
    | inr x ↦ absurd (let k = x.second in cc)
  ]

  -- turn by turn: the first is stuck, or it is taken and the others are stuck; where none begins nothing is refused
  all_stuck : (n : ℕ) (ts us : List I) → length ts ≤ n → all ts ≡ Err us → Stuck Possible all (Many P) ts us
  all_stuck zero [] us l e = absurd (let k = all_stop [] at_end in cc)
  all_stuck zero (t ∷ ts) us l e = absurd (omega arith)
  all_stuck (suc n) ts us l e = elim (bool_cases (starts (next ts))) [
    | inl s ↦ turn_stuck ts us s (elim (bind_err (item ts) and_all us (all_go ts s ∙ e)) [
      | inl h ↦ first_stuck Possible item P and_all AndAll ts us more_some (fi.refuses ts us h)
      | inr x ↦
          let h = shorter ts x.middle x.value x.first in
          second_stuck Possible item P and_all AndAll ts x.middle us x.value (fi.takes ts x.middle x.value x.first)
          (rest_stuck x.middle us x.value (all_stuck n x.middle us (omega arith) (rest_err x.value x.middle us x.second)))
    ])
    | inr s ↦ absurd (let k = all_stop ts s in cc)
  ]

  -- Each begins, nothing begins at the end, and one may follow another.
  pub many_fits : Fits Possible (many starts item) (Many P) (unless starts between)
  unfolding all
  many_fits = record {
    takes = λ ts us xs e. all_takes (length ts) ts us xs (omega arith) e;
    reads = λ ts us xs r h.
        let k = both (between (next us)) (not (starts (next us))) h in
        all_reads ts us xs r k.0 (not_true (starts (next us)) k.1);
    refuses = λ ts us e. all_stuck (length ts) ts us (omega arith) e;
    some = all_some;
  }

  -- One, and any number of others, where these may follow it.
  pub list_fits : {B : Type 0} (first : Reader I B) (Q : Rule I B) → Fits Possible first Q between
      → Fits Possible (list first starts item) (ListOf Q P) (unless starts between)
  unfolding list
  list_fits first Q ff =
      then_fits Possible first Q _ (λ b. Then (Many P) (λ rest. Pure (b, rest))) between (unless starts between) ff
      (λ b. seen Possible (λ rest. (b, rest)) many_fits)
      (λ b us vs c r h.
      let k = both (between (next vs)) (not (starts (next vs))) h in
      meets us r.middle r.value r.first (ap (λ xs. between (next xs)) r.second.here ∙ k.0))
