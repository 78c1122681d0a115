-- Watches that stand where they observed something: who is told along the addresses of changes, and who observes an address.
use Rattle.std.proofs.Common.{◌≡◌, ℕ, suc, Bool, true, false, cond, nat_eq, ◌||◌, ◌<◌, ◌+◌, List, [], ◌∷◌, length, fold}
use Rattle.std.proofs.Common.{Some, None, refl, sym, ap, subst, ◌∙◌, arith, true≢false, ◌⊎◌, inl, inr, ⊎_elim, ◌&&◌, drop, get_or}
use Rattle.std.proofs.lemmas.Bool.{eq-eqb, ne_eqb, eqb-true, cases_eq, or_parts, or_left, or_right, or_cases, and_parts}
use Rattle.std.specs.List.{list_any, AllByRecursion}
use Rattle.std.specs.Option.{option_map_or}
use Rattle.std.specs.BTreeMap.{is_at}
use Rattle.std.specs.Cmp.{eq_by_cmp_equiv}
use Rattle.plain_data.proofs.Entries.{equal}
use Rattle.plain_data.proofs.Merging.{drop-item}
use Rattle.rdt_types.specs.declared.address.Address.{Address}
use Rattle.rdt_types.specs.Addresses.{address_cmp}
use Rattle.rdt_types.specs.DeltaMaps.{Deltas, delta_at}
use Rattle.rdt_types.specs.contracts.address.AddressOrd.TheImpl.Laws as addresses
use Rattle.rdt_types.proofs.Addresses.{address_cmp-equal}
use Rattle.conflict_table.specs.Clashes.{clash}
use Rattle.txn_lang.specs.declared.run.Seen.{Seen}
use Rattle.rerun_driver.specs.declared.watch.Watch.{Watch}
use Rattle.rerun_driver.specs.declared.places.Places.{Places}
use Rattle.rerun_driver.specs.Watches.{Watches, touches, told, all_told, is_observed_by, is_observed}
use Rattle.rerun_driver.specs.code.Numbers.{IsRising, is_among}
use Rattle.rerun_driver.specs.code.Places.{numbers_at, stands, IsStill, IsPutOnly}
use Rattle.rerun_driver.specs.code.Rolls.{Rolled, IsInOrder, IsExact, IsPlaced, seen_in, seen_by, told_if}
use Rattle.rerun_driver.specs.code.Rolls.{told_numbered, told_at, told_set, told_along, Covers, CoversBut}
use Rattle.rerun_driver.proofs.Rolls.{seen-below}

-- ---- row by row

-- each watch, with its own number, stands where it observed something
abbrev RowsCovered : Places → List ℕ → Watches → Type 0
RowsCovered places [] ws = Unit {0}
RowsCovered places (n ∷ ns) [] = Unit {0}
RowsCovered places (n ∷ ns) (e ∷ ws) =
    ((a : Address) → is_observed_by a e.1.observations ≡ true → stands places a n ≡ true) × RowsCovered places ns ws

-- the watch of the first number is the first
seen-first : (n : ℕ) (ns : List ℕ) (e : List ℕ × Watch) (ws : Watches) → seen_in (n ∷ ns) (e ∷ ws) n ≡ e.1.observations
seen-first n ns e ws = ap (λ b. cond b e.1.observations (seen_in ns ws n)) (eq-eqb n n refl)

-- what a number behind the first observed
seen-behind : (n : ℕ) (ns : List ℕ) (e : List ℕ × Watch) (ws : Watches) (k : ℕ) (a : Address) → AllByRecursion (λ x. n < x) ns
    → is_observed_by a (seen_in ns ws k) ≡ true → seen_in (n ∷ ns) (e ∷ ws) k ≡ seen_in ns ws k
seen-behind n ns e ws k a above seen = by (nat_eq n k) refl
  where
    by : (b : Bool) → nat_eq n k ≡ b → cond b e.1.observations (seen_in ns ws k) ≡ seen_in ns ws k
    by false f = refl
    by true f =
        let none = seen-below k ns ws (subst (λ x. AllByRecursion (λ y. x < y) ns) (eqb-true n k f) above) in
        absurd (true≢false (sym seen ∙ ap (is_observed_by a) none))

-- a number is that of one row: those behind the first are above its number
rows : (places : Places) (order : List ℕ) (ws : Watches) → IsRising order → Covers places (order, ws) → RowsCovered places order ws
rows places [] ws r covers = tt
rows places (n ∷ ns) [] r covers = tt
rows places (n ∷ ns) (e ∷ ws) r covers = (
  (λ a seen. covers n a (ap (is_observed_by a) (seen-first n ns e ws) ∙ seen)),
  rows places ns ws r.1 (λ k a seen. covers k a (ap (is_observed_by a) (seen-behind n ns e ws k a r.0 seen) ∙ seen)),
)

-- ---- one watch, told by numbers

module _ (changes : Deltas) where
  -- once told, it is told
  told-twice : (w : Watch) → told changes (told changes w) ≡ told changes w
  told-twice w = ap (λ b. record w { stale = b }) (by w.stale (touches changes w.observations))
    where
      by : (s t : Bool) → ((s || t) || t) ≡ (s || t)
      by true t = refl
      by false true = refl
      by false false = refl

  -- told by one test and then by another is told by both, since twice is once
  told_if-or : (b c : Bool) (w : Watch) → told_if c changes (told_if b changes w) ≡ told_if (b || c) changes w
  told_if-or true true w = told-twice w
  told_if-or true false w = refl
  told_if-or false c w = refl

  -- equality of numbers is the same either way round
  same_eq : (m n : ℕ) → nat_eq m n ≡ nat_eq n m
  same_eq m n = ⊎_elim (λ e. eq-eqb m n e ∙ sym (eq-eqb n m (sym e))) (λ d. ne_eqb m n d ∙ sym (ne_eqb n m (λ e. d (sym e)))) (cases_eq m n)

  module _ (m : ℕ) where
    -- the watch of a number, where some numbers are told
    abbrev told_by : List ℕ → Watch → Watch
    told_by numbers w = fold (λ v n. told_if (nat_eq m n) changes v) w numbers

    -- it is told where one of the numbers is its own; by induction, a number at a time
    by_numbers : (numbers : List ℕ) (w : Watch) → told_by numbers w ≡ told_if (is_among numbers m) changes w
    by_numbers [] w = refl
    by_numbers (n ∷ ns) w =
        by_numbers ns (told_if (nat_eq m n) changes w)
        ∙ told_if-or (nat_eq m n) (is_among ns m) w
        ∙ ap (λ b. told_if (b || is_among ns m) changes w) (same_eq m n)

    module _ (places : Places) where
      -- and where those at the addresses of deltas are
      abbrev told_from : Deltas → Watch → Watch
      told_from deltas w = fold (λ v delta. told_by (numbers_at places delta.0) v) w deltas

      -- it is told where it stands at one of their addresses; by induction, a delta at a time
      by_deltas : (deltas : Deltas) (w : Watch) → told_from deltas w ≡ told_if (list_any (λ delta. stands places delta.0 m) deltas) changes w
      by_deltas [] w = refl
      by_deltas (d ∷ ds) w =
          by_deltas ds (told_by (numbers_at places d.0) w)
          ∙ ap (told_if (list_any (λ delta. stands places delta.0 m) ds) changes) (by_numbers (numbers_at places d.0) w)
          ∙ told_if-or (stands places d.0 m) (list_any (λ delta. stands places delta.0 m) ds) w

      -- no change is at an address where it stands, if it stands at none of theirs
      absent : (deltas : Deltas) (a : Address) → list_any (λ delta. stands places delta.0 m) deltas ≡ false → stands places a m ≡ true
          → delta_at deltas a ≡ None
      absent [] a out here = refl
      absent (d ∷ ds) a out here = by (is_at (address_cmp a) d.0) refl (absent ds a (or_parts _ _ out).1 here)
        where
          by : (b : Bool) → is_at (address_cmp a) d.0 ≡ b → delta_at ds a ≡ None → cond b (Some d.1) (delta_at ds a) ≡ None
          by true e rest =
              let same : a ≡ d.0 = address_cmp-equal a d.0 (equal (address_cmp a d.0) e) in
              absurd (true≢false (sym here ∙ ap (λ x. stands places x m) same ∙ (or_parts _ _ out).0))
          by false e rest = rest

      -- so they touch nothing that it observed
      untouched : (observations : List Seen) → ((a : Address) → is_observed_by a observations ≡ true → stands places a m ≡ true)
          → list_any (λ delta. stands places delta.0 m) changes ≡ false → touches changes observations ≡ false
      untouched [] covered out = refl
      untouched (seen ∷ observations) covered out =
          let own : is_at (address_cmp seen.address) seen.address ≡ true = (eq_by_cmp_equiv addresses.total-law).refl seen.address in
          let here = covered seen.address (or_left (is_at (address_cmp seen.address) seen.address) (is_observed_by seen.address observations) own) in
          let none = ap (λ o. option_map_or (λ delta. clash seen.obs delta) o false) (absent changes seen.address out here) in
          λ i. none i || untouched observations (λ a e. covered a (or_right (is_at (address_cmp a) seen.address) (is_observed_by a observations) e)) out i

      -- a watch that stands where it observed something is told as if all were
      told-there : (w : Watch) → ((a : Address) → is_observed_by a w.observations ≡ true → stands places a m ≡ true)
          → told_from changes w ≡ told changes w
      told-there w covered = by_deltas changes w ∙ by (list_any (λ delta. stands places delta.0 m) changes) refl
        where
          none : (s t : Bool) → t ≡ false → s ≡ (s || t)
          none true t e = refl
          none false t e = sym e

          by : (b : Bool) → list_any (λ delta. stands places delta.0 m) changes ≡ b → told_if b changes w ≡ told changes w
          by true e = refl
          by false e = ap (λ s. record w { stale = s }) (none w.stale (touches changes w.observations) (untouched w.observations covered e))

  -- ---- all watches

  -- some numbers are told: first the first watch, and then those behind it
  set-cons : (m : ℕ) (ms : List ℕ) (numbers : List ℕ) (e : List ℕ × Watch) (ws : Watches)
      → told_set changes numbers (m ∷ ms, e ∷ ws) ≡ (m ∷ ms, (e.0, told_by m numbers e.1) ∷ (told_set changes numbers (ms, ws)).1)
  set-cons m ms [] e ws = refl
  set-cons m ms (n ∷ ns) e ws = set-cons m ms ns (e.0, told_if (nat_eq m n) changes e.1) (told_numbered changes n ms ws)

  -- telling changes no number
  set-order : (numbers : List ℕ) (roll : Rolled) → (told_set changes numbers roll).0 ≡ roll.0
  set-order [] roll = refl
  set-order (n ∷ ns) roll = set-order ns (told_at changes roll n)

  -- so along the addresses of deltas; by induction, a delta at a time
  along-cons : (places : Places) (m : ℕ) (ms : List ℕ) (deltas : Deltas) (e : List ℕ × Watch) (ws : Watches)
      → told_along places changes deltas (m ∷ ms, e ∷ ws) ≡ (m ∷ ms, (e.0, told_from m places deltas e.1) ∷ (told_along places changes deltas (ms, ws)).1)
  along-cons places m ms [] e ws = refl
  along-cons places m ms (d ∷ ds) e ws =
      let numbers = numbers_at places d.0 in
      ap (told_along places changes ds) (set-cons m ms numbers e ws)
      ∙ along-cons places m ms ds (e.0, told_by m numbers e.1) (told_set changes numbers (ms, ws)).1
      ∙ ap (λ (o : List ℕ). (m ∷ ms, (e.0, told_from m places (d ∷ ds) e.1) ∷ (told_along places changes ds (o, (told_set changes numbers (ms, ws)).1)).1))
      (sym (set-order numbers (ms, ws)))

  -- of no watches none are told
  along-none : (places : Places) (deltas : Deltas) → told_along places changes deltas ([], []) ≡ ([], [])
  along-none places [] = refl
  along-none places (d ∷ ds) = ap (told_along places changes ds) (set-none (numbers_at places d.0)) ∙ along-none places ds
    where
      set-none : (numbers : List ℕ) → told_set changes numbers ([], []) ≡ ([], [])
      set-none [] = refl
      set-none (n ∷ ns) = set-none ns

  -- row by row each is told as if all were, since each stands where it observed something
  along-rows : (places : Places) (order : List ℕ) (ws : Watches) → length order ≡ length ws → RowsCovered places order ws
      → told_along places changes changes (order, ws) ≡ (order, all_told changes ws)
  along-rows places [] [] same covered = along-none places changes
  along-rows places [] (e ∷ ws) same covered = absurd (omega (arith, same))
  along-rows places (m ∷ ms) [] same covered = absurd (omega (arith, same))
  along-rows places (m ∷ ms) (e ∷ ws) same covered =
      along-cons places m ms changes e ws
      ∙ (λ i. (m ∷ ms, (e.0, told-there m places e.1 covered.0 i) ∷ (along-rows places ms ws (omega (arith, same)) covered.1 i).1))

  -- those that stand at the addresses of changes are told, and that is as if all were
  pub along-all : (places : Places) (roll : Rolled) → IsInOrder roll → Covers places roll
      → told_along places changes changes roll ≡ (roll.0, all_told changes roll.1)
  along-all places roll ordered covers = along-rows places roll.0 roll.1 ordered.as_many (rows places roll.0 roll.1 ordered.rising covers)

  -- who is told observed what it did
  pub seen-told : (order : List ℕ) (ws : Watches) (n : ℕ) → seen_in order (all_told changes ws) n ≡ seen_in order ws n
  seen-told [] ws n = refl
  seen-told (m ∷ ms) [] n = refl
  seen-told (m ∷ ms) (e ∷ ws) n = ap (cond (nat_eq m n) e.1.observations) (seen-told ms ws n)

  -- telling keeps the numbers, and as many watches
  pub ordered-told : (roll : Rolled) → IsInOrder roll → IsInOrder (roll.0, all_told changes roll.1)
  ordered-told roll ordered = record { rising = ordered.rising; as_many = ordered.as_many ∙ sym (length-told roll.1) }
    where
      length-told : (ws : Watches) → length (all_told changes ws) ≡ length ws
      length-told [] = refl
      length-told (e ∷ ws) = ap suc (length-told ws)

-- ---- who observes an address

module _ (a : Address) where
  -- the watch of a number observed something at the address
  abbrev observes : List ℕ → Watches → ℕ → Bool
  observes order ws n = is_observed_by a (seen_in order ws n)

  -- a watch that observed something there has a number
  numbered : (order : List ℕ) (ws : Watches) → IsRising order → length order ≡ length ws → is_observed ws a ≡ true
      → (n : ℕ) × (observes order ws n ≡ true)
  numbered [] [] r same e = absurd (true≢false (sym e))
  numbered [] (w ∷ ws) r same e = absurd (omega (arith, same))
  numbered (n ∷ ns) [] r same e = absurd (omega (arith, same))
  numbered (n ∷ ns) (w ∷ ws) r same e =
      ⊎_elim (λ here. (n, ap (is_observed_by a) (seen-first n ns w ws) ∙ here))
      (λ later.
      let m = numbered ns ws r.1 (omega (arith, same)) later in
      (m.0, ap (is_observed_by a) (seen-behind n ns w ws m.0 a r.0 m.1) ∙ m.1))
      (or_cases (is_observed_by a w.1.observations) (is_observed ws a) e)

  -- and what a number observed was observed
  observed-numbered : (order : List ℕ) (ws : Watches) (n : ℕ) → observes order ws n ≡ true → is_observed ws a ≡ true
  observed-numbered [] ws n e = absurd (true≢false (sym e))
  observed-numbered (m ∷ ms) [] n e = absurd (true≢false (sym e))
  observed-numbered (m ∷ ms) (w ∷ ws) n e = by (nat_eq m n) e (observed-numbered ms ws n)
    where
      by : (b : Bool) → is_observed_by a (cond b w.1.observations (seen_in ms ws n)) ≡ true
          → (observes ms ws n ≡ true → is_observed ws a ≡ true) → is_observed (w ∷ ws) a ≡ true
      by true e rest = or_left (is_observed_by a w.1.observations) (is_observed ws a) e
      by false e rest = or_right (is_observed_by a w.1.observations) (is_observed ws a) (rest e)

  -- a test that a number among some passes
  any-among : (f : ℕ → Bool) (xs : List ℕ) (n : ℕ) → is_among xs n ≡ true → f n ≡ true → list_any f xs ≡ true
  any-among f [] n e passes = absurd (true≢false (sym e))
  any-among f (x ∷ xs) n e passes =
      ⊎_elim (λ here. or_left (f x) (list_any f xs) (ap f (eqb-true x n here) ∙ passes))
      (λ later. or_right (f x) (list_any f xs) (any-among f xs n later passes))
      (or_cases (nat_eq x n) (is_among xs n) e)

  -- and of some numbers that pass, one does
  among-any : (f : ℕ → Bool) (xs : List ℕ) → list_any f xs ≡ true → (n : ℕ) × (f n ≡ true)
  among-any f [] e = absurd (true≢false (sym e))
  among-any f (x ∷ xs) e = ⊎_elim (λ here. (x, here)) (λ later. among-any f xs later) (or_cases (f x) (list_any f xs) e)

  -- so those that stand there decide
  pub observed-there : (places : Places) (roll : Rolled) → IsInOrder roll → Covers places roll
      → list_any (λ n. is_observed_by a (seen_by roll n)) (numbers_at places a) ≡ is_observed roll.1 a
  observed-there places roll ordered covers = same _ _
      (λ e. let n = among-any (λ k. is_observed_by a (seen_by roll k)) (numbers_at places a) e in observed-numbered roll.0 roll.1 n.0 n.1)
      (λ e.
      let n = numbered roll.0 roll.1 ordered.rising ordered.as_many e in
      any-among (λ k. is_observed_by a (seen_by roll k)) (numbers_at places a) n.0 (covers n.0 a n.1) n.1)
    where
      same : (x y : Bool) → (x ≡ true → y ≡ true) → (y ≡ true → x ≡ true) → x ≡ y
      same true true f g = refl
      same true false f g = sym (f refl)
      same false true f g = g refl
      same false false f g = refl

-- ---- a call's parts

-- the same numbers everywhere are exact where they were
pub exact-same : (old new : Places) (roll : Rolled) → IsStill old new → IsExact old roll → IsExact new roll
exact-same old new roll same exact n a e = exact n a (sym (ap (λ (xs : List ℕ). is_among xs n) (same a)) ∙ e)

-- and a number that is put where its watch observed something is exact beside others that are
pub exact-put : (old new : Places) (roll : Rolled) (observations : List Seen) (made : ℕ) → observations ≡ seen_by roll made
    → IsPutOnly old new observations made → IsExact old roll → IsExact new roll
exact-put old new roll observations made are only exact n a e =
    ⊎_elim (λ was. exact n a was)
    (λ put. subst (λ k. is_observed_by a (seen_by roll k) ≡ true) put.0 (sym (ap (is_observed_by a) are) ∙ put.1)) (only a n e)

-- the same numbers everywhere
pub placed-same : (b : Bool) (old new : Places) (roll : Rolled) → IsStill old new → IsPlaced b old roll → IsPlaced b new roll
placed-same b old new roll same placed = record {
  ordered = placed.ordered;
  exact = exact-same old new roll same placed.exact;
  covers = λ e n a seen. ap (λ (xs : List ℕ). is_among xs n) (same a) ∙ placed.covers e n a seen;
}

-- a watch that is put where it observed something, beside others that stand
pub placed-put : (b c : Bool) (old new : Places) (roll : Rolled) (made : ℕ) → IsInOrder roll → IsExact new roll → (b ≡ true → CoversBut made old roll)
    → (c ≡ true → (a : Address) (m : ℕ) → stands old a m ≡ true → stands new a m ≡ true)
    → (c ≡ true → (a : Address) → is_observed_by a (seen_by roll made) ≡ true → stands new a made ≡ true)
    → IsPlaced (b && c) new roll
placed-put b c old new roll made ordered exact others stays put = record {
  ordered = ordered;
  exact = exact;
  covers = λ e n a seen. by (and_parts b c e) n a seen (nat_eq made n) refl;
}
  where
    by : (b ≡ true) × (c ≡ true) → (n : ℕ) (a : Address) → is_observed_by a (seen_by roll n) ≡ true → (d : Bool) → nat_eq made n ≡ d → stands new a n ≡ true
    by parts n a seen true f =
        let same = eqb-true made n f in
        subst (λ k. stands new a k ≡ true) same (put parts.1 a (ap (λ k. is_observed_by a (seen_by roll k)) same ∙ seen))
    by parts n a seen false f = stays parts.1 a n (others parts.0 n a f seen)

-- what one watch more, or another report of one, leaves of the others
pub others-stand : (made : ℕ) (places : Places) (old new : Rolled) (observations : List Seen)
    → ((n : ℕ) → seen_by new n ≡ cond (nat_eq made n) observations (seen_by old n)) → Covers places old → CoversBut made places new
others-stand made places old new observations is covers n a other seen =
    covers n a (sym (ap (is_observed_by a) (is n ∙ ap (λ b. cond b observations (seen_by old n)) other)) ∙ seen)

-- a watch that observed again where it observed before stands there, and so do the others
pub placed-again : (b : Bool) (made : ℕ) (places : Places) (old new : Rolled) (observations before : List Seen) → IsInOrder new
    → ((n : ℕ) → seen_by new n ≡ cond (nat_eq made n) observations (seen_by old n)) → before ≡ seen_by old made
    → ((a : Address) → is_observed_by a observations ≡ is_observed_by a before) → IsPlaced b places old → IsPlaced b places new
placed-again b made places old new observations before ordered is was again placed = record {
  ordered = ordered;
  exact = λ n a e. same n a ∙ placed.exact n a e;
  covers = λ e n a seen. placed.covers e n a (sym (same n a) ∙ seen);
}
  where
    by : (n : ℕ) (a : Address) (c : Bool) → nat_eq made n ≡ c
        → is_observed_by a (cond c observations (seen_by old n)) ≡ is_observed_by a (seen_by old n)
    by n a true f = again a ∙ ap (is_observed_by a) was ∙ ap (λ k. is_observed_by a (seen_by old k)) (eqb-true made n f)
    by n a false f = refl

    same : (n : ℕ) (a : Address) → is_observed_by a (seen_by new n) ≡ is_observed_by a (seen_by old n)
    same n a = ap (is_observed_by a) (is n) ∙ by n a (nat_eq made n) refl

-- where a number is taken out, the others stand
pub others-taken : (made : ℕ) (old new : Places) (roll : Rolled)
    → ((a : Address) (m : ℕ) → nat_eq made m ≡ false → stands new a m ≡ stands old a m) → CoversBut made old roll → CoversBut made new roll
others-taken made old new roll same covers n a other seen = same a n other ∙ covers n a other seen

-- where it stands nowhere, the others are exact beside what its watch observed then, or beside nothing
pub exact-taken : (made : ℕ) (places taken : Places) (old new : Rolled) (observations before : List Seen)
    → ((n : ℕ) → seen_by new n ≡ cond (nat_eq made n) observations (seen_by old n)) → before ≡ seen_by old made
    → ((a : Address) (m : ℕ) → stands taken a m ≡ true → stands places a m ≡ true)
    → ((a : Address) → is_observed_by a before ≡ true → stands taken a made ≡ false) → IsExact places old → IsExact taken new
exact-taken made places taken old new observations before is was fewer gone exact n a e = by (nat_eq made n) refl
  where
    by : (b : Bool) → nat_eq made n ≡ b → is_observed_by a (seen_by new n) ≡ true
    by true f =
        let here = ap (λ k. stands taken a k) (eqb-true made n f) ∙ e in
        let seen = ap (is_observed_by a) was ∙ exact made a (fewer a made here) in absurd (true≢false (sym here ∙ gone a seen))
    by false f =
        ap (is_observed_by a) (is n ∙ ap (λ b. cond b observations (seen_by old n)) f) ∙ exact n a (fewer a n e)

-- so are they beside a new watch, whose number stands nowhere
pub exact-added : (made : ℕ) (places : Places) (old new : Rolled) (observations : List Seen)
    → ((n : ℕ) → seen_by new n ≡ cond (nat_eq made n) observations (seen_by old n)) → seen_by old made ≡ []
    → IsExact places old → IsExact places new
exact-added made places old new observations is none exact =
    exact-taken made places places old new observations [] is (sym none) (λ a m e. e) (λ a seen. absurd (true≢false (sym seen))) exact

-- and where its watch observed nothing, or is gone, all do
pub all-stand : (made : ℕ) (places : Places) (roll : Rolled) → seen_by roll made ≡ [] → CoversBut made places roll → Covers places roll
all-stand made places roll none covers n a seen = by (nat_eq made n) refl
  where
    by : (b : Bool) → nat_eq made n ≡ b → stands places a n ≡ true
    by true f = absurd (true≢false (sym seen ∙ ap (λ k. is_observed_by a (seen_by roll k)) (sym (eqb-true made n f)) ∙ ap (is_observed_by a) none))
    by false f = covers n a f seen

-- whoever observed something has a number
pub seen-among : (order : List ℕ) (ws : Watches) (a : Address) (n : ℕ) → is_observed_by a (seen_in order ws n) ≡ true → is_among order n ≡ true
seen-among [] ws a n e = absurd (true≢false (sym e))
seen-among (m ∷ ms) [] a n e = absurd (true≢false (sym e))
seen-among (m ∷ ms) (w ∷ ws) a n e = by (nat_eq m n) e (seen-among ms ws a n)
  where
    by : (b : Bool) → is_observed_by a (cond b w.1.observations (seen_in ms ws n)) ≡ true
        → (is_observed_by a (seen_in ms ws n) ≡ true → is_among ms n ≡ true) → (b || is_among ms n) ≡ true
    by true e rest = refl
    by false e rest = rest e

-- once the next number stands where its watch observed something, those are left that were behind it
pub place-next : (old now : Places) (roll : Rolled) (numbers : List ℕ) (i k : ℕ) → i < length numbers → get_or numbers i k ≡ k
    → ((a : Address) (m : ℕ) → stands old a m ≡ true → stands now a m ≡ true)
    → ((a : Address) → is_observed_by a (seen_by roll k) ≡ true → stands now a k ≡ true)
    → (n : ℕ) (a : Address) → is_observed_by a (seen_by roll n) ≡ true
    → (stands old a n ≡ true) ⊎ (is_among (drop i numbers) n ≡ true) → (stands now a n ≡ true) ⊎ (is_among (drop (i + 1) numbers) n ≡ true)
place-next old now roll numbers i k within is stays put n a seen (inl there) = inl (stays a n there)
place-next old now roll numbers i k within is stays put n a seen (inr left) =
    ⊎_elim (λ here.
    let same = eqb-true k n here in
    inl (subst (λ m. stands now a m ≡ true) same (put a (ap (λ m. is_observed_by a (seen_by roll m)) same ∙ seen)))) (λ later. inr later)
    (or_cases (nat_eq k n) (is_among (drop (i + 1) numbers) n) (sym (ap (λ (xs : List ℕ). is_among xs n) (drop-item numbers i k within is)) ∙ left))

-- who is told stands where it stood
pub placed-told : (changes : Deltas) (b : Bool) (places : Places) (roll : Rolled) → IsPlaced b places roll → IsPlaced b places (roll.0, all_told changes roll.1)
placed-told changes b places roll placed = record {
  ordered = ordered-told changes roll placed.ordered;
  exact = λ n a e. ap (is_observed_by a) (seen-told changes roll.0 roll.1 n) ∙ placed.exact n a e;
  covers = λ e n a seen. placed.covers e n a (sym (ap (is_observed_by a) (seen-told changes roll.0 roll.1 n)) ∙ seen);
}
