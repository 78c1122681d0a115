-- Observations are found by their keys, as they are listed.
use Rattle.std.proofs.Common.{◌≡◌, ◌<◌, ℕ, Bool, true, false, ◌&&◌, ◌||◌, cond, List, [], ◌∷◌, ◌++◌, take, drop, length, refl, ap, sym, ◌∙◌}
use Rattle.std.proofs.Common.{◌+◌, suc, zero, Option, Some, None, unwrap_or, slice_get, ◌⊎◌, inl, inr, arith, Result, Ok, Err, OnOk, OnErr}
use Rattle.std.proofs.lemmas.Cmp.{eq_by_cmp_equiv}
use Rattle.std.proofs.lemmas.List.{take-append-drop, length-append}
use Rattle.std.proofs.lemmas.Option.{slice_get_within}
use Rattle.std.proofs.lemmas.List.Folds.{list_any-append}
use Rattle.std.proofs.Math.Seq.{take-append_seam}
use Rattle.std.specs.BTreeMap.{BTreeMap, is_at}
use Rattle.std.specs.Map.{lookup}
use Rattle.conflict_table.specs.declared.observation.Obs.{Obs}
use Rattle.conflict_table.specs.declared.observation.Obs.TheVariants as obs
use Rattle.conflict_table.specs.contracts.observation.ObsPartialEq.TheImpl as obs_eq
use Rattle.conflict_table.specs.Observing.{kind_observed}
use Rattle.rdt_types.specs.contracts.address.KindPartialEq.TheImpl as kind_eq
use Rattle.rdt_types.specs.contracts.address.AddressPartialEq.TheImpl as address_eq
use Rattle.txn_lang.specs.declared.run.Seen.{Seen}
use Rattle.txn_lang.specs.contracts.run.SeenPartialEq.TheImpl as seen_eq
use Rattle.txn_lang.specs.Own.{with_seen}
use Rattle.txn_eval.specs.declared.seen_key.SeenKey.{SeenKey}
use Rattle.txn_eval.specs.contracts.seen_key.PartPartialEq.TheImpl as part_eq
use Rattle.txn_eval.specs.contracts.seen_key.SeenKeyPartialEq.TheImpl as key_eq
use Rattle.txn_eval.specs.contracts.seen_key.SeenKeyOrd.TheImpl as order
use Rattle.txn_eval.specs.contracts.seen_key.SeenKeyOrd.TheImpl.Laws as laws
use Rattle.txn_eval.specs.code.Found.{part_of, key_of, is_listed, place_kept, is_it, stands, AreFound}

-- form by form: two observations are the same where their kinds are and they are of the same in a value
obs_by_parts : (o p : Obs) → obs_eq.ghosts.eq o p ≡ kind_eq.ghosts.eq (kind_observed o) (kind_observed p) && part_eq.ghosts.eq (part_of o) (part_of p)
obs_by_parts obs.BoolIs obs.BoolIs = refl
obs_by_parts obs.CounterIs obs.CounterIs = refl
obs_by_parts obs.TextIs obs.TextIs = refl
obs_by_parts (obs.SetHas x) (obs.SetHas y) = refl
obs_by_parts obs.SetAll obs.SetAll = refl
obs_by_parts (obs.HashAt x) (obs.HashAt y) = refl
obs_by_parts obs.HashAll obs.HashAll = refl
obs_by_parts (obs.ListAt i) (obs.ListAt j) = refl
obs_by_parts obs.ListAll obs.ListAll = refl
obs_by_parts (obs.PeakIs m) (obs.PeakIs n) = refl
obs_by_parts (obs.PeakOver m r) (obs.PeakOver n s) = refl
obs_by_parts _ _ = refl

-- so what is listed is the same exactly where its key is
key_tells : (t s : Seen) → key_eq.ghosts.eq (key_of t) (key_of s) ≡ seen_eq.ghosts.eq t s
key_tells t s = ap (λ b. address_eq.ghosts.eq t.address s.address && b) (sym (obs_by_parts t.obs s.obs))

-- and that is where the keys compare equal
tells : (t s : Seen) → is_at (order.ghosts.cmp (key_of t)) (key_of s) ≡ seen_eq.ghosts.eq t s
tells t s = sym (laws.matches_eq-law (key_of t) (key_of s)) ∙ key_tells t s

-- two observations that are the same as a third are the same
eq_through : (t s x : Seen) → seen_eq.ghosts.eq t s ≡ true → seen_eq.ghosts.eq x s ≡ true → seen_eq.ghosts.eq t x ≡ true
eq_through t s x ts xs =
    let alike = eq_by_cmp_equiv laws.total-law in
    sym (tells t x) ∙ alike.congr (key_of t) (key_of s) (key_of x) (tells t s ∙ ts) ∙ alike.symm (key_of s) (key_of x) ∙ tells x s ∙ xs

-- what stands at a place stands there with others behind
get_push : (xs : List Seen) (x t : Seen) (i : ℕ) → slice_get (xs ++ x ∷ []) i ≡ Some t → (slice_get xs i ≡ Some t) ⊎ ((i ≡ length xs) × (x ≡ t))
get_push [] x t zero is = inr (refl, ap (λ o. unwrap_or o t) is)
get_push [] x t (suc i) is = absurd (cc)
get_push (y ∷ xs) x t zero is = inl is
get_push (y ∷ xs) x t (suc i) is = by (get_push xs x t i is)
  where
    by : (slice_get xs i ≡ Some t) ⊎ ((i ≡ length xs) × (x ≡ t)) → (slice_get xs i ≡ Some t) ⊎ ((suc i ≡ suc (length xs)) × (x ≡ t))
    by (inl e) = inl e
    by (inr e) = inr (ap (λ n. suc n) e.0, e.1)

-- what stands at a place among the first ones stands there in all
get_take : (xs : List Seen) (n i : ℕ) (t : Seen) → slice_get (take n xs) i ≡ Some t → slice_get xs i ≡ Some t
get_take xs zero i t is = absurd (cc)
get_take [] (suc n) i t is = is
get_take (x ∷ xs) (suc n) zero t is = is
get_take (x ∷ xs) (suc n) (suc i) t is = get_take xs n i t is

-- and what stands behind the first ones stands as much further in all
get_drop : (xs : List Seen) (n i : ℕ) (t : Seen) → slice_get (drop n xs) i ≡ Some t → slice_get xs (n + i) ≡ Some t
get_drop [] zero i t is = absurd (cc)
get_drop (x ∷ xs) zero i t is = ap (λ j. slice_get (x ∷ xs) j) (omega arith) ∙ is
get_drop [] (suc n) i t is = absurd (cc)
get_drop (x ∷ xs) (suc n) i t is = ap (λ j. slice_get (x ∷ xs) j) (let up : suc n + i ≡ suc (n + i) = omega arith in up) ∙ get_drop xs n i t is

-- what stands at a place is listed
listed_at : (xs : List Seen) (i : ℕ) (s : Seen) → is_it (slice_get xs i) s ≡ true → is_listed s xs ≡ true
listed_at [] i s is = absurd (cc)
listed_at (x ∷ xs) zero s is = ap (λ b. b || is_listed s xs) is
listed_at (x ∷ xs) (suc i) s is = ap (λ b. seen_eq.ghosts.eq x s || b) (listed_at xs i s is) ∙ by (seen_eq.ghosts.eq x s)
  where
    by : (b : Bool) → b || true ≡ true
    by true = refl
    by false = refl

-- what stands at no place isn't
unlisted : (xs : List Seen) (s : Seen) → ((i : ℕ) (t : Seen) → slice_get xs i ≡ Some t → seen_eq.ghosts.eq t s ≡ false) → is_listed s xs ≡ false
unlisted [] s none = refl
unlisted (x ∷ xs) s none = ap (λ b. b || is_listed s xs) (none 0 x refl) ∙ unlisted xs s (λ i t is. none (suc i) t is)

-- nothing is found where nothing is listed
pub found-empty : (from : ℕ) (places : BTreeMap SeenKey ℕ) → AreFound from places []
found-empty from places i t s within is same = absurd (cc)

-- what is found among all is found among the first ones
pub found-cut : (from count : ℕ) (places : BTreeMap SeenKey ℕ) (xs ys : List Seen) → AreFound from places xs → ys ≡ take count xs → AreFound from places ys
found-cut from count places xs ys found cut i t s within is same =
    found i t s within (get_take xs count i t (ap (λ zs. slice_get zs i) (sym cut) ∙ is)) same

-- one more is listed, which isn't found, and its place is kept
pub found-push : (from : ℕ) (old new : BTreeMap SeenKey ℕ) (xs ys : List Seen) (x : Seen) (key : SeenKey) (count : ℕ) → AreFound from old xs → key ≡ key_of x
    → ys ≡ xs ++ x ∷ [] → count ≡ length xs → stands (place_kept old key) xs x ≡ false
    → ((k : SeenKey) → place_kept new k ≡ cond (is_at (order.ghosts.cmp key) k) (Some count) (place_kept old k))
    → AreFound from new ys
found-push from old new xs ys x key count found key_is pushed length_is missed more i t s within is same =
    by (get_push xs x t i (ap (λ zs. slice_get zs i) (sym pushed) ∙ is))
  where
    -- what is kept now, by whether this is the same as the new one
    kept_now : place_kept new (key_of s) ≡ cond (seen_eq.ghosts.eq x s) (Some count) (place_kept old (key_of s))
    kept_now =
        more (key_of s)
        ∙ ap (λ k. cond (is_at (order.ghosts.cmp k) (key_of s)) (Some count) (place_kept old (key_of s))) key_is
        ∙ ap (λ b. cond b (Some count) (place_kept old (key_of s))) (tells x s)

    -- where it is the same, what stood there would have been found
    among : slice_get xs i ≡ Some t → (b : Bool) → seen_eq.ghosts.eq x s ≡ b → cond b (Some count) (place_kept old (key_of s)) ≡ Some i
    among there true e =
        let tx = eq_through t s x same e in
        let place = ap (place_kept old) key_is ∙ found i t x within there tx in
        let clash : true ≡ false = sym tx ∙ ap (λ o. is_it o x) (sym there) ∙ ap (λ o. stands o xs x) (sym place) ∙ missed in
        absurd (cc)
    among there false e = found i t s within there same

    by : (slice_get xs i ≡ Some t) ⊎ ((i ≡ length xs) × (x ≡ t)) → place_kept new (key_of s) ≡ Some i
    by (inl there) = kept_now ∙ among there (seen_eq.ghosts.eq x s) refl
    by (inr last) =
        kept_now ∙ ap (λ b. cond b (Some count) (place_kept old (key_of s))) (ap (λ z. seen_eq.ghosts.eq z s) last.1 ∙ same)
        ∙ ap (λ n. Some n) (length_is ∙ sym last.0)

-- one more among the first ones
pub found-few : {E : Type 0} (r : Result (Unit {0}) E) (from : ℕ) (places : BTreeMap SeenKey ℕ) (xs ys : List Seen) (s : Seen) → length xs < from
    → AreFound from places xs → OnOk r (ys ≡ xs ++ s ∷ []) → OnErr r (ys ≡ xs) → AreFound from places ys
found-few (Ok x) from places xs ys s few found pushed same i t z within is eq =
    let there : i < length (xs ++ s ∷ []) = slice_get_within (xs ++ s ∷ []) i t (ap (λ zs. slice_get zs i) (sym pushed) ∙ is) in
    let past : ⊥ = omega (arith, few, within, there, length-append xs (s ∷ [])) in
    absurd past
found-few (Err e) from places xs ys s few found pushed same i t z within is eq = found i t z within (ap (λ zs. slice_get zs i) (sym same) ∙ is) eq

-- what was listed behind others and is taken back
pub taken_back : {A : Type 0} (xs ys : List A) (x : A) (n : ℕ) → n ≡ length xs → ys ≡ xs ++ x ∷ [] → take n ys ≡ xs
taken_back xs ys x n count pushed = ap (take n) pushed ∙ ap (λ k. take k (xs ++ x ∷ [])) count ∙ take-append_seam xs (x ∷ [])

-- the same places are kept, and the same is listed
pub found-back : (from : ℕ) (old new : BTreeMap SeenKey ℕ) (xs ys : List Seen) → AreFound from old xs → new.entries ≡ old.entries → ys ≡ xs
    → AreFound from new ys
found-back from old new xs ys found places list i t s within is same =
    ap (lookup (is_at (order.ghosts.cmp (key_of s)))) places ∙ found i t s within (ap (λ zs. slice_get zs i) (sym list) ∙ is) same

-- ---- the first ones, which are looked through, and those behind them

module _ (n : ℕ) (xs : List Seen) (s : Seen) where
  -- what is listed is among the first ones or behind them
  listed_parts : is_listed s xs ≡ is_listed s (take n xs) || is_listed s (drop n xs)
  listed_parts = ap (is_listed s) (sym (take-append-drop n xs)) ∙ list_any-append (λ t. seen_eq.ghosts.eq t s) (take n xs) (drop n xs)

  -- what is listed isn't listed again
  pub seen_again : is_listed s xs ≡ true → xs ≡ with_seen xs s
  seen_again found = sym (ap (λ b. cond b xs (xs ++ s ∷ [])) found)

  -- so it is with what is among the first ones
  pub seen_first : is_listed s (take n xs) ≡ true → xs ≡ with_seen xs s
  seen_first found = seen_again (listed_parts ∙ ap (λ b. b || is_listed s (drop n xs)) found)

  -- one that isn't listed is, if there is memory
  pub seen_few : {E : Type 0} (r : Result (Unit {0}) E) (ys : List Seen) → is_listed s xs ≡ false → OnOk r (ys ≡ xs ++ s ∷ []) → OnOk r (ys ≡ with_seen xs s)
  seen_few (Ok x) ys missed pushed = pushed ∙ sym (ap (λ b. cond b xs (xs ++ s ∷ [])) missed)
  seen_few (Err e) ys missed pushed = tt

  module _ (places : BTreeMap SeenKey ℕ) (key : SeenKey) (found : AreFound n places xs) (key_is : key ≡ key_of s) where
    -- one that isn't found is nowhere behind the first ones
    missed_behind : (b : Bool) → is_listed s (take n xs) ≡ false → stands (place_kept places key) xs s ≡ false → is_listed s xs ≡ false
    missed_behind b first missed =
        listed_parts ∙ ap (λ b. b || is_listed s (drop n xs)) first ∙ unlisted (drop n xs) s (λ i t is. apart i t is (seen_eq.ghosts.eq t s) refl)
      where
        apart : (i : ℕ) (t : Seen) → slice_get (drop n xs) i ≡ Some t → (b : Bool) → seen_eq.ghosts.eq t s ≡ b → b ≡ false
        apart i t is false e = refl
        apart i t is true e =
            let there = get_drop xs n i t is in
            let place = ap (place_kept places) key_is ∙ found (n + i) t s (omega arith) there e in
            sym e ∙ ap (λ o. is_it o s) (sym there) ∙ ap (λ o. stands o xs s) (sym place) ∙ missed

    -- so it is listed
    pub seen_new : (ys : List Seen) → is_listed s (take n xs) ≡ false → stands (place_kept places key) xs s ≡ false → ys ≡ xs ++ s ∷ [] → ys ≡ with_seen xs s
    seen_new ys first missed pushed = pushed ∙ sym (ap (λ b. cond b xs (xs ++ s ∷ [])) (missed_behind true first missed))

  -- and one that is found isn't listed again
  pub seen_there : (place : Option ℕ) → stands place xs s ≡ true → xs ≡ with_seen xs s
  seen_there None is = absurd (cc)
  seen_there (Some i) is = sym (ap (λ b. cond b xs (xs ++ s ∷ [])) (listed_at xs i s is))
