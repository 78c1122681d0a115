-- A shard that follows the journal goes on holding it, and so do the others.
use Rattle.std.proofs.Common.{◌≡◌, ℕ, zero, suc, ◌≤◌, ◌<◌, max, List, [], ◌∷◌, ◌++◌, length, take, get_or, set, Some, Result, Ok, Err}
use Rattle.std.proofs.Common.{IfOk, OnOk, true, false, cond, ◌-◌, inl, inr, refl, sym, ap, ◌∙◌, subst, arith}
use Rattle.std.specs.Prelude.{◌⊎◌, slice_get, nat_lt}
use Rattle.std.proofs.lemmas.List.{take-append-le, length-append, length-set, get_or-set_same}
use Rattle.std.proofs.lemmas.Bool.Decides.{nat_tests}
use Rattle.std.proofs.lemmas.Option.{slice_get_read}
use Rattle.std.proofs.lemmas.Result.{IfOk-weaker}
use Rattle.rdt_types.specs.declared.address.Address.{Address}
use Rattle.rdt_types.specs.declared.value.Value.{Value}
use Rattle.rdt_types.specs.Shards.{shard_of}
use Rattle.rdt_types.specs.declared.limits.TheConstants.{LEAST_SHARDS}
use Rattle.rdt_types.specs.declared.settings.Settings.{Settings}
use Rattle.change_feed.specs.declared.tail.Tail.{Tail}
use Rattle.change_feed.specs.Feeds.{AreOfTheirKinds}
use Rattle.txn_lang.specs.declared.snaps.Snap.{Snap}
use Rattle.txn_lang.specs.States.{Journal, state, left_by}
use Rattle.txn_lang.specs.Journals.{IsLegal}
use Rattle.journal_core.specs.Changes.{changes, between, of_shard}
use Rattle.journal_core.specs.Tails.{HasAll}
use Rattle.version_shard.specs.Shards.{Sharded, IsIn}
use Rattle.version_shard.specs.Validating.{ReadsAt}
use Rattle.version_shard.specs.declared.at_error.AtError.{AtError}
use Rattle.version_shard.specs.declared.at_error.AtError.TheVariants as at_error
use Rattle.version_shard.specs.Standing.{Holds, IsNext}
use Rattle.version_shard.proofs.Legal.{legal-is-readable, tails-are-of-their-kinds}
use Rattle.docc_prepare.specs.Calls.{Answer, value_answered}
use Rattle.local_world.specs.Answering.{back_at, value_told}
use Rattle.docc_prepare.proofs.Growing.{legal_is_orderly}
use Rattle.docc_prepare.proofs.Stored.{kept, rises}
use Rattle.local_world.specs.Standing.{IsHeld, AreHeld, HaveRisen, fronts_of}

-- ---- one shard

-- each change of a legal journal's tail is of its address' kind
pub tail-kinds : (journal : Journal) (shards shard from to : ℕ) (tail : Tail) → IsLegal 0 journal
    → HasAll from to (of_shard shards shard (between from to (changes journal))) tail → AreOfTheirKinds tail.changes
tail-kinds journal shards shard from to tail legal all =
    subst AreOfTheirKinds (sym all.exact) (tails-are-of-their-kinds journal shards shard from to (legal_is_orderly journal legal).kinds)

module _ (journal : Journal) (settings : Settings) (place : ℕ) where
  -- a tail from its front on is what comes next
  pub is_next : (shards front to : ℕ) (shard : Sharded) (tail : Tail) → IsLegal 0 journal → IsHeld journal settings place shard
      → shards ≡ settings.shards → front ≡ shard.front → to ≤ length journal
      → HasAll front to (of_shard shards place (between front to (changes journal))) tail → IsNext journal shard tail
  is_next shards front to shard tail legal held among here within all = record {
    readable = legal-is-readable journal legal;
    within = subst (λ (n : ℕ). n ≤ length journal) (sym all.ends) within;
    exact = record {
      begins = all.begins ∙ here;
      ends = refl;
      exact =
          all.exact
          ∙ ap (λ (n : ℕ). of_shard n place (between front to (changes journal))) (among ∙ sym held.shards)
          ∙ ap (λ (n : ℕ). of_shard shard.shards n (between front to (changes journal))) (sym held.number)
          ∙ ap (λ (n : ℕ). of_shard shard.shards shard.number (between n to (changes journal))) here
          ∙ ap (λ (n : ℕ). of_shard shard.shards shard.number (between shard.front n (changes journal))) (sym all.ends);
    };
  }

  -- one that has followed it holds the journal up to its new front
  pub held-followed : (old new : Sharded) → IsHeld journal settings place old → new ≡ record old { front = new.front; kept = new.kept }
      → new.front ≤ length journal → (Holds (take old.front journal) old → Holds (take new.front journal) new) → IsHeld journal settings place new
  held-followed old new held same within holds = record {
    number = ap (λ (s : Sharded). s.number) same ∙ held.number;
    shards = ap (λ (s : Sharded). s.shards) same ∙ held.shards;
    window = ap (λ (s : Sharded). s.window) same ∙ held.window;
    reached = within;
    holds = holds held.holds;
  }

-- it goes on holding it where the journal grows
pub held-longer : (journal later : Journal) (settings : Settings) (place : ℕ) (shard : Sharded) → IsHeld journal settings place shard
    → IsHeld (journal ++ later) settings place shard
held-longer journal later settings place shard held = let l = length-append journal later in let r = held.reached in record {
  number = held.number;
  shards = held.shards;
  window = held.window;
  reached = omega arith;
  holds = subst (λ (first : Journal). Holds first shard) (sym (take-append-le shard.front journal later held.reached)) held.holds;
}

-- ---- all shards

-- an item of a list in which one was set is that one, at its place, or was there before
set-cases : {A : Type 0} (xs : List A) (i j : ℕ) (x y : A) → slice_get (set xs i x) j ≡ Some y → ((i ≡ j) × (x ≡ y)) ⊎ (slice_get xs j ≡ Some y)
set-cases [] i j x y is = inr is
set-cases (z ∷ xs) zero zero x y is = let same : x ≡ y = cc in inl (refl, same)
set-cases (z ∷ xs) zero (suc j) x y is = inr is
set-cases (z ∷ xs) (suc i) zero x y is = inr is
set-cases (z ∷ xs) (suc i) (suc j) x y is = elim (set-cases xs i j x y is) [ inl p ↦ inl (ap suc p.0, p.1) | inr h ↦ inr h ]

-- where one shard was set, its front was
fronts-set : (shards : List Sharded) (i : ℕ) (new : Sharded) → fronts_of (set shards i new) ≡ set (fronts_of shards) i new.front
fronts-set [] i new = refl
fronts-set (s ∷ shards) zero new = refl
fronts-set (s ∷ shards) (suc i) new = ap (λ ns. s.front ∷ ns) (fronts-set shards i new)

-- the front of the shard at a place
pub front-at : (shards : List Sharded) (i : ℕ) (s : Sharded) → slice_get shards i ≡ Some s → get_or (fronts_of shards) i 0 ≡ s.front
front-at [] zero s is = absurd (cc)
front-at [] (suc i) s is = absurd (cc)
front-at (z ∷ shards) zero s is = let same : z ≡ s = cc in ap (λ (x : Sharded). x.front) same
front-at (z ∷ shards) (suc i) s is = front-at shards i s is

-- the front at a place where a shard was set is that shard's
front-set : (shards : List Sharded) (i : ℕ) (old new : Sharded) → slice_get shards i ≡ Some old → get_or (fronts_of (set shards i new)) i 0 ≡ new.front
front-set [] zero old new is = absurd (cc)
front-set [] (suc i) old new is = absurd (cc)
front-set (s ∷ shards) zero old new is = refl
front-set (s ∷ shards) (suc i) old new is = front-set shards i old new is

-- where each shard's front is up to a number so is the front at each place; past the shards it is 0
fronts-up_to : (n : ℕ) (shards : List Sharded) → ((i : ℕ) (s : Sharded) → slice_get shards i ≡ Some s → s.front ≤ n) →
    (i : ℕ) → get_or (fronts_of shards) i 0 ≤ n
fronts-up_to n [] each i = omega arith
fronts-up_to n (s ∷ shards) each zero = each 0 s refl
fronts-up_to n (s ∷ shards) each (suc i) = fronts-up_to n shards (λ j x is. each (suc j) x is) i

module _ (journal : Journal) (settings : Settings) (shards : List Sharded) (held : AreHeld journal settings shards) (place : ℕ) where
  -- the shard at a place
  pub shard-there : (s : Sharded) → place < settings.shards → s ≡ get_or shards place s → slice_get shards place ≡ Some s
  shard-there s below is = slice_get_read shards settings.shards place s (sym held.as_many) below is

  -- the shard at each place holds the journal up to its front
  pub held-there : (s : Sharded) → place < settings.shards → s ≡ get_or shards place s → IsHeld journal settings place s
  held-there s below is = held.each place s (shard-there s below is)

  module _ (old new : Sharded) (there : slice_get shards place ≡ Some old) (now : IsHeld journal settings place new) where
    -- one shard has followed, and the others are as they were
    pub held-set : AreHeld journal settings (set shards place new)
    held-set = record {
      as_many = length-set shards place new ∙ held.as_many;
      each = λ j s is. elim (set-cases shards place j new s is) [
        | inl p ↦ subst (λ (x : Sharded). IsHeld journal settings j x) p.1 (subst (λ (k : ℕ). IsHeld journal settings k new) p.0 now)
        | inr h ↦ held.each j s h
      ];
    }

    -- the one front that was set is no lower than before, and none is past the journal's end
    pub risen-set : old.front ≤ new.front → HaveRisen journal (fronts_of shards) (fronts_of (set shards place new))
    risen-set up =
        let at : get_or (fronts_of shards) place 0 ≤ new.front = subst (λ (n : ℕ). n ≤ new.front) (sym (front-at shards place old there)) up in
        subst (HaveRisen journal (fronts_of shards)) (sym (fronts-set shards place new))
        (record {
          as_many = length-set (fronts_of shards) place new.front;
          risen = λ k. rises (fronts_of shards) place new.front k at;
          reached = λ k. kept (λ (n : ℕ). n ≤ length journal) (fronts_of shards) place new.front 0 k now.reached
              (fronts-up_to (length journal) shards (λ j s is. (held.each j s is).reached) k);
        })

    -- the one front is no further than a number, or where it was
    pub front-within : (to : ℕ) → new.front ≤ max old.front to
        → get_or (fronts_of (set shards place new)) place 0 ≤ max (get_or (fronts_of shards) place 0) to
    front-within to within =
        subst (λ (n : ℕ). n ≤ max (get_or (fronts_of shards) place 0) to) (sym (front-set shards place old new there))
        (subst (λ (n : ℕ). new.front ≤ max n to) (sym (front-at shards place old there)) within)

    -- the one front went to a number, if it was behind that
    pub fronts-moved : (to : ℕ) → new.front ≡ max old.front to
        → fronts_of (set shards place new) ≡ set (fronts_of shards) place (max (get_or (fronts_of shards) place 0) to)
    fronts-moved to is =
        fronts-set shards place new
        ∙ ap (set (fronts_of shards) place) (is ∙ ap (λ (n : ℕ). max n to) (sym (front-at shards place old there)))

-- it goes on where the journal grows
pub held-all-longer : (journal later : Journal) (settings : Settings) (shards : List Sharded) → AreHeld journal settings shards
    → AreHeld (journal ++ later) settings shards
held-all-longer journal later settings shards held = record {
  as_many = held.as_many;
  each = λ j s is. held-longer journal later settings j s (held.each j s is);
}

-- the first so many commits leave what they leave of the whole journal
pub state-first : (journal : Journal) (n front : ℕ) (address : Address) → n ≤ front → state (take front journal) n address ≡ state journal n address
state-first journal n front address within = ap (λ (first : Journal). left_by first address) (take-shorter n front journal within)
  where
    take-shorter : (n front : ℕ) (j : Journal) → n ≤ front → take n (take front j) ≡ take n j
    take-shorter zero front [] within = refl
    take-shorter (suc n) zero j within = absurd (omega arith)
    take-shorter zero zero (c ∷ j) within = refl
    take-shorter zero (suc front) (c ∷ j) within = refl
    take-shorter (suc n) (suc front) [] within = refl
    take-shorter (suc n) (suc front) (c ∷ j) within = ap (λ rest. c ∷ rest) (take-shorter n front j (omega arith))

-- ---- a read in a shard

-- what follows from two facts at each value follows at the answer
if_both : {V E : Type 0} (r : Result V E) (P Q R : V → Type 0) → ((v : V) → P v → Q v → R v) → IfOk r P → IfOk r Q → IfOk r R
if_both (Ok v) P Q R f p q = f v p q
if_both (Err e) P Q R f p q = tt

-- there are as many fronts as shards
length-fronts : (shards : List Sharded) → length (fronts_of shards) ≡ length shards
length-fronts [] = refl
length-fronts (s ∷ shards) = ap suc (length-fronts shards)

-- the shard of an address has followed to a number
module _ (journal : Journal) (settings : Settings) (before after : List Sharded) (first : AreHeld journal settings before)
    (held : AreHeld journal settings after)
    (place seen : ℕ) (address : Address) (here : place ≡ shard_of address settings.shards) (below : place < settings.shards)
    (moved : fronts_of after ≡ set (fronts_of before) place (max (get_or (fronts_of before) place 0) seen)) (s : Sharded) (at : s ≡ get_or after place s) where
  -- the front to which the shard of the address goes, for a read at a number
  abbrev top : ℕ
  top = max (get_or (fronts_of before) (shard_of address settings.shards) 0) seen

  -- the shard that was read is held
  its : IsHeld journal settings place s
  its = held-there journal settings after held place s below at

  -- the address is in that shard, which has the settings' shards and its place as its number
  pub is-in : IsIn s address
  is-in = ap (shard_of address) its.shards ∙ sym here ∙ sym its.number

  -- its front was set to that number, at a place within the shards
  pub reached-top : s.front ≡ top
  reached-top =
      let within : place < length (fronts_of before) = let l = length-fronts before in let m = first.as_many in omega arith in
      sym (front-at after place s (shard-there journal settings after held place s below at))
      ∙ ap (λ (ns : List ℕ). get_or ns place 0) moved
      ∙ get_or-set_same (fronts_of before) place (max (get_or (fronts_of before) place 0) seen) 0 within
      ∙ ap (λ (k : ℕ). max (get_or (fronts_of before) k 0) seen) here

  -- the place that was set is that of the address
  pub moved-top : fronts_of after ≡ set (fronts_of before) (shard_of address settings.shards) top
  moved-top = moved ∙ ap (λ (k : ℕ). set (fronts_of before) k (max (get_or (fronts_of before) k 0) seen)) here

  module _ {E : Type 0} (r : Result Snap E) (base : IfOk r (λ snap. snap.base ≡ s.front)) where
    -- the base of what was read is the shard's front
    pub read-base : IfOk r (λ snap. snap.base ≡ top)
    read-base = IfOk-weaker r (λ snap. snap.base ≡ s.front) (λ snap. snap.base ≡ top) (λ snap e. e ∙ reached-top) base

    -- so that front was set to the base
    pub read-moved : IfOk r (λ snap. fronts_of after ≡ set (fronts_of before) (shard_of address settings.shards) snap.base)
    read-moved =
        IfOk-weaker r (λ snap. snap.base ≡ s.front) (λ snap. fronts_of after ≡ set (fronts_of before) (shard_of address settings.shards) snap.base)
        (λ snap e. moved-top ∙ ap (set (fronts_of before) (shard_of address settings.shards)) (sym (e ∙ reached-top))) base

    -- what the first commits up to the front leave is what they leave of the whole journal
    pub read-value : ((first : Journal) → Holds first s → IfOk r (λ snap. snap.value ≡ state first s.front address))
        → IfOk r (λ snap. snap.value ≡ state journal snap.base address)
    read-value values =
        if_both r (λ snap. snap.base ≡ s.front) (λ snap. snap.value ≡ state (take s.front journal) s.front address)
        (λ snap. snap.value ≡ state journal snap.base address)
        (λ snap e v. v ∙ state-first journal s.front s.front address (omega arith) ∙ ap (λ (n : ℕ). state journal n address) (sym e)) base
        (values (take s.front journal) its.holds)

  -- a read at a number that isn't past the front
  pub back-value : (value : Value) → ReadsAt (take s.front journal) s address seen (Ok value)
      → Answer.value value ≡ back_at journal settings.window address seen top
  back-value value reads =
      let f = reached-top in
      let w = its.window in
      let h = reads.0 in
      let no : nat_lt seen (top - settings.window) ≡ false = grind (arith, nat_tests) in
      ap (λ v. Answer.value v) (reads.1 ∙ state-first journal seen s.front address (omega arith))
      ∙ sym (ap (λ b. cond b (Answer.late seen (top - settings.window)) (Answer.value (state journal seen address))) no)

  -- a read at a number below the horizon, which is the front less the window
  pub back-late : (asked horizon : ℕ) → ReadsAt (take s.front journal) s address seen (Err (at_error.Late asked horizon))
      → Answer.late asked horizon ≡ back_at journal settings.window address seen top
  back-late asked horizon reads =
      let f = reached-top in
      let w = its.window in
      let h = reads.0 in
      let yes : nat_lt seen (top - settings.window) ≡ true = grind (arith, nat_tests) in
      let same : horizon ≡ top - settings.window = let e = reads.2 in omega arith in
      ap (λ (n : ℕ). Answer.late n horizon) reads.1 ∙ ap (Answer.late seen) same
      ∙ sym (ap (λ b. cond b (Answer.late seen (top - settings.window)) (Answer.value (state journal seen address))) yes)

  -- so what is told of the shard's answer is what is so at that number
  pub back-told : (r : Result Value AtError) → ((first : Journal) → Holds first s → ReadsAt first s address seen r)
      → IfOk (value_told r) (λ answer. value_answered answer ≡ back_at journal settings.window address seen top)
  back-told (Ok value) reads = back-value value (reads (take s.front journal) its.holds)
  back-told (Err (at_error.Late asked horizon)) reads = back-late asked horizon (reads (take s.front journal) its.holds)
  back-told (Err at_error.NoMemory) reads = tt

-- what is so is so at an answer
pub on_ok : {V E : Type 0} (r : Result V E) {P : Type 0} → P → OnOk r P
on_ok (Ok v) p = p
on_ok (Err e) p = tt

-- the place of an address is that of a shard
pub place-below : (settings : Settings) (address : Address) (place : ℕ) → place ≡ shard_of address settings.shards → place < settings.shards
place-below settings address place here = let some : LEAST_SHARDS ≤ settings.shards = settings.shards_in_range.0 in omega arith
