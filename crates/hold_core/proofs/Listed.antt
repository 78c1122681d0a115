-- The holds that are listed as live are exactly those that are.
use Rattle.std.proofs.Common.{◌≡◌, ◌≢◌, ℕ, ◌+◌, ◌-◌, ◌<◌, ◌≤◌, ◌&&◌, ◌⊎◌, inl, inr, nat_lt, not, Bool, true, false, cond, List, [], ◌∷◌, ◌++◌}
use Rattle.std.proofs.Common.{filter, length, take, drop, Some, slice_get, refl, sym, ap, subst, ◌∙◌, arith}
use Rattle.std.specs.Prelude.{◌==◌}
use Rattle.std.specs.List.{AllByRecursion}
use Rattle.std.proofs.lemmas.Bool.{and_parts, and_from, not-true, not_from_false, ltb-true, lt-ltb, eqb-false, ne_eqb, cases_lt}
use Rattle.std.proofs.lemmas.List.{append-nil, append_assoc, length-append, take-append-le, drop-append-le, take_at, drop_all}
use Rattle.txn_lang.specs.declared.commit.Commit.{Commit}
use Rattle.txn_lang.specs.declared.run.Seen.{Seen}
use Rattle.txn_lang.specs.States.{Journal}
use Rattle.journal_core.specs.declared.hold.Hold.{Hold}
use Rattle.journal_core.specs.declared.limits.TheConstants.{HOLD_LASTS}
use Rattle.journal_core.specs.Pairs.{AreNumberedFrom, AreNumbered}
use Rattle.journal_core.specs.Holds.{IsLive, is_hold, disturbs_some, observed_alone, outlasts, hold_of, new_hold, with_hold, live_from, live}
use Rattle.journal_core.proofs.Each.{each-more, each-push, each-filter, each-append}
use Rattle.journal_core.proofs.Witnessed.{commit-there, number-within}
use Rattle.hold_core.specs.Laws.{LiveHoldsAreListed}
use Rattle.hold_core.proofs.Places.{Has, has-first, has-none, has-cases, has-left, has-right, has-either, has-kept, has-passed, each-parts, at-within, at-end}
use Rattle.hold_core.proofs.Rising.{IsRising, UpTo, rising-filter, rising-push}

-- ---- what outlasts a commit

-- a hold is still young behind the commit, which is another client's and disturbs it not
pub record Outlasts (commit : Commit) (hold : Hold) : Type 0 where
  pub young : commit.number < hold.number + HOLD_LASTS
  pub another : commit.client ≢ hold.client
  pub undisturbed : disturbs_some commit.deltas hold.observations ≡ false

-- so it is where the test says so
outlasts-parts : (commit : Commit) (hold : Hold) → outlasts commit hold ≡ true → Outlasts commit hold
outlasts-parts commit hold is =
    let outer = and_parts (nat_lt commit.number (hold.number + HOLD_LASTS) && not (hold.client == commit.client))
    (not (disturbs_some commit.deltas hold.observations)) is in
    let inner = and_parts (nat_lt commit.number (hold.number + HOLD_LASTS)) (not (hold.client == commit.client)) outer.0 in record {
      young = ltb-true commit.number (hold.number + HOLD_LASTS) inner.0;
      another = λ same. eqb-false hold.client commit.client (not-true (hold.client == commit.client) inner.1) (sym same);
      undisturbed = not-true (disturbs_some commit.deltas hold.observations) outer.1;
    }

-- and where it is so, the test says it
pub outlasts-from : (commit : Commit) (hold : Hold) → Outlasts commit hold → outlasts commit hold ≡ true
outlasts-from commit hold out =
    and_from (nat_lt commit.number (hold.number + HOLD_LASTS) && not (hold.client == commit.client)) (not (disturbs_some commit.deltas hold.observations))
    (and_from (nat_lt commit.number (hold.number + HOLD_LASTS)) (not (hold.client == commit.client))
    (lt-ltb commit.number (hold.number + HOLD_LASTS) out.young)
    (not_from_false (hold.client == commit.client) (ne_eqb hold.client commit.client (λ same. out.another (sym same)))))
    (not_from_false (disturbs_some commit.deltas hold.observations) out.undisturbed)

-- ---- one commit more

module _ (m : ℕ) (journal : Journal) (commit : Commit) (next : commit.number ≡ length journal + 1) where
  -- the journal with the commit is longer by one
  longer : length (journal ++ commit ∷ []) ≡ length journal + 1
  longer = length-append journal (commit ∷ [])

  -- a live hold that outlasts the commit is live behind it
  pub live-more : (hold : Hold) → IsLive m journal hold → Outlasts commit hold → IsLive m (journal ++ commit ∷ []) hold
  live-more hold live out =
      let at = number-within journal hold.number live.commit live.placed in
      let behind = drop-append-le hold.number journal (commit ∷ []) (omega (arith, at.0, at.1)) in record {
        commit = live.commit;
        placed =
            commit-there (journal ++ commit ∷ []) (hold.number - 1) hold.number (omega (arith, at.0))
            ∙ at-within journal (commit ∷ []) (hold.number - 1) at.1 ∙ at.2;
        is = live.is;
        client = live.client;
        observed =
            live.observed
            ∙ ap (λ before. observed_alone before live.commit) (sym (take-append-le (hold.number - 1) journal (commit ∷ []) (omega (arith, at.1))));
        young = let young = out.young in omega (arith, longer, next, young);
        others =
            subst (AllByRecursion (λ later. later.client ≢ hold.client)) (sym behind)
            (each-push (λ later. later.client ≢ hold.client) (drop hold.number journal) commit live.others out.another);
        undisturbed =
            subst (AllByRecursion (λ later. disturbs_some later.deltas hold.observations ≡ false)) (sym behind)
            (each-push (λ later. disturbs_some later.deltas hold.observations ≡ false) (drop hold.number journal) commit live.undisturbed out.undisturbed);
      }

  -- a commit that is a hold is live where it is the last
  pub live-new : is_hold m commit ≡ true → IsLive m (journal ++ commit ∷ []) (hold_of commit (observed_alone journal commit))
  live-new is =
      let none : drop commit.number (journal ++ commit ∷ []) ≡ [] = drop_all commit.number (journal ++ commit ∷ []) (omega (arith, longer, next)) in record {
        commit = commit;
        placed = commit-there (journal ++ commit ∷ []) (length journal) commit.number next ∙ at-end journal commit;
        is = is;
        client = refl;
        observed = ap (λ before. observed_alone before commit) (sym (take_at journal (commit ∷ []) (commit.number - 1) (omega (arith, next))));
        young = omega (arith, longer, next);
        others = subst (AllByRecursion (λ later. later.client ≢ commit.client)) (sym none) tt;
        undisturbed =
            subst (AllByRecursion (λ later. disturbs_some later.deltas (observed_alone journal commit) ≡ false)) (sym none) tt;
      }

  -- what is live behind the commit was so before and outlasts it
  record Lasted (hold : Hold) : Type 0 where
    live : IsLive m journal hold
    out : Outlasts commit hold

  -- or is the commit
  record Fresh (hold : Hold) : Type 0 where
    is : is_hold m commit ≡ true
    same : hold_of commit (observed_alone journal commit) ≡ hold

  -- of the two it is the first where it is a number of the journal
  lasted : (hold : Hold) → IsLive m (journal ++ commit ∷ []) hold → hold.number ≤ length journal → Lasted hold
  lasted hold live within =
      let at = number-within (journal ++ commit ∷ []) hold.number live.commit live.placed in
      let behind = drop-append-le hold.number journal (commit ∷ []) within in
      let others = each-parts (λ later. later.client ≢ hold.client) (drop hold.number journal) (commit ∷ [])
      (subst (AllByRecursion (λ later. later.client ≢ hold.client)) behind live.others) in
      let undisturbed = each-parts (λ later. disturbs_some later.deltas hold.observations ≡ false) (drop hold.number journal) (commit ∷ [])
      (subst (AllByRecursion (λ later. disturbs_some later.deltas hold.observations ≡ false)) behind live.undisturbed) in
      let young = live.young in record {
        live = record {
          commit = live.commit;
          placed =
              commit-there journal (hold.number - 1) hold.number (omega (arith, at.0))
              ∙ sym (at-within journal (commit ∷ []) (hold.number - 1) (omega (arith, at.0, within))) ∙ at.2;
          is = live.is;
          client = live.client;
          observed =
              live.observed
              ∙ ap (λ before. observed_alone before live.commit) (take-append-le (hold.number - 1) journal (commit ∷ []) (omega (arith, within)));
          young = omega (arith, longer, young);
          others = others.0;
          undisturbed = undisturbed.0;
        };
        out = record {
          young = omega (arith, longer, next, young);
          another = others.1.0;
          undisturbed = undisturbed.1.0;
        };
      }

  -- and else the second
  fresh : (hold : Hold) → IsLive m (journal ++ commit ∷ []) hold → length journal < hold.number → Fresh hold
  fresh hold live past =
      let at = number-within (journal ++ commit ∷ []) hold.number live.commit live.placed in
      let place : hold.number - 1 ≡ length journal = omega (arith, longer, at.1, past) in
      let there : Some commit ≡ Some live.commit
      = sym (at-end journal commit) ∙ ap (slice_get (journal ++ commit ∷ [])) (sym place) ∙ at.2 in
      let same : commit ≡ live.commit = cc in
      let before : take (hold.number - 1) (journal ++ commit ∷ []) ≡ journal = take_at journal (commit ∷ []) (hold.number - 1) (sym place) in
      let client : commit.client ≡ hold.client = ap (λ c. c.client) same ∙ sym live.client in
      let number : commit.number ≡ hold.number = omega (arith, next, place, past) in
      let seen : observed_alone journal commit ≡ hold.observations
      = ap (observed_alone journal) same ∙ ap (λ b. observed_alone b live.commit) (sym before) ∙ sym live.observed in record {
        is = subst (λ c. is_hold m c ≡ true) (sym same) live.is;
        same = λ i. record { client = client i; number = number i; observations = seen i };
      }

  -- so it is one or the other
  was : (hold : Hold) → IsLive m (journal ++ commit ∷ []) hold → Lasted hold ⊎ Fresh hold
  was hold live = by (cases_lt (length journal) hold.number)
    where
      by : (length journal < hold.number) ⊎ (hold.number ≤ length journal) → Lasted hold ⊎ Fresh hold
      by (inl past) = inr (fresh hold live past)
      by (inr within) = inl (lasted hold live within)

  -- the hold that is new is the commit
  new-is : (seen : List Seen) (hold : Hold) → Has (new_hold m commit seen) hold → (is_hold m commit ≡ true) × (hold_of commit seen ≡ hold)
  new-is seen hold has = by (is_hold m commit) refl has
    where
      alone : (hold_of commit seen ≡ hold) ⊎ Has [] hold → hold_of commit seen ≡ hold
      alone (inl same) = same
      alone (inr has) = absurd (has-none hold has)

      by : (b : Bool) → is_hold m commit ≡ b → Has (cond b (hold_of commit seen ∷ []) []) hold → (is_hold m commit ≡ true) × (hold_of commit seen ≡ hold)
      by true is has = (is, alone (has-cases hold (hold_of commit seen) [] has))
      by false is has = absurd (has-none hold has)

  -- and it is there where it is one
  new-there : (seen : List Seen) → is_hold m commit ≡ true → Has (new_hold m commit seen) (hold_of commit seen)
  new-there seen is = by (is_hold m commit) is
    where
      by : (b : Bool) → b ≡ true → Has (cond b (hold_of commit seen ∷ []) []) (hold_of commit seen)
      by true is = has-first (hold_of commit seen) []
      by false is = absurd (cc)

-- ---- all commits

-- these are the live holds of the journal, by rising numbers
pub record Lists (m : ℕ) (journal : Journal) (holds : List Hold) : Type 0 where
  pub sound : (hold : Hold) → Has holds hold → IsLive m journal hold
  pub whole : (hold : Hold) → IsLive m journal hold → Has holds hold
  pub rising : IsRising 0 holds
  pub within : AllByRecursion (UpTo (length journal)) holds

-- an empty journal has none
lists-none : (m : ℕ) → Lists m [] []
lists-none m = record {
  sound = λ hold has. absurd (has-none hold has);
  whole = λ hold live. let at = number-within [] hold.number live.commit live.placed in absurd (omega (arith, at.1));
  rising = tt;
  within = tt;
}

module _ (m : ℕ) (journal : Journal) (holds : List Hold) (commit : Commit) (next : commit.number ≡ length journal + 1) (lists : Lists m journal holds)
  where
    -- what the commit observes
    abbrev seen : List Seen
    seen = observed_alone journal commit

    -- the holds that outlast it
    abbrev kept : List Hold
    kept = filter (outlasts commit) holds

    -- what is listed behind it is live
    sound-more : (hold : Hold) → Has kept hold ⊎ Has (new_hold m commit seen) hold → IsLive m (journal ++ commit ∷ []) hold
    sound-more hold (inl has) =
        let there = has-passed (outlasts commit) hold holds has in
        live-more m journal commit next hold (lists.sound hold there.0) (outlasts-parts commit hold there.1)
    sound-more hold (inr has) =
        let new = new-is m journal commit next seen hold has in
        subst (IsLive m (journal ++ commit ∷ [])) new.1 (live-new m journal commit next new.0)

    -- what is live behind it is listed
    whole-more : (hold : Hold) → Lasted m journal commit next hold ⊎ Fresh m journal commit next hold → Has (kept ++ new_hold m commit seen) hold
    whole-more hold (inl last) =
        has-left hold kept (new_hold m commit seen)
        (has-kept (outlasts commit) hold holds (lists.whole hold last.live) (outlasts-from commit hold last.out))
    whole-more hold (inr new) =
        has-right hold kept (new_hold m commit seen) (subst (Has (new_hold m commit seen)) new.same (new-there m journal commit next seen new.is))

    -- the listed are within the journal and this commit
    wider : AllByRecursion (UpTo (length (journal ++ commit ∷ []))) kept
    wider =
        let longer = length-append journal (commit ∷ []) in
        each-more (UpTo (length journal)) (UpTo (length (journal ++ commit ∷ []))) kept (λ hold within. omega (arith, longer, within))
        (each-filter (UpTo (length journal)) (outlasts commit) holds lists.within)

    -- behind all of them stands the commit
    rising-more : (b : Bool) → IsRising 0 (kept ++ cond b (hold_of commit seen ∷ []) [])
    rising-more true =
        rising-push 0 (length journal) kept (hold_of commit seen) (omega arith) (omega (arith, next))
        (each-filter (UpTo (length journal)) (outlasts commit) holds lists.within) (rising-filter 0 (outlasts commit) holds lists.rising)
    rising-more false = subst (IsRising 0) (sym (append-nil kept)) (rising-filter 0 (outlasts commit) holds lists.rising)

    -- which is within
    new-within : (b : Bool) → AllByRecursion (UpTo (length (journal ++ commit ∷ []))) (cond b (hold_of commit seen ∷ []) [])
    new-within true = let longer = length-append journal (commit ∷ []) in (omega (arith, longer, next), tt)
    new-within false = tt

    -- a commit more makes of them those of the journal with it
    lists-more : Lists m (journal ++ commit ∷ []) (with_hold m holds commit seen)
    lists-more = record {
      sound = λ hold has. sound-more hold (has-either hold kept (new_hold m commit seen) has);
      whole = λ hold live. whole-more hold (was m journal commit next hold live);
      rising = rising-more (is_hold m commit);
      within =
          each-append (UpTo (length (journal ++ commit ∷ []))) kept (new_hold m commit seen) wider (new-within (is_hold m commit));
    }

-- and so do all commits, one by one
lists-along : (m : ℕ) (before : Journal) (holds : List Hold) (journal : Journal) → AreNumberedFrom (length before) journal → Lists m before holds
    → Lists m (before ++ journal) (live_from m before holds journal)
lists-along m before holds [] numbered lists = subst (λ all. Lists m all holds) (sym (append-nil before)) lists
lists-along m before holds (commit ∷ rest) numbered lists =
    let next = with_hold m holds commit (observed_alone before commit) in
    subst (λ all. Lists m all (live_from m (before ++ commit ∷ []) next rest)) (append_assoc before (commit ∷ []) rest)
    (lists-along m (before ++ commit ∷ []) next rest
    (subst (λ n. AreNumberedFrom n rest) (sym (length-append before (commit ∷ []))) numbered.1) (lists-more m before holds commit numbered.0 lists))

-- so the list is that of the live holds
pub all-listed : (m : ℕ) (journal : Journal) → AreNumbered journal → Lists m journal (live m journal)
all-listed m journal numbered = lists-along m [] [] journal numbered (lists-none m)

-- the law
pub live-holds-are-listed : LiveHoldsAreListed
live-holds-are-listed = record {
  sound = λ m journal numbered place hold at. (all-listed m journal numbered).sound hold (record { place = place; at = at });
  whole = λ m journal numbered hold live. let has = (all-listed m journal numbered).whole hold live in (has.place, has.at);
}
