-- What a journal explains, every longer one explains.
use Rattle.std.proofs.Common.{◌≡◌, ℕ, ◌≤◌, List, [], ◌∷◌, length, sym, ap, ◌∙◌}
use Rattle.std.proofs.Common.{arith}
use Rattle.std.specs.List.{AllByRecursion}
use Rattle.plain_data.specs.Texts.{Bytes}
use Rattle.rdt_types.specs.declared.outcome.Outcome.{Outcome}
use Rattle.session_text.specs.declared.reply.Reply.{Reply}
use Rattle.txn_lang.specs.declared.checked.Checked.{Checked}
use Rattle.txn_lang.specs.States.{Journal, State, known}
use Rattle.txn_lang.specs.Execution.{exec}
use Rattle.journal_core.specs.Changes.{changes}
use Rattle.journal_core.specs.Pairs.{AreNumbered}
use Rattle.rerun_driver.specs.declared.watch.Watch.{Watch}
use Rattle.rerun_driver.specs.Touched.{is_touched}
use Rattle.rerun_driver.specs.Watches.{Watches}
use Rattle.client_cache.specs.Cached.{Cached}
use Rattle.docc_prepare.specs.Backends.{IsPrefix}
use Rattle.client_watches.specs.declared.watching.Watching.{Watching}
use Rattle.client_watches.specs.Standing.{WatchStands, Stands}
use Rattle.client_watches.specs.Explained.{Shown, ShownList, observed_in, run_at, IsOutcomeAt, touched, Reports, AllHold}
use Rattle.client_watches.proofs.Journals.{prefix-shorter, prefix-state, prefix-touched}

-- no watch was reported past a number
abbrev pub AreUpTo : ℕ → ShownList → Type 0
AreUpTo n watches = AllByRecursion (λ (entry : Bytes × Shown). entry.1.number ≤ n) watches

module _ (old new : Journal) (numbered : AreNumbered old) (renumbered : AreNumbered new) (p : IsPrefix old new) where
  -- the run on first commits is the same
  pub run-stays : (n : ℕ) (body : Checked) → n ≤ length old → run_at new n body ≡ run_at old n body
  run-stays n body within = ap (λ (s : State). exec body.body (known s)) (prefix-state old new n p within)

  -- so is its outcome
  pub outcome-stays : (body : Checked) (n : ℕ) (outcome : Outcome) → n ≤ length old → IsOutcomeAt old body n outcome → IsOutcomeAt new body n outcome
  outcome-stays body n outcome within is = record { run = is.run; ran = run-stays n body within ∙ is.ran; outcome_is = is.outcome_is }

  -- and what touches a watch
  pub touched-stays : (n : ℕ) (w : Shown) → w.number ≤ n → n ≤ length old → touched new n w ≡ touched old n w
  touched-stays n w before within =
      prefix-touched old new w.number n (observed_in (run_at new w.number w.body)) numbered renumbered p within
      ∙ ap (λ r. is_touched (changes old) w.number n (observed_in r)) (run-stays w.number w.body (let b = before in omega arith))

  module _ (n : ℕ) (within : n ≤ length old) where
    -- so do reports
    pub reports-stay : (watches : ShownList) (replies : List Reply) (later : ShownList) → AreUpTo n watches → Reports old n watches replies later
        → Reports new n watches replies later
    reports-stay watches replies later all Reports.no_more = Reports.no_more
    reports-stay watches replies later all (Reports.untouched {watches = ws} {later = vs} {replies = rs} name w fresh rest) =
        Reports.untouched name w (touched-stays n w all.0 within ∙ fresh) (reports-stay ws rs vs all.1 rest)
    reports-stay watches replies later all (Reports.reports {watches = ws} {later = vs} {replies = rs} name w outcome stale is rest) =
        Reports.reports name w outcome (touched-stays n w all.0 within ∙ stale) (outcome-stays w.body n outcome within is) (reports-stay ws rs vs all.1 rest)

    -- and that all hold
    pub hold-stay : (watches : ShownList) → AreUpTo n watches → AllHold old n watches → AllHold new n watches
    hold-stay [] all holds = tt
    hold-stay (w ∷ watches) all holds = (touched-stays n w.1 all.0 within ∙ holds.0, hold-stay watches all.1 holds.1)

    -- they held before, where they hold of the longer journal
    pub hold-before : (watches : ShownList) → AreUpTo n watches → AllHold new n watches → AllHold old n watches
    hold-before [] all holds = tt
    hold-before (w ∷ watches) all holds = (sym (touched-stays n w.1 all.0 within) ∙ holds.0, hold-before watches all.1 holds.1)

  -- a watch stands for the longer journal
  pub watch-stands : (cache : Cached) (w : Watch) → cache.at ≤ length old → WatchStands old cache w → WatchStands new cache w
  watch-stands cache w within is = record {
    number = is.number;
    run = is.run;
    ran = run-stays w.number w.body (let b = is.number in omega arith) ∙ is.ran;
    observed = is.observed;
    stale = is.stale ∙ sym (prefix-touched old new w.number cache.at w.observations numbered renumbered p within);
    held = is.held;
  }

  -- and all that is kept
  pub stands-stay : (w : Watching) → Stands old w → Stands new w
  stands-stay w is = let within = is.within in record {
    within = let up = prefix-shorter old new p in omega arith;
    values = λ address value found. is.values address value found ∙ ap (λ (s : State). s address) (sym (prefix-state old new w.cache.at p within));
    watches = all w.watches is.watches;
  }
    where
      all : (ws : Watches) → AllByRecursion (λ (entry : Bytes × Watch). WatchStands old w.cache entry.1) ws
          → AllByRecursion (λ (entry : Bytes × Watch). WatchStands new w.cache entry.1) ws
      all [] h = tt
      all (x ∷ ws) h = (watch-stands w.cache x.1 is.within h.0, all ws h.1)

-- no report lowers a number past another
pub reports-up-to : (journal : Journal) (n m : ℕ) (watches : ShownList) (replies : List Reply) (later : ShownList) → n ≤ m → AreUpTo m watches
    → Reports journal n watches replies later → AreUpTo m later
reports-up-to journal n m watches replies later up all Reports.no_more = all
reports-up-to journal n m watches replies later up all (Reports.untouched {watches = ws} {later = vs} {replies = rs} name w fresh rest) =
    (all.0, reports-up-to journal n m ws rs vs up all.1 rest)
reports-up-to journal n m watches replies later up all (Reports.reports {watches = ws} {later = vs} {replies = rs} name w outcome stale is rest) =
    (up, reports-up-to journal n m ws rs vs up all.1 rest)
