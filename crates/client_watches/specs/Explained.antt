-- Replies to lines of watches that a journal explains, when the replies before have shown so much. No program stands in it, and
-- no store but its journal.
use Rattle.std.specs.Prelude.{◌≡◌, ◌⊎◌, ◌≤◌, ◌<◌, ◌+◌, ℕ, Bool, true, false, List, [], ◌∷◌, ◌++◌, map, length, IsSome, is_some}
use Rattle.std.specs.Prelude.{refl, codes}
use Rattle.std.specs.List.{AllByRecursion}
use Rattle.std.proofs.Common.{inl, inr}
use Rattle.std.specs.Map.{lookup, remove_entry}
use Rattle.std.specs.Str.{bytes_eq}
use Rattle.plain_data.specs.Texts.{Bytes}
use Rattle.rdt_types.specs.declared.outcome.Outcome.{Outcome}
use Rattle.session_text.specs.declared.reply.Reply.{Reply}
use Rattle.session_text.specs.declared.reply.Reply.TheVariants as reply
use Rattle.session_text.specs.declared.reply.Why.TheVariants as why
use Rattle.txn_lang.specs.declared.checked.Checked.{Checked}
use Rattle.txn_lang.specs.declared.run.Run.{Run}
use Rattle.txn_lang.specs.declared.run.Seen.{Seen}
use Rattle.txn_lang.specs.States.{Journal, known, state}
use Rattle.txn_lang.specs.Execution.{Ran, need, done, exec}
use Rattle.journal_core.specs.Changes.{changes}
use Rattle.rerun_driver.specs.Touched.{is_touched}
use Rattle.rerun_driver.specs.Watches.{Watches}
use Rattle.client_watches.specs.Goals.{Goal}

-- ---- what replies have shown of watches

-- a watch: its body, and the number of its last report
pub record Shown : Type 0 where
  pub body : Checked
  pub number : ℕ

-- all of a client, by their names, in the order of their making
abbrev pub ShownList : Type 0
ShownList = List (Bytes × Shown)

-- what is shown of the watches that are kept
abbrev pub shown_of : Watches → ShownList
shown_of watches = map (λ entry. (entry.0, record { body = entry.1.body; number = entry.1.number })) watches

-- what a run observed, and its outcome
abbrev pub observed_in : Ran → List Seen
observed_in (need address) = []
observed_in (done run) = run.observations

-- the run of a body on what the first so many commits leave
abbrev pub run_at : Journal → ℕ → Checked → Ran
run_at journal n body = exec body.body (known (state journal n))

-- the outcome is that of the body on the first n commits
pub record IsOutcomeAt (journal : Journal) (body : Checked) (n : ℕ) (outcome : Outcome) : Type 0 where
  pub run : Run
  pub ran : run_at journal n body ≡ done run
  pub outcome_is : outcome ≡ run.outcome

-- A watch is touched up to a number where some commit past its last report and up to that number has a delta that clashes with
-- what its last run observed.
abbrev pub touched : Journal → ℕ → Shown → Bool
touched journal n watch = is_touched (changes journal) watch.number n (observed_in (run_at journal watch.number watch.body))

-- a watch is reported at a number
abbrev pub reported_at : ℕ → Shown → Shown
reported_at n watch = record watch { number = n }

-- ---- reports

-- REPORTS ON ONE PREFIX: in the order of the watches, each that is touched has its body's outcome there, and no other has a
-- report; from some watch on there may be none.
pub data Reports (journal : Journal) (n : ℕ) : ShownList → List Reply → ShownList → Type 0 where
  no_more : {watches : ShownList} → Reports journal n watches [] watches
  untouched : {watches later : ShownList} {replies : List Reply} (name : Bytes) (watch : Shown) → touched journal n watch ≡ false
      → Reports journal n watches replies later → Reports journal n ((name, watch) ∷ watches) replies ((name, watch) ∷ later)
  reports : {watches later : ShownList} {replies : List Reply} (name : Bytes) (watch : Shown) (outcome : Outcome) → touched journal n watch ≡ true
      → IsOutcomeAt journal watch.body n outcome → Reports journal n watches replies later
      → Reports journal n ((name, watch) ∷ watches) (reply.Ran name n outcome ∷ replies) ((name, reported_at n watch) ∷ later)

-- no watch is touched: the last outcome of each is that of its body
abbrev pub AllHold : Journal → ℕ → ShownList → Type 0
AllHold journal n watches = AllByRecursion (λ (entry : Bytes × Shown). touched journal n entry.1 ≡ false) watches

-- not below what was shown, and a number of the journal
pub record IsShownAt (low n : ℕ) (journal : Journal) : Type 0 where
  pub not_back : low ≤ n
  pub within : n ≤ length journal

-- ---- lines

-- all that were touched are reported, and then that all hold
pub record IsCurrent (journal : Journal) (low : ℕ) (before : ShownList) (replies : List Reply) (later : ShownList) : Type 0 where
  pub n : ℕ
  pub shown_at : IsShownAt low n journal
  pub prefix : List Reply
  pub reports : Reports journal n before prefix later
  pub all : AllHold journal n later
  pub replies_are : replies ≡ prefix ++ reply.Current n ∷ []

-- the reports end where a value is late: the number is below a horizon
pub record IsCutShort (window : ℕ) (journal : Journal) (low : ℕ) (before : ShownList) (replies : List Reply) (later : ShownList) : Type 0 where
  pub n : ℕ
  pub horizon : ℕ
  pub shown_at : IsShownAt low n journal
  pub below : n < horizon
  pub behind : horizon + window ≤ length journal
  pub prefix : List Reply
  pub reports : Reports journal n before prefix later
  pub replies_are : replies ≡ prefix ++ reply.Late n horizon ∷ []

-- the same where a rerun needed that value: some watch that was touched has no report
pub record IsCutAtRerun (window : ℕ) (journal : Journal) (low : ℕ) (before : ShownList) (replies : List Reply) (later : ShownList) : Type 0 where
  pub cut : IsCutShort window journal low before replies later
  pub some : AllHold journal cut.n later → ⊥

-- all that were touched are reported, and then the new watch, which is the last
pub record IsMade (journal : Journal) (low : ℕ) (name : Bytes) (body : Checked) (before : ShownList) (replies : List Reply) (later : ShownList) : Type 0 where
  pub n : ℕ
  pub shown_at : IsShownAt low n journal
  pub prefix : List Reply
  pub others : ShownList
  pub reports : Reports journal n before prefix others
  pub all : AllHold journal n others
  pub outcome : Outcome
  pub outcome_is : IsOutcomeAt journal body n outcome
  pub replies_are : replies ≡ prefix ++ reply.Ran name n outcome ∷ []
  pub later_are : later ≡ others ++ (name, record { body = body; number = n }) ∷ []

-- WHICH REPLIES PASS for `sync`
abbrev pub SyncPasses : ℕ → Journal → ℕ → ShownList → List Reply → ShownList → Type 0
SyncPasses window journal low before replies later = IsCurrent journal low before replies later ⊎ IsCutAtRerun window journal low before replies later

-- a watch has the name
abbrev pub IsNamed : Bytes → ShownList → Type 0
IsNamed name watches = IsSome (lookup (bytes_eq name) watches)

-- no watch has the name
abbrev pub IsUnknown : Bytes → ShownList → Type 0
IsUnknown name watches = is_some (lookup (bytes_eq name) watches) ≡ false

-- nothing is done
pub record IsRefused (why_not : List Reply) (before : ShownList) (replies : List Reply) (later : ShownList) : Type 0 where
  pub replies_are : replies ≡ why_not
  pub same : later ≡ before

-- which pass for `watch`: the refusal where the name is in use, and nothing else; where it is free, the watch is made, or a value
-- that a rerun or its first run needed was late
abbrev pub WatchPasses : ℕ → Journal → ℕ → Bytes → Checked → ShownList → List Reply → ShownList → Type 0
WatchPasses window journal low name body before replies later =
    (IsNamed name before × IsRefused (reply.Refused why.Name ∷ []) before replies later)
    ⊎ (IsUnknown name before × (IsMade journal low name body before replies later ⊎ IsCutShort window journal low before replies later))

-- which pass for a line that is to come to a goal
abbrev pub GoalPasses : ℕ → Journal → ℕ → Goal → ShownList → List Reply → ShownList → Type 0
GoalPasses window journal low Goal.current before replies later = SyncPasses window journal low before replies later
GoalPasses window journal low (Goal.watch name body) before replies later = WatchPasses window journal low name body before replies later

-- the watch of the name is gone, and every other stands as it was
pub record IsForgotten (name : Bytes) (before : ShownList) (replies : List Reply) (later : ShownList) : Type 0 where
  pub was : IsNamed name before
  pub replies_are : replies ≡ reply.Dropped ∷ []
  pub gone : IsUnknown name later
  pub others : later ≡ remove_entry (bytes_eq name) before

-- which pass for `unwatch`, whatever the journal
abbrev pub UnwatchPasses : Bytes → ShownList → List Reply → ShownList → Type 0
UnwatchPasses name before replies later =
    (IsUnknown name before × IsRefused (reply.Refused why.NoAttempt ∷ []) before replies later) ⊎ IsForgotten name before replies later

-- ---- worked lines

-- of two watches the first is forgotten, and the other stands as it was
forgotten-example : (v w : Shown) → UnwatchPasses (codes "v") ((codes "v", v) ∷ (codes "w", w) ∷ []) (reply.Dropped ∷ []) ((codes "w", w) ∷ [])
forgotten-example v w = inr (record { was = refl; replies_are = refl; gone = refl; others = refl })

-- a name that none has is refused
unknown-example : (v : Shown) → UnwatchPasses (codes "w") ((codes "v", v) ∷ []) (reply.Refused why.NoAttempt ∷ []) ((codes "v", v) ∷ [])
unknown-example v = inl (refl, record { replies_are = refl; same = refl })

-- a name that is in use is refused
in-use-example : (window : ℕ) (journal : Journal) (low : ℕ) (body : Checked) (v : Shown)
    → WatchPasses window journal low (codes "v") body ((codes "v", v) ∷ []) (reply.Refused why.Name ∷ []) ((codes "v", v) ∷ [])
in-use-example window journal low body v = inl (refl, record { replies_are = refl; same = refl })

-- and nothing else passes for it
in-use-alone : (window : ℕ) (journal : Journal) (low : ℕ) (body : Checked) (v : Shown) (replies : List Reply) (later : ShownList)
    → WatchPasses window journal low (codes "v") body ((codes "v", v) ∷ []) replies later → replies ≡ reply.Refused why.Name ∷ []
in-use-alone window journal low body v replies later (inl is) = is.1.replies_are
in-use-alone window journal low body v replies later (inr is) = absurd (let free = is.0 in cc)

-- where there is no watch, no rerun is late
none-to-rerun : (window : ℕ) (journal : Journal) (low : ℕ) (replies : List Reply) → IsCutAtRerun window journal low [] replies [] → ⊥
none-to-rerun window journal low replies is = is.some tt
