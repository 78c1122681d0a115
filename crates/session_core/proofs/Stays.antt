-- What a journal explains, every longer one explains.
use Rattle.std.proofs.Common.{◌≡◌, ℕ, ◌+◌, ◌≤◌, List, [], ◌∷◌, ◌++◌, length, map, Option, Some, None, refl, sym, ap, ◌∙◌, subst, arith}
use Rattle.rdt_types.specs.declared.value.Value.{Value}
use Rattle.rdt_types.specs.declared.outcome.Outcome.{Outcome}
use Rattle.session_text.specs.declared.reply.Reply.{Reply}
use Rattle.session_text.specs.declared.reply.Reply.TheVariants as reply
use Rattle.txn_lang.specs.declared.checked.Checked.{Checked}
use Rattle.txn_lang.specs.Execution.{exec}
use Rattle.txn_lang.specs.States.{Journal, known, left_by}
use Rattle.journal_core.specs.Holds.{bars}
use Rattle.journal_core.specs.Pairs.{pairs}
use Rattle.docc_prepare.specs.declared.attempt.Attempt.{Attempt}
use Rattle.docc_prepare.specs.Attempts.{with_snap, with_front}
use Rattle.docc_prepare.specs.Backends.{IsPrefix}
use Rattle.session_core.specs.declared.line.Line.{Line}
use Rattle.session_core.specs.declared.line.Line.TheVariants as asked
use Rattle.session_core.specs.declared.turn.Turn.{Turn}
use Rattle.session_core.specs.declared.turn.Turn.TheVariants as turn
use Rattle.session_core.specs.Lines.{line_of}
use Rattle.session_core.specs.Events.{opened}
use Rattle.client_watches.specs.Explained.{ShownList, GoalPasses}
use Rattle.client_watches.specs.Goals.{Goal}
use Rattle.docc_prepare.specs.Readable.{CanRead}
use Rattle.client_watches.proofs.Lined.{passing_stays}
use Rattle.client_watches.proofs.Stays.{AreUpTo}
use Rattle.client_watches.proofs.Telling.{up-to-more}
use Rattle.session_core.specs.Explained.{Setting, Attempting, Story, IsShown, IsLate, based_here, based_all, commit_by, IsAborted}
use Rattle.session_core.specs.Explained.{EndPasses, HiddenEnd, StepPasses}
use Rattle.session_core.specs.Explained.{IsOutcomeAt, LookPasses, AtPasses, SeenPasses, By, begun_now, PlainPasses, ByAll, WaitPasses}
use Rattle.session_core.specs.Explained.{Passes, holding, attempting_after}
use Rattle.session_core.specs.Explained.{story_after, low_after, begun_after, Explains}
use Rattle.session_core.specs.Sessions.{ExplainsStays}
use Rattle.session_core.proofs.Kept.{fits-on}
use Rattle.session_core.proofs.Grown.{prefix-shorter, prefix-again, prefix-take, prefix-state, witness-stays}
use Rattle.session_core.proofs.Shown.{reported-after}

module _ (set : Setting) (old new : Journal) (grows : IsPrefix old new) where
  -- the journal is no shorter
  shown-stays : (low n : ℕ) → IsShown low old n → IsShown low new n
  shown-stays low n h = record { not_back = h.not_back; within = let w = h.within in let more = prefix-shorter old new grows in omega arith }

  -- a horizon is only further behind
  late-stays : (n horizon : ℕ) → IsLate set.window n horizon old → IsLate set.window n horizon new
  late-stays n horizon h = record { below = h.below; behind = let b = h.behind in let more = prefix-shorter old new grows in omega arith }

  -- a commit stays at its number, a least pair stays least, and the first commits stay the same
  end-stays : (low : ℕ) (s : Attempting) (a : Attempt) (r : Reply) → EndPasses set old low s a r → EndPasses set new low s a r
  end-stays low s a (reply.Commit n outcome) h = record {
    run = h.run;
    next = h.next;
    before = h.before;
    there = prefix-again (h.before ++ commit_by s a h.run n ∷ []) old new h.there grows;
    number = h.number;
    above = h.above;
    clear = h.clear;
    unbarred = h.unbarred;
    outcome_is = h.outcome_is;
  }
  end-stays low s a (reply.Abort w) (IsAborted.at_prepare shard run e least) = IsAborted.at_prepare shard run e
      (witness-stays (based_here a shard run) old new w grows least)
  end-stays low s a (reply.Abort w) (IsAborted.at_append run e least) = IsAborted.at_append run e
      (witness-stays (based_all a run) old new w grows least)
  end-stays low s a (reply.Held client number) h = let same = prefix-take old new h.first grows h.shown.within in record {
    run = h.run;
    next = h.next;
    first = h.first;
    shown = shown-stays low h.first h.shown;
    clear = ap (pairs (based_all a h.run)) same ∙ h.clear;
    barred = ap (λ (front : Journal). bars set.trusted front s.client h.run.deltas) same ∙ h.barred;
  }
  end-stays low s a (reply.Late base horizon)
      h = record { shard = h.shard; run = h.run; next = h.next; least = h.least; late = late-stays base horizon h.late }
  end-stays low s a (reply.Full limit) h = record {
    run = h.run;
    next = h.next;
    limit_is = h.limit_is;
    within = let w = h.within in let more = prefix-shorter old new grows in omega arith;
    clear = ap (pairs (based_all a h.run)) (prefix-take old new limit grows h.within) ∙ h.clear;
  }
  end-stays low s a reply.Disk h = h
  end-stays low s a r h = absurd h

  -- an attempt that fits goes on to fit
  hidden-stays : (y : Story) (first : Attempt) (r : Reply) → HiddenEnd set old y first r → HiddenEnd set new y first r
  hidden-stays y first r h = record {
    attempt = h.attempt;
    hidden = h.hidden;
    fits = fits-on old new h.attempt grows h.fits;
    passes = end-stays y.low y.attempting h.attempt r h.passes;
  }

  -- a shown event by its row
  step-stays : (y : Story) (a : Attempt) (r : Reply) → StepPasses set old y a r → StepPasses set new y a r
  step-stays y a (reply.Read address base) h = (h.0, shown-stays y.low base h.1)
  step-stays y a (reply.Prepared shard front) h = (h.0, fits-on old new (with_front a shard front) grows h.1)
  step-stays y a (reply.Commit n outcome) h = end-stays y.low y.attempting a (reply.Commit n outcome) h
  step-stays y a (reply.Abort w) h = end-stays y.low y.attempting a (reply.Abort w) h
  step-stays y a (reply.Held client number) h = end-stays y.low y.attempting a (reply.Held client number) h
  step-stays y a (reply.Late base horizon) h = end-stays y.low y.attempting a (reply.Late base horizon) h
  step-stays y a (reply.Full limit) h = end-stays y.low y.attempting a (reply.Full limit) h
  step-stays y a reply.Disk h = h
  step-stays y a r h = absurd h

  -- the prefix is the same, so the run on it is
  outcome-stays : (body : Checked) (n : ℕ) (outcome : Outcome) → n ≤ length old → IsOutcomeAt old body n outcome → IsOutcomeAt new body n outcome
  outcome-stays body n outcome within h = record {
    run = h.run;
    ran = ap (λ (first : Journal). exec body.body (known (left_by first))) (prefix-take old new n grows within) ∙ h.ran;
    outcome_is = h.outcome_is;
  }

  -- a look by its row
  look-stays : (low : ℕ) (body : Checked) (r : Reply) → LookPasses set old low body r → LookPasses set new low body r
  look-stays low body (reply.At n outcome) h = (shown-stays low n h.0, outcome-stays body n outcome h.0.within h.1)
  look-stays low body (reply.Late n horizon) h = (shown-stays low n h.0, late-stays n horizon h.1)
  look-stays low body r h = absurd h

  -- a named look by its row
  at-stays : (low asked_for : ℕ) (body : Checked) (r : Reply) → AtPasses set old low asked_for body r → AtPasses set new low asked_for body r
  at-stays low asked_for body (reply.At n outcome) h = (
    h.0,
    (let w = h.1 in let more = prefix-shorter old new grows in omega arith),
    outcome-stays body n outcome h.1 h.2,
  )
  at-stays low asked_for body (reply.Late n horizon) h = (h.0, late-stays n horizon h.1)
  at-stays low asked_for body (reply.Ahead n m) h = (h.0, h.1, shown-stays low m h.2)
  at-stays low asked_for body r h = absurd h

  -- a number that was seen by its row
  seen-stays : (low : ℕ) (r : Reply) → SeenPasses old low r → SeenPasses new low r
  seen-stays low (reply.Seen n) h = shown-stays low n h
  seen-stays low r h = absurd h

  -- one reply, which goes on to pass
  by-stays : (P Q : Reply → Type 0) (t : Turn) → ((r : Reply) → P r → Q r) → By P t → By Q t
  by-stays P Q (turn.Replies (r ∷ [])) stays h = stays r h
  by-stays P Q t stays h = absurd h

  -- a story whose open attempt is known
  abbrev with_open : Story → Option Attempt → Story
  with_open y o = record y { attempting = holding y.attempting o }

  -- each form of line by its row
  plain-stays : (y : Story) (o : Option Attempt) (l : Line) (t : Turn) → PlainPasses set old (with_open y o) l t → PlainPasses set new (with_open y o) l t
  plain-stays y None (asked.Begin body) t h = by-stays (SeenPasses old y.low) (SeenPasses new y.low) t (seen-stays y.low) h
  plain-stays y (Some a) (asked.Begin body) t h = h
  plain-stays y None (asked.Try tries body) t h = by-stays (HiddenEnd set old (begun_now (with_open y None)) (opened set.shards body))
      (HiddenEnd set new (begun_now (with_open y None)) (opened set.shards body)) t
      (hidden-stays (begun_now (with_open y None)) (opened set.shards body)) h
  plain-stays y (Some a) (asked.Try tries body) t h = h
  plain-stays y None asked.Step t h = h
  plain-stays y (Some a) asked.Step t h =
      by-stays (StepPasses set old (with_open y (Some a)) a) (StepPasses set new (with_open y (Some a)) a) t (step-stays (with_open y (Some a)) a) h
  plain-stays y None asked.Go t h = h
  plain-stays y (Some a) asked.Go t h =
      by-stays (HiddenEnd set old (with_open y (Some a)) a) (HiddenEnd set new (with_open y (Some a)) a) t (hidden-stays (with_open y (Some a)) a) h
  plain-stays y None asked.Drop t h = h
  plain-stays y (Some a) asked.Drop t h = h
  plain-stays y o (asked.Look body) t h = by-stays (LookPasses set old y.low body) (LookPasses set new y.low body) t (look-stays y.low body) h
  plain-stays y o (asked.At n body) t h = by-stays (AtPasses set old y.low n body) (AtPasses set new y.low n body) t (at-stays y.low n body) h
  plain-stays y o asked.Seen t h = by-stays (SeenPasses old y.low) (SeenPasses new y.low) t (seen-stays y.low) h
  plain-stays y o asked.Quit t h = h
  plain-stays y o asked.Quiet t h = h
  plain-stays y o (asked.Refused reason) t h = h
  plain-stays y o (asked.Watch name body) t h = absurd h
  plain-stays y o (asked.Unwatch name) t h = absurd h
  plain-stays y o asked.Sync t h = absurd h
  plain-stays y o asked.Wait t h = absurd h

  -- how far the client has come is the same
  step-same : (y : Story) (a : Attempt) (t : Turn) → By (StepPasses set old (with_open y (Some a)) a) t
      → attempting_after set new (holding y.attempting (Some a)) asked.Step t ≡ attempting_after set old (holding y.attempting (Some a)) asked.Step t
  step-same y a (turn.Replies (reply.Read address base ∷ [])) h = ap
      (λ (v : Value). holding y.attempting (Some (with_snap a address (record { base = base; value = v }))))
      (prefix-state old new base address grows h.1.within)
  step-same y a (turn.Replies (r ∷ [])) h = refl
  step-same y a t h = absurd h

  -- only a step that shows a read rests on the journal, and on a prefix that stays
  attempting-same : (y : Story) (o : Option Attempt) (l : Line) (t : Turn) (later : ShownList) → Passes set old (with_open y o) l t later
      → attempting_after set new (holding y.attempting o) l t ≡ attempting_after set old (holding y.attempting o) l t
  attempting-same y (Some a) asked.Step t later h = step-same y a t h.0
  attempting-same y None asked.Step t later h = refl
  attempting-same y None (asked.Begin body) t later h = refl
  attempting-same y (Some a) (asked.Begin body) t later h = refl
  attempting-same y None (asked.Try tries body) t later h = refl
  attempting-same y (Some a) (asked.Try tries body) t later h = refl
  attempting-same y None asked.Go t later h = refl
  attempting-same y (Some a) asked.Go t later h = refl
  attempting-same y o asked.Drop t later h = refl
  attempting-same y o asked.Quit t later h = refl
  attempting-same y o asked.Seen t later h = refl
  attempting-same y o (asked.Look body) t later h = refl
  attempting-same y o (asked.At n body) t later h = refl
  attempting-same y o asked.Quiet t later h = refl
  attempting-same y o (asked.Refused reason) t later h = refl
  attempting-same y o (asked.Watch name body) t later h = refl
  attempting-same y o (asked.Unwatch name) t later h = refl
  attempting-same y o asked.Sync t later h = refl
  attempting-same y o asked.Wait t later h = refl

  -- so it is of every story
  pub attempting-stays : (y : Story) (l : Line) (t : Turn) (later : ShownList) → Passes set old y l t later
      → attempting_after set new y.attempting l t ≡ attempting_after set old y.attempting l t
  attempting-stays y l t later h = attempting-same y y.attempting.attempt l t later h

  -- ---- watches

  module _ (could : CanRead old) (can : CanRead new) where
    -- reports stay
    goal-stays : (low : ℕ) (goal : Goal) (before later : ShownList) (replies : List Reply) → AreUpTo low before
        → GoalPasses set.window old low goal before replies later → GoalPasses set.window new low goal before replies later
    goal-stays low goal before later replies upto h = passing_stays set.window low goal before later replies old new upto could can grows h

    all-stay : (low : ℕ) (goal : Goal) (before later : ShownList) (t : Turn) → AreUpTo low before
        → ByAll (λ replies. GoalPasses set.window old low goal before replies later) t
        → ByAll (λ replies. GoalPasses set.window new low goal before replies later) t
    all-stay low goal before later (turn.Replies replies) upto h = goal-stays low goal before later replies upto h
    all-stay low goal before later t upto h = absurd h

    wait-stays : (y : Story) (t : Turn) (later : ShownList) → AreUpTo y.low y.watches → WaitPasses set old y t later → WaitPasses set new y t later
    wait-stays y turn.WaitWanted later upto h = h
    wait-stays y (turn.Replies replies) later upto h =
        goal-stays (y.low + 1) Goal.current y.watches later replies (up-to-more y.low (y.low + 1) y.watches (omega arith) upto) h
    wait-stays y t later upto h = absurd h

    -- each form of line
    pub passes-stays : (y : Story) (l : Line) (t : Turn) (later : ShownList) → AreUpTo y.low y.watches → Passes set old y l t later
        → Passes set new y l t later
    passes-stays y (asked.Watch name body) t later upto h = all-stay y.low (Goal.watch name body) y.watches later t upto h
    passes-stays y (asked.Unwatch name) t later upto h = h
    passes-stays y asked.Sync t later upto h = all-stay y.low Goal.current y.watches later t upto h
    passes-stays y asked.Wait t later upto h = wait-stays y t later upto h
    passes-stays y asked.Quiet t later upto h = (plain-stays y y.attempting.attempt asked.Quiet t h.0, h.1)
    passes-stays y (asked.Refused reason) t later upto h = (plain-stays y y.attempting.attempt (asked.Refused reason) t h.0, h.1)
    passes-stays y (asked.Begin body) t later upto h = (plain-stays y y.attempting.attempt (asked.Begin body) t h.0, h.1)
    passes-stays y (asked.Try tries body) t later upto h = (plain-stays y y.attempting.attempt (asked.Try tries body) t h.0, h.1)
    passes-stays y asked.Step t later upto h = (plain-stays y y.attempting.attempt asked.Step t h.0, h.1)
    passes-stays y asked.Go t later upto h = (plain-stays y y.attempting.attempt asked.Go t h.0, h.1)
    passes-stays y asked.Drop t later upto h = (plain-stays y y.attempting.attempt asked.Drop t h.0, h.1)
    passes-stays y (asked.Look body) t later upto h = (plain-stays y y.attempting.attempt (asked.Look body) t h.0, h.1)
    passes-stays y (asked.At n body) t later upto h = (plain-stays y y.attempting.attempt (asked.At n body) t h.0, h.1)
    passes-stays y asked.Seen t later upto h = (plain-stays y y.attempting.attempt asked.Seen t h.0, h.1)
    passes-stays y asked.Quit t later upto h = (plain-stays y y.attempting.attempt asked.Quit t h.0, h.1)

    -- the same story stands behind it
    pub story-same : (y : Story) (l : Line) (t : Turn) (later : ShownList) → Passes set old y l t later
        → story_after set new y l t later ≡ story_after set old y l t later
    story-same y l t later h = ap (λ (x : Attempting). record { low = low_after y.low l t; begun = begun_after y l t; attempting = x; watches = later })
        (attempting-stays y l t later h)

    -- line by line
    pub explains-stays : (y : Story) (ls : List Line) (ts : List Turn) → AreUpTo y.low y.watches → Explains set old y ls ts → Explains set new y ls ts
    explains-stays y [] [] upto h = tt
    explains-stays y (l ∷ ls) (t ∷ ts) upto h = record {
      later = h.later;
      passes = passes-stays y l t h.later upto h.passes;
      rest = subst (λ (z : Story). Explains set new z ls ts) (sym (story-same y l t h.later h.passes))
          (explains-stays (story_after set old y l t h.later) ls ts (reported-after set old y l t h.later upto h.passes) h.rest);
    }
    explains-stays y [] (t ∷ ts) upto h = h
    explains-stays y (l ∷ ls) [] upto h = h

-- for the lines that texts ask for
pub explains_stays : ExplainsStays
explains_stays set old new y texts turns could can grows upto h = explains-stays set old new grows could can y (map line_of texts) turns upto h
