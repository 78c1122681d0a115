-- The numbers of a client's story: what is shown doesn't fall, an attempt's bases aren't below what was shown when it began, and no
-- watch was reported past what is shown.
use Rattle.std.proofs.Common.{◌≡◌, inl, inr, ℕ, ◌+◌, ◌≤◌, Bool, true, false, cond, List, [], ◌∷◌, ◌++◌, fold, Option, Some, None, refl, sym, subst, arith}
use Rattle.std.specs.Prelude.{IfSome}
use Rattle.std.specs.Map.{remove_entry}
use Rattle.std.specs.Str.{bytes_eq}
use Rattle.plain_data.specs.Texts.{Bytes}
use Rattle.rdt_types.specs.declared.address.Address.{Address}
use Rattle.rdt_types.specs.declared.outcome.Outcome.{Outcome}
use Rattle.session_text.specs.declared.reply.Reply.{Reply}
use Rattle.session_text.specs.declared.reply.Reply.TheVariants as reply
use Rattle.session_text.specs.declared.reply.Why.TheVariants as why
use Rattle.txn_lang.specs.declared.checked.Checked.{Checked}
use Rattle.txn_lang.specs.declared.snaps.Snap.{Snap}
use Rattle.txn_lang.specs.States.{Journal, state}
use Rattle.docc_prepare.specs.declared.attempt.Attempt.{Attempt}
use Rattle.docc_prepare.proofs.EachRead.{each-inserted}
use Rattle.client_watches.specs.Explained.{Shown, ShownList, Reports, IsCutShort, IsMade, SyncPasses, IsRefused, WatchPasses, UnwatchPasses}
use Rattle.client_watches.proofs.Kept.{each-append}
use Rattle.client_watches.proofs.Stays.{AreUpTo}
use Rattle.client_watches.proofs.Telling.{up-to-more}
use Rattle.session_core.specs.declared.line.Line.{Line}
use Rattle.session_core.specs.declared.line.Line.TheVariants as asked
use Rattle.session_core.specs.declared.turn.Turn.{Turn}
use Rattle.session_core.specs.declared.turn.Turn.TheVariants as turn
use Rattle.session_core.specs.Explained.{Setting, Story, StepPasses, By, ByAll, WaitPasses, Passes, low_by, looked_at, replies_in, low_after, holding}
use Rattle.session_core.specs.Explained.{attempting_after, begun_if, begun_after, story_after, AreFrom, AreReported}

-- ---- the story goes on

-- a reply shows a number that isn't below the greatest, or none
low-up : (low : ℕ) (r : Reply) → low ≤ low_by low r
low-up low (reply.Seen n) = omega arith
low-up low (reply.Followed shard front) = omega arith
low-up low (reply.Read address base) = omega arith
low-up low (reply.Prepared shard front) = omega arith
low-up low (reply.Commit n outcome) = omega arith
low-up low (reply.Abort w) = omega arith
low-up low (reply.Held client number) = omega arith
low-up low (reply.Full limit) = omega arith
low-up low (reply.Ran name n outcome) = omega arith
low-up low (reply.Current n) = omega arith
low-up low (reply.Ahead n m) = omega arith
low-up low r = omega arith

-- the same of a look
looked-up : (low : ℕ) (r : Reply) → low ≤ looked_at low r
looked-up low (reply.At n outcome) = omega arith
looked-up low (reply.Seen n) = omega arith
looked-up low (reply.Followed shard front) = omega arith
looked-up low (reply.Read address base) = omega arith
looked-up low (reply.Prepared shard front) = omega arith
looked-up low (reply.Commit n outcome) = omega arith
looked-up low (reply.Abort w) = omega arith
looked-up low (reply.Held client number) = omega arith
looked-up low (reply.Full limit) = omega arith
looked-up low (reply.Ran name n outcome) = omega arith
looked-up low (reply.Current n) = omega arith
looked-up low (reply.Ahead n m) = omega arith
looked-up low r = omega arith

-- reply by reply
all-up : (f : ℕ → Reply → ℕ) → ((low : ℕ) (r : Reply) → low ≤ f low r) → (low : ℕ) (rs : List Reply) → low ≤ fold f low rs
all-up f up low [] = omega arith
all-up f up low (r ∷ rs) = let one = up low r in let rest = all-up f up (f low r) rs in omega arith

-- the greatest number that was shown doesn't fall
line-up : (low : ℕ) (l : Line) (t : Turn) → low ≤ low_after low l t
line-up low (asked.Look body) t = all-up looked_at looked-up low (replies_in t)
line-up low (asked.At n body) t = all-up low_by low-up low (replies_in t)
line-up low (asked.Begin body) t = all-up low_by low-up low (replies_in t)
line-up low (asked.Try tries body) t = all-up low_by low-up low (replies_in t)
line-up low (asked.Refused reason) t = all-up low_by low-up low (replies_in t)
line-up low asked.Step t = all-up low_by low-up low (replies_in t)
line-up low asked.Go t = all-up low_by low-up low (replies_in t)
line-up low asked.Drop t = all-up low_by low-up low (replies_in t)
line-up low asked.Seen t = all-up low_by low-up low (replies_in t)
line-up low asked.Quit t = all-up low_by low-up low (replies_in t)
line-up low asked.Quiet t = all-up low_by low-up low (replies_in t)
line-up low (asked.Watch name body) t = all-up low_by low-up low (replies_in t)
line-up low (asked.Unwatch name) t = all-up low_by low-up low (replies_in t)
line-up low asked.Sync t = all-up low_by low-up low (replies_in t)
line-up low asked.Wait t = all-up low_by low-up low (replies_in t)

-- an attempt begins at what is shown then, which doesn't fall
pub begun-below : (y : Story) (l : Line) (t : Turn) → y.begun ≤ y.low → begun_after y l t ≤ low_after y.low l t
begun-below y (asked.Begin body) t h = by y.attempting.attempt
  where
    by : (o : Option Attempt) → begun_if o (low_after y.low (asked.Begin body) t) y.begun ≤ low_after y.low (asked.Begin body) t
    by None = omega arith
    by (Some a) = let up = line-up y.low (asked.Begin body) t in omega arith
begun-below y (asked.Try tries body) t h = let up = line-up y.low (asked.Try tries body) t in omega arith
begun-below y (asked.Look body) t h = let up = line-up y.low (asked.Look body) t in omega arith
begun-below y (asked.At n body) t h = let up = line-up y.low (asked.At n body) t in omega arith
begun-below y (asked.Refused reason) t h = let up = line-up y.low (asked.Refused reason) t in omega arith
begun-below y asked.Step t h = let up = line-up y.low asked.Step t in omega arith
begun-below y asked.Go t h = let up = line-up y.low asked.Go t in omega arith
begun-below y asked.Drop t h = let up = line-up y.low asked.Drop t in omega arith
begun-below y asked.Seen t h = let up = line-up y.low asked.Seen t in omega arith
begun-below y asked.Quit t h = let up = line-up y.low asked.Quit t in omega arith
begun-below y asked.Quiet t h = let up = line-up y.low asked.Quiet t in omega arith
begun-below y (asked.Watch name body) t h = let up = line-up y.low (asked.Watch name body) t in omega arith
begun-below y (asked.Unwatch name) t h = let up = line-up y.low (asked.Unwatch name) t in omega arith
begun-below y asked.Sync t h = let up = line-up y.low asked.Sync t in omega arith
begun-below y asked.Wait t h = let up = line-up y.low asked.Wait t in omega arith

-- ---- the bases of an attempt

module _ (set : Setting) (journal : Journal) (y : Story) (before : y.begun ≤ y.low) where
  abbrev with_open : Option Attempt → Story
  with_open o = record y { attempting = holding y.attempting o }

  -- the bases of an attempt that is stepped
  step-from : (a : Attempt) (t : Turn) → AreFrom y.begun a → By (StepPasses set journal (with_open (Some a)) a) t
      → IfSome (attempting_after set journal (holding y.attempting (Some a)) asked.Step t).attempt (AreFrom y.begun)
  step-from a (turn.Replies (reply.Read address base ∷ [])) from h =
      each-inserted (λ (read : Address × Snap). y.begun ≤ read.1.base) a.snaps address (record { base = base; value = state journal base address })
      (let up = h.1.not_back in omega arith) from
  step-from a (turn.Replies (reply.Prepared shard front ∷ [])) from h = from
  step-from a (turn.Replies (r ∷ [])) from h = tt
  step-from a t from h = absurd h

  -- a new attempt has no base, and a base that is shown isn't below what was
  from-by : (o : Option Attempt) (l : Line) (t : Turn) (later : ShownList) → IfSome o (AreFrom y.begun) → Passes set journal (with_open o) l t later
      → IfSome (attempting_after set journal (holding y.attempting o) l t).attempt (AreFrom (begun_after (with_open o) l t))
  from-by None (asked.Begin body) t later from h = tt
  from-by (Some a) (asked.Begin body) t later from h = from
  from-by None (asked.Try tries body) (turn.Replies (r ∷ rs)) later from h = tt
  from-by None (asked.Try tries body) t later from h = tt
  from-by (Some a) (asked.Try tries body) t later from h = from
  from-by None asked.Step t later from h = tt
  from-by (Some a) asked.Step t later from h = step-from a t from h.0
  from-by None asked.Go t later from h = tt
  from-by (Some a) asked.Go (turn.Replies (r ∷ rs)) later from h = tt
  from-by (Some a) asked.Go t later from h = absurd h.0
  from-by o asked.Drop t later from h = tt
  from-by o asked.Quit t later from h = tt
  from-by o asked.Seen t later from h = from
  from-by o (asked.Look body) t later from h = from
  from-by o (asked.At n body) t later from h = from
  from-by o asked.Quiet t later from h = from
  from-by o (asked.Refused reason) t later from h = from
  from-by o (asked.Watch name body) t later from h = from
  from-by o (asked.Unwatch name) t later from h = from
  from-by o asked.Sync t later from h = from
  from-by o asked.Wait t later from h = from

  -- by what the line asks for
  pub from-on : (l : Line) (t : Turn) (later : ShownList) → IfSome y.attempting.attempt (AreFrom y.begun) → Passes set journal y l t later
      → IfSome (attempting_after set journal y.attempting l t).attempt (AreFrom (begun_after y l t))
  from-on l t later from h = from-by y.attempting.attempt l t later from h

-- ---- the numbers of reports

-- a reply that is shown raises what is shown to its number
ran-up : (low : ℕ) (name : Bytes) (n : ℕ) (outcome : Outcome) → n ≤ low_by low (reply.Ran name n outcome)
ran-up low name n outcome = omega arith

-- each watch that was reported shows its number
reports-up : (journal : Journal) (n low : ℕ) (before later : ShownList) (replies rest : List Reply) → Reports journal n before replies later
    → AreUpTo low before → AreUpTo (fold low_by low (replies ++ rest)) later
reports-up journal n low before later replies rest Reports.no_more upto =
    up-to-more low (fold low_by low rest) before (all-up low_by low-up low rest) upto
reports-up journal n low before later replies rest (Reports.untouched {watches = watches} {later = more} name watch none rest_of) upto =
    let up = all-up low_by low-up low (replies ++ rest) in let first = upto.0 in
    (omega arith, reports-up journal n low watches more replies rest rest_of upto.1)
reports-up journal n low before later replies rest
    (Reports.reports {watches = watches} {later = more} {replies = said} name watch outcome touched is rest_of) upto =
    let next = low_by low (reply.Ran name n outcome) in
    let up = all-up low_by low-up next (said ++ rest) in let at = ran-up low name n outcome in
    (omega arith, reports-up journal n next watches more said rest rest_of (up-to-more low next watches (low-up low (reply.Ran name n outcome)) upto.1))

-- what is shown behind some replies and one more
fold-more : (low : ℕ) (xs : List Reply) (r : Reply) → fold low_by low (xs ++ r ∷ []) ≡ low_by (fold low_by low xs) r
fold-more low [] r = refl
fold-more low (x ∷ xs) r = fold-more (low_by low x) xs r

module _ (window : ℕ) (journal : Journal) (low shown : ℕ) (before later : ShownList) (upto : AreUpTo shown before) where
  -- reports and a value that was late
  cut-up : (replies : List Reply) → IsCutShort window journal low before replies later → AreUpTo (fold low_by shown replies) later
  cut-up replies is = subst (λ (rs : List Reply). AreUpTo (fold low_by shown rs) later) (sym is.replies_are)
      (reports-up journal is.n shown before later is.prefix (reply.Late is.n is.horizon ∷ []) is.reports upto)

  -- each reply to `sync` that passes
  sync-up : (replies : List Reply) → SyncPasses window journal low before replies later → AreUpTo (fold low_by shown replies) later
  sync-up replies (inl is) = subst (λ (rs : List Reply). AreUpTo (fold low_by shown rs) later) (sym is.replies_are)
      (reports-up journal is.n shown before later is.prefix (reply.Current is.n ∷ []) is.reports upto)
  sync-up replies (inr is) = cut-up replies is.cut

  -- a new watch is the last, and its first report the last reply
  made-up : (name : Bytes) (body : Checked) (replies : List Reply) → IsMade journal low name body before replies later
      → AreUpTo (fold low_by shown replies) later
  made-up name body replies is = subst (λ (rs : List Reply). AreUpTo (fold low_by shown rs) later) (sym is.replies_are)
      (subst (AreUpTo (fold low_by shown (is.prefix ++ last ∷ []))) (sym is.later_are)
      (each-append (λ (entry : Bytes × Shown). entry.1.number ≤ fold low_by shown (is.prefix ++ last ∷ [])) is.others
      ((name, record { body = body; number = is.n }) ∷ [])
      (reports-up journal is.n shown before is.others is.prefix (last ∷ []) is.reports upto)
      (subst (λ (n : ℕ). is.n ≤ n) (sym (fold-more shown is.prefix last)) (ran-up (fold low_by shown is.prefix) name is.n is.outcome), tt)))
    where
      last : Reply
      last = reply.Ran name is.n is.outcome

  -- where nothing is done
  same-up : (replies why_not : List Reply) → IsRefused why_not before replies later → AreUpTo (fold low_by shown replies) later
  same-up replies why_not is = subst (AreUpTo (fold low_by shown replies)) (sym is.same)
      (up-to-more shown (fold low_by shown replies) before (all-up low_by low-up shown replies) upto)

  -- each reply to `watch` that passes
  watch-up : (name : Bytes) (body : Checked) (replies : List Reply) → WatchPasses window journal low name body before replies later
      → AreUpTo (fold low_by shown replies) later
  watch-up name body replies (inl is) = same-up replies (reply.Refused why.Name ∷ []) is.1
  watch-up name body replies (inr (free, inl is)) = made-up name body replies is
  watch-up name body replies (inr (free, inr is)) = cut-up replies is

  -- a watch less
  removed-up : (n : ℕ) (name : Bytes) (ws : ShownList) → AreUpTo n ws → AreUpTo n (remove_entry (bytes_eq name) ws)
  removed-up n name [] all = tt
  removed-up n name (x ∷ ws) all = by (bytes_eq name x.0) (removed-up n name ws all.1)
    where
      by : (b : Bool) → AreUpTo n (remove_entry (bytes_eq name) ws) → AreUpTo n (cond b ws (x ∷ remove_entry (bytes_eq name) ws))
      by true rest = all.1
      by false rest = (all.0, rest)

  -- one watch fewer, and no number has changed
  unwatch-up : (name : Bytes) (replies : List Reply) → UnwatchPasses name before replies later → AreUpTo (fold low_by shown replies) later
  unwatch-up name replies (inl is) = same-up replies (reply.Refused why.NoAttempt ∷ []) is.1
  unwatch-up name replies (inr is) = subst (AreUpTo (fold low_by shown replies)) (sym is.others)
      (removed-up (fold low_by shown replies) name before
      (up-to-more shown (fold low_by shown replies) before (all-up low_by low-up shown replies) upto))

-- replies that pass
all-up-to : (P : List Reply → Type 0) (low : ℕ) (later : ShownList) (t : Turn)
    → ((replies : List Reply) → P replies → AreUpTo (fold low_by low replies) later) → ByAll P t → AreUpTo (fold low_by low (replies_in t)) later
all-up-to P low later (turn.Replies replies) each h = each replies h
all-up-to P low later t each h = absurd h

-- a line that is to wait shows nothing; one that has waited is a `sync` past what was seen
wait-up : (set : Setting) (journal : Journal) (y : Story) (t : Turn) (later : ShownList) → AreReported y → WaitPasses set journal y t later
    → AreUpTo (fold low_by y.low (replies_in t)) later
wait-up set journal y turn.WaitWanted later upto h = subst (AreUpTo y.low) (sym h) upto
wait-up set journal y (turn.Replies replies) later upto h = sync-up set.window journal (y.low + 1) y.low y.watches later upto replies h
wait-up set journal y t later upto h = absurd h

-- the watches are as they were
same-after : (y : Story) (l : Line) (t : Turn) (later : ShownList) → AreReported y → later ≡ y.watches → AreUpTo (low_after y.low l t) later
same-after y l t later upto same =
    subst (AreUpTo (low_after y.low l t)) (sym same) (up-to-more y.low (low_after y.low l t) y.watches (line-up y.low l t) upto)

-- behind a line that passes no watch was reported past what is shown then
pub reported-after : (set : Setting) (journal : Journal) (y : Story) (l : Line) (t : Turn) (later : ShownList) → AreReported y
    → Passes set journal y l t later → AreReported (story_after set journal y l t later)
reported-after set journal y (asked.Watch name body) t later upto h = all-up-to
    (λ replies. WatchPasses set.window journal y.low name body y.watches replies later) y.low later t
    (watch-up set.window journal y.low y.low y.watches later upto name body) h
reported-after set journal y (asked.Unwatch name) t later upto h = all-up-to (λ replies. UnwatchPasses name y.watches replies later) y.low later t
    (unwatch-up set.window journal y.low y.low y.watches later upto name) h
reported-after set journal y asked.Sync t later upto h = all-up-to (λ replies. SyncPasses set.window journal y.low y.watches replies later) y.low later t
    (sync-up set.window journal y.low y.low y.watches later upto) h
reported-after set journal y asked.Wait t later upto h = wait-up set journal y t later upto h
reported-after set journal y asked.Quiet t later upto h = same-after y asked.Quiet t later upto h.1
reported-after set journal y (asked.Refused reason) t later upto h = same-after y (asked.Refused reason) t later upto h.1
reported-after set journal y (asked.Begin body) t later upto h = same-after y (asked.Begin body) t later upto h.1
reported-after set journal y (asked.Try tries body) t later upto h = same-after y (asked.Try tries body) t later upto h.1
reported-after set journal y asked.Step t later upto h = same-after y asked.Step t later upto h.1
reported-after set journal y asked.Go t later upto h = same-after y asked.Go t later upto h.1
reported-after set journal y asked.Drop t later upto h = same-after y asked.Drop t later upto h.1
reported-after set journal y (asked.Look body) t later upto h = same-after y (asked.Look body) t later upto h.1
reported-after set journal y (asked.At n body) t later upto h = same-after y (asked.At n body) t later upto h.1
reported-after set journal y asked.Seen t later upto h = same-after y asked.Seen t later upto h.1
reported-after set journal y asked.Quit t later upto h = same-after y asked.Quit t later upto h.1
