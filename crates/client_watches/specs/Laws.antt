-- What a line leaves where the journal is told: its replies pass, and what is kept stands for the journal again.
use Rattle.std.specs.Prelude.{◌≡◌, ℕ, ◌≤◌, List, length, Some}
use Rattle.plain_data.specs.Texts.{Bytes}
use Rattle.std.specs.List.{AllByRecursion}
use Rattle.session_text.specs.declared.reply.Reply.{Reply}
use Rattle.txn_lang.specs.States.{Journal}
use Rattle.docc_prepare.specs.Calls.{Known}
use Rattle.docc_prepare.specs.Backends.{IsPrefix, IsLater}
use Rattle.client_watches.specs.declared.watching.Watching.{Watching}
use Rattle.client_watches.specs.Watching.{none_yet}
use Rattle.client_watches.specs.Keeping.{Keeps}
use Rattle.client_watches.specs.Standing.{Subscribes, Stands}
use Rattle.docc_prepare.specs.Readable.{CanRead, CanReadOn}
use Rattle.client_watches.specs.Goals.{Goal}
use Rattle.client_watches.specs.Explained.{Shown, ShownList, shown_of, GoalPasses, UnwatchPasses}

-- what is kept stands for the journal that the backend tells
pub record Attends (k : Known) (w : Watching) (journal : Journal) : Type 0 where
  pub told : k.journal ≡ Some journal
  pub keeps : Keeps k w
  pub subscribes : Subscribes k w
  pub stands : Stands journal w
  pub can : CanRead journal

-- what replies may have shown: no number above what was seen, and the number of each watch's last report
pub record MayBeShown (k : Known) (w : Watching) (low : ℕ) : Type 0 where
  pub seen : low ≤ k.seen
  pub reported : AllByRecursion (λ (entry : Bytes × Shown). entry.1.number ≤ low) (shown_of w.watches)

-- a journal that has grown, for which what is kept stands then
pub record GoesOn (k l : Known) (v : Watching) (old new : Journal) : Type 0 where
  pub grows : IsPrefix old new
  pub attends : Attends l v new

-- the line's replies pass
pub record Passes (k l : Known) (w v : Watching) (low : ℕ) (goal : Goal) (said : List Reply) (old : Journal) : Type 0 where
  pub new : Journal
  pub goes_on : GoesOn k l v old new
  pub passes : GoalPasses k.window new low goal (shown_of w.watches) said (shown_of v.watches)

-- Replies that pass stay passing when the journal grows, where no watch was reported past what was shown.
abbrev pub PassingStays : Type 0
PassingStays =
    (window low : ℕ) (goal : Goal) (before later : ShownList) (said : List Reply) (old new : Journal)
    → AllByRecursion (λ (entry : Bytes × Shown). entry.1.number ≤ low) before → CanRead old → CanRead new → IsPrefix old new
    → GoalPasses window old low goal before said later → GoalPasses window new low goal before said later

-- A client without watches stands for every journal that can be read; and where nothing is taken on trust, that is every one.
pub record BeginningsAttend : Type 0 where
  pub none : (k : Known) (journal : Journal) (at : ℕ) → k.journal ≡ Some journal → at ≤ k.seen → at ≤ length journal → CanRead journal
      → Attends k (none_yet at) journal
  pub readable : (journal : Journal) → CanReadOn 0 journal

-- the replies of `unwatch` pass
pub record Forgets (k l : Known) (w v : Watching) (name : Bytes) (said : List Reply) (old : Journal) : Type 0 where
  pub new : Journal
  pub goes_on : GoesOn k l v old new
  pub passes : UnwatchPasses name (shown_of w.watches) said (shown_of v.watches)

-- What others do between lines leaves what is kept standing for the journal.
abbrev pub OthersLeaveStanding : Type 0
OthersLeaveStanding =
    (k l : Known) (w : Watching) (old new : Journal) → Attends k w old → CanReadOn k.trusted old → IsLater k l → l.journal ≡ Some new
    → GoesOn k l w old new
