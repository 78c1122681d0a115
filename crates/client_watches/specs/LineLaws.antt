-- What lines of watches keep to, whatever they are answered: laws of their programs.
use Rattle.std.specs.Prelude.{ℕ}
use Rattle.std.specs.List.{AllByRecursion}
use Rattle.plain_data.specs.Texts.{Bytes}
use Rattle.txn_lang.specs.declared.checked.Checked.{Checked}
use Rattle.txn_lang.specs.States.{Journal}
use Rattle.docc_prepare.specs.Calls.{Known}
use Rattle.call_programs.specs.Programs.{Program}
use Rattle.call_programs.specs.Safe.{IsSafe, AlwaysEnds, IsWithin}
use Rattle.client_watches.specs.declared.watching.Watching.{Watching}
use Rattle.client_watches.specs.Keeping.{AreDistinct, Keeps}
use Rattle.client_watches.specs.GoingOn.{WatchLine}
use Rattle.docc_prepare.specs.Readable.{CanReadOn}
use Rattle.client_watches.specs.Bounds.{most_calls}
use Rattle.client_watches.specs.Saying.{IsOfWatches}
use Rattle.client_watches.specs.Goals.{Goal}
use Rattle.client_watches.specs.Laws.{Attends, MayBeShown, Passes, Forgets}
use Rattle.client_watches.specs.Lines.{Told, sync, watch, unwatch}

-- the program of each line
abbrev pub program_of : WatchLine → Watching → Program Told
program_of WatchLine.sync w = sync w
program_of (WatchLine.watch name body) w = watch w name body
program_of (WatchLine.unwatch name) w = unwatch w name

-- Each call of a line may be made and is no wait, its program is stuck nowhere, and what is kept is kept to at its end.
abbrev pub LinesAreSafe : Type 0
LinesAreSafe = (k : Known) (w : Watching) (line : WatchLine) → Keeps k w → IsSafe k (program_of line w) (λ l told. Keeps l told.0)

-- No line asks more calls than the watches there are allow.
abbrev pub LinesAskFew : Type 0
LinesAskFew =
    (w : Watching) (line : WatchLine) → AreDistinct w.watches → IsWithin (most_calls line w) (program_of line w) (λ left told. Unit {0})

-- A line of watches ends with replies of watches alone, at no number that isn't seen then.
abbrev pub LinesSayWhatIsSeen : Type 0
LinesSayWhatIsSeen =
    (k : Known) (w : Watching) (line : WatchLine) → Keeps k w → AlwaysEnds k (program_of line w) (λ l told. AllByRecursion (IsOfWatches l.seen) told.1)

-- ---- what the journal explains, where the backend tells it

-- The replies to `sync` pass, and what is kept stands for the journal again.
abbrev pub SyncIsExplained : Type 0
SyncIsExplained =
    (k : Known) (w : Watching) (low : ℕ) (old : Journal) → Attends k w old → CanReadOn k.trusted old → MayBeShown k w low
    → AlwaysEnds k (sync w) (λ l told. Passes k l w told.0 low Goal.current told.1 old)

-- So do the replies to `watch`,
abbrev pub WatchIsExplained : Type 0
WatchIsExplained =
    (k : Known) (w : Watching) (name : Bytes) (body : Checked) (low : ℕ) (old : Journal) → Attends k w old → CanReadOn k.trusted old
    → MayBeShown k w low → AlwaysEnds k (watch w name body) (λ l told. Passes k l w told.0 low (Goal.watch name body) told.1 old)

-- and the reply to `unwatch`: the watch of the name is gone, and every other stands as it was.
abbrev pub UnwatchIsExplained : Type 0
UnwatchIsExplained =
    (k : Known) (w : Watching) (name : Bytes) (old : Journal) → Attends k w old → CanReadOn k.trusted old
    → AlwaysEnds k (unwatch w name) (λ l told. Forgets k l w told.0 name told.1 old)
