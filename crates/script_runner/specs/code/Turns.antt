-- What the loop of a run knows: of one line, of those so far, and of the end. The laws of proofs/Turns.antt,
-- proofs/Plays.antt and proofs/Promises.antt tie it to what a run promises.
use Rattle.std.specs.Prelude.{◌≡◌, ℕ, ◌⊎◌, Bool, true, false, List, [], ◌∷◌, ◌++◌, length, Option, IfSome, Result, Ok, Err}
use Rattle.plain_data.specs.declared.or_no_memory.OrNoMemory.{OrNoMemory}
use Rattle.plain_data.specs.declared.or_no_memory.OrNoMemory.TheVariants as stop
use Rattle.dio_core.specs.Told.{WhereTold}
use Rattle.dio_core.specs.Counts.{Rose, IsCounted}
use Rattle.dio_core.specs.Lines.{lines, BreaksOff}
use Rattle.dio_core.specs.Sinks.{with_more, TakesPrefix, IsPassedOn}
use Rattle.rdt_types.specs.declared.settings.Settings.{Settings}
use Rattle.txn_grammar.specs.Characters.{Text}
use Rattle.script_runner.specs.declared.status.TheConstants.{WHOLE, READ_FAULT, WRITE_FAULT, NO_MEMORY, TOO_MANY_LINES}
use Rattle.script_runner.specs.declared.stop.Cause.{Cause}
use Rattle.script_runner.specs.declared.stop.Cause.TheVariants as cause
use Rattle.script_runner.specs.Play.{ScriptWorld, played, world_after, reply_to}
use Rattle.script_runner.specs.Script.{Writing, IsPlayed, IsBrokenOff, HasTooManyLines, IsCutOff, IsCutOffBehindLine, HasPassedOn, TriesFlush}

-- What a run has at a moment: its world, what the source has left, and what the sink has taken.
pub record Moment : Type 0 where
  pub world : ScriptWorld
  pub left : Option Text
  pub taken : Option Text

abbrev pub moment : ScriptWorld → Option Text → Option Text → Moment
moment world left taken = record { world = world; left = left; taken = taken }

-- the run stops for a fault of its source
abbrev pub read_stopped : {A : Type 0} → Result A (OrNoMemory Cause) → Bool
read_stopped (Ok a) = false
read_stopped (Err stop.NoMemory) = false
read_stopped (Err (stop.Cause cause.ReadFault)) = true
read_stopped (Err (stop.Cause cause.WriteFault)) = false
read_stopped (Err (stop.Cause cause.TooManyLines)) = false

-- the run stops for a fault of its sink
abbrev pub write_stopped : {A : Type 0} → Result A (OrNoMemory Cause) → Bool
write_stopped (Ok a) = false
write_stopped (Err stop.NoMemory) = false
write_stopped (Err (stop.Cause cause.ReadFault)) = false
write_stopped (Err (stop.Cause cause.WriteFault)) = true
write_stopped (Err (stop.Cause cause.TooManyLines)) = false

-- the source's count of faults rises exactly where the run stops for one
abbrev pub CountsReads : {A : Type 0} → Result A (OrNoMemory Cause) → ℕ → ℕ → Type 0
CountsReads result faults faults_then = IsCounted (read_stopped result) faults faults_then

-- and so does the sink's
abbrev pub CountsWrites : {A : Type 0} → Result A (OrNoMemory Cause) → ℕ → ℕ → Type 0
CountsWrites result faults faults_then = IsCounted (write_stopped result) faults faults_then

-- a line broke off for want of memory, or for a fault of the source alone
abbrev pub StopsReading : OrNoMemory Cause → Option Text → Option Text → Type 0
StopsReading stop.NoMemory left left_then = BreaksOff left left_then
StopsReading (stop.Cause cause.ReadFault) left left_then = BreaksOff left left_then
StopsReading (stop.Cause cause.WriteFault) left left_then = ⊥
StopsReading (stop.Cause cause.TooManyLines) left left_then = ⊥

-- ---- one line

-- One line was read, done and answered.
pub record DoesLine (before after : Moment) (all rest : Text) : Type 0 where
  pub raw : Text
  pub read : lines all ≡ raw ∷ lines rest
  pub world : after.world ≡ world_after before.world raw
  pub output : after.taken ≡ with_more before.taken (reply_to before.world raw)

-- One line was read, and a prefix of its reply was taken.
pub record BeginsLine (before after : Moment) (all rest : Text) : Type 0 where
  pub raw : Text
  pub read : lines all ≡ raw ∷ lines rest
  pub output : TakesPrefix (reply_to before.world raw) before.taken after.taken

-- What a turn did: `true` says that there was a line.
abbrev pub Turns : Result Bool (OrNoMemory Cause) → Moment → Moment → Type 0
Turns (Ok true) before after = WhereTold (DoesLine before after) before.left after.left
Turns (Ok false) before after =
    WhereTold (λ all rest. (all ≡ []) × (rest ≡ [])) before.left after.left × (after.taken ≡ before.taken)
Turns (Err (stop.Cause cause.ReadFault)) before after = BreaksOff before.left after.left × (after.taken ≡ before.taken)
Turns (Err (stop.Cause cause.WriteFault)) before after = WhereTold (BeginsLine before after) before.left after.left
Turns (Err (stop.Cause cause.TooManyLines)) before after = ⊥
Turns (Err stop.NoMemory) before after =
    (BreaksOff before.left after.left × (after.taken ≡ before.taken)) ⊎ WhereTold (BeginsLine before after) before.left after.left

-- ---- many lines

-- So many lines of the input were read, done and answered, behind what was taken when the run began.
pub record HasPlayed (settings : Settings) (count : ℕ) (taken : Option Text) (now : Moment) (all rest : Text) : Type 0 where
  pub raws : List Text
  pub read : lines all ≡ raws ++ lines rest
  pub many : length raws ≡ count
  pub made : now.world ≡ (played settings raws).world
  pub output : now.taken ≡ with_more taken (played settings raws).output

-- the same of a source that may not tell what it has left
abbrev pub Plays : Settings → ℕ → Option Text → Option Text → Moment → Type 0
Plays settings count left taken now = WhereTold (HasPlayed settings count taken now) left now.left

-- how a run ended
abbrev pub Ends : {A : Type 0} → Settings → Result A (OrNoMemory Cause) → Option Text → Option Text → Text → Text → Type 0
Ends settings (Ok done) taken taken_then = IsPlayed settings taken taken_then
Ends settings (Err (stop.Cause cause.ReadFault)) taken taken_then = IsBrokenOff settings taken taken_then
Ends settings (Err (stop.Cause cause.TooManyLines)) taken taken_then = HasTooManyLines settings taken taken_then
Ends settings (Err (stop.Cause cause.WriteFault)) taken taken_then = IsCutOffBehindLine settings taken taken_then
Ends settings (Err stop.NoMemory) taken taken_then = IsCutOff settings taken taken_then

-- what a run did, of a source that may not tell what it has left
abbrev pub Ran : {A : Type 0} → Settings → Result A (OrNoMemory Cause) → Option Text → Option Text → Option Text → Option Text → Type 0
Ran settings result left taken left_then taken_then = WhereTold (Ends settings result taken taken_then) left left_then

-- how a run stopped for want of memory: between two answers
abbrev pub StopsBetween : {A : Type 0} → Settings → Result A (OrNoMemory Cause) → Option Text → Writing → Type 0
StopsBetween settings (Ok done) left w = Unit {0}
StopsBetween settings (Err (stop.Cause cause)) left w = Unit {0}
StopsBetween settings (Err stop.NoMemory) left w = IfSome left (HasPassedOn settings w)

-- ---- the end

-- all lines were read: a flush passed on what was taken, or it failed and was counted
abbrev pub ClosesWhole : ℕ → Writing → Type 0
ClosesWhole status w =
    ((status ≡ WHOLE) × (w.faults_then ≡ w.faults) × IsPassedOn w.taken_then w.passed_then)
    ⊎ ((status ≡ WRITE_FAULT) × Rose w.faults w.faults_then)

-- The status that a run answers whose lines ended so. A flush is tried unless a write failed or memory was wanting.
abbrev pub Closes : {A : Type 0} → Result A (OrNoMemory Cause) → ℕ → Writing → Type 0
Closes (Ok done) status w = ClosesWhole status w
Closes (Err (stop.Cause cause.ReadFault)) status w = (status ≡ READ_FAULT) × TriesFlush w
Closes (Err (stop.Cause cause.TooManyLines)) status w = (status ≡ TOO_MANY_LINES) × TriesFlush w
Closes (Err (stop.Cause cause.WriteFault)) status w = (status ≡ WRITE_FAULT) × (w.faults_then ≡ w.faults)
Closes (Err stop.NoMemory) status w = (status ≡ NO_MEMORY) × (w.faults_then ≡ w.faults)
