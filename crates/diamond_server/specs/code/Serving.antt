-- What the loop of a session over a link knows of what is held back, of one line, of those so far, and of the end. The laws of
-- proofs/Lines tie a line and those so far to `Talks` of specs/Talking and the end to `IsServed` and `IsCutShort` of specs/Promises; `keeps_promises` of
-- proofs/Promises ties the end and its status to `KeepsPromises`, and `tells_fault` to `TellsStoreFault`.
use Rattle.std.specs.Prelude.{◌≡◌, ℕ, ◌⊎◌, Bool, true, false, List, [], ◌++◌, length, drop, Option, Some, None, Result, Ok, Err}
use Rattle.plain_data.specs.declared.or_no_memory.OrNoMemory.{OrNoMemory}
use Rattle.plain_data.specs.declared.or_no_memory.OrNoMemory.TheVariants as stop
use Rattle.dio_core.specs.Told.{WhereTold}
use Rattle.dio_core.specs.Counts.{Rose}
use Rattle.dio_core.specs.declared.line.Line.{Line}
use Rattle.dio_core.specs.declared.line.Line.TheVariants as line
use Rattle.dio_core.specs.Lines.{TakesLine, BreaksOff}
use Rattle.dio_core.specs.Links.{Both, Outgoing}
use Rattle.dio_core.specs.Sinks.{TakesPrefix, IsPassedOn}
use Rattle.txn_grammar.specs.Characters.{Text}
use Rattle.docc_prepare.specs.Calls.{Known, Call, Answer}
use Rattle.docc_prepare.specs.Backends.{Goes}
use Rattle.call_programs.specs.Programs.{Program, Leads}
use Rattle.session_core.specs.declared.error.SessionError.{SessionError}
use Rattle.session_core.specs.declared.error.SessionError.TheVariants as error
use Rattle.session_core.specs.declared.session.Session.{Session}
use Rattle.session_core.specs.declared.turn.Turn.{Turn}
use Rattle.session_core.specs.LinePrograms.{sync}
use Rattle.script_runner.specs.declared.status.TheConstants.{WHOLE, READ_FAULT, WRITE_FAULT, NO_MEMORY, TOO_MANY_LINES}
use Rattle.diamond_server.specs.declared.status.TheConstants.{STORE_FAULT}
use Rattle.diamond_server.specs.declared.status.Cause.{Cause}
use Rattle.diamond_server.specs.declared.status.Cause.TheVariants as cause
use Rattle.diamond_server.specs.declared.ongoing.Ongoing.{Ongoing}
use Rattle.diamond_server.specs.Talking.{Told, Does, Talks, HasBegun, MayBegin, first_session, printed, output, line_told}
use Rattle.diamond_server.specs.Promises.{HasRead, ReadsToTheEnd, ReadsUpToAFault, ReadsOneMore, ReadsNext, TakesPart, TakesWhole, IsServed, IsCutShort}

abbrev pub Stop : Type 0
Stop = OrNoMemory Cause

-- an error of a line ends the session over the link
abbrev pub stop_of : SessionError → Stop
stop_of error.StoreFault = stop.Cause cause.StoreFault
stop_of error.NoMemory = stop.NoMemory

-- the status of a session whose lines ended so
abbrev pub status_of : Result (Unit {0}) Stop → ℕ
status_of (Ok done) = WHOLE
status_of (Err stop.NoMemory) = NO_MEMORY
status_of (Err (stop.Cause cause.ReadFault)) = READ_FAULT
status_of (Err (stop.Cause cause.WriteFault)) = WRITE_FAULT
status_of (Err (stop.Cause cause.StoreFault)) = STORE_FAULT
status_of (Err (stop.Cause cause.TooManyLines)) = TOO_MANY_LINES

-- ---- reading

-- it stops for a fault of the link's reads
abbrev pub read_stopped : {A : Type 0} → Result A Stop → Bool
read_stopped (Ok a) = false
read_stopped (Err stop.NoMemory) = false
read_stopped (Err (stop.Cause cause.ReadFault)) = true
read_stopped (Err (stop.Cause cause.WriteFault)) = false
read_stopped (Err (stop.Cause cause.StoreFault)) = false
read_stopped (Err (stop.Cause cause.TooManyLines)) = false

-- a line broke off for want of memory, or for a fault of the link alone
abbrev pub StopsReading : Stop → Option Text → Option Text → Type 0
StopsReading stop.NoMemory left left_then = BreaksOff left left_then
StopsReading (stop.Cause cause.ReadFault) left left_then = BreaksOff left left_then
StopsReading (stop.Cause cause.WriteFault) left left_then = ⊥
StopsReading (stop.Cause cause.StoreFault) left left_then = ⊥
StopsReading (stop.Cause cause.TooManyLines) left left_then = ⊥

-- ---- holding back

-- Of what was held back a link has taken some first bytes, and the others are held back still. What had all been passed on still is.
pub record HoldsBack (x : Outgoing) (held : Text) (y : Outgoing) (after : Text) : Type 0 where
  pub part : TakesPrefix held x.taken y.taken
  pub rest : after ≡ drop part.0 held
  pub flushed : IsPassedOn x.taken x.passed → IsPassedOn y.taken y.passed
  pub writes : y.faults ≡ x.faults

-- a write or the flush has failed, behind some first bytes
pub record CutsOff (x : Outgoing) (held : Text) (y : Outgoing) : Type 0 where
  pub part : TakesPrefix held x.taken y.taken
  pub rose : Rose x.faults y.faults

-- what was held back is passed on, or that has failed
abbrev pub PassesOn : Bool → Outgoing → Text → Outgoing → Type 0
PassesOn true x held y = HoldsBack x held y []
PassesOn false x held y = (held ≡ [] → ⊥) × CutsOff x held y

-- the line's outcome stands
pub record Stands (outcome result : Result Bool Stop) (x : Outgoing) (held : Text) (y : Outgoing) (after : Text) : Type 0 where
  pub is : result ≡ outcome
  pub holds : HoldsBack x held y after
  pub emptied : held ≡ [] → after ≡ []

-- or a write has failed, where there was something to be written, and nothing is held back any more
pub record FailsToWrite (x : Outgoing) (held : Text) (y : Outgoing) (after : Text) (result : Result Bool Stop) : Type 0 where
  pub is : result ≡ Err (stop.Cause cause.WriteFault)
  pub some : held ≡ [] → ⊥
  pub cuts : CutsOff x held y
  pub emptied : after ≡ []

-- What becomes of a line's outcome where what is held back may be passed on.
abbrev pub Settles : Result Bool Stop → Result Bool Stop → Outgoing → Text → Outgoing → Text → Type 0
Settles outcome result x held y after = Stands outcome result x held y after ⊎ FailsToWrite x held y after result

-- ---- finding a line

-- the next line was at hand, or none was
abbrev pub IsAtHand : Option Line → Option Text → Option Text → Type 0
IsAtHand None left left_then = left_then ≡ left
IsAtHand (Some l) left left_then = (l ≡ line.End → ⊥) × TakesLine l left left_then

-- A line was found; where the input has ended nothing is held back.
pub record Finds (l : Line) (x : Both) (held : Text) (y : Both) (after : Text) : Type 0 where
  pub read : TakesLine l x.inwards.left y.inwards.left
  pub reads : y.inwards.faults ≡ x.inwards.faults
  pub holds : HoldsBack x.outwards held y.outwards after
  pub emptied : l ≡ line.End → after ≡ []

-- a read failed in it, behind what was held back
pub record BreaksOffIn (x : Both) (held : Text) (y : Both) (after : Text) : Type 0 where
  pub breaks : BreaksOff x.inwards.left y.inwards.left
  pub reads : Rose x.inwards.faults y.inwards.faults
  pub holds : HoldsBack x.outwards held y.outwards after
  pub emptied : after ≡ []

-- memory was wanting for it, and what was read of it is lost
pub record LosesLine (x : Both) (held : Text) (y : Both) (after : Text) : Type 0 where
  pub read : WhereTold (ReadsNext None) x.inwards.left y.inwards.left
  pub reads : y.inwards.faults ≡ x.inwards.faults
  pub holds : HoldsBack x.outwards held y.outwards after

-- what was held back could not be written, and nothing was read
pub record LeavesLine (x : Both) (held : Text) (y : Both) (after : Text) : Type 0 where
  pub read : y.inwards.left ≡ x.inwards.left
  pub reads : y.inwards.faults ≡ x.inwards.faults
  pub cuts : CutsOff x.outwards held y.outwards
  pub emptied : after ≡ []

-- the counts of a link stood
abbrev pub SameCounts : Both → Both → Type 0
SameCounts x y = (y.inwards.faults ≡ x.inwards.faults) × (y.outwards.faults ≡ x.outwards.faults)

-- what a look for the next line comes to
abbrev pub FindsLine : Result Line Stop → Both → Text → Both → Text → Type 0
FindsLine (Ok l) x held y after = Finds l x held y after
FindsLine (Err stop.NoMemory) x held y after = LosesLine x held y after
FindsLine (Err (stop.Cause cause.ReadFault)) x held y after = BreaksOffIn x held y after
FindsLine (Err (stop.Cause cause.WriteFault)) x held y after = LeavesLine x held y after
FindsLine (Err (stop.Cause cause.StoreFault)) x held y after = ⊥
FindsLine (Err (stop.Cause cause.TooManyLines)) x held y after = ⊥

-- ---- answering

-- a line that is to wait is woken, and goes on as `sync` does
pub record Wakes {B : Type 0} (known : B → Known) (goes : B → Call → Answer → B → Type 0) (old : B) (s : Session) (said : Turn) (new : B)
    (t : Session) : Type 0 where
  pub woke : B
  pub waits : Goes known goes old Call.wait Answer.done woke
  pub syncs : Leads (Goes known goes) woke (sync s) new (Program.ends (t, said))

-- it isn't waited for, or in vain; or it is woken, and some first calls of `sync` are made
pub data MayWake {B : Type 0} (known : B → Known) (goes : B → Call → Answer → B → Type 0) (old : B) (s : Session) (new : B) : Type 0 where
  asleep : new ≡ old → MayWake known goes old s new
  unwoken : (by_fault : Bool) → Goes known goes old Call.wait (Answer.failed by_fault) new → MayWake known goes old s new
  woken : (woke : B) → Goes known goes old Call.wait Answer.done woke → HasBegun (Goes known goes) woke (sync s) new
      → MayWake known goes old s new

-- a session goes on or not
abbrev pub kept : Bool → Session → Option Session
kept true s = Some s
kept false s = None

-- A line is answered by a text, behind what is held back; and the session goes on or not.
pub record Replies {B : Type 0} (known : B → Known) (goes : B → Call → Answer → B → Type 0) (old : B) (s : Session) (l : Line) (x : Outgoing)
    (held : Text) (goes_on : Bool) (new : B) (t : Session) (y : Outgoing) (after : Text) : Type 0 where
  pub told : Told
  pub line_is : line_told told ≡ l
  pub does : Does known goes old s told new (kept goes_on t)
  pub holds : HoldsBack x (held ++ printed told) y after

-- the text of a line, if the session is asked for it
abbrev pub text_of : Line → Option Text
text_of (line.Bytes text) = Some text
text_of line.TooLong = None
text_of line.End = None

-- What an error says of what is held back and of the store's count, where nothing was read and so much has begun.
abbrev pub StopsBy : Stop → Type 0 → ℕ → ℕ → Outgoing → Text → Outgoing → Text → Type 0
StopsBy stop.NoMemory Began store store_then x held y after = Began × HoldsBack x held y after × (store_then ≡ store)
StopsBy (stop.Cause cause.StoreFault) Began store store_then x held y after = Began × HoldsBack x held y after × Rose store store_then
StopsBy (stop.Cause cause.WriteFault) Began store store_then x held y after = Began × CutsOff x held y × (after ≡ [])
StopsBy (stop.Cause cause.ReadFault) Began store store_then x held y after = ⊥
StopsBy (stop.Cause cause.TooManyLines) Began store store_then x held y after = ⊥

-- ---- the same of a session that goes on over a link

-- a line of the session was begun, or none was
abbrev pub MayBeginIn : {B : Type 0} → (B → Known) → (B → Call → Answer → B → Type 0) → B → Session → Option Text → B → Type 0
MayBeginIn known goes old s text new = MayBegin known goes old (Some s) text new

-- of what was held back some first bytes were taken
abbrev pub HoldsOver : Both → Ongoing → Both → Ongoing → Type 0
HoldsOver x s y t = HoldsBack x.outwards s.held y.outwards t.held

-- what an error says, where so much has begun
abbrev pub StopsOver : Stop → Type 0 → Known → Both → Ongoing → Known → Both → Ongoing → Type 0
StopsOver stop Began k x s l y t = StopsBy stop Began k.faults l.faults x.outwards s.held y.outwards t.held

-- a line is answered, and the session goes on or not
abbrev pub RepliesOver : {B : Type 0} → (B → Known) → (B → Call → Answer → B → Type 0) → Line → Bool → B → Both → Ongoing → B → Both → Ongoing
    → Type 0
RepliesOver known goes l goes_on old x s new y t =
    Replies known goes old s.session l x.outwards s.held goes_on new t.session y.outwards t.held

-- ---- one line

-- One line was read, done and answered.
pub record DoesLine {B : Type 0} (known : B → Known) (goes : B → Call → Answer → B → Type 0) (old : B) (s : Session) (x : Both) (held : Text) (new : B)
    (o : Option Session) (y : Both) (after : Text) : Type 0 where
  pub told : Told
  pub does : Does known goes old s told new o
  pub read : TakesLine (line_told told) x.inwards.left y.inwards.left
  pub reads : y.inwards.faults ≡ x.inwards.faults
  pub holds : HoldsBack x.outwards (held ++ printed told) y.outwards after

-- there was none
pub record FindsNone {B : Type 0} (old : B) (x : Both) (held : Text) (new : B) (y : Both) (after : Text) : Type 0 where
  pub left : WhereTold (λ all rest. (all ≡ []) × (rest ≡ [])) x.inwards.left y.inwards.left
  pub reads : y.inwards.faults ≡ x.inwards.faults
  pub holds : HoldsBack x.outwards held y.outwards after
  pub backend : new ≡ old

-- The turn stopped in a line that was begun, or before one was.
pub record StopsIn {B : Type 0} (known : B → Known) (goes : B → Call → Answer → B → Type 0) (old : B) (s : Session) (x : Both) (new : B) (y : Both)
    : Type 0 where
  pub begun : Option Text
  pub begins : MayBegin known goes old (Some s) begun new
  pub read : WhereTold (ReadsNext begun) x.inwards.left y.inwards.left
  pub reads : y.inwards.faults ≡ x.inwards.faults

-- One line was read and done, and its answer was cut off.
pub record DoesUnheard {B : Type 0} (known : B → Known) (goes : B → Call → Answer → B → Type 0) (old : B) (s : Session) (x : Both) (held : Text) (new : B)
    (y : Both) : Type 0 where
  pub session : Option Session
  pub told : Told
  pub does : Does known goes old s told new session
  pub read : TakesLine (line_told told) x.inwards.left y.inwards.left
  pub reads : y.inwards.faults ≡ x.inwards.faults
  pub cuts : CutsOff x.outwards (held ++ printed told) y.outwards

-- What a turn did: `true` says that another line may follow.
abbrev pub Turns : {B : Type 0} → (B → Known) → (B → Call → Answer → B → Type 0) → Result Bool Stop → B → Session → Both → Text → B → Session → Both
    → Text → Type 0
Turns known goes (Ok true) old s x held new t y after = DoesLine known goes old s x held new (Some t) y after
Turns known goes (Ok false) old s x held new t y after = FindsNone old x held new y after ⊎ DoesLine known goes old s x held new None y after
Turns known goes (Err stop.NoMemory) old s x held new t y after =
    StopsIn known goes old s x new y × HoldsBack x.outwards held y.outwards after × ((known new).faults ≡ (known old).faults)
Turns known goes (Err (stop.Cause cause.ReadFault)) old s x held new t y after = BreaksOffIn x held y after × (new ≡ old)
Turns known goes (Err (stop.Cause cause.WriteFault)) old s x held new t y after =
    (after ≡ []) × ((StopsIn known goes old s x new y × CutsOff x.outwards held y.outwards) ⊎ DoesUnheard known goes old s x held new y)
Turns known goes (Err (stop.Cause cause.StoreFault)) old s x held new t y after =
    StopsIn known goes old s x new y × HoldsBack x.outwards held y.outwards after × Rose (known old).faults (known new).faults
Turns known goes (Err (stop.Cause cause.TooManyLines)) old s x held new t y after = ⊥

-- the same of a session that goes on over a link
abbrev pub TurnsOver : {B : Type 0} → (B → Known) → (B → Call → Answer → B → Type 0) → Result Bool Stop → B → Both → Ongoing → B → Both → Ongoing
    → Type 0
TurnsOver known goes result old x s new y t = Turns known goes result old s.session x s.held new t.session y t.held

-- ---- many lines

-- So many lines were read, done and answered, and the session goes on.
pub record HasServed {B : Type 0} (known : B → Known) (goes : B → Call → Answer → B → Type 0) (count : ℕ) (old : B) (x : Both) (new : B) (t : Session)
    (y : Both) (held : Text) : Type 0 where
  pub tolds : List Told
  pub talks : Talks known goes old (first_session (known old)) tolds new (Some t)
  pub many : length tolds ≡ count
  pub read : WhereTold (HasRead tolds) x.inwards.left y.inwards.left
  pub reads : y.inwards.faults ≡ x.inwards.faults
  pub holds : HoldsBack x.outwards (output tolds) y.outwards held

-- Behind the last line that may be read the input has ended, or there is one more.
abbrev pub at_most : Line → Result (Unit {0}) Stop
at_most line.End = Ok tt
at_most (line.Bytes text) = Err (stop.Cause cause.TooManyLines)
at_most line.TooLong = Err (stop.Cause cause.TooManyLines)

-- How the lines ended.
abbrev pub Ends : {B : Type 0} → (B → Known) → (B → Call → Answer → B → Type 0) → Result (Unit {0}) Stop → B → Both → B → Both → Type 0
Ends known goes (Ok done) old x new y = IsServed known goes old new x y ReadsToTheEnd × SameCounts x y
Ends known goes (Err (stop.Cause cause.ReadFault)) old x new y =
    IsServed known goes old new x y ReadsUpToAFault × Rose x.inwards.faults y.inwards.faults × (y.outwards.faults ≡ x.outwards.faults)
Ends known goes (Err (stop.Cause cause.TooManyLines)) old x new y =
    IsServed known goes old new x y ReadsOneMore × SameCounts x y
Ends known goes (Err (stop.Cause cause.WriteFault)) old x new y =
    IsCutShort known goes (known new) old new x y TakesPart × (y.inwards.faults ≡ x.inwards.faults) × Rose x.outwards.faults y.outwards.faults
Ends known goes (Err (stop.Cause cause.StoreFault)) old x new y =
    IsCutShort known goes (known new) old new x y TakesWhole × SameCounts x y × Rose (known old).faults (known new).faults
Ends known goes (Err stop.NoMemory) old x new y =
    IsCutShort known goes (known new) old new x y TakesWhole × SameCounts x y × ((known new).faults ≡ (known old).faults)
