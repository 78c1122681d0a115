-- Where the answer to a line stops, and what was held back.
use Rattle.std.proofs.Common.{◌≡◌, ℕ, Bool, true, false, Some, Result, Ok, Err, refl, sym, subst, []}
use Rattle.std.specs.Prelude.{IfErr, OnErr, ◌≤◌, length}
use Rattle.plain_data.specs.declared.or_no_memory.OrNoMemory.TheVariants as stop
use Rattle.dio_core.specs.Links.{Outgoing}
use Rattle.dio_core.specs.declared.line.Line.{Line}
use Rattle.dio_core.specs.declared.line.Line.TheVariants as line
use Rattle.dio_core.specs.declared.line.TheConstants.{LONGEST_LINE}
use Rattle.docc_prepare.specs.declared.backend.StoreError.{StoreError}
use Rattle.docc_prepare.specs.declared.backend.StoreError.TheVariants as store_error
use Rattle.docc_prepare.specs.Calls.{Known, Call, Answer, store_failed}
use Rattle.docc_prepare.specs.Backends.{Goes}
use Rattle.call_programs.specs.Programs.{Program, Leads, Stops}
use Rattle.call_programs.specs.Safe.{RisesWhere}
use Rattle.session_core.specs.declared.error.SessionError.{SessionError}
use Rattle.session_core.specs.declared.error.SessionError.TheVariants as error
use Rattle.session_core.specs.declared.session.Session.{Session}
use Rattle.session_core.specs.declared.turn.Turn.{Turn}
use Rattle.session_core.specs.declared.turn.Turn.TheVariants as turn
use Rattle.session_core.specs.Lines.{line_of}
use Rattle.session_core.specs.LinePrograms.{line_over, sync}
use Rattle.session_core.specs.Verbs.{Plays}
use Rattle.txn_grammar.specs.Characters.{Text}
use Rattle.diamond_server.specs.declared.status.Cause.TheVariants as cause
use Rattle.diamond_server.specs.Talking.{Answers, Begins, MayBegin}
use Rattle.diamond_server.specs.code.Serving.{Stop, stop_of, HoldsBack, PassesOn, StopsBy, text_of, MayWake}
use Rattle.diamond_server.proofs.FirstCalls.{begun-led, begun-stopped}
use Rattle.diamond_server.proofs.Held.{holds-same, passes-cut}
use Rattle.diamond_server.proofs.Talked.{answers-unfaulted, came-unfaulted}

-- ---- an error

-- what has begun in the place of something else
stops-map : (e : Stop) (Began More : Type 0) (store store_then : ℕ) (x y : Outgoing) (held after : Text) → (Began → More)
    → StopsBy e Began store store_then x held y after → StopsBy e More store store_then x held y after
stops-map stop.NoMemory Began More store store_then x y held after more stops = (more stops.0, stops.1, stops.2)
stops-map (stop.Cause cause.StoreFault) Began More store store_then x y held after more stops = (more stops.0, stops.1, stops.2)
stops-map (stop.Cause cause.WriteFault) Began More store store_then x y held after more stops = (more stops.0, stops.1, stops.2)
stops-map (stop.Cause cause.ReadFault) Began More store store_then x y held after more stops = absurd stops
stops-map (stop.Cause cause.TooManyLines) Began More store store_then x y held after more stops = absurd stops

-- by an error of the session's line
pub stops-of : (e : SessionError) (r : Stop) (Began : Type 0) (store store_then : ℕ) (x y : Outgoing) (held after : Text) → r ≡ stop_of e
    → RisesWhere (e ≡ error.StoreFault) store store_then → Began → HoldsBack x held y after → StopsBy r Began store store_then x held y after
stops-of e r Began store store_then x y held after is told began holds =
    subst (λ (r : Stop). StopsBy r Began store store_then x held y after) (sym is) (by e told)
  where
    by : (e : SessionError) → RisesWhere (e ≡ error.StoreFault) store store_then → StopsBy (stop_of e) Began store store_then x held y after
    by error.StoreFault told = (began, holds, told.rises refl)
    by error.NoMemory told = (began, holds, told.stays (λ is. let no : ⊥ = cc in no))

-- what was held back could not be written
pub stops-unpassed : (b : Bool) (Began : Type 0) (store store_then : ℕ) (x y : Outgoing) (held after : Text) → b ≡ false → PassesOn b x held y
    → after ≡ [] → Began → StopsBy (stop.Cause cause.WriteFault) Began store store_then x held y after
stops-unpassed b Began store store_then x y held after is passes none began = (began, passes-cut b x y held is passes, none)

-- a line that is none of the others is too long
pub too-long : (l : Line) → (l ≡ line.End → ⊥) → ((text : Text) → l ≡ line.Bytes text → ⊥) → line.TooLong ≡ l
too-long line.End some other = absurd (some refl)
too-long (line.Bytes text) some other = absurd (other text refl)
too-long line.TooLong some other = refl

module _ {B : Type 0} (known : B → Known) (goes : B → Call → Answer → B → Type 0) where
  -- ---- a line

  -- there was no memory for its refusal
  pub stops-unrefused : (b : B) (s : Session) (l : Line) (x : Outgoing) (held after : Text) → line.TooLong ≡ l → after ≡ held
      → StopsBy stop.NoMemory (MayBegin known goes b (Some s) (text_of l) b) (known b).faults (known b).faults x held x after
  stops-unrefused b s l x held after is kept = (
    subst (λ (l : Line). MayBegin known goes b (Some s) (text_of l) b) is refl,
    subst (λ (bytes : Text). HoldsBack x held x bytes) (sym kept) (holds-same x held),
    refl,
  )

  -- its program has stopped
  pub stops-line : (b : B) (s : Session) (text : Text) (c : B) (e : SessionError) (r : Stop) (x : Outgoing) (held : Text) → r ≡ stop_of e
      → Stops (Goes known goes) b (line_over (known b) s (line_of text)) (e ≡ error.StoreFault) c
      → RisesWhere (e ≡ error.StoreFault) (known b).faults (known c).faults
      → StopsBy r (Begins known goes b s text c) (known b).faults (known c).faults x held x held
  stops-line b s text c e r x held is stops told =
      stops-of e r (Begins known goes b s text c) (known b).faults (known c).faults x x held held is told
      (Begins.at_once (begun-stopped stops)) (holds-same x held)

  -- of a line that is short enough
  pub stops-begun : (b : B) (s : Session) (text bytes : Text) (c : B) (e : Stop) (store store_then : ℕ) (x y : Outgoing) (held after : Text)
      → length text ≤ LONGEST_LINE → bytes ≡ text → StopsBy e (Begins known goes b s bytes c) store store_then x held y after
      → StopsBy e (MayBegin known goes b (Some s) (Some text) c) store store_then x held y after
  stops-begun b s text bytes c e store store_then x y held after short same stops =
      stops-map e (Begins known goes b s bytes c) (MayBegin known goes b (Some s) (Some text) c) store store_then x y held after
      (λ begun. (short, subst (λ (z : Text). Begins known goes b s z c) same begun)) stops

  -- it was to wait
  begins-waiting : (b : B) (s : Session) (text : Text) (there : B) (u : Session) (c : B)
      → Leads (Goes known goes) b (line_over (known b) s (line_of text)) there (Program.ends (u, turn.WaitWanted)) → MayWake known goes there u c
      → Begins known goes b s text c
  begins-waiting b s text there u c led (MayWake.asleep same) =
      subst (λ (d : B). Begins known goes b s text d) (sym same) (Begins.at_once (begun-led led))
  begins-waiting b s text there u c led (MayWake.unwoken by_fault waits) = Begins.unwoken there u by_fault led waits
  begins-waiting b s text there u c led (MayWake.woken woke waits begun) = Begins.woken there woke u led waits begun

  -- and has stopped behind that
  pub stops-waiting : {T : Type 0} (b : B) (s : Session) (text : Text) (there : B) (u : Session) (r : Result T Stop) (c : B) (x y : Outgoing)
      (held after : Text) → Leads (Goes known goes) b (line_over (known b) s (line_of text)) there (Program.ends (u, turn.WaitWanted))
      → IfErr r (λ e. StopsBy e (MayWake known goes there u c) (known there).faults (known c).faults x held y after)
      → IfErr r (λ e. StopsBy e (Begins known goes b s text c) (known b).faults (known c).faults x held y after)
  stops-waiting b s text there u (Ok said) c x y held after led stops = tt
  stops-waiting b s text there u (Err e) c x y held after led stops =
      subst (λ (n : ℕ). StopsBy e (Begins known goes b s text c) n (known c).faults x held y after)
      (came-unfaulted known goes b s text turn.WaitWanted there u led)
      (stops-map e (MayWake known goes there u c) (Begins known goes b s text c) (known there).faults (known c).faults x y held after
      (begins-waiting b s text there u c led) stops)

  -- the wait failed
  pub wakes-failed : {T E : Type 0} (b : B) (s : Session) (e : StoreError) (r : Result T E) (c : B)
      → Goes known goes b Call.wait (store_failed e) c → OnErr r (MayWake known goes b s c)
  wakes-failed b s e (Ok x) c waits = tt
  wakes-failed b s store_error.Fault (Err x) c waits = MayWake.unwoken true waits
  wakes-failed b s store_error.NoMemory (Err x) c waits = MayWake.unwoken false waits

  -- or `sync` has stopped behind it
  pub wakes-stopped : (b : B) (s : Session) (there : B) (r : Result Turn SessionError) (c : B) (t : Session)
      → Goes known goes b Call.wait Answer.done there → Plays known goes there (sync s) r (λ said. (t, said)) c
      → OnErr r (MayWake known goes b s c)
  wakes-stopped b s there (Ok said) c t waits led = tt
  wakes-stopped b s there (Err e) c t waits stops = MayWake.woken there waits (begun-stopped stops)

  -- a line that was answered was begun
  pub answers-begin : (b : B) (s : Session) (text : Text) (said : Turn) (c : B) (t : Session) → Answers known goes b s text said c t
      → Begins known goes b s text c
  answers-begin b s text said c t (Answers.at_once quick led) = Begins.at_once (begun-led led)
  answers-begin b s text said c t (Answers.woken there woke u first waits last) = Begins.woken there woke u first waits (begun-led last)

  -- and there was no memory for its text
  pub stops-unsaid : (b : B) (s : Session) (text bytes : Text) (said : Turn) (c : B) (t : Session) (x y : Outgoing) (held mid after : Text)
      → length text ≤ LONGEST_LINE → bytes ≡ text → Answers known goes b s bytes said c t → HoldsBack x held y mid → after ≡ mid
      → StopsBy stop.NoMemory (MayBegin known goes b (Some s) (Some text) c) (known b).faults (known c).faults x held y after
  stops-unsaid b s text bytes said c t x y held mid after short same answers holds kept = (
    (short, subst (λ (z : Text). Begins known goes b s z c) same (answers-begin b s bytes said c t answers)),
    subst (λ (z : Text). HoldsBack x held y z) (sym kept) holds,
    answers-unfaulted known goes b s bytes said c t answers,
  )
