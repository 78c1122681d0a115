-- What functions that do whole lines perform: lines of watches, and each line by its form.
use Rattle.std.proofs.Common.{◌≡◌, ◌↔◌, ℕ, ◌<◌, ◌≤◌, true, false, cond, List, Result, Ok, Err, refl, sym, ap, subst, arith}
use Rattle.std.specs.Prelude.{nat_lt}
use Rattle.std.proofs.lemmas.Bool.Decides.{nat_tests}
use Rattle.session_text.specs.declared.reply.Reply.{Reply}
use Rattle.docc_prepare.specs.Calls.{Known, Call, Answer}
use Rattle.call_programs.specs.Programs.{Program, Leads, Stops, Performs}
use Rattle.call_programs.proofs.Programs.{bound, stops_in}
use Rattle.client_watches.specs.declared.error.WatchError.{WatchError}
use Rattle.client_watches.specs.declared.error.WatchError.TheVariants as watch
use Rattle.client_watches.specs.declared.watching.Watching.{Watching}
use Rattle.client_watches.specs.Lines.{Told, Plays as WatchPlays}
use Rattle.session_core.specs.declared.error.SessionError.{SessionError}
use Rattle.session_core.specs.declared.error.SessionError.TheVariants as error
use Rattle.session_core.specs.declared.session.Session.{Session}
use Rattle.session_core.specs.declared.turn.Turn.{Turn}
use Rattle.session_core.specs.declared.turn.Turn.TheVariants as turn
use Rattle.session_core.specs.Errors.{of_watch_error}
use Rattle.session_core.specs.Events.{with_watching}
use Rattle.session_core.specs.code.Turning.{watch_turn}
use Rattle.session_core.specs.Verbs.{Plays}
use Rattle.session_core.specs.LinePrograms.{leaves, of_watches, sync, wait_for}

-- ---- errors

-- what stops by one error stops by another that is a fault where that is one
stops_as : {S A : Type 0} {goes : S → Call → Answer → S → Type 0} {s t : S} {p : Program A} {X Y : Type 0} → Y ↔ X → Stops goes s p X t → Stops goes s p Y t
stops_as f (Stops.wants led want) = Stops.wants led (λ y. want (f.0 y))
stops_as f (Stops.fails by_fault led step cause) = Stops.fails by_fault led step (λ y. cause.0 (f.0 y), λ is. f.1 (cause.1 is))

-- an error of watches is told as a fault exactly where it is one
fault_of : (e : WatchError) → (of_watch_error e ≡ error.StoreFault) ↔ (e ≡ watch.StoreFault)
fault_of watch.StoreFault = (λ h. refl, λ is. refl)
fault_of watch.NoMemory = (λ h. absurd (cc), λ is. absurd (cc))

-- behind an error it doesn't matter what is made of a result
pub performs_err : {S A T E : Type 0} {e : E} (goes : S → Call → Answer → S → Type 0) (fault : E) (s t : S) (p : Program A) (give other : T → A)
    (r : Result T E) → r ≡ Err e → Performs goes fault s p r give t → Performs goes fault s p r other t
performs_err goes fault s t p give other (Ok x) is h = absurd (cc)
performs_err goes fault s t p give other (Err e) is h = h

module _ {B : Type 0} (known : B → Known) (goes : B → Call → Answer → B → Type 0) (b c : B) where
  -- a line of watches leaves its watches in the session
  pub watched : (s : Session) (p : Program Told) (r : Result (List Reply) WatchError) (x : Result Turn SessionError) (w : Watching) → x ≡ watch_turn r
      → WatchPlays known goes b p r (λ said. (w, said)) c → Plays known goes b (of_watches s p) x (λ turn. (with_watching s w, turn)) c
  watched s p r x w is plays = subst (λ y. Plays known goes b (of_watches s p) y (λ turn. (with_watching s w, turn)) c) (sym is) (by r plays)
    where
      by : (r : Result (List Reply) WatchError) → WatchPlays known goes b p r (λ said. (w, said)) c
          → Plays known goes b (of_watches s p) (watch_turn r) (λ turn. (with_watching s w, turn)) c
      by (Ok replies) led = bound (leaves s) led Leads.stays
      by (Err e) stop = stops_in (leaves s) (stops_as (fault_of e) stop)

-- ---- `wait`

-- there is a commit past those that were seen
pub waited_for : (s : Session) (seen n : ℕ) → seen < n → wait_for s seen n ≡ sync s
waited_for s seen n more = let test : nat_lt seen n ≡ true = grind (arith, nat_tests) in ap (λ b. cond b (sync s) (Program.ends (s, turn.WaitWanted))) test

-- there is none
pub none_to_wait_for : (s : Session) (seen n : ℕ) → n ≤ seen → wait_for s seen n ≡ Program.ends (s, turn.WaitWanted)
none_to_wait_for s seen n few =
    let test : nat_lt seen n ≡ false = grind (arith, nat_tests) in ap (λ b. cond b (sync s) (Program.ends (s, turn.WaitWanted))) test
