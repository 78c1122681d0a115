-- What stops short, put together; and programs that owe nothing.
use Rattle.std.proofs.Common.{◌≡◌, true, false, Result, Ok, Err, refl, sym, subst}
use Rattle.std.specs.Prelude.{IsErrAnd}
use Rattle.std.proofs.lemmas.Result.{err_from_is_err_and}
use Rattle.docc_prepare.specs.declared.backend.StoreError.{StoreError}
use Rattle.docc_prepare.specs.declared.backend.StoreError.TheVariants as store
use Rattle.docc_prepare.specs.Calls.{Known, Call, Answer, store_failed}
use Rattle.docc_prepare.specs.Backends.{Goes}
use Rattle.call_programs.specs.Programs.{Program, bind, Leads, Stops, Succeeds}
use Rattle.call_programs.proofs.Programs.{and_then, in_bind, bound, to_same}
use Rattle.session_core.specs.declared.error.SessionError.{SessionError}
use Rattle.session_core.specs.declared.error.SessionError.TheVariants as error
use Rattle.session_text.specs.declared.reply.Reply.{Reply}
use Rattle.session_core.specs.declared.session.Session.{Session}
use Rattle.session_core.specs.declared.turn.Turn.{Turn}
use Rattle.session_core.specs.Errors.{error_of}
use Rattle.session_core.specs.Events.{said}
use Rattle.session_core.specs.code.Turning.{turn_of}
use Rattle.session_core.specs.Stopping.{owes_reply, StopsShort, Does}
use Rattle.session_core.specs.Verbs.{LineEnd, Plays}

-- ---- put together

-- within the first of two
pub short_in : {S A C : Type 0} {goes : S → Call → Answer → S → Type 0} {s t : S} {p : Program A} {X : Type 0} (f : A → Program C)
    → StopsShort goes s p X t → StopsShort goes s (bind p f) X t
short_in f (StopsShort.at_once same want) = StopsShort.at_once same want
short_in f (StopsShort.before led want) = StopsShort.before (in_bind f led) want
short_in f (StopsShort.behind answer led step ok quiet want) = StopsShort.behind answer (in_bind f led) step ok quiet want
short_in f (StopsShort.fails by_fault led step cause) = StopsShort.fails by_fault (in_bind f led) step cause

-- of the same program
pub short_of : {S A : Type 0} {goes : S → Call → Answer → S → Type 0} {s t : S} {p q : Program A} {X : Type 0} → p ≡ q → StopsShort goes s q X t
    → StopsShort goes s p X t
short_of {goes} {s} {t} {X} same short = subst (λ p. StopsShort goes s p X t) (sym same) short

-- a program that asks a call
pub record Asks {A : Type 0} (p : Program A) : Type 0 where
  pub call : Call
  pub next : Answer → Program A
  pub is : p ≡ Program.asks call next

-- behind a way to what asks a call
pub short_behind : {S A : Type 0} {goes : S → Call → Answer → S → Type 0} {s m t : S} {p q : Program A} {X : Type 0} → Leads goes s p m q → Asks q
    → StopsShort goes m q X t → StopsShort goes s p X t
short_behind {goes} {s} {p} first asks (StopsShort.at_once same want) =
    StopsShort.before (subst (λ u. Leads goes s p u (Program.asks asks.call asks.next)) (sym same) (to_same asks.is first)) want
short_behind first asks (StopsShort.before led want) = StopsShort.before (and_then first led) want
short_behind first asks (StopsShort.behind answer led step ok quiet want) = StopsShort.behind answer (and_then first led) step ok quiet want
short_behind first asks (StopsShort.fails by_fault led step cause) = StopsShort.fails by_fault (and_then first led) step cause

-- at a call that has failed
pub short_failed : {S A : Type 0} {goes : S → Call → Answer → S → Type 0} {s t : S} {call : Call} {next : Answer → Program A} (e : StoreError)
    → goes s call (store_failed e) t → StopsShort goes s (Program.asks call next) (error_of e ≡ error.StoreFault) t
short_failed store.Fault step = StopsShort.fails true Leads.stays step (λ x. refl, λ is. refl)
short_failed store.NoMemory step = StopsShort.fails false Leads.stays step (λ x. absurd (cc), λ is. absurd (cc))

-- what stops short stops
pub stops_of : {S A : Type 0} {goes : S → Call → Answer → S → Type 0} {s t : S} {p : Program A} {X : Type 0} → StopsShort goes s p X t → Stops goes s p X t
stops_of {goes} {s} {p} (StopsShort.at_once same want) = Stops.wants (subst (λ u. Leads goes s p u p) (sym same) Leads.stays) want
stops_of (StopsShort.before led want) = Stops.wants led want
stops_of (StopsShort.behind answer led step ok quiet want) = Stops.wants (and_then led (Leads.by_call answer step ok Leads.stays)) want
stops_of (StopsShort.fails by_fault led step cause) = Stops.fails by_fault led step cause

-- ---- what functions do

module _ {B : Type 0} {known : B → Known} {goes : B → Call → Answer → B → Type 0} where
  -- what a function owes that answers an error
  pub does_fail : {A T : Type 0} {b c : B} {p : Program A} {x : SessionError} (give : T → A) (r : Result T SessionError) → IsErrAnd r (λ e. e ≡ x)
      → StopsShort (Goes known goes) b p (x ≡ error.StoreFault) c → Does known goes b p r give c
  does_fail {b} {c} {p} give r is short =
      let y = err_from_is_err_and r is in
      subst (λ r. Does known goes b p r give c) (sym y.1)
      (subst (λ e. StopsShort (Goes known goes) b p (e ≡ error.StoreFault) c) (sym y.2) short)

  -- behind a way to what asks a call
  pub does_behind : {A T : Type 0} {b m : B} {p q : Program A} (give : T → A) (c : B) (r : Result T SessionError) → Leads (Goes known goes) b p m q
      → Asks q → Does known goes m q r give c → Does known goes b p r give c
  does_behind give c (Ok x) first asks rest = and_then first rest
  does_behind give c (Err e) first asks rest = short_behind first asks rest

module _ {B : Type 0} (known : B → Known) (goes : B → Call → Answer → B → Type 0) (b c : B) where
  -- of the same program
  pub does_of : {A T : Type 0} {p q : Program A} (give : T → A) (r : Result T SessionError) → p ≡ q → Does known goes b q r give c
      → Does known goes b p r give c
  does_of give r same does = subst (λ p. Does known goes b p r give c) (sym same) does

  -- of what is made of its end
  pub does_made : {A C T : Type 0} (p : Program A) (give : T → A) (f : A → C) (r : Result T SessionError) → Does known goes b p r give c
      → Does known goes b (bind p (λ a. Program.ends (f a))) r (λ x. f (give x)) c
  does_made p give f (Ok x) led = bound (λ a. Program.ends (f a)) led Leads.stays
  does_made p give f (Err e) short = short_in (λ a. Program.ends (f a)) short

  -- with one reply as a turn
  pub said_does : (p : Program LineEnd) (r : Result Reply SessionError) (x : Result Turn SessionError) (s : Session) → x ≡ turn_of r
      → Does known goes b p r (λ reply. (s, said reply)) c → Does known goes b p x (λ turn. (s, turn)) c
  said_does p r x s is does = subst (λ y. Does known goes b p y (λ turn. (s, turn)) c) (sym is) (by r does)
    where
      by : (r : Result Reply SessionError) → Does known goes b p r (λ reply. (s, said reply)) c → Does known goes b p (turn_of r) (λ turn. (s, turn)) c
      by (Ok reply) led = led
      by (Err e) short = short

  -- what it does it performs
  pub plays_of : {A T : Type 0} (p : Program A) (give : T → A) (r : Result T SessionError) → Does known goes b p r give c
      → Plays known goes b p r give c
  plays_of p give (Ok x) led = led
  plays_of p give (Err e) short = stops_of short

-- ---- programs that owe nothing

-- whatever it is answered, no answer owes a reply
abbrev pub OwesNothing : {A : Type 0} → Program A → Type 0
OwesNothing (Program.ends a) = Unit {0}
OwesNothing (Program.asks call next) = ((answer : Answer) → owes_reply call answer ≡ false) × ((answer : Answer) → OwesNothing (next answer))
OwesNothing Program.stuck = Unit {0}

-- nor do two, one behind the other
pub owes_bind : {A C : Type 0} (f : A → Program C) (p : Program A) → OwesNothing p → ((a : A) → OwesNothing (f a)) → OwesNothing (bind p f)
owes_bind f (Program.ends a) owing more = more a
owes_bind f (Program.asks call next) owing more = (owing.0, λ answer. owes_bind f (next answer) (owing.1 answer) more)
owes_bind f Program.stuck owing more = tt

-- one such call, and then what stops short
pub short_call : {S A : Type 0} {goes : S → Call → Answer → S → Type 0} {s m t : S} {call : Call} {next : Answer → Program A} {X : Type 0}
    (answer : Answer) → goes s call answer m → Succeeds answer → owes_reply call answer ≡ false → StopsShort goes m (next answer) X t
    → StopsShort goes s (Program.asks call next) X t
short_call {goes} {s} {call} answer step ok quiet (StopsShort.at_once same want) =
    StopsShort.behind answer Leads.stays (subst (goes s call answer) (sym same) step) ok quiet want
short_call answer step ok quiet (StopsShort.before led want) = StopsShort.before (Leads.by_call answer step ok led) want
short_call answer step ok quiet (StopsShort.behind last led event good silent want) =
    StopsShort.behind last (Leads.by_call answer step ok led) event good silent want
short_call answer step ok quiet (StopsShort.fails by_fault led event cause) = StopsShort.fails by_fault (Leads.by_call answer step ok led) event cause

-- and then what is done
pub does_call : {B A T : Type 0} {known : B → Known} {goes : B → Call → Answer → B → Type 0} {b m : B} {call : Call}
    (next : Answer → Program A) (give : T → A) (c : B) (r : Result T SessionError) (answer : Answer) → Goes known goes b call answer m → Succeeds answer → owes_reply call answer ≡ false
    → Does known goes m (next answer) r give c → Does known goes b (Program.asks call next) r give c
does_call next give c (Ok x) answer step ok quiet rest = Leads.by_call answer step ok rest
does_call next give c (Err e) answer step ok quiet rest = short_call answer step ok quiet rest

-- wherever memory is wanting for such a program
quiet_way : {S A : Type 0} {goes : S → Call → Answer → S → Type 0} {s t : S} {p rest : Program A} {X : Type 0} → OwesNothing p → Leads goes s p t rest
    → (X → ⊥) → StopsShort goes s p X t
quiet_way owing Leads.stays want = StopsShort.at_once refl want
quiet_way owing (Leads.by_call answer step ok rest) want = short_call answer step ok (owing.0 answer) (quiet_way (owing.1 answer) rest want)

-- so it stops short wherever it stops
quiet_short : {S A : Type 0} {goes : S → Call → Answer → S → Type 0} {s t : S} {p : Program A} {X : Type 0} → OwesNothing p → Stops goes s p X t
    → StopsShort goes s p X t
quiet_short owing (Stops.wants led want) = quiet_way owing led want
quiet_short owing (Stops.fails by_fault led step cause) = StopsShort.fails by_fault led step cause

-- and what it performs it does
pub does_quiet : {B A T : Type 0} (known : B → Known) (goes : B → Call → Answer → B → Type 0) (b c : B) (p : Program A) (give : T → A)
    (r : Result T SessionError) → OwesNothing p → Plays known goes b p r give c → Does known goes b p r give c
does_quiet known goes b c p give (Ok x) owing led = led
does_quiet known goes b c p give (Err e) owing stop = quiet_short owing stop
