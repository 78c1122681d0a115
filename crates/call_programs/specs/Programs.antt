-- Programs: which calls a client makes of a backend, and what it does with each answer, as plain data. There is no journal in them,
-- and no store.
use Rattle.std.specs.Prelude.{◌≡◌, ◌↔◌, ℕ, ◌+◌, Bool, true, false, Result, Ok, Err, refl}
use Rattle.docc_prepare.specs.Calls.{Call, Answer}

-- A PROGRAM ends with a value, or asks a call and goes on with its answer. It is stuck where there is nothing to do: no store gives
-- that answer, or so many rounds are enough.
pub data Program (A : Type 0) : Type 0 where
  ends : A → Program A
  asks : Call → (Answer → Program A) → Program A
  stuck : Program A

-- One program, and then another, which is made of what the first ends with.
abbrev pub bind : {A C : Type 0} → Program A → (A → Program C) → Program C
bind (Program.ends a) f = f a
bind (Program.asks call next) f = Program.asks call (λ answer. bind (next answer) f)
bind Program.stuck f = Program.stuck

-- ---- how a program is done

-- the call hasn't failed
abbrev pub Succeeds : Answer → Type 0
Succeeds (Answer.failed by_fault) = ⊥
Succeeds answer = Unit {0}

-- IT LEADS from one state and program to another: each call that is asked goes by the relation, and none fails.
pub data Leads {S A : Type 0} (goes : S → Call → Answer → S → Type 0) : S → Program A → S → Program A → Type 0 where
  stays : {s : S} {p : Program A} → Leads goes s p s p
  by_call : {s m t : S} {call : Call} {next : Answer → Program A} {q : Program A} (answer : Answer) → goes s call answer m → Succeeds answer
      → Leads goes m (next answer) t q → Leads goes s (Program.asks call next) t q

-- IT STOPS somewhere on its way: memory is wanting there, and the error is said to be no fault of the store; or a call fails, and the
-- error is said to be a fault exactly where the call has failed by one.
pub data Stops {S A : Type 0} (goes : S → Call → Answer → S → Type 0) (s : S) (p : Program A) (is_fault : Type 0) (t : S) : Type 0 where
  wants : {rest : Program A} → Leads goes s p t rest → (is_fault → ⊥) → Stops goes s p is_fault t
  fails : {m : S} {call : Call} {next : Answer → Program A} (by_fault : Bool) → Leads goes s p m (Program.asks call next)
      → goes m call (Answer.failed by_fault) t → is_fault ↔ (by_fault ≡ true) → Stops goes s p is_fault t

-- WHAT A FUNCTION DOES: it performs the program, which ends with what is made of the function's result; or, after an error, it has
-- stopped on the way.
abbrev pub Performs : {S A T E : Type 0} → (S → Call → Answer → S → Type 0) → E → S → Program A → Result T E → (T → A) → S → Type 0
Performs goes fault old p (Ok x) give new = Leads goes old p new (Program.ends (give x))
Performs goes fault old p (Err e) give new = Stops goes old p (e ≡ fault) new

-- ---- what is so of a program, whatever it is answered

-- ALWAYS, by whatever answers within the relation: each call that it asks may be made, a fact holds of what it ends with, and where
-- it is stuck another does (⊥ says that it is stuck nowhere). Behind a failed call nothing is asked of it, since there it stops.
abbrev pub Always : {S A : Type 0} → (S → Call → Type 0) → (S → Call → Answer → S → Type 0) → Type 0 → S → Program A → (S → A → Type 0) → Type 0
Always may goes where_stuck s (Program.ends a) holds = holds s a
Always may goes where_stuck s (Program.asks call next) holds =
    may s call × ((answer : Answer) (t : _) → goes s call answer t → Succeeds answer → Always may goes where_stuck t (next answer) holds)
Always may goes where_stuck s Program.stuck holds = where_stuck

-- what that says of one state and program
abbrev pub Owes : {S A : Type 0} → (S → Call → Type 0) → Type 0 → S → Program A → (S → A → Type 0) → Type 0
Owes may where_stuck s (Program.ends a) holds = holds s a
Owes may where_stuck s (Program.asks call next) holds = may s call
Owes may where_stuck s Program.stuck holds = where_stuck

-- ---- worked lines

-- a program that learns how many commits there are, by one call
abbrev pub number_of : Answer → Program ℕ
number_of (Answer.number n) = Program.ends n
number_of answer = Program.stuck

abbrev pub ask_length : Program ℕ
ask_length = Program.asks Call.refresh number_of

-- behind an end the next program begins
bind-example : bind (Program.ends 2) (λ n. Program.ends (n + 1)) ≡ Program.ends 3
bind-example = refl

-- and behind a call, once it is answered
bind-asks : bind ask_length (λ n. Program.ends (n + 1)) ≡ Program.asks Call.refresh (λ answer. bind (number_of answer) (λ n. Program.ends (n + 1)))
bind-asks = refl

-- where 3 is answered, that is what it ends with
leads-example :
    {S : Type 0} {goes : S → Call → Answer → S → Type 0} {s t : S} → goes s Call.refresh (Answer.number 3) t → Leads goes s ask_length t (Program.ends 3)
leads-example step = Leads.by_call (Answer.number 3) step tt Leads.stays

-- a fault stops it, and is told as one
stops-example :
    {S : Type 0} {goes : S → Call → Answer → S → Type 0} {s t : S} → goes s Call.refresh (Answer.failed true) t
    → Stops goes s ask_length (Unit {0}) t
stops-example step = Stops.fails true Leads.stays step (λ h. refl, λ is. tt)

-- want of memory stops it, too, and is told as no fault: the store's,
stops-failing :
    {S : Type 0} {goes : S → Call → Answer → S → Type 0} {s t : S} → goes s Call.refresh (Answer.failed false) t → Stops goes s ask_length ⊥ t
stops-failing step = Stops.fails false Leads.stays step (λ h. absurd h, λ is. cc)

-- and the client's own
stops-wanting : {S : Type 0} {goes : S → Call → Answer → S → Type 0} (s : S) → Stops goes s ask_length ⊥ s
stops-wanting s = Stops.wants Leads.stays (λ h. h)

-- whatever it is answered it makes that one call, and it is stuck if the answer is no number
always-example :
    {S : Type 0} (goes : S → Call → Answer → S → Type 0) (s : S)
    → Always (λ s call. call ≡ Call.refresh) goes (Unit {0}) s ask_length (λ t n. Unit {0})
always-example goes s = (refl, elim [ Answer.number n ↦ (λ t step ok. tt) | answer ↦ (λ t step ok. tt) ])
