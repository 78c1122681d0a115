-- Programs put together: what leads through one leads through it and what follows, and what stops one stops the whole.
use Rattle.std.proofs.Common.{◌≡◌, ◌↔◌, true, false, Result, refl, sym, ap, subst}
use Rattle.std.specs.Prelude.{IsErrAnd}
use Rattle.std.proofs.lemmas.Result.{err_from_is_err_and}
use Rattle.docc_prepare.specs.declared.backend.StoreError.{StoreError}
use Rattle.docc_prepare.specs.declared.backend.StoreError.TheVariants as store_error
use Rattle.docc_prepare.specs.Calls.{Known, Call, Answer, store_failed}
use Rattle.docc_prepare.specs.Backends.{IsAnswered, Goes}
use Rattle.call_programs.specs.Programs.{Program, bind, Leads, Stops, Performs, Always, Owes, Succeeds}

-- ---- ways

-- one way behind another
pub and_then : {S A : Type 0} {goes : S → Call → Answer → S → Type 0} {s m t : S} {p q r : Program A} → Leads goes s p m q → Leads goes m q t r
    → Leads goes s p t r
and_then Leads.stays rest = rest
and_then (Leads.by_call answer step ok first) rest = Leads.by_call answer step ok (and_then first rest)

-- what leads on leads on with what follows
pub in_bind : {S A C : Type 0} {goes : S → Call → Answer → S → Type 0} {s t : S} {p q : Program A} (f : A → Program C) → Leads goes s p t q
    → Leads goes s (bind p f) t (bind q f)
in_bind f Leads.stays = Leads.stays
in_bind f (Leads.by_call answer step ok rest) = Leads.by_call answer step ok (in_bind f rest)

-- a program that has ended, and then the next
pub bound : {S A C : Type 0} {goes : S → Call → Answer → S → Type 0} {s m t : S} {p : Program A} {a : A} {r : Program C} (f : A → Program C)
    → Leads goes s p m (Program.ends a) → Leads goes m (f a) t r → Leads goes s (bind p f) t r
bound f first rest = and_then (in_bind f first) rest

-- to what is the same
pub to_same : {S A : Type 0} {goes : S → Call → Answer → S → Type 0} {s t : S} {p q r : Program A} → q ≡ r → Leads goes s p t q → Leads goes s p t r
to_same {goes} {s} {t} {p} same led = subst (Leads goes s p t) same led

-- where it is the same program
pub here : {S A : Type 0} {goes : S → Call → Answer → S → Type 0} {s : S} {p q : Program A} → p ≡ q → Leads goes s p s q
here same = to_same same Leads.stays

-- one call, of which that is made
pub one_call : {S A : Type 0} {goes : S → Call → Answer → S → Type 0} {s t : S} {call : Call} {next : Answer → Program A} {q : Program A} (answer : Answer)
    → goes s call answer t → Succeeds answer → next answer ≡ q → Leads goes s (Program.asks call next) t q
one_call answer step ok same = Leads.by_call answer step ok (here same)

-- ---- what stops

-- within the first of two
pub stops_in : {S A C : Type 0} {goes : S → Call → Answer → S → Type 0} {s t : S} {p : Program A} {X : Type 0} (f : A → Program C)
    → Stops goes s p X t → Stops goes s (bind p f) X t
stops_in f (Stops.wants led want) = Stops.wants (in_bind f led) want
stops_in f (Stops.fails by_fault led step cause) = Stops.fails by_fault (in_bind f led) step cause

-- behind a way
pub stops_behind : {S A : Type 0} {goes : S → Call → Answer → S → Type 0} {s m t : S} {p q : Program A} {X : Type 0} → Leads goes s p m q
    → Stops goes m q X t → Stops goes s p X t
stops_behind first (Stops.wants led want) = Stops.wants (and_then first led) want
stops_behind first (Stops.fails by_fault led step cause) = Stops.fails by_fault (and_then first led) step cause

-- within the second of two
pub stops_after : {S A C : Type 0} {goes : S → Call → Answer → S → Type 0} {s m t : S} {p : Program A} {a : A} {X : Type 0} (f : A → Program C)
    → Leads goes s p m (Program.ends a) → Stops goes m (f a) X t → Stops goes s (bind p f) X t
stops_after f first stop = stops_behind (in_bind f first) stop

-- at a call that has failed: the error is said to be a fault exactly where that is one
pub call_failed : {S A : Type 0} {goes : S → Call → Answer → S → Type 0} {s t : S} {call : Call} {next : Answer → Program A} {X : Type 0} (e : StoreError)
    → goes s call (store_failed e) t → X ↔ (e ≡ store_error.Fault) → Stops goes s (Program.asks call next) X t
call_failed store_error.Fault step cause = Stops.fails true Leads.stays step (λ x. refl, λ is. cause.1 refl)
call_failed store_error.NoMemory step cause = Stops.fails false Leads.stays step (λ x. let is = cause.0 x in absurd (cc), λ is. absurd (cc))

-- at a call of which so much is known: the error is said to be a fault exactly where it has failed by one
pub call_broken : {S A : Type 0} {goes : S → Call → Answer → S → Type 0} {s t : S} {call : Call} {next : Answer → Program A} {X : Type 0} (answer : Answer)
    → goes s call answer t → X ↔ (answer ≡ Answer.failed true) → Stops goes s (Program.asks call next) X t
call_broken (Answer.failed by_fault) step cause =
    Stops.fails by_fault Leads.stays step (λ x. let is = cause.0 x in cc, λ is. cause.1 (ap Answer.failed is))
call_broken answer step cause = Stops.wants (Leads.by_call answer step tt Leads.stays) (λ x. let is = cause.0 x in cc)

-- what a function owes that answers an error
pub fails : {S A T E : Type 0} {goes : S → Call → Answer → S → Type 0} {fault : E} {s t : S} {p : Program A} {x : E} (give : T → A) (r : Result T E)
    → IsErrAnd r (λ e. e ≡ x) → Stops goes s p (x ≡ fault) t → Performs goes fault s p r give t
fails {goes} {fault} {s} {t} {p} give r is stop =
    let y = err_from_is_err_and r is in
    subst (λ r. Performs goes fault s p r give t) (sym y.1) (subst (λ e. Stops goes s p (e ≡ fault) t) (sym y.2) stop)

-- ---- whatever is answered

-- of one program, and of the next with whatever the first may end with
pub always_bind : {S A C : Type 0} (may : S → Call → Type 0) (goes : S → Call → Answer → S → Type 0) (where_stuck : Type 0) (first : S → A → Type 0)
    (holds : S → C → Type 0) (f : A → Program C) (s : S) (p : Program A) → Always may goes where_stuck s p first
    → ((t : S) (a : A) → first t a → Always may goes where_stuck t (f a) holds) → Always may goes where_stuck s (bind p f) holds
always_bind may goes where_stuck first holds f s (Program.ends a) all more = more s a all
always_bind may goes where_stuck first holds f s (Program.asks call next) all more =
    (all.0, λ answer t step ok. always_bind may goes where_stuck first holds f t (next answer) (all.1 answer t step ok) more)
always_bind may goes where_stuck first holds f s Program.stuck all more = all

-- and back: of the first of two, and behind it of the next
pub first_always : {S A C : Type 0} (may : S → Call → Type 0) (goes : S → Call → Answer → S → Type 0) (where_stuck : Type 0) (holds : S → C → Type 0)
    (f : A → Program C) (s : S) (p : Program A) → Always may goes where_stuck s (bind p f) holds
    → Always may goes where_stuck s p (λ t a. Always may goes where_stuck t (f a) holds)
first_always may goes where_stuck holds f s (Program.ends a) all = all
first_always may goes where_stuck holds f s (Program.asks call next) all =
    (all.0, λ answer t step ok. first_always may goes where_stuck holds f t (next answer) (all.1 answer t step ok))
first_always may goes where_stuck holds f s Program.stuck all = all

-- a fact in the place of another
pub always_more : {S A : Type 0} (may : S → Call → Type 0) (goes : S → Call → Answer → S → Type 0) (where_stuck : Type 0) (first holds : S → A → Type 0)
    (s : S) (p : Program A) → ((t : S) (a : A) → first t a → holds t a) → Always may goes where_stuck s p first → Always may goes where_stuck s p holds
always_more may goes where_stuck first holds s (Program.ends a) more all = more s a all
always_more may goes where_stuck first holds s (Program.asks call next) more all =
    (all.0, λ answer t step ok. always_more may goes where_stuck first holds t (next answer) more (all.1 answer t step ok))
always_more may goes where_stuck first holds s Program.stuck more all = all

-- ALONG THE WAY: so it is of each program that it comes to
pub along : {S A : Type 0} {goes : S → Call → Answer → S → Type 0} {s t : S} {p q : Program A} (may : S → Call → Type 0) (where_stuck : Type 0)
    (holds : S → A → Type 0) → Leads goes s p t q → Always may goes where_stuck s p holds → Always may goes where_stuck t q holds
along may where_stuck holds Leads.stays all = all
along may where_stuck holds (Leads.by_call {m} answer step ok rest) all = along may where_stuck holds rest (all.1 answer m step ok)

-- what is owed there
pub owed : {S A : Type 0} (may : S → Call → Type 0) (goes : S → Call → Answer → S → Type 0) (where_stuck : Type 0) (holds : S → A → Type 0)
    (s : S) (p : Program A) → Always may goes where_stuck s p holds → Owes may where_stuck s p holds
owed may goes where_stuck holds s (Program.ends a) all = all
owed may goes where_stuck holds s (Program.asks call next) all = all.0
owed may goes where_stuck holds s Program.stuck all = all

-- ALWAYS IS EVERYWHERE: it is so of a program where each that it comes to owes no more than it has
pub everywhere : {S A : Type 0} (may : S → Call → Type 0) (goes : S → Call → Answer → S → Type 0) (where_stuck : Type 0) (holds : S → A → Type 0)
    (s : S) (p : Program A) → ((t : S) (q : Program A) → Leads goes s p t q → Owes may where_stuck t q holds) → Always may goes where_stuck s p holds
everywhere may goes where_stuck holds s (Program.ends a) each = each s (Program.ends a) Leads.stays
everywhere may goes where_stuck holds s (Program.asks call next) each = (
  each s (Program.asks call next) Leads.stays,
  λ answer t step ok. everywhere may goes where_stuck holds t (next answer) (λ u q led. each u q (Leads.by_call answer step ok led)),
)
everywhere may goes where_stuck holds s Program.stuck each = each s Program.stuck Leads.stays

-- ---- the same program over another state

-- what leads leads so over what is made of each state, where each call goes there, too
pub leads_over : {S T A : Type 0} {goes : S → Call → Answer → S → Type 0} {met : T → Call → Answer → T → Type 0} {s t : S} {p q : Program A}
    (f : S → T) → ((s t : S) (call : Call) (answer : Answer) → goes s call answer t → met (f s) call answer (f t)) → Leads goes s p t q
    → Leads met (f s) p (f t) q
leads_over f each Leads.stays = Leads.stays
leads_over f each (Leads.by_call {s} {m} {call} answer step ok rest) =
    Leads.by_call answer (each s m call answer step) ok (leads_over f each rest)

-- what stops stops so
pub stops_over : {S T A : Type 0} {goes : S → Call → Answer → S → Type 0} {met : T → Call → Answer → T → Type 0} {s t : S} {p : Program A}
    {X : Type 0} (f : S → T) → ((s t : S) (call : Call) (answer : Answer) → goes s call answer t → met (f s) call answer (f t)) → Stops goes s p X t
    → Stops met (f s) p X (f t)
stops_over f each (Stops.wants led want) = Stops.wants (leads_over f each led) want
stops_over {t} f each (Stops.fails {m} {call} by_fault led step cause) =
    Stops.fails by_fault (leads_over f each led) (each m t call (Answer.failed by_fault) step) cause

-- over a backend it leads by what is known of that
pub known_leads : {B A : Type 0} (known : B → Known) (goes : B → Call → Answer → B → Type 0) {b c : B} {p q : Program A} → Leads (Goes known goes) b p c q
    → Leads IsAnswered (known b) p (known c) q
known_leads known goes led = leads_over known (λ s t call answer step. step.answered) led

-- and stops so
pub known_stops : {B A : Type 0} (known : B → Known) (goes : B → Call → Answer → B → Type 0) {b c : B} {p : Program A} {X : Type 0}
    → Stops (Goes known goes) b p X c → Stops IsAnswered (known b) p X (known c)
known_stops known goes stop = stops_over known (λ s t call answer step. step.answered) stop
