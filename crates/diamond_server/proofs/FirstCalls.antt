-- The first calls of programs, and of lines that are begun.
use Rattle.std.proofs.Common.{List, Option, Some, None, ap}
use Rattle.docc_prepare.specs.Calls.{Known, Call, Answer}
use Rattle.docc_prepare.specs.Backends.{Goes, IsAnswered}
use Rattle.call_programs.specs.Programs.{Program, Leads, Stops}
use Rattle.call_programs.proofs.Programs.{leads_over}
use Rattle.session_core.specs.declared.session.Session.{Session}
use Rattle.session_core.specs.declared.turn.Turn.{Turn}
use Rattle.txn_grammar.specs.Characters.{Text}
use Rattle.diamond_server.specs.Talking.{Told, Answers, Does, Talks, HasBegun, Begins, MayBegin}
use Rattle.diamond_server.specs.Ways.{AnyStep}

-- ---- of programs

-- behind a way
begun-behind : {S A : Type 0} {goes : S → Call → Answer → S → Type 0} {s m t : S} {p q : Program A} → Leads goes s p m q → HasBegun goes m q t
    → HasBegun goes s p t
begun-behind Leads.stays begun = begun
begun-behind (Leads.by_call answer step ok rest) begun = HasBegun.then_more answer step ok (begun-behind rest begun)

-- those of a way
pub begun-led : {S A : Type 0} {goes : S → Call → Answer → S → Type 0} {s t : S} {p q : Program A} → Leads goes s p t q → HasBegun goes s p t
begun-led led = begun-behind led HasBegun.no_more

-- those before it stopped
pub begun-stopped : {S A : Type 0} {goes : S → Call → Answer → S → Type 0} {s t : S} {p : Program A} {X : Type 0} → Stops goes s p X t
    → HasBegun goes s p t
begun-stopped (Stops.wants led want) = begun-led led
begun-stopped (Stops.fails by_fault led step cause) = begun-behind led (HasBegun.last_failed by_fault step)

-- they go so over what is made of each state, where each call does
begun-over : {S T A : Type 0} {goes : S → Call → Answer → S → Type 0} {met : T → Call → Answer → T → Type 0} {s t : S} {p : Program A} (f : S → T)
    → ((s t : S) (call : Call) (answer : Answer) → goes s call answer t → met (f s) call answer (f t)) → HasBegun goes s p t
    → HasBegun met (f s) p (f t)
begun-over f each HasBegun.no_more = HasBegun.no_more
begun-over f each (HasBegun.last_failed {s} {t} {call} by_fault step) = HasBegun.last_failed by_fault (each s t call (Answer.failed by_fault) step)
begun-over f each (HasBegun.then_more {s} {m} {t} {call} answer step ok rest) =
    HasBegun.then_more answer (each s m call answer step) ok (begun-over f each rest)

module _ {B : Type 0} (known : B → Known) (goes : B → Call → Answer → B → Type 0) where
  -- over a backend, by what is known of that
  pub begun-known : {A : Type 0} {b c : B} {p : Program A} → HasBegun (Goes known goes) b p c → HasBegun IsAnswered (known b) p (known c)
  begun-known begun = begun-over known (λ s t call answer step. step.answered) begun

  -- ---- by what is known, as steps of whatever kind

  abbrev Any : Known → Call → Answer → Known → Type 0
  Any = Goes (λ k. k) AnyStep

  any-step : (s t : B) (call : Call) (answer : Answer) → Goes known goes s call answer t → Any (known s) call answer (known t)
  any-step s t call answer step = record { step = tt; answered = step.answered }

  any-led : {A : Type 0} {b c : B} {p q : Program A} → Leads (Goes known goes) b p c q → Leads Any (known b) p (known c) q
  any-led led = leads_over known any-step led

  any-answers : (b : B) (s : Session) (text : Text) (said : Turn) (c : B) (t : Session) → Answers known goes b s text said c t
      → Answers (λ k. k) AnyStep (known b) s text said (known c) t
  any-answers b s text said c t (Answers.at_once quick led) = Answers.at_once quick (any-led led)
  any-answers b s text said c t (Answers.woken there woke u first waits last) =
      Answers.woken (known there) (known woke) u (any-led first) (any-step there woke Call.wait Answer.done waits) (any-led last)

  any-does : (b : B) (s : Session) (told : Told) (c : B) (o : Option Session) → Does known goes b s told c o
      → Does (λ k. k) AnyStep (known b) s told (known c) o
  any-does b s Told.long c o does = (ap known does.0, does.1)
  any-does b s (Told.answered text said) c o does = record {
    short = does.short;
    after = does.after;
    answers = any-answers b s text said c does.after does.answers;
    goes_on = does.goes_on;
  }

  -- a talk
  pub any-talks : {b : B} {s : Session} {tolds : List Told} {c : B} {o : Option Session} → Talks known goes b s tolds c o
      → Talks (λ k. k) AnyStep (known b) s tolds (known c) o
  any-talks Talks.silent = Talks.silent
  any-talks (Talks.says {before} {tolds} {mid} {new} {t} {o} told talks does is) =
      Talks.says told (any-talks talks) (any-does mid t told new o does) is

  any-begins : (b : B) (s : Session) (text : Text) (c : B) → Begins known goes b s text c → Begins (λ k. k) AnyStep (known b) s text (known c)
  any-begins b s text c (Begins.at_once begun) = Begins.at_once (begun-over known any-step begun)
  any-begins b s text c (Begins.unwoken there u by_fault led waits) =
      Begins.unwoken (known there) u by_fault (any-led led) (any-step there c Call.wait (Answer.failed by_fault) waits)
  any-begins b s text c (Begins.woken there woke u led waits begun) =
      Begins.woken (known there) (known woke) u (any-led led) (any-step there woke Call.wait Answer.done waits) (begun-over known any-step begun)

  -- and the line that was begun behind it
  pub any-may : (b : B) (o : Option Session) (begun : Option Text) (c : B) → MayBegin known goes b o begun c
      → MayBegin (λ k. k) AnyStep (known b) o begun (known c)
  any-may b o None c same = ap known same
  any-may b None (Some text) c never = never
  any-may b (Some s) (Some text) c may = (may.0, any-begins b s text c may.1)
