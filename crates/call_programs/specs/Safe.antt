-- What a program owes a backend, whatever that answers: each call that it asks may be made, and no more than so many. What becomes
-- of the count of faults is so of every program.
use Rattle.std.specs.Prelude.{◌≡◌, ℕ, suc, ◌<◌, Result, Ok, Err, refl}
use Rattle.dio_core.specs.Counts.{Rose}
use Rattle.docc_prepare.specs.Calls.{Known, Call, Answer}
use Rattle.docc_prepare.specs.Backends.{CanCall, IsAnswered, Shows}
use Rattle.call_programs.specs.Programs.{Program, Performs, Always, number_of, ask_length, Succeeds}

-- ---- calls that may be made

-- A program may ask each call for which its client has what it owes. To wait is none: it may never return, so whoever drives a
-- program does that behind it.
abbrev pub MayAsk : Known → Call → Type 0
MayAsk k Call.wait = ⊥
MayAsk k call = CanCall k call

-- SAFE: whatever a backend answers by the clause of every call, each call that the program asks may be made, it is stuck nowhere, and
-- a fact holds of what is known at its end.
abbrev pub IsSafe : {A : Type 0} → Known → Program A → (Known → A → Type 0) → Type 0
IsSafe k p holds = Always MayAsk IsAnswered ⊥ k p holds

-- any call, whatever is owed
abbrev pub AsksAny : {S : Type 0} → S → Call → Type 0
AsksAny s call = Unit {0}

-- ENDS WITH: whatever a backend answers by the clause of every call, a fact holds of what is known at the program's end.
abbrev pub AlwaysEnds : {A : Type 0} → Known → Program A → (Known → A → Type 0) → Type 0
AlwaysEnds k p holds = Always AsksAny IsAnswered (Unit {0}) k p holds

-- ---- how many calls

-- one of those that are left
abbrev pub CanSpend : ℕ → Call → Type 0
CanSpend left call = 0 < left

-- is spent, whatever it is answered
abbrev pub Spends : ℕ → Call → Answer → ℕ → Type 0
Spends left call answer fewer = left ≡ suc fewer

-- WITHIN: whatever it is answered, the program asks no more calls than so many, and a fact holds of how many are left at its end.
abbrev pub IsWithin : {A : Type 0} → ℕ → Program A → (ℕ → A → Type 0) → Type 0
IsWithin most p holds = Always CanSpend Spends (Unit {0}) most p holds

-- ---- faults

-- a count has risen where something is so, and has stayed where it isn't
pub record RisesWhere (so : Type 0) (old new : ℕ) : Type 0 where
  pub rises : so → Rose old new
  pub stays : (so → ⊥) → new ≡ old

-- A count has stayed, but for an error that is the fault of the store: exactly there it has risen.
abbrev pub CountsFault : {T E : Type 0} → E → Result T E → ℕ → ℕ → Type 0
CountsFault fault (Ok x) old new = new ≡ old
CountsFault fault (Err e) old new = RisesWhere (e ≡ fault) old new

-- A law of every program: over a backend, a function that performs it has raised the count of faults exactly where it tells one.
abbrev pub FaultsAreCounted : Type 0 → Type 0 → Type 0 → Type 0
FaultsAreCounted A T E =
    (k l : Known) (fault : E) (p : Program A) (result : Result T E) (give : T → A) → Performs IsAnswered fault k p result give l
    → CountsFault fault result k.faults l.faults

-- ---- worked lines

-- to ask how many commits there are is safe: only a number is answered, and so many are seen then
safe-example : (k : Known) → IsSafe k ask_length (λ l n. n ≡ l.seen)
safe-example k = (tt, λ answer l is ok. by answer l is.shows ok)
  where
    by : (answer : Answer) (l : Known) → Shows k l Call.refresh answer → Succeeds answer → Always MayAsk IsAnswered ⊥ l (number_of answer) (λ l n. n ≡ l.seen)
    by (Answer.number n) l is ok = is
    by (Answer.failed by_fault) l is ok = absurd ok
    by answer l is ok = absurd is

-- and it is one call
within-example : (most : ℕ) → 0 < most → IsWithin most ask_length (λ left n. most ≡ suc left)
within-example most some = (some, elim [ Answer.number n ↦ (λ left spent ok. spent) | answer ↦ (λ left spent ok. tt) ])

-- where a function has a value no fault was counted
counts-example : (fault n : ℕ) → CountsFault fault (Ok n) 2 2
counts-example fault n = refl

-- nor where it has another error
counts-other : (fault e n : ℕ) → (e ≡ fault → ⊥) → CountsFault {T = ℕ} fault (Err e) 2 n → n ≡ 2
counts-other fault e n other is = is.stays other
