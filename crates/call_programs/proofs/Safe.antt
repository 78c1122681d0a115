-- Safe programs, and those that ask few calls, put together.
use Rattle.std.proofs.Common.{ℕ}
use Rattle.docc_prepare.specs.Calls.{Known, Call, Answer}
use Rattle.docc_prepare.specs.Backends.{CanCall, IsAnswered, Goes}
use Rattle.call_programs.specs.Programs.{Program, bind, Leads}
use Rattle.call_programs.specs.Safe.{MayAsk, IsSafe, AsksAny, AlwaysEnds, CanSpend, Spends, IsWithin}
use Rattle.call_programs.proofs.Programs.{always_bind, along, known_leads}

-- one safe program, and then the next
pub then_safe : {A C : Type 0} (first : Known → A → Type 0) (holds : Known → C → Type 0) (f : A → Program C) (k : Known) (p : Program A)
    → IsSafe k p first → ((l : Known) (a : A) → first l a → IsSafe l (f a) holds) → IsSafe k (bind p f) holds
then_safe first holds f k p safe more = always_bind MayAsk IsAnswered ⊥ first holds f k p safe more

-- what holds at its end over a backend
pub safe_end : {B A : Type 0} {known : B → Known} {goes : B → Call → Answer → B → Type 0} {b c : B} {p : Program A} {a : A} (holds : Known → A → Type 0)
    → IsSafe (known b) p holds → Leads (Goes known goes) b p c (Program.ends a) → holds (known c) a
safe_end {known} {goes} holds safe led = along MayAsk ⊥ holds (known_leads known goes led) safe

-- a fact of the end, and then of the next one's
pub then_ends : {A C : Type 0} (first : Known → A → Type 0) (holds : Known → C → Type 0) (f : A → Program C) (k : Known) (p : Program A)
    → AlwaysEnds k p first → ((l : Known) (a : A) → first l a → AlwaysEnds l (f a) holds) → AlwaysEnds k (bind p f) holds
then_ends first holds f k p all more = always_bind AsksAny IsAnswered (Unit {0}) first holds f k p all more

-- of every program something ends
pub ends_somehow : {A : Type 0} (k : Known) (p : Program A) → AlwaysEnds k p (λ l a. Unit {0})
ends_somehow k (Program.ends a) = tt
ends_somehow k (Program.asks call next) = (tt, λ answer l step ok. ends_somehow l (next answer))
ends_somehow k Program.stuck = tt

-- what a safe program ends with, and what it ends with besides
pub safe_also : {A : Type 0} (first second holds : Known → A → Type 0) (k : Known) (p : Program A) → ((l : Known) (a : A) → first l a → second l a → holds l a)
    → IsSafe k p first → AlwaysEnds k p second → AlwaysEnds k p holds
safe_also first second holds k (Program.ends a) both safe all = both k a safe all
safe_also first second holds k (Program.asks call next) both safe all =
    (tt, λ answer l step ok. safe_also first second holds l (next answer) both (safe.1 answer l step ok) (all.1 answer l step ok))
safe_also first second holds k Program.stuck both safe all = tt

-- one program within so many calls, and then the next within those that are left
pub then_within : {A C : Type 0} (first : ℕ → A → Type 0) (holds : ℕ → C → Type 0) (f : A → Program C) (most : ℕ) (p : Program A)
    → IsWithin most p first → ((left : ℕ) (a : A) → first left a → IsWithin left (f a) holds) → IsWithin most (bind p f) holds
then_within first holds f most p within more = always_bind CanSpend Spends (Unit {0}) first holds f most p within more

-- a call that a program may ask is one that may be made
pub can_call : (k : Known) (call : Call) → MayAsk k call → CanCall k call
can_call k Call.wait may = absurd may
can_call k call may = may
