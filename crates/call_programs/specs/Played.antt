-- A program played over the store of one thread: a function.
use Rattle.std.specs.Prelude.{◌≡◌, ℕ, ◌<◌, Option, Some, None, refl}
use Rattle.docc_prepare.specs.Calls.{Known, Call, Answer}
use Rattle.call_programs.specs.Programs.{Program, Leads, number_of, ask_length}
use Rattle.call_programs.specs.Safe.{IsSafe}
use Rattle.docc_prepare.specs.declared.limits.TheConstants.{CLIENTS}
use Rattle.docc_prepare.specs.Stores.{Store, Does, IsSound, first_store, known_by, saw, step}

-- behind a failed call nothing is done
abbrev pub unless_failed : {A : Type 0} → Store × Answer → Option A × Store → Option A × Store
unless_failed (t, Answer.failed by_fault) played = (None, t)
unless_failed (t, answer) played = played

-- PLAYED: each call of a client's program is a step of the store. It gives what the program ends with, or nothing where a call fails
-- or the program is stuck; and the store then.
abbrev pub play_program : {A : Type 0} → ℕ → Store → Program A → Option A × Store
play_program client s (Program.ends a) = (Some a, s)
play_program client s (Program.asks call next) =
    unless_failed (step s client call) (play_program client (step s client call).0 (next (step s client call).1))
play_program client s Program.stuck = (None, s)

-- ---- laws

-- what a call of the client does to the store
abbrev pub DoesFor : ℕ → Store → Call → Answer → Store → Type 0
DoesFor client s call answer t = Does s client call answer t

-- A program is played to an end exactly where calls of the store lead there.
pub record ProgramsArePlayed (A : Type 0) : Type 0 where
  pub played : (client : ℕ) (s t : Store) (p : Program A) (end : A) → Leads (DoesFor client) s p t (Program.ends end)
      → play_program client s p ≡ (Some end, t)
  pub leads : (client : ℕ) (s t : Store) (p : Program A) (end : A) → play_program client s p ≡ (Some end, t)
      → Leads (DoesFor client) s p t (Program.ends end)

-- It is played to an end, the store is sound then, and a fact holds of what is known.
pub record IsPlayedOut {A : Type 0} (client : ℕ) (s : Store) (p : Program A) (holds : Known → A → Type 0) : Type 0 where
  pub end : A
  pub store : Store
  pub played : play_program client s p ≡ (Some end, store)
  pub sound : IsSound store
  pub so : holds (known_by store client) end

-- A safe program is played to its end over every sound store: no call fails but a wait, which it doesn't ask.
abbrev pub SafeProgramsEnd : Type 0 → Type 0
SafeProgramsEnd A =
    (client : ℕ) (s : Store) (p : Program A) → client < CLIENTS → IsSound s → IsSafe (known_by s client) p (λ k a. Unit {0})
    → IsPlayedOut client s p (λ k a. Unit {0})

-- ---- worked lines

-- there are none at first, and so many the client has seen then
played-example : play_program 5 (first_store 4 2 100) ask_length ≡ (Some 0, saw (first_store 4 2 100) 5 0)
played-example = refl

-- a wait fails, since there is nobody to wait for
played-waiting : (s : Store) → play_program 5 s (Program.asks Call.wait number_of) ≡ (None, s)
played-waiting s = refl

-- where the answer is no number it is stuck
played-stuck : (s : Store) → play_program 5 s (Program.asks Call.take number_of) ≡ (None, (step s 5 Call.take).0)
played-stuck s = refl
