-- Programs played over the store of one thread, and what its steps lead to.
use Rattle.std.proofs.Common.{◌≡◌, ℕ, ◌<◌, Bool, Option, Some, None, refl, sym, ap, ◌∙◌, subst}
use Rattle.docc_prepare.specs.Calls.{Known, Call, Answer}
use Rattle.call_programs.specs.Programs.{Program, Leads, Succeeds}
use Rattle.call_programs.specs.Safe.{MayAsk, IsSafe}
use Rattle.docc_prepare.specs.declared.limits.TheConstants.{CLIENTS}
use Rattle.docc_prepare.specs.Stores.{Store, Does, IsSound, known_by, step}
use Rattle.call_programs.specs.Played.{unless_failed, play_program, DoesFor, ProgramsArePlayed, IsPlayedOut, SafeProgramsEnd}
use Rattle.docc_prepare.proofs.Answered.{steps_are_answered}
use Rattle.call_programs.proofs.Safe.{can_call}
use Rattle.docc_prepare.proofs.StepDoes.{steps_may_be_done}

-- ---- played to where it leads

-- what has succeeded goes by the step
by_step : (client : ℕ) (s t : Store) (call : Call) (answer : Answer) → Does s client call answer t → Succeeds answer → (t, answer) ≡ step s client call
by_step client s t call (Answer.failed by_fault) does ok = absurd ok
by_step client s t call answer does ok = does

-- and what is its step is done
done_by : (client : ℕ) (s t : Store) (call : Call) (answer : Answer) → (t, answer) ≡ step s client call → Succeeds answer → Does s client call answer t
done_by client s t call (Answer.failed by_fault) e ok = absurd ok
done_by client s t call answer e ok = e

-- and is gone on behind
goes_on : {A : Type 0} (t : Store) (answer : Answer) (played : Option A × Store) → Succeeds answer → unless_failed (t, answer) played ≡ played
goes_on t (Answer.failed by_fault) played ok = absurd ok
goes_on t answer played ok = refl

-- along a way nothing changes what it is played to
pub played : {A : Type 0} (client : ℕ) {s t : Store} {p q : Program A} → Leads (DoesFor client) s p t q → play_program client s p ≡ play_program client t q
played client Leads.stays = refl
played client (Leads.by_call {s} {m} {call} {next} answer does ok rest) =
    ap (λ (pair : Store × Answer). unless_failed pair (play_program client pair.0 (next pair.1))) (sym (by_step client s m call answer does ok))
    ∙ goes_on m answer (play_program client m (next answer)) ok ∙ played client rest

-- ---- led to where it is played

-- it leads to what it is played to, if that is an end
LeadsTo : {A : Type 0} → ℕ → Store → Program A → Option A × Store → Type 0
LeadsTo client s p (Some end, t) = Leads (DoesFor client) s p t (Program.ends end)
LeadsTo client s p (None, t) = Unit {0}

-- a call, and then what follows
behind_call : {A : Type 0} (client : ℕ) (s t : Store) (call : Call) (answer : Answer) (next : Answer → Program A) (x : Option A × Store)
    → (t, answer) ≡ step s client call → LeadsTo client t (next answer) x → LeadsTo client s (Program.asks call next) (unless_failed (t, answer) x)
unfolding LeadsTo
behind_call client s t call (Answer.failed by_fault) next x e rest = tt
behind_call client s t call answer next (Some end, u) e rest = Leads.by_call answer (done_by client s t call answer e tt) tt rest
behind_call client s t call answer next (None, u) e rest = rest

-- call by call
leads_to : {A : Type 0} (client : ℕ) (s : Store) (p : Program A) → LeadsTo client s p (play_program client s p)
unfolding LeadsTo
leads_to client s (Program.ends a) = Leads.stays
leads_to client s (Program.asks call next) =
    behind_call client s (step s client call).0 call (step s client call).1 next
    (play_program client (step s client call).0 (next (step s client call).1)) refl
    (leads_to client (step s client call).0 (next (step s client call).1))
leads_to client s Program.stuck = tt

-- both ways
pub programs_are_played : {A : Type 0} → ProgramsArePlayed A
unfolding LeadsTo
programs_are_played = record {
  played = λ client s t p end led. played client led;
  leads = λ client s t p end is. subst (LeadsTo client s p) is (leads_to client s p);
}

-- ---- safe programs

-- a call that a program may ask is no wait
no_wait : (k : Known) (call : Call) → MayAsk k call → call ≡ Call.wait → ⊥
no_wait k call may is = subst (MayAsk k) is may

-- an answer that is no failure succeeds
no_failure : (answer : Answer) → ((by_fault : Bool) → answer ≡ Answer.failed by_fault → ⊥) → Succeeds answer
no_failure (Answer.failed by_fault) never = never by_fault refl
no_failure answer never = tt

-- so each step of a sound store succeeds
step_succeeds : (client : ℕ) (s : Store) (call : Call) → MayAsk (known_by s client) call → Succeeds (step s client call).1
step_succeeds client s call may =
    no_failure (step s client call).1 (λ f is. no_wait (known_by s client) call may (steps_may_be_done.failing s client call f is))

-- played out behind a call, played out before it
before_call : {A : Type 0} {holds : Known → A → Type 0} (client : ℕ) (s : Store) (call : Call) (next : Answer → Program A) → Succeeds (step s client call).1
    → IsPlayedOut client (step s client call).0 (next (step s client call).1) holds → IsPlayedOut client s (Program.asks call next) holds
before_call client s call next ok rest = record {
  end = rest.end;
  store = rest.store;
  played = goes_on (step s client call).0 (step s client call).1 (play_program client (step s client call).0 (next (step s client call).1)) ok ∙ rest.played;
  sound = rest.sound;
  so = rest.so;
}

-- whatever holds at the end
pub plays_out : {A : Type 0} (holds : Known → A → Type 0) (client : ℕ) (s : Store) (p : Program A) → client < CLIENTS → IsSound s
    → IsSafe (known_by s client) p holds → IsPlayedOut client s p holds
plays_out holds client s (Program.ends a) below sound safe = record { end = a; store = s; played = refl; sound = sound; so = safe }
plays_out holds client s (Program.asks call next) below sound safe =
    let t = (step s client call).0 in
    let answer = (step s client call).1 in
    let answered = steps_are_answered s t client call answer sound below (can_call (known_by s client) call safe.0)
    (steps_may_be_done.done s client call sound) in
    let ok = step_succeeds client s call safe.0 in
    before_call client s call next ok
    (plays_out holds client t (next answer) below answered.1 (safe.1 answer (known_by t client) answered.0 ok))
plays_out holds client s Program.stuck below sound safe = absurd safe

pub safe_programs_end : {A : Type 0} → SafeProgramsEnd A
safe_programs_end client s p below sound safe = plays_out (λ k a. Unit {0}) client s p below sound safe
