-- The count of faults along a program: it rises where a call fails by a fault, and nowhere else.
use Rattle.std.proofs.Common.{◌≡◌, ℕ, true, false, Result, Ok, Err, refl, ◌∙◌, subst}
use Rattle.dio_core.specs.Counts.{Rose, IsCounted}
use Rattle.docc_prepare.specs.Calls.{Known, Call, Answer, is_fault}
use Rattle.docc_prepare.specs.Backends.{IsAnswered, Goes}
use Rattle.call_programs.specs.Programs.{Program, Leads, Stops, Performs, Succeeds}
use Rattle.call_programs.specs.Safe.{RisesWhere, CountsFault, FaultsAreCounted}
use Rattle.call_programs.proofs.Programs.{known_leads, known_stops}

-- an answer that hasn't failed is no fault
no_fault : (answer : Answer) (old new : ℕ) → Succeeds answer → IsCounted (is_fault answer) old new → new ≡ old
no_fault (Answer.failed by_fault) old new ok is = absurd ok
no_fault answer old new ok is = is

-- so the count stays along a way
same_along : {A : Type 0} {k l : Known} {p q : Program A} → Leads IsAnswered k p l q → l.faults ≡ k.faults
same_along Leads.stays = refl
same_along {k} (Leads.by_call {m} answer step ok rest) = same_along rest ∙ no_fault answer k.faults m.faults ok step.goes_on.faults

-- and has risen exactly where a call has failed by a fault
risen : {A : Type 0} {k l : Known} {p : Program A} {X : Type 0} → Stops IsAnswered k p X l → RisesWhere X k.faults l.faults
risen (Stops.wants led want) = record { rises = λ x. absurd (want x); stays = λ no. same_along led }
risen {l} (Stops.fails true led step cause) = record {
  rises = λ x. subst (λ (n : ℕ). Rose n l.faults) (same_along led) step.goes_on.faults;
  stays = λ no. absurd (no (cause.1 refl));
}
risen (Stops.fails false led step cause) = record {
  rises = λ x. absurd (let is = cause.0 x in cc);
  stays = λ no. step.goes_on.faults ∙ same_along led;
}

-- whatever the function answers
pub faults_are_counted : {A T E : Type 0} → FaultsAreCounted A T E
faults_are_counted k l fault p (Ok x) give led = same_along led
faults_are_counted k l fault p (Err e) give stop = risen stop

-- the same over any backend
pub counts_over : {B A T E : Type 0} (known : B → Known) (goes : B → Call → Answer → B → Type 0) (b c : B) (fault : E) (p : Program A) (r : Result T E)
    (give : T → A) → Performs (Goes known goes) fault b p r give c → CountsFault fault r (known b).faults (known c).faults
counts_over known goes b c fault p (Ok x) give led = same_along (known_leads known goes led)
counts_over known goes b c fault p (Err e) give stop = risen (known_stops known goes stop)
