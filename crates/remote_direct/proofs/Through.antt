-- What is done over a remote client, whose caller is a service beside a backend, is done over that backend.
use Rattle.std.proofs.Common.{Result, Ok, Err, ap}
use Rattle.docc_prepare.specs.Calls.{Known, Call, Answer}
use Rattle.docc_prepare.specs.Backends.{IsAnswered, Goes}
use Rattle.call_programs.specs.Programs.{Program, Leads, Performs, Succeeds}
use Rattle.call_programs.proofs.Programs.{leads_over, stops_over}
use Rattle.remote_client.specs.Standing.{Standing, stood_for, Steps}
use Rattle.remote_direct.specs.Directing.{Beside, known_beside, goes_beside, does_beside}
use Rattle.remote_direct.specs.Laws.{Takes, SessionsGoThrough}

module _ {B : Type 0} (known : B → Known) (goes : B → Call → Answer → B → Type 0) where
  -- an answered call is a step of the backend, and one that failed leaves it
  taken : (r s : Standing (Beside B)) (c : Call) (a : Answer) → Goes (stood_for (known_beside known)) (Steps (goes_beside known goes) (does_beside known goes)) r c a s
      → Takes known goes r.stood.backend c a s.stood.backend
  taken r s c (Answer.failed by_fault) h = ap (λ (d : Beside B). d.backend) h.step.stood
  taken r s c a h = h.step.step

  -- a step of the backend is answered within the clause of the call that was asked for
  answered : (b d : B) (c : Call) (a : Answer) → Succeeds a → Takes known goes b c a d → IsAnswered (known b) c a (known d)
  answered b d c (Answer.failed by_fault) ok h = absurd ok
  answered b d (Call.append ready) a ok h = h.answered
  answered b d c a ok h = h.answered

  leads : {A : Type 0} {b d : B} {p q : Program A} → Leads (Takes known goes) b p d q → Leads IsAnswered (known b) p (known d) q
  leads Leads.stays = Leads.stays
  leads (Leads.by_call {s} {m} {t} {call} answer step ok rest) = Leads.by_call answer (answered s m call answer ok step) ok (leads rest)

  pub sessions-go-through : (A T E : Type 0) → SessionsGoThrough known goes A T E
  sessions-go-through A T E = record { performs = performs; answered = λ b d p q led. leads led }
    where
      performs : (fault : E) (r s : Standing (Beside B)) (p : Program A) (result : Result T E) (give : T → A)
          → Performs (Goes (stood_for (known_beside known)) (Steps (goes_beside known goes) (does_beside known goes))) fault r p result give s
          → Performs (Takes known goes) fault r.stood.backend p result give s.stood.backend
      performs fault r s p (Ok x) give led = leads_over (λ (r : Standing (Beside B)). r.stood.backend) taken led
      performs fault r s p (Err e) give stop = stops_over (λ (r : Standing (Beside B)). r.stood.backend) taken stop
