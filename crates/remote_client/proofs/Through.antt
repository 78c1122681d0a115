-- What is done over a remote client is done by its caller's steps.
use Rattle.std.proofs.Common.{◌≡◌, true, false, Ok, Err, ap, subst}
use Rattle.docc_prepare.specs.Calls.{Known, Call, Answer}
use Rattle.docc_prepare.specs.Backends.{IsAnswered, Goes}
use Rattle.call_programs.proofs.Programs.{leads_over, stops_over}
use Rattle.remote_calls.specs.Calling.{Doing}
use Rattle.remote_client.specs.Standing.{Standing, standing, stood_for, HasStepped, Steps}
use Rattle.remote_client.specs.Through.{Carries, ProgramsGoThrough, LostClientsStayLost}

module _ {C : Type 0} (known : C → Known) (goes : C → Call → Answer → C → Type 0) (does : Doing C) where
  -- what is answered, is answered of what the caller stands for
  answered-at : (r s : Standing C) (c : Call) (a : Answer) → r ≡ standing r.stood → s ≡ standing s.stood
      → IsAnswered (stood_for known r) c a (stood_for known s) → IsAnswered (known r.stood) c a (known s.stood)
  answered-at r s c a before behind h =
      subst (λ (k : Known). IsAnswered (known r.stood) c a k) (ap (stood_for known) behind)
      (subst (λ (k : Known). IsAnswered k c a (stood_for known s)) (ap (stood_for known) before) h)

  -- so an answered call is one of the caller's
  steps-at : (r s : Standing C) (c : Call) (a : Answer) → HasStepped goes r c a s → IsAnswered (stood_for known r) c a (stood_for known s)
      → Goes known goes r.stood c a s.stood
  steps-at r s c a step h = record { step = step.step; answered = answered-at r s c a step.before step.behind h }

  carried : (r s : Standing C) (c : Call) (a : Answer) → Goes (stood_for known) (Steps goes does) r c a s → Carries known goes r.stood c a s.stood
  carried r s c (Answer.failed by_fault) h = h.step.stood
  carried r s c a h = steps-at r s c a h.step h.answered

  pub programs-go-through : (A T E : Type 0) → ProgramsGoThrough known goes does A T E
  programs-go-through A T E fault r s p (Ok x) give led = leads_over (λ (r : Standing C). r.stood) carried led
  programs-go-through A T E fault r s p (Err e) give stop = stops_over (λ (r : Standing C). r.stood) carried stop

-- a lost client isn't one that is well
well-is-not-lost : {C : Type 0} (r : Standing C) → r ≡ standing r.stood → r.lost ≡ true → ⊥
well-is-not-lost r well lost = let was : r.lost ≡ false = ap (λ (r : Standing _). r.lost) well in cc

pub lost-clients-stay-lost : {C : Type 0} (goes : C → Call → Answer → C → Type 0) (does : Doing C) → LostClientsStayLost goes does
lost-clients-stay-lost {C} goes does = record { lost = λ r s c by_fault h. h.lost; silent = silent }
  where
    silent : (r s : Standing C) (c : Call) (a : Answer) → r.lost ≡ true → Steps goes does r c a s → (a ≡ Answer.failed false) × (s ≡ r)
    silent r s c (Answer.failed by_fault) lost h = let is = h.silent lost in (ap Answer.failed is.0, is.1)
    silent r s c a lost h = absurd (well-is-not-lost r h.before lost)
