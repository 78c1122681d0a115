-- Laws of a service beside its backend.
use Rattle.std.specs.Prelude.{◌≡◌, true, List, [], Result, refl}
use Rattle.journal_core.specs.declared.ready.PreparedFront.{PreparedFront}
use Rattle.journal_core.specs.declared.ready.Ready.{Ready}
use Rattle.docc_prepare.specs.Calls.{Known, Call, Answer}
use Rattle.docc_prepare.specs.Backends.{CanCall, IsAnswered, Goes}
use Rattle.call_programs.specs.Programs.{Program, Leads, Performs}
use Rattle.remote_wire.specs.declared.request.Request.{Request}
use Rattle.remote_calls.specs.Spelled.{request_for}
use Rattle.remote_calls.specs.Calling.{CanAsk}
use Rattle.remote_service.specs.declared.service.Service.{Service}
use Rattle.remote_service.specs.Malformed.{Meaning, meaning}
use Rattle.remote_client.specs.Standing.{Standing, stood_for, Steps}
use Rattle.remote_direct.specs.Directing.{Beside, known_at, known_beside, IsBeside, with_fronts, Through, goes_beside, does_beside}

-- ---- what requests mean

-- the same call, but for the fronts of an append
abbrev pub IsSameCall : Call → Call → Type 0
IsSameCall (Call.append ready) d = (fronts : List PreparedFront) × (d ≡ Call.append (with_fronts ready fronts))
IsSameCall c d = d ≡ c

-- what the request of a call means to a service: that call
pub record Means (s : Service) (k : Known) (c : Call) : Type 0 where
  pub call : Call
  pub meant : meaning s k (request_for c) ≡ Meaning.calling call
  pub same : IsSameCall c call

-- A law: each call that may be made of what a service beside its backend stands for is what its request means. So nothing that may be
-- asked is malformed.
pub record WhatMayBeAskedIsMeant : Type 0 where
  pub meant : (s : Service) (k : Known) (c : Call) → IsBeside s k → CanCall (known_at k s) c → Means s k c
  pub never : (s : Service) (k : Known) (asked : Request) → IsBeside s k → CanAsk (known_at k s) asked → meaning s k asked ≡ Meaning.malformed → ⊥

-- ---- what sessions do

-- a step of the backend; or a call that failed, and left it where it was
abbrev pub Takes : {B : Type 0} → (B → Known) → (B → Call → Answer → B → Type 0) → B → Call → Answer → B → Type 0
Takes known goes b c (Answer.failed by_fault) d = d ≡ b
Takes known goes b c a d = Through known goes b c a d

-- A law on sessions that are far away from nothing: who performs a program over a remote client, whose caller is a service beside a
-- backend, performs it over that backend, to the same result. And each answer on the way is one to that call over the backend itself, so
-- whatever such answers explain, its journal does.
pub record SessionsGoThrough {B : Type 0} (known : B → Known) (goes : B → Call → Answer → B → Type 0) (A T E : Type 0) : Type 0 where
  pub performs : (fault : E) (r s : Standing (Beside B)) (p : Program A) (result : Result T E) (give : T → A)
      → Performs (Goes (stood_for (known_beside known)) (Steps (goes_beside known goes) (does_beside known goes))) fault r p result give s
      → Performs (Takes known goes) fault r.stood.backend p result give s.stood.backend
  pub answered : (b d : B) (p q : Program A) → Leads (Takes known goes) b p d q → Leads IsAnswered (known b) p (known d) q

-- ---- worked lines

-- a read is meant as itself
same-read : (k : _) → IsSameCall (Call.read k) (Call.read k)
same-read k = refl

-- an append is, with whatever fronts
same-append : (ready : Ready) → IsSameCall (Call.append ready) (Call.append (with_fronts ready []))
same-append ready = ([], refl)

-- what fails does nothing at the backend that it stands for
takes-failed : {B : Type 0} (known : B → Known) (goes : B → Call → Answer → B → Type 0) (b : B) → Takes known goes b Call.take (Answer.failed true) b ≡ (b ≡ b)
takes-failed known goes b = refl
