-- What is done over a remote client is done by its caller's steps.
use Rattle.std.specs.Prelude.{◌≡◌, true, false, Result, refl}
use Rattle.docc_prepare.specs.Calls.{Known, Call, Answer}
use Rattle.docc_prepare.specs.Backends.{Goes}
use Rattle.call_programs.specs.Programs.{Program, Performs}
use Rattle.remote_calls.specs.Calling.{Doing}
use Rattle.remote_client.specs.Standing.{Standing, stood_for, Steps}

-- a step of the caller; or a call that failed, and left it where it was
abbrev pub Carries : {C : Type 0} → (C → Known) → (C → Call → Answer → C → Type 0) → C → Call → Answer → C → Type 0
Carries known goes x c (Answer.failed by_fault) y = y ≡ x
Carries known goes x c a y = Goes known goes x c a y

-- A law: a function that performs a program over a remote client performs the same program over what its caller stood for,
-- to the same result.
abbrev pub ProgramsGoThrough : {C : Type 0} → (C → Known) → (C → Call → Answer → C → Type 0) → Doing C → Type 0 → Type 0 → Type 0
    → Type 0
ProgramsGoThrough {C} known goes does A T E =
    (fault : E) (r s : Standing C) (p : Program A) (result : Result T E) (give : T → A)
    → Performs (Goes (stood_for known) (Steps goes does)) fault r p result give s
    → Performs (Carries known goes) fault r.stood p result give s.stood

-- A law: a client that has failed is lost; and each call of a lost client wants memory, and leaves all as it is.
pub record LostClientsStayLost {C : Type 0} (goes : C → Call → Answer → C → Type 0) (does : Doing C) : Type 0 where
  pub lost : (r s : Standing C) (c : Call) (by_fault : _) → Steps goes does r c (Answer.failed by_fault) s → s.lost ≡ true
  pub silent : (r s : Standing C) (c : Call) (a : Answer) → r.lost ≡ true → Steps goes does r c a s
      → (a ≡ Answer.failed false) × (s ≡ r)

-- ---- worked lines

-- what ends at once is done without a call, here as there
through-example :
    {C : Type 0} (known : C → Known) (goes : C → Call → Answer → C → Type 0) (x : C) (y : C)
    → Carries known goes x Call.wait (Answer.failed true) y ≡ (y ≡ x)
through-example known goes x y = refl
