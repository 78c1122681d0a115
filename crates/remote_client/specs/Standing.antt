-- What a client far from its store is, what it stands for, and by what its calls go.
use Rattle.std.specs.Prelude.{◌≡◌, ◌⊎◌, ℕ, ◌≤◌, Bool, true, false, Err, IfSome, refl}
use Rattle.rdt_types.specs.declared.limits.TheConstants.{LEAST_SHARDS, MOST_SHARDS}
use Rattle.docc_prepare.specs.declared.backend.StoreError.{StoreError}
use Rattle.docc_prepare.specs.Calls.{Known, Call, Answer}
use Rattle.remote_calls.specs.Spelled.{request_for}
use Rattle.remote_calls.specs.Calling.{IsWhole, Doing, is_fault_error}

-- A REMOTE CLIENT: its caller as it is, the caller as it was when it last answered, and whether a call has failed.
pub record Standing (C : Type 0) : Type 0 where
  pub caller : C
  pub stood : C
  pub lost : Bool

-- the client of a caller that has answered, none of whose calls has failed
abbrev pub standing : {C : Type 0} → C → Standing C
standing x = record { caller = x; stood = x; lost = false }

-- WHAT IT STANDS FOR: what its caller stood for when it last answered; but the faults are those counted until now.
abbrev pub stood_for : {C : Type 0} → (C → Known) → Standing C → Known
stood_for known r = record (known r.stood) { faults = (known r.caller).faults }

-- ---- its calls

-- An answered call went by a step of the caller. None has failed before it, and it hasn't.
pub record HasStepped {C : Type 0} (goes : C → Call → Answer → C → Type 0) (r : Standing C) (c : Call) (a : Answer)
    (s : Standing C) : Type 0 where
  pub before : r ≡ standing r.stood
  pub step : goes r.stood c a s.stood
  pub behind : s ≡ standing s.stood

-- The caller was asked the request that spells the call, and that failed, by a fault or not.
pub record AskedInVain {C : Type 0} (does : Doing C) (x : C) (c : Call) (by_fault : Bool) (y : C) : Type 0 where
  pub error : StoreError
  pub fault : is_fault_error error ≡ by_fault
  pub asked : does x (request_for c) (Err error) y

-- A call that has failed leaves what the client stands for, and from then on the client is lost: each call wants memory and
-- does nothing. Of the caller nothing was asked, or the one request.
pub record HasFailed {C : Type 0} (does : Doing C) (r : Standing C) (c : Call) (by_fault : Bool) (s : Standing C) : Type 0
  where
    pub stood : s.stood ≡ r.stood
    pub lost : s.lost ≡ true
    pub silent : r.lost ≡ true → (by_fault ≡ false) × (s ≡ r)
    pub asked : (s.caller ≡ r.caller) ⊎ AskedInVain does r.caller c by_fault s.caller

-- BY WHAT ITS CALLS GO: an answered one by a step of its caller, and one that failed by none.
abbrev pub Steps : {C : Type 0} → (C → Call → Answer → C → Type 0) → Doing C → Standing C → Call → Answer → Standing C
    → Type 0
Steps goes does r c (Answer.failed by_fault) s = HasFailed does r c by_fault s
Steps goes does r c a s = HasStepped goes r c a s

-- ---- what it keeps

-- Until a call has failed, its caller is as it was when it last answered; and what the client says of itself is true.
pub record IsStanding {C : Type 0} (known : C → Known) (home : C → ℕ) (r : Standing C) (client shards seen : ℕ)
    : Type 0 where
  pub same : r.lost ≡ false → r.stood ≡ r.caller
  pub client_is : client ≡ (known r.stood).client
  pub shards_are : shards ≡ (known r.stood).shards
  pub in_range : (LEAST_SHARDS ≤ shards) × (shards ≤ MOST_SHARDS)
  pub seen_is : seen ≡ (known r.stood).seen
  pub whole : IfSome (known r.stood).journal (IsWhole (known r.stood))
  pub home_is : home r.stood ≡ home r.caller

-- ---- worked lines

-- a client that is well stands for what its caller does
stood-example : {C : Type 0} (known : C → Known) (x : C) → stood_for known (standing x) ≡ known x
stood-example known x = refl

-- an answered call takes the caller from one state to the next
steps-example :
    {C : Type 0} (goes : C → Call → Answer → C → Type 0) (does : Doing C) (x y : C) → goes x Call.refresh (Answer.number 3) y
    → Steps goes does (standing x) Call.refresh (Answer.number 3) (standing y)
steps-example goes does x y step = record { before = refl; step = step; behind = refl }
