-- What a remote client begins as.
use Rattle.std.specs.Prelude.{◌≡◌, ℕ, IfSome, Result, Ok, Err}
use Rattle.dio_core.specs.Counts.{IsCounted}
use Rattle.docc_prepare.specs.declared.backend.StoreError.{StoreError}
use Rattle.docc_prepare.specs.Calls.{Known}
use Rattle.remote_wire.specs.declared.request.Request.TheVariants as request
use Rattle.remote_wire.specs.declared.answer.WireAnswer.{WireAnswer}
use Rattle.remote_calls.specs.Calling.{IsWhole, Doing, is_fault_error}
use Rattle.remote_client.specs.Standing.{Standing, standing}

-- It stands for what its caller did, but for the client, the shards and what is seen, which the greeting has told. A journal that is
-- told is legal, and what was seen is there; and who tells it is greeted as what it is.
pub record Begins {C : Type 0} (known : C → Known) (home : C → ℕ) (does : Doing C) (caller : C) (r : Standing C) : Type 0 where
  pub well : r ≡ standing r.stood
  pub answer : WireAnswer
  pub greeted : does caller request.Hello (Ok answer) r.stood
  pub known_is : known r.stood ≡ record (known caller) {
    client = (known r.stood).client;
    shards = (known r.stood).shards;
    seen = (known r.stood).seen;
  }
  pub whole : IfSome (known r.stood).journal (IsWhole (known r.stood))
  pub same : IfSome (known caller).journal (λ journal. known r.stood ≡ known caller)
  pub home_is : home r.stood ≡ home caller

-- the greeting failed: the caller is given back, and has counted its fault, if it failed by one
pub record IsGivenBack {C : Type 0} (known : C → Known) (home : C → ℕ) (does : Doing C) (caller : C) (back : C × StoreError)
    : Type 0 where
  pub ungreeted : does caller request.Hello (Err back.1) back.0
  pub faults : IsCounted (is_fault_error back.1) (known caller).faults (known back.0).faults
  pub home_is : home back.0 ≡ home caller

-- WHAT A GREETING COMES TO: a client, or its caller again.
abbrev pub IsOpened : {C : Type 0} → (C → Known) → (C → ℕ) → Doing C → C → Result (Standing C) (C × StoreError) → Type 0
IsOpened known home does caller (Ok r) = Begins known home does caller r
IsOpened known home does caller (Err back) = IsGivenBack known home does caller back
