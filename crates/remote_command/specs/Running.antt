-- What a session here over a store elsewhere promises, by the status that it ends with.
use Rattle.std.specs.Prelude.{◌≡◌, ◌⊎◌, ℕ, List, Err}
use Rattle.dio_core.specs.declared.sink.Sink.{Ghosts as SinkTells}
use Rattle.dio_core.specs.declared.source.Source.{Ghosts as SourceTells}
use Rattle.dio_core.specs.Links.{Both, Outgoing, incoming, outgoing}
use Rattle.txn_grammar.specs.Characters.{Text}
use Rattle.docc_prepare.specs.declared.backend.StoreError.{StoreError}
use Rattle.docc_prepare.specs.declared.backend.StoreError.TheVariants as store_error
use Rattle.docc_prepare.specs.Calls.{Known, Call, Answer}
use Rattle.script_runner.specs.declared.status.TheConstants.{NO_MEMORY}
use Rattle.diamond_server.specs.declared.status.TheConstants.{STORE_FAULT}
use Rattle.diamond_server.specs.Talking.{Told}
use Rattle.diamond_server.specs.Promises.{IsServed, IsCutShort, Promises}
use Rattle.remote_wire.specs.declared.request.Request.TheVariants as request
use Rattle.remote_calls.specs.Calling.{Doing}
use Rattle.remote_client.specs.Standing.{Standing, stood_for, Steps}
use Rattle.remote_client.specs.Opening.{Begins}

-- ---- both ends of a session

-- a source and a sink, as the two sides of one link
abbrev pub ends : {S W : Type 0} → SourceTells S → SinkTells W → S → W → Both
ends source sink s w = record {
  inwards = incoming (source.left s) (source.read_faults s);
  outwards = outgoing (sink.taken w) (sink.passed w) (sink.write_faults w);
}

-- ---- over any caller

-- A SESSION WAS HELD: a client greeted by this caller, and then did the lines that were read, each call by a step of what it asks;
-- behind it the caller is this one.
pub record IsHeld {C : Type 0} (known : C → Known) (home : C → ℕ) (goes : C → Call → Answer → C → Type 0) (does : Doing C) (caller back : C)
    (x y : Both) (Reads : List Told → Text → Text → Type 0) : Type 0 where
  pub opened : Standing C
  pub ended : Standing C
  pub begins : Begins known home does caller opened
  pub served : IsServed (stood_for known) (Steps goes does) opened ended x y Reads
  pub back_is : back ≡ ended.caller

-- THE SAME OF A SESSION THAT WAS CUT SHORT: of its output so much was taken, by the sink, and nothing else.
pub record IsHeldShort {C : Type 0} (known : C → Known) (home : C → ℕ) (goes : C → Call → Answer → C → Type 0) (does : Doing C)
    (caller back : C) (x y : Both) (Takes : List Told → Outgoing → Outgoing → Type 0) : Type 0 where
  pub opened : Standing C
  pub ended : Standing C
  pub begins : Begins known home does caller opened
  pub cut : IsCutShort (stood_for known) (Steps goes does) (stood_for known ended) opened ended x y Takes
  pub back_is : back ≡ ended.caller

-- Where the greeting failed nothing was read, and nothing written.
pub record IsUngreeted {C : Type 0} (does : Doing C) (caller back : C) (x y : Both) : Type 0 where
  pub error : StoreError
  pub failed : does caller request.Hello (Err error) back
  pub same : y ≡ x

-- one or the other
abbrev pub IsCutOver : {C : Type 0} → (C → Known) → (C → ℕ) → (C → Call → Answer → C → Type 0) → Doing C → C → C → Both → Both
    → (List Told → Outgoing → Outgoing → Type 0) → Type 0
IsCutOver known home goes does caller back x y Takes =
    IsHeldShort known home goes does caller back x y Takes ⊎ IsUngreeted does caller back x y

-- WHAT A SESSION OVER A CALLER PROMISES: all that a session over a link to its own store does, but that its client has greeted first. At
-- 6 the caller has counted a fault.
abbrev pub KeepsOver : {C : Type 0} → (C → Known) → (C → ℕ) → (C → Call → Answer → C → Type 0) → Doing C → C → C → ℕ → Both → Both → Type 0
KeepsOver known home goes does caller back status x y =
    Promises (IsHeld known home goes does caller back x y) (IsCutOver known home goes does caller back x y) (known caller) (known back) status x y

-- the status of a session whose client isn't greeted
abbrev pub failure : StoreError → ℕ
failure store_error.Fault = STORE_FAULT
failure store_error.NoMemory = NO_MEMORY
