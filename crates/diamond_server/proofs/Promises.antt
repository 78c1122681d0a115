-- What a session over a link promises at each of its ends.
use Rattle.std.proofs.Common.{◌≡◌, ℕ, ◌≤◌, ◌⊎◌, Bool, true, false, List, [], ◌∷◌, length, Option, Some, None, Result, Ok, Err, refl, ap, sym, subst}
use Rattle.std.proofs.Common.{inl, inr, arith, length-append}
use Rattle.std.specs.Prelude.{◌==◌, IsTrue}
use Rattle.std.specs.List.{list_any}
use Rattle.std.proofs.lemmas.List.{length-map}
use Rattle.plain_data.specs.declared.or_no_memory.OrNoMemory.TheVariants as stop
use Rattle.dio_core.specs.Told.{WhereTold}
use Rattle.dio_core.specs.Counts.{Rose, IsCounted}
use Rattle.dio_core.specs.Lines.{lines, line_of as cut_of}
use Rattle.dio_core.specs.Links.{Both}
use Rattle.txn_grammar.specs.Characters.{Text}
use Rattle.docc_prepare.specs.Calls.{Known, Call, Answer}
use Rattle.script_runner.specs.declared.status.TheConstants.{WHOLE, READ_FAULT, WRITE_FAULT, NO_MEMORY, TOO_MANY_LINES}
use Rattle.script_runner.specs.declared.stop.TheConstants.{MOST_LINES}
use Rattle.diamond_server.specs.declared.status.TheConstants.{STORE_FAULT}
use Rattle.diamond_server.specs.declared.status.Cause.TheVariants as cause
use Rattle.diamond_server.specs.Talking.{Told, line_told}
use Rattle.diamond_server.specs.Promises.{ReadsToTheEnd, ReadsUpToAFault, ReadsOneMore, TakesPart, TakesWhole, IsServed, IsCutShort, KeepsPromises}
use Rattle.diamond_server.specs.Promises.{TellsStoreFault}
use Rattle.diamond_server.specs.code.Serving.{Stop, status_of, Ends}

-- one of two facts, by a test
abbrev Choice : Bool → Type 0 → Type 0 → Type 0
Choice true A B = A
Choice false A B = B

-- an input of which one line more was read has more lines than may be read
over-most : (tolds : List Told) (all rest : Text) → ReadsOneMore tolds all rest → length (lines all) ≤ MOST_LINES → ⊥
over-most tolds all rest over few =
    omega (
      arith,
      ap length over.read.read,
      length-append over.read.raws (lines over.behind),
      ap length over.more,
      length-map over.read.raws cut_of,
      ap length over.read.cut,
      length-map tolds line_told,
      over.most,
    )

-- the same of a link that may not tell
told-over-most : (tolds : List Told) (left left_then : Option Text) → WhereTold (ReadsOneMore tolds) left left_then
    → (all : Text) → left ≡ Some all → length (lines all) ≤ MOST_LINES → ⊥
told-over-most tolds None left_then over all is few = absurd (let no : ⊥ = cc in no)
told-over-most tolds (Some bytes) None over all is few = absurd over
told-over-most tolds (Some bytes) (Some rest) over all is few =
    let same : bytes ≡ all = cc in
    over-most tolds bytes rest over (subst (λ (b : Text). length (lines b) ≤ MOST_LINES) (sym same) few)

module _ {B : Type 0} (known : B → Known) (goes : B → Call → Answer → B → Type 0) (old new : B) (x y : Both) where
  -- what a status says, counts of the link aside
  abbrev Says : ℕ → Type 0
  Says status =
      Choice (status == WHOLE) (IsServed known goes old new x y ReadsToTheEnd)
      (Choice (status == READ_FAULT) (IsServed known goes old new x y ReadsUpToAFault)
      (Choice (status == WRITE_FAULT) (IsCutShort known goes (known new) old new x y TakesPart)
      (Choice (status == NO_MEMORY) (IsCutShort known goes (known new) old new x y TakesWhole)
      (Choice (status == STORE_FAULT) (IsCutShort known goes (known new) old new x y TakesWhole × Rose (known old).faults (known new).faults)
      (Choice (status == TOO_MANY_LINES) (IsServed known goes old new x y ReadsOneMore) (Unit {0}))))))

  -- with at most the most lines and no count that rose, the status is 0 or 5
  abbrev Completes : ℕ → Type 0
  Completes status = (all : Text) → x.inwards.left ≡ Some all → length (lines all) ≤ MOST_LINES → ¬ (Rose x.inwards.faults y.inwards.faults)
      → ¬ (Rose x.outwards.faults y.outwards.faults) → ¬ (Rose (known old).faults (known new).faults) → (status ≡ WHOLE) ⊎ (status ≡ NO_MEMORY)

  -- so a session keeps its promises: each speaks of statuses at which what is said has it
  promises : (status : ℕ)
      → IsTrue (list_any (λ s. s == status) (WHOLE ∷ READ_FAULT ∷ WRITE_FAULT ∷ NO_MEMORY ∷ STORE_FAULT ∷ TOO_MANY_LINES ∷ []))
      → Says status → IsCounted (status == READ_FAULT) x.inwards.faults y.inwards.faults
      → IsCounted (status == WRITE_FAULT) x.outwards.faults y.outwards.faults → Completes status
      → KeepsPromises known goes status old new x y
  promises status one says reads writes completes = record {
    statuses = one;
    whole = λ is. at WHOLE is;
    broken_off = λ is. at READ_FAULT is;
    too_many = λ is. at TOO_MANY_LINES is;
    cut_off = λ is. at WRITE_FAULT is;
    stalled = λ is. at NO_MEMORY is;
    failed = λ is. (at STORE_FAULT is).0;
    reads = reads;
    writes = writes;
    store_failed = λ is. (at STORE_FAULT is).1;
    completes = completes;
  }
    where
      at : (s : ℕ) → status ≡ s → Says s
      at s is = subst Says is says

  -- A session keeps its promises, however its lines ended.
  pub keeps_promises : (ended : Result (Unit {0}) Stop) → Ends known goes ended old x new y → KeepsPromises known goes (status_of ended) old new x y
  keeps_promises (Ok done) ends = promises WHOLE refl ends.0 ends.1.0 ends.1.1 (λ all is few well written kept. inl refl)
  keeps_promises (Err stop.NoMemory) ends = promises NO_MEMORY refl ends.0 ends.1.0 ends.1.1 (λ all is few well written kept. inr refl)
  keeps_promises (Err (stop.Cause cause.ReadFault)) ends =
      promises READ_FAULT refl ends.0 ends.1 ends.2 (λ all is few well written kept. absurd (well ends.1))
  keeps_promises (Err (stop.Cause cause.WriteFault)) ends =
      promises WRITE_FAULT refl ends.0 ends.1 ends.2 (λ all is few well written kept. absurd (written ends.2))
  keeps_promises (Err (stop.Cause cause.StoreFault)) ends =
      promises STORE_FAULT refl (ends.0, ends.2) ends.1.0 ends.1.1 (λ all is few well written kept. absurd (kept ends.2))
  keeps_promises (Err (stop.Cause cause.TooManyLines)) ends =
      promises TOO_MANY_LINES refl ends.0 ends.1.0 ends.1.1 (λ all is few well written kept.
      absurd (told-over-most ends.0.tolds x.inwards.left y.inwards.left ends.0.heard.reads all is few))

  -- It tells a fault of the store exactly where that was counted, unless a write has failed.
  pub tells_fault : (ended : Result (Unit {0}) Stop) → Ends known goes ended old x new y → TellsStoreFault (known old) (known new) (status_of ended)
  tells_fault (Ok done) ends written = ends.0.accounted.faults
  tells_fault (Err stop.NoMemory) ends written = ends.2
  tells_fault (Err (stop.Cause cause.ReadFault)) ends written = ends.0.accounted.faults
  tells_fault (Err (stop.Cause cause.WriteFault)) ends written = absurd (written refl)
  tells_fault (Err (stop.Cause cause.StoreFault)) ends written = ends.2
  tells_fault (Err (stop.Cause cause.TooManyLines)) ends written = ends.0.accounted.faults
