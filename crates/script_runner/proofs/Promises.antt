-- What a run of a script promises at each of its ends.
use Rattle.std.proofs.Common.{◌≡◌, ℕ, ◌≤◌, ◌⊎◌, Bool, true, false, [], ◌∷◌, length, Option, Some, None, Result, Ok, Err, refl, ap, sym, ◌∙◌, subst}
use Rattle.std.proofs.Common.{inl, inr, arith, length-append}
use Rattle.std.proofs.lemmas.Bool.{false≢true}
use Rattle.std.specs.Prelude.{◌==◌, IsTrue, IfSome}
use Rattle.std.specs.List.{list_any}
use Rattle.plain_data.specs.declared.or_no_memory.OrNoMemory.{OrNoMemory}
use Rattle.plain_data.specs.declared.or_no_memory.OrNoMemory.TheVariants as stop
use Rattle.dio_core.specs.Told.{WhereTold}
use Rattle.dio_core.specs.Counts.{Rose, IsCounted}
use Rattle.dio_core.specs.Lines.{lines}
use Rattle.dio_core.specs.Sinks.{IsPassedOn}
use Rattle.dio_core.proofs.Told.{WhereTold-map}
use Rattle.rdt_types.specs.declared.settings.Settings.{Settings}
use Rattle.txn_grammar.specs.Characters.{Text}
use Rattle.script_runner.specs.declared.status.TheConstants.{WHOLE, READ_FAULT, WRITE_FAULT, NO_MEMORY, TOO_MANY_LINES}
use Rattle.script_runner.specs.declared.stop.TheConstants.{MOST_LINES}
use Rattle.script_runner.specs.declared.stop.Cause.{Cause}
use Rattle.script_runner.specs.declared.stop.Cause.TheVariants as cause
use Rattle.script_runner.specs.Script.{Reading, Writing, IsPlayed, IsBrokenOff, HasTooManyLines, IsCutOff, IsCutOffBehindLine, HasPassedOn}
use Rattle.script_runner.specs.Script.{TriesFlush, KeepsPromises}
use Rattle.script_runner.specs.code.Turns.{read_stopped, write_stopped, Ends, Closes}
use Rattle.script_runner.proofs.Plays.{cut_whole, cut_unread, unread-between}
use Rattle.script_runner.proofs.Standing.{played_is_legal}
use Rattle.script_runner.proofs.Telling.{scripts_are_explained}

-- an input with a line too many has more lines than may be read
too_many-lines : (settings : Settings) (taken taken_then : Option Text) (all rest : Text)
    → HasTooManyLines settings taken taken_then all rest
    → length (lines all) ≤ MOST_LINES → ⊥
too_many-lines settings taken taken_then all rest many few =
    omega (arith, ap length many.read, length-append many.raws (many.next ∷ lines rest), many.most)

-- the same of a source that may not tell
told_too_many : (settings : Settings) (taken taken_then left left_then : Option Text)
    → WhereTold (HasTooManyLines settings taken taken_then) left left_then
    → (all : Text) → left ≡ Some all → length (lines all) ≤ MOST_LINES → ⊥
told_too_many settings taken taken_then None left_then many all is few = absurd (let no : ⊥ = cc in no)
told_too_many settings taken taken_then (Some bytes) None many all is few = absurd many
told_too_many settings taken taken_then (Some bytes) (Some rest) many all is few =
    let same : bytes ≡ all = cc in
    too_many-lines settings taken taken_then bytes rest many (subst (λ (b : Text). length (lines b) ≤ MOST_LINES) (sym same) few)

-- one of two facts, by a test
abbrev Choice : Bool → Type 0 → Type 0 → Type 0
Choice true A B = A
Choice false A B = B

module _ (settings : Settings) (r : Reading) (w : Writing) where
  -- what a status says of the two streams, counts of reads aside
  abbrev Says : ℕ → Type 0
  Says status =
      Choice (status == WHOLE) (WhereTold (IsPlayed settings w.taken w.taken_then) r.left r.left_then
      × IsPassedOn w.taken_then w.passed_then × (w.faults_then ≡ w.faults))
      (Choice (status == READ_FAULT) (WhereTold (IsBrokenOff settings w.taken w.taken_then) r.left r.left_then × TriesFlush w)
      (Choice (status == WRITE_FAULT) (WhereTold (IsCutOffBehindLine settings w.taken w.taken_then) r.left r.left_then
      × Rose w.faults w.faults_then)
      (Choice (status == NO_MEMORY) (WhereTold (IsCutOff settings w.taken w.taken_then) r.left r.left_then
      × (w.faults_then ≡ w.faults))
      (WhereTold (HasTooManyLines settings w.taken w.taken_then) r.left r.left_then × TriesFlush w))))

  -- with at most the most lines and no count that rose, the status is 0 or 5
  abbrev Completes : ℕ → Type 0
  Completes status = (all : Text) → r.left ≡ Some all → length (lines all) ≤ MOST_LINES → ¬ (Rose r.faults r.faults_then)
      → ¬ (Rose w.faults w.faults_then) → (status ≡ WHOLE) ⊎ (status ≡ NO_MEMORY)

  -- so a run keeps its promises: each speaks of statuses at which what is said has it
  promises : (status : ℕ) → IsTrue (list_any (λ s. s == status) (WHOLE ∷ READ_FAULT ∷ WRITE_FAULT ∷ NO_MEMORY ∷ TOO_MANY_LINES ∷ []))
      → Says status → IsCounted (status == READ_FAULT) r.faults r.faults_then → Completes status
      → (status ≡ NO_MEMORY → IfSome r.left (HasPassedOn settings w)) → KeepsPromises settings status r w
  promises status one says reads completes between = record {
    statuses = one;
    whole = λ is. (at WHOLE is).0;
    flushed = λ is. (at WHOLE is).1;
    legal = played_is_legal settings r.left;
    explained = scripts_are_explained settings r.left;
    broken_off = λ is. (at READ_FAULT is).0;
    too_many = λ is. (at TOO_MANY_LINES is).0;
    unwritten = λ is. (at WRITE_FAULT is).0;
    wanting = λ is. (at NO_MEMORY is).0;
    passed_on = between;
    reads = reads;
    write_fault = λ is. (at WRITE_FAULT is).1;
    no_write_fault = λ is. elim is [ inl e ↦ (at WHOLE e).2 | inr e ↦ (at NO_MEMORY e).1 ];
    tried = λ is. elim is [ inl e ↦ (at READ_FAULT e).1 | inr e ↦ (at TOO_MANY_LINES e).1 ];
    completes = completes;
  }
    where
      at : (s : ℕ) → status ≡ s → Says s
      at s is = subst Says is says

  -- how the lines ended and what the end of the run then did, from what had been taken and counted after the lines
  abbrev Closed : {A : Type 0} → Result A (OrNoMemory Cause) → ℕ → Option Text → ℕ → Type 0
  Closed ended status taken faults = Closes ended status (record w { taken = taken; faults = faults })

  -- A run keeps its promises, however its lines ended.
  pub keeps_promises : {A : Type 0} (ended : Result A (OrNoMemory Cause)) (status : ℕ) (taken : Option Text) (faults : ℕ)
      → WhereTold (Ends settings ended w.taken w.taken_then) r.left r.left_then
      → IsCounted (read_stopped ended) r.faults r.faults_then → IsCounted (write_stopped ended) w.faults faults
      → Closed ended status taken faults → (ended ≡ Err stop.NoMemory → IfSome r.left (HasPassedOn settings w)) → KeepsPromises settings status r w
  keeps_promises (Ok done) status taken faults ends reads writes (inl closed) between =
      subst (λ s. KeepsPromises settings s r w) (sym closed.0)
      (promises WHOLE refl (ends, closed.2, closed.1 ∙ writes) reads (λ all is few well written. inl refl) (λ is. absurd (cc is)))
  keeps_promises (Ok done) status taken faults ends reads writes (inr closed) between =
      let rose = subst (λ n. Rose n w.faults_then) writes closed.1 in
      subst (λ s. KeepsPromises settings s r w) (sym closed.0)
      (promises WRITE_FAULT refl (WhereTold-map r.left r.left_then (cut_whole settings w.taken w.taken_then) ends, rose) reads
      (λ all is few well written. absurd (written rose)) (λ is. absurd (cc is)))
  keeps_promises (Err stop.NoMemory) status taken faults ends reads writes closed between =
      subst (λ s. KeepsPromises settings s r w) (sym closed.0)
      (promises NO_MEMORY refl (ends, closed.1 ∙ writes) reads (λ all is few well written. inr refl) (λ is. between refl))
  keeps_promises (Err (stop.Cause cause.WriteFault)) status taken faults ends reads writes closed between =
      let rose = subst (λ n. Rose w.faults n) (sym closed.1) writes in
      subst (λ s. KeepsPromises settings s r w) (sym closed.0)
      (promises WRITE_FAULT refl (ends, rose) reads (λ all is few well written. absurd (written rose)) (λ is. absurd (cc is)))
  keeps_promises (Err (stop.Cause cause.ReadFault)) status taken faults ends reads writes closed between =
      let tried = subst (λ n. TriesFlush (record w { faults = n })) writes closed.1 in
      subst (λ s. KeepsPromises settings s r w) (sym closed.0)
      (promises READ_FAULT refl (ends, tried) reads (λ all is few well written. absurd (well reads)) (λ is. absurd (cc is)))
  keeps_promises (Err (stop.Cause cause.TooManyLines)) status taken faults ends reads writes closed between =
      let tried = subst (λ n. TriesFlush (record w { faults = n })) writes closed.1 in
      subst (λ s. KeepsPromises settings s r w) (sym closed.0)
      (promises TOO_MANY_LINES refl (ends, tried) reads
      (λ all is few well written. absurd (told_too_many settings w.taken w.taken_then r.left r.left_then ends all is few)) (λ is. absurd (cc is)))

-- a run for which there was no memory before it read or wrote
pub unstarted : (settings : Settings) (left taken passed : Option Text) (reads writes : ℕ) → KeepsPromises settings NO_MEMORY
    (record { left = left; left_then = left; faults = reads; faults_then = reads })
    (record { taken = taken; taken_then = taken; passed_then = passed; faults = writes; faults_then = writes })
unstarted settings left taken passed reads writes = keeps_promises settings
    (record { left = left; left_then = left; faults = reads; faults_then = reads })
    (record { taken = taken; taken_then = taken; passed_then = passed; faults = writes; faults_then = writes })
    {A = Option ℕ} (Err stop.NoMemory) NO_MEMORY taken writes (cut_unread settings left taken) refl refl (refl, refl) (λ is. unread-between settings left _ refl)

-- the status of the words is none of a run's
pub no-words-status : (settings : Settings) (status : ℕ) (r : Reading) (w : Writing) → KeepsPromises settings status r w → status ≡ 1 → ⊥
no-words-status settings status r w keeps e =
    false≢true (subst (λ (s : ℕ). IsTrue (list_any (λ t. t == s) (WHOLE ∷ READ_FAULT ∷ WRITE_FAULT ∷ NO_MEMORY ∷ TOO_MANY_LINES ∷ []))) e keeps.statuses)
