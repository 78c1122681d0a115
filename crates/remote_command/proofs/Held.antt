-- What a session over a remote client promises of its caller.
use Rattle.std.proofs.Common.{◌≡◌, ℕ, List, inl, inr, refl, sym, ap, ◌∙◌, subst}
use Rattle.std.specs.Prelude.{[], Option, None, Err, IfSome}
use Rattle.dio_core.specs.Counts.{Rose, IsCounted}
use Rattle.dio_core.specs.declared.sink.Sink.{Ghosts as SinkTells}
use Rattle.dio_core.specs.declared.source.Source.{Ghosts as SourceTells}
use Rattle.dio_core.specs.Links.{Both, Outgoing}
use Rattle.txn_grammar.specs.Characters.{Text}
use Rattle.txn_lang.specs.States.{Journal}
use Rattle.txn_lang.specs.Journals.{own}
use Rattle.docc_prepare.specs.declared.backend.StoreError.{StoreError}
use Rattle.docc_prepare.specs.declared.backend.StoreError.TheVariants as store_error
use Rattle.docc_prepare.specs.Calls.{Known, Call, Answer}
use Rattle.docc_prepare.specs.Readable.{IsNew}
use Rattle.diamond_server.specs.Talking.{Told}
use Rattle.diamond_server.specs.Promises.{IsServed, IsCutShort, KeepsPromises}
use Rattle.remote_wire.specs.declared.request.Request.TheVariants as request
use Rattle.remote_calls.specs.Calling.{Doing, is_fault_error}
use Rattle.remote_client.specs.Standing.{Standing, stood_for, Steps}
use Rattle.remote_client.specs.Opening.{Begins}
use Rattle.remote_command.specs.Running.{ends, IsHeld, IsCutOver, KeepsOver, failure}

-- who tells no journal is new
untold-new : (k : Known) → k.journal ≡ None → IsNew k
untold-new k none = subst (λ (o : Option Journal). IfSome o (λ journal. own k.client journal ≡ [])) (sym none) tt

module _ {S W C : Type 0} (source : SourceTells S) (sink : SinkTells W) (known : C → Known) (goes : C → Call → Answer → C → Type 0) where
  -- a session over the two that were joined is one over these two, as they were and as they are given back
  pub at-ends : (status : ℕ) (old new : C) (j k : S × W) (s t : S) (u v : W) → j ≡ (s, u) → t ≡ k.0 → v ≡ k.1
      → KeepsPromises known goes status old new (ends source sink j.0 j.1) (ends source sink k.0 k.1)
      → KeepsPromises known goes status old new (ends source sink s u) (ends source sink t v)
  at-ends status old new j k s t u v was is_source is_sink p =
      subst (λ (x : S × W). KeepsPromises known goes status old new (ends source sink x.0 x.1) (ends source sink t v)) was
      (subst (λ (a : S). KeepsPromises known goes status old new (ends source sink j.0 j.1) (ends source sink a v)) (sym is_source)
      (subst (λ (b : W). KeepsPromises known goes status old new (ends source sink j.0 j.1) (ends source sink k.0 b)) (sym is_sink) p))

  -- so it is where they are what was lent
  pub at-lent : (status : ℕ) (old new : C) (s t a : S) (u v b : W) → a ≡ t → b ≡ v
      → KeepsPromises known goes status old new (ends source sink s u) (ends source sink t v)
      → KeepsPromises known goes status old new (ends source sink s u) (ends source sink a b)
  at-lent status old new s t a u v b is_source is_sink p =
      subst (λ (x : S). KeepsPromises known goes status old new (ends source sink s u) (ends source sink x b)) (sym is_source)
      (subst (λ (x : W). KeepsPromises known goes status old new (ends source sink s u) (ends source sink t x)) (sym is_sink) p)

module _ {C : Type 0} (known : C → Known) (home : C → ℕ) (goes : C → Call → Answer → C → Type 0) (does : Doing C) (caller : C) where
  -- so it is behind the greeting of a caller that doesn't tell
  pub opened-new : (opened : Standing C) → (known caller).journal ≡ None → Begins known home does caller opened → IsNew (stood_for known opened)
  opened-new opened none begins =
      untold-new (stood_for known opened) (ap (λ (k : Known). k.journal) begins.known_is ∙ none)

  -- the greeting has counted no fault
  opened-faults : (opened : Standing C) → Begins known home does caller opened → (stood_for known opened).faults ≡ (known caller).faults
  opened-faults opened begins =
      ap (λ (r : Standing C). (known r.caller).faults) begins.well ∙ ap (λ (k : Known). k.faults) begins.known_is

  -- behind a greeting: the promises of the session are those of its client's caller
  pub over-opened : (opened ended : Standing C) (status : ℕ) (x y : Both) → Begins known home does caller opened
      → KeepsPromises (stood_for known) (Steps goes does) status opened ended x y → KeepsOver known home goes does caller ended.caller status x y
  over-opened opened ended status x y begins p = record {
    statuses = p.statuses;
    whole = λ is. held (p.whole is);
    broken_off = λ is. held (p.broken_off is);
    too_many = λ is. held (p.too_many is);
    cut_off = λ is. short (p.cut_off is);
    stalled = λ is. short (p.stalled is);
    failed = λ is. short (p.failed is);
    reads = p.reads;
    writes = p.writes;
    store_failed = λ is. subst (λ (n : ℕ). Rose n (known ended.caller).faults) (opened-faults opened begins) (p.store_failed is);
    completes = λ all left few reads writes faults.
        p.completes all left few reads writes (subst (λ (n : ℕ). Rose n (known ended.caller).faults → ⊥) (sym (opened-faults opened begins)) faults);
  }
    where
      held : {Reads : List Told → Text → Text → Type 0} → IsServed (stood_for known) (Steps goes does) opened ended x y Reads
          → IsHeld known home goes does caller ended.caller x y Reads
      held served = record { opened = opened; ended = ended; begins = begins; served = served; back_is = refl }

      short : {Takes : List Told → Outgoing → Outgoing → Type 0}
          → IsCutShort (stood_for known) (Steps goes does) (stood_for known ended) opened ended x y Takes
          → IsCutOver known home goes does caller ended.caller x y Takes
      short cut = inl (record { opened = opened; ended = ended; begins = begins; cut = cut; back_is = refl })

  -- so they are of the caller that is given back
  pub over-closed : (opened ended : Standing C) (back : C) (status : ℕ) (x y : Both) → back ≡ ended.caller → Begins known home does caller opened
      → KeepsPromises (stood_for known) (Steps goes does) status opened ended x y → KeepsOver known home goes does caller back status x y
  over-closed opened ended back status x y is begins p =
      subst (λ (b : C). KeepsOver known home goes does caller b status x y) (sym is) (over-opened opened ended status x y begins p)

  -- without a greeting nothing was read and nothing was written
  pub over-unopened : (back : C) (e : StoreError) (x : Both) → does caller request.Hello (Err e) back
      → IsCounted (is_fault_error e) (known caller).faults (known back).faults → KeepsOver known home goes does caller back (failure e) x x
  over-unopened back store_error.Fault x failed counted = record {
    statuses = refl;
    whole = λ is. absurd (cc is);
    broken_off = λ is. absurd (cc is);
    too_many = λ is. absurd (cc is);
    cut_off = λ is. absurd (cc is);
    stalled = λ is. absurd (cc is);
    failed = λ is. inr (record { error = store_error.Fault; failed = failed; same = refl });
    reads = refl;
    writes = refl;
    store_failed = λ is. counted;
    completes = λ all left few reads writes faults. absurd (faults counted);
  }
  over-unopened back store_error.NoMemory x failed counted = record {
    statuses = refl;
    whole = λ is. absurd (cc is);
    broken_off = λ is. absurd (cc is);
    too_many = λ is. absurd (cc is);
    cut_off = λ is. absurd (cc is);
    stalled = λ is. inr (record { error = store_error.NoMemory; failed = failed; same = refl });
    failed = λ is. absurd (cc is);
    reads = refl;
    writes = refl;
    store_failed = λ is. absurd (cc is);
    completes = λ all left few reads writes faults. inr refl;
  }
