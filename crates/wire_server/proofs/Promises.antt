-- What the serving of requests promises at each of its ends.
use Rattle.std.proofs.Common.{◌≡◌, ℕ, ◌≤◌, ◌⊎◌, Bool, true, false, List, [], ◌∷◌, ◌++◌, map, length, Option, Some, None, Result, Ok, Err, refl, ap, sym, ◌∙◌, subst}
use Rattle.std.proofs.Common.{inl, inr, arith, append_assoc, length-append}
use Rattle.std.specs.Prelude.{◌==◌, IsTrue}
use Rattle.std.specs.List.{AllByRecursion, list_any}
use Rattle.std.proofs.lemmas.List.{length-map}
use Rattle.plain_data.specs.declared.or_no_memory.OrNoMemory.TheVariants as stop
use Rattle.dio_core.specs.Told.{WhereTold}
use Rattle.dio_core.specs.Counts.{Rose, IsCounted}
use Rattle.dio_core.specs.Links.{Both}
use Rattle.txn_grammar.specs.Characters.{Text}
use Rattle.docc_prepare.specs.Calls.{Known, Call, Answer}
use Rattle.docc_prepare.specs.Backends.{IsSameClient}
use Rattle.script_runner.specs.declared.status.TheConstants.{WHOLE, READ_FAULT, WRITE_FAULT, NO_MEMORY}
use Rattle.diamond_server.specs.declared.status.TheConstants.{STORE_FAULT}
use Rattle.remote_wire.specs.declared.limits.TheConstants.{LONGEST_REQUEST}
use Rattle.remote_service.specs.declared.service.Service.{Service}
use Rattle.remote_service.specs.Serving.{MadeCall, HasStalled}
use Rattle.wire_frames.specs.Frames.{frame, frames, IsText}
use Rattle.wire_server.specs.declared.status.Cause.TheVariants as cause
use Rattle.wire_server.specs.declared.status.TheConstants.{MALFORMED, TOO_MANY_REQUESTS, MOST_REQUESTS}
use Rattle.wire_server.specs.Talking.{Exchange, Talks, first_service, request_of}
use Rattle.wire_server.specs.Promises.{StaysLegal, ReadsToTheEnd, ReadsUpToAFault, ReadsOneMore, ReadsARefusal, IsServed, IsCutOff, IsStalled, IsFailed}
use Rattle.wire_server.specs.Promises.{statuses, KeepsPromises, TellsEachStoreFault}
use Rattle.wire_server.specs.code.Serving.{Stop, status_of, Ends}
use Rattle.wire_server.proofs.Framed.{few-frames, frames-last, sized-more}
use Rattle.wire_server.proofs.Talked.{same-then, talk-comes, talk-safe, made-safe}

-- one of two facts, by a test
abbrev Choice : Bool → Type 0 → Type 0 → Type 0
Choice true A B = A
Choice false A B = B

-- one frame more than may be read isn't among as many as may be
over-most : (s : Service) (k : Known) (es : List Exchange) (texts : List Text) (rest : Text) → ReadsOneMore s k es (frames texts) rest
    → AllByRecursion (IsText LONGEST_REQUEST) texts → length texts ≤ MOST_REQUESTS → ⊥
over-most s k es texts rest over fits few =
    let all = map request_of es ++ over.next ∷ [] in
    let cut : frames texts ≡ frames all ++ rest =
    over.read.cut ∙ sym (append_assoc (frames (map request_of es)) (frame over.next) rest)
    ∙ ap (λ bytes. bytes ++ rest) (sym (frames-last (map request_of es) over.next)) in
    let many = few-frames all texts rest (sized-more (IsText LONGEST_REQUEST) (map request_of es) over.next over.read.sized over.sized) fits cut in
    omega (arith, many, length-append (map request_of es) (over.next ∷ []), length-map es request_of, over.most, few)

-- the same of a link that may not tell
told-over-most : (s : Service) (k : Known) (es : List Exchange) (texts : List Text) (left left_then : Option Text)
    → WhereTold (ReadsOneMore s k es) left left_then → left ≡ Some (frames texts) → AllByRecursion (IsText LONGEST_REQUEST) texts
    → length texts ≤ MOST_REQUESTS → ⊥
told-over-most s k es texts None left_then over is fits few = absurd (let no : ⊥ = cc in no)
told-over-most s k es texts (Some bytes) None over is fits few = absurd over
told-over-most s k es texts (Some bytes) (Some rest) over is fits few =
    let same : bytes ≡ frames texts = cc in
    over-most s k es texts rest (subst (λ (b : Text). ReadsOneMore s k es b rest) same over) fits few

module _ {B : Type 0} (known : B → Known) (goes : B → Call → Answer → B → Type 0) (old new : B) (x y : Both) where
  -- the journal stays legal, and the client is the same
  abbrev Safe : Type 0
  Safe = IsSameClient (known old) (known new) × WhereTold (StaysLegal (known old).trusted) (known old).journal (known new).journal

  talks-safe : (es : List Exchange) (s : Service) → Talks known goes first_service old es s new → Safe
  talks-safe es s talks =
      let comes = talk-comes known goes first_service old s new es talks in (comes.same, talk-safe (known old) (known new) es comes)

  made-so : (by_fault : Bool) (es : List Exchange) (s : Service) (there : B) (bytes : Text) → Talks known goes first_service old es s there
      → MadeCall known goes by_fault s there bytes new → Safe
  made-so by_fault es s there bytes talks m =
      let comes = talk-comes known goes first_service old s there es talks in (
        same-then (known old) (known there) (known new) comes.same m.made.step.answered.client,
        made-safe (known old) (known there) (known new) es m.call m.made.answer comes m.made.step.answered,
      )

  unchanged-safe : (es : List Exchange) (s : Service) (there : B) → Talks known goes first_service old es s there → new ≡ there → Safe
  unchanged-safe es s there talks same = talks-safe es s (subst (λ (d : B). Talks known goes first_service old es s d) (sym same) talks)

  stalled-safe : IsStalled known goes (known new) old new x y → Safe
  stalled-safe e = by e.stalled
    where
      again : (bytes : Text) (t : Service) → HasStalled known goes e.service e.there bytes t new → Safe
      again bytes t (inl same) = unchanged-safe e.exchanges e.service e.there e.talks same.backend
      again bytes t (inr made) = made-so false e.exchanges e.service e.there bytes e.talks made

      by : (new ≡ e.there) ⊎ ((bytes : Text) × (t : Service) × HasStalled known goes e.service e.there bytes t new) → Safe
      by (inl same) = unchanged-safe e.exchanges e.service e.there e.talks same
      by (inr lost) = again lost.0 lost.1 lost.2

  failed-safe : IsFailed known goes (known new) old new x y → Safe
  failed-safe e = made-so true e.exchanges e.service e.there e.bytes e.talks e.failed.made

  -- ---- by the status

  -- what a status says, counts aside
  abbrev Says : ℕ → Type 0
  Says status =
      Choice (status == WHOLE) (IsServed known goes (known new) old new x y ReadsToTheEnd)
      (Choice (status == READ_FAULT) (IsServed known goes (known new) old new x y ReadsUpToAFault)
      (Choice (status == TOO_MANY_REQUESTS) (IsServed known goes (known new) old new x y ReadsOneMore)
      (Choice (status == MALFORMED) (IsServed known goes (known new) old new x y ReadsARefusal)
      (Choice (status == WRITE_FAULT) (IsCutOff known goes (known new) old new x y)
      (Choice (status == NO_MEMORY) (IsStalled known goes (known new) old new x y)
      (Choice (status == STORE_FAULT) (IsFailed known goes (known new) old new x y × Rose (known old).faults (known new).faults) (Unit {0})))))))

  -- with frames of no more than may be read and no count that rose, the status is 0, 5 or 10
  abbrev Completes : ℕ → Type 0
  Completes status = (texts : List Text) → x.inwards.left ≡ Some (frames texts) → AllByRecursion (IsText LONGEST_REQUEST) texts
      → length texts ≤ MOST_REQUESTS → ¬ (Rose x.inwards.faults y.inwards.faults) → ¬ (Rose x.outwards.faults y.outwards.faults)
      → ¬ (Rose (known old).faults (known new).faults) → (status ≡ WHOLE) ⊎ ((status ≡ NO_MEMORY) ⊎ (status ≡ MALFORMED))

  -- so promises are kept: each speaks of statuses at which what is said has it
  promises : (status : ℕ) → IsTrue (list_any (λ s. s == status) statuses) → Safe → Says status
      → IsCounted (status == READ_FAULT) x.inwards.faults y.inwards.faults → IsCounted (status == WRITE_FAULT) x.outwards.faults y.outwards.faults
      → Completes status → KeepsPromises known goes status old new x y
  promises status one safe says reads writes completes = record {
    statuses = one;
    client = safe.0;
    safe = safe.1;
    whole = λ is. at WHOLE is;
    broken_off = λ is. at READ_FAULT is;
    too_many = λ is. at TOO_MANY_REQUESTS is;
    refused = λ is. at MALFORMED is;
    cut_off = λ is. at WRITE_FAULT is;
    stalled = λ is. at NO_MEMORY is;
    failed = λ is. (at STORE_FAULT is).0;
    reads = reads;
    writes = writes;
    store_failed = λ is. (at STORE_FAULT is).1;
    completes = completes;
  }
    where
      at : (s : ℕ) → status ≡ s → Says s
      at s is = subst Says is says

  -- PROMISES ARE KEPT, however the requests ended.
  pub keeps_promises : (ended : Result (Unit {0}) Stop) → Ends known goes ended old x new y → KeepsPromises known goes (status_of ended) old new x y
  keeps_promises (Ok done) ends =
      promises WHOLE refl (talks-safe ends.0.exchanges ends.0.service ends.0.talks) ends.0 ends.1.0 ends.1.1
      (λ texts is fits few well written kept. inl refl)
  keeps_promises (Err stop.NoMemory) ends =
      promises NO_MEMORY refl (stalled-safe ends.0) ends.0 ends.1.0 ends.1.1 (λ texts is fits few well written kept. inr (inl refl))
  keeps_promises (Err (stop.Cause cause.Malformed)) ends =
      promises MALFORMED refl (talks-safe ends.0.exchanges ends.0.service ends.0.talks) ends.0 ends.1.0 ends.1.1
      (λ texts is fits few well written kept. inr (inr refl))
  keeps_promises (Err (stop.Cause cause.ReadFault)) ends =
      promises READ_FAULT refl (talks-safe ends.0.exchanges ends.0.service ends.0.talks) ends.0 ends.1 ends.2
      (λ texts is fits few well written kept. absurd (well ends.1))
  keeps_promises (Err (stop.Cause cause.WriteFault)) ends =
      promises WRITE_FAULT refl (talks-safe ends.0.exchanges ends.0.service ends.0.talks) ends.0 ends.1 ends.2
      (λ texts is fits few well written kept. absurd (written ends.2))
  keeps_promises (Err (stop.Cause cause.StoreFault)) ends =
      promises STORE_FAULT refl (failed-safe ends.0) (ends.0, ends.2) ends.1.0 ends.1.1 (λ texts is fits few well written kept. absurd (kept ends.2))
  keeps_promises (Err (stop.Cause cause.TooManyRequests)) ends =
      promises TOO_MANY_REQUESTS refl (talks-safe ends.0.exchanges ends.0.service ends.0.talks) ends.0 ends.1.0 ends.1.1
      (λ texts is fits few well written kept.
      absurd (told-over-most ends.0.service (known new) ends.0.exchanges texts x.inwards.left y.inwards.left ends.0.reads is fits few))

  -- ---- faults of the store

  -- a call that was made and has not failed by one counts none
  made-counts-none : (s : Service) (there : B) (bytes : Text) → MadeCall known goes false s there bytes new
      → (known new).faults ≡ (known there).faults
  made-counts-none s there bytes m =
      subst (λ (fault : Bool). IsCounted fault (known there).faults (known new).faults) m.made.fault m.made.step.answered.goes_on.faults

  -- so where memory was wanting none was counted
  stalled-counts-none : IsStalled known goes (known new) old new x y → (known new).faults ≡ (known old).faults
  stalled-counts-none e = by e.stalled ∙ (talk-comes known goes first_service old e.service e.there e.exchanges e.talks).faults
    where
      again : (bytes : Text) (t : Service) → HasStalled known goes e.service e.there bytes t new → (known new).faults ≡ (known e.there).faults
      again bytes t (inl same) = ap (λ (b : B). (known b).faults) same.backend
      again bytes t (inr made) = made-counts-none e.service e.there bytes made

      by : (new ≡ e.there) ⊎ ((bytes : Text) × (t : Service) × HasStalled known goes e.service e.there bytes t new)
          → (known new).faults ≡ (known e.there).faults
      by (inl same) = ap (λ (b : B). (known b).faults) same
      by (inr lost) = again lost.0 lost.1 lost.2

  -- EACH FAULT OF THE STORE IS TOLD, however the requests ended.
  pub tells_each_fault : (ended : Result (Unit {0}) Stop) → Ends known goes ended old x new y
      → TellsEachStoreFault (known old) (known new) (status_of ended)
  tells_each_fault (Ok done) ends = ends.0.accounted.faults
  tells_each_fault (Err stop.NoMemory) ends = stalled-counts-none ends.0
  tells_each_fault (Err (stop.Cause cause.Malformed)) ends = ends.0.accounted.faults
  tells_each_fault (Err (stop.Cause cause.ReadFault)) ends = ends.0.accounted.faults
  tells_each_fault (Err (stop.Cause cause.WriteFault)) ends = ends.0.accounted.faults
  tells_each_fault (Err (stop.Cause cause.StoreFault)) ends = ends.2
  tells_each_fault (Err (stop.Cause cause.TooManyRequests)) ends = ends.0.accounted.faults
