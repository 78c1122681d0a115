-- A service beside its backend is a caller: what it answers is answered by the backend's own steps.
use Rattle.std.proofs.Common.{◌≡◌, ℕ, Bool, true, false, List, Option, Some, None, Result, Ok, Err, inl, inr, refl, sym, ap, ◌∙◌, subst}
use Rattle.std.specs.Prelude.{IfSome}
use Rattle.dio_core.specs.Counts.{IsCounted}
use Rattle.dio_core.specs.Told.{WhereTold}
use Rattle.txn_lang.specs.States.{Journal}
use Rattle.docc_prepare.specs.declared.backend.StoreError.{StoreError}
use Rattle.docc_prepare.specs.declared.backend.StoreError.TheVariants as store_error
use Rattle.docc_prepare.specs.Calls.{Known, Call, Answer}
use Rattle.docc_prepare.specs.Backends.{CanCall, SaysOfJournal, IsAnswered, Goes}
use Rattle.docc_prepare.specs.Readable.{IsReadOn}
use Rattle.docc_prepare.proofs.Readable.{read-on}
use Rattle.remote_wire.specs.declared.request.Request.{Request}
use Rattle.remote_wire.specs.declared.request.Request.TheVariants as request
use Rattle.remote_wire.specs.declared.answer.WireAnswer.{WireAnswer}
use Rattle.remote_wire.specs.Spelling.{request_bytes}
use Rattle.remote_wire.specs.Answers.{IsAnswerTo, answer_in}
use Rattle.remote_wire.specs.Requests.{request_in}
use Rattle.remote_calls.specs.Spelled.{request_for, answered_by}
use Rattle.remote_calls.specs.Calling.{IsWhole, CanAsk, Answers, Replies, IsReplied}
use Rattle.remote_service.specs.declared.error.ServiceError.{ServiceError}
use Rattle.remote_service.specs.declared.error.ServiceError.TheVariants as error
use Rattle.remote_service.specs.declared.service.Service.{Service}
use Rattle.remote_service.specs.Malformed.{Meaning, meaning, meaning_if, meaning_in}
use Rattle.remote_service.specs.Serving.{Serves, Served, Greeted, IsUnchanged, WasMade, ByCall, Answered, IsRefused, MadeCall, HasFailed, HasStalled}
use Rattle.remote_service.specs.Serving as serving
use Rattle.remote_direct.specs.Directing.{Beside, known_at, known_beside, Tells, IsBeside, Through, goes_beside, does_beside, IsTold}
use Rattle.remote_direct.specs.code.Telling.{ReadsBack, TellsAs}
use Rattle.remote_direct.specs.Laws.{IsSameCall}
use Rattle.remote_direct.proofs.Meaning.{means, never}
use Rattle.remote_direct.proofs.Aside.{fronts-aside, answered-at, keeps-kept, gives-kept}

-- no bytes, but an error
abbrev pub failing : ServiceError → Result (List ℕ) ServiceError
failing e = Err e

module _ {B : Type 0} (known : B → Known) (goes : B → Call → Answer → B → Type 0) where
  -- ---- the journal

  -- it is told behind each call, too
  tells-on : (k l : Known) (c : Call) (a : Answer) → Tells k → IsAnswered k c a l → Tells l
  tells-on k l c a tells event = by k.journal l.journal tells.told event.told refl
    where
      by : (o p : Option Journal) → o ≡ Some tells.journal → WhereTold (SaysOfJournal k l c a) o p → l.journal ≡ p → Tells l
      by None p e told is = absurd (cc)
      by (Some old) None e told is = absurd told
      by (Some old) (Some new) e told is = record {
        journal = new;
        told = is;
        whole = record {
          legal = told.legal;
          readable = read-on k l c a old new event.client.trusted told (subst (λ (j : Journal). IsReadOn k j) (let same : tells.journal ≡ old = cc in same) tells.whole.readable);
        };
      }

  -- so what is whole of the backend is, of what it stands for
  if-whole : (s : Service) (l : Known) → Tells l → IfSome l.journal (IsWhole (known_at l s))
  if-whole s l tells = subst (λ (o : Option Journal). IfSome o (IsWhole (known_at l s))) (sym tells.told)
      (let readable = tells.whole.readable in record {
        legal = tells.whole.legal;
        readable = record { within = readable.within; can = readable.can; can_on = readable.can_on };
      })

  -- what is so is so where a journal is told
  if-some : {P : Type 0} (o : Option Journal) → P → IfSome o (λ journal. P)
  if-some None h = tt
  if-some (Some journal) h = h

  -- ---- a call

  module _ (s t : Service) (b d : B) (beside : IsBeside s (known b)) where
    abbrev old : Beside B
    old = record { backend = b; service = s }

    abbrev new : Beside B
    new = record { backend = d; service = t }

    -- the call that was made is the one that was asked for
    through : (c e : Call) (a : Answer) → IsSameCall c e → Goes known goes b e a d → Through known goes b c a d × IsAnswered (known b) c a (known d)
    through (Call.append ready) e a same step =
        let g = subst (λ (x : Call). Goes known goes b x a d) same.1 step in
        let on = fronts-aside (known b) (known d) ready same.0 a g.answered in
        (record { fronts = same.0; step = g; answered = on }, on)
    through c e a same step = let g = subst (λ (x : Call). Goes known goes b x a d) same step in (g, g.answered)

    -- by what its request means
    steps : (c : Call) (w : WireAnswer) → CanCall (known_at (known b) s) c → ByCall known goes s b (request_for c) w t d
        → Goes (known_beside known) (goes_beside known goes) old c (answered_by (request_for c) w.seen w.given) new
    steps c w can by =
        let m = means s (known b) beside c can in
        let both : Meaning.calling by.call ≡ Meaning.calling m.call = sym by.meant ∙ m.meant in
        let is : by.call ≡ m.call = cc in
        let a = answered_by (request_for c) w.seen w.given in
        let went = through c m.call a m.same (subst (λ (x : Call). Goes known goes b x a d) is by.served.step) in
        record {
          step = went.0;
          answered = subst (λ (u : Service). IsAnswered (known_at (known b) s) c a (known_at (known d) u)) (sym by.served.kept)
              (answered-at (known b) (known d) s (serving.kept_behind s (request_for c) w.given) c a
              (keeps-kept (known b) (known d) s c w.given) (gives-kept (known b) (known d) s c w.seen w.given) went.1);
        }

    -- ---- an answer

    -- the backend tells its journal behind it
    by-tells : (asked : Request) (w : WireAnswer) → serving.IsAnswered known goes s b asked w t d → Tells (known d)
    by-tells request.Hello w h = subst (λ (x : B). Tells (known x)) (sym h.backend) beside.tells
    by-tells asked w h = tells-on (known b) (known d) h.call _ beside.tells h.served.step.answered

    call-answers : (asked : Request) (w : WireAnswer) → ByCall known goes s b asked w t d → Answers (known_beside known) (goes_beside known goes) old asked w new
    call-answers asked w by = record {
      fits = by.served.fits;
      steps = λ c can spelled.
          subst (λ (r : Request). Goes (known_beside known) (goes_beside known goes) old c (answered_by r w.seen w.given) new) spelled
          (steps c w can (subst (λ (r : Request). ByCall known goes s b r w t d) (sym spelled) by));
      seen = by.served.seen;
      whole = if-whole t (known d) (tells-on (known b) (known d) by.call _ beside.tells by.served.step.answered);
    }

    -- a greeting, or any other request
    replies : (asked : Request) (w : WireAnswer) → serving.IsAnswered known goes s b asked w t d
        → Replies (known_beside known) (goes_beside known goes) old asked w new
    replies request.Hello w h =
        let same : new ≡ old = λ i. record { backend = h.backend i; service = h.service i } in
        subst (λ (x : WireAnswer). IsAnswerTo request.Hello x
        → Replies (known_beside known) (goes_beside known goes) old request.Hello x new) (sym h.says)
        (λ fits. (
          fits,
          (
            ap (known_beside known) same,
            if-whole t (known d) (subst (λ (x : B). Tells (known x)) (sym h.backend) beside.tells),
            if-some (known b).journal (ap (known_beside known) same),
          ),
        )) h.fits
    replies asked w h = call-answers asked w h

    -- ---- over bytes

    module _ (asked : Request) (bytes : List ℕ) (read : request_in bytes ≡ Some asked) where
      -- what is told is the answer to what was asked
      record Told (told : List ℕ) : Type 0 where
        answer : WireAnswer
        again : answer_in asked told ≡ Some answer
        answered : serving.IsAnswered known goes s b asked answer t d

      told-of : (told : List ℕ) → Answered known goes s b bytes t d told → Told told
      told-of told h =
          let both : Some h.asked ≡ Some asked = sym h.read ∙ read in
          let is : h.asked ≡ asked = cc in record {
            answer = h.answer;
            again = subst (λ (r : Request). answer_in r told ≡ Some h.answer) is h.again;
            answered = subst (λ (r : Request). serving.IsAnswered known goes s b r h.answer t d) is h.answered;
          }

      pub is-told : (told : List ℕ) → Answered known goes s b bytes t d told → IsTold asked told
      is-told told h = let x = told-of told h in record { answer = x.answer; is = x.again }

      -- the bytes mean what the request does
      same-meaning : meaning_in s (known b) bytes ≡ meaning s (known b) asked
      same-meaning = ap (meaning_if s (known b)) read

      -- so they aren't malformed
      pub never-refused : (e : ServiceError) → CanAsk (known_at (known b) s) asked
          → (failing e ≡ failing error.Malformed → IsRefused known s b bytes t d) → e ≡ error.Malformed → ⊥
      never-refused e can refused is =
          never s (known b) beside asked can (sym same-meaning ∙ (refused (ap failing is)).malformed)

      -- the one call was made, and no fault is told of it
      made-of : (w : WireAnswer) → serving.IsAnswered known goes s b asked w t d → HasStalled known goes s b bytes t d
      made-of w h = by asked h same-meaning
        where
          by : (r : Request) → serving.IsAnswered known goes s b r w t d → meaning_in s (known b) bytes ≡ meaning s (known b) r
              → HasStalled known goes s b bytes t d
          by request.Hello h is = inl (record { service = h.service; backend = h.backend })
          by r h is = inr (record {
            call = h.call;
            meant = is ∙ h.meant;
            made = record { answer = _; can = h.served.can; step = h.served.step; fault = h.served.told };
          })

      -- what stalled has counted nothing
      stalled-counts : HasStalled known goes s b bytes t d → (known d).faults ≡ (known b).faults
      stalled-counts (inl h) = ap (λ (x : B). (known x).faults) h.backend
      stalled-counts (inr h) =
          subst (λ (x : Bool). IsCounted x (known b).faults (known d).faults) h.made.fault h.made.step.answered.goes_on.faults

      -- an answer that is told is read back, unless memory is wanted
      pub told-replied : (told : List ℕ) (result : Result WireAnswer StoreError) → Answered known goes s b bytes t d told → ReadsBack asked told result
          → IsReplied (known_beside known) (goes_beside known goes) old asked result new
      told-replied told (Ok w) h reads =
          let x = told-of told h in
          let both : Some x.answer ≡ Some w = sym x.again ∙ reads in
          let is : x.answer ≡ w = cc in
          replies asked w (subst (λ (v : WireAnswer). serving.IsAnswered known goes s b asked v t d) is x.answered)
      told-replied told (Err store_error.Fault) h reads = absurd (cc)
      told-replied told (Err store_error.NoMemory) h reads = let x = told-of told h in stalled-counts (made-of x.answer x.answered)

      pub told-tells : (told : List ℕ) → Answered known goes s b bytes t d told → Tells (known d)
      told-tells told h = let x = told-of told h in by-tells asked x.answer x.answered

      -- what failed has counted its fault, if it failed by one
      pub failed-replied : (e : ServiceError) (x : StoreError) → TellsAs e x
          → (failing e ≡ failing error.StoreFault → HasFailed known goes s b bytes d)
          → (failing e ≡ failing error.NoMemory → HasStalled known goes s b bytes t d)
          → IsReplied (known_beside known) (goes_beside known goes) old asked (Err x) new
      failed-replied error.StoreFault x tells failed stalled = subst
          (λ (y : StoreError). IsReplied (known_beside known) (goes_beside known goes) old asked (Err y) new) (sym tells) (failed refl).counted
      failed-replied error.NoMemory x tells failed stalled = subst
          (λ (y : StoreError). IsReplied (known_beside known) (goes_beside known goes) old asked (Err y) new) (sym tells) (stalled-counts (stalled refl))
      failed-replied error.Malformed x tells failed stalled = absurd tells

      -- behind a call that was made the journal is told
      made-tells : (by_fault : Bool) → MadeCall known goes by_fault s b bytes d → Tells (known d)
      made-tells by_fault h = tells-on (known b) (known d) h.call _ beside.tells h.made.step.answered

      stalled-tells : HasStalled known goes s b bytes t d → Tells (known d)
      stalled-tells (inl h) = subst (λ (x : B). Tells (known x)) (sym h.backend) beside.tells
      stalled-tells (inr h) = made-tells false h

      pub failed-tells : (e : ServiceError) (x : StoreError) → TellsAs e x
          → (failing e ≡ failing error.StoreFault → HasFailed known goes s b bytes d)
          → (failing e ≡ failing error.NoMemory → HasStalled known goes s b bytes t d) → Tells (known d)
      failed-tells error.StoreFault x tells failed stalled = made-tells true (failed refl).made
      failed-tells error.NoMemory x tells failed stalled = stalled-tells (stalled refl)
      failed-tells error.Malformed x tells failed stalled = absurd tells

      module _ (spelled : bytes ≡ request_bytes asked) where
        -- what was done where no answer is read back
        pub told-stopped : (told : List ℕ) (result : Result WireAnswer StoreError) → Answered known goes s b bytes t d told → ReadsBack asked told result
            → does_beside known goes old asked result new
        told-stopped told (Ok w) h reads =
            let x = told-of told h in
            let both : Some x.answer ≡ Some w = sym x.again ∙ reads in
            let is : x.answer ≡ w = cc in
            subst (λ (v : WireAnswer). serving.IsAnswered known goes s b asked v t d) is x.answered
        told-stopped told (Err store_error.Fault) h reads = absurd (cc)
        told-stopped told (Err store_error.NoMemory) h reads = let x = told-of told h in
            subst (λ (xs : List ℕ). HasStalled known goes s b xs t d) spelled (made-of x.answer x.answered)

        -- and where the service has none
        pub failed-stopped : (e : ServiceError) (x : StoreError) → TellsAs e x
            → (failing e ≡ failing error.StoreFault → HasFailed known goes s b bytes d)
            → (failing e ≡ failing error.NoMemory → HasStalled known goes s b bytes t d) → does_beside known goes old asked (Err x) new
        failed-stopped error.StoreFault x tells failed stalled = subst (λ (y : StoreError). does_beside known goes old asked (Err y) new) (sym tells)
            (subst (λ (xs : List ℕ). HasFailed known goes s b xs d) spelled (failed refl))
        failed-stopped error.NoMemory x tells failed stalled = subst (λ (y : StoreError). does_beside known goes old asked (Err y) new) (sym tells)
            (subst (λ (xs : List ℕ). HasStalled known goes s b xs t d) spelled (stalled refl))
        failed-stopped error.Malformed x tells failed stalled = absurd tells
