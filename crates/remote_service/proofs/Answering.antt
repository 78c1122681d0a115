-- What is answered of bytes is what their request's meaning lets be answered.
use Rattle.std.proofs.Common.{◌≡◌, ℕ, Bool, true, false, cond, List, Option, Some, None, Result, Ok, Err, IfOk, ◌⊎◌, inl, inr, refl, sym, ap, ◌∙◌, subst}
use Rattle.dio_core.specs.Counts.{IsCounted}
use Rattle.journal_core.specs.declared.ready.Ready.{Ready}
use Rattle.docc_prepare.specs.Calls.{Known, Call, Answer}
use Rattle.remote_wire.specs.declared.request.Request.{Request}
use Rattle.remote_wire.specs.declared.request.Request.TheVariants as request
use Rattle.remote_wire.specs.declared.answer.WireAnswer.{WireAnswer}
use Rattle.remote_wire.specs.Answers.{IsAnswerTo}
use Rattle.remote_wire.specs.Requests.{request_in}
use Rattle.remote_service.specs.declared.error.ServiceError.{ServiceError}
use Rattle.remote_service.specs.declared.error.ServiceError.TheVariants as error
use Rattle.remote_service.specs.declared.service.Service.{Service}
use Rattle.remote_service.specs.Malformed.{Meaning, if_so, appending, meaning, meaning_if, meaning_in}
use Rattle.remote_service.specs.Serving.{WasMade, Responds, ByCall, IsAnswered, Answered, MadeCall, HasFailed, HasStalled}
use Rattle.remote_service.specs.Serving.{AsksToAnswer, LacksOnlyAsked}
use Rattle.remote_service.specs.code.Told.{Spells}

-- no bytes, but an error
abbrev failing : ServiceError → Result (List ℕ) ServiceError
failing e = Err e

module _ {B : Type 0} (known : B → Known) (goes : B → Call → Answer → B → Type 0) where
  -- ---- an append

  -- what is handed on is appended
  pub handed : (s t : Service) (b d : B) (asked : Request) (o : Option Ready) (ready : Ready) (result : Result WireAnswer ServiceError) → o ≡ Some ready
      → Responds known goes s b asked (Meaning.calling (Call.append ready)) result t d → Responds known goes s b asked (appending o) result t d
  handed s t b d asked o ready result e h =
      subst (λ (p : Option Ready). Responds known goes s b asked (appending p) result t d) (sym e) h

  -- ---- a greeting, or a call

  -- what may be made or not is no greeting
  no-greeting : (so : Bool) (call : Call) → if_so so call ≡ Meaning.greeting → ⊥
  no-greeting true call e = absurd (cc)
  no-greeting false call e = absurd (cc)

  -- nor is an append
  no-append : (o : Option Ready) → appending o ≡ Meaning.greeting → ⊥
  no-append None e = absurd (cc)
  no-append (Some ready) e = absurd (cc)

  no-greeting-appended : (so : Bool) (o : Option Ready) → cond so (appending o) Meaning.malformed ≡ Meaning.greeting → ⊥
  no-greeting-appended true o e = no-append o e
  no-greeting-appended false o e = absurd (cc)

  module _ (s t : Service) (b d : B) (w : WireAnswer) where
    by-call : (asked : Request) → (meaning s (known b) asked ≡ Meaning.greeting → ⊥) → (m : Meaning) → meaning s (known b) asked ≡ m
        → Responds known goes s b asked m (Ok w) t d → ByCall known goes s b asked w t d
    by-call asked none Meaning.greeting e h = absurd (none e)
    by-call asked none (Meaning.calling call) e h = record { call = call; meant = e; served = h }
    by-call asked none Meaning.malformed e h = absurd h

    as-answered : (asked : Request) → Responds known goes s b asked (meaning s (known b) asked) (Ok w) t d → IsAnswered known goes s b asked w t d
    as-answered request.Hello h = h
    as-answered request.Refresh h = by-call request.Refresh (λ e. absurd (cc)) _ refl h
    as-answered (request.Read address) h = by-call (request.Read address) (no-greeting _ _) _ refl h
    as-answered (request.Prepare shard observed) h = by-call (request.Prepare shard observed) (no-greeting _ _) _ refl h
    as-answered (request.Append seq body named) h = by-call (request.Append seq body named) (no-greeting-appended _ _) _ refl h
    as-answered (request.ReadAt address number) h = by-call (request.ReadAt address number) (no-greeting _ _) _ refl h
    as-answered (request.Subscribe address) h = by-call (request.Subscribe address) (no-greeting _ _) _ refl h
    as-answered (request.Unsubscribe address) h = by-call (request.Unsubscribe address) (no-greeting _ _) _ refl h
    as-answered request.Take h = by-call request.Take (λ e. absurd (cc)) _ refl h
    as-answered request.Wait h = by-call request.Wait (λ e. absurd (cc)) _ refl h

    -- the answer is one to what was asked
    fits-asked : (asked : Request) → IsAnswered known goes s b asked w t d → IsAnswerTo asked w
    fits-asked request.Hello h = h.fits
    fits-asked request.Refresh h = h.served.fits
    fits-asked (request.Read address) h = h.served.fits
    fits-asked (request.Prepare shard observed) h = h.served.fits
    fits-asked (request.Append seq body named) h = h.served.fits
    fits-asked (request.ReadAt address number) h = h.served.fits
    fits-asked (request.Subscribe address) h = h.served.fits
    fits-asked (request.Unsubscribe address) h = h.served.fits
    fits-asked request.Take h = h.served.fits
    fits-asked request.Wait h = h.served.fits

  -- ---- bytes that are one

  module _ (s t : Service) (b d : B) (bytes : List ℕ) (asked : Request) (read : request_in bytes ≡ Some asked) where
    abbrev m : Meaning
    m = meaning s (known b) asked

    -- the bytes mean what the request does
    same-meaning : meaning_in s (known b) bytes ≡ m
    same-meaning = ap (meaning_if s (known b)) read

    pub answered : (outcome : Result WireAnswer ServiceError) (result : Result (List ℕ) ServiceError) → Responds known goes s b asked m outcome t d
        → Spells outcome result → IfOk result (Answered known goes s b bytes t d)
    answered (Ok w) (Ok told) h spells = record {
      asked = asked;
      answer = w;
      read = read;
      answered = as-answered s t b d w asked h;
      spelled = spells.0;
      again = spells.1 asked (fits-asked s t b d w asked (as-answered s t b d w asked h));
    }
    answered (Ok w) (Err e) h spells = tt
    answered (Err x) (Ok told) h spells = absurd spells
    answered (Err x) (Err e) h spells = tt

    -- a call that was made, by what the bytes mean
    as-made : (by_fault : Bool) (call : Call) → m ≡ Meaning.calling call → WasMade known goes by_fault b call d → MadeCall known goes by_fault s b bytes d
    as-made by_fault call is h = record { call = call; meant = same-meaning ∙ is; made = h }

    -- a store that fails has counted it
    pub failed-bytes : (outcome : Result WireAnswer ServiceError) (result : Result (List ℕ) ServiceError) → Responds known goes s b asked m outcome t d
        → Spells outcome result → result ≡ Err error.StoreFault → HasFailed known goes s b bytes d
    failed-bytes (Ok w) (Ok told) h spells e = absurd (cc)
    failed-bytes (Ok w) (Err x) h spells e = absurd (not-fault x spells e)
      where
        not-fault : (z : ServiceError) → z ≡ error.NoMemory → failing z ≡ Err error.StoreFault → ⊥
        not-fault z f g = absurd (cc)
    failed-bytes (Err x) (Ok told) h spells e = absurd spells
    failed-bytes (Err x) (Err y) h spells e = by x m refl h (is_fault x y spells e)
      where
        is_fault : (z w : ServiceError) → w ≡ z → failing w ≡ Err error.StoreFault → z ≡ error.StoreFault
        is_fault z w f g = let k : w ≡ error.StoreFault = cc in sym f ∙ k

        by : (z : ServiceError) (n : Meaning) → m ≡ n → Responds known goes s b asked n (Err z) t d → z ≡ error.StoreFault → HasFailed known goes s b bytes d
        by error.StoreFault (Meaning.calling call) is h f = record {
          made = as-made true call is h;
          counted = subst (λ (x : Bool). IsCounted x (known b).faults (known d).faults) h.fault h.step.answered.goes_on.faults;
        }
        by error.StoreFault Meaning.greeting is h f = absurd h
        by error.StoreFault Meaning.malformed is h f = absurd h
        by error.Malformed n is h f = absurd (cc)
        by error.NoMemory n is h f = absurd (cc)

    -- want of memory is told of that alone
    is_want : (z w : ServiceError) → w ≡ z → failing w ≡ Err error.NoMemory → z ≡ error.NoMemory
    is_want z w f g = let k : w ≡ error.NoMemory = cc in sym f ∙ k

    -- where memory was wanted the call was made or not
    stalled-by : (n : Meaning) → m ≡ n → (o : Result WireAnswer ServiceError) → Responds known goes s b asked n o t d
        → (o ≡ Err error.NoMemory) ⊎ ((w : WireAnswer) × (o ≡ Ok w)) → HasStalled known goes s b bytes t d
    stalled-by Meaning.greeting is (Ok w) h how = inl (record { service = h.service; backend = h.backend })
    stalled-by (Meaning.calling call) is (Ok w) h how =
        inr (as-made false call is (record { answer = _; can = h.can; step = h.step; fault = h.told }))
    stalled-by Meaning.malformed is (Ok w) h how = absurd h
    stalled-by Meaning.greeting is (Err error.NoMemory) h how = inl h
    stalled-by Meaning.malformed is (Err error.NoMemory) h how = inl h.1
    stalled-by (Meaning.calling call) is (Err error.NoMemory) (inl h) how = inl h
    stalled-by (Meaning.calling call) is (Err error.NoMemory) (inr h) how = inr (as-made false call is h)
    stalled-by n is (Err error.Malformed) h (inl e) = absurd (cc)
    stalled-by n is (Err error.Malformed) h (inr e) = absurd (let f = e.1 in cc)
    stalled-by n is (Err error.StoreFault) h (inl e) = absurd (cc)
    stalled-by n is (Err error.StoreFault) h (inr e) = absurd (let f = e.1 in cc)

    pub stalled-bytes : (outcome : Result WireAnswer ServiceError) (result : Result (List ℕ) ServiceError) → Responds known goes s b asked m outcome t d
        → Spells outcome result → result ≡ Err error.NoMemory → HasStalled known goes s b bytes t d
    stalled-bytes (Ok w) (Ok told) h spells e = absurd (cc)
    stalled-bytes (Ok w) (Err x) h spells e = stalled-by m refl (Ok w) h (inr (w, refl))
    stalled-bytes (Err x) (Ok told) h spells e = absurd spells
    stalled-bytes (Err x) (Err y) h spells e = stalled-by m refl (Err x) h (inl (ap (λ z. Err z) (is_want x y spells e)))

    -- where memory was wanted it is asked for to answer
    asks-by : (n : Meaning) (o : Result WireAnswer ServiceError) → Responds known goes s b asked n o t d
        → (o ≡ Err error.NoMemory) ⊎ ((w : WireAnswer) × (o ≡ Ok w)) → AsksToAnswer s asked n
    asks-by Meaning.greeting o h how = tt
    asks-by (Meaning.calling call) o h how = tt
    asks-by Meaning.malformed (Ok w) h how = absurd h
    asks-by Meaning.malformed (Err error.NoMemory) h how = h.0
    asks-by Meaning.malformed (Err error.Malformed) h (inl e) = absurd (cc)
    asks-by Meaning.malformed (Err error.Malformed) h (inr e) = absurd (let f = e.1 in cc)
    asks-by Meaning.malformed (Err error.StoreFault) h how = absurd h

    pub lacks-asked : (outcome : Result WireAnswer ServiceError) (result : Result (List ℕ) ServiceError) → Responds known goes s b asked m outcome t d
        → Spells outcome result → LacksOnlyAsked s (known b) bytes result
    lacks-asked (Ok w) (Ok told) h spells = λ e. absurd (cc)
    lacks-asked (Ok w) (Err x) h spells = λ e.
        inr (record { asked = asked; read = read; asks = asks-by m (Ok w) h (inr (w, refl)) })
    lacks-asked (Err x) (Ok told) h spells = absurd spells
    lacks-asked (Err x) (Err y) h spells = λ e.
        inr (record { asked = asked; read = read; asks = asks-by m (Err x) h (inl (ap (λ z. Err z) (is_want x y spells e))) })
