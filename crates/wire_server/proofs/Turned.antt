-- One request over a link: what reading it, answering it and telling its answer come to.
use Rattle.std.proofs.Common.{◌≡◌, ℕ, ◌^◌, ◌<◌, Bool, true, false, length, Option, Some, None, Result, Ok, Err, refl, ap, sym, ◌∙◌, subst, inl, inr}
use Rattle.plain_data.specs.declared.or_no_memory.OrNoMemory.TheVariants as stop
use Rattle.dio_core.specs.Counts.{Rose}
use Rattle.dio_core.specs.Links.{Both, Incoming, Outgoing}
use Rattle.dio_core.specs.Sources.{with_prefix}
use Rattle.dio_core.specs.Sinks.{with_more, TakesPrefix}
use Rattle.txn_grammar.specs.Characters.{Text}
use Rattle.docc_prepare.specs.Calls.{Known, Call, Answer}
use Rattle.remote_wire.specs.declared.limits.TheConstants.{LONGEST_REQUEST}
use Rattle.remote_wire.specs.Answers.{answer_in}
use Rattle.remote_service.specs.declared.error.ServiceError.{ServiceError}
use Rattle.remote_service.specs.declared.error.ServiceError.TheVariants as error
use Rattle.remote_service.specs.declared.service.Service.{Service}
use Rattle.remote_service.specs.Serving.{Answered, HasStalled, HasFailed, IsRefused}
use Rattle.wire_frames.specs.Frames.{frame, IsText}
use Rattle.wire_server.specs.declared.status.Cause.TheVariants as cause
use Rattle.wire_server.specs.Talking.{Exchange, Does, reply_of}
use Rattle.wire_server.specs.code.Serving.{Stop, stop_of, ReadsRequest, WritesReply, Serves, TakesRequest, ReadsNone, Turns}
use Rattle.wire_server.proofs.Framed.{reply-short}

module _ {B : Type 0} (known : B → Known) (goes : B → Call → Answer → B → Type 0) where
  -- ---- the service

  -- an answer
  pub serves-answered : (s : Service) (b : B) (bytes : Text) (t : Service) (d : B) (told : Text) → Answered known goes s b bytes t d told
      → Serves known goes (Ok told) s b bytes t d
  serves-answered s b bytes t d told a = (
    record { request = bytes; asked = a.asked; answer = a.answer },
    refl,
    sym a.spelled,
    record { read = a.read; answered = a.answered; again = subst (λ (w : Text). answer_in a.asked w ≡ Some a.answer) a.spelled a.again },
  )

  -- fits a frame
  pub answered-short : (s : Service) (b : B) (bytes : Text) (t : Service) (d : B) (told : Text) → Answered known goes s b bytes t d told
      → length told < 2 ^ 32
  answered-short s b bytes t d told a = reply-short a.asked told a.answer a.again

  -- no answer
  pub serves-failed : (s : Service) (b : B) (bytes : Text) (t : Service) (d : B) (e : ServiceError)
      → (e ≡ error.Malformed → IsRefused known s b bytes t d) → (e ≡ error.StoreFault → HasFailed known goes s b bytes d)
      → (e ≡ error.NoMemory → HasStalled known goes s b bytes t d) → Serves known goes (Err (stop_of e)) s b bytes t d
  serves-failed s b bytes t d error.Malformed refused failed stalled = refused refl
  serves-failed s b bytes t d error.StoreFault refused failed stalled = failed refl
  serves-failed s b bytes t d error.NoMemory refused failed stalled = stalled refl

  -- ---- a turn

  -- nothing was done
  none-read : (s : Service) (b : B) (x y : Both) → y.outwards ≡ x.outwards → ReadsNone s b x s b y
  none-read s b x y same = record { service = refl; backend = refl; outwards = same }

  -- no frame was read
  pub turn-unread : (s : Service) (b : B) (x y : Both) (e : Stop) → ReadsRequest (Err e) x.inwards y.inwards → y.outwards ≡ x.outwards
      → Turns known goes (Err e) s b x s b y
  turn-unread s b x y stop.NoMemory read same = inl (none-read s b x y same, read)
  turn-unread s b x y (stop.Cause cause.ReadFault) read same = (none-read s b x y same, read)
  turn-unread s b x y (stop.Cause cause.Malformed) read same = inl (none-read s b x y same, read)
  turn-unread s b x y (stop.Cause cause.WriteFault) read same = absurd read
  turn-unread s b x y (stop.Cause cause.StoreFault) read same = absurd read
  turn-unread s b x y (stop.Cause cause.TooManyRequests) read same = absurd read

  -- there was none
  pub turn-none : (s : Service) (b : B) (x y : Both) → ReadsRequest (Ok None) x.inwards y.inwards → y.outwards ≡ x.outwards
      → Turns known goes (Ok false) s b x s b y
  turn-none s b x y read same = (none-read s b x y same, read)

  -- the next request was taken
  takes : (bytes : Text) (x y : Both) → ReadsRequest (Ok (Some bytes)) x.inwards y.inwards → TakesRequest bytes x y
  takes bytes x y read = record { sized = read.0; read = read.1; reads = read.2 }

  -- and not answered
  pub turn-unanswered : (s : Service) (b : B) (x : Both) (t : Service) (d : B) (y : Both) (bytes : Text) (e : Stop)
      → ReadsRequest (Ok (Some bytes)) x.inwards y.inwards → y.outwards ≡ x.outwards → Serves known goes (Err e) s b bytes t d
      → Turns known goes (Err e) s b x t d y
  turn-unanswered s b x t d y bytes stop.NoMemory read same why =
      inr (record { bytes = bytes; takes = takes bytes x y read; why = why; outwards = same })
  turn-unanswered s b x t d y bytes (stop.Cause cause.Malformed) read same why =
      inr (record { bytes = bytes; takes = takes bytes x y read; why = why; outwards = same })
  turn-unanswered s b x t d y bytes (stop.Cause cause.StoreFault) read same why =
      record { bytes = bytes; takes = takes bytes x y read; why = why; outwards = same }
  turn-unanswered s b x t d y bytes (stop.Cause cause.ReadFault) read same why = absurd why
  turn-unanswered s b x t d y bytes (stop.Cause cause.WriteFault) read same why = absurd why
  turn-unanswered s b x t d y bytes (stop.Cause cause.TooManyRequests) read same why = absurd why

  module _ (s : Service) (b : B) (x : Both) (t : Service) (d : B) (m y : Both) (bytes reply : Text)
      (read : ReadsRequest (Ok (Some bytes)) x.inwards m.inwards) (same : m.outwards ≡ x.outwards) (does : Serves known goes (Ok reply) s b bytes t d)
      (inwards : y.inwards ≡ m.inwards) where
    -- the request stands taken behind the telling of its answer
    told-takes : TakesRequest does.0.request x y
    told-takes =
        subst (λ (w : Text). TakesRequest w x y) (sym does.1)
        (takes bytes x y (subst (λ (i : Incoming). ReadsRequest (Ok (Some bytes)) x.inwards i) (sym inwards) read))

    -- its answer was told
    turn-told : WritesReply true reply m.outwards y.outwards → Turns known goes (Ok true) s b x t d y
    turn-told wrote = record {
      told = does.0;
      does = does.3;
      takes = told-takes;
      taken =
          wrote.0
          ∙ ap (λ (o : Outgoing). with_more o.taken (frame reply)) same
          ∙ ap (λ (w : Text). with_more x.outwards.taken (frame w)) (sym does.2);
      passed = wrote.1;
      writes = wrote.2 ∙ ap (λ (o : Outgoing). o.faults) same;
    }

    -- or not
    turn-untold : WritesReply false reply m.outwards y.outwards → Turns known goes (Err (stop.Cause cause.WriteFault)) s b x t d y
    turn-untold wrote = record {
      told = does.0;
      does = does.3;
      takes = told-takes;
      part = subst (λ (w : Text). TakesPrefix (frame w) x.outwards.taken y.outwards.taken) (sym does.2)
          (subst (λ (o : Outgoing). TakesPrefix (frame reply) o.taken y.outwards.taken) same wrote.0);
      writes = subst (λ (o : Outgoing). Rose o.faults y.outwards.faults) same wrote.1;
    }

    -- by the answer of the writing
    pub turn-said : (w : Bool) → WritesReply w reply m.outwards y.outwards → w ≡ true → Turns known goes (Ok true) s b x t d y
    turn-said true wrote is = turn-told wrote
    turn-said false wrote is = absurd (let no : ⊥ = cc in no)

    pub turn-unsaid : (w : Bool) → WritesReply w reply m.outwards y.outwards → w ≡ false
        → Turns known goes (Err (stop.Cause cause.WriteFault)) s b x t d y
    turn-unsaid false wrote is = turn-untold wrote
    turn-unsaid true wrote is = absurd (let no : ⊥ = cc in no)
