-- Requests that spell calls, and what answers to them say.
use Rattle.std.proofs.Common.{◌≡◌, ◌≢◌, Some, refl}
use Rattle.docc_prepare.specs.Calls.{Call}
use Rattle.call_programs.specs.Programs.{Succeeds}
use Rattle.remote_wire.specs.declared.request.Request.{Request}
use Rattle.remote_wire.specs.declared.request.Request.TheVariants as request
use Rattle.remote_wire.specs.declared.answer.Given.{Given}
use Rattle.remote_wire.specs.declared.answer.Given.TheVariants as given
use Rattle.remote_wire.specs.declared.answer.WireAnswer.{WireAnswer}
use Rattle.remote_wire.specs.Answers.{IsAnswerTo, given_tag, tag_of, gift_of}
use Rattle.remote_calls.specs.Spelled.{request_for, answered_by}

-- no call is spelled as a greeting
pub greets-none : (c : Call) → request_for c ≢ request.Hello
greets-none Call.refresh e = absurd (cc)
greets-none (Call.read address) e = absurd (cc)
greets-none (Call.prepare shard based) e = absurd (cc)
greets-none (Call.append ready) e = absurd (cc)
greets-none (Call.read_at address number) e = absurd (cc)
greets-none (Call.subscribe address) e = absurd (cc)
greets-none (Call.unsubscribe address) e = absurd (cc)
greets-none Call.take e = absurd (cc)
greets-none Call.wait e = absurd (cc)

-- what is an answer to any other request says that it was answered
pub answer-succeeds : (asked : Request) (answer : WireAnswer) → asked ≢ request.Hello → IsAnswerTo asked answer
    → Succeeds (answered_by asked answer.seen answer.given)
answer-succeeds asked answer other is = by asked answer.given other is.belongs
  where
    by : (asked : Request) (g : Given) → asked ≢ request.Hello → given_tag asked (tag_of (gift_of g)) ≡ Some (gift_of g)
        → Succeeds (answered_by asked answer.seen g)
    by request.Hello g other e = absurd (other refl)
    by request.Refresh given.Done other e = tt
    by (request.Read address) (given.Read base v) other e = tt
    by (request.Prepare shard based) (given.Front front) other e = tt
    by (request.Prepare shard based) (given.Late base horizon) other e = tt
    by (request.Prepare shard based) (given.Clash w) other e = tt
    by (request.Append seq body bases) (given.Number n) other e = tt
    by (request.Append seq body bases) (given.Clash w) other e = tt
    by (request.Append seq body bases) (given.Held client at) other e = tt
    by (request.Append seq body bases) (given.Full limit) other e = tt
    by (request.Append seq body bases) given.Disk other e = tt
    by (request.ReadAt address number) (given.Value v) other e = tt
    by (request.ReadAt address number) (given.Late n horizon) other e = tt
    by (request.Subscribe address) given.Done other e = tt
    by (request.Unsubscribe address) given.Done other e = tt
    by request.Take (given.Feed f) other e = tt
    by request.Wait given.Done other e = tt
    by asked g other e = absurd (cc)
