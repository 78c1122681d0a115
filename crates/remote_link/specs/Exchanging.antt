-- What a link does at a request: it takes the request's frame, and gives a frame that is an answer to it.
use Rattle.std.specs.Prelude.{◌≡◌, ℕ, ◌⊎◌, List, Option, Some, None, Result, Ok, Err}
use Rattle.dio_core.specs.declared.sink.Sink.{Ghosts as SinkTells}
use Rattle.dio_core.specs.declared.source.Source.{Ghosts as SourceTells}
use Rattle.dio_core.specs.Counts.{Rose}
use Rattle.dio_core.specs.Links.{Both, incoming, outgoing}
use Rattle.dio_core.specs.Sources.{with_prefix}
use Rattle.dio_core.specs.Sinks.{with_more, TakesPrefix, IsPassedOn}
use Rattle.wire_frames.specs.Frames.{frame, IsAtEnd, IsBroken, LacksMemory}
use Rattle.remote_wire.specs.declared.answer_limits.TheConstants.{LONGEST_ANSWER}
use Rattle.remote_wire.specs.declared.request.Request.{Request}
use Rattle.remote_wire.specs.declared.answer.WireAnswer.{WireAnswer}
use Rattle.remote_wire.specs.Spelling.{request_bytes}
use Rattle.remote_wire.specs.AnswerSpelling.{answer_bytes}
use Rattle.remote_wire.specs.Answers.{IsAnswerTo, answer_in}
use Rattle.remote_wire.specs.Asking.{AsksForAnswer}
use Rattle.remote_link.specs.declared.exchange.Failure.{Failure}
use Rattle.remote_link.specs.declared.exchange.Failure.TheVariants as failure

-- both sides of a link, by what it tells as a source and as a sink
abbrev pub sides : {K : Type 0} → SourceTells K → SinkTells K → K → Both
sides source sink link = record {
  inwards = incoming (source.left link) (source.read_faults link);
  outwards = outgoing (sink.taken link) (sink.passed link) (sink.write_faults link);
}

-- a count of the link rose
abbrev pub HasFailed : Both → Both → Type 0
HasFailed old new = Rose old.inwards.faults new.inwards.faults ⊎ Rose old.outwards.faults new.outwards.faults

-- neither rose
pub record IsSound (old new : Both) : Type 0 where
  pub reads : new.inwards.faults ≡ old.inwards.faults
  pub writes : new.outwards.faults ≡ old.outwards.faults

-- the link took the frame of a request, and passed it on
pub record TakesRequest (asked : Request) (old new : Both) : Type 0 where
  pub taken : new.outwards.taken ≡ with_more old.outwards.taken (frame (request_bytes asked))
  pub passed : IsPassedOn new.outwards.taken new.outwards.passed

-- the link took a part of the frame of a request: none of it, some, or all
abbrev pub TakesPart : Request → Both → Both → Type 0
TakesPart asked old new = TakesPrefix (frame (request_bytes asked)) old.outwards.taken new.outwards.taken

-- A REQUEST IS ANSWERED: the link took exactly its frame and gave exactly the frame of this answer, and neither count rose.
pub record Exchanges (asked : Request) (said : WireAnswer) (old new : Both) : Type 0 where
  pub answers : IsAnswerTo asked said
  pub read : answer_in asked (answer_bytes said) ≡ Some said
  pub took : TakesRequest asked old new
  pub gave : old.inwards.left ≡ with_prefix (frame (answer_bytes said)) new.inwards.left
  pub sound : IsSound old new

-- What the link gave is a frame that is no answer to the request; or no frame; or nothing.
pub record GivesFrame (asked : Request) (old new : Option (List ℕ)) : Type 0 where
  pub bytes : List ℕ
  pub no_answer : answer_in asked bytes ≡ None
  pub gave : old ≡ with_prefix (frame bytes) new

abbrev pub GivesNoAnswer : Request → Option (List ℕ) → Option (List ℕ) → Type 0
GivesNoAnswer asked old new =
    GivesFrame asked old new ⊎ (IsBroken LONGEST_ANSWER old new ⊎ (IsAtEnd old × (new ≡ old)))

-- The link took the request's frame and gave no answer to it, and neither count rose.
pub record Misanswers (asked : Request) (old new : Both) : Type 0 where
  pub took : TakesRequest asked old new
  pub gave : GivesNoAnswer asked old.inwards.left new.inwards.left
  pub sound : IsSound old new

-- what the link gave is a frame that is not read: to read its bytes as an answer memory is asked for
pub record GivesUnread (asked : Request) (old new : Option (List ℕ)) : Type 0 where
  pub bytes : List ℕ
  pub asks : AsksForAnswer asked bytes
  pub gave : old ≡ with_prefix (frame bytes) new

-- MEMORY WAS WANTING in an exchange: for the request, of which the link took nothing yet; for the bytes of a frame, behind its
-- length; or to read them. So what is no answer is not told as that, unless memory is asked for before it is known.
abbrev pub LacksMemoryFor : Request → Both → Both → Type 0
LacksMemoryFor asked old new =
    (new ≡ old)
    ⊎ (LacksMemory LONGEST_ANSWER old.inwards.left new.inwards.left ⊎ GivesUnread asked old.inwards.left new.inwards.left)

-- WHAT ONE EXCHANGE DID. Where the link failed, or memory was wanting, it took a part of the request's frame.
abbrev pub Exchanged : Request → Result WireAnswer Failure → Both → Both → Type 0
Exchanged asked (Ok said) old new = Exchanges asked said old new
Exchanged asked (Err failure.Link) old new = HasFailed old new × TakesPart asked old new
Exchanged asked (Err failure.Broken) old new = Misanswers asked old new
Exchanged asked (Err failure.NoMemory) old new =
    IsSound old new × TakesPart asked old new × LacksMemoryFor asked old new
