-- The talk over a link: requests, each with its answer, in order.
use Rattle.std.specs.Prelude.{◌≡◌, ℕ, List, [], ◌∷◌, ◌++◌, map, Option, Some, None, refl}
use Rattle.dio_core.specs.Links.{Both}
use Rattle.dio_core.specs.Sources.{with_prefix}
use Rattle.dio_core.specs.Sinks.{with_more}
use Rattle.wire_frames.specs.Frames.{frames}
use Rattle.remote_wire.specs.declared.request.Request.{Request}
use Rattle.remote_wire.specs.declared.request.Request.TheVariants as request
use Rattle.remote_wire.specs.declared.answer.Given.TheVariants as given
use Rattle.remote_wire.specs.declared.answer.WireAnswer.{WireAnswer}
use Rattle.remote_wire.specs.Spelling.{request_bytes}
use Rattle.remote_wire.specs.AnswerSpelling.{answer_bytes}
use Rattle.remote_link.specs.Exchanging.{IsSound, TakesPart, Exchanges}

abbrev pub Talk : Type 0
Talk = List (Request × WireAnswer)

-- the frames of its requests, and of its answers
abbrev pub asked_in : Talk → List ℕ
asked_in talk = frames (map (λ x. request_bytes x.0) talk)

abbrev pub said_in : Talk → List ℕ
said_in talk = frames (map (λ x. answer_bytes x.1) talk)

-- a greeting, and a look at the journal, which has five commits
asked_in-example : (said : WireAnswer) → asked_in ((request.Hello, said) ∷ []) ≡ 0 ∷ 0 ∷ 0 ∷ 1 ∷ 1 ∷ []
asked_in-example said = refl

said_in-example : said_in ((request.Refresh, record { seen = 5; given = given.Done }) ∷ [])
    ≡ 0 ∷ 0 ∷ 0 ∷ 9 ∷ 0 ∷ 0 ∷ 0 ∷ 0 ∷ 0 ∷ 0 ∷ 0 ∷ 0 ∷ 5 ∷ []
said_in-example = refl

-- A TALK WENT OVER A LINK: it took the frames of these requests and gave those of their answers, and neither count rose.
pub record HasTalked (talk : Talk) (old new : Both) : Type 0 where
  pub taken : new.outwards.taken ≡ with_more old.outwards.taken (asked_in talk)
  pub gave : old.inwards.left ≡ with_prefix (said_in talk) new.inwards.left
  pub sound : IsSound old new

-- behind a talk nothing went over the link, or of one request more a part of its frame was taken
abbrev pub TakesNext : Option Request → Both → Both → Type 0
TakesNext None old new = new ≡ old
TakesNext (Some asked) old new = TakesPart asked old new

-- A TALK WAS CUT SHORT: the link took the frames of its requests and gave those of their answers, and then took a part at most of one
-- frame more. So of the frames of all these requests it took a prefix.
pub record HasTalkedShort (talk : Talk) (next : Option Request) (old new : Both) : Type 0 where
  pub there : Both
  pub talked : HasTalked talk old there
  pub behind : TakesNext next there new

-- A law: a talk begins with nothing, and goes on by each request that is answered.
pub record TalksGoOn : Type 0 where
  pub none : (link : Both) → HasTalked [] link link
  pub more : (talk : Talk) (asked : Request) (said : WireAnswer) (old mid new : Both) → HasTalked talk old mid
      → Exchanges asked said mid new → HasTalked (talk ++ (asked, said) ∷ []) old new
