-- What bytes are read as.
use Rattle.std.proofs.Common.{◌≡◌, ℕ, suc, ◌<◌, List, [], ◌∷◌, get_or}
use Rattle.std.specs.Prelude.{Ok, Some}
use Rattle.remote_wire.specs.declared.request.Request.{Request}
use Rattle.remote_wire.specs.declared.answer.WireAnswer.{WireAnswer}
use Rattle.remote_wire.specs.Answers.{answer_in}
use Rattle.remote_wire.specs.Laws.{AreBytes}
use Rattle.remote_wire.proofs.AnswerCodes as codes
use Rattle.remote_link.specs.code.Sending.{ReadsAnswer}

-- bytes of eight bits each
small : (bytes : List ℕ) → ((k : ℕ) → get_or bytes k 0 < 256) → AreBytes bytes
small [] fits = tt
small (b ∷ bytes) fits = (fits 0, small bytes (λ k. fits (suc k)))

-- what bytes are read as is an answer to the request, and they are its
pub reads_answer : (asked : Request) (bytes : List ℕ) (said : WireAnswer) → ((k : ℕ) → get_or bytes k 0 < 256) → answer_in asked bytes ≡ Some said
    → ReadsAnswer asked bytes (Ok said)
reads_answer asked bytes said fits is =
    let law = codes.what_is_read_is_an_answer asked bytes said (small bytes fits) is in (law.1, law.2, is)
