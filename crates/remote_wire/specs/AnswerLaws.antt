-- Laws: answers are read from their bytes, and what is read has these bytes. So each has one spelling, and exactly the
-- spellings of answers to a request are read as one.
use Rattle.std.specs.Prelude.{◌≡◌, ◌≤◌, ℕ, List, length, Some}
use Rattle.remote_wire.specs.declared.answer_limits.TheConstants.{LONGEST_ANSWER}
use Rattle.remote_wire.specs.declared.request.Request.{Request}
use Rattle.remote_wire.specs.declared.answer.WireAnswer.{WireAnswer}
use Rattle.remote_wire.specs.AnswerSpelling.{answer_bytes}
use Rattle.remote_wire.specs.Forms.{IsEightBytes}
use Rattle.remote_wire.specs.AnswerForms.{IsGiven}
use Rattle.remote_wire.specs.Answers.{IsAnswerTo, answer_in}
use Rattle.remote_wire.specs.Laws.{AreBytes}

-- an answer has a spelling
pub record HasAnswerSpelling (a : WireAnswer) : Type 0 where
  pub seen : IsEightBytes a.seen
  pub form : IsGiven a.given
  pub short : length (answer_bytes a) ≤ LONGEST_ANSWER

-- an answer is read from its spelling, by whoever made the request
abbrev pub AnswersAreRead : Type 0
AnswersAreRead = (r : Request) (a : WireAnswer) → HasAnswerSpelling a → IsAnswerTo r a → answer_in r (answer_bytes a) ≡ Some a

-- bytes that are read as an answer to a request are its spelling
abbrev pub WhatIsReadIsAnAnswer : Type 0
WhatIsReadIsAnAnswer = (r : Request) (bytes : List ℕ) (a : WireAnswer) → AreBytes bytes → answer_in r bytes ≡ Some a
    → HasAnswerSpelling a × IsAnswerTo r a × (bytes ≡ answer_bytes a)
