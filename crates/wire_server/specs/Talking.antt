-- Requests of one client that are answered one after another, and what that makes of the client's commits.
use Rattle.std.specs.Prelude.{◌≡◌, ℕ, List, [], ◌∷◌, ◌++◌, map, fold, Option, Some, refl}
use Rattle.dio_core.specs.Counts.{one_more}
use Rattle.txn_grammar.specs.Characters.{Text}
use Rattle.txn_lang.specs.declared.commit.Commit.{Commit}
use Rattle.txn_lang.specs.Journals.{own}
use Rattle.txn_lang.specs.States.{Journal}
use Rattle.docc_prepare.specs.Calls.{Known, Call, Answer}
use Rattle.remote_wire.specs.declared.answer.Given.{Given}
use Rattle.remote_wire.specs.declared.answer.Given.TheVariants as given
use Rattle.remote_wire.specs.declared.answer.WireAnswer.{WireAnswer}
use Rattle.remote_wire.specs.declared.request.Base.{Base}
use Rattle.remote_wire.specs.declared.request.Request.{Request}
use Rattle.remote_wire.specs.declared.request.Request.TheVariants as request
use Rattle.remote_wire.specs.AnswerSpelling.{answer_bytes}
use Rattle.remote_wire.specs.Answers.{answer_in}
use Rattle.remote_wire.specs.Requests.{request_in}
use Rattle.remote_service.specs.declared.service.Service.{Service}
use Rattle.remote_service.specs.Serving.{IsAnswered}

-- ---- one request

-- WHAT IS TOLD OF A REQUEST: its bytes, what they ask, and the answer.
pub record Exchange : Type 0 where
  pub request : Text
  pub asked : Request
  pub answer : WireAnswer

-- the bytes of a request
abbrev pub request_of : Exchange → Text
request_of e = e.request

-- the bytes of its answer
abbrev pub reply_of : Exchange → Text
reply_of e = answer_bytes e.answer

-- A REQUEST IS ANSWERED: a greeting by no call of the backend, and any other by the one call that it means to the service, which may be
-- made and is a step of the backend's relation. Its bytes are that request, and the answer's bytes are read again as the answer.
pub record Does {B : Type 0} (known : B → Known) (goes : B → Call → Answer → B → Type 0) (s : Service) (b : B) (e : Exchange) (t : Service) (d : B)
    : Type 0 where
  pub read : request_in e.request ≡ Some e.asked
  pub answered : IsAnswered known goes s b e.asked e.answer t d
  pub again : answer_in e.asked (reply_of e) ≡ Some e.answer

-- ---- request after request

-- the service of a client that has no commit yet: it keeps nothing
abbrev pub first_service : Service
first_service = record { snaps = []; fronts = []; seq = 1 }

-- A TALK: requests are answered one after another, each by the service and the backend as the one before it left them.
pub data Talks {B : Type 0} (known : B → Known) (goes : B → Call → Answer → B → Type 0) (s : Service) (b : B) : List Exchange → Service → B → Type 0
  where
    silent : Talks known goes s b [] s b
    says : {before exchanges : List Exchange} {t u : Service} {mid new : B} (e : Exchange)
        → Talks known goes s b before t mid → Does known goes t mid e u new → exchanges ≡ before ++ e ∷ []
        → Talks known goes s b exchanges u new

-- ---- what was appended

-- a commit by what a client is told of it and has said of it: its number, its place among the client's commits, and its body
pub record Entry : Type 0 where
  pub number : ℕ
  pub seq : ℕ
  pub body : Text

-- the commit of the journal as one
abbrev pub entry_of : Commit → Entry
entry_of c = record { number = c.number; seq = c.seq; body = c.body }

-- what a request appended, where it is answered so: an append that is answered with a number, and nothing else
abbrev pub appended_by : Request → Given → List Entry
appended_by (request.Append seq body named) (given.Number n) = record { number = n; seq = seq; body = body } ∷ []
appended_by asked g = []

-- all that was answered so, in order
abbrev pub appended : List Exchange → List Entry
appended [] = []
appended (e ∷ rest) = appended_by e.asked e.answer.given ++ appended rest

-- THE CLIENT'S COMMITS are those before, and then the appends that were answered with a number: no more, no fewer, and in that order.
abbrev pub OwnsAppended : ℕ → List Exchange → Journal → Journal → Type 0
OwnsAppended client exchanges old new = map entry_of (own client new) ≡ map entry_of (own client old) ++ appended exchanges

-- ---- what was denied

-- the count of denials behind a request, where it is answered so: an append that the disk denied, and nothing else
abbrev pub denied_as : ℕ → Request → Given → ℕ
denied_as count (request.Append seq body named) given.Disk = one_more count
denied_as count asked g = count

-- behind an answer
abbrev pub denied_by : ℕ → Exchange → ℕ
denied_by count e = denied_as count e.asked e.answer.given

-- the same behind all answers
abbrev pub denied_by_all : ℕ → List Exchange → ℕ
denied_by_all count exchanges = fold denied_by count exchanges

-- ---- worked lines

-- an append that was answered with the number 7
abbrev an_append : Exchange
an_append = record { request = []; asked = request.Append 1 (10 ∷ []) []; answer = record { seen = 7; given = given.Number 7 } }

-- one that the disk denied
abbrev a_denied : Exchange
a_denied = record { request = []; asked = request.Append 2 (10 ∷ []) []; answer = record { seen = 9; given = given.Disk } }

-- the first is appended, and the second is not
appended-example : appended (an_append ∷ a_denied ∷ []) ≡ record { number = 7; seq = 1; body = 10 ∷ [] } ∷ []
appended-example = refl

-- it is a denial
denied-example : denied_by_all 4 (an_append ∷ a_denied ∷ []) ≡ 5
denied-example = refl
