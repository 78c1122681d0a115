-- What a client owes where it hands something to the journal.
use Rattle.std.specs.Prelude.{◌≡◌, ℕ, ◌+◌, length, Some}
use Rattle.abort_witness.specs.Pairs.{HavePlaces}
use Rattle.txn_lang.specs.States.{Journal}
use Rattle.txn_lang.specs.Execution.{done}
use Rattle.txn_lang.specs.Journals.{own}
use Rattle.txn_lang.specs.Tree.{tree}
use Rattle.journal_core.specs.declared.ready.Ready.{Ready}
use Rattle.journal_core.specs.Bodies.{IsBodyText}
use Rattle.docc_prepare.specs.declared.attempt.Attempt.{Attempt}
use Rattle.docc_prepare.specs.Attempts.{ran, ready_of, Fits}

-- What is handed on is an attempt's, which fits the journal and whose run is done, with its body's text as it is kept, and its
-- seq is the client's next.
pub record IsOwed (shards : ℕ) (journal : Journal) (ready : Ready) : Type 0 where
  pub attempt : Attempt
  pub runs : ran attempt ≡ done ready.run
  pub made : ready ≡ ready_of attempt ready.run ready.client ready.seq
  pub text : tree attempt.body.source ≡ Some attempt.body.body
  pub all_shards : attempt.shards ≡ shards
  pub fits : Fits journal attempt
  pub next : ready.seq ≡ length (own ready.client journal) + 1
  pub body_text : IsBodyText ready.body
  pub few : HavePlaces ready.based
