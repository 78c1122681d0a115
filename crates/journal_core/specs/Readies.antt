-- What is ready for the journal, and the commit that is made of it.
use Rattle.std.specs.Prelude.{◌≡◌, ℕ, ◌+◌, List, length, Some}
use Rattle.txn_trees.specs.declared.statement.Body.{Body}
use Rattle.txn_lang.specs.declared.commit.Commit.{Commit}
use Rattle.txn_lang.specs.declared.run.Run.{Run}
use Rattle.txn_lang.specs.States.{Journal, PartialState}
use Rattle.txn_lang.specs.Execution.{exec, done}
use Rattle.txn_lang.specs.Tree.{tree}
use Rattle.journal_core.specs.declared.ready.Ready.{Ready}

-- the run is a run of the text's body, on the values of some state
pub record IsRunOf (text : List ℕ) (run : Run) : Type 0 where
  pub body : Body
  pub values : PartialState
  pub read : tree text ≡ Some body
  pub ran : exec body values ≡ done run

-- the commit of a number that is made of what is ready
abbrev pub commit_by : ℕ → Ready → Commit
commit_by number ready = record {
  number = number;
  client = ready.client;
  seq = ready.seq;
  body = ready.body;
  outcome = ready.run.outcome;
  deltas = ready.run.deltas;
}

-- the commit that is made of what is ready, behind these commits
abbrev pub made_of : Journal → Ready → Commit
made_of before ready = commit_by (length before + 1) ready
