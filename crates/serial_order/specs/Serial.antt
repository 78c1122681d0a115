-- WHAT SERIAL MEANS. A serial execution takes requests one after the other, and runs the body of each alone, on what those before it
-- have left. Nothing of it stands on attempts, shards, sessions or threads: it is a fold of bodies by `exec`.
use Rattle.std.specs.Prelude.{◌≡◌, ℕ, List, [], ◌∷◌, ◌++◌, fold, map, Option, Some, None, refl}
use Rattle.txn_trees.specs.declared.statement.Body.{Body}
use Rattle.txn_lang.specs.declared.commit.Commit.{Commit}
use Rattle.txn_lang.specs.States.{Journal, known, left_by, put_and_add}
use Rattle.txn_lang.specs.Execution.{Ran, need, done, exec}
use Rattle.txn_lang.specs.Journals.{IsLegal, commit_of}
use Rattle.txn_lang.specs.Tree.{tree}

-- what a client asks for: that this text be run as a body
pub record Request : Type 0 where
  pub client : ℕ
  pub body : List ℕ

-- the request behind a commit
abbrev pub request_of : Commit → Request
request_of commit = record { client = commit.client; body = commit.body }

-- the requests of a journal, in the order of its commits
abbrev pub requests : Journal → List Request
requests journal = map request_of journal

requests-example : requests put_and_add ≡ record { client = 7; body = [] } ∷ record { client = 9; body = [] } ∷ []
requests-example = refl

-- the commit of a run that is done; on a whole state no run needs a value
abbrev pub committed : Journal → Request → Ran → Journal
committed before request (done run) = before ++ commit_of before request.client request.body run ∷ []
committed before request (need address) = before

-- its body runs alone, on what these have left; a text that is no body does nothing
abbrev pub run_body : Journal → Request → Option Body → Journal
run_body before request (Some body) = committed before request (exec body (known (left_by before)))
run_body before request None = before

-- ONE REQUEST MORE
abbrev pub run_alone : Journal → Request → Journal
run_alone before request = run_body before request (tree request.body)

-- THE SERIAL EXECUTION of requests: one after the other, from nothing
abbrev pub serial : List Request → Journal
serial all = fold run_alone [] all

serial-of-none : serial [] ≡ []
serial-of-none = refl

-- A journal is legal exactly where it is what the serial execution of its own requests gives: the same commits with the same
-- numbers, outcomes and deltas, and so the same state.
pub record LegalIsSerial : Type 0 where
  pub same : (journal : Journal) → IsLegal 0 journal → serial (requests journal) ≡ journal
  pub legal : (all : List Request) → IsLegal 0 (serial all)
