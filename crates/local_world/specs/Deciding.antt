-- What the journal of a world decides, as the store does.
use Rattle.std.specs.Prelude.{◌≡◌, ◌+◌, length, None}
use Rattle.std.specs.List.{AllByRecursion}
use Rattle.abort_witness.specs.Kinds.{IsBasedOfOneKind}
use Rattle.abort_witness.specs.Pairs.{HavePlaces}
use Rattle.txn_lang.specs.States.{Journal}
use Rattle.txn_lang.specs.Journals.{IsLegal, own}
use Rattle.journal_core.specs.declared.ready.Ready.{Ready}
use Rattle.journal_core.specs.Bodies.{IsBodyText}
use Rattle.journal_core.specs.Holds.{observed_alone}
use Rattle.journal_core.specs.Journals.{Standing, found_past}
use Rattle.journal_core.specs.Pairs.{least_pair}
use Rattle.journal_core.specs.Readies.{IsRunOf, made_of}
use Rattle.docc_prepare.specs.Calls.{Answer}
use Rattle.docc_prepare.specs.Stores.{Store, append_to}

-- What is handed on may be decided: the journal is legal, and what is handed on is a run's, with its body's text as it is kept,
-- as the next of its client.
pub record MayDecide (ready : Ready) (standing : Standing) : Type 0 where
  pub legal : IsLegal 0 standing.commits
  pub run : IsRunOf ready.body ready.run
  pub body_text : IsBodyText ready.body
  pub next : ready.seq ≡ length (own ready.client standing.commits) + 1
  -- to look past the fronts is to look at all
  pub spared : found_past ready standing ≡ least_pair ready.based standing.commits
  pub kinds : AllByRecursion IsBasedOfOneKind ready.based
  pub few : HavePlaces ready.based
  -- where nothing clashes the body observes on what the journal leaves what its run observed
  pub alone : found_past ready standing ≡ None → observed_alone standing.commits (made_of standing.commits ready) ≡ ready.run.observations

-- the store has this journal, and its settings
pub record HasJournal (s : Store) (standing : Standing) : Type 0 where
  pub journal : s.journal ≡ standing.commits
  pub shards : s.shards ≡ standing.shards
  pub limit : s.limit ≡ standing.limit

-- The journal has decided as the store does: the answer is the store's, and the journal that of the store after it.
pub record IsDecided (s : Store) (ready : Ready) (a : Answer) (left : Journal) : Type 0 where
  pub answer : a ≡ (append_to s ready.client ready).1
  pub journal : left ≡ (append_to s ready.client ready).0.journal
