-- What a token knows after its holder has handed something to the journal.
use Rattle.std.specs.Prelude.{◌≡◌, ℕ, List}
use Rattle.history_lock.specs.declared.known.Known.{Known}
use Rattle.history_lock.specs.Tokens.{IsLater}
use Rattle.txn_lang.specs.declared.commit.Commit.{Commit}
use Rattle.journal_core.specs.declared.ready.Ready.{Ready}
use Rattle.diamond_store.specs.declared.decision.Decision.{Decision}
use Rattle.diamond_store.specs.Following.{IsSound}
use Rattle.diamond_store.specs.Numbers.{shards_in, limit_in, from_in}
use Rattle.diamond_store.specs.Settling.{Settles}
use Rattle.diamond_store.specs.Books.{Booked, denials_after}

-- a commit names its client
abbrev pub client_of : Commit → ℕ
client_of commit = commit.client

-- a token that knows all that a book has, and is else as it was
abbrev pub knowing : Known Commit → Booked → Known Commit
knowing token book = record token { seen = book.journal.commits; count = book.denials }

-- The token first became a later one that knew the whole journal, and then the journal decided.
pub record Adds (m : ℕ) (numbers : List ℕ) (old : Known Commit) (ready : Ready) (decision : Decision) (new : Known Commit) : Type 0 where
  pub entered : Known Commit
  pub later : IsLater client_of old entered
  pub settles : Settles (from_in numbers) (shards_in numbers) (limit_in numbers) ready entered.seen decision new.seen
  pub sound : IsSound m entered.seen
  pub count : new.count ≡ denials_after entered.count decision
  pub rest : new ≡ record entered { seen = new.seen; count = new.count }
