-- What the calls of a store say beside the clause of every backend.
use Rattle.std.specs.Prelude.{◌≡◌, ℕ, ◌+◌, ◌<◌, ◌≤◌, max, [], length}
use mathlib.Core.List.{IsPrefix}
use Rattle.history_lock.specs.declared.known.Known as tokens
use Rattle.history_lock.specs.declared.limits.TheConstants.{MOST_DRAWS}
use Rattle.history_lock.specs.Tokens.{longer}
use Rattle.txn_lang.specs.declared.commit.Commit.{Commit}
use Rattle.txn_lang.specs.Journals.{IsLegal, own}
use Rattle.rdt_types.specs.declared.settings.Settings.{Settings}
use Rattle.diamond_store.specs.declared.join_error.JoinError.{JoinError}
use Rattle.diamond_store.specs.declared.join_error.JoinError.TheVariants as join_error
use Rattle.docc_prepare.specs.Calls.{Call, Answer}
use Rattle.diamond_store.specs.Passes.{Passed}

-- The pass has learnt more of the journal, and nothing else of it has changed: no commit of its client was added.
pub record Learns (old new : Passed) : Type 0 where
  pub begins : IsPrefix old.journal new.journal
  pub legal : IsLegal new.trusted new.journal
  pub own_commits : own old.client new.journal ≡ own old.client old.journal
  pub seen : old.seen ≤ new.seen
  pub within : new.seen ≤ length new.journal
  pub denials : old.denials ≤ new.denials
  pub draws : old.draws ≤ new.draws
  pub looks : old.looks ≤ new.looks
  pub rest : new ≡ record old { journal = new.journal; seen = new.seen; denials = new.denials; draws = new.draws; looks = new.looks }

-- Of two prefixes of the one journal the pass now knows the longer, and has seen no less than the token's.
pub record Meets (old new : Passed) (token : tokens.Known Commit) : Type 0 where
  pub journal : new.journal ≡ longer old.journal token.seen
  pub begins : IsPrefix token.seen new.journal
  pub seen : new.seen ≡ max old.seen (length token.seen)
  pub denials : new.denials ≡ max old.denials token.count

-- The first client of a store: nobody has a commit by its number, it has seen all that was kept, and it is subscribed to nothing.
pub record IsFirst (base : ℕ) (front : tokens.Known Commit) (settings : Settings) (pass : Passed) : Type 0 where
  pub own_commits : own pass.client front.seen ≡ []
  pub journal : pass.journal ≡ front.seen
  pub seen : pass.seen ≡ length front.seen
  pub subscribed : pass.subscribed ≡ []
  pub taken : pass.taken ≡ length front.seen
  pub denied : pass.denied ≡ 0
  pub denials : pass.denials ≡ front.count
  pub shards : pass.shards ≡ settings.shards
  pub window : pass.window ≡ settings.window
  pub limit : pass.limit ≡ settings.limit
  pub trusted : pass.trusted ≡ base

-- The pass of a new store: its client's number is the newest that it knows to be drawn, and past those that were drawn before.
-- Clients are numbered from `first`.
pub record IsNewest (first : ℕ) (front : tokens.Known Commit) (pass : Passed) : Type 0 where
  pub past : first + front.draws ≤ pass.client
  pub newest : pass.client + 1 ≡ first + pass.draws

-- A new client that has seen what another has. Nobody has a commit by its number, which is past those that the other knew to be
-- drawn, and among those that it knows now. Clients are numbered from `first`.
pub record Joins (first : ℕ) (old new joined : Passed) : Type 0 where
  pub own_commits : own joined.client joined.journal ≡ []
  pub past : first + old.draws ≤ joined.client
  pub drawn : joined.client < first + new.draws
  pub rest : joined
      ≡ record old { client = joined.client; subscribed = []; taken = old.seen; denied = 0; draws = joined.draws; looks = joined.looks }

-- where no number was left, the pass knows that all were drawn
abbrev pub AllDrawn : Passed → JoinError → Type 0
AllDrawn new (join_error.Clients drawn) = (drawn ≡ new.draws) × (MOST_DRAWS ≤ drawn)
AllDrawn new join_error.NoMemory = Unit {0}

-- How the calls of a pass go beyond the clause of every backend: a refresh and a take that succeed have looked at the journal's
-- length, by a look of the pass's own.
abbrev pub Looks : Passed → Call → Answer → Passed → Type 0
Looks old Call.refresh (Answer.number number) new = old.looks < new.looks
Looks old Call.take (Answer.feed feed) new = old.looks < new.looks
Looks old c a new = Unit {0}
