-- Journals that can be read, and what a backend says of the one that it tells.
use Rattle.std.specs.Prelude.{◌≡◌, ℕ, ◌≤◌, [], length, IfSome}
use Rattle.txn_lang.specs.States.{Journal}
use Rattle.txn_lang.specs.Journals.{IsLegal, own}
use Rattle.version_shard.specs.Standing.{IsReadable}
use Rattle.docc_prepare.specs.Calls.{Known}
use Rattle.docc_prepare.specs.Backends.{IsPrefix}
use Rattle.docc_prepare.specs.Serial.{IsOrderly}

-- a journal's commits are numbered, and their deltas rise and are of the kinds of their addresses
pub record CanRead (journal : Journal) : Type 0 where
  pub orderly : IsOrderly journal
  pub readable : IsReadable journal

-- However legally a journal grows it can be read. Where nothing is taken on trust that is so of every journal.
abbrev pub CanReadOn : ℕ → Journal → Type 0
CanReadOn trusted journal = (later : Journal) → IsPrefix journal later → IsLegal trusted later → CanRead later

-- What the client has seen of the journal stands in it, and it can be read, however it grows.
pub record IsReadOn (k : Known) (journal : Journal) : Type 0 where
  pub within : k.seen ≤ length journal
  pub can : CanRead journal
  pub can_on : CanReadOn k.trusted journal

-- WHAT A BACKEND SAYS OF ITS JOURNAL, where it tells that.
abbrev pub StaysReadable : Known → Type 0
StaysReadable k = IfSome k.journal (IsReadOn k)

-- A NEW CLIENT: of the journal that is told no commit is its own.
abbrev pub IsNew : Known → Type 0
IsNew k = IfSome k.journal (λ journal. own k.client journal ≡ [])
