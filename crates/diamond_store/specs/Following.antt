-- Which commits may follow in a store's journal, and what a journal of such commits is.
use Rattle.std.specs.Prelude.{ℕ}
use Rattle.std.specs.List.Sorted.{IsStrictlySortedBy}
use Rattle.std.specs.Map.{keys_of}
use Rattle.rdt_types.specs.Addresses.{address_cmp}
use Rattle.txn_lang.specs.declared.commit.Commit.{Commit}
use Rattle.txn_lang.specs.States.{Journal}
use Rattle.txn_lang.specs.Journals.{MayFollow, IsLegal}
use Rattle.journal_core.specs.Kinds.{AreOfTheirKinds}
use Rattle.version_shard.specs.Standing.{IsReadable}
use Rattle.docc_prepare.specs.Serial.{IsOrderly}

-- The commit may follow these: it may in a legal journal of which the first m are taken on trust, and its deltas are of the
-- kinds of their addresses and stand by rising address. Of commits that nobody ran again that is all that is known.
pub record Follows (m : ℕ) (before : Journal) (commit : Commit) : Type 0 where
  pub legal : MayFollow m before commit
  pub kinds : AreOfTheirKinds commit.deltas
  pub rising : IsStrictlySortedBy address_cmp (keys_of commit.deltas)

-- So a journal of such commits is legal, numbered from 1, and can be read change by change.
pub record IsSound (m : ℕ) (journal : Journal) : Type 0 where
  pub legal : IsLegal m journal
  pub orderly : IsOrderly journal
  pub readable : IsReadable journal
