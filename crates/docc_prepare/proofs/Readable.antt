-- Journals that can be read: each that is run from its first commit, and each that one which can be read legally grows into.
use Rattle.std.proofs.Common.{◌≡◌, ℕ, subst}
use Rattle.txn_lang.specs.States.{Journal}
use Rattle.txn_lang.specs.Journals.{IsLegal}
use Rattle.version_shard.proofs.Legal.{legal-is-readable}
use Rattle.docc_prepare.specs.Calls.{Known, Call, Answer}
use Rattle.docc_prepare.specs.Backends.{IsPrefix, SaysOfJournal}
use Rattle.docc_prepare.specs.Readable.{CanRead, CanReadOn, IsReadOn, StaysReadable}
use Rattle.docc_prepare.specs.Stores.{Store, IsSound, known_by}
use Rattle.docc_prepare.proofs.Growing.{legal_is_orderly}
use Rattle.docc_prepare.proofs.Prefixes.{prefix-again}

-- a journal of which nothing is taken on trust can be read
pub legal-reads : (journal : Journal) → IsLegal 0 journal → CanRead journal
legal-reads journal legal = record { orderly = legal_is_orderly journal legal; readable = legal-is-readable journal legal }

-- a journal that has grown can be read, however it grows
pub can-read-on : (trusted trusts : ℕ) (old new : Journal) → trusts ≡ trusted → IsPrefix old new → CanReadOn trusted old → CanReadOn trusts new
can-read-on trusted trusts old new same grows on later more legal =
    on later (prefix-again old new later grows more) (subst (λ (n : ℕ). IsLegal n later) same legal)

-- so what is said of the journal before a call is said of it behind the call
pub read-on : (k l : Known) (c : Call) (a : Answer) (old new : Journal) → l.trusted ≡ k.trusted → SaysOfJournal k l c a old new
    → IsReadOn k old → IsReadOn l new
read-on k l c a old new same says is = record {
  within = says.within;
  can = is.can_on new says.grows (subst (λ (n : ℕ). IsLegal n new) same says.legal);
  can_on = can-read-on k.trusted l.trusted old new same says.grows is.can_on;
}

-- a sound store's journal can be read by each client
pub sound-reads : (s : Store) (client : ℕ) → IsSound s → StaysReadable (known_by s client)
sound-reads s client is = record {
  within = is.seen client;
  can = legal-reads s.journal is.legal;
  can_on = λ later grows legal. legal-reads later legal;
}
