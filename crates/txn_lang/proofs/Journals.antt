-- Journals that grow by a commit.
use Rattle.std.proofs.Common.{◌≡◌, ◌≤◌, ℕ, length, [], ◌∷◌, ◌++◌}
use Rattle.std.proofs.lemmas.List.Sums.{fold-append}
use Rattle.rdt_types.specs.declared.address.Address.{Address}
use Rattle.rdt_types.specs.Values.{default_of}
use Rattle.txn_lang.specs.declared.commit.Commit.{Commit}
use Rattle.txn_lang.specs.States.{Journal, left_by, after}
use Rattle.txn_lang.specs.Journals.{own, MayFollow, IsLegal, LegalCommitsFollow}
use Rattle.plain_data.proofs.Histories as histories
use Rattle.plain_data.proofs.Histories.{IsLawful-push, IsLawful-place}

-- one more commit leaves what its deltas make of what was left
pub left_by-push : (journal : Journal) (commit : Commit) (a : Address) → left_by (journal ++ commit ∷ []) a ≡ after commit.deltas a (left_by journal a)
left_by-push journal commit a = fold-append (λ value c. after c.deltas a value) (default_of a.kind) journal (commit ∷ [])

-- a legal journal stays legal by a commit that may follow it
pub legal-push : (m : ℕ) (journal : Journal) (commit : Commit) → IsLegal m journal → MayFollow m journal commit → IsLegal m (journal ++ commit ∷ [])
legal-push m journal commit legal follows = IsLawful-push MayFollow m journal commit legal follows

-- a legal journal is a lawful history, whose item at each place may follow those before it
pub legal_commits_follow : LegalCommitsFollow
legal_commits_follow m journal legal i commit here = IsLawful-place MayFollow m journal legal i commit here

-- a client has no more commits than the journal
pub length-own-le : (client : ℕ) (journal : Journal) → length (own client journal) ≤ length journal
length-own-le client journal = histories.length-own-le (λ (commit : Commit). commit.client) client journal
