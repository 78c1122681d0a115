-- Journals of commits that may follow are sound.
use Rattle.std.proofs.Common.{ℕ, [], ◌∷◌, ◌++◌, length, subst, length-append}
use Rattle.std.specs.List.{AllByRecursion}
use Rattle.std.specs.List.Sorted.{IsStrictlySortedBy}
use Rattle.std.specs.Map.{keys_of}
use Rattle.plain_data.specs.Histories.{IsLawful, IsLawfulAfter}
use Rattle.rdt_types.specs.Addresses.{address_cmp}
use Rattle.txn_lang.specs.declared.commit.Commit.{Commit}
use Rattle.txn_lang.specs.States.{Journal}
use Rattle.txn_lang.specs.Journals.{MayFollow}
use Rattle.journal_core.specs.Kinds.{AreOfTheirKinds}
use Rattle.journal_core.specs.Pairs.{AreNumberedFrom}
use Rattle.diamond_store.specs.Following.{Follows, IsSound}

module _ (m : ℕ) where
  -- what may follow in a store may follow in a legal journal
  legal-after : (before journal : Journal) → IsLawfulAfter Follows m before journal → IsLawfulAfter MayFollow m before journal
  legal-after before [] lawful = tt
  legal-after before (commit ∷ journal) lawful = (lawful.0.legal, legal-after (before ++ commit ∷ []) journal lawful.1)

  -- each has the number behind those of the commits before it
  numbered-after : (before journal : Journal) → IsLawfulAfter Follows m before journal → AreNumberedFrom (length before) journal
  numbered-after before [] lawful = tt
  numbered-after before (commit ∷ journal) lawful = (
    lawful.0.legal.number,
    subst (λ (n : ℕ). AreNumberedFrom n journal) (length-append before (commit ∷ [])) (numbered-after (before ++ commit ∷ []) journal lawful.1),
  )

  -- each has deltas of their addresses' kinds
  kinds-after : (before journal : Journal) → IsLawfulAfter Follows m before journal → AllByRecursion (λ (c : Commit). AreOfTheirKinds c.deltas) journal
  kinds-after before [] lawful = tt
  kinds-after before (commit ∷ journal) lawful = (lawful.0.kinds, kinds-after (before ++ commit ∷ []) journal lawful.1)

  -- each has deltas by rising address
  rising-after : (before journal : Journal) → IsLawfulAfter Follows m before journal
      → AllByRecursion (λ (c : Commit). IsStrictlySortedBy address_cmp (keys_of c.deltas)) journal
  rising-after before [] lawful = tt
  rising-after before (commit ∷ journal) lawful = (lawful.0.rising, rising-after (before ++ commit ∷ []) journal lawful.1)

  -- so the whole journal is legal, orderly and readable
  pub lawful-sound : (journal : Journal) → IsLawful Follows m journal → IsSound m journal
  lawful-sound journal lawful = record {
    legal = legal-after [] journal lawful;
    orderly = record { numbered = numbered-after [] journal lawful; kinds = kinds-after [] journal lawful };
    readable = record { numbered = numbered-after [] journal lawful; rising = rising-after [] journal lawful };
  }
