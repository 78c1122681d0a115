-- The laws of holds: what is listed as live is live, what bars is the least that does, who holds is sure of its next try, and what
-- ends a hold.
use Rattle.std.specs.Prelude.{◌≡◌, ◌≢◌, ℕ, ◌+◌, ◌<◌, ◌≤◌, List, [], ◌∷◌, ◌++◌, length, slice_get, Some, None}
use Rattle.std.specs.List.{AllByRecursion}
use Rattle.rdt_types.specs.DeltaMaps.{Deltas}
use Rattle.abort_witness.specs.declared.witness.Based.{Based}
use Rattle.txn_lang.specs.declared.commit.Commit.{Commit}
use Rattle.txn_lang.specs.declared.run.Seen.{Seen}
use Rattle.txn_lang.specs.States.{Journal}
use Rattle.journal_core.specs.declared.hold.Hold.{Hold}
use Rattle.journal_core.specs.declared.hold.Barred.{Barred}
use Rattle.journal_core.specs.declared.limits.TheConstants.{HOLD_LASTS}
use Rattle.journal_core.specs.Holds.{IsLive, IsBar, live, bars}
use Rattle.journal_core.specs.Pairs.{pairs, AreNumbered}

-- The holds that are listed as live are exactly those that are live.
pub record LiveHoldsAreListed : Type 0 where
  pub sound : (m : ℕ) (journal : Journal) → AreNumbered journal → (place : ℕ) (hold : Hold) → slice_get (live m journal) place ≡ Some hold
      → IsLive m journal hold
  pub whole : (m : ℕ) (journal : Journal) → AreNumbered journal → (hold : Hold) → IsLive m journal hold
      → (place : ℕ) × (slice_get (live m journal) place ≡ Some hold)

-- What is said to bar does, and where nothing is said to, nothing bars.
pub record BarsAreLeast : Type 0 where
  pub some : (m : ℕ) (journal : Journal) (client : ℕ) (deltas : Deltas) (barred : Barred) → AreNumbered journal
      → bars m journal client deltas ≡ Some barred → IsBar m journal client deltas barred
  pub none : (m : ℕ) (journal : Journal) (client : ℕ) (deltas : Deltas) (barred : Barred) → AreNumbered journal
      → bars m journal client deltas ≡ None → IsBar m journal client deltas barred → ⊥

-- An observation with its base is one of a hold's, made at the hold or behind it.
pub record IsCoveredBy (hold : Hold) (based : Based) : Type 0 where
  pub place : ℕ
  pub seen : Seen
  pub there : slice_get hold.observations place ≡ Some seen
  pub address : based.address ≡ seen.address
  pub obs : based.obs ≡ seen.obs
  pub behind : hold.number ≤ based.base

-- WHO HOLDS IS SURE OF ITS NEXT TRY: nothing clashes with what a live hold covers.
abbrev pub CoveredIsClear : Type 0
CoveredIsClear =
    (m : ℕ) (journal : Journal) (hold : Hold) (based : List Based) → AreNumbered journal → IsLive m journal hold
    → AllByRecursion (IsCoveredBy hold) based → pairs based journal ≡ []

-- the commit's client has a live hold that is earlier
pub record HasEarlier (m : ℕ) (journal : Journal) (client : ℕ) (hold : Hold) : Type 0 where
  pub earlier : Hold
  pub live : IsLive m journal earlier
  pub own : earlier.client ≡ client
  pub before : earlier.number < hold.number

-- A further commit that nothing bars ends a live hold only by its age, as its own client's, or as that of a client with an
-- earlier live hold.
abbrev pub HoldsEndOnlySo : Type 0
HoldsEndOnlySo =
    (m : ℕ) (journal : Journal) (commit : Commit) (hold : Hold) → AreNumbered journal → commit.number ≡ length journal + 1
    → bars m journal commit.client commit.deltas ≡ None → IsLive m journal hold
    → commit.number < hold.number + HOLD_LASTS → commit.client ≢ hold.client → (HasEarlier m journal commit.client hold → ⊥)
    → IsLive m (journal ++ commit ∷ []) hold
