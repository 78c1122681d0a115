-- WHAT A HOLD PROMISES, said of the answers to calls, whoever stands behind them: what a live hold covers is refused for no clash, and
-- a live hold ends only by its age, by its own client's next commit, or by a commit of a client with an earlier live hold.
use Rattle.std.specs.Prelude.{◌≡◌, ◌≢◌, ℕ, ◌+◌, ◌<◌, List, [], length}
use Rattle.std.specs.List.{AllByRecursion}
use Rattle.abort_witness.specs.declared.witness.Based.{Based}
use Rattle.abort_witness.specs.declared.witness.Witness.{Witness}
use Rattle.txn_lang.specs.States.{Journal}
use Rattle.journal_core.specs.declared.hold.Hold.{Hold}
use Rattle.journal_core.specs.declared.limits.TheConstants.{HOLD_LASTS}
use Rattle.journal_core.specs.declared.ready.Ready.{Ready}
use Rattle.journal_core.specs.Holds.{IsLive}
use Rattle.journal_core.specs.Pairs.{AreNumbered}
use Rattle.hold_core.specs.Laws.{IsCoveredBy, HasEarlier}
use Rattle.docc_prepare.specs.Calls.{Known, Call, Answer}
use Rattle.docc_prepare.specs.Backends.{Row, IsAdded}

-- a live hold of the journal covers these observations, each made at it or behind it
pub record IsCovered (m : ℕ) (journal : Journal) (observed : List Based) : Type 0 where
  pub numbered : AreNumbered journal
  pub hold : Hold
  pub live : IsLive m journal hold
  pub covers : AllByRecursion (IsCoveredBy hold) observed

-- WHOEVER HOLDS IS SURE OF ITS NEXT TRY: neither a preparing nor an append is answered with a clash where a live hold covers what was
-- observed.
pub record CoveredIsNotAborted : Type 0 where
  pub preparing : (k l : Known) (old new : Journal) (shard : ℕ) (observed : List Based) (w : Witness) → IsCovered l.trusted new observed
      → Row k l old new (Call.prepare shard observed) (Answer.clash w) → ⊥
  pub appending : (k l : Known) (old new : Journal) (ready : Ready) (w : Witness) → IsCovered l.trusted new ready.based
      → Row k l old new (Call.append ready) (Answer.clash w) → ⊥

-- a hold is live behind these commits, young enough to be so behind one more, and not that of a client, which has no earlier one
pub record Withstands (m : ℕ) (journal : Journal) (client : ℕ) (hold : Hold) : Type 0 where
  pub numbered : AreNumbered journal
  pub live : IsLive m journal hold
  pub young : length journal + 1 < hold.number + HOLD_LASTS
  pub another : client ≢ hold.client
  pub no_earlier : HasEarlier m journal client hold → ⊥

-- NOTHING ELSE ENDS A HOLD: an append that was answered with a number leaves live what withstands it.
abbrev pub HoldsOutlastAppends : Type 0
HoldsOutlastAppends =
    (k : Known) (ready : Ready) (number : ℕ) (old new : Journal) (hold : Hold) → ready.client ≡ k.client
    → (added : IsAdded k ready number old new) → Withstands k.trusted added.before k.client hold → IsLive k.trusted new hold

-- what observed nothing is covered by any live hold
covered-none : (m : ℕ) (journal : Journal) (hold : Hold) → AreNumbered journal → IsLive m journal hold → IsCovered m journal []
covered-none m journal hold numbered live = record { numbered = numbered; hold = hold; live = live; covers = tt }
