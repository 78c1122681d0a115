-- What a hold promises comes from the laws of holds: where nothing clashes there is no witness, and the commit of an append is a
-- further commit that nothing bars.
use Rattle.std.proofs.Common.{◌≡◌, ℕ, ◌+◌, ◌<◌, List, [], ◌∷◌, ◌++◌, Option, Some, None, refl, sym, ap, ◌∙◌, subst}
use Rattle.std.specs.Prelude.{length, slice_get}
use Rattle.std.specs.Option.{option_and_then}
use Rattle.abort_witness.specs.declared.witness.Based.{Based}
use Rattle.abort_witness.specs.declared.witness.Found.{Found}
use Rattle.abort_witness.specs.declared.witness.Witness.{Witness}
use Rattle.txn_lang.specs.States.{Journal}
use Rattle.journal_core.specs.declared.hold.Hold.{Hold}
use Rattle.journal_core.specs.declared.limits.TheConstants.{HOLD_LASTS}
use Rattle.journal_core.specs.Holds.{IsLive, bars}
use Rattle.journal_core.specs.Pairs.{pairs}
use Rattle.journal_core.specs.Readies.{made_of}
use Rattle.hold_core.specs.Laws.{HasEarlier}
use Rattle.hold_core.proofs.Covered.{covered-is-clear}
use Rattle.hold_core.proofs.Ends.{holds-end-only-so}
use Rattle.docc_prepare.specs.Witnesses.{witness_of, least_witness}
use Rattle.serial_order.specs.Holding.{IsCovered, CoveredIsNotAborted, HoldsOutlastAppends}

-- no pair has no witness
no-witness : (observed : List Based) (journal : Journal) (w : Witness) → pairs observed journal ≡ [] → least_witness observed journal ≡ Some w → ⊥
no-witness observed journal w none is =
    let nothing : None ≡ Some w = sym (ap (λ (ps : List Found). option_and_then (witness_of observed journal) (slice_get ps 0)) none) ∙ is in cc

-- what is covered has none
covered-alone : (m : ℕ) (journal : Journal) (observed : List Based) (w : Witness) → IsCovered m journal observed → least_witness observed journal ≡ Some w → ⊥
covered-alone m journal observed w covered is =
    no-witness observed journal w (covered-is-clear m journal covered.hold observed covered.numbered covered.live covered.covers) is

pub covered-is-not-aborted : CoveredIsNotAborted
covered-is-not-aborted = record {
  preparing = λ k l old new shard observed w covered row. covered-alone l.trusted new observed w covered row.least;
  appending = λ k l old new ready w covered row. covered-alone l.trusted new ready.based w covered row.least;
}

pub holds-outlast-appends : HoldsOutlastAppends
holds-outlast-appends k ready number old new hold whose added withstands =
    let commit = made_of added.before ready in
    let unbarred : bars k.trusted added.before commit.client commit.deltas ≡ None =
    subst (λ (client : ℕ). bars k.trusted added.before client ready.run.deltas ≡ None) (sym whose) added.unbarred in
    subst (λ (journal : Journal). IsLive k.trusted journal hold) (sym added.added) (
    holds-end-only-so k.trusted added.before commit hold withstands.numbered refl unbarred withstands.live withstands.young
    (λ same. withstands.another (sym whose ∙ same))
    (λ earlier. withstands.no_earlier (subst (λ (client : ℕ). HasEarlier k.trusted added.before client hold) whose earlier)))
