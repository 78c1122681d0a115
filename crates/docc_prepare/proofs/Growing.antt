-- Journals that grow: what fits stays, and a legal one is orderly.
use Rattle.std.proofs.Common.{◌≤◌, List, [], ◌∷◌, ◌++◌, length, sym, ap, ◌∙◌, subst, arith}
use Rattle.std.specs.List.{AllByRecursion}
use Rattle.std.proofs.lemmas.List.{take-append-le, length-append}
use Rattle.plain_data.specs.Histories.{IsLawfulAfter}
use Rattle.rdt_types.specs.declared.address.Address.{Address}
use Rattle.abort_witness.specs.declared.witness.Based.{Based}
use Rattle.txn_lang.specs.declared.commit.Commit.{Commit}
use Rattle.txn_lang.specs.declared.snaps.Snap.{Snap}
use Rattle.txn_lang.specs.States.{Journal, known, left_by}
use Rattle.txn_lang.specs.Execution.{Ran, need, done}
use Rattle.txn_lang.specs.Journals.{MayFollow, IsRunAfter}
use Rattle.journal_core.specs.declared.ready.PreparedFront.{PreparedFront}
use Rattle.journal_core.specs.Pairs.{pairs}
use Rattle.version_shard.proofs.Legal.{legal-numbered}
use Rattle.docc_prepare.specs.Attempts.{ran, SnapFits, FrontFits, FrontsFit}
use Rattle.docc_prepare.specs.Serial.{AreOfTheirKinds, FitsStays, LegalIsOrderly}
use Rattle.docc_prepare.proofs.Each.{each-more}
use Rattle.journal_core.proofs.OfRuns.{kinds-of-run}

-- ---- what fits

module _ (journal later : Journal) where
  -- a journal that has grown is no shorter
  longer : length journal ≤ length (journal ++ later)
  longer = let l = length-append journal later in omega arith

  -- the first commits stay, so what they left at a base is the same
  snap-stays : (read : Address × Snap) → SnapFits journal read → SnapFits (journal ++ later) read
  snap-stays read fits = let l = longer in let w = fits.within in record {
    within = omega arith;
    value = fits.value ∙ ap (λ (first : Journal). left_by first read.0) (sym (take-append-le read.1.base journal later fits.within));
  }

  -- the first commits stay, so none up to a front clashes now
  front-stays : (observed : List Based) (prepared : PreparedFront) → FrontFits journal observed prepared → FrontFits (journal ++ later) observed prepared
  front-stays observed prepared fits = let l = longer in let w = fits.within in record {
    within = omega arith;
    bases = fits.bases;
    clear = ap (pairs observed) (take-append-le prepared.front journal later fits.within) ∙ fits.clear;
  }

-- what was read and what was prepared rest on first commits alone
pub fits_stays : FitsStays
fits_stays journal later attempt fits = record {
  asked = fits.asked;
  snaps = each-more (SnapFits journal) (SnapFits (journal ++ later)) attempt.snaps (snap-stays journal later) fits.snaps;
  fronts = by (ran attempt) fits.fronts;
}
  where
    by : (r : Ran) → FrontsFit journal attempt.shards attempt.snaps attempt.fronts r
        → FrontsFit (journal ++ later) attempt.shards attempt.snaps attempt.fronts r
    by (need a) e = e
    by (done run) all = each-more _ _ attempt.fronts (λ prepared. front-stays journal later _ prepared) all

-- ---- legal journals

-- the deltas of a commit are those of its run
pub kinds-of-commit : (before : Journal) (commit : Commit) → IsRunAfter before commit → AreOfTheirKinds commit.deltas
kinds-of-commit before commit runs = subst AreOfTheirKinds (sym runs.deltas) (kinds-of-run runs.body (known (left_by before)) runs.run runs.ran)

-- each commit of a legal journal is one of a run, nothing being taken on trust
legal-kinds : (before journal : Journal) → IsLawfulAfter MayFollow 0 before journal → AllByRecursion (λ commit. AreOfTheirKinds commit.deltas) journal
legal-kinds before [] legal = tt
legal-kinds before (commit ∷ journal) legal =
    (kinds-of-commit before commit (legal.0.runs (let n = legal.0.number in omega arith)), legal-kinds (before ++ commit ∷ []) journal legal.1)

-- its commits are numbered from 1, and their deltas are of the kinds of their addresses
pub legal_is_orderly : LegalIsOrderly
legal_is_orderly journal legal = record { numbered = legal-numbered [] journal legal; kinds = legal-kinds [] journal legal }
