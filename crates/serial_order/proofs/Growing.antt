-- A journal that grew is legal, and its attempts observed what the whole journal shows.
use Rattle.std.proofs.Common.{◌≡◌, List, [], ◌∷◌, ◌⊎◌, inl, inr, Option, Some, None, refl, sym, ap, ◌∙◌}
use Rattle.std.specs.Prelude.{MatchOption}
use Rattle.std.specs.List.{AllByRecursion}
use Rattle.std.specs.Option.{option_map}
use Rattle.std.specs.Map.{lookup}
use Rattle.std.specs.BTreeMap.{is_at}
use Rattle.std.proofs.lemmas.Option.{same_Some}
use Rattle.rdt_types.specs.Addresses.{address_cmp}
use Rattle.conflict_table.specs.Observing.{observe}
use Rattle.abort_witness.specs.declared.witness.Found.{Found}
use Rattle.abort_witness.specs.Pairs.{IsLeast, HasNoPair}
use Rattle.txn_lang.specs.declared.run.Seen.{Seen}
use Rattle.txn_lang.specs.declared.snaps.Snap.{Snap}
use Rattle.txn_lang.specs.States.{Journal, known, left_by, state}
use Rattle.txn_lang.specs.Determinacy.{AgreesOn, Agree}
use Rattle.txn_lang.specs.Observed.{IsThere}
use Rattle.txn_lang.specs.Journals.{IsLegal}
use Rattle.txn_lang.proofs.Observed.{observed_is_there}
use Rattle.txn_eval.specs.Running.{values_of}
use Rattle.journal_core.specs.Changes.{changes}
use Rattle.journal_core.specs.Pairs.{pairs, least_pair}
use Rattle.journal_core.proofs.LeastOfAll.{least-pair-is-least}
use Rattle.docc_prepare.specs.declared.attempt.Attempt.{Attempt}
use Rattle.docc_prepare.specs.Attempts.{base_in, based, SnapFits}
use Rattle.docc_prepare.specs.Serial.{RanUndisturbed}
use Rattle.docc_prepare.proofs.Each.{each-column}
use Rattle.docc_prepare.proofs.Missing.{Misses, misses-of-pairs, none-of-least}
use Rattle.docc_prepare.proofs.Growing.{legal_is_orderly}
use Rattle.docc_prepare.proofs.Undisturbed.{agree, snap-at, appending_stays_legal}
use Rattle.serial_order.specs.Growing.{Grows, GrownIsSerial, IsStillSo, ObservedIsSerial, AbortsHaveAClash}
use Rattle.serial_order.proofs.Serial.{legal_is_serial}

-- each append keeps it legal
grown-legal : (journal : Journal) → Grows journal → IsLegal 0 journal
grown-legal _ Grows.empty = tt
grown-legal _ (Grows.by_append {journal} client attempt run grown may) =
    let legal = grown-legal journal grown in
    appending_stays_legal 0 client journal attempt run may.read (legal_is_orderly journal legal) legal may.undisturbed

pub grown_is_serial : GrownIsSerial
grown_is_serial journal grown =
    let legal = grown-legal journal grown in
    record { legal = legal; same = legal_is_serial.same journal legal }

-- ---- what was observed

-- what was read at an address and observed is what the journal left there at its base, and agrees with what it leaves
still-so : (journal : Journal) (attempt : Attempt) (z : Seen) → AllByRecursion (SnapFits journal) attempt.snaps → IsThere (values_of attempt.snaps) z
    → AgreesOn (values_of attempt.snaps) (known (left_by journal)) z → IsStillSo journal attempt z
still-so journal attempt z fit there agrees = by (lookup (is_at (address_cmp z.address)) attempt.snaps) refl there.is
  where
    by : (o : Option Snap) → lookup (is_at (address_cmp z.address)) attempt.snaps ≡ o → option_map (λ snap. snap.value) o ≡ Some there.value
        → observe z.obs (left_by journal z.address) ≡ observe z.obs (state journal (base_in o) z.address)
    by None e is = absurd (cc)
    by (Some snap) e is =
        let read : snap.value ≡ there.value = same_Some snap.value there.value is in
        let value_is : there.value ≡ state journal snap.base z.address = sym read ∙ snap-at journal attempt.snaps z.address snap fit e in
        let left : left_by journal z.address ≡ agrees.there = same_Some (left_by journal z.address) agrees.there agrees.is in
        ap (observe z.obs) left ∙ sym (agrees.same there.value there.is).1 ∙ ap (observe z.obs) value_is

-- so of each
all-still-so : (journal : Journal) (attempt : Attempt) (seen : List Seen) → AllByRecursion (SnapFits journal) attempt.snaps
    → AllByRecursion (IsThere (values_of attempt.snaps)) seen → Agree (values_of attempt.snaps) (known (left_by journal)) seen
    → AllByRecursion (IsStillSo journal attempt) seen
all-still-so journal attempt [] fit there agrees = tt
all-still-so journal attempt (z ∷ seen) fit there agrees =
    (still-so journal attempt z fit there.0 agrees.0, all-still-so journal attempt seen fit there.1 agrees.1)

pub observed_is_serial : ObservedIsSerial
observed_is_serial journal attempt run grown may =
    let legal = grown-legal journal grown in
    let undisturbed = may.undisturbed in
    let there = observed_is_there attempt.body.body (values_of attempt.snaps) run undisturbed.runs in
    let observed = based attempt.snaps run.observations in
    let misses = each-column Misses observed journal (misses-of-pairs observed journal undisturbed.undisturbed) in
    let agreed = agree journal attempt.snaps run.observations (legal_is_orderly journal legal) undisturbed.fits.snaps there misses in
    all-still-so journal attempt run.observations undisturbed.fits.snaps there agreed

-- ---- clashes

pub aborts_have_a_clash : AbortsHaveAClash
aborts_have_a_clash journal attempt run grown fits runs =
    let orderly = legal_is_orderly journal (grown-legal journal grown) in
    let observed = based attempt.snaps run.observations in
    by (least_pair observed journal) refl (least-pair-is-least observed journal orderly.numbered)
  where
    by : (o : Option Found) → least_pair (based attempt.snaps run.observations) journal ≡ o
        → MatchOption o (HasNoPair (based attempt.snaps run.observations) (changes journal)) (IsLeast (based attempt.snaps run.observations) (changes journal))
        → RanUndisturbed journal attempt run ⊎ ((found : Found) × IsLeast (based attempt.snaps run.observations) (changes journal) found)
    by None e none =
        inl (record { fits = fits; runs = runs; undisturbed = none-of-least (pairs (based attempt.snaps run.observations) journal) e })
    by (Some found) e least = inr (found, least)
