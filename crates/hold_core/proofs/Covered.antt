-- Nothing clashes with what a live hold covers.
use Rattle.std.proofs.Common.{◌≡◌, ℕ, ◌+◌, ◌≤◌, ◌&&◌, nat_lt, zero, suc, Bool, true, false, List, [], ◌∷◌, take, drop}
use Rattle.std.proofs.Common.{Some, slice_get, refl, subst, arith}
use Rattle.std.specs.List.{list_any, AllByRecursion}
use Rattle.std.specs.BTreeMap.{is_at}
use Rattle.std.proofs.lemmas.Bool.{le-ltb, or_parts, or_from}
use Rattle.std.proofs.lemmas.List.{take-append-drop}
use Rattle.rdt_types.specs.Addresses.{address_cmp}
use Rattle.rdt_types.specs.DeltaMaps.{Deltas}
use Rattle.conflict_table.specs.Clashes.{clash}
use Rattle.abort_witness.specs.declared.witness.Based.{Based}
use Rattle.abort_witness.specs.Pairs.{clashes}
use Rattle.txn_lang.specs.declared.commit.Commit.{Commit}
use Rattle.txn_lang.specs.declared.run.Seen.{Seen}
use Rattle.txn_lang.specs.States.{Journal}
use Rattle.journal_core.specs.declared.hold.Hold.{Hold}
use Rattle.journal_core.specs.Changes.{changes_of, changes_by}
use Rattle.journal_core.specs.Pairs.{pairs, hits_from, AreNumberedFrom, AreNumbered}
use Rattle.journal_core.specs.Holds.{IsLive, hits, disturbs, disturbs_some}
use Rattle.journal_core.proofs.Each.{each-more, each-append}
use Rattle.hold_core.specs.Laws.{IsCoveredBy, CoveredIsClear}

-- ---- commits that clash with nothing

-- no change of a commit clashes with an observation
abbrev Spares : Commit → Based → Type 0
Spares commit based = list_any (clashes based) (changes_of commit) ≡ false

-- nor with any of these
abbrev SparesAll : List Based → Commit → Type 0
SparesAll based commit = AllByRecursion (Spares commit) based

-- such a commit has no hit
no-hits : (place : ℕ) (based : List Based) (commit : Commit) → SparesAll based commit → hits_from place based commit ≡ []
no-hits place [] commit spares = refl
no-hits place (first ∷ rest) commit spares = rw spares.0 (no-hits (place + 1) rest commit spares.1)

-- and where all are so there are no pairs
no-pairs : (based : List Based) (journal : Journal) → AllByRecursion (SparesAll based) journal → pairs based journal ≡ []
no-pairs based [] all = refl
no-pairs based (commit ∷ rest) all = rw (no-hits 0 based commit all.0) (no-pairs based rest all.1)

-- ---- up to the hold

-- the first n commits have no higher numbers
numbers-within : (from n last : ℕ) (journal : Journal) → from + n ≤ last → AreNumberedFrom from journal
    → AllByRecursion (λ commit. commit.number ≤ last) (take n journal)
numbers-within from zero last [] within numbered = tt
numbers-within from zero last (commit ∷ rest) within numbered = tt
numbers-within from (suc n) last [] within numbered = tt
numbers-within from (suc n) last (commit ∷ rest) within numbered =
    (omega arith, numbers-within (from + 1) n last rest (omega arith) numbered.1)

-- what isn't past the base is no clash
spares-behind : (based : Based) (n : ℕ) (deltas : Deltas) → n ≤ based.base → list_any (clashes based) (changes_by n deltas) ≡ false
spares-behind based n [] within = refl
spares-behind based n (pair ∷ rest) within =
    let not : nat_lt based.base n ≡ false = le-ltb based.base n within in
    rw not (spares-behind based n rest within)

-- ---- behind the hold

-- what doesn't hit an observation of the hold is no clash with what it covers
spares-undisturbed : (based : Based) (seen : Seen) (n : ℕ) (deltas : Deltas) → based.address ≡ seen.address → based.obs ≡ seen.obs
    → disturbs deltas seen ≡ false → list_any (clashes based) (changes_by n deltas) ≡ false
spares-undisturbed based seen n [] address obs undisturbed = refl
spares-undisturbed based seen n (pair ∷ rest) address obs undisturbed =
    let parts = or_parts (hits seen pair) (disturbs rest seen) undisturbed in
    let behind = spares-undisturbed based seen n rest address obs parts.1 in
    let first : ((nat_lt based.base n && is_at (address_cmp based.address) pair.0) && clash based.obs pair.1)
    ≡ false = rw (address, obs) (by (nat_lt based.base n) (is_at (address_cmp seen.address) pair.0) (clash seen.obs pair.1) parts.0) in
    or_from ((nat_lt based.base n && is_at (address_cmp based.address) pair.0) && clash based.obs pair.1) (list_any (clashes based) (changes_by n rest))
    first behind
  where
    by : (past here clashing : Bool) → (here && clashing) ≡ false → ((past && here) && clashing) ≡ false
    by true here clashing not = not
    by false here clashing not = refl

-- what disturbs none of what was observed doesn't disturb the observation at a place
undisturbed-at : (deltas : Deltas) (observations : List Seen) (place : ℕ) (seen : Seen) → disturbs_some deltas observations ≡ false
    → slice_get observations place ≡ Some seen → disturbs deltas seen ≡ false
undisturbed-at deltas [] place seen none e = absurd (cc)
undisturbed-at deltas (first ∷ rest) zero seen none e =
    let same : first ≡ seen = cc in subst (λ s. disturbs deltas s ≡ false) same (or_parts (disturbs deltas first) (disturbs_some deltas rest) none).0
undisturbed-at deltas (first ∷ rest) (suc place) seen none e =
    undisturbed-at deltas rest place seen (or_parts (disturbs deltas first) (disturbs_some deltas rest) none).1 e

-- ---- the law

module _ (m : ℕ) (journal : Journal) (hold : Hold) (based : List Based) (live : IsLive m journal hold) (covered : AllByRecursion (IsCoveredBy hold) based)
  where
    -- a commit up to the hold is seen by all that it covers
    early : (commit : Commit) → commit.number ≤ hold.number → SparesAll based commit
    early commit within =
        each-more (IsCoveredBy hold) (Spares commit) based
        (λ b cover. spares-behind b commit.number commit.deltas (let behind = cover.behind in omega (arith, within, behind))) covered

    -- and one behind it disturbs none of that
    late : (commit : Commit) → disturbs_some commit.deltas hold.observations ≡ false → SparesAll based commit
    late commit undisturbed =
        each-more (IsCoveredBy hold) (Spares commit) based
        (λ b cover. spares-undisturbed b cover.seen commit.number commit.deltas cover.address cover.obs
        (undisturbed-at commit.deltas hold.observations cover.place cover.seen undisturbed cover.there)) covered

    -- so it is of all
    clear : AreNumbered journal → pairs based journal ≡ []
    clear numbered =
        no-pairs based journal
        (subst (AllByRecursion (SparesAll based)) (take-append-drop hold.number journal)
        (each-append (SparesAll based) (take hold.number journal) (drop hold.number journal)
        (each-more (λ commit. commit.number ≤ hold.number) (SparesAll based) (take hold.number journal) early
        (numbers-within 0 hold.number hold.number journal (omega arith) numbered))
        (each-more (λ commit. disturbs_some commit.deltas hold.observations ≡ false) (SparesAll based) (drop hold.number journal) late live.undisturbed)))

pub covered-is-clear : CoveredIsClear
covered-is-clear m journal hold based numbered alive covered = clear m journal hold based alive covered numbered
