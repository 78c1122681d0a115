-- Changes past a number, for an observation that is based at it or before it.
use Rattle.std.proofs.Common.{◌≡◌, ℕ, ◌≤◌, Bool, true, false, ◌&&◌, nat_lt, List, [], ◌∷◌, filter, refl, ap, subst, arith, cond, Some}
use Rattle.std.specs.BTreeMap.{is_at}
use Rattle.rdt_types.specs.Addresses.{address_cmp}
use Rattle.conflict_table.specs.Clashes.{clash}
use Rattle.change_feed.specs.declared.change.Change.{Change}
use Rattle.abort_witness.specs.declared.witness.Based.{Based}
use Rattle.abort_witness.specs.Pairs.{meets, first_clash}
use Rattle.journal_core.specs.Changes.{past}
use Rattle.journal_core.specs.code.Parts.{MeetsAlike}

-- the observation as if it was made later
abbrev pub moved : Based → ℕ → Based
moved based from = record based { base = from }

-- what is past a number is past each lesser one
pub lower : (a m n : ℕ) → a ≤ m → nat_lt m n ≡ true → nat_lt a n ≡ true
lower a m n within here = grind (arith, within, here)

-- of three tests the middle one fails, and so they don't all hold
pub fails-middle : (a b : Bool) → ((a && false) && b) ≡ false
fails-middle true b = refl
fails-middle false b = refl

-- the first clash among the changes past a number is that of the observation as if it was made there
pub first_clash-past : (based : Based) (from : ℕ) (all : List Change) → based.base ≤ from
    → first_clash based (past from all) ≡ first_clash (moved based from) all
first_clash-past based from [] within = refl
first_clash-past based from (change ∷ rest) within = by_number (first_clash-past based from rest within) (nat_lt from change.number) refl
  where
    by_number : first_clash based (past from rest) ≡ first_clash (moved based from) rest →
        (b : Bool) → nat_lt from change.number ≡ b → first_clash based (past from (change ∷ rest)) ≡ first_clash (moved based from) (change ∷ rest)
    by_number later true here =
        let also = lower based.base from change.number within here in
        rw (here, also) (ap (λ o. cond (is_at (address_cmp based.address) change.address && clash based.obs change.delta) (Some change.number) o) later)
    by_number later false here = rw here later

-- and as many may be met
pub meets-past : (based : Based) (from : ℕ) (all : List Change) → based.base ≤ from
    → filter (meets based) (past from all) ≡ filter (meets (moved based from)) all
meets-past based from [] within = refl
meets-past based from (change ∷ rest) within = by_number (meets-past based from rest within) (nat_lt from change.number) refl
  where
    by_number : filter (meets based) (past from rest) ≡ filter (meets (moved based from)) rest →
        (b : Bool) → nat_lt from change.number ≡ b → filter (meets based) (past from (change ∷ rest))
        ≡ filter (meets (moved based from)) (change ∷ rest)
    by_number later true here =
        let also = lower based.base from change.number within here in
        rw (here, also) (ap (λ o. cond (is_at (address_cmp based.address) change.address) (change ∷ o) o) later)
    by_number later false here = rw here later

-- an observation meets past a number what it does as if it was made there
pub past-same : (based : Based) (from : ℕ) (all : List Change) → based.base ≤ from → MeetsAlike based (past from all) (moved based from) all
past-same based from all within = record { first = first_clash-past based from all within; met = meets-past based from all within }

-- where nothing is past a number, it meets nothing
pub none-alike : (based : Based) (from : ℕ) (all : List Change) → based.base ≤ from → past from all ≡ [] → MeetsAlike based [] (moved based from) all
none-alike based from all within none = subst (λ (l : List Change). MeetsAlike based l (moved based from) all) none (past-same based from all within)
