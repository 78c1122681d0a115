-- What is written at no marked address disturbs nothing.
use Rattle.std.proofs.Common.{◌≡◌, Bool, true, false, ◌&&◌, ◌||◌, List, [], ◌∷◌, refl, sym, ap, ◌∙◌, slice_index_or}
use Rattle.std.proofs.lemmas.Bool.{false≢true}
use Rattle.std.proofs.lemmas.List.Folds.{list_any_none}
use Rattle.std.specs.BTreeMap.{is_at}
use Rattle.rdt_types.specs.declared.address.Address.{Address}
use Rattle.rdt_types.specs.declared.delta.Delta.{Delta}
use Rattle.rdt_types.specs.Addresses.{address_cmp}
use Rattle.rdt_types.proofs.Addresses.{address_cmp-equal}
use Rattle.conflict_table.specs.Clashes.{clash}
use Rattle.txn_lang.specs.declared.run.Seen.{Seen}
use Rattle.journal_core.specs.Holds.{hits, disturbs, disturbs_some}
use Rattle.hold_core.specs.code.Marks.{is_marked, AreMarked}
use Rattle.hold_core.proofs.Singly.{equal}

-- what is marked isn't hit by a delta at an address that isn't
hits-unmarked : (marks : List Bool) (seen : Seen) (pair : Address × Delta) → is_marked marks seen.address ≡ true → is_marked marks pair.0 ≡ false
    → hits seen pair ≡ false
hits-unmarked marks seen pair marked unmarked = by (is_at (address_cmp seen.address) pair.0) refl
  where
    by : (b : Bool) → is_at (address_cmp seen.address) pair.0 ≡ b → (b && clash seen.obs pair.1) ≡ false
    by false is = refl
    by true is =
        let same : seen.address ≡ pair.0 = address_cmp-equal seen.address pair.0 (equal _ is) in
        absurd (false≢true (sym unmarked ∙ ap (is_marked marks) (sym same) ∙ marked))

-- and so it disturbs nothing that was observed
pub disturbs-unmarked : (marks : List Bool) (pair : Address × Delta) (observations : List Seen) → AreMarked marks observations
    → is_marked marks pair.0 ≡ false → disturbs_some (pair ∷ []) observations ≡ false
disturbs-unmarked marks pair observations marked unmarked =
    list_any_none (disturbs (pair ∷ [])) observations
    (λ k d within. ap (λ b. b || false) (hits-unmarked marks (slice_index_or observations k d) pair (marked k d within) unmarked))
