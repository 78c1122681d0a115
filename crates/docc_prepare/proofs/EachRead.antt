-- What holds of each value that was read.
use Rattle.std.proofs.Common.{◌≡◌, Bool, true, false, cond, [], ◌∷◌, Some, refl, sym, subst}
use Rattle.std.specs.List.{AllByRecursion}
use Rattle.std.specs.Map.{lookup}
use Rattle.std.specs.BTreeMap.{insert_entry, is_at}
use Rattle.std.specs.Ordering.{is_eq, match_ordering}
use Rattle.std.specs.declared.cmp.Ordering.{Ordering}
use Rattle.std.specs.declared.cmp.Ordering.TheVariants.{Less, Equal, Greater}
use Rattle.plain_data.proofs.Entries.{equal}
use Rattle.rdt_types.specs.declared.address.Address.{Address}
use Rattle.rdt_types.specs.Addresses.{address_cmp}
use Rattle.rdt_types.proofs.Addresses.{address_cmp-equal}
use Rattle.txn_lang.specs.declared.snaps.Snap.{Snap}
use Rattle.docc_prepare.specs.Attempts.{SnapList}

-- what holds of a pair that goes in and of all others holds of all
pub each-inserted : (P : Address × Snap → Type 0) (snaps : SnapList) (a : Address) (snap : Snap) → P (a, snap) → AllByRecursion P snaps
    → AllByRecursion P (insert_entry address_cmp snaps a snap)
each-inserted P [] a snap new all = (new, tt)
each-inserted P (e ∷ es) a snap new all = by (each-inserted P es a snap new all.1) (address_cmp a e.0) refl
  where
    by : AllByRecursion P (insert_entry address_cmp es a snap) → (r : Ordering) → address_cmp a e.0 ≡ r
        → AllByRecursion P (match_ordering r ((a, snap) ∷ e ∷ es) ((e.0, snap) ∷ es) (e ∷ insert_entry address_cmp es a snap))
    by rest Less at = (new, all)
    by rest Equal at = (subst (λ b. P (b, snap)) (address_cmp-equal a e.0 at) new, all.1)
    by rest Greater at = (all.0, rest)

-- what holds of all that was read holds of what is found at an address
pub found : (P : Address × Snap → Type 0) (snaps : SnapList) (a : Address) (snap : Snap) → AllByRecursion P snaps
    → lookup (is_at (address_cmp a)) snaps ≡ Some snap → P (a, snap)
found P [] a snap all e = absurd (cc)
found P (pair ∷ snaps) a snap all e = by (found P snaps a snap all.1) (is_eq (address_cmp a pair.0)) refl e
  where
    by : (lookup (is_at (address_cmp a)) snaps ≡ Some snap → P (a, snap)) → (x : Bool) → is_eq (address_cmp a pair.0) ≡ x
        → cond x (Some pair.1) (lookup (is_at (address_cmp a)) snaps) ≡ Some snap → P (a, snap)
    by rest true is e =
        let same : pair.1 ≡ snap = cc in
        let here : a ≡ pair.0 = address_cmp-equal a pair.0 (equal (address_cmp a pair.0) is) in
        subst (λ b. P (b, snap)) (sym here) (subst (λ s. P (pair.0, s)) same all.0)
    by rest false is e = rest e
