-- The order of addresses tells them apart.
use Rattle.std.proofs.Common.{◌≡◌, refl, ap, ◌∙◌}
use denote.Enum.Bare.{same_true}
use Rattle.rdt_types.specs.contracts.address.KindOrd.TheImpl.Laws as laws
use Rattle.rdt_types.specs.contracts.address.Kind.{the_type}
use Rattle.std.specs.FinMap.{nat_cmp-IsAntisymmetric, slice_cmp-IsAntisymmetric}
use Rattle.std.specs.Cmp.Lexicographic.{slice_cmp}
use Rattle.std.specs.Ordering.{nat_cmp, is_eq, ordering_then}
use Rattle.std.specs.declared.cmp.Ordering.{Ordering}
use Rattle.std.specs.declared.cmp.Ordering.TheVariants.{Less, Equal, Greater}
use Rattle.rdt_types.specs.declared.address.Kind.{Kind}
use Rattle.rdt_types.specs.declared.address.Address.{Address}
use Rattle.rdt_types.specs.contracts.address.KindOrd.TheImpl as kinds
use Rattle.rdt_types.specs.Addresses.{address_cmp}

-- kinds that compare equal are one
same_kind : (j k : Kind) → kinds.ghosts.cmp j k ≡ Equal → j ≡ k
same_kind j k e = same_true the_type tt j k (laws.matches_eq-law j k ∙ ap is_eq e)

-- what is compared by two orders, one after the other, is equal only where both say so
both_equal : (r s : Ordering) → ordering_then r s ≡ Equal → (r ≡ Equal) × (s ≡ Equal)
both_equal Equal s e = (refl, e)
both_equal Less s e = absurd (cc)
both_equal Greater s e = absurd (cc)

-- addresses that compare equal are one
pub address_cmp-equal : (a b : Address) → address_cmp a b ≡ Equal → a ≡ b
address_cmp-equal a b e =
    let parts = both_equal (kinds.ghosts.cmp a.kind b.kind) (slice_cmp nat_cmp a.key b.key) e in
    let kind_is = same_kind a.kind b.kind parts.0 in
    let key_is = slice_cmp-IsAntisymmetric nat_cmp-IsAntisymmetric a.key b.key parts.1 in
    λ i. record { kind = kind_is i; key = key_is i }
