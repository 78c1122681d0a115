-- The order of addresses.
use Rattle.std.specs.Prelude.{◌≡◌, codes, refl}
use Rattle.std.specs.Ordering.{nat_cmp, on, then_cmp}
use Rattle.std.specs.Cmp.Lexicographic.{slice_cmp}
use Rattle.std.specs.declared.cmp.Ordering.{Ordering}
use Rattle.std.specs.declared.cmp.Ordering.TheVariants.{Less}
use Rattle.rdt_types.specs.declared.address.Address.{Address}
use Rattle.rdt_types.specs.declared.address.Kind.TheVariants as kind
use Rattle.rdt_types.specs.contracts.address.KindOrd.TheImpl as kinds

-- by kind first, and then by the bytes of the key
abbrev pub address_cmp : Address → Address → Ordering
address_cmp = then_cmp (on (λ a. a.kind) kinds.ghosts.cmp) (on (λ a. a.key) (slice_cmp nat_cmp))

-- ---- the kinds, in their order

bool-below-counter : kinds.ghosts.cmp kind.Bool kind.Counter ≡ Less
bool-below-counter = refl

counter-below-text : kinds.ghosts.cmp kind.Counter kind.Text ≡ Less
counter-below-text = refl

text-below-set : kinds.ghosts.cmp kind.Text kind.Set ≡ Less
text-below-set = refl

set-below-hash : kinds.ghosts.cmp kind.Set kind.Hash ≡ Less
set-below-hash = refl

hash-below-list : kinds.ghosts.cmp kind.Hash kind.List ≡ Less
hash-below-list = refl

list-below-peak : kinds.ghosts.cmp kind.List kind.Peak ≡ Less
list-below-peak = refl

-- ---- addresses: the kind decides, and the key where the kind is the same

bool-z-below-counter-x : address_cmp (record { kind = kind.Bool; key = codes "z" }) (record { kind = kind.Counter; key = codes "x" }) ≡ Less
bool-z-below-counter-x = refl

counter-x-below-counter-y : address_cmp (record { kind = kind.Counter; key = codes "x" }) (record { kind = kind.Counter; key = codes "y" }) ≡ Less
counter-x-below-counter-y = refl
