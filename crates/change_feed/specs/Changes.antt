-- Some of a list of changes: those past a number, and those at an address; and what they do.
use Rattle.std.specs.Prelude.{◌≡◌, ℕ, nat_lt, List, [], ◌∷◌, filter, map, codes, pos, refl}
use Rattle.std.specs.BTreeMap.{is_at}
use Rattle.rdt_types.specs.declared.address.Kind.TheVariants as kind
use Rattle.rdt_types.specs.declared.address.Address.{Address}
use Rattle.rdt_types.specs.declared.delta.Delta.{Delta}
use Rattle.rdt_types.specs.declared.delta.Delta.TheVariants as delta
use Rattle.rdt_types.specs.Addresses.{address_cmp}
use Rattle.change_feed.specs.declared.change.Change.{Change}

-- the changes of commits past a number
abbrev pub past : ℕ → List Change → List Change
past from all = filter (λ change. nat_lt from change.number) all

-- the changes at one address
abbrev pub of_address : Address → List Change → List Change
of_address address all = filter (λ change. is_at (address_cmp address) change.address) all

-- what changes do, in order
abbrev pub deltas_of : List Change → List Delta
deltas_of changes = map (λ change. change.delta) changes

-- ---- worked lines

abbrev counter : List ℕ → Address
counter key = record { kind = kind.Counter; key = key }

-- an addition to the counter of a key
abbrev adding : ℕ → List ℕ → Change
adding number key = record { number = number; address = counter key; delta = delta.AddCounter (pos 1) }

-- past 1 there is the second commit's change alone
past-example : past 1 (adding 1 (codes "x") ∷ adding 2 (codes "y") ∷ []) ≡ adding 2 (codes "y") ∷ []
past-example = refl

-- and at the counter x that of the first
of_address-example : of_address (counter (codes "x")) (adding 1 (codes "x") ∷ adding 2 (codes "y") ∷ []) ≡ adding 1 (codes "x") ∷ []
of_address-example = refl

-- an addition is what that does
deltas_of-example : deltas_of (adding 1 (codes "x") ∷ []) ≡ delta.AddCounter (pos 1) ∷ []
deltas_of-example = refl
