-- Which watches stand at an address, by their numbers. Of proofs/Placed, `observed-there` ties them to `is_observed` of specs/Watches,
-- and `along-all` those at the addresses of changes to `all_told`.
use Rattle.std.specs.Prelude.{◌≡◌, ◌⊎◌, ℕ, nat_eq, Bool, true, false, List, []}
use Rattle.std.specs.Option.{option_map_or}
use Rattle.std.specs.BTreeMap.{get}
use Rattle.rdt_types.specs.declared.address.Address.{Address}
use Rattle.rdt_types.specs.Addresses.{address_cmp}
use Rattle.txn_lang.specs.declared.run.Seen.{Seen}
use Rattle.rerun_driver.specs.Watches.{is_observed_by}
use Rattle.rerun_driver.specs.declared.places.Places.{Places}
use Rattle.rerun_driver.specs.code.Numbers.{Roomy, is_among}

-- the numbers at an address
abbrev pub numbers_at : Places → Address → List ℕ
numbers_at places address = option_map_or (λ (set : Roomy). set.0) (get address_cmp places.sets address) []

-- whether a number stands there
abbrev pub stands : Places → Address → ℕ → Bool
stands places address n = is_among (numbers_at places address) n

-- the same numbers stand everywhere
abbrev pub IsStill : Places → Places → Type 0
IsStill old new = (address : Address) → numbers_at new address ≡ numbers_at old address

-- whoever stands somewhere in the first stands there in the second
abbrev pub IsWithin : Places → Places → Type 0
IsWithin some more = (address : Address) (n : ℕ) → stands some address n ≡ true → stands more address n ≡ true

-- every number but one stands where it stood
abbrev pub KeepsOthers : ℕ → Places → Places → Type 0
KeepsOthers number old new = (address : Address) (n : ℕ) → nat_eq number n ≡ false → stands new address n ≡ stands old address n

-- a number stands at each address where something was observed
abbrev pub StandsAtAll : List Seen → ℕ → Places → Type 0
StandsAtAll observations number places = (address : Address) → is_observed_by address observations ≡ true → stands places address number ≡ true

-- a number stands at no address that a test picks
abbrev pub IsGoneWhere : (Address → Bool) → ℕ → Places → Type 0
IsGoneWhere test number places = (address : Address) → test address ≡ true → stands places address number ≡ false

-- whoever stands somewhere stood there, or is the number that was put where something was observed
abbrev pub IsPutOnly : Places → Places → List Seen → ℕ → Type 0
IsPutOnly old new observations number =
    (address : Address) (n : ℕ) → stands new address n ≡ true
    → (stands old address n ≡ true) ⊎ ((number ≡ n) × (is_observed_by address observations ≡ true))
