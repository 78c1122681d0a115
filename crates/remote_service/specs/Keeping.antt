-- What a service keeps of what its backend gave since the last append, and what it finds there.
use Rattle.std.specs.Prelude.{◌≡◌, ℕ, Bool, ◌&&◌, ◌==◌, if◌then◌else◌, List, [], ◌∷◌, pos, Option, Some, None, codes, refl}
use Rattle.std.specs.List.{list_any}
use Rattle.std.specs.BTreeMap.{is_at}
use Rattle.std.specs.Cmp.Lexicographic.{pointwise}
use Rattle.rdt_types.specs.declared.address.Kind.TheVariants as kind
use Rattle.rdt_types.specs.declared.address.Address.{Address}
use Rattle.rdt_types.specs.declared.value.Value.{Value}
use Rattle.rdt_types.specs.declared.value.Value.TheVariants as value
use Rattle.rdt_types.specs.Addresses.{address_cmp}
use Rattle.abort_witness.specs.declared.witness.Based.{Based}
use Rattle.abort_witness.specs.contracts.witness.BasedPartialEq.TheImpl as based_eq
use Rattle.remote_service.specs.declared.kept.KeptSnap.{KeptSnap}
use Rattle.remote_service.specs.declared.kept.KeptFront.{KeptFront}

-- ---- values

-- whether a value is that of an address at a base
abbrev pub is_at_base : Address → ℕ → KeptSnap → Bool
is_at_base address base x = is_at (address_cmp address) x.address && (x.base == base)

-- The value that was given of an address at a base.
abbrev pub value_kept : List KeptSnap → Address → ℕ → Option Value
value_kept [] address base = None
value_kept (x ∷ kept) address base = if is_at_base address base x then Some x.value else value_kept kept address base

-- whether a base of an address was given
abbrev pub was_given : List KeptSnap → Address → ℕ → Bool
was_given kept address base = list_any (is_at_base address base) kept

-- ---- fronts

-- whether two lists have the same observations with the same bases, in the same order
abbrev pub are_same : List Based → List Based → Bool
are_same = pointwise based_eq.ghosts.eq

-- whether a front was given for these observations of a shard
abbrev pub is_front_of : ℕ → List Based → KeptFront → Bool
is_front_of shard observed x = (x.shard == shard) && are_same x.based observed

-- a front that was found, unless the next one is for these observations, too
abbrev pub later_front : ℕ → List Based → KeptFront → Option ℕ → Option ℕ
later_front shard observed x found = if is_front_of shard observed x then Some x.front else found

-- the last one of some, or what was found before
abbrev pub last_front : ℕ → List Based → Option ℕ → List KeptFront → Option ℕ
last_front shard observed found [] = found
last_front shard observed found (x ∷ kept) = last_front shard observed (later_front shard observed x found) kept

-- The front that was given last for just these observations of a shard, with just these bases.
abbrev pub front_kept : List KeptFront → ℕ → List Based → Option ℕ
front_kept kept shard observed = last_front shard observed None kept

-- ---- worked lines

abbrev pub counter_x : Address
counter_x = record { kind = kind.Counter; key = codes "x" }

-- the counter was 5 after 3 commits, and 6 after 4
abbrev pub two_values : List KeptSnap
two_values =
    record { address = counter_x; base = 3; value = value.Counter (pos 5) }
    ∷ record { address = counter_x; base = 4; value = value.Counter (pos 6) } ∷ []

value_kept-example : value_kept two_values counter_x 4 ≡ Some (value.Counter (pos 6))
value_kept-example = refl

-- nobody was told what it was after 2
value_kept-none : value_kept two_values counter_x 2 ≡ None
value_kept-none = refl

-- of two fronts for the same observations the later one counts
front_kept-last : front_kept
    (record { shard = 1; based = []; front = 3 } ∷ record { shard = 1; based = []; front = 5 } ∷ record { shard = 2; based = []; front = 7 } ∷ [])
    1 [] ≡ Some 5
front_kept-last = refl
