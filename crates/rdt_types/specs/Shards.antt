-- Which shard holds the value at an address.
use Rattle.std.specs.Prelude.{◌≡◌, ℕ, ◌+◌, ◌*◌, ◌%◌, ◌^◌, [], ◌∷◌, fold, map, codes, refl}
use Rattle.rdt_types.specs.declared.address.Kind.TheVariants as kind
use Rattle.rdt_types.specs.declared.address.Address.{Address}
use Rattle.rdt_types.specs.Printed.{printed_address}

-- one byte more, in 32 bits
abbrev pub hashed : ℕ → ℕ → ℕ
hashed hash byte = (31 * hash + byte) % 2 ^ 32

-- the bytes of the printed address, one after another, and then the rest by the number of shards
abbrev pub shard_of : Address → ℕ → ℕ
shard_of address shards = fold hashed 0 (printed_address address) % shards

counter-x : shard_of (record { kind = kind.Counter; key = codes "x" }) 4 ≡ 1
counter-x = refl

text-t : shard_of (record { kind = kind.Text; key = codes "t" }) 4 ≡ 0
text-t = refl

counter-y : shard_of (record { kind = kind.Counter; key = codes "y" }) 4 ≡ 2
counter-y = refl

set-s : shard_of (record { kind = kind.Set; key = codes "s" }) 4 ≡ 2
set-s = refl

hash-h : shard_of (record { kind = kind.Hash; key = codes "h" }) 4 ≡ 3
hash-h = refl

list-l : shard_of (record { kind = kind.List; key = codes "l" }) 4 ≡ 3
list-l = refl

peak-p : shard_of (record { kind = kind.Peak; key = codes "p" }) 4 ≡ 2
peak-p = refl

-- where there is one shard it holds all
only-shard :
    map (λ address. shard_of address 1)
    (record { kind = kind.Counter; key = codes "x" }
    ∷ record { kind = kind.Counter; key = codes "y" }
    ∷ record { kind = kind.Text; key = codes "t" }
    ∷ record { kind = kind.Set; key = codes "s" }
    ∷ record { kind = kind.Hash; key = codes "h" }
    ∷ record { kind = kind.List; key = codes "l" } ∷ [])
    ≡ 0 ∷ 0 ∷ 0 ∷ 0 ∷ 0 ∷ 0 ∷ []
only-shard = refl
