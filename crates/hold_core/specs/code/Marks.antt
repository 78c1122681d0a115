-- Marks of addresses, which tell of most that nothing was observed there.
use Rattle.std.specs.Prelude.{◌≡◌, ℕ, ◌+◌, ◌*◌, ◌%◌, ◌<◌, Bool, true, false, List, fold, length, slice_index_or}
use Rattle.rdt_types.specs.declared.address.Address.{Address}
use Rattle.txn_lang.specs.declared.run.Seen.{Seen}

-- one byte more, in 8 bits
abbrev pub hashed : ℕ → ℕ → ℕ
hashed hash byte = (31 * hash + byte) % 256

-- the bytes of its key, one after another
abbrev pub mark_of : Address → ℕ
mark_of address = fold hashed 0 address.key

abbrev pub is_marked : List Bool → Address → Bool
is_marked marks address = slice_index_or marks (mark_of address) false

-- all addresses that were observed are marked
abbrev pub AreMarked : List Bool → List Seen → Type 0
AreMarked marks observations = (k : ℕ) (d : Seen) → k < length observations → is_marked marks (slice_index_or observations k d).address ≡ true
