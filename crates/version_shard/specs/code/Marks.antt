-- How the code finds the versions of an address: by a mark. `found-own` of proofs/Marks ties this to the list of all.
use Rattle.std.specs.Prelude.{◌≡◌, ℕ, ◌+◌, ◌*◌, ◌%◌, ◌^◌, List, ◌++◌, map, fold, Bool, true, false, Some, None, if◌then◌else◌}
use Rattle.std.specs.List.Sorted.{IsStrictlySortedBy}
use Rattle.std.specs.Map.{lookup, keys_of}
use Rattle.std.specs.BTreeMap.{is_at}
use Rattle.std.specs.Ordering.{nat_cmp}
use Rattle.rdt_types.specs.declared.address.Address.{Address}
use Rattle.rdt_types.specs.Addresses.{address_cmp}
use Rattle.version_shard.specs.declared.kept.Own.{Own}
use Rattle.change_feed.specs.declared.change.Change.{Change}
use Rattle.version_shard.specs.Versions.{Versioned, changed, trimmed}
use Rattle.version_shard.specs.Shards.{Kept, versions_of, unchanged}

-- one byte more, in 64 bits
abbrev pub with_byte : ℕ → ℕ → ℕ
with_byte mark byte = (31 * mark + byte) % 2 ^ 64

-- the mark of an address is made of the bytes of its key
abbrev pub mark_of : Address → ℕ
mark_of address = fold with_byte 0 address.key

-- what is found by marks
abbrev pub Marked : Type 0
Marked = List (ℕ × Own)

-- the versions of each address that is found by its mark
abbrev pub owns : Marked → Kept
owns marked = map (λ e. (e.1.address, e.1.versions)) marked

-- the others stand before them
abbrev pub kept_by : Kept → Marked → Kept
kept_by others marked = others ++ owns marked

-- the marks rise, and each is that of its address
pub record IsMarked (marked : Marked) : Type 0 where
  pub rising : IsStrictlySortedBy nat_cmp (keys_of marked)
  pub theirs : (mark : ℕ) (own : Own) → lookup (is_at (nat_cmp mark)) marked ≡ Some own → mark_of own.address ≡ mark

-- at one address stands what was put there, and at all others what stood there
abbrev pub IsPut : Kept → Kept → Address → Versioned → Type 0
IsPut old new k put = (q : Address) → lookup (is_at (address_cmp q)) new ≡ (if is_at (address_cmp k) q then Some put else lookup (is_at (address_cmp q)) old)

-- the versions after a change, without those that a horizon lets go
abbrev pub changed_by : Change → ℕ → Versioned → Versioned
changed_by change horizon versions = trimmed horizon (changed change.number change.delta versions)

-- an address with the version that its first change makes
abbrev pub first_own : Change → ℕ → Own
first_own change horizon = record { address = change.address; versions = changed_by change horizon (unchanged change.address) }

-- A change was followed where its address had versions, and else nothing was done.
abbrev pub HasFollowed : Kept → Kept → Change → ℕ → Bool → Type 0
HasFollowed old new change horizon true = IsPut old new change.address (changed_by change horizon (versions_of old change.address))
HasFollowed old new change horizon false = (new ≡ old) × (lookup (is_at (address_cmp change.address)) old ≡ None)
