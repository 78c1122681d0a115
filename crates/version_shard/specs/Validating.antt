-- What a shard answers of a number, and of what a transaction observed in it.
use Rattle.std.specs.Prelude.{◌≡◌, ℕ, ◌+◌, ◌≤◌, ◌<◌, IfOk, List, [], ◌∷◌, Option, Some, None, IsSome, Result, Ok, Err, codes, pos, refl}
use Rattle.std.specs.declared.alloc.AllocError.{AllocError}
use Rattle.std.proofs.Common.{lit<, lit≤}
use Rattle.rdt_types.specs.declared.address.Kind.TheVariants as kind
use Rattle.rdt_types.specs.declared.address.Address.{Address}
use Rattle.rdt_types.specs.declared.operation.WriteOp.TheVariants as op
use Rattle.rdt_types.specs.declared.value.Value.{Value}
use Rattle.rdt_types.specs.declared.value.Value.TheVariants as value
use Rattle.conflict_table.specs.declared.observation.Obs.TheVariants as obs
use Rattle.abort_witness.specs.declared.witness.Based.{Based}
use Rattle.abort_witness.specs.declared.witness.Found.{Found}
use Rattle.abort_witness.specs.declared.witness.Witness.{Witness}
use Rattle.abort_witness.specs.Pairs.{IsPair}
use Rattle.abort_witness.specs.Naming.{Names}
use Rattle.txn_lang.specs.declared.snaps.Snap.{Snap}
use Rattle.txn_lang.specs.States.{Journal, state}
use Rattle.journal_core.specs.Changes.{changes, adding}
use Rattle.journal_core.specs.Pairs.{least_pair, most_steps}
use Rattle.version_shard.specs.declared.at_error.AtError.{AtError}
use Rattle.version_shard.specs.declared.at_error.AtError.TheVariants as at_error
use Rattle.version_shard.specs.declared.prepared.Prepared.{Prepared}
use Rattle.version_shard.specs.declared.prepared.Refusal.{Refusal}
use Rattle.version_shard.specs.declared.prepared.Refusal.TheVariants as refusal
use Rattle.version_shard.specs.Shards.{Sharded, horizon}
use Rattle.version_shard.specs.Bases.{least_base, late_base}

-- The value at a number is what so many commits leave. It is late exactly where the number is below the horizon.
abbrev pub ReadsAt : Journal → Sharded → Address → ℕ → Result Value AtError → Type 0
ReadsAt journal shard address number (Ok value) = (horizon shard ≤ number) × (value ≡ state journal number address)
ReadsAt journal shard address number (Err (at_error.Late asked least)) = (number < horizon shard) × (asked ≡ number) × (least ≡ horizon shard)
ReadsAt journal shard address number (Err at_error.NoMemory) = horizon shard ≤ number

-- The value at the front is what the whole journal leaves.
abbrev pub ReadsFront : Journal → Sharded → Address → Result Snap AllocError → Type 0
ReadsFront journal shard address result = IfOk result (λ snap. snap.value ≡ state journal shard.front address)

-- ---- validating

-- the least base, where it is below the horizon
abbrev pub late : Sharded → List Based → Option ℕ
late shard based = late_base (horizon shard) (least_base based)

-- a witness of the least pair of observations and a journal
pub record NamesLeast (based : List Based) (journal : Journal) (witness : Witness) : Type 0 where
  pub found : Found
  pub pair : IsPair based (changes journal) found
  pub least : least_pair based journal ≡ Some found
  pub names : Names pair.observation pair.change witness

-- Validating against a journal, in this order: late where a base is below the horizon, with the least base; a clash where a
-- commit past a base clashes with its observation, with the witness of the least pair; else the front. Memory is wanted for
-- a witness alone.
abbrev pub Validates : Journal → Sharded → List Based → Result Prepared Refusal → Type 0
Validates journal shard based (Err (refusal.Late base least)) = (late shard based ≡ Some base) × (least ≡ horizon shard)
Validates journal shard based (Err (refusal.Clash witness)) = (late shard based ≡ None) × NamesLeast based journal witness
Validates journal shard based (Err refusal.NoMemory) = (late shard based ≡ None) × IsSome (least_pair based journal)
Validates journal shard based (Ok prepared) =
    (late shard based ≡ None) × (least_pair based journal ≡ None) × (prepared ≡ record { shard = shard.number; front = shard.front })

-- it goes through the changes past the bases at their addresses at most
abbrev pub IsWithinSteps : List Based → ℕ → ℕ → Journal → Type 0
IsWithinSteps based old new journal = new ≤ old + most_steps based (changes journal)

-- ---- worked lines

-- the counter x, which is in shard 1 of 4
abbrev x : Address
x = record { kind = kind.Counter; key = codes "x" }

-- five commits that each add 1 to it, so that its value at a number is that number
abbrev five : Journal
five = adding 1 (codes "x") ∷ adding 2 (codes "x") ∷ adding 3 (codes "x") ∷ adding 4 (codes "x") ∷ adding 5 (codes "x") ∷ []

-- its shard, with a window, at the front 5; what the shard keeps is not asked
abbrev behind_five : ℕ → Sharded
behind_five window = record { number = 1; shards = 4; window = window; front = 5; kept = [] }

-- a window of 1 reaches back to 4
window-1 : ReadsAt five (behind_five 1) x 4 (Ok (value.Counter (pos 4)))
window-1 = (lit≤ tt, refl)

window-1-late : ReadsAt five (behind_five 1) x 3 (Err (at_error.Late 3 4))
window-1-late = (lit< tt, refl, refl)

-- a window of 2 reaches back to 3
window-2 : ReadsAt five (behind_five 2) x 3 (Ok (value.Counter (pos 3)))
window-2 = (lit≤ tt, refl)

window-2-late : ReadsAt five (behind_five 2) x 2 (Err (at_error.Late 2 3))
window-2-late = (lit< tt, refl, refl)

window-2-later : ReadsAt five (behind_five 2) x 0 (Err (at_error.Late 0 3))
window-2-later = (lit< tt, refl, refl)

-- a window of more commits than there are reaches back to the beginning
window-4096 : ReadsAt five (behind_five 4096) x 1 (Ok (value.Counter (pos 1)))
window-4096 = (lit≤ tt, refl)

window-4096-begins : ReadsAt five (behind_five 4096) x 0 (Ok (value.Counter (pos 0)))
window-4096-begins = (lit≤ tt, refl)

-- what was read of x at a base
abbrev read_at : ℕ → List Based
read_at base = record { address = x; obs = obs.CounterIs; base = base } ∷ []

-- an addition by the commit of a number, which clashes with that
abbrev added_by : ℕ → ℕ → Witness
added_by base number = record { address = x; obs = obs.CounterIs; base = base; part = op.AddCounter (pos 1); number = number }

-- late comes before a clash: the commits past 2 clash, too
late-first : Validates five (behind_five 2) (read_at 2) (Err (refusal.Late 2 3))
late-first = (refl, refl)

-- of the two commits past 3 the first is named, and past 4 there is the last alone
clash-past-3 : Validates five (behind_five 2) (read_at 3) (Err (refusal.Clash (added_by 3 4)))
clash-past-3 = (
  refl,
  record {
    found = record { place = 0; number = 4 };
    pair = record { observation = _; change = _; index = 3; placed = refl; among = refl; numbered = refl; clashing = refl };
    least = refl;
    names = record { address = refl; observed = refl; base = refl; part = refl; number = refl };
  },
)

clash-past-4 : Validates five (behind_five 2) (read_at 4) (Err (refusal.Clash (added_by 4 5)))
clash-past-4 = (
  refl,
  record {
    found = record { place = 0; number = 5 };
    pair = record { observation = _; change = _; index = 4; placed = refl; among = refl; numbered = refl; clashing = refl };
    least = refl;
    names = record { address = refl; observed = refl; base = refl; part = refl; number = refl };
  },
)

-- and past the front nothing clashes
front-5 : Validates five (behind_five 2) (read_at 5) (Ok (record { shard = 1; front = 5 }))
front-5 = (refl, refl, refl)
