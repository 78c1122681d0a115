-- Where the code parts a list of changes by a number, and what an observation meets of it. `parted-at` and `parted-behind` of
-- proofs/Rising give the place, and the clauses of `past` and `up_to` in src/walk.rt tie it to `past` and `up_to` of
-- specs/Changes. `past-alike` of proofs/ByShard, by the clauses of `clash_past` in src/deciding.rt, ties what is met to the first
-- clash past the fronts (specs/Pairs) among all changes.
use Rattle.std.specs.Prelude.{◌≡◌, ℕ, ◌≤◌, List, ◌++◌, filter, length, take, drop}
use Rattle.change_feed.specs.declared.change.Change.{Change}
use Rattle.abort_witness.specs.declared.witness.Based.{Based}
use Rattle.abort_witness.specs.Pairs.{meets, first_clash}
use Rattle.journal_core.specs.Changes as spec

-- before a place stand the changes up to a number, and behind it those past it
pub record IsPartedAt (number : ℕ) (all : List Change) (place : ℕ) : Type 0 where
  pub within : place ≤ length all
  pub up_to : take place all ≡ spec.up_to number all
  pub past : drop place all ≡ spec.past number all

-- before a place stand changes up to a number alone
pub record IsUpToBefore (number : ℕ) (all : List Change) (place : ℕ) : Type 0 where
  pub within : place ≤ length all
  pub up_to : spec.up_to number all ≡ take place all ++ spec.up_to number (drop place all)
  pub past : spec.past number all ≡ spec.past number (drop place all)

-- Some changes are as good as others: an observation meets the same ones there as another does here.
pub record MeetsAlike (based : Based) (some : List Change) (other : Based) (all : List Change) : Type 0 where
  pub first : first_clash based some ≡ first_clash other all
  pub met : filter (meets based) some ≡ filter (meets other) all
