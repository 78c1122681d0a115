-- The changes of a journal's commits: one change is what a commit does at one address.
use Rattle.std.specs.Prelude.{◌≡◌, ℕ, ◌==◌, nat_le, List, [], ◌∷◌, ◌++◌, map, filter, length, codes, pos, refl}
use Rattle.rdt_types.specs.declared.address.Kind.TheVariants as kind
use Rattle.rdt_types.specs.declared.address.Address.{Address}
use Rattle.rdt_types.specs.declared.delta.Delta.TheVariants as delta
use Rattle.rdt_types.specs.declared.outcome.Outcome.TheVariants as outcome
use Rattle.rdt_types.specs.DeltaMaps.{Deltas}
use Rattle.rdt_types.specs.Shards.{shard_of}
use Rattle.change_feed.specs.declared.change.Change.{Change}
pub use Rattle.change_feed.specs.Changes.{past, of_address}
use Rattle.txn_lang.specs.declared.commit.Commit.{Commit}
use Rattle.txn_lang.specs.States.{Journal}

-- the changes that the commit of a number makes by its deltas
abbrev pub changes_by : ℕ → Deltas → List Change
changes_by number deltas = map (λ pair. record { number = number; address = pair.0; delta = pair.1 }) deltas

-- the changes of one commit, by rising address
abbrev pub changes_of : Commit → List Change
changes_of commit = changes_by commit.number commit.deltas

-- all changes of a journal, commit after commit
abbrev pub changes : Journal → List Change
changes [] = []
changes (commit ∷ rest) = changes_of commit ++ changes rest

-- the changes of commits up to a number
abbrev pub up_to : ℕ → List Change → List Change
up_to to all = filter (λ change. nat_le change.number to) all

-- the changes of commits past one number and up to another
abbrev pub between : ℕ → ℕ → List Change → List Change
between from to all = past from (up_to to all)

-- the changes in one of so many shards
abbrev pub of_shard : ℕ → ℕ → List Change → List Change
of_shard shards shard all = filter (λ change. shard_of change.address shards == shard) all

-- the changes of a journal in a shard, of commits past one number and up to another
abbrev pub between_in : ℕ → ℕ → ℕ → ℕ → Journal → List Change
between_in shards shard from to journal = of_shard shards shard (between from to (changes journal))

-- and those at an address
abbrev pub between_at : Address → ℕ → ℕ → Journal → List Change
between_at address from to journal = of_address address (between from to (changes journal))

-- ---- worked lines

abbrev counter : List ℕ → Address
counter key = record { kind = kind.Counter; key = key }

-- a commit that adds to the counter of a key
abbrev pub adding : ℕ → List ℕ → Commit
adding number key = record {
  number = number;
  client = 0;
  seq = number;
  body = [];
  outcome = outcome.Ok [];
  deltas = (counter key, delta.AddCounter (pos 1)) ∷ [];
}

-- past 1 and up to 2 there is the second commit's change alone
between-example : between 1 2 (changes (adding 1 (codes "x") ∷ adding 2 (codes "y") ∷ adding 3 (codes "x") ∷ [])) ≡ changes_of (adding 2 (codes "y"))
between-example = refl

-- among four shards, the counter x is in shard 1
of_shard-example : of_shard 4 1 (changes (adding 1 (codes "x") ∷ [])) ≡ changes_of (adding 1 (codes "x"))
of_shard-example = refl

-- how many changes in that shard there are past one number and up to another, where the first of three commits and the last
-- change x, and the second y
abbrev count_between : ℕ → ℕ → ℕ
count_between from to =
    length (of_shard 4 1 (between from to (changes (adding 1 (codes "x") ∷ adding 2 (codes "y") ∷ adding 3 (codes "x") ∷ []))))

-- up to the last
count-0-3 : count_between 0 3 ≡ 2
count-0-3 = refl

count-1-3 : count_between 1 3 ≡ 1
count-1-3 = refl

count-2-3 : count_between 2 3 ≡ 1
count-2-3 = refl

count-3-3 : count_between 3 3 ≡ 0
count-3-3 = refl

-- up to the second
count-0-2 : count_between 0 2 ≡ 1
count-0-2 = refl

count-1-2 : count_between 1 2 ≡ 0
count-1-2 = refl
