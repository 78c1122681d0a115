-- Pairs of an observation and a commit of a journal that clashes with it, and the pairs past what was prepared.
use Rattle.std.specs.Prelude.{◌≡◌, ℕ, ◌+◌, ◌==◌, if◌then◌else◌, List, [], ◌∷◌, ◌++◌, map, filter, max, length, slice_get, Option, Some, None, MatchOption, codes, refl}
use Rattle.std.specs.List.{list_any}
use Rattle.rdt_types.specs.declared.address.Kind.TheVariants as kind
use Rattle.rdt_types.specs.Shards.{shard_of}
use Rattle.conflict_table.specs.declared.observation.Obs.TheVariants as obs
use Rattle.change_feed.specs.declared.change.Change.{Change}
use Rattle.abort_witness.specs.declared.witness.Based.{Based}
use Rattle.abort_witness.specs.declared.witness.Found.{Found}
use Rattle.abort_witness.specs.Pairs.{meets, clashes, least, IsLeast, HasNoPair}
use Rattle.txn_lang.specs.declared.commit.Commit.{Commit}
use Rattle.txn_lang.specs.States.{Journal}
use Rattle.journal_core.specs.declared.ready.PreparedFront.{PreparedFront}
use Rattle.journal_core.specs.Changes.{changes_of, changes, adding}

-- the observations, from a place on, with which some change of a commit clashes
abbrev pub hits_from : ℕ → List Based → Commit → List Found
hits_from place [] commit = []
hits_from place (based ∷ rest) commit =
    if list_any (clashes based) (changes_of commit) then record { place = place; number = commit.number } ∷ hits_from (place + 1) rest commit
    else hits_from (place + 1) rest commit

-- All pairs of an observation and a commit that clashes with it, by commits, and of one commit by observations.
abbrev pub pairs : List Based → Journal → List Found
pairs based [] = []
pairs based (commit ∷ rest) = hits_from 0 based commit ++ pairs based rest

-- the least pair, if there is one: they stand in order
abbrev pub least_pair : List Based → Journal → Option Found
least_pair based journal = slice_get (pairs based journal) 0

-- each commit of the journal has its place as its number, from 1
abbrev pub AreNumberedFrom : ℕ → Journal → Type 0
AreNumberedFrom n [] = Unit {0}
AreNumberedFrom n (commit ∷ rest) = (commit.number ≡ n + 1) × AreNumberedFrom (n + 1) rest

-- the commits of a journal have the numbers from 1 on
abbrev pub AreNumbered : Journal → Type 0
AreNumbered journal = AreNumberedFrom 0 journal

-- A law: the least pair in the changes of a journal is its first pair.
abbrev pub LeastIsFirst : Type 0
LeastIsFirst = (based : List Based) (journal : Journal) → AreNumbered journal → least based (changes journal) ≡ least_pair based journal

-- A law: of all pairs it is the least, none of a lesser number and none of its number at an earlier place, and it is none
-- exactly where there is no pair.
abbrev pub LeastPairIsLeast : Type 0
LeastPairIsLeast =
    (based : List Based) (journal : Journal) → AreNumbered journal
    → MatchOption (least_pair based journal) (HasNoPair based (changes journal)) (IsLeast based (changes journal))

-- ---- past what was prepared

-- the front at which a shard was prepared, or 0 where it wasn't
abbrev pub front_at : List PreparedFront → ℕ → ℕ
front_at [] shard = 0
front_at (prepared ∷ rest) shard = if prepared.shard == shard then prepared.front else front_at rest shard

-- An observation whose shard was prepared is as good as one made at that front.
abbrev pub past_front : ℕ → List PreparedFront → Based → Based
past_front shards fronts based = record based { base = max based.base (front_at fronts (shard_of based.address shards)) }

-- the same of each
abbrev pub past_fronts : ℕ → List PreparedFront → List Based → List Based
past_fronts shards fronts based = map (past_front shards fronts) based

-- How many pairs there are of an observation and a change past its base and at its address: more steps no decision makes.
abbrev pub most_steps : List Based → List Change → ℕ
most_steps [] all = 0
most_steps (based ∷ rest) all = length (filter (meets based) all) + most_steps rest all

-- ---- worked lines

-- a counter that was read at 1
abbrev read : List ℕ → Based
read key = record { address = record { kind = kind.Counter; key = key }; obs = obs.CounterIs; base = 1 }

-- of three commits the second and the third change what was read at 1
pairs-example :
    pairs (read (codes "x") ∷ read (codes "y") ∷ []) (adding 1 (codes "x") ∷ adding 2 (codes "y") ∷ adding 3 (codes "x") ∷ [])
    ≡ record { place = 1; number = 2 } ∷ record { place = 0; number = 3 } ∷ []
pairs-example = refl

-- the counter x is in shard 1 of 4, and so a front of shard 1 counts for it
past_front-example : past_front 4 (record { shard = 1; front = 2 } ∷ []) (read (codes "x")) ≡ record (read (codes "x")) { base = 2 }
past_front-example = refl

-- three commits, of which the first and the last add to x, and the second to y
abbrev three : Journal
three = adding 1 (codes "x") ∷ adding 2 (codes "y") ∷ adding 3 (codes "x") ∷ []

-- a counter that was read at a base
abbrev read_at : List ℕ → ℕ → Based
read_at key base = record (read key) { base = base }

-- the least pair of these observations among the three, where shard 1, which holds x, was prepared at a front
abbrev least_of_three : List Based → ℕ → Option Found
least_of_three based front = least_pair (past_fronts 4 (record { shard = 1; front = front } ∷ []) based) three

-- the least number counts, at whichever place
least-number : least_of_three (read_at (codes "y") 0 ∷ read_at (codes "x") 0 ∷ []) 0 ≡ Some (record { place = 1; number = 1 })
least-number = refl

least-number-between :
    least_of_three (read_at (codes "x") 1 ∷ read_at (codes "y") 1 ∷ read_at (codes "x") 2 ∷ []) 0 ≡ Some (record { place = 1; number = 2 })
least-number-between = refl

-- and of one number the first observation
first-observation :
    least_of_three (read_at (codes "y") 2 ∷ read_at (codes "x") 2 ∷ read_at (codes "x") 1 ∷ []) 0 ≡ Some (record { place = 1; number = 3 })
first-observation = refl

-- where shard 1 was prepared behind commit 1, the observation of x counts from there
first-front : least_of_three (read_at (codes "y") 2 ∷ read_at (codes "x") 0 ∷ []) 1 ≡ Some (record { place = 1; number = 3 })
first-front = refl

-- and where it was prepared behind all three, y is left, which is in another shard
other-shard : least_of_three (read_at (codes "y") 0 ∷ read_at (codes "x") 0 ∷ []) 3 ≡ Some (record { place = 0; number = 2 })
other-shard = refl

-- the least pair of x alone, by its base and the front
abbrev least_of_x : ℕ → ℕ → Option Found
least_of_x base front = least_of_three (read_at (codes "x") base ∷ []) front

-- behind nothing, commit 1 counts
past-0-and-0 : least_of_x 0 0 ≡ Some (record { place = 0; number = 1 })
past-0-and-0 = refl

-- past 1 or 2, by the base or by the front, commit 3 does
past-1-and-0 : least_of_x 1 0 ≡ Some (record { place = 0; number = 3 })
past-1-and-0 = refl

past-0-and-1 : least_of_x 0 1 ≡ Some (record { place = 0; number = 3 })
past-0-and-1 = refl

past-2-and-0 : least_of_x 2 0 ≡ Some (record { place = 0; number = 3 })
past-2-and-0 = refl

past-0-and-2 : least_of_x 0 2 ≡ Some (record { place = 0; number = 3 })
past-0-and-2 = refl

-- and past 3 none
past-3-and-0 : least_of_x 3 0 ≡ None
past-3-and-0 = refl

past-0-and-3 : least_of_x 0 3 ≡ None
past-0-and-3 = refl
