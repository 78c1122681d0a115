-- What stands in a journal, and what an append answers and leaves.
use Rattle.std.specs.Prelude.{◌≡◌, ◌==◌, ℕ, ◌+◌, ◌-◌, ◌<◌, ◌≤◌, if◌then◌else◌, slice_get, List, [], ◌∷◌, ◌++◌, length, Option, Some, None, codes, refl}
use Rattle.std.specs.Coded.{Coded, code_by, coded×, coded_list, coded_ℕ}
use Rattle.std.proofs.Common.{lit<, lit≤}
use Rattle.dio_core.specs.Counts.{Rose}
use Rattle.rdt_types.specs.declared.address.Kind.TheVariants as kind
use Rattle.rdt_types.specs.declared.address.Address.{Address}
use Rattle.rdt_types.specs.declared.outcome.Outcome.TheVariants as outcome
use Rattle.conflict_table.specs.declared.observation.Obs.TheVariants as obs
use Rattle.abort_witness.specs.declared.witness.Found.{Found}
use Rattle.txn_lang.specs.declared.commit.Commit.{Commit}
use Rattle.txn_lang.specs.States.{Journal}
use Rattle.txn_lang.specs.Journals.{own}
use Rattle.journal_core.specs.declared.ready.Ready.{Ready}
use Rattle.journal_core.specs.declared.slot.Slot.{Slot}
use Rattle.journal_core.specs.declared.appended.Appended.{Appended}
use Rattle.journal_core.specs.declared.appended.Appended.TheVariants as appended
use Rattle.journal_core.specs.Bodies.{IsBodyText}
use Rattle.journal_core.specs.Changes.{adding, changes}
use Rattle.journal_core.specs.Pairs.{least_pair, most_steps, past_fronts}
use Rattle.journal_core.specs.Readies.{IsRunOf, made_of}
use Rattle.journal_core.specs.Keeping.{IsOfRun, IsNext}

-- what callers see of a journal: its commits, the settings it goes by, its keeper's count of faults and its keeper's home
pub record Standing : Type 0 where
  pub commits : Journal
  pub shards : ℕ
  pub limit : ℕ
  pub faults : ℕ
  -- where what the keeper borrows is lent from
  pub home : ℕ
  -- for how many changes of a commit there is memory
  pub room : ℕ

-- it is stored as the tuple of its fields
abbrev pub standing_code : Coded Commit → Coded Standing
standing_code commit =
    code_by (Journal × (ℕ × (ℕ × (ℕ × (ℕ × ℕ)))))
    (coded× (coded_list commit) (coded× coded_ℕ (coded× coded_ℕ (coded× coded_ℕ (coded× coded_ℕ coded_ℕ)))))
    (λ s. (s.commits, (s.shards, (s.limit, (s.faults, (s.home, s.room))))))
    (λ p. record { commits = p.0; shards = p.1.0; limit = p.1.1.0; faults = p.1.1.1.0; home = p.1.1.1.1.0; room = p.1.1.1.1.1 })
    (λ _. refl)

-- ---- the decision

-- The least pair past the prepared fronts, if there is one.
abbrev pub found_past : Ready → Standing → Option Found
found_past ready standing = least_pair (past_fronts standing.shards ready.fronts ready.based) standing.commits

-- To look for it takes no more steps than this.
abbrev pub steps_past : Ready → Standing → ℕ
steps_past ready standing = most_steps (past_fronts standing.shards ready.fronts ready.based) (changes standing.commits)

-- no commit past the fronts clashes with an observation, and the journal takes one more
pub record MayAdd (ready : Ready) (standing : Standing) : Type 0 where
  pub clear : found_past ready standing ≡ None
  pub below : length standing.commits < standing.limit

-- the journal takes no more
pub record IsFull (ready : Ready) (standing : Standing) (limit : ℕ) : Type 0 where
  pub clear : found_past ready standing ≡ None
  pub limit_is : limit ≡ standing.limit
  pub reached : standing.limit ≤ length standing.commits

-- the journal with one commit more
abbrev pub with_commit : Standing → Commit → Standing
with_commit standing commit = record standing { commits = standing.commits ++ commit ∷ []; room = 0 }

-- What an append answers and leaves. The tests stand in this order: a clash past the prepared fronts, which names the least
-- pair; the limit; a fault of the keeper, whose count rose. What is left is the commit's number.
abbrev pub Decides : Ready → Standing → Appended → Standing → Type 0
Decides ready old (appended.Clash found) new = (found_past ready old ≡ Some found) × (new ≡ old)
Decides ready old (appended.Full limit) new = IsFull ready old limit × (new ≡ old)
Decides ready old (appended.DiskFault before after) new =
    MayAdd ready old × (before ≡ old.faults) × Rose before after × (new ≡ record old { faults = after })
Decides ready old (appended.Number number) new =
    MayAdd ready old × (number ≡ length old.commits + 1) × (new ≡ with_commit old (made_of old.commits ready))

-- what is said of a disk fault
abbrev pub IfDiskFault : Appended → Type 0 → Type 0
IfDiskFault (appended.DiskFault before after) P = P
IfDiskFault _ P = Unit {0}

-- the commit of a number: its place, from 1
abbrev pub commit_at : Journal → ℕ → Option Commit
commit_at journal number = if number == 0 then None else slice_get journal (number - 1)

-- ---- what a caller owes

-- A slot of what is ready: its commit is the next, the bytes stand for it, and there is memory for it.
pub record IsSlot (stands_for : List ℕ → Commit → Type 0) (ready : Ready) (standing : Standing) (slot : Slot) : Type 0 where
  pub made : slot.commit ≡ made_of standing.commits ready
  pub bytes : stands_for slot.bytes slot.commit
  pub room : length slot.changes < standing.room

-- The slot was made of what is ready at the present length, the run is one of the body, whose text is as it is kept, and the
-- seq is the next of the client.
pub record CanAppend (stands_for : List ℕ → Commit → Type 0) (ready : Ready) (slot : Slot) (standing : Standing) : Type 0 where
  pub slot_is : IsSlot stands_for ready standing slot
  pub run : IsRunOf ready.body ready.run
  pub body_text : IsBodyText ready.body
  pub next : ready.seq ≡ length (own ready.client standing.commits) + 1

-- ---- past the tests

-- the slot's commit may be kept behind these
pub record CanAdd (stands_for : List ℕ → Commit → Type 0) (slot : Slot) (standing : Standing) : Type 0 where
  pub bytes : stands_for slot.bytes slot.commit
  pub room : length slot.changes < standing.room
  pub of_run : IsOfRun slot.commit
  pub next : IsNext standing.commits slot.commit

-- the commit is added, or the keeper failed
abbrev pub Adds : Commit → Standing → Appended → Standing → Type 0
Adds commit old (appended.Number number) new = (number ≡ commit.number) × (new ≡ with_commit old commit)
Adds commit old (appended.DiskFault before after) new = (before ≡ old.faults) × Rose before after × (new ≡ record old { faults = after })
Adds commit old _ new = ⊥

-- What an append answers and leaves where nothing clashes. The limit comes first: where it is reached, nothing changes. Below it
-- the commit is added, or the keeper failed.
abbrev pub AddsBelow : Commit → Standing → Appended → Standing → Type 0
AddsBelow commit old (appended.Clash found) new = ⊥
AddsBelow commit old (appended.Full limit) new = (limit ≡ old.limit) × (old.limit ≤ length old.commits) × (new ≡ old)
AddsBelow commit old (appended.DiskFault before after) new =
    (length old.commits < old.limit) × (before ≡ old.faults) × Rose before after × (new ≡ record old { faults = after })
AddsBelow commit old (appended.Number number) new = (length old.commits < old.limit) × (number ≡ commit.number) × (new ≡ with_commit old commit)

-- ---- worked lines

abbrev counter : Address
counter = record { kind = kind.Counter; key = codes "x" }

-- what client 0 has ready that read the counter x at a base and adds to it, with no shard prepared
abbrev adder : ℕ → Ready
adder base = record {
  client = 0;
  seq = 1;
  body = [];
  run = record {
    outcome = outcome.Ok [];
    deltas = (adding 1 (codes "x")).deltas;
    observations = record { address = counter; obs = obs.CounterIs } ∷ [];
  };
  based = record { address = counter; obs = obs.CounterIs; base = base } ∷ [];
  fronts = [];
}

-- these commits, of which the journal takes two
abbrev of_two : Journal → Standing
of_two commits = record { commits = commits; shards = 4; limit = 2; faults = 0; home = 0; room = 1 }

-- behind no commit it becomes commit 1, and the journal is that one commit
Decides-example : Decides (adder 0) (of_two []) (appended.Number 1) (record (of_two []) { commits = adding 1 (codes "x") ∷ []; room = 0 })
Decides-example = (record { clear = refl; below = lit< tt }, refl, refl)

-- behind a commit that it didn't see it clashes with that, and nothing is added
Decides-clash :
    Decides (adder 0) (of_two (adding 1 (codes "x") ∷ [])) (appended.Clash (record { place = 0; number = 1 })) (of_two (adding 1 (codes "x") ∷ []))
Decides-clash = (refl, refl)

-- behind two that it saw the journal is full
Decides-full :
    Decides (adder 2) (of_two (adding 1 (codes "x") ∷ adding 2 (codes "x") ∷ [])) (appended.Full 2)
    (of_two (adding 1 (codes "x") ∷ adding 2 (codes "x") ∷ []))
Decides-full = (record { clear = refl; limit_is = refl; reached = lit≤ tt }, refl)

-- so it is behind three, where it takes two
Decides-past-full :
    Decides (adder 3) (of_two (adding 1 (codes "x") ∷ adding 2 (codes "x") ∷ adding 3 (codes "x") ∷ [])) (appended.Full 2)
    (of_two (adding 1 (codes "x") ∷ adding 2 (codes "x") ∷ adding 3 (codes "x") ∷ []))
Decides-past-full = (record { clear = refl; limit_is = refl; reached = lit≤ tt }, refl)

-- where it has as many as it takes, a clash comes first
Decides-clash-first :
    Decides (adder 1) (of_two (adding 1 (codes "x") ∷ adding 2 (codes "x") ∷ [])) (appended.Clash (record { place = 0; number = 2 }))
    (of_two (adding 1 (codes "x") ∷ adding 2 (codes "x") ∷ []))
Decides-clash-first = (refl, refl)
