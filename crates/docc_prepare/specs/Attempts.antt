-- Attempts: what was read and prepared for a body so far, the next event, and when all that fits a journal.
use Rattle.std.proofs.Common.{ap, sym, subst, ◌∙◌}
use Rattle.std.specs.Prelude.{◌≡◌, ℕ, Bool, ◌≤◌, ◌==◌, if◌then◌else◌, List, [], ◌∷◌, ◌++◌, map, filter, length, take, min, Option, Some, None, codes, pos, refl}
use Rattle.std.specs.List.{list_any, AllByRecursion}
use Rattle.std.specs.Map.{lookup}
use Rattle.std.specs.BTreeMap.{is_at, insert_entry}
use Rattle.rdt_types.specs.declared.address.Kind.TheVariants as kind
use Rattle.rdt_types.specs.declared.address.Address.{Address}
use Rattle.rdt_types.specs.declared.value.Value.TheVariants as value
use Rattle.rdt_types.specs.Addresses.{address_cmp}
use Rattle.rdt_types.specs.Shards.{shard_of}
use Rattle.conflict_table.specs.declared.observation.Obs.TheVariants as obs
use Rattle.abort_witness.specs.declared.witness.Based.{Based}
use Rattle.txn_trees.specs.declared.statement.Body.{Body}
use Rattle.txn_lang.specs.declared.run.Run.{Run}
use Rattle.txn_lang.specs.declared.run.Seen.{Seen}
use Rattle.txn_lang.specs.declared.snaps.Snap.{Snap}
use Rattle.txn_lang.specs.States.{Journal, state}
use Rattle.txn_lang.specs.Execution.{Ran, need, done, exec}
use Rattle.txn_eval.specs.declared.pause.Pause.{Pause}
use Rattle.txn_eval.specs.Running.{values_of}
use Rattle.txn_eval.specs.Pausing.{IsPauseOf}
use Rattle.journal_core.specs.declared.ready.PreparedFront.{PreparedFront}
use Rattle.journal_core.specs.declared.ready.Ready.{Ready}
use Rattle.journal_core.specs.Pairs.{pairs}
use Rattle.docc_prepare.specs.declared.attempt.Attempt.{Attempt}
use Rattle.docc_prepare.specs.declared.attempt.Next.{Next}
use Rattle.docc_prepare.specs.declared.attempt.Next.TheVariants as next

-- ---- what it reads, and what it does on that

-- what was read: addresses, each with its value and base
abbrev pub SnapList : Type 0
SnapList = List (Address × Snap)

-- the run of its body on the values that were read
abbrev pub ran : Attempt → Ran
ran attempt = exec attempt.body.body (values_of attempt.snaps)

-- the run of its body comes to this pause on the values that were read
abbrev pub PausesAt : Attempt → Pause → Type 0
PausesAt attempt pause = IsPauseOf attempt.body.body.stmts attempt.snaps pause

-- to whatever pause the one comes, the other does
abbrev pub KeepsPauses : Attempt → Attempt → Type 0
KeepsPauses old new = (pause : Pause) → PausesAt old pause → PausesAt new pause

-- the front at which an address was read, or 0 where it wasn't
abbrev pub base_in : Option Snap → ℕ
base_in None = 0
base_in (Some snap) = snap.base

-- the base of what was read at an address
abbrev pub base_at : SnapList → Address → ℕ
base_at snaps address = base_in (lookup (is_at (address_cmp address)) snaps)

-- an observation with the base of its address
abbrev pub with_base : SnapList → Seen → Based
with_base snaps seen = record { address = seen.address; obs = seen.obs; base = base_at snaps seen.address }

-- observations with the bases of their addresses
abbrev pub based : SnapList → List Seen → List Based
based snaps seen = map (with_base snaps) seen

-- those whose addresses are in one of so many shards
abbrev pub in_shard : ℕ → ℕ → List Based → List Based
in_shard shards shard all = filter (λ b. shard_of b.address shards == shard) all

-- ---- the next event

-- whether a shard has a front
abbrev pub has_front : List PreparedFront → ℕ → Bool
has_front fronts shard = list_any (λ prepared. prepared.shard == shard) fronts

-- the lesser of a number and one that may be there
abbrev pub lesser : ℕ → Option ℕ → ℕ
lesser n None = n
lesser n (Some other) = min n other

-- the least shard that holds an observed address and has no front, if there is one
abbrev pub least_unprepared : ℕ → List PreparedFront → List Seen → Option ℕ
least_unprepared shards fronts [] = None
least_unprepared shards fronts (seen ∷ rest) =
    if has_front fronts (shard_of seen.address shards) then least_unprepared shards fronts rest
    else Some (lesser (shard_of seen.address shards) (least_unprepared shards fronts rest))

-- what comes next where the run is done
abbrev pub next_of_run : Run → Option ℕ → Next
next_of_run run None = next.Append run
next_of_run run (Some shard) = next.Prepare shard run

-- the next event by the run: a read of what it needs, or what follows a run that is done
abbrev pub next_of : ℕ → List PreparedFront → Ran → Next
next_of shards fronts (need address) = next.Read address
next_of shards fronts (done run) = next_of_run run (least_unprepared shards fronts run.observations)

-- The next event: a read of the address that the run needs; else the preparing of the least shard that holds an observed
-- address and has no front; else the append.
abbrev pub next_event : Attempt → Next
next_event attempt = next_of attempt.shards attempt.fronts (ran attempt)

-- the next event is the preparing of this shard
abbrev pub Prepares : Attempt → ℕ → Type 0
Prepares attempt shard = (run : Run) × (next_event attempt ≡ next.Prepare shard run)

-- ---- what it takes, and what it hands on

-- the attempt with a value more that was read
abbrev pub with_snap : Attempt → Address → Snap → Attempt
with_snap attempt address snap = record attempt { snaps = insert_entry address_cmp attempt.snaps address snap }

-- the attempt with a shard more that is prepared
abbrev pub with_front : Attempt → ℕ → ℕ → Attempt
with_front attempt shard front = record attempt { fronts = attempt.fronts ++ record { shard = shard; front = front } ∷ [] }

-- what is handed to the journal: the observations in the order of the run, with their bases, and the fronts
abbrev pub ready_of : Attempt → Run → ℕ → ℕ → Ready
ready_of attempt run client seq = record {
  client = client;
  seq = seq;
  body = attempt.body.source;
  run = run;
  based = based attempt.snaps run.observations;
  fronts = attempt.fronts;
}

-- ---- what fits a journal

-- What was read is what the journal's first commits leave, as many as the base says.
pub record SnapFits (journal : Journal) (read : Address × Snap) : Type 0 where
  pub within : read.1.base ≤ length journal
  pub value : read.1.value ≡ state journal read.1.base read.0

-- A shard's front is within the journal and no base in the shard is above it, and no commit up to it clashes with what was
-- observed in the shard.
pub record FrontFits (journal : Journal) (observed : List Based) (prepared : PreparedFront) : Type 0 where
  pub within : prepared.front ≤ length journal
  pub bases : AllByRecursion (λ b. b.base ≤ prepared.front) observed
  pub clear : pairs observed (take prepared.front journal) ≡ []

-- WHAT WAS READ IS WHAT WAS ASKED FOR, and nothing else. At first nothing is read; then, one by one, a value at the address that
-- the run needs on the values before it. The list is kept in the order of the addresses, so the order of asking stands here alone.
pub data AreAsked (body : Body) : SnapList → Type 0 where
  none_yet : AreAsked body []
  one_more : {snaps : SnapList} (address : Address) (snap : Snap) → AreAsked body snaps → exec body (values_of snaps) ≡ need address
      → AreAsked body (insert_entry address_cmp snaps address snap)

-- fronts stand only where the run is done
abbrev pub FrontsFit : Journal → ℕ → SnapList → List PreparedFront → Ran → Type 0
FrontsFit journal shards snaps fronts (need address) = fronts ≡ []
FrontsFit journal shards snaps fronts (done run) =
    AllByRecursion (λ prepared. FrontFits journal (in_shard shards prepared.shard (based snaps run.observations)) prepared) fronts

-- The attempt fits the journal: what it read and what was prepared for it do, and it read what its body asked for.
pub record Fits (journal : Journal) (attempt : Attempt) : Type 0 where
  pub asked : AreAsked attempt.body.body attempt.snaps
  pub snaps : AllByRecursion (SnapFits journal) attempt.snaps
  pub fronts : FrontsFit journal attempt.shards attempt.snaps attempt.fronts (ran attempt)

-- ---- worked lines

abbrev counter_at : List ℕ → Address
counter_at key = record { kind = kind.Counter; key = key }

abbrev counter : List ℕ → Seen
counter key = record { address = counter_at key; obs = obs.CounterIs }

-- the counter y was asked for, and with its value the counter x, which stands in front of it
asked-in-turn : (body : Body) (x y : Snap) → exec body (values_of []) ≡ need (counter_at (codes "y"))
    → exec body (values_of ((counter_at (codes "y"), y) ∷ [])) ≡ need (counter_at (codes "x"))
    → AreAsked body ((counter_at (codes "x"), x) ∷ (counter_at (codes "y"), y) ∷ [])
asked-in-turn body x y first next =
    AreAsked.one_more (counter_at (codes "x")) x (AreAsked.one_more (counter_at (codes "y")) y AreAsked.none_yet first) next

-- whether a run is done
abbrev IsDone : Ran → Type 0
IsDone (need address) = ⊥
IsDone (done run) = Unit {0}

-- what asks for nothing reads nothing
asked-nothing : (body : Body) (run : Run) (snaps : SnapList) → exec body (values_of []) ≡ done run → AreAsked body snaps → snaps ≡ []
asked-nothing body run snaps is AreAsked.none_yet = refl
asked-nothing body run snaps is (AreAsked.one_more {snaps = before} address snap asked needed) =
    let none : before ≡ [] = asked-nothing body run before is asked in
    absurd (subst IsDone (sym is ∙ (ap (λ read. exec body (values_of read)) (sym none) ∙ needed)) tt)

-- the counter y is in shard 2 and the counter x in shard 1: shard 1 is first, whatever was observed first
least_unprepared-example : least_unprepared 4 [] (counter (codes "y") ∷ counter (codes "x") ∷ []) ≡ Some 1
least_unprepared-example = refl

-- then shard 2, and then none is left
least_unprepared-second : least_unprepared 4 (record { shard = 1; front = 0 } ∷ []) (counter (codes "y") ∷ counter (codes "x") ∷ []) ≡ Some 2
least_unprepared-second = refl

-- what observes nothing goes straight to its append
append-at-once : (run : Run) → run.observations ≡ [] → next_of 4 [] (done run) ≡ next.Append run
append-at-once run e = ap (λ seen. next_of_run run (least_unprepared 4 [] seen)) e

-- the base of what was observed is that of its address
based-example :
    based ((record { kind = kind.Counter; key = codes "x" }, record { base = 3; value = value.Counter (pos 5) }) ∷ []) (counter (codes "x") ∷ [])
    ≡ record { address = record { kind = kind.Counter; key = codes "x" }; obs = obs.CounterIs; base = 3 } ∷ []
based-example = refl
