-- Holds. A client whose transaction was aborted may commit a hold: a commit that says `hold` and writes nothing. As long as it
-- is live, no commit of another client disturbs what its body observed. It is a commit like any other, so the journal alone
-- tells which holds are live, and what they bar.
use Rattle.std.specs.Prelude.{◌≡◌, ◌≢◌, ℕ, ◌+◌, ◌-◌, ◌<◌, ◌==◌, Bool, true, false, ◌&&◌, not, nat_lt, if◌then◌else◌}
use Rattle.std.specs.Prelude.{List, [], ◌∷◌, ◌++◌, filter, length, take, drop, Option, Some, None, codes, pos, refl}
use Rattle.std.specs.Str.{bytes_eq}
use Rattle.std.specs.List.{list_any, AllByRecursion}
use Rattle.std.specs.BTreeMap.{is_at}
use Rattle.std.proofs.Common.{lit<}
use Rattle.rdt_types.specs.declared.address.Address.{Address}
use Rattle.rdt_types.specs.declared.address.Kind.TheVariants as kind
use Rattle.rdt_types.specs.declared.delta.Delta.{Delta}
use Rattle.rdt_types.specs.declared.outcome.Item.TheVariants as item
use Rattle.rdt_types.specs.declared.outcome.Outcome.{Outcome}
use Rattle.rdt_types.specs.declared.outcome.Outcome.TheVariants as outcome
use Rattle.rdt_types.specs.Addresses.{address_cmp}
use Rattle.rdt_types.specs.DeltaMaps.{Deltas}
use Rattle.conflict_table.specs.declared.observation.Obs.TheVariants as obs
use Rattle.conflict_table.specs.Clashes.{clash}
use Rattle.txn_trees.specs.declared.statement.Body.{Body}
use Rattle.txn_lang.specs.declared.commit.Commit.{Commit}
use Rattle.txn_lang.specs.declared.run.Seen.{Seen}
use Rattle.txn_lang.specs.States.{Journal, known, left_by}
use Rattle.txn_lang.specs.Execution.{Ran, need, done, exec}
use Rattle.txn_lang.specs.Tree.{tree}
use Rattle.journal_core.specs.declared.hold.Hold.{Hold}
use Rattle.journal_core.specs.declared.hold.Barred.{Barred}
use Rattle.journal_core.specs.declared.limits.TheConstants.{HOLD_LASTS}
use Rattle.journal_core.specs.Changes.{adding}
use Rattle.journal_core.specs.Journals.{commit_at}

-- ---- which commits are holds, and what they observe

-- the run was ok, and the first that it emitted is the text `hold`
abbrev pub says_hold : Outcome → Bool
says_hold (outcome.Ok (item.Text text ∷ rest)) = bytes_eq text (codes "hold")
says_hold other = false

-- A commit is a hold where it says so and writes nothing. The first m commits of a journal, which nobody ran again, are none.
abbrev pub is_hold : ℕ → Commit → Bool
is_hold m commit = nat_lt m commit.number && says_hold commit.outcome && length commit.deltas == 0

-- what a run has observed that is done
abbrev pub seen_by : Ran → List Seen
seen_by (need address) = []
seen_by (done run) = run.observations

-- what a body observes on the state that commits leave
abbrev pub seen_behind : Journal → Option Body → List Seen
seen_behind before None = []
seen_behind before (Some body) = seen_by (exec body (known (left_by before)))

-- what the body of a commit observes on the state that the commits before it leave
abbrev pub observed_alone : Journal → Commit → List Seen
observed_alone before commit = seen_behind before (tree commit.body)

-- ---- what disturbs them

-- a delta is at the address of what was observed, and clashes with it
abbrev pub hits : Seen → Address × Delta → Bool
hits seen pair = is_at (address_cmp seen.address) pair.0 && clash seen.obs pair.1

-- some delta hits what was observed
abbrev pub disturbs : Deltas → Seen → Bool
disturbs deltas seen = list_any (hits seen) deltas

-- and some of what was observed is hit
abbrev pub disturbs_some : Deltas → List Seen → Bool
disturbs_some deltas observations = list_any (disturbs deltas) observations

-- ---- which are live

-- A HOLD IS LIVE, to judge by: it is a commit of the journal that is a hold, fewer than 64 stand behind it, and of these none
-- is its client's, and none disturbs what it observed.
pub record IsLive (m : ℕ) (journal : Journal) (hold : Hold) : Type 0 where
  pub commit : Commit
  pub placed : commit_at journal hold.number ≡ Some commit
  pub is : is_hold m commit ≡ true
  pub client : hold.client ≡ commit.client
  pub observed : hold.observations ≡ observed_alone (take (hold.number - 1) journal) commit
  pub young : length journal < hold.number + HOLD_LASTS
  pub others : AllByRecursion (λ later. later.client ≢ hold.client) (drop hold.number journal)
  pub undisturbed : AllByRecursion (λ later. disturbs_some later.deltas hold.observations ≡ false) (drop hold.number journal)

-- whether a hold is live still behind a further commit
abbrev pub outlasts : Commit → Hold → Bool
outlasts commit hold =
    nat_lt commit.number (hold.number + HOLD_LASTS) && not (hold.client == commit.client) && not (disturbs_some commit.deltas hold.observations)

-- the hold that a commit is, whose body observes these
abbrev pub hold_of : Commit → List Seen → Hold
hold_of commit observations = record { client = commit.client; number = commit.number; observations = observations }

-- that hold alone, or none where the commit is no hold
abbrev pub new_hold : ℕ → Commit → List Seen → List Hold
new_hold m commit observations = if is_hold m commit then hold_of commit observations ∷ [] else []

-- The holds that are live behind a further commit: those that outlast it, and the one that it is itself, with what it observes.
abbrev pub with_hold : ℕ → List Hold → Commit → List Seen → List Hold
with_hold m holds commit observations = filter (outlasts commit) holds ++ new_hold m commit observations

-- those that are live behind further commits, where these commits and these live holds are behind us
abbrev pub live_from : ℕ → Journal → List Hold → Journal → List Hold
live_from m before holds [] = holds
live_from m before holds (commit ∷ rest) =
    live_from m (before ++ commit ∷ []) (with_hold m holds commit (observed_alone before commit)) rest

-- the live holds of a journal, by rising numbers
abbrev pub live : ℕ → Journal → List Hold
live m journal = live_from m [] [] journal

-- ---- what they bar

-- Of these holds, by rising numbers, the first that deltas disturb bars them. A client's own hold bars it not, and spares it all
-- that are behind that one.
abbrev pub bars_of : List Hold → ℕ → Deltas → Option Barred
bars_of [] client deltas = None
bars_of (hold ∷ rest) client deltas =
    if hold.client == client then None
    else if disturbs_some deltas hold.observations then Some (record { client = hold.client; at = hold.number })
    else bars_of rest client deltas

-- the live hold of the journal that bars a client's deltas, if there is one
abbrev pub bars : ℕ → Journal → ℕ → Deltas → Option Barred
bars m journal client deltas = bars_of (live m journal) client deltas

-- WHAT BARS, to judge by: a live hold of another client that the deltas disturb. Below it none is live that they disturb or that
-- is the client's own.
pub record IsBar (m : ℕ) (journal : Journal) (client : ℕ) (deltas : Deltas) (barred : Barred) : Type 0 where
  pub hold : Hold
  pub live : IsLive m journal hold
  pub at : barred.at ≡ hold.number
  pub whose : barred.client ≡ hold.client
  pub another : hold.client ≢ client
  pub disturbed : disturbs_some deltas hold.observations ≡ true
  pub least : (other : Hold) → IsLive m journal other → other.number < hold.number
      → (other.client ≢ client) × (disturbs_some deltas other.observations ≡ false)

-- ---- worked lines

abbrev counter : Address
counter = record { kind = kind.Counter; key = codes "x" }

-- a hold of a client, at a number, that read the counter x
abbrev held_by : ℕ → ℕ → Hold
held_by client number = record { client = client; number = number; observations = record { address = counter; obs = obs.CounterIs } ∷ [] }

-- an addition to x by client 0
abbrev add_x : Deltas
add_x = (adding 1 (codes "x")).deltas

-- an outcome with the text `hold` says so
says_hold-example : says_hold (outcome.Ok (item.Text (codes "hold") ∷ item.Int (pos 5) ∷ [])) ≡ true
says_hold-example = refl

-- as a second item it says nothing
says_hold-second : says_hold (outcome.Ok (item.Int (pos 5) ∷ item.Text (codes "hold") ∷ [])) ≡ false
says_hold-second = refl

-- a commit of client 0 that says `hold` and writes nothing
abbrev holding : ℕ → Commit
holding number = record (adding number (codes "x")) { outcome = outcome.Ok (item.Text (codes "hold") ∷ []); deltas = [] }

-- a commit that writes is no hold, whatever it says
is_hold-writing : is_hold 0 (record (holding 1) { deltas = add_x }) ≡ false
is_hold-writing = refl

-- nor is one of the first m
is_hold-first : is_hold 1 (holding 1) ≡ false
is_hold-first = refl

is_hold-behind : is_hold 0 (holding 1) ≡ true
is_hold-behind = refl

-- a hold that is the whole journal is live in it, and listed
IsLive-example : IsLive 0 (holding 1 ∷ []) (hold_of (holding 1) (observed_alone [] (holding 1)))
IsLive-example = record {
  commit = holding 1;
  placed = refl;
  is = refl;
  client = refl;
  observed = refl;
  young = lit< tt;
  others = tt;
  undisturbed = tt;
}

live-example : live 0 (holding 1 ∷ []) ≡ hold_of (holding 1) (observed_alone [] (holding 1)) ∷ []
live-example = refl

-- where nothing says `hold` none is
live-none : live 0 (adding 1 (codes "x") ∷ []) ≡ []
live-none = refl

-- a hold stands behind another client's, and in place of its own client's
with_hold-another : with_hold 0 (held_by 1 1 ∷ []) (holding 2) ((held_by 0 2).observations) ≡ held_by 1 1 ∷ held_by 0 2 ∷ []
with_hold-another = refl

with_hold-own : with_hold 0 (held_by 0 1 ∷ []) (holding 2) ((held_by 0 2).observations) ≡ held_by 0 2 ∷ []
with_hold-own = refl

-- the least hold of another client bars
bars-least : bars_of (held_by 0 2 ∷ held_by 2 3 ∷ []) 1 add_x ≡ Some (record { client = 0; at = 2 })
bars-least = refl

-- whoever has the first hold is barred by none
bars-own : bars_of (held_by 0 2 ∷ held_by 2 3 ∷ []) 0 add_x ≡ None
bars-own = refl

-- whoever has the second is barred by the first
bars-later : bars_of (held_by 0 2 ∷ held_by 2 3 ∷ []) 2 add_x ≡ Some (record { client = 0; at = 2 })
bars-later = refl

-- what writes elsewhere is barred by none
bars-elsewhere : bars_of (held_by 0 2 ∷ []) 1 ((adding 1 (codes "y")).deltas) ≡ None
bars-elsewhere = refl

-- a hold at 1 outlasts a commit with the number 64 that disturbs nothing, and none with the number 65
outlasts-64 : outlasts (adding 64 (codes "y")) (held_by 1 1) ≡ true
outlasts-64 = refl

outlasts-65 : outlasts (adding 65 (codes "y")) (held_by 1 1) ≡ false
outlasts-65 = refl

-- nor does it outlast a commit of its own client, or one that disturbs it
outlasts-own : outlasts (adding 2 (codes "y")) (held_by 0 1) ≡ false
outlasts-own = refl

outlasts-disturbed : outlasts (adding 2 (codes "x")) (held_by 1 1) ≡ false
outlasts-disturbed = refl
