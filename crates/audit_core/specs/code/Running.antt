-- How the code keeps what it knows between two commits, and what it lends to a run.
use Rattle.std.specs.Prelude.{◌≡◌, ◌≢◌, ℕ, Bool, true, false, if◌then◌else◌, List, length, fold, Option, Some, None, unwrap_or, Result, IfOk, OnOk}
use Rattle.std.specs.Map.{lookup, set_value}
use Rattle.std.specs.BTreeMap.{insert_entry, is_at}
use Rattle.std.specs.Ordering.{nat_cmp}
use Rattle.rdt_types.specs.declared.address.Address.{Address}
use Rattle.rdt_types.specs.Addresses.{address_cmp}
use Rattle.rdt_types.specs.declared.value.Value.{Value}
use Rattle.rdt_types.specs.declared.value.Value.TheVariants as value
use Rattle.rdt_types.specs.Values.{default_of}
use Rattle.txn_trees.specs.declared.statement.Body.{Body}
use Rattle.txn_lang.specs.declared.checked.Checked.{Checked}
use Rattle.txn_lang.specs.declared.commit.Commit.{Commit}
use Rattle.txn_lang.specs.declared.snaps.Snap.{Snap}
use Rattle.txn_lang.specs.declared.run.Run.{Run}
use Rattle.txn_lang.specs.States.{Journal, State, PartialState, known, left_by}
use Rattle.txn_lang.specs.Execution.{exec, done}
use Rattle.txn_lang.specs.Journals.{own}
use Rattle.txn_lang.specs.Tree.{tree}
use Rattle.txn_eval.specs.Running.{values_of}
use Rattle.audit_core.specs.declared.auditing.Auditor.{Auditor}
use Rattle.audit_core.specs.declared.verdict.Flaw.{Flaw}
use Rattle.audit_core.specs.declared.verdict.Flaw.TheVariants as flaw
use Rattle.audit_core.specs.Dumps.{Values, state_of}
use Rattle.audit_core.specs.Verdicts.{IsFound, IsRunOf}

-- a value is one number or truth value: a run is lent a copy of it
abbrev pub is_small : Value → Bool
is_small (value.Bool b) = true
is_small (value.Counter n) = true
is_small (value.Peak n) = true
is_small _ = false

-- what is left of a value that is lent, where another one is at hand
abbrev pub left_of : Value → Value → Value
left_of lent other = if is_small lent then lent else other

-- values, of which the one at an address was lent, if there is one: where it isn't small, the default is in its place
abbrev pub without_value : Values → Address → Values
without_value values address = set_value (is_at (address_cmp address)) values (left_of (state_of values address) (default_of address.kind))

-- values, with one that was lent back in its place; what is small has never left it
abbrev pub with_snap : Values → Address × Snap → Values
with_snap values pair = if is_small pair.1.value then values else set_value (is_at (address_cmp pair.0)) values pair.1.value

-- values, with those of snaps back in their places
abbrev pub with_snaps : Values → List (Address × Snap) → Values
with_snaps values snaps = fold with_snap values snaps

-- Some of a state's values are lent to a run: with these in front, the others are the state; where nothing is kept, the state has
-- its default; and what is small is kept as well.
pub record IsLent (m : State) (values : Values) (snaps : List (Address × Snap)) : Type 0 where
  pub whole : (a : Address) → unwrap_or (values_of snaps a) (state_of values a) ≡ m a
  pub absent : (a : Address) → lookup (is_at (address_cmp a)) values ≡ None → m a ≡ default_of a.kind
  pub small : (a : Address) (v : Value) → values_of snaps a ≡ Some v → is_small v ≡ true → state_of values a ≡ v

-- how many commits of a client were counted
abbrev pub counted : List (ℕ × ℕ) → ℕ → ℕ
counted seqs client = unwrap_or (lookup (is_at (nat_cmp client)) seqs) 0

-- What is kept of the commits so far: the state that they leave, and how many each client has.
pub record HasTaken (journal : Journal) (auditor : Auditor) : Type 0 where
  pub state : state_of auditor.state ≡ left_by journal
  pub counts : (client : ℕ) → counted auditor.seqs.entries client ≡ length (own client journal)

-- whatever commits it is that this is kept of, it is so still where nothing failed
abbrev pub KeepsTaken : {A E : Type 0} → Result A E → Auditor → Auditor → Type 0
KeepsTaken result old new = (before : Journal) → HasTaken before old → OnOk result (HasTaken before new)

-- of whatever commits it is that this is kept, a commit that may be next behind them is found to be what it is
abbrev pub FindsNext : {E : Type 0} → (Journal → Type 0) → Commit → Auditor → Result (Option Flaw) E → Type 0
FindsNext MayBeNext commit auditor result = (before : Journal) → HasTaken before auditor → MayBeNext before → IfOk result (IsFound before commit)

-- snaps, with a value of a state more
abbrev pub with_lent : List (Address × Snap) → Values → Address → List (Address × Snap)
with_lent snaps values address = insert_entry address_cmp snaps address (record { base = 0; value = state_of values address })

-- whatever state these are of, it is lent to a run still
abbrev pub KeepsLent : Values → List (Address × Snap) → Values → List (Address × Snap) → Type 0
KeepsLent old_values old_snaps values snaps = (m : State) → IsLent m old_values old_snaps → IsLent m values snaps

-- on that state a body comes to a run
abbrev pub RunsOnLent : Body → Values → List (Address × Snap) → Run → Type 0
RunsOnLent body values snaps run = (m : State) → IsLent m values snaps → exec body (known m) ≡ done run

-- a body is that of a text
abbrev pub IsBodyOf : List ℕ → Body → Type 0
IsBodyOf text body = tree text ≡ Some body

-- what a text is read as: a body that may run, or that it is none
abbrev pub IsReadOrNone : List ℕ → Option Checked → Type 0
IsReadOrNone text None = tree text ≡ None
IsReadOrNone text (Some checked) = tree text ≡ Some checked.body

-- what a text comes to on a state: its run, or that it is no body
abbrev pub IsRunOrNone : PartialState → List ℕ → Option Run → Type 0
IsRunOrNone s text None = tree text ≡ None
IsRunOrNone s text (Some run) = IsRunOf s text run

-- What a commit says otherwise than its body's run: nothing, or another outcome, or other deltas alone.
abbrev pub Differs : Commit → Run → Option Flaw → Type 0
Differs commit run None = (commit.outcome ≡ run.outcome) × (commit.deltas ≡ run.deltas)
Differs commit run (Some flaw.Outcome) = commit.outcome ≢ run.outcome
Differs commit run (Some flaw.Deltas) = (commit.outcome ≡ run.outcome) × (commit.deltas ≢ run.deltas)
Differs commit run (Some _) = ⊥
