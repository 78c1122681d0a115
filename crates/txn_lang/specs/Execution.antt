-- Whole runs: what a body does on the values of a state that may be partial. The rules run over the body's own operations,
-- which are replayed on plain values.
use Rattle.std.specs.Prelude.{◌≡◌, ◌≤◌, ℕ, if◌then◌else◌, List, [], ◌∷◌, ◌++◌, Option, Some, None, codes, pos, true, refl}
use Rattle.rdt_types.specs.declared.address.Kind.TheVariants as kind
use Rattle.rdt_types.specs.declared.address.Address.{Address}
use Rattle.rdt_types.specs.declared.value.Value.{Value}
use Rattle.rdt_types.specs.declared.delta.Delta.TheVariants as delta
use Rattle.rdt_types.specs.declared.operation.WriteOp.{WriteOp}
use Rattle.rdt_types.specs.declared.operation.WriteOp.TheVariants as op
use Rattle.rdt_types.specs.declared.outcome.Item.{Item}
use Rattle.rdt_types.specs.declared.outcome.Item.TheVariants as item
use Rattle.rdt_types.specs.declared.outcome.Outcome.{Outcome}
use Rattle.rdt_types.specs.declared.outcome.Outcome.TheVariants as outcome
use Rattle.rdt_types.specs.Values.{default_of}
use Rattle.conflict_table.specs.declared.observation.Obs.TheVariants as obs
use Rattle.conflict_table.specs.declared.read.ReadOp.{ReadOp}
use Rattle.conflict_table.specs.Reads.{replay, answer, is_decided, observed}
use Rattle.txn_trees.specs.declared.word.Operator.TheVariants as operator
use Rattle.txn_trees.specs.declared.word.ReadWord.TheVariants as read_word
use Rattle.txn_trees.specs.declared.expression.ExprNode.TheOpen.{ExprNode-F}
use Rattle.txn_trees.specs.declared.statement.Body.{Body}
use Rattle.txn_lang.specs.declared.limits.TheConstants.{TICK_LIMIT}
use Rattle.txn_lang.specs.declared.progress.Progress.{Progress}
use Rattle.txn_lang.specs.declared.progress.Stop.TheVariants as stop
use Rattle.txn_lang.specs.declared.run.Run.{Run}
use Rattle.txn_lang.specs.declared.run.Seen.{Seen}
use Rattle.txn_lang.specs.States.{PartialState, x_at}
use Rattle.txn_lang.specs.Own.{Operations, at_address, with_seen, deltas_of}
use Rattle.txn_lang.specs.Steps.{Memory, Step, stopped, gives, pure, stop_by}
use Rattle.txn_lang.specs.Items.{Names}
use Rattle.txn_lang.specs.Rules.{Expression, of_node, body_run}

-- ---- the body's own operations as a memory

-- what a body has written so far, and what it has observed
pub record Own : Type 0 where
  pub operations : Operations
  pub observations : List Seen

-- a body that has done nothing
abbrev pub nothing_yet : Own
nothing_yet = record { operations = []; observations = [] }

-- A read that the own operations don't decide needs the value, and observes it.
abbrev pub own_value : ReadOp → Address → Option Value → Own → Option (Item × Own)
own_value r a None o = None
own_value r a (Some v) o =
    let own = at_address a o.operations in
    Some (answer r (replay own v), record o { observations = with_seen o.observations (record { address = a; obs = observed r own v }) })

-- A read answers what it answers of the value after the own operations at the address. Where they decide it, they do so on
-- the default as on any value.
abbrev pub own_read : PartialState → ReadOp → Address → Own → Option (Item × Own)
own_read s r a o =
    if is_decided r (at_address a o.operations) then Some (answer r (replay (at_address a o.operations) (default_of a.kind)), o)
    else own_value r a (s a) o

-- a write is one operation more
abbrev pub own_write : Address → WriteOp → Own → Own
own_write a w o = record o { operations = o.operations ++ (a, w) ∷ [] }

-- the memory of a body over a state: its own operations, and what it observed
abbrev pub own_memory : PartialState → Memory Own
own_memory s = record { read = own_read s; write = own_write }

-- ---- whole runs

-- of a run that has added 1 to the counter `x` and read its value
abbrev saw_all : Seen
saw_all = record { address = x_at; obs = obs.CounterIs }

-- an addition of 1 to x, behind a look at it
abbrev added_one : Own
added_one = record { operations = (x_at, op.AddCounter (pos 1)) ∷ []; observations = saw_all ∷ [] }

-- a run at its beginning
abbrev pub begun : {M : Type 0} → M → Progress M
begun m = record { memory = m; emitted = []; ticks = 0; load = 0 }

-- a run that leaves no deltas
abbrev pub run_with : List Seen → Outcome → Run
run_with seen how = record { outcome = how; deltas = []; observations = seen }

-- A run needs the value at an address, or it is done.
pub data Ran : Type 0 where
  need : Address → Ran
  done : Run → Ran

-- What stops a run drops what it emitted and wrote; what it observed stays.
abbrev pub ended : Step Own Names → Ran
ended (gives names p) = done (record { outcome = outcome.Ok p.emitted; deltas = deltas_of p.memory.operations; observations = p.memory.observations })
ended (stopped (stop.Need a) p) = need a
ended (stopped (stop.Fail t) p) = done (run_with p.memory.observations (outcome.Fail t))
ended (stopped stop.Spent p) = done (run_with p.memory.observations outcome.Spent)
ended (stopped _ p) = done (run_with p.memory.observations outcome.Big)

-- what was emitted and written comes out of a run that gives names, and what was observed
ended-given : ended (gives [] (record { memory = added_one; emitted = item.Int (pos 5) ∷ []; ticks = 4; load = 17 }))
    ≡ done (record { outcome = outcome.Ok (item.Int (pos 5) ∷ []); deltas = (x_at, delta.AddCounter (pos 1)) ∷ []; observations = saw_all ∷ [] })
ended-given = refl

-- of one that fails what was observed alone
ended-failed : ended (stopped (stop.Fail (codes "no")) (record { memory = added_one; emitted = item.Int (pos 5) ∷ []; ticks = 4; load = 17 }))
    ≡ done (record { outcome = outcome.Fail (codes "no"); deltas = []; observations = saw_all ∷ [] })
ended-failed = refl

-- and of one that needs a value nothing
ended-needs : ended (stopped (stop.Need x_at) (record { memory = added_one; emitted = []; ticks = 4; load = 17 })) ≡ need x_at
ended-needs = refl

-- the run of a body on the values of a state
abbrev pub own_run : Body → PartialState → Step Own Names
own_run b s = body_run (own_memory s) b (begun nothing_yet)

-- THE RUN OF A BODY on what is known of a state.
unfoldable pub exec : Body → PartialState → Ran
exec b s = ended (own_run b s)

-- ---- one layer, with what its children do in their places

-- an expression that gives this item
abbrev gives_it : Item → Expression Own
gives_it i names = pure i

-- this item after so many ticks
abbrev after_ticks : Item → ℕ → Step Own Item
after_ticks i n = gives i (record { memory = nothing_yet; emitted = []; ticks = n; load = 0 })

-- a chain charges one tick for each operator
one-plus-two : of_node (own_memory (λ a. None))
    (ExprNode-F.Chain (gives_it (item.Int (pos 1))) ((operator.Plus, gives_it (item.Int (pos 2))) ∷ [])) [] (begun nothing_yet)
    ≡ after_ticks (item.Int (pos 3)) 1
one-plus-two = refl

-- `or` stops at what decides: the next operand would stop the run
or-stops : of_node (own_memory (λ a. None))
    (ExprNode-F.Chain (gives_it (item.Bool true)) ((operator.Or, λ names. stop_by stop.Spent) ∷ [])) [] (begun nothing_yet)
    ≡ after_ticks (item.Bool true) 1
or-stops = refl

-- a read needs the value
read-needs : of_node (own_memory (λ a. None)) (ExprNode-F.Read kind.Counter (gives_it (item.Text (codes "x"))) read_word.Get []) [] (begun nothing_yet)
    ≡ stopped (stop.Need (record { kind = kind.Counter; key = codes "x" })) (record { memory = nothing_yet; emitted = []; ticks = 1; load = 0 })
read-needs = refl

-- ---- laws

-- how many ticks were charged
abbrev pub ticks_of : {M A : Type 0} → Step M A → ℕ
ticks_of (gives x p) = p.ticks
ticks_of (stopped s p) = p.ticks

-- A run is bounded: it charges no more ticks than the limit.
abbrev pub RunsAreBounded : Type 0
RunsAreBounded = (b : Body) (s : PartialState) → ticks_of (own_run b s) ≤ TICK_LIMIT
