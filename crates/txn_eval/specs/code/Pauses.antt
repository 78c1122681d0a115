-- How the code comes from pause to pause. The lemmas of proofs/Pauses tie it to `IsPauseOf` of specs/Pausing, of which alone the
-- clauses of `go_on` speak.
use Rattle.std.specs.Prelude.{◌≡◌, ◌≢◌, ℕ, ◌+◌, Bool, true, false, List, [], ◌∷◌, map, take, drop, length, Result, Ok, Err}
use Rattle.plain_data.specs.Texts.{Bytes}
use Rattle.rdt_types.specs.declared.address.Address.{Address}
use Rattle.rdt_types.specs.declared.outcome.Item.{Item}
use Rattle.txn_trees.specs.declared.expression.Expr.{Expr}
use Rattle.txn_trees.specs.declared.statement.Stmt.{Stmt, out-Stmt}
use Rattle.txn_trees.specs.declared.statement.StmtNode.{StmtNode, out-StmtNode}
use Rattle.txn_trees.specs.declared.statement.StmtNode.TheOpen.{StmtNode-F}
use Rattle.txn_lang.specs.declared.progress.Stop.{Stop}
use Rattle.txn_lang.specs.declared.progress.Stop.TheVariants as stop
use Rattle.txn_lang.specs.declared.progress.Progress.{Progress}
use Rattle.txn_lang.specs.States.{PartialState}
use Rattle.txn_lang.specs.Observed.{Extends}
use Rattle.txn_lang.specs.Items.{Names, texts_in}
use Rattle.txn_lang.specs.Steps.{Step, stopped, gives, and_then, pure}
use Rattle.txn_lang.specs.Rules.{expr_run, stmt_run, turns}
use Rattle.txn_lang.specs.Execution.{begun}
use Rattle.txn_eval.specs.declared.kept.Kept.{Kept}
use Rattle.txn_eval.specs.declared.here.Known.{Known}
use Rattle.txn_eval.specs.declared.here.Here.{Here}
use Rattle.txn_eval.specs.declared.pause.Over.{Over}
use Rattle.txn_eval.specs.declared.pause.Turns.{Turns}
use Rattle.txn_eval.specs.declared.pause.Around.{Around}
use Rattle.txn_eval.specs.declared.pause.Around.TheVariants as around
use Rattle.txn_eval.specs.declared.pause.Frame.{Frame}
use Rattle.txn_eval.specs.declared.going.InTurn.{InTurn}
use Rattle.txn_eval.specs.declared.pause.Pause.{Pause}
use Rattle.txn_eval.specs.code.Buffering.{kept, nothing_kept}
use Rattle.txn_eval.specs.code.Forms.{charged}
use Rattle.txn_eval.specs.Running.{values_of}
use Rattle.txn_eval.specs.Pausing.{texts_over, texts_left, around_rest, first_rest, stmt_rest, stmts_rest}

-- before the first statement nothing was done
abbrev pub first_pause : Pause
first_pause = record { at = 0; names = []; run = begun nothing_kept; trail = [] }

-- whether a statement holds blocks
abbrev pub node_holds_block : StmtNode-F StmtNode Stmt → Bool
node_holds_block (StmtNode-F.If e ss ts) = true
node_holds_block (StmtNode-F.For x e ss) = true
node_holds_block _ = false

abbrev pub holds_block : Stmt → Bool
holds_block s = node_holds_block (out-StmtNode (out-Stmt s).node)

-- what a step does, on each state
abbrev pub Steps : Type 0
Steps = PartialState → Step Kept Names

-- What a result tells of a step on the values of a state. Where it goes through, it does so on whatever more is known. Where a
-- value is needed, what is left then is what the step does, on whatever more is known.
abbrev pub Goes : PartialState → Result (Unit {0}) Stop → Names → Progress Kept → Steps → Steps → Type 0
Goes s (Ok _) names p rest whole = (t : PartialState) → Extends s t → whole t ≡ gives names p
Goes s (Err (stop.Need a)) names p rest whole =
    ((q : Progress Kept) × (whole s ≡ stopped (stop.Need a) q)) × ((t : PartialState) → Extends s t → whole t ≡ rest t)
Goes s (Err e) names p rest whole = e ≢ stop.NoMemory → whole s ≡ stopped e p

-- the same of a run that stands at a pause before and behind the step, where this is left of it from a pause
abbrev pub GoesOn : PartialState → Result (Unit {0}) Stop → (PartialState → Pause → Step Kept Names) → Pause → Pause → Type 0
GoesOn s result left old new = Goes s result new.names new.run (λ t. left t new) (λ t. left t old)

-- the texts that are left behind a turn of a loop
abbrev pub left_behind : ℕ → Over → Names → List Bytes
left_behind place over names = drop (place + 1) (texts_over over names)

-- what a step does behind one tick more where it is an expression, on each state
abbrev pub charged_expr : Expr → Names → Progress Kept → PartialState → Step Kept Item
charged_expr e names p t = charged (expr_run (kept t) e names) p

-- what a statement does, on each state
abbrev pub stmt_does : Stmt → Names × Progress Kept → Steps
stmt_does stmt from t = stmt_run (kept t) stmt from.0 from.1

-- the same on what is known: of a statement without blocks, and of a run that stands at a pause
abbrev pub GoesPlainly : Known → Result (Unit {0}) Stop → Stmt → Names × Progress Kept → Names × Progress Kept → Type 0
GoesPlainly known result stmt old new = Goes (values_of known.snaps.now) result new.0 new.1 (stmt_does stmt new) (stmt_does stmt old)

abbrev pub GoesKnown : Known → Result (Unit {0}) Stop → (PartialState → Pause → Step Kept Names) → Pause → Pause → Type 0
GoesKnown known result left old new = GoesOn (values_of known.snaps.now) result left old new

-- what is left of statements, and of a statement, from a pause
abbrev pub stmts_left : List Stmt → PartialState → Pause → Step Kept Names
stmts_left stmts t pause = stmts_rest (kept t) stmts pause

abbrev pub stmt_left : Stmt → PartialState → Pause → Step Kept Names
stmt_left stmt t pause = stmt_rest (kept t) pause.trail stmt pause.names pause.run

-- what is left of a block, which forgets the names that it bound
abbrev pub block_left : List Stmt → ℕ → PartialState → Pause → Step Kept Names
block_left stmts outside t pause = and_then (stmts_left stmts t pause) (λ after. pure (take outside after))

-- where a value is needed in a block, the pause is inside of the statement that has it
abbrev pub inside : Around → ℕ → ℕ → Pause → Pause
inside around outside here pause =
    record pause { at = here; trail = record { around = around; outside = outside; at = pause.at } ∷ pause.trail }

-- what stops the run where a value is needed in a block, and what is left then
abbrev pub Enters : Stop → Address → Pause → Pause → Type 0
Enters (stop.Need b) a new k = (b ≡ a) × (new ≡ k)
Enters stop.NoMemory a new k = Unit {0}
Enters _ a new k = ⊥

-- what is left of a form in whose block a run has paused
abbrev pub node_left : StmtNode-F StmtNode Stmt → Around → ℕ → PartialState → Pause → Step Kept Names
node_left node around outside t k =
    around_rest (kept t) around outside (λ ss. first_rest (kept t) (stmt_rest (kept t) k.trail) (drop k.at ss)) node k.names k.run

-- What a result tells of a step that ends in a block where a value is needed. Then the pause is inside of the statement around it.
abbrev pub GoesIn : PartialState → Result (Unit {0}) Stop → (Around → ℕ → PartialState → Pause → Step Kept Names) → Steps → Pause → Type 0
GoesIn s (Ok _) left whole new = (t : PartialState) → Extends s t → whole t ≡ gives new.names new.run
GoesIn s (Err (stop.Need a)) left whole new = ((q : Progress Kept) × (whole s ≡ stopped (stop.Need a) q)) × ((x : Around) × (outside : ℕ) × (k : Pause)
    × (new ≡ inside x outside new.at k) × ((t : PartialState) → Extends s t → whole t ≡ left x outside t k))
GoesIn s (Err e) left whole new = e ≢ stop.NoMemory → whole s ≡ stopped e new.run

-- the same of a branch, from a statement of it on, whatever form it is of
abbrev pub GoesThrough : Known → Result (Unit {0}) Stop → Frame → List Stmt → Pause → Pause → Type 0
GoesThrough known result frame ss old new = (node : StmtNode-F StmtNode Stmt)
    → ((t : PartialState) (k : Pause) → block_left ss frame.outside t k ≡ node_left node frame.around frame.outside t k)
    → GoesIn (values_of known.snaps.now) result (node_left node) (λ t. block_left ss frame.outside t (record old { at = frame.at })) new

-- and of turns of a loop, whatever it goes over
abbrev pub TakesTurns : Known → Result (Unit {0}) Stop → Bytes → List Stmt → (Expr → Steps) → Pause → Type 0
TakesTurns known result x ss whole new = (e : Expr) → GoesIn (values_of known.snaps.now) result (node_left (StmtNode-F.For x e ss)) (whole e) new

-- what is left of a loop before a turn, and within one
abbrev pub turns_left : Bytes → List Stmt → Turns → Pause → Expr → Steps
turns_left x ss left k e t = turns x (map (stmt_run (kept t)) ss) (texts_left left k.names) k.names k.run

abbrev pub turn_left : Bytes → List Stmt → InTurn → Pause → Expr → Steps
turn_left x ss standing k e t =
    node_left (StmtNode-F.For x e ss) (around.Turn standing.left) standing.outside t (record k { at = standing.at })

-- a fact where a run goes through, or may go on
abbrev pub OnGoing : Result (Unit {0}) Stop → Type 0 → Type 0
OnGoing (Ok _) P = P
OnGoing (Err (stop.Need a)) P = P
OnGoing (Err e) P = Unit {0}

-- what a result tells of an expression behind the tick of its statement: where a value is needed, the run is as it was
abbrev pub Gives : PartialState → Result Item Stop → Progress Kept → Progress Kept → (PartialState → Step Kept Item) → Type 0
Gives s (Ok i) new old whole = (t : PartialState) → Extends s t → whole t ≡ gives i new
Gives s (Err (stop.Need a)) new old whole = ((q : Progress Kept) × (whole s ≡ stopped (stop.Need a) q)) × (new ≡ old)
Gives s (Err e) new old whole = e ≢ stop.NoMemory → whole s ≡ stopped e new

-- what was emitted and written stays, and what was observed is observed first
pub record Stays (p q : Progress Kept) : Type 0 where
  pub emitted : q.emitted ≡ p.emitted
  pub load : q.load ≡ p.load
  pub buffer : q.memory.buffer ≡ p.memory.buffer
  pub seen : take (length p.memory.observations) q.memory.observations ≡ p.memory.observations

-- a run with so many ticks, of whose observations only so many are left
abbrev pub taken_back : ℕ → ℕ → Progress Kept → Progress Kept
taken_back ticks count p = record p { ticks = ticks; memory = record p.memory { observations = take count p.memory.observations } }

-- the same of the texts that an expression gives, which are those that a loop goes over
abbrev pub GivesOver : PartialState → Result Over Stop → Names → Progress Kept → Progress Kept → (PartialState → Step Kept Item) → Type 0
GivesOver s (Ok over) names new old whole =
    (i : Item) × (texts_in i ≡ texts_over over names) × ((t : PartialState) → Extends s t → whole t ≡ gives i new)
GivesOver s (Err (stop.Need a)) names new old whole = ((q : Progress Kept) × (whole s ≡ stopped (stop.Need a) q)) × (new ≡ old)
GivesOver s (Err e) names new old whole = e ≢ stop.NoMemory → whole s ≡ stopped e new

-- these two here
abbrev pub GivesHere : Here → Result Item Stop → Progress Kept → Progress Kept → Expr → Type 0
GivesHere here result new old e = Gives (values_of here.snaps.now) result new old (charged_expr e here.names.now old)

abbrev pub GivesOverHere : Here → Result Over Stop → Progress Kept → Progress Kept → Expr → Type 0
GivesOverHere here result new old e = GivesOver (values_of here.snaps.now) result here.names.now new old (charged_expr e here.names.now old)
