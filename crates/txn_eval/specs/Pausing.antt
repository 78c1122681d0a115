-- Runs that pause where they need a value, at any depth, and go on from there.
use Rattle.std.specs.Prelude.{◌≡◌, ℕ, List, [], ◌∷◌, map, take, drop, Some, refl}
use Rattle.plain_data.specs.Texts.{Bytes}
use Rattle.rdt_types.specs.declared.address.Address.{Address}
use Rattle.txn_trees.specs.declared.statement.Stmt.{Stmt, out-Stmt}
use Rattle.txn_trees.specs.declared.statement.StmtNode.{StmtNode, out-StmtNode}
use Rattle.txn_trees.specs.declared.statement.StmtNode.TheOpen.{StmtNode-F}
use Rattle.txn_lang.specs.declared.progress.Stop.TheVariants as stop
use Rattle.txn_lang.specs.declared.snaps.Snap.{Snap}
use Rattle.txn_lang.specs.States.{PartialState}
use Rattle.txn_lang.specs.Steps.{Memory, Step, ◌>>=◌, pure, stop_by}
use Rattle.txn_lang.specs.Items.{Names, named, texts_in}
use Rattle.txn_lang.specs.Rules.{Statement, all_steps, turns, stmt_run}
use Rattle.txn_lang.specs.Execution.{begun}
use Rattle.txn_lang.specs.Observed.{Extends}
use Rattle.txn_eval.specs.declared.kept.Kept.{Kept}
use Rattle.txn_eval.specs.declared.pause.Over.{Over}
use Rattle.txn_eval.specs.declared.pause.Over.TheVariants as over
use Rattle.txn_eval.specs.declared.pause.Turns.{Turns}
use Rattle.txn_eval.specs.declared.pause.Around.{Around}
use Rattle.txn_eval.specs.declared.pause.Around.TheVariants as around
use Rattle.txn_eval.specs.declared.pause.Frame.{Frame}
use Rattle.txn_eval.specs.declared.pause.Pause.{Pause}
use Rattle.txn_eval.specs.code.Buffering.{kept, nothing_kept}
use Rattle.txn_eval.specs.Running.{values_of}

-- the texts that a loop goes over, where these names are bound
abbrev pub texts_over : Over → Names → List Bytes
texts_over (over.Texts ts) names = ts
texts_over (over.Name x) names = texts_in (named names x)

-- those for whose turns it has not come yet
abbrev pub texts_left : Turns → Names → List Bytes
texts_left left names = drop left.next (texts_over left.over names)

module _ (m : Memory Kept) where
  -- the first of some statements does this, and those behind it what they do
  abbrev pub first_rest : (Stmt → Statement Kept) → List Stmt → Statement Kept
  first_rest first [] names = pure names
  first_rest first (s ∷ ss) names = do
    after ← first s names
    all_steps (map (stmt_run m) ss) after

  -- What is left of a form in whose block a run has paused: the rest of the block, which forgets the names that it bound, and
  -- of a loop the turns that come next. No other form holds that block.
  abbrev pub around_rest : Around → ℕ → (List Stmt → Statement Kept) → StmtNode-F StmtNode Stmt → Statement Kept
  around_rest around.Then outside inner (StmtNode-F.If e ss ts) names = do
    after ← inner ss names
    pure (take outside after)
  around_rest around.Then outside inner _ names = stop_by stop.Spent
  around_rest around.Else outside inner (StmtNode-F.If e ss (Some ts)) names = do
    after ← inner ts names
    pure (take outside after)
  around_rest around.Else outside inner _ names = stop_by stop.Spent
  around_rest (around.Turn left) outside inner (StmtNode-F.For x e ss) names = do
    after ← inner ss names
    turns x (map (stmt_run m) ss) (texts_left left (take outside after)) (take outside after)
  around_rest (around.Turn left) outside inner _ names = stop_by stop.Spent

  -- what is left of a statement, in whose blocks a run has paused: all of it where that is in none
  unfoldable pub stmt_rest : List Frame → Stmt → Statement Kept
  stmt_rest [] stmt = stmt_run m stmt
  stmt_rest (f ∷ fs) stmt = around_rest f.around f.outside (λ ss. first_rest (stmt_rest fs) (drop f.at ss)) (out-StmtNode (out-Stmt stmt).node)

  -- what is left of statements from a pause
  abbrev pub stmts_rest : List Stmt → Pause → Step Kept Names
  stmts_rest stmts pause = first_rest (stmt_rest pause.trail) (drop pause.at stmts) pause.names pause.run

-- A run of these statements on the values of snaps comes to this pause: on whatever more is known, what is left from there does
-- what all of them do from the start.
pub record IsPauseOf (stmts : List Stmt) (snaps : List (Address × Snap)) (pause : Pause) : Type 0 where
  pub comes : (t : PartialState) → Extends (values_of snaps) t
      → all_steps (map (stmt_run (kept t)) stmts) [] (begun nothing_kept) ≡ stmts_rest (kept t) stmts pause

-- of no statement nothing is left
stmts_rest-example : (m : Memory Kept)
    → stmts_rest m [] (record { at = 0; names = []; run = begun nothing_kept; trail = [] }) ≡ all_steps [] [] (begun nothing_kept)
stmts_rest-example m = refl

-- ---- a law

-- a run that comes to a pause comes to it on more values too
abbrev pub PausesStay : Type 0
PausesStay = (stmts : List Stmt) (snaps more : List (Address × Snap)) (pause : Pause) → Extends (values_of snaps) (values_of more)
    → IsPauseOf stmts snaps pause → IsPauseOf stmts more pause
