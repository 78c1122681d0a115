-- The operations of each kind, a row each: how it is written, what it is, and what it comes to.
--
-- Each is written at the key `k`. An argument stands with the column of its first byte.
use Rattle.std.specs.Prelude.{ℕ, ◌+◌, Bool, true, false, List, [], ◌∷◌, map, filter, length, codes, pos}
use Rattle.std.specs.FinMap as map_of
use Rattle.plain_data.specs.Texts.{Bytes, with_text}
use Rattle.rdt_types.specs.declared.address.Kind.{Kind}
use Rattle.rdt_types.specs.declared.address.Kind.TheVariants as kind
use Rattle.rdt_types.specs.declared.mark.Mark.TheVariants as mark
use Rattle.rdt_types.specs.declared.operation.WriteOp.{WriteOp}
use Rattle.rdt_types.specs.declared.operation.WriteOp.TheVariants as op
use Rattle.rdt_types.specs.declared.delta.Delta.{Delta}
use Rattle.rdt_types.specs.declared.delta.Delta.TheVariants as delta
use Rattle.rdt_types.specs.declared.outcome.Item.{Item}
use Rattle.rdt_types.specs.declared.outcome.Item.TheVariants as item
use Rattle.rdt_types.specs.declared.value.Value.{Value}
use Rattle.rdt_types.specs.declared.value.Value.TheVariants as value
use Rattle.rdt_types.specs.Keyed as keyed
use Rattle.rdt_types.specs.Listed as listed
use Rattle.rdt_types.specs.Printed.{word_of}
use Rattle.conflict_table.specs.declared.observation.Obs.{Obs}
use Rattle.conflict_table.specs.declared.observation.Obs.TheVariants as obs
use Rattle.conflict_table.specs.declared.read.ReadOp.{ReadOp}
use Rattle.conflict_table.specs.declared.read.ReadOp.TheVariants as read
use Rattle.txn_trees.specs.declared.expression.Expr.{Expr}
use Rattle.txn_trees.specs.declared.expression.ExprNode.TheVariants as node
use Rattle.txn_trees.specs.declared.statement.StmtNode.TheVariants as stmt
use Rattle.txn_trees.specs.declared.statement.Body.{Body}
use Rattle.txn_trees.specs.declared.word.WriteWord.{WriteWord}
use Rattle.txn_trees.specs.declared.word.WriteWord.TheVariants as write_word
use Rattle.txn_trees.specs.declared.word.ReadWord.{ReadWord}
use Rattle.txn_trees.specs.declared.word.ReadWord.TheVariants as read_word
use Rattle.txn_grammar.specs.Tokens.{same_kind}
use Rattle.txn_grammar.specs.Trees.{expr, number_expr, text_expr, truth_expr, stmt_at, body_of}
use Rattle.txn_lang.specs.declared.item_type.Type.{«Type» as ItemType}
use Rattle.txn_lang.specs.declared.item_type.Type.TheVariants as type

-- an argument, with its column
abbrev pub Argument : Type 0
Argument = ℕ × Item

-- the expression that it is
abbrev pub leaf : Argument → Expr
leaf (column, item.Int n) = number_expr (column, n)
leaf (column, item.Bool b) = truth_expr (column, b)
leaf (column, item.Text t) = text_expr (column, t)
leaf (column, item.Texts ts) = expr column (node.Texts [])

-- ---- writes

-- a write: a statement, of a kind, by a word, with arguments; the operation, how that is printed, and its delta
pub record Write : Type 0 where
  pub text : Bytes
  pub kind : Kind
  pub word : WriteWord
  pub arguments : List Argument
  pub operation : WriteOp
  pub part : Bytes
  pub delta : Delta

-- a row of the table
abbrev pub write : Bytes → Kind → WriteWord → List Argument → WriteOp → Bytes → Delta → Write
write text kind word arguments operation part delta =
    record { text = text; kind = kind; word = word; arguments = arguments; operation = operation; part = part; delta = delta }

-- the table
abbrev pub writes : List Write
writes =
    write (codes "bool(\"k\").put(true);") kind.Bool write_word.Put ((15, item.Bool true) ∷ [])
    (op.PutBool true) (codes "put true") (delta.PutBool true)
    ∷ write (codes "counter(\"k\").put(7);") kind.Counter write_word.Put ((18, item.Int (pos 7)) ∷ [])
    (op.PutCounter (pos 7)) (codes "put 7") (delta.PutCounter (pos 7))
    ∷ write (codes "counter(\"k\").add(7);") kind.Counter write_word.Add ((18, item.Int (pos 7)) ∷ [])
    (op.AddCounter (pos 7)) (codes "add 7") (delta.AddCounter (pos 7))
    ∷ write (codes "text(\"k\").put(\"a\");") kind.Text write_word.Put ((15, item.Text (codes "a")) ∷ [])
    (op.PutText (codes "a")) (codes "put \"a\"") (delta.PutText (codes "a"))
    ∷ write (codes "set(\"k\").add(\"a\");") kind.Set write_word.Add ((14, item.Text (codes "a")) ∷ [])
    (op.SetAdd (codes "a")) (codes "add \"a\"") (delta.Set (keyed.of_parts false (map_of.insert map_of.empty (codes "a") true)))
    ∷ write (codes "set(\"k\").remove(\"a\");") kind.Set write_word.Remove ((17, item.Text (codes "a")) ∷ [])
    (op.SetRemove (codes "a")) (codes "remove \"a\"") (delta.Set (keyed.of_parts false (map_of.insert map_of.empty (codes "a") false)))
    ∷ write (codes "set(\"k\").clear();") kind.Set write_word.Clear []
    op.SetClear (codes "clear") (delta.Set (keyed.of_parts true map_of.empty))
    ∷ write (codes "hash(\"k\").put(\"f\", \"a\");") kind.Hash write_word.Put ((15, item.Text (codes "f")) ∷ (20, item.Text (codes "a")) ∷ [])
    (op.HashPut (codes "f") (codes "a")) (codes "put \"f\" \"a\"")
    (delta.Hash (keyed.of_parts false (map_of.insert map_of.empty (codes "f") (mark.Put (codes "a")))))
    ∷ write (codes "hash(\"k\").remove(\"f\");") kind.Hash write_word.Remove ((18, item.Text (codes "f")) ∷ [])
    (op.HashRemove (codes "f")) (codes "remove \"f\"") (delta.Hash (keyed.of_parts false (map_of.insert map_of.empty (codes "f") mark.Removed)))
    ∷ write (codes "hash(\"k\").clear();") kind.Hash write_word.Clear []
    op.HashClear (codes "clear") (delta.Hash (keyed.of_parts true map_of.empty))
    ∷ write (codes "list(\"k\").push(\"a\");") kind.List write_word.Push ((16, item.Text (codes "a")) ∷ [])
    (op.ListPush (codes "a")) (codes "push \"a\"") (delta.List (listed.of_parts false map_of.empty (codes "a" ∷ [])))
    ∷ write (codes "list(\"k\").remove(\"a\");") kind.List write_word.Remove ((18, item.Text (codes "a")) ∷ [])
    (op.ListRemove (codes "a")) (codes "remove \"a\"") (delta.List (listed.of_parts false (with_text map_of.empty (codes "a")) []))
    ∷ write (codes "list(\"k\").clear();") kind.List write_word.Clear []
    op.ListClear (codes "clear") (delta.List (listed.of_parts true map_of.empty []))
    ∷ write (codes "peak(\"k\").raise(7);") kind.Peak write_word.Raise ((17, item.Int (pos 7)) ∷ [])
    (op.Raise (pos 7)) (codes "raise 7") (delta.Raise (pos 7))
    ∷ []

-- ---- reads

-- A read: an `emit`, of a kind, by a word, with arguments; the operation, and the type of what it answers; a value, and
-- what is observed of that. Then, in the order of the table above: which of the kind's writes decide it where the body
-- made them before, and which of them clash with what was observed where somebody else makes them.
pub record Read : Type 0 where
  pub text : Bytes
  pub kind : Kind
  pub word : ReadWord
  pub arguments : List Argument
  pub operation : ReadOp
  pub answers : ItemType
  pub value : Value
  pub observed : Obs
  pub decided : List Bool
  pub clashes : List Bool

-- a row of the table
abbrev pub read_by : Bytes → Kind → ReadWord → List Argument → ReadOp → ItemType → Value → Obs → List Bool → List Bool → Read
read_by text kind word arguments operation answers value observed decided clashes =
    record {
      text = text;
      kind = kind;
      word = word;
      arguments = arguments;
      operation = operation;
      answers = answers;
      value = value;
      observed = observed;
      decided = decided;
      clashes = clashes;
    }

-- the table; a place is within the list in one row, and not in the next; a peak is held against a number that it is
-- above, that it is itself, and that is as high as the raise
abbrev pub reads : List Read
reads =
    read_by (codes "emit bool(\"k\").get();") kind.Bool read_word.Get [] read.Get type.Bool
    (value.Bool true) obs.BoolIs (true ∷ []) (true ∷ [])
    ∷ read_by (codes "emit counter(\"k\").get();") kind.Counter read_word.Get [] read.Get type.Int
    (value.Counter (pos 7)) obs.CounterIs (true ∷ false ∷ []) (true ∷ true ∷ [])
    ∷ read_by (codes "emit text(\"k\").get();") kind.Text read_word.Get [] read.Get type.Text
    (value.Text (codes "a")) obs.TextIs (true ∷ []) (true ∷ [])
    ∷ read_by (codes "emit set(\"k\").has(\"a\");") kind.Set read_word.Has ((19, item.Text (codes "a")) ∷ []) (read.SetHas (codes "a")) type.Bool
    (value.Set map_of.empty) (obs.SetHas (codes "a")) (true ∷ true ∷ true ∷ []) (true ∷ true ∷ true ∷ [])
    ∷ read_by (codes "emit set(\"k\").has(\"b\");") kind.Set read_word.Has ((19, item.Text (codes "b")) ∷ []) (read.SetHas (codes "b")) type.Bool
    (value.Set map_of.empty) (obs.SetHas (codes "b")) (false ∷ false ∷ true ∷ []) (false ∷ false ∷ true ∷ [])
    ∷ read_by (codes "emit set(\"k\").all();") kind.Set read_word.All [] read.SetAll type.Texts
    (value.Set map_of.empty) obs.SetAll (false ∷ false ∷ true ∷ []) (true ∷ true ∷ true ∷ [])
    ∷ read_by (codes "emit hash(\"k\").has(\"f\");") kind.Hash read_word.Has ((20, item.Text (codes "f")) ∷ []) (read.HashHas (codes "f")) type.Bool
    (value.Hash map_of.empty) (obs.HashAt (codes "f")) (true ∷ true ∷ true ∷ []) (true ∷ true ∷ true ∷ [])
    ∷ read_by (codes "emit hash(\"k\").has(\"g\");") kind.Hash read_word.Has ((20, item.Text (codes "g")) ∷ []) (read.HashHas (codes "g")) type.Bool
    (value.Hash map_of.empty) (obs.HashAt (codes "g")) (false ∷ false ∷ true ∷ []) (false ∷ false ∷ true ∷ [])
    ∷ read_by (codes "emit hash(\"k\").get(\"f\");") kind.Hash read_word.Get ((20, item.Text (codes "f")) ∷ []) (read.HashGet (codes "f")) type.Text
    (value.Hash map_of.empty) (obs.HashAt (codes "f")) (true ∷ true ∷ true ∷ []) (true ∷ true ∷ true ∷ [])
    ∷ read_by (codes "emit hash(\"k\").get(\"g\");") kind.Hash read_word.Get ((20, item.Text (codes "g")) ∷ []) (read.HashGet (codes "g")) type.Text
    (value.Hash map_of.empty) (obs.HashAt (codes "g")) (false ∷ false ∷ true ∷ []) (false ∷ false ∷ true ∷ [])
    ∷ read_by (codes "emit hash(\"k\").fields();") kind.Hash read_word.Fields [] read.HashFields type.Texts
    (value.Hash map_of.empty) obs.HashAll (false ∷ false ∷ true ∷ []) (true ∷ true ∷ true ∷ [])
    ∷ read_by (codes "emit list(\"k\").at(0);") kind.List read_word.At ((19, item.Int (pos 0)) ∷ []) (read.ListAt (pos 0)) type.Text
    (value.List (codes "p" ∷ [])) (obs.ListAt 0) (false ∷ false ∷ true ∷ []) (false ∷ true ∷ true ∷ [])
    ∷ read_by (codes "emit list(\"k\").at(1);") kind.List read_word.At ((19, item.Int (pos 1)) ∷ []) (read.ListAt (pos 1)) type.Text
    (value.List (codes "p" ∷ [])) obs.ListAll (false ∷ false ∷ true ∷ []) (true ∷ true ∷ true ∷ [])
    ∷ read_by (codes "emit list(\"k\").all();") kind.List read_word.All [] read.ListAll type.Texts
    (value.List (codes "p" ∷ [])) obs.ListAll (false ∷ false ∷ true ∷ []) (true ∷ true ∷ true ∷ [])
    ∷ read_by (codes "emit peak(\"k\").get();") kind.Peak read_word.Get [] read.Get type.Int
    (value.Peak (pos 6)) (obs.PeakIs (pos 6)) (false ∷ []) (true ∷ [])
    ∷ read_by (codes "emit peak(\"k\").get();") kind.Peak read_word.Get [] read.Get type.Int
    (value.Peak (pos 7)) (obs.PeakIs (pos 7)) (false ∷ []) (false ∷ [])
    ∷ read_by (codes "emit peak(\"k\").over(5);") kind.Peak read_word.Over ((21, item.Int (pos 5)) ∷ []) (read.PeakOver (pos 5)) type.Bool
    (value.Peak (pos 6)) (obs.PeakOver (pos 5) true) (true ∷ []) (false ∷ [])
    ∷ read_by (codes "emit peak(\"k\").over(6);") kind.Peak read_word.Over ((21, item.Int (pos 6)) ∷ []) (read.PeakOver (pos 6)) type.Bool
    (value.Peak (pos 6)) (obs.PeakOver (pos 6) false) (true ∷ []) (true ∷ [])
    ∷ read_by (codes "emit peak(\"k\").over(7);") kind.Peak read_word.Over ((21, item.Int (pos 7)) ∷ []) (read.PeakOver (pos 7)) type.Bool
    (value.Peak (pos 6)) (obs.PeakOver (pos 7) false) (false ∷ []) (false ∷ [])
    ∷ []

-- the writes of a kind
abbrev pub writes_of : Kind → List Write
writes_of k = filter (λ w. same_kind w.kind k) writes

-- ---- the bodies that they are

-- the key, at a column
abbrev pub key_at : ℕ → Expr
key_at column = text_expr (column, codes "k")

-- a write, as the one statement of a body: its key stands behind its kind's word and a parenthesis
abbrev pub body_of_write : Write → Body
body_of_write w = body_of (stmt_at 1 (stmt.Write w.kind (key_at (length (word_of w.kind) + 2)) w.word (map leaf w.arguments)), [])

-- a read, behind `emit `
abbrev pub body_of_read : Read → Body
body_of_read r =
    body_of (stmt_at 1 (stmt.Emit (expr 6 (node.Read r.kind (key_at (length (word_of r.kind) + 7)) r.word (map leaf r.arguments)))), [])
