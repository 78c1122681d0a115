-- The limits of the language, by their numbers, and what is counted towards them.
use Rattle.std.specs.Prelude.{◌≡◌, ℕ, true, false, List, [], ◌∷◌, replicate, codes, pos, Option, Some, None}
use Rattle.plain_data.specs.Texts.{Bytes}
use Rattle.rdt_types.specs.declared.address.Kind.{Kind}
use Rattle.rdt_types.specs.declared.address.Kind.TheVariants as kind
use Rattle.rdt_types.specs.declared.limits.TheConstants as store
use Rattle.rdt_types.specs.declared.outcome.Item.{Item}
use Rattle.rdt_types.specs.declared.outcome.Item.TheVariants as item
use Rattle.dtext.specs.declared.number.TheConstants as number
use Rattle.txn_trees.specs.declared.expression.ExprNode.TheOpen.{ExprNode-F}
use Rattle.txn_trees.specs.declared.word.Operator.{Operator}
use Rattle.txn_trees.specs.declared.word.Operator.TheVariants as operator
use Rattle.txn_trees.specs.declared.word.Relation.TheVariants as relation
use Rattle.txn_trees.specs.declared.word.WriteWord.{WriteWord}
use Rattle.txn_trees.specs.declared.word.WriteWord.TheVariants as write_word
use Rattle.txn_trees.specs.declared.word.ReadWord.TheVariants as read_word
use Rattle.txn_grammar.specs.declared.limit.TheConstants as grammar
use Rattle.txn_grammar.specs.declared.token.Token.TheVariants as t
use Rattle.txn_lang.specs.declared.limits.TheConstants as run
use Rattle.txn_lang.specs.declared.progress.Progress.{Progress}
use Rattle.txn_lang.specs.Steps.{Memory, Step, stopped, gives, pure, charge, carry}
use Rattle.txn_lang.specs.Items.{is_big, exceed}
use Rattle.txn_lang.specs.Rules.{Expression, of_node, emit_item, writes_with}
use Rattle.language_lines.specs.Tables.{Holds}
use Rattle.language_lines.specs.Words.{tokens_of}

-- a body's text: levels that are open at once, the bytes of a name, and the greatest number that is written
abbrev pub LimitsOfTexts : Type 0
LimitsOfTexts = grammar.DEEPEST ∷ grammar.LONGEST_NAME ∷ number.MOST ∷ [] ≡ 32 ∷ 32 ∷ 9223372036854775807 ∷ []

-- a run: its ticks, the bytes of a text, the size of texts, and its load
abbrev pub LimitsOfRuns : Type 0
LimitsOfRuns = run.TICK_LIMIT ∷ run.TEXT_LIMIT ∷ run.TEXTS_LIMIT ∷ run.LOAD_LIMIT ∷ [] ≡ 10000 ∷ 1024 ∷ 65536 ∷ 16384 ∷ []

-- a store: its shards, its window and its commits, each at least, at most, and where nothing is said
abbrev pub LimitsOfStores : Type 0
LimitsOfStores =
    (store.LEAST_SHARDS ∷ store.MOST_SHARDS ∷ store.STANDARD_SHARDS ∷ [])
    ∷ (store.LEAST_WINDOW ∷ store.MOST_WINDOW ∷ store.STANDARD_WINDOW ∷ [])
    ∷ (store.LEAST_COMMITS ∷ store.MOST_COMMITS ∷ store.STANDARD_COMMITS ∷ []) ∷ []
    ≡ (1 ∷ 16 ∷ 4 ∷ []) ∷ (1 ∷ 4096 ∷ 4096 ∷ []) ∷ (1 ∷ 100000 ∷ 100000 ∷ []) ∷ []

-- ---- at the limits of a text

-- so many letters `a`
abbrev letters : ℕ → Bytes
letters n = replicate n 97

-- a name of 32 bytes is one, and of 33 none; a number goes up to the greatest, and has no needless zero
abbrev pub TokensAtLimits : Type 0
TokensAtLimits =
    Holds tokens_of
    ((letters 32, t.Name (letters 32) ∷ [])
    ∷ (letters 33, t.Malformed ∷ [])
    ∷ (codes "0", t.Number (pos 0) ∷ [])
    ∷ (codes "9223372036854775807", t.Number (pos 9223372036854775807) ∷ [])
    ∷ (codes "9223372036854775808", t.Malformed ∷ [])
    ∷ (codes "00", t.Malformed ∷ [])
    ∷ (codes "07", t.Malformed ∷ [])
    ∷ [])

-- ---- sizes

-- a text of 1,024 bytes is none too many, also among texts
abbrev pub TextsAtLimits : Type 0
TextsAtLimits =
    Holds is_big
    ((item.Text (letters 1024), false)
    ∷ (item.Text (letters 1025), true)
    ∷ (item.Texts (letters 1024 ∷ []), false)
    ∷ (item.Texts (letters 1025 ∷ []), true)
    ∷ (item.Int (pos 9223372036854775807), false)
    ∷ (item.Bool true, false)
    ∷ [])

-- each of some texts takes its bytes and one more of the room
abbrev pub TextsTakeRoom : Type 0
TextsTakeRoom = Holds (λ room. exceed room (codes "ab" ∷ [] ∷ codes "c" ∷ [])) ((5, true) ∷ (6, false) ∷ (7, false) ∷ [])

-- ---- ticks and load

-- a memory in which every read answers this
abbrev pub answering : Item → Memory (Unit {0})
answering i = record { read = λ r a m. Some (i, m); write = λ a o m. m }

-- a run that has charged so many ticks, and has this load
abbrev pub at : ℕ → ℕ → Progress (Unit {0})
at ticks load = record { memory = tt; emitted = []; ticks = ticks; load = load }

-- the ticks and the load that a step leaves, or what stops it
abbrev pub counts : {A : Type 0} → Step (Unit {0}) A → Option (ℕ × ℕ)
counts (gives x p) = Some (p.ticks, p.load)
counts (stopped s p) = None

-- the tick that reaches the limit is charged, and the next isn't
abbrev pub TicksAtLimit : Type 0
TicksAtLimit = Holds (λ ticks. counts (charge 1 (at ticks 0))) ((9999, Some (10000, 0)) ∷ (10000, None) ∷ [])

-- so it is with the load
abbrev pub LoadAtLimit : Type 0
LoadAtLimit = Holds (λ load. counts (carry 1 (at 0 load))) ((16383, Some (0, 16384)) ∷ (16384, None) ∷ [])

-- an expression that gives an item, and charges nothing itself
abbrev pub giving : Item → Expression (Unit {0})
giving i names = pure i

-- the number 1
abbrev pub one : Expression (Unit {0})
one = giving (item.Int (pos 1))

-- the text `k`
abbrev pub key : Expression (Unit {0})
key = giving (item.Text (codes "k"))

-- the ticks of a node, with what stands in it aside; reads answer two texts
abbrev pub ticks_of : ExprNode-F (Expression (Unit {0})) (Expression (Unit {0})) (Operator × Expression (Unit {0})) → Option (ℕ × ℕ)
ticks_of node = counts (of_node (answering (item.Texts (codes "a" ∷ codes "b" ∷ []))) node [] (at 0 0))

-- One for each expression, for a chain one an operator, and for each element that a read answers one more.
abbrev pub NodesCharge : Type 0
NodesCharge =
    Holds ticks_of
    ((ExprNode-F.Number (pos 1), Some (1, 0))
    ∷ (ExprNode-F.Text (codes "a"), Some (1, 0))
    ∷ (ExprNode-F.Bool true, Some (1, 0))
    ∷ (ExprNode-F.Name (codes "x"), Some (1, 0))
    ∷ (ExprNode-F.Texts (key ∷ key ∷ key ∷ []), Some (1, 0))
    ∷ (ExprNode-F.Len key, Some (1, 0))
    ∷ (ExprNode-F.Str one, Some (1, 0))
    ∷ (ExprNode-F.Negative one, Some (1, 0))
    ∷ (ExprNode-F.Not (giving (item.Bool true)), Some (1, 0))
    ∷ (ExprNode-F.Compare one relation.Less one, Some (1, 0))
    ∷ (ExprNode-F.Chain one ((operator.Plus, one) ∷ []), Some (1, 0))
    ∷ (ExprNode-F.Chain one ((operator.Plus, one) ∷ (operator.Minus, one) ∷ (operator.Plus, one) ∷ []), Some (3, 0))
    ∷ (ExprNode-F.Read kind.Set key read_word.All [], Some (3, 0))
    ∷ [])

-- an item that is emitted loads 8 and its size
abbrev pub EmitsLoad : Type 0
EmitsLoad =
    Holds (λ i. counts (emit_item i (at 0 0)))
    ((item.Int (pos 1), Some (0, 16))
    ∷ (item.Bool true, Some (0, 9))
    ∷ (item.Text (codes "abc"), Some (0, 11))
    ∷ (item.Texts (codes "abc" ∷ [] ∷ []), Some (0, 13))
    ∷ [])

-- the load of a write at the key `k`
abbrev pub load_of : Kind × WriteWord × List Item → Option (ℕ × ℕ)
load_of (k, word, is) = counts (writes_with (answering (item.Bool true)) k (item.Text (codes "k")) word is (at 0 0))

-- a write loads 8, the bytes of its key, and those of its texts
abbrev pub WritesLoad : Type 0
WritesLoad =
    Holds load_of
    (((kind.Counter, write_word.Add, item.Int (pos 1) ∷ []), Some (0, 9))
    ∷ ((kind.Peak, write_word.Raise, item.Int (pos 1) ∷ []), Some (0, 9))
    ∷ ((kind.Bool, write_word.Put, item.Bool true ∷ []), Some (0, 9))
    ∷ ((kind.Set, write_word.Clear, []), Some (0, 9))
    ∷ ((kind.Text, write_word.Put, item.Text (codes "abc") ∷ []), Some (0, 12))
    ∷ ((kind.Hash, write_word.Put, item.Text (codes "f") ∷ item.Text (codes "abc") ∷ []), Some (0, 13))
    ∷ [])
