-- Bodies that aren't well typed, with the columns that are told of them.
use Rattle.std.proofs.Common.{ap, sym, subst}
use Rattle.std.specs.Prelude.{◌≡◌, List, [], ◌∷◌, Some, codes, pos, true, refl}
use Rattle.rdt_types.specs.declared.address.Kind.TheVariants as kind
use Rattle.txn_trees.specs.declared.expression.Expr.{Expr}
use Rattle.txn_trees.specs.declared.expression.ExprNode.{out-ExprNode}
use Rattle.txn_trees.specs.declared.expression.ExprNode.TheOpen.{ExprNode-F}
use Rattle.txn_trees.specs.declared.statement.Stmt.{Stmt}
use Rattle.txn_trees.specs.declared.statement.StmtNode.{out-StmtNode}
use Rattle.txn_trees.specs.declared.statement.StmtNode.TheVariants as stmt
use Rattle.txn_trees.specs.declared.statement.StmtNode.TheOpen.{StmtNode-F}
use Rattle.txn_trees.specs.declared.word.WriteWord.TheVariants as word
use Rattle.txn_grammar.specs.Trees.{column_of, number_expr, text_expr, name_expr, stmt_at, body_of}
use Rattle.txn_lang.specs.declared.item_type.Type.TheVariants as type
use Rattle.txn_lang.specs.Typing.{HasType, node_of, step_of}
use Rattle.type_errors.specs.Failing.{any, of_type, operands, BeginsWith, Fails, BlockFails, BodyFails}

-- ---- `emit [1, 2];`: the first element is no text, and it stands at 7

two-numbers : (e a b : Expr) → node_of e ≡ ExprNode-F.Texts (a ∷ b ∷ []) → node_of a ≡ ExprNode-F.Number (pos 1) → node_of b ≡ ExprNode-F.Number (pos 2)
    → column_of a ≡ 7 → Fails [] e 7
two-numbers e a b is one two at = Fails.unsuited e 7 (record {
  before = [];
  here = of_type type.Text a;
  after = of_type type.Text b ∷ [];
  split = ap operands is;
  first = type.Int;
  begins_with = subst (λ n. BeginsWith [] type.Int (operands n)) (sym is) (HasType.number a (pos 1) one);
  suited = tt;
  unsuited = record { own = type.Int; typed = HasType.number a (pos 1) one; tested = refl };
  others = (record { own = type.Int; typed = HasType.number b (pos 2) two }, tt);
  at = sym at;
})

-- ---- `hash(1).put("f", 2);`: the key is told before the second argument, though neither is a text

abbrev a_put : Stmt
a_put = stmt_at 1 (stmt.Write kind.Hash (number_expr (6, pos 1)) word.Put (text_expr (13, codes "f") ∷ number_expr (18, pos 2) ∷ []))

key-before-arguments : BodyFails (body_of (a_put, [])) 6
unfolding out-StmtNode out-ExprNode denote.Hole.Carrier.out
key-before-arguments = BlockFails.unsuited [] a_put [] 6 (record {
  before = [];
  here = of_type type.Text (number_expr (6, pos 1));
  after = of_type type.Text (text_expr (13, codes "f")) ∷ of_type type.Text (number_expr (18, pos 2)) ∷ [];
  split = refl;
  first = type.Int;
  begins_with = HasType.number (number_expr (6, pos 1)) (pos 1) refl;
  suited = tt;
  unsuited = record { own = type.Int; typed = HasType.number (number_expr (6, pos 1)) (pos 1) refl; tested = refl };
  others = (
    record { own = type.Text; typed = HasType.text (text_expr (13, codes "f")) (codes "f") refl },
    (record { own = type.Int; typed = HasType.number (number_expr (18, pos 2)) (pos 2) refl }, tt),
  );
  at = refl;
})

-- ---- `peak("x").raise("a");`: the key is a text, and the height at 17 is no number

abbrev a_raise : Stmt
a_raise = stmt_at 1 (stmt.Write kind.Peak (text_expr (6, codes "x")) word.Raise (text_expr (17, codes "a") ∷ []))

height-of-a-peak : BodyFails (body_of (a_raise, [])) 17
unfolding out-StmtNode out-ExprNode denote.Hole.Carrier.out
height-of-a-peak = BlockFails.unsuited [] a_raise [] 17 (record {
  before = of_type type.Text (text_expr (6, codes "x")) ∷ [];
  here = of_type type.Int (text_expr (17, codes "a"));
  after = [];
  split = refl;
  first = type.Text;
  begins_with = HasType.text (text_expr (6, codes "x")) (codes "x") refl;
  suited = (record { own = type.Text; typed = HasType.text (text_expr (6, codes "x")) (codes "x") refl; tested = refl }, tt);
  unsuited = record { own = type.Text; typed = HasType.text (text_expr (17, codes "a")) (codes "a") refl; tested = refl };
  others = tt;
  at = refl;
})

-- ---- `if true { emit x; } else { emit y; }`: the first block is told before the second, at 16

abbrev emit_x : Stmt
emit_x = stmt_at 11 (stmt.Emit (name_expr (16, codes "x")))

emit-of-x : BlockFails [] (emit_x ∷ []) 16
unfolding out-StmtNode out-ExprNode denote.Hole.Carrier.out
emit-of-x =
    BlockFails.inside [] emit_x [] 16 [] [] (any (name_expr (16, codes "x"))) refl tt (Fails.unbound (name_expr (16, codes "x")) (codes "x") refl refl)

first-block-first : (s : Stmt) (cond : Expr) (other : List Stmt) → step_of s ≡ StmtNode-F.If cond (emit_x ∷ []) (Some other)
    → node_of cond ≡ ExprNode-F.Bool true → BlockFails [] (s ∷ []) 16
first-block-first s cond other is holds =
    BlockFails.then_do [] s [] (emit_x ∷ []) (Some other) cond 16 is (HasType.bool cond true holds) emit-of-x
