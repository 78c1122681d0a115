-- Texts, cut and read.
use Rattle.std.specs.Prelude.{◌≡◌, [], ◌∷◌, codes, pos, Ok, Err, refl}
use Rattle.txn_trees.specs.declared.expression.ExprNode.TheVariants as node
use Rattle.txn_trees.specs.declared.word.Operator.TheVariants as operator
use Rattle.predictive_parsing.specs.Reading.{one, turns, many, list, optional, whole}
use Rattle.predictive_parsing.specs.Bytes.{byte}
use Rattle.dtext.specs.code.Reading.{hexadecimal, escape, piece, pieces, text}
use Rattle.txn_grammar.specs.declared.symbol.Symbol.TheVariants as s
use Rattle.txn_grammar.specs.declared.token.Token.TheVariants as t
use Rattle.txn_grammar.specs.Spellings.{same_symbol, reserved_word, mark}
use Rattle.txn_grammar.specs.Trees.{expr, operand}
use Rattle.txn_grammar.specs.code.Reader.{word, number_leaf, name_leaf, a_leaf, further, chain, other_side, comparison}
use Rattle.txn_grammar.specs.code.Reader.{comparison_of, expression_of, in_parens, group, opened, unary_of, negation_of}
use Rattle.txn_grammar.specs.code.Reader.{unary, expression}
use Rattle.txn_grammar.specs.Numbers.{small_value, number_value}
use Rattle.txn_grammar.specs.Lexer.{spot, word_token, word_at, number_at, text_at, mark_at, token_at, lex}

-- the longest token that fits
cuts_marks : lex (codes "<= <==") ≡ spot 1 (t.Symbol s.AtMost) ∷ spot 4 (t.Symbol s.AtMost) ∷ spot 6 (t.Symbol s.Assign) ∷ []
unfolding lex token_at mark_at mark
cuts_marks = refl

-- tokens may touch, and a name may begin with a reserved word
cuts_words : lex (codes "1and ands") ≡ spot 1 (t.Number (pos 1)) ∷ spot 2 (t.Symbol s.And) ∷ spot 6 (t.Name (codes "ands")) ∷ []
unfolding lex token_at word_at word_token number_at number_value small_value reserved_word
cuts_words = refl

-- a needless zero; behind it nothing is looked for
cuts_zeros : lex (codes "0 00 1") ≡ spot 1 (t.Number (pos 0)) ∷ spot 3 t.Malformed ∷ []
unfolding lex token_at number_at number_value small_value
cuts_zeros = refl

-- `"\n\x7f"`, in quotes
reads_escapes : lex (34 ∷ 92 ∷ 110 ∷ 92 ∷ 120 ∷ 55 ∷ 102 ∷ 34 ∷ []) ≡ spot 1 (t.Text (10 ∷ 127 ∷ [])) ∷ []
unfolding lex token_at text_at text pieces piece escape hexadecimal byte many turns one
reads_escapes = refl

-- ---- expressions, with so many levels left

-- a second comparison is refused
one_comparison : whole (expression 0) (lex (codes "1<2<3")) ≡ Err (spot 4 (t.Symbol s.Less) ∷ spot 5 (t.Number (pos 3)) ∷ [])
unfolding lex token_at number_at number_value small_value mark_at mark whole expression expression_of unary comparison_of
    comparison other_side chain further list many turns optional one a_leaf number_leaf
one_comparison = refl

-- operands of one rank are one chain, and `*` binds tighter; parentheses leave their column alone
chains : whole (expression 1) (lex (codes "(1)+2*3"))
    ≡ Ok (expr 1 (node.Chain (expr 1 (node.Number (pos 1)))
    (operand operator.Plus (expr 5
    (node.Chain (expr 5 (node.Number (pos 2))) (operand operator.Times (expr 7 (node.Number (pos 3))) ∷ []))) ∷ [])))
unfolding lex token_at number_at number_value small_value mark_at mark whole expression expression_of unary unary_of opened
    negation_of comparison_of comparison other_side chain further list many turns optional one a_leaf number_leaf group in_parens
    word same_symbol
chains = refl

-- a group in a group opens a second level
one_level : whole (expression 1) (lex (codes "((1))"))
    ≡ Err (spot 2 (t.Symbol s.OpenParen) ∷ spot 3 (t.Number (pos 1)) ∷ spot 4 (t.Symbol s.CloseParen) ∷ spot 5
    (t.Symbol s.CloseParen) ∷ [])
unfolding lex token_at number_at number_value small_value mark_at mark whole expression expression_of unary unary_of opened
    negation_of comparison_of comparison other_side chain further list many turns optional one a_leaf number_leaf name_leaf group
    in_parens word same_symbol
one_level = refl

-- with no level left the word of a kind is refused, since it could only go on with a parenthesis
no_read : whole (expression 0) (lex (codes "set")) ≡ Err (spot 1 (t.Symbol s.Set) ∷ [])
unfolding lex token_at word_at word_token reserved_word whole expression expression_of unary comparison_of comparison chain list one a_leaf name_leaf
no_read = refl
