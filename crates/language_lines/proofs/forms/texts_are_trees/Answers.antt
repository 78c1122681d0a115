use Rattle.std.specs.Prelude.{refl}
use Rattle.predictive_parsing.specs.Reading.{one, turns, many, list, optional, whole}
use Rattle.predictive_parsing.specs.Bytes.{byte}
use Rattle.dtext.specs.code.Reading.{piece, pieces, text}
use Rattle.txn_grammar.specs.Spellings.{same_symbol, reserved_word, mark}
use Rattle.txn_grammar.specs.Numbers.{small_value, number_value}
use Rattle.txn_grammar.specs.Lexer.{word_token, word_at, number_at, text_at, mark_at, token_at, lex}
use Rattle.txn_grammar.specs.Tokens.{same_kind, write_named, read_named}
use Rattle.txn_grammar.specs.code.Reader.{word, text_leaf, truth_leaf, number_leaf, name_leaf, a_leaf, further, chain, other_side}
use Rattle.txn_grammar.specs.code.Reader.{comparison, comparison_of, expression_of, negative, not_read, in_parens, group, len, str}
use Rattle.txn_grammar.specs.code.Reader.{after_comma, elements, any_elements, texts, arguments_read, targeted, read, opened}
use Rattle.txn_grammar.specs.code.Reader.{unary_of, negation_of, unary, expression, let_stmt, emit_stmt, fail_stmt, simple_stmt}
use Rattle.txn_grammar.specs.code.Reader.{begins_statement, block, otherwise_read, if_stmt, for_stmt, write_stmt_read}
use Rattle.txn_grammar.specs.code.Reader.{nesting_stmt, statement, body}
use Rattle.txn_grammar.specs.Parsed.{parsed}
use Rattle.language_lines.proofs.forms.texts_are_trees.Goals as goal

pub returns-clause-forms : goal.returns-clause-forms
unfolding parsed word_token word_at number_at text_at mark_at token_at lex small_value number_value reserved_word mark same_symbol text
    pieces piece byte one turns many list optional whole same_kind write_named read_named word text_leaf truth_leaf number_leaf name_leaf
    a_leaf further chain other_side comparison comparison_of expression_of negative not_read in_parens group len str after_comma elements
    any_elements texts arguments_read targeted read opened unary_of negation_of unary expression let_stmt emit_stmt fail_stmt simple_stmt
    begins_statement block otherwise_read if_stmt for_stmt write_stmt_read nesting_stmt statement body
returns-clause-forms c = refl

pub returns-clause-writes : goal.returns-clause-writes
unfolding parsed word_token word_at number_at text_at mark_at token_at lex small_value number_value reserved_word mark same_symbol text
    pieces piece byte one turns many list optional whole same_kind write_named read_named word text_leaf truth_leaf number_leaf name_leaf
    a_leaf further chain other_side comparison comparison_of expression_of negative not_read in_parens group len str after_comma elements
    any_elements texts arguments_read targeted read opened unary_of negation_of unary expression let_stmt emit_stmt fail_stmt simple_stmt
    begins_statement block otherwise_read if_stmt for_stmt write_stmt_read nesting_stmt statement body
returns-clause-writes c = refl

pub returns-clause-reads : goal.returns-clause-reads
unfolding parsed word_token word_at number_at text_at mark_at token_at lex small_value number_value reserved_word mark same_symbol text
    pieces piece byte one turns many list optional whole same_kind write_named read_named word text_leaf truth_leaf number_leaf name_leaf
    a_leaf further chain other_side comparison comparison_of expression_of negative not_read in_parens group len str after_comma elements
    any_elements texts arguments_read targeted read opened unary_of negation_of unary expression let_stmt emit_stmt fail_stmt simple_stmt
    begins_statement block otherwise_read if_stmt for_stmt write_stmt_read nesting_stmt statement body
returns-clause-reads c = refl

pub returns-clause-others : goal.returns-clause-others
unfolding parsed word_token word_at number_at text_at mark_at token_at lex small_value number_value reserved_word mark same_symbol text
    pieces piece byte one turns many list optional whole same_kind write_named read_named word text_leaf truth_leaf number_leaf name_leaf
    a_leaf further chain other_side comparison comparison_of expression_of negative not_read in_parens group len str after_comma elements
    any_elements texts arguments_read targeted read opened unary_of negation_of unary expression let_stmt emit_stmt fail_stmt simple_stmt
    begins_statement block otherwise_read if_stmt for_stmt write_stmt_read nesting_stmt statement body
returns-clause-others c = refl
