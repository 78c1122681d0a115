use Rattle.std.specs.Prelude.{refl}
use Rattle.txn_grammar.specs.Spellings.{reserved_word, mark}
use Rattle.txn_grammar.specs.Lexer.{word_token, word_at, mark_at, token_at, lex}
use Rattle.language_lines.proofs.words.tokens_are_as_written.Goals as goal

pub returns-clause-words : goal.returns-clause-words
unfolding lex token_at word_at word_token reserved_word
returns-clause-words c = refl

pub returns-clause-marks : goal.returns-clause-marks
unfolding lex token_at mark_at mark
returns-clause-marks c = refl

pub returns-clause-names : goal.returns-clause-names
unfolding lex token_at word_at word_token reserved_word
returns-clause-names c = refl

pub returns-clause-strays : goal.returns-clause-strays
unfolding lex token_at mark_at mark
returns-clause-strays c = refl
