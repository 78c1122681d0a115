use Rattle.std.specs.Prelude.{refl}
use Rattle.txn_grammar.specs.Spellings.{reserved_word}
use Rattle.txn_grammar.specs.Numbers.{small_value, number_value}
use Rattle.txn_grammar.specs.Lexer.{word_token, word_at, number_at, token_at, lex}
use Rattle.language_lines.proofs.limits.limits_are_met.Goals as goal

pub returns-clause-tokens : goal.returns-clause-tokens
unfolding lex token_at word_at word_token reserved_word number_at number_value small_value
returns-clause-tokens c = refl
