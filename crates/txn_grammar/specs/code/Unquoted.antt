-- What is told where no text in quotes is read: a malformed byte, or want of memory.
use Rattle.std.specs.Prelude.{◌≡◌, Result, Ok, Err, refl}
use Rattle.std.specs.declared.alloc.AllocError.{AllocError}
use Rattle.plain_data.specs.declared.or_no_memory.OrNoMemory.{OrNoMemory}
use Rattle.plain_data.specs.declared.or_no_memory.OrNoMemory.TheVariants.{Cause, NoMemory}
use Rattle.predictive_parsing.specs.declared.refused.Refused.{Refused}
use Rattle.txn_grammar.specs.declared.token.Token.TheVariants as t
use Rattle.txn_grammar.specs.declared.token.Lexeme.{Lexeme}
use Rattle.txn_grammar.specs.Lexer.{lexeme}

abbrev pub unquoted : OrNoMemory Refused → Result Lexeme AllocError
unquoted (Cause refused) = Ok (lexeme t.Malformed 1)
unquoted NoMemory = Err (record {})

-- a text that isn't well formed is a malformed byte, and not want of memory
not-well-formed : unquoted (Cause (record {})) ≡ Ok (lexeme t.Malformed 1)
not-well-formed = refl
