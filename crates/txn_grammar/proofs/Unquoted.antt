-- What stands at a quote that begins no text in quotes.
use Rattle.std.proofs.Common.{◌≡◌, ◌≢◌, Result, Err, ap, sym, subst, ◌∙◌}
use Rattle.std.specs.Prelude.{IfOk}
use Rattle.std.specs.declared.alloc.AllocError.{AllocError}
use Rattle.plain_data.specs.declared.or_no_memory.OrNoMemory.{OrNoMemory}
use Rattle.plain_data.specs.declared.or_no_memory.OrNoMemory.TheVariants.{Cause, NoMemory}
use Rattle.predictive_parsing.specs.declared.refused.Refused.{Refused}
use Rattle.dtext.specs.code.Reading.{text}
use Rattle.txn_grammar.specs.declared.token.Lexeme.{Lexeme}
use Rattle.txn_grammar.specs.Characters.{Text}
use Rattle.txn_grammar.specs.Lexer.{text_at, quoted_lexeme}
use Rattle.txn_grammar.specs.code.Unquoted.{unquoted}

-- where no text in quotes is read, the byte at the front is malformed
pub unquoted_is : (z ahead left : Text) (stop : OrNoMemory Refused) (answer : Result Lexeme AllocError) → ahead ≡ z → answer ≡ unquoted stop
    → (stop ≢ NoMemory → text ahead ≡ Err left) → IfOk answer (λ found. found ≡ text_at z)
unfolding text_at
unquoted_is z ahead left (Cause refused) answer same e reads =
    subst (λ (a : Result Lexeme AllocError). IfOk a (λ found. found ≡ text_at z)) (sym e)
    (ap (quoted_lexeme z) (sym (ap text (sym same) ∙ reads (λ is. absurd cc))))
unquoted_is z ahead left NoMemory answer same e reads =
    subst (λ (a : Result Lexeme AllocError). IfOk a (λ found. found ≡ text_at z)) (sym e) tt
