use Rattle.txn_grammar.proofs.Unquoted.{unquoted_is}
use Rattle.txn_grammar.proofs.lexer.text_at.Goals as goal

pub returns-in-Err : goal.returns-in-Err
returns-in-Err c =
    unquoted_is c.args.text.now c.new-cursor.result c.next_text.new.cursor c.in-Err.stop c.unquoted.result c.new-cursor.ensures
    c.unquoted.ensures c.in-Err.ensures
