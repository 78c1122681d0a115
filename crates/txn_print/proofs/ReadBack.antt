-- The canonical text of a body that the grammar derives is read back.
use Rattle.std.proofs.Common.{◌≡◌, [], Some, subst, append-nil}
use Rattle.txn_trees.specs.declared.statement.Body.{Body}
use Rattle.txn_grammar.specs.Characters.{Text}
use Rattle.txn_grammar.specs.Lexer.{lex}
use Rattle.txn_grammar.specs.Grammar.{IsBody, BodyRule}
use Rattle.txn_print.specs.Canonical.{canonical, shown_body}
use Rattle.txn_grammar.specs.Parsed.{parsed}
use Rattle.txn_grammar.proofs.Parses.{parsed_sound, parsed_complete}
use Rattle.txn_print.specs.ReadBack.{ReadsBack, ParsesBack}
use Rattle.txn_print.proofs.Lexing.{Good, text-tokens}
use Rattle.txn_print.proofs.Spelled.{goods, lex_good}
use Rattle.txn_print.proofs.Statements.{body_read}

-- its tokens are cut from the text, and the body's rule derives it from them
pub read_back : (z : Text) (b : Body) → IsBody (lex z) b → ReadsBack b
read_back z b r =
    let back = body_read Good goods (lex z) [] b r (lex_good z) in
    let found = back.again (lex (canonical b)) [] (text-tokens (shown_body b) back.good) in
    record {
      read =
          found.value;
      derived = subst (λ ys. BodyRule ys found.value []) (append-nil (lex (canonical b))) found.derives;
      same = found.alike;
    }

-- so the function from texts finds it
pub parse_back : (z : Text) (b : Body) → parsed z ≡ Some b → ParsesBack b
parse_back z b e =
    let r = read_back z b (parsed_sound z b e) in
    (r.read, parsed_complete (canonical b) r.read r.derived, r.same)
