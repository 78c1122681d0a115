use Rattle.std.proofs.Common.{IfOk, sym, subst, ◌∙◌, rules}
use Rattle.txn_grammar.specs.Lexer.{lex}
use Rattle.txn_grammar.specs.Grammar.{IsBody}
use Rattle.txn_grammar.specs.Parsed.{parsed}
use Rattle.std.specs.Prelude.{◌≡◌, Some}
use Rattle.txn_parse.proofs.Wholes.{ended_tree, ended_body, ended_all, ended_column}
use Rattle.txn_parse.proofs.whole.parse.Goals as goal

pub returns-clause-read : goal.returns-clause-read
returns-clause-read c =
    let z = c.args.source.now in
    let h = ended_body z c.new-cursor.result c.body-found.new.cursor (search rules) c.body-found.result c.body-found.ensures in
    subst (λ r. IfOk r (λ b. IsBody (lex z) b)) (sym c.ended.ensures) h

pub returns-clause-tree : goal.returns-clause-tree
returns-clause-tree c =
    let z = c.args.source.now in
    let h = ended_tree z c.new-cursor.result c.body-found.new.cursor (search rules) c.body-found.result c.body-found.ensures in
    subst (λ r. IfOk r (λ b. parsed z ≡ Some b)) (sym c.ended.ensures) h

pub returns-clause-bodies : goal.returns-clause-bodies
returns-clause-bodies c = λ other r n.
    let h = ended_all c.args.source.now c.new-cursor.result c.body-found.new.cursor (search rules) c.body-found.result c.body-found.ensures in
    c.ended.ensures ∙ h other r (λ k. n (c.ended.ensures ∙ k))

pub returns-clause-refused : goal.returns-clause-refused
returns-clause-refused c = λ column e.
    let h = ended_column c.args.source.now c.new-cursor.result c.body-found.new.cursor (search rules) c.body-found.result c.body-found.ensures in
    h column (sym c.ended.ensures ∙ e)
