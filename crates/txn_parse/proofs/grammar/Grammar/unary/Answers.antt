use Rattle.std.proofs.Common.{rules, arith}
use Rattle.txn_grammar.specs.declared.form.Opener.TheVariants as opener
use Rattle.txn_parse.proofs.Levels.{unary_opens}
use Rattle.txn_parse.proofs.grammar.Grammar.unary.Goals as goal

pub returns-in-Some-Negative : goal.returns-in-Some-Negative
returns-in-Some-Negative g c = let k = unary_opens c.args.self.now.levels c.args.cursor.now (omega arith) opener.Negative (search rules) in search (rules, k)

pub returns-in-Some-Group : goal.returns-in-Some-Group
returns-in-Some-Group g c = let k = unary_opens c.args.self.now.levels c.args.cursor.now (omega arith) opener.Group (search rules) in search (rules, k)

pub returns-in-Some-Len : goal.returns-in-Some-Len
returns-in-Some-Len g c = let k = unary_opens c.args.self.now.levels c.args.cursor.now (omega arith) opener.Len (search rules) in search (rules, k)

pub returns-in-Some-Str : goal.returns-in-Some-Str
returns-in-Some-Str g c = let k = unary_opens c.args.self.now.levels c.args.cursor.now (omega arith) opener.Str (search rules) in search (rules, k)

pub returns-in-Some-Texts : goal.returns-in-Some-Texts
returns-in-Some-Texts g c = let k = unary_opens c.args.self.now.levels c.args.cursor.now (omega arith) opener.Texts (search rules) in search (rules, k)

pub returns-in-Some-Read : goal.returns-in-Some-Read
returns-in-Some-Read g c = let k = unary_opens c.args.self.now.levels c.args.cursor.now (omega arith) opener.Read (search rules) in search (rules, k)
