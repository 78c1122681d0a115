use Rattle.std.proofs.Common.{rules, sym}
use Rattle.std.proofs.lemmas.Fn.{gave_at}
use Rattle.predictive_parsing.proofs.Cursors.{made_taken, none_made, none_left}
use Rattle.predictive_parsing.proofs.cursor.Cursor.take.Goals as goal

pub returns-in_default-clause-reads : goal.returns-in_default-clause-reads
returns-in_default-clause-reads g c = λ f made n. none_left f c.args.self.now (search rules)

pub returns-in_default-make-clause-reads : goal.returns-in_default-make-clause-reads
returns-in_default-make-clause-reads g c = λ f made n.
    none_made f c.in-Some.item.now c.in-Some.behind.now c.args.self.now (search rules)
    (sym (made c.in-Some.item.now _ (gave_at g.F.FnOnce c.make.ensures c.in_default-make.is)))

pub returns-clause-reads : goal.returns-clause-reads
returns-clause-reads g c = λ f made.
    made_taken f c.in-Some.item.now c.in-Some.behind.now c.args.self.now c.in-Some-make.made (search rules)
    (sym (made c.in-Some.item.now _ (gave_at g.F.FnOnce c.make.ensures c.in-Some-make.is)))
