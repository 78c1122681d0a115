use Rattle.std.proofs.Common.{rules, refl, ◌∙◌}
use Rattle.std.proofs.lemmas.Fn.{gave_at}
use Rattle.predictive_parsing.proofs.Cursors.{ahead_is}
use Rattle.predictive_parsing.proofs.cursor.Cursor.sees.Goals as goal

pub returns-in-Some : goal.returns-in-Some
returns-in-Some g c = λ passes computes. computes c.in-Some.item.now c.test.result (gave_at g.F.FnOnce c.test.ensures refl)
    ∙ ahead_is passes c.in-Some.item.now c.args.self.now (search rules)
