use Rattle.std.proofs.Common.{rules}
use Rattle.predictive_parsing.proofs.Cursors.{run_up_to_is}
use Rattle.predictive_parsing.proofs.cursor.Cursor.run_up_to.Goals as goal

pub returns : goal.returns
returns g c = λ passes computes.
    let k = c.prefix_len.ensures.value passes computes in
    run_up_to_is c.args.limit passes c.args.self.now c.split_at.result.0.now c.split_at.result.1.now c.prefix_len.result
    c.min.result (search (rules, k)) (search rules) (search rules) (search rules)
