use Rattle.std.proofs.Common.{ap}
use Rattle.edge_slab.specs.declared.chains.Ties.{Ties}
use Rattle.edge_slab.specs.Chains.{ties_to}
use Rattle.edge_slab.proofs.Chained.{tied}
use Rattle.edge_slab.proofs.chains.Chains.tie.Goals as goal

pub returns : goal.returns
returns c =
    tied c.args.self.now c.set.new.self c.set-2.new.self c.args.before c.args.behind
    (ties_to c.args.behind c.ties_of-last.result.last) (ties_to c.ties_of-next.result.next c.args.before)
    c.set.ensures.set c.set-2.ensures.set c.set.ensures.there c.set-2.ensures.there
    (ap (λ (t : Ties). ties_to c.args.behind t.last) c.ties_of-last.ensures)
    (ap (λ (t : Ties). ties_to t.next c.args.before) c.ties_of-next.ensures)
