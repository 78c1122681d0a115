use Rattle.std.proofs.Common.{sym, ◌∙◌, arith}
use Rattle.edge_slab.proofs.Dropping.{one_less, dropped_more, dropped_all, under_none}
use Rattle.edge_slab.proofs.edges.EdgeSlab.drop_subscriber.Goals as goal

pub loop-place-smaller : goal.loop-place-smaller
loop-place-smaller c =
    let less =
    one_less c.loop-place.self c.unlink.new.self c.args.subscriber c.in-Some.place c.unlink.ensures.gone (sym c.in-Some.is ∙ c.first_place.ensures.first)
    in
    omega (arith, less)

pub loop-place-preserved : goal.loop-place-preserved
loop-place-preserved c =
    dropped_more c.args.self.now c.loop-place.self c.unlink.new.self c.args.subscriber c.in-Some.place c.loop-place.invariant c.unlink.ensures.gone

pub returns : goal.returns
returns c =
    dropped_all c.args.self.now c.loop-place.self c.args.subscriber c.loop-place.invariant
    (under_none c.first_place.result _ c.in_default.is c.first_place.ensures.none) (sym c.in_default.is ∙ c.first_place.ensures.first)
