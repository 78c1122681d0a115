use Rattle.std.proofs.Common.{◌+◌, ◌++◌, drop, sym, ap, ◌∙◌, arith}
use Rattle.std.proofs.Math.ListN.{drop_of_length-le}
use Rattle.plain_data.specs.code.Merging.{merged}
use Rattle.plain_data.proofs.Merging.{one_merged, rest_merged, drop-item}
use Rattle.plain_data.proofs.overlay.merge.Goals as goal

pub loop-key-init : goal.loop-key-init
loop-key-init g c = ap (λ xs. xs ++ merged (g.L.Marking.left c.args.marking.now) c.args.under.now c.args.over.now) c.new-pairs.ensures.items

pub loop-key-preserved : goal.loop-key-preserved
loop-key-preserved g c =
    one_merged (g.L.Marking.left c.args.marking.now)
    c.loop-key.pairs.items c.copy_before.new.pairs.items c.add_pair.new.pairs.items c.loop-key.rest.now c.in_ok-rest.rest.now c.in_ok-left.field-0
    c.loop-key-item.result (drop c.loop-key.key-index c.args.over.now) (drop (c.loop-key.key-index + 1) c.args.over.now) _
    (drop-item c.args.over.now c.loop-key.key-index c.loop-key-item.result (omega (arith, c.loop-key-test.true))
    (sym c.loop-key-item.is)) c.in_ok-rest.ensures.copied c.in_ok-rest.ensures.rest c.in_ok-left.ensures c.in_ok-add_pair.ensures
    c.loop-key.invariant

pub returns : goal.returns
returns g c =
    rest_merged (g.L.Marking.left c.args.marking.now) c.loop-key.pairs.items c.into_vec.result.items c.loop-key.rest.now
    (drop c.loop-key.key-index c.args.over.now) _
    (drop_of_length-le c.args.over.now (omega (arith, c.loop-key-test.false)))
    (c.into_vec.ensures ∙ c.in_ok-extend_cloned.ensures.ok ∙ ap (λ xs. xs ++ c.loop-key.rest.now) c.from_vec-all.ensures) c.loop-key.invariant
