use Rattle.std.proofs.Common.{refl, sym, ◌∙◌, arith}
use Rattle.std.proofs.lemmas.Fn.{says_at}
use Rattle.predictive_parsing.proofs.Prefixes.{prefix_more, prefix_stop, prefix_all}
use Rattle.predictive_parsing.proofs.prefix.prefix_len.Goals as goal

pub loop-len-init : goal.loop-len-init
loop-len-init g c = λ passes computes. omega arith

pub returns-then-not-test-clause-value : goal.returns-then-not-test-clause-value
returns-then-not-test-clause-value g c = λ passes computes.
    let here = computes c.index-items-len.result c.test.result (says_at g.F.Fn c.test.ensures refl) in
    prefix_stop passes c.args.items.now c.loop-len.len (c.loop-len.invariant passes computes) c.index-items-len.result
    c.loop-len-test.true c.index-items-len.is (sym here ∙ c.if-not-test.true)

pub loop-len-preserved : goal.loop-len-preserved
loop-len-preserved g c = λ passes computes.
    let here = computes c.index-items-len.result c.test.result (says_at g.F.Fn c.test.ensures refl) in
    prefix_more passes c.args.items.now c.loop-len.len (c.loop-len.invariant passes computes) c.index-items-len.result
    c.loop-len-test.true c.index-items-len.is (sym here ∙ c.if-not-test.false)

pub returns-clause-value : goal.returns-clause-value
returns-clause-value g c = λ passes computes.
    prefix_all passes c.args.items.now c.loop-len.len (c.loop-len.invariant passes computes) c.loop-len.auto.len-end (omega arith)
