use Rattle.std.proofs.Common.{drop, length, sym, ◌∙◌}
use Rattle.std.proofs.lemmas.Result.{err_from_is_err_and}
use Rattle.commit_file.proofs.Scanned.{begun-none, begun-more, begun-stops, begun-ends}
use Rattle.commit_file.proofs.scanning.scan.Goals as goal

pub loop-payload-init : goal.loop-payload-init
loop-payload-init g c = begun-none g.C.Chain.follows c.args.version (g.C.Chain.payloads c.args.chain.now) c.args.bytes.now

pub returns-in_err-goes_on-clause-refused : goal.returns-in_err-goes_on-clause-refused
returns-in_err-goes_on-clause-refused g c =
    let p = err_from_is_err_and c.from_residual-in_err-goes_on.result c.from_residual-in_err-goes_on.ensures.1 in
    rw (p.1, p.2, c.in_err-goes_on.ensures.told) (begun-stops g.C.Chain.follows c.args.version (g.C.Chain.payloads c.args.chain.now) c.args.bytes.now c.loop-payload.rest.now
    c.in-Some.behind.now (drop (length (g.C.Chain.payloads c.args.chain.now)) (g.C.Chain.payloads c.loop-payload.chain))
    (g.C.Chain.payloads c.loop-payload.chain) c.in-Some.payload.now c.loop-payload.invariant c.in-Some.ensures.0 c.in-Some.ensures.1
    c.args.at c.place.result c.place.ensures (sym c.in_ok-took.ensures.follows ∙ c.in_err-goes_on.ensures.stops))

pub loop-payload-preserved : goal.loop-payload-preserved
loop-payload-preserved g c =
    begun-more g.C.Chain.follows c.args.version (g.C.Chain.payloads c.args.chain.now) c.args.bytes.now c.loop-payload.rest.now
    c.in-Some.behind.now (drop (length (g.C.Chain.payloads c.args.chain.now)) (g.C.Chain.payloads c.loop-payload.chain))
    (g.C.Chain.payloads c.loop-payload.chain) c.in-Some.payload.now c.loop-payload.invariant c.in-Some.ensures.0 c.in-Some.ensures.1
    (g.C.Chain.payloads c.take.new.self) (rw c.in_ok-goes_on.ensures.goes at c.in_ok-took.ensures.takes)
    (sym c.in_ok-took.ensures.follows ∙ c.in_ok-goes_on.ensures.goes)

pub returns-clause-scanned : goal.returns-clause-scanned
returns-clause-scanned g c =
    begun-ends g.C.Chain.follows c.args.version (g.C.Chain.payloads c.args.chain.now) c.args.bytes.now c.loop-payload.rest.now
    (drop (length (g.C.Chain.payloads c.args.chain.now)) (g.C.Chain.payloads c.loop-payload.chain)) (g.C.Chain.payloads c.loop-payload.chain)
    c.loop-payload.invariant c.in_default.ensures
