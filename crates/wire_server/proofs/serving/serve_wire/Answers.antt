use Rattle.std.proofs.Common.{ℕ, sym, subst}
use Rattle.diamond_server.specs.Promises.{sides}
use Rattle.wire_server.specs.Promises.{KeepsPromises, TellsEachStoreFault}
use Rattle.wire_server.proofs.Promises.{keeps_promises, tells_each_fault}
use Rattle.wire_server.proofs.serving.serve_wire.Goals as goal

-- the status is that of how the requests ended
pub returns : goal.returns
returns g c =
    let x = sides g.K.Source g.K.Sink c.args.link.now in
    let y = sides g.K.Source g.K.Sink c.serve_requests-ended.new.link in
    let old = c.args.backend.now in
    let new = c.serve_requests-ended.new.backend in record {
      promises = subst (λ (status : ℕ). KeepsPromises g.B.Backend.known g.B.Backend.goes status old new x y) (sym c.status_of.ensures)
          (keeps_promises g.B.Backend.known g.B.Backend.goes old new x y c.serve_requests-ended.result c.serve_requests-ended.ensures.ends);
      told = subst (TellsEachStoreFault (g.B.Backend.known old) (g.B.Backend.known new)) (sym c.status_of.ensures)
          (tells_each_fault g.B.Backend.known g.B.Backend.goes old new x y c.serve_requests-ended.result c.serve_requests-ended.ensures.ends);
      home = c.serve_requests-ended.ensures.home;
    }
