use Rattle.std.proofs.Common.{ℕ, sym, subst}
use Rattle.diamond_server.specs.Promises.{sides, KeepsPromises, TellsStoreFault}
use Rattle.diamond_server.proofs.Promises.{keeps_promises, tells_fault}
use Rattle.diamond_server.proofs.serving.serve_by.Goals as goal

-- the status is that of how the lines ended
pub returns : goal.returns
returns g c =
    let x = sides g.K.Source g.K.Sink c.args.link.now in
    let y = sides g.K.Source g.K.Sink c.serve_lines-ended.new.link in
    let old = c.args.backend.now in
    let new = c.serve_lines-ended.new.backend in record {
      told = subst (TellsStoreFault (g.B.Backend.known old) (g.B.Backend.known new)) (sym c.status_of.ensures)
          (tells_fault g.B.Backend.known g.B.Backend.goes old new x y c.serve_lines-ended.result c.serve_lines-ended.ensures.ends);
      promises = subst (λ (status : ℕ). KeepsPromises g.B.Backend.known g.B.Backend.goes status old new x y) (sym c.status_of.ensures)
          (keeps_promises g.B.Backend.known g.B.Backend.goes old new x y c.serve_lines-ended.result c.serve_lines-ended.ensures.ends);
      home = c.serve_lines-ended.ensures.home;
    }
