use Rattle.std.proofs.Common.{sym, subst}
use Rattle.txn_grammar.specs.Characters.{Text}
use Rattle.diamond_server.specs.Promises.{sides}
use Rattle.diamond_server.specs.code.Serving.{FindsLine}
use Rattle.diamond_server.proofs.Held.{finds-awaited}
use Rattle.diamond_server.proofs.link.await_line.Goals as goal

-- it came, or not, behind what was passed on
pub returns-clause-finds : goal.returns-clause-finds
returns-clause-finds g c =
    let told = sides g.K.Source g.K.Sink in
    subst (λ (t : Text). FindsLine c.read_line.result (told c.args.link.now) c.args.held.now (told c.read_line.new.link) t) (sym c.pass_on.ensures.none)
    (finds-awaited c.read_line.result (told c.args.link.now) (told c.pass_on.new.link) (told c.read_line.new.link) c.args.held.now
    c.if-not-pass_on.ensures.passes c.pass_on.ensures.incoming c.read_line.ensures.outgoing c.read_line.ensures.reads c.read_line.ensures.line
    c.read_line.ensures.stops)
