use Rattle.std.proofs.Common.{◌≤◌, ℕ, sym, subst}
use Rattle.remote_service.proofs.Meant.{short, read_at-serves}
use Rattle.remote_service.proofs.service.Service.read_at.Goals as goal

-- it was asked for what was seen
pub returns-clause-serves : goal.returns-clause-serves
returns-clause-serves g c = read_at-serves g.B.Backend.known g.B.Backend.goes c.args.self.now c.args.backend.now c.read_at-outcome.new.self
    c.requires.serves c.args.address.now c.args.number
    (short c.args.address.now (sym c.if-not-is_short.ensures), subst (λ (n : ℕ). c.args.number ≤ n) c.seen.ensures.seen c.if-number-seen.false)
    c.read_at-outcome.result c.read_at-outcome.ensures.goes
