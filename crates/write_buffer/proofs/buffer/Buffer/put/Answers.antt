use Rattle.std.proofs.Common.{◌≡◌, OnOk, subst}
use Rattle.rdt_types.specs.Deltas as deltas
use Rattle.rdt_types.specs.DeltaMaps.{with_delta}
use Rattle.write_buffer.proofs.buffer.Buffer.put.Goals as goal

pub returns-clause-ok : goal.returns-clause-ok
returns-clause-ok c =
    let same = c.in_ok-address.ensures.cases in
    subst (λ a. OnOk c.put_at.result (c.put_at.new.self ≡ with_delta c.args.self.now a (deltas.delta_of c.args.op.now)))
    (λ i. record { kind = same.0 i; key = same.1 i }) c.put_at.ensures.ok
