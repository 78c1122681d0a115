use Rattle.remote_wire.specs.Spelling.{long_bytes, body_parts}
use Rattle.remote_wire.proofs.Written.{then_written}
use Rattle.remote_wire.proofs.requesting.put_append.Goals as goal

pub returns-clause-written : goal.returns-clause-written
returns-clause-written c =
    then_written c.put_body.result c.args.out.now (long_bytes c.args.seq) c.put_long.new.out
    (body_parts c.args.body.now c.args.bases.now) c.put_body.new.out c.in_ok-put_long.ensures.written
    c.put_body.ensures.written
