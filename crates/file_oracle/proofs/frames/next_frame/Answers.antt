use Rattle.std.proofs.Common.{rules}
use Rattle.file_oracle.proofs.Listing.{payloads_none, one_listed, behind_none, one_behind}
use Rattle.file_oracle.proofs.frames.next_frame.Goals as goal

pub returns-in_default-clause-listed : goal.returns-in_default-clause-listed
returns-in_default-clause-listed c = payloads_none c.args.bytes.now c.in_default.ensures.payload

pub returns-in_default-clause-behind : goal.returns-in_default-clause-behind
returns-in_default-clause-behind c = behind_none c.args.bytes.now c.in_default.ensures.payload

pub returns-clause-listed : goal.returns-clause-listed
returns-clause-listed c =
    one_listed c.args.bytes.now c.in-Some.payload.now c.split_at.result.1.now c.in-Some.ensures.payload (search rules)

pub returns-clause-behind : goal.returns-clause-behind
returns-clause-behind c =
    one_behind c.args.bytes.now c.in-Some.payload.now c.split_at.result.1.now c.in-Some.ensures.payload (search rules)
