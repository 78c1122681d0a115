use Rattle.std.proofs.Common.{◌≡◌, drop}
use Rattle.remote_calls.specs.Spelled.{is_among}
use Rattle.remote_client.proofs.asked.is_among.Given as goal

-- none so far
abbrev pub invariant-loop-base : goal.invariant-loop-base
invariant-loop-base l = is_among l.fn.named l.fn.address ≡ is_among (drop l.base-index l.named) l.fn.address
