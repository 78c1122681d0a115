use Rattle.std.proofs.Common.{◌≡◌, map}
use Rattle.write_buffer.proofs.keys.into_keys.Given as goal

abbrev pub invariant-loop-key : goal.invariant-loop-key
invariant-loop-key l = l.keys ≡ map (λ e. e.0) l.yielded
