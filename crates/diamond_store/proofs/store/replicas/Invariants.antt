use Rattle.std.proofs.Common.{◌≡◌, length}
use Rattle.diamond_store.proofs.store.replicas.Given as goal

-- so many shards were made
abbrev pub invariant-loop-place : goal.invariant-loop-place
invariant-loop-place g l = record {
  made : length l.all.items ≡ l.place;
  token : l.token ≡ l.fn.token;
}
