use Rattle.std.proofs.Common.{◌≡◌, map, drop}
use Rattle.txn_lang.specs.Writes as spec
use Rattle.txn_lang.proofs.writing.+writes.Given as goal

abbrev pub invariant-first_write-loop-stmt : goal.invariant-first_write-loop-stmt
invariant-first_write-loop-stmt l = spec.first_of (map spec.first_write_in l.fn.stmts) ≡ spec.first_of (map spec.first_write_in (drop l.stmt-index l.stmts))
