use Rattle.std.proofs.Common.{◌≡◌, take}
use Rattle.audit_core.specs.Dumps.{dump_of}
use Rattle.audit_core.proofs.dumping.dump_all.Given as goal

-- what the commits so far leave
abbrev pub invariant-loop-commit : goal.invariant-loop-commit
invariant-loop-commit l = l.state ≡ dump_of (take l.commit-index l.commits)
