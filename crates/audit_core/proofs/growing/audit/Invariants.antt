use Rattle.std.proofs.Common.{◌≡◌, take}
use Rattle.audit_core.proofs.growing.audit.Given as goal

-- the commits so far were taken
abbrev pub invariant-loop-commit : goal.invariant-loop-commit
invariant-loop-commit l = l.audit.commits ≡ take l.commit-index l.commits
