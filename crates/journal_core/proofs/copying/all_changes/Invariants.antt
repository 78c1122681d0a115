use Rattle.std.proofs.Common.{◌≡◌, ◌++◌, drop}
use Rattle.journal_core.specs.Changes.{changes}
use Rattle.journal_core.proofs.copying.all_changes.Given as goal

-- the changes of the commits so far, and those of the rest, are all
abbrev pub invariant-loop-commit : goal.invariant-loop-commit
invariant-loop-commit l = l.all.items ++ changes (drop l.commit-index l.commits) ≡ changes l.fn.commits
