use Rattle.std.proofs.Common.{ap, ◌∙◌}
use Rattle.journal_core.specs.Changes.{changes}
use Rattle.journal_core.proofs.ByShard.{changes-between}
use Rattle.journal_core.proofs.tails.changes_between.Goals as goal

pub returns-clause-changes : goal.returns-clause-changes
returns-clause-changes c =
    c.from_vec.ensures ∙ c.in_ok-changes.ensures ∙ ap changes c.commits_between.ensures.commits
    ∙ changes-between c.args.from c.args.to c.args.log.now.commits c.commits_between.ensures.numbered
