use Rattle.std.proofs.Common.{ap, ◌∙◌}
use Rattle.journal_core.specs.Changes.{changes, between}
use Rattle.journal_core.proofs.ByShard.{between-in_shard}
use Rattle.journal_core.proofs.tails.between_in_shard.Goals as goal

pub returns-clause-changes : goal.returns-clause-changes
returns-clause-changes c =
    let log = c.args.log.now in
    c.between.ensures ∙ ap (between c.args.from c.args.to) c.in_shard.ensures.changes
    ∙ between-in_shard c.args.from c.args.to log.shards c.args.shard (changes log.commits)
