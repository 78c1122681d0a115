use Rattle.journal_core.specs.Changes.{changes}
use Rattle.journal_core.proofs.Rising.{all-are-tail, changes-rise}
use Rattle.journal_core.proofs.tails.tail_of_all.Goals as goal

pub as_tail-requires : goal.as_tail-requires
as_tail-requires c =
    let commits = c.args.log.now.commits in
    rw c.in_ok-changes.ensures.changes (all-are-tail c.args.from c.args.to (changes commits) c.requires.order
    (changes-rise 0 commits c.changes_between.ensures.numbered))
