use Rattle.std.specs.BTreeMap.{is_at}
use Rattle.rdt_types.specs.Addresses.{address_cmp}
use Rattle.journal_core.specs.Changes.{changes}
use Rattle.journal_core.proofs.Rising.{some-are-tail, changes-rise}
use Rattle.journal_core.proofs.tails.tail_of_address.Goals as goal

pub as_tail-requires : goal.as_tail-requires
as_tail-requires c =
    let commits = c.args.log.now.commits in
    rw c.in_ok-changes.ensures.changes
    (some-are-tail (λ change. is_at (address_cmp c.args.address.now) change.address) c.args.from c.args.to (changes commits) c.requires
    (changes-rise 0 commits c.between_at.ensures.numbered))
