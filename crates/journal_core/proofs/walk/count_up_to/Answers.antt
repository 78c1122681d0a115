use Rattle.std.proofs.Common.{List, ◌-◌, nat_le, length, take, drop, sym, subst, rules}
use Rattle.std.proofs.lemmas.List.Sorted.{IsPartitionPoint-from_clause}
use Rattle.change_feed.specs.declared.change.Change.{Change}
use Rattle.journal_core.specs.code.Rising.{Rises}
use Rattle.journal_core.specs.code.Parts.{IsPartedAt}
use Rattle.journal_core.proofs.Rising.{rises-drop, all_behind, partitioned, parted-at, parted-behind}
use Rattle.journal_core.proofs.walk.count_up_to.Goals as goal

-- what is left behind the place near the end is in order, and parted where halving says
pub returns : goal.returns
returns c =
    let number = c.args.number in
    let all = c.args.changes.now in
    let start = c.near_end-start.result in
    let rest = take (length all - start) (drop start all) in
    let i = c.partition_point.result in
    let rises = subst (λ (l : List Change). Rises 0 l) (sym (all_behind all start)) (rises-drop 0 start all c.requires) in
    parted-behind number all start i c.near_end-start.ensures
    (subst (λ (l : List Change). IsPartedAt number l i) (all_behind all start)
    (parted-at number rest i
    (IsPartitionPoint-from_clause (λ change. nat_le change.number number) rest i c.partition_point.ensures.partitioned
    (partitioned number rest rises) (λ a r f h. search rules)) c.partition_point.ensures.bound))
