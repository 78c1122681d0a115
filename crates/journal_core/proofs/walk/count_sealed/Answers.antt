use Rattle.std.proofs.Common.{List, ◌-◌, length, take, drop, sym, subst, rules}
use Rattle.std.proofs.lemmas.List.Sorted.{IsPartitionPoint-from_clause}
use Rattle.change_feed.specs.declared.change.Change.{Change}
use Rattle.journal_core.specs.code.Segments.{EndExactlyBefore, EndInOrder, ends_by}
use Rattle.journal_core.proofs.Rising.{all_behind}
use Rattle.journal_core.proofs.Segmented.{in_order-drop, ends-joined}
use Rattle.journal_core.proofs.walk.count_sealed.Goals as goal

-- what is left behind the place near the end is parted where halving says
pub returns : goal.returns
returns c =
    let number = c.args.number in
    let all = c.args.sealed.now in
    let start = c.near_end_sealed-start.result in
    let rest = take (length all - start) (drop start all) in
    let i = c.partition_point.result in
    let ordered = subst (λ (l : List (List Change)). EndInOrder number l) (sym (all_behind all start)) (in_order-drop number start all c.requires) in
    ends-joined number all start i c.near_end_sealed-start.ensures
    (subst (λ (l : List (List Change)). EndExactlyBefore number l i) (all_behind all start)
    (record {
      within = c.partition_point.ensures.bound;
      point = IsPartitionPoint-from_clause (ends_by number) rest i c.partition_point.ensures.partitioned ordered (λ a r f h. search rules);
    }))
