use Rattle.std.proofs.Common.{sym, ap, ◌∙◌, arith, rules}
use Rattle.std.specs.Ordering.{is_gt}
use Rattle.std.proofs.lemmas.List.Sorted.{IsPartitionPoint-from_clause}
use Rattle.plain_data.proofs.Entries.{get_or-found, greater, partitioned, within-get}
use Rattle.plain_data.proofs.ordered_map.place_of.Goals as goal

pub returns-clause-below : goal.returns-clause-below
returns-clause-below g c j e before here =
    let R = g.K.Ord.cmp in
    let es = c.args.entries.now in
    let k = c.args.key.now in
    let point = IsPartitionPoint-from_clause (λ p. is_gt (R k p.0)) es c.partition_point.result c.partition_point.ensures.partitioned
    (partitioned R g.met.K.Ord.total k es c.requires) (λ a r f h. search rules) in
    greater _ (ap (λ p. is_gt (R k p.0)) (sym (get_or-found es j e e here)) ∙ point.0 j e (omega arith) before)

pub returns-clause-reached : goal.returns-clause-reached
returns-clause-reached g c e here =
    let R = g.K.Ord.cmp in
    let es = c.args.entries.now in
    let k = c.args.key.now in
    let i = c.partition_point.result in
    let point = IsPartitionPoint-from_clause (λ p. is_gt (R k p.0)) es i c.partition_point.ensures.partitioned
    (partitioned R g.met.K.Ord.total k es c.requires) (λ a r f h. search rules) in
    ap (λ p. is_gt (R k p.0)) (sym (get_or-found es i e e here)) ∙ point.1 i e (omega arith) (within-get es i e here)
