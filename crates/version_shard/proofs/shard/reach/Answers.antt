use Rattle.std.proofs.Common.{arith, ap, ◌-◌, ◌∙◌}
use Rattle.journal_core.specs.Tails.{tail_of}
use Rattle.version_shard.specs.Shards.{versions_of}
use Rattle.version_shard.specs.code.Following.{cut_along}
use Rattle.version_shard.proofs.Keeping.{reaches-whole, reaches-part}
use Rattle.version_shard.proofs.shard.reach.Goals as goal

pub overflow_sub-front : goal.overflow_sub-front
overflow_sub-front c = let p = c.in-Err.ensures.err.past in omega (arith, p)

pub returns-in-Ok-clause-ok : goal.returns-in-Ok-clause-ok
returns-in-Ok-clause-ok c =
    reaches-whole c.args.window (tail_of c.args.tail.now) c.args.kept.now c.requires c.follow_each.new.kept c.in-Ok.ensures.ok

pub returns-in-Err-clause-within : goal.returns-in-Err-clause-within
returns-in-Err-clause-within c =
    let p = c.in-Err.ensures.err.past in
    let w = c.in-Err.ensures.err.within in
    (omega (arith, p), omega (arith, p, w))

pub returns-in-Err-clause-err : goal.returns-in-Err-clause-err
returns-in-Err-clause-err c =
    reaches-part c.args.window (tail_of c.args.tail.now) c.args.kept.now c.requires c.in-Err.number c.follow_each.new.kept c.cut_each.new.kept
    c.in-Err.ensures.err
    (λ a. c.cut_each.ensures a
    ∙ ap (λ l. cut_along (c.in-Err.number - 1) a l (versions_of c.follow_each.new.kept a)) c.pieces-pieces.ensures)
