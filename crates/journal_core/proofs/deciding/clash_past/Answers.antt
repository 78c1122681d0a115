use Rattle.std.proofs.Common.{◌≤◌, max, length, ap, ◌∙◌, arith}
use Rattle.std.proofs.Math.Nat.{le-max_left}
use Rattle.rdt_types.specs.Shards.{shard_of}
use Rattle.journal_core.specs.Changes.{changes, of_shard}
use Rattle.journal_core.specs.Pairs.{front_at}
use Rattle.journal_core.proofs.Passing.{none-alike}
use Rattle.journal_core.proofs.ByShard.{ahead-alike, none_past}
use Rattle.journal_core.proofs.deciding.clash_past.Goals as goal

-- no commit is past the base, and so none is past the front
pub returns-then-commits-based-clause-first : goal.returns-then-commits-based-clause-first
returns-then-commits-based-clause-first g c =
    let based = c.args.based.now in
    let log = c.args.log.now in
    let from = max based.base (front_at c.args.fronts.now (shard_of based.address log.shards)) in
    let within : based.base ≤ from = le-max_left based.base _ in
    let reached = c.if-commits-based.true in
    let few = ap (λ l. length l) c.commits.ensures.commits in
    (none-alike based from (changes log.commits) within
    (none_past from 0 log.commits (omega (arith, within, reached, few)) c.commits.ensures.numbered)).first

-- what is ahead is past the base, in the list of the observation's shard
pub returns-clause-first : goal.returns-clause-first
returns-clause-first g c =
    c.first_clash_in.ensures.first
    ∙ (ahead-alike c.args.based.now c.args.fronts.now c.args.log.now.shards c.shard_of-shard.result c.counts_from-from.result _ _ (changes c.args.log.now.commits)
    (c.shard_of-shard.ensures ∙ ap (shard_of c.args.based.now.address) c.shards.ensures.shards) c.counts_from-from.ensures c.in_shard.ensures.changes
    c.past.ensures).first

pub returns-clause-steps : goal.returns-clause-steps
returns-clause-steps g c =
    let alike = ahead-alike c.args.based.now c.args.fronts.now c.args.log.now.shards c.shard_of-shard.result c.counts_from-from.result _ _
    (changes c.args.log.now.commits)
    (c.shard_of-shard.ensures ∙ ap (shard_of c.args.based.now.address) c.shards.ensures.shards) c.counts_from-from.ensures c.in_shard.ensures.changes
    c.past.ensures in
    let met = ap length alike.met in
    let few = c.first_clash_in.ensures.steps in
    omega (arith, met, few)
