use Rattle.std.proofs.Common.{◌≡◌, take, refl, sym, ap, ◌∙◌, subst, arith}
use Rattle.journal_core.specs.Tails.{tail_of}
use Rattle.txn_lang.specs.States.{Journal}
use Rattle.version_shard.specs.Shards.{Sharded, AreKept}
use Rattle.version_shard.specs.Standing.{Holds, IsNext}
use Rattle.version_shard.proofs.Keeping.{kept-after}
use Rattle.version_shard.proofs.Holding.{held-after}
use Rattle.version_shard.proofs.shard.Shard.follow_lent.Goals as goal

pub invariant_of-self : goal.invariant_of-self
invariant_of-self c =
    let inside = c.self.inside in
    let tail = tail_of c.args.tail.now in
    kept-after inside.window tail.from tail.to tail.changes inside.kept c.reach.new.kept
    (subst (λ n. AreKept n inside.kept) (ap (λ (s : Sharded). s.front) c.self.view_is ∙ sym c.requires.from) c.self.invariant)
    c.requires.kinds c.in-Ok.ensures.ok

pub invariant_of-self-in-Err : goal.invariant_of-self-in-Err
invariant_of-self-in-Err c =
    let inside = c.self.inside in
    let tail = tail_of c.args.tail.now in
    kept-after inside.window tail.from c.in-Err.front tail.changes inside.kept c.reach.new.kept
    (subst (λ n. AreKept n inside.kept) (ap (λ (s : Sharded). s.front) c.self.view_is ∙ sym c.requires.from) c.self.invariant)
    c.requires.kinds c.in-Err.ensures.err

pub returns-in-Ok-clause-holds : goal.returns-in-Ok-clause-holds
returns-in-Ok-clause-holds c =
    let inside = c.self.inside in
    let tail = tail_of c.args.tail.now in
    let from : tail.from ≡ inside.front = c.requires.from ∙ sym (ap (λ (s : Sharded). s.front) c.self.view_is) in
    let rises = tail.in_order.rises in
    let old : Sharded = record { number = inside.number; shards = inside.shards; window = inside.window; front = inside.front; kept = inside.kept } in
    let new : Sharded = record old { front = tail.to; kept = c.reach.new.kept } in
    subst (λ (s : Sharded). (journal : Journal) → IsNext journal s tail → Holds (take s.front journal) s → Holds (take tail.to journal) new) c.self.view_is
    (λ journal next holds.
    held-after journal old new tail (record { number = refl; shards = refl; window = refl }) next holds
    (omega (arith, from, rises)) (omega arith) c.in-Ok.ensures.ok)

pub returns-in-Err-clause-holds : goal.returns-in-Err-clause-holds
returns-in-Err-clause-holds c =
    let inside = c.self.inside in
    let tail = tail_of c.args.tail.now in
    let from : tail.from ≡ inside.front = c.requires.from ∙ sym (ap (λ (s : Sharded). s.front) c.self.view_is) in
    let within = c.in-Err.ensures.within in
    let low = within.0 in
    let old : Sharded = record { number = inside.number; shards = inside.shards; window = inside.window; front = inside.front; kept = inside.kept } in
    let new : Sharded = record old { front = c.in-Err.front; kept = c.reach.new.kept } in
    subst (λ (s : Sharded). (journal : Journal) → IsNext journal s tail → Holds (take s.front journal) s
    → Holds (take c.in-Err.front journal) new) c.self.view_is
    (λ journal next holds.
    held-after journal old new tail (record { number = refl; shards = refl; window = refl }) next holds
    (omega (arith, from, low)) within.1 c.in-Err.ensures.err)
