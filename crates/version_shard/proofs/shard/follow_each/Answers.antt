use Rattle.std.proofs.Common.{◌≡◌, ℕ, ◌+◌, ◌-◌, ◌++◌, arith, drop, length, sym, ap, ◌∙◌, subst}
use Rattle.std.proofs.Math.ListN.{drop_of_length-le}
use Rattle.change_feed.specs.Lists.{listed}
use Rattle.journal_core.specs.Tails.{tail_of}
use Rattle.version_shard.specs.Shards.{Kept, versions_of}
use Rattle.version_shard.specs.code.Following.{followed}
use Rattle.version_shard.specs.code.Marks.{changed_by}
use Rattle.version_shard.proofs.Keeping.{up_to-next, stops, at_err, at_ok, put_one}
use Rattle.version_shard.proofs.Pieces.{AreLeft, all-left, pieces-left, none-left, next-in, next-at, next-within, next-versions, one-less}
use Rattle.version_shard.proofs.shard.follow_each.Goals as goal

-- the horizon before a commit
before : (number window : ℕ) → number - (window + 1) ≡ (number - 1) - window
before number window = omega arith

pub loop-piece-init : goal.loop-piece-init
loop-piece-init c =
    let all = c.args.tail.now.changes.now in
    subst (λ l. AreLeft c.args.window all l c.args.kept.now c.args.kept.now) (sym c.pieces-rest.ensures) (all-left c.args.window all c.args.kept.now)

pub loop-change-init : goal.loop-change-init
loop-change-init c =
    pieces-left c.args.window c.args.tail.now.changes.now (listed c.loop-piece.rest) c.args.kept.now c.loop-piece.kept c.loop-piece.invariant
    c.in-Some.piece.now (listed c.next_piece.new.self) c.in-Some.ensures.piece

pub follow-requires : goal.follow-requires
follow-requires c =
    let tail = tail_of c.args.tail.now in
    let next = c.change-item.result in
    let i = c.loop-change.change-index in
    let piece = c.in-Some.piece.now in
    let rest = listed c.next_piece.new.self in
    let left = drop i piece ++ rest in
    let old = c.args.kept.now in
    let now = c.loop-change.kept in
    let are = c.loop-change.invariant in
    let split = next-in piece rest i next c.change-item.is c.loop-change-test.true in
    up_to-next c.args.window tail old c.requires now (length are.done) next next.address
    (next-at c.args.window tail.changes left old now are next (drop (i + 1) piece ++ rest) split)
    (next-within c.args.window tail.changes left old now are next (drop (i + 1) piece ++ rest) split)
    (next-versions c.args.window tail.changes left old now are next (drop (i + 1) piece ++ rest) split next.address)

pub returns-then-is_err-clause-err : goal.returns-then-is_err-clause-err
returns-then-is_err-clause-err c =
    let tail = tail_of c.args.tail.now in
    let next = c.change-item.result in
    let i = c.loop-change.change-index in
    let piece = c.in-Some.piece.now in
    let rest = listed c.next_piece.new.self in
    let left = drop i piece ++ rest in
    let old = c.args.kept.now in
    let now = c.loop-change.kept in
    let are = c.loop-change.invariant in
    let split = next-in piece rest i next c.change-item.is c.loop-change-test.true in
    stops c.args.window tail old c.requires c.follow.new.self (length are.done) next
    (next-at c.args.window tail.changes left old now are next (drop (i + 1) piece ++ rest) split)
    (next-within c.args.window tail.changes left old now are next (drop (i + 1) piece ++ rest) split)
    (λ a. ap (λ (k : Kept). versions_of k a) (at_err c.follow.result _ (sym c.is_err.ensures.value ∙ c.if-is_err.true) c.follow.ensures.err)
    ∙ next-versions c.args.window tail.changes left old now are next (drop (i + 1) piece ++ rest) split a)

pub loop-change-preserved : goal.loop-change-preserved
loop-change-preserved c =
    let tail = tail_of c.args.tail.now in
    let next = c.change-item.result in
    let i = c.loop-change.change-index in
    let piece = c.in-Some.piece.now in
    let rest = listed c.next_piece.new.self in
    let split = next-in piece rest i next c.change-item.is c.loop-change-test.true in
    let now = c.loop-change.kept in
    one-less c.args.window tail.changes (drop i piece ++ rest) c.args.kept.now now c.loop-change.invariant next
    (drop (i + 1) piece ++ rest) split c.follow.new.self
    (put_one now c.follow.new.self next.address (followed c.args.window next) (changed_by next c.saturating_sub-horizon.result (versions_of now next.address))
    (at_ok c.follow.result _ (sym c.is_err.ensures.value ∙ c.if-is_err.false) c.follow.ensures.ok)
    (ap (λ h. changed_by next h (versions_of now next.address)) (c.saturating_sub-horizon.ensures ∙ before next.number c.args.window)))

pub loop-piece-preserved : goal.loop-piece-preserved
loop-piece-preserved c =
    subst (λ l. AreLeft c.args.window c.args.tail.now.changes.now (l ++ listed c.next_piece.new.self) c.args.kept.now c.loop-change.kept)
    (drop_of_length-le c.in-Some.piece.now c.loop-change-test.false) c.loop-change.invariant

pub returns-clause-ok : goal.returns-clause-ok
returns-clause-ok c =
    none-left c.args.window c.args.tail.now.changes.now (listed c.loop-piece.rest) c.args.kept.now c.loop-piece.kept c.loop-piece.invariant
    c.in_default.ensures.piece
