use Rattle.std.proofs.Common.{◌≡◌, ◌<◌, ℕ, ◌+◌, length, drop, get_or, Some, false, List, Err, sym, subst, ◌∙◌}
use Rattle.std.proofs.lemmas.Result.{err_from_is_err_and}
use Rattle.rdt_types.specs.Shards.{shard_of}
use Rattle.txn_lang.specs.declared.run.Seen.{Seen}
use Rattle.journal_core.specs.declared.ready.PreparedFront.{PreparedFront}
use Rattle.docc_prepare.specs.Attempts.{based, has_front}
use Rattle.remote_service.specs.Anew.{front_in, and_front, fronts_on, fronts_for}
use Rattle.remote_service.specs.code.Finds.{Finds}
use Rattle.remote_service.proofs.Found.{shard_got, fronts_next, fronts_lack}
use Rattle.remote_service.proofs.anew.fronts_for.Goals as goal

-- a shard has none
pub returns-in_err-front : goal.returns-in_err-front
returns-in_err-front c =
    let a = c.args.attempt.now in
    let seen = c.args.run.now.observations in
    let z = c.seen-item.result in
    let none : has_front c.loop-seen.fronts (shard_of z.address a.shards) ≡ false
    = subst (λ (xs : List PreparedFront). has_front xs (shard_of z.address a.shards) ≡ false) c.as_slice.ensures
    (subst (λ (n : ℕ). has_front c.as_slice.result.now n ≡ false) c.shard_of-shard.ensures (sym c.if-has_front.ensures)) in
    let p = err_from_is_err_and c.from_residual.result c.from_residual.ensures.1 in
    rw (p.1, p.2) (fronts_lack c.args.kept.now a.shards (based a.snaps seen) seen c.loop-seen.seen-index z c.loop-seen.fronts _ c.in_err-front.field-0.0
    c.loop-seen.invariant
    (subst (λ (xs : List Seen). c.loop-seen.seen-index < length xs) c.as_slice-seen-items.ensures c.loop-seen-test.true)
    (subst (λ (xs : List Seen). z ≡ get_or xs c.loop-seen.seen-index z) c.as_slice-seen-items.ensures c.seen-item.is) none
    (subst (λ (n : ℕ). Finds (λ (m : ℕ). m) (Err c.in_err-front.field-0.0) (front_in c.args.kept.now a.shards (based a.snaps seen) n)) c.shard_of-shard.ensures
    c.in_err-front.ensures))

-- one more has its front
pub loop-seen-preserved : goal.loop-seen-preserved
loop-seen-preserved c =
    let a = c.args.attempt.now in
    let seen = c.args.run.now.observations in
    let z = c.seen-item.result in
    let shard = shard_of z.address a.shards in
    let none : has_front c.loop-seen.fronts shard ≡ false
    = subst (λ (xs : List PreparedFront). has_front xs shard ≡ false) c.as_slice.ensures
    (subst (λ (n : ℕ). has_front c.as_slice.result.now n ≡ false) c.shard_of-shard.ensures (sym c.if-has_front.ensures)) in
    let more : c.push.new.self ≡ and_front c.loop-seen.fronts shard c.in_ok-front.front
    = subst (λ (n : ℕ). c.push.new.self ≡ and_front c.loop-seen.fronts n c.in_ok-front.front) c.shard_of-shard.ensures c.in_ok-push.ensures.ok in
    subst (λ (xs : List PreparedFront). fronts_for c.args.kept.now a.shards a.snaps seen
    ≡ fronts_on c.args.kept.now a.shards (based a.snaps seen) (drop (c.loop-seen.seen-index + 1) seen) xs) (sym more)
    (c.loop-seen.invariant ∙ fronts_next c.args.kept.now a.shards (based a.snaps seen) seen c.loop-seen.seen-index z c.loop-seen.fronts
    (and_front c.loop-seen.fronts shard c.in_ok-front.front)
    (subst (λ (xs : List Seen). c.loop-seen.seen-index < length xs) c.as_slice-seen-items.ensures c.loop-seen-test.true)
    (subst (λ (xs : List Seen). z ≡ get_or xs c.loop-seen.seen-index z) c.as_slice-seen-items.ensures c.seen-item.is)
    (shard_got c.args.kept.now a.shards (based a.snaps seen) shard c.loop-seen.fronts (Some c.in_ok-front.front) none
    (subst (λ (n : ℕ). front_in c.args.kept.now a.shards (based a.snaps seen) n ≡ Some c.in_ok-front.front) c.shard_of-shard.ensures c.in_ok-front.ensures)))
