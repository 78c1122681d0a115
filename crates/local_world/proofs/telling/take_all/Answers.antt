use Rattle.std.proofs.Common.{◌≡◌, ℕ, cond, length, ap, subst, ◌∙◌}
use Rattle.local_world.specs.Stored.{taken_by}
use Rattle.std.specs.Prelude.{◌==◌}
use Rattle.std.specs.List.Sorted.{IsStrictlySortedBy}
use Rattle.std.specs.Map.{keys_of}
use Rattle.rdt_types.specs.Addresses.{address_cmp}
use Rattle.rdt_types.specs.DeltaMaps.{Deltas}
use Rattle.reactive_registry.proofs.Links.{on_err}
use Rattle.local_world.proofs.Registries.{following-same, told-same, taken-same, following-taken, told-taken, taken-taken, fed-by}
use Rattle.local_world.proofs.telling.take_all.Goals as goal

pub take-requires : goal.take-requires
take-requires c = c.follow_all.ensures.following.entered c.args.client c.requires.client

pub returns-in_err-feed-clause-following : goal.returns-in_err-feed-clause-following
returns-in_err-feed-clause-following c =
    following-same c.args.journal.now.commits c.follow_all.new.registry c.take.new.self c.follow_all.ensures.following c.take.ensures.front
    c.in_err-feed.ensures.err

pub returns-in_err-feed-clause-told : goal.returns-in_err-feed-clause-told
returns-in_err-feed-clause-told c client a =
    told-same c.follow_all.new.registry c.take.new.self c.in_err-feed.ensures.err client a ∙ c.follow_all.ensures.told client a

pub returns-in_err-feed-clause-err : goal.returns-in_err-feed-clause-err
returns-in_err-feed-clause-err c =
    on_err c.from_residual-in_err-feed.result ((client : ℕ) → taken_by c.take.new.self client ≡ taken_by c.args.registry.now client)
    (λ client. taken-same c.follow_all.new.registry c.take.new.self c.in_err-feed.ensures.err client ∙ c.follow_all.ensures.taken client)

pub returns-clause-following : goal.returns-clause-following
returns-clause-following c =
    following-taken c.args.journal.now.commits c.follow_all.new.registry c.take.new.self c.args.client c.follow_all.ensures.following
    c.take.ensures.front c.in_ok-feed.ensures.ok

pub returns-clause-told : goal.returns-clause-told
returns-clause-told c client a =
    told-taken c.args.journal.now.commits c.follow_all.new.registry c.take.new.self c.args.client c.follow_all.ensures.following c.take.ensures.front
    c.in_ok-feed.ensures.ok client a
    ∙ c.follow_all.ensures.told client a

pub returns-clause-feed : goal.returns-clause-feed
returns-clause-feed c =
    fed-by c.args.journal.now.commits c.args.registry.now c.follow_all.new.registry c.args.client c.in_ok-feed.feed c.follow_all.ensures.following
    c.in_ok-follow_all.ensures.ok c.follow_all.ensures.told c.follow_all.ensures.taken c.requires.client
    (subst (λ (ds : Deltas). IsStrictlySortedBy address_cmp (keys_of ds)) c.changes.ensures c.as_slice-rising.ensures.rising)
    c.in_ok-feed.ensures.to c.in_ok-feed.ensures.pending

pub returns-clause-taken : goal.returns-clause-taken
returns-clause-taken c = λ client.
    taken-taken c.args.journal.now.commits c.follow_all.new.registry c.take.new.self c.args.client c.follow_all.ensures.following
    c.take.ensures.front c.in_ok-feed.ensures.ok
    c.requires.client c.in_ok-follow_all.ensures.ok client
    ∙ ap (cond (client == c.args.client) (length c.args.journal.now.commits)) (c.follow_all.ensures.taken client)
