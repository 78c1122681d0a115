use Rattle.std.proofs.Common.{◌≡◌, length, ◌∙◌}
use Rattle.std.proofs.lemmas.Result.{on_ok_weaker}
use Rattle.docc_prepare.proofs.Growing.{legal_is_orderly}
use Rattle.local_world.proofs.Registries.{all-from, following-after, told-after, taken-after}
use Rattle.local_world.proofs.telling.follow_all.Goals as goal

pub returns-clause-following : goal.returns-clause-following
returns-clause-following c =
    let journal = c.args.journal.now.commits in
    let old = c.args.registry.now in
    following-after journal old c.follow.new.self c.follow.result c.in_ok-tail.tail (legal_is_orderly journal c.requires.legal).numbered c.requires.following
    (all-from journal c.in_ok-tail.tail c.front.result old.front c.length.result (length journal) c.front.ensures c.length.ensures c.in_ok-tail.ensures)
    c.follow.ensures.front c.follow.ensures.ok c.follow.ensures.as_before c.follow.ensures.err

pub returns-clause-told : goal.returns-clause-told
returns-clause-told c = told-after c.follow.result c.args.registry.now c.follow.new.self c.in_ok-tail.tail.changes c.follow.ensures.ok c.follow.ensures.err

pub returns-clause-taken : goal.returns-clause-taken
returns-clause-taken c = taken-after c.follow.result c.args.registry.now c.follow.new.self c.in_ok-tail.tail.changes c.follow.ensures.ok c.follow.ensures.err

pub returns-clause-ok : goal.returns-clause-ok
returns-clause-ok c =
    on_ok_weaker c.follow.result
    (λ (e : c.follow.new.self.front ≡ c.in_ok-tail.tail.to). e ∙ c.in_ok-tail.ensures.ends ∙ c.length.ensures)
    c.follow.ensures.front
