use Rattle.std.proofs.Common.{◌≡◌, Some, None, sym, ap, ◌∙◌, subst}
use Rattle.std.proofs.lemmas.Result.{err_from_is_err_and}
use Rattle.version_shard.specs.Shards.{Sharded}
use Rattle.version_shard.specs.code.Clashing.{Hit, IsClash, least_hit}
use Rattle.version_shard.proofs.Clashes.{IfHit, hits-clash}
use Rattle.version_shard.proofs.Validated.{timely-by, no-pair, some-pair, names-least, few-steps}
use Rattle.version_shard.proofs.shard.Shard.validate.Goals as goal

pub witness_of-requires : goal.witness_of-requires
witness_of-requires g c =
    subst (λ o. IfHit IsClash o) (sym c.in-Some-least_hit.ensures.least)
    (hits-clash c.self.inside.front c.self.inside.kept c.args.based.now c.self.invariant c.requires.kinds)

pub returns-in_ok-witness_of-in-Some-least_hit-clause-answers : goal.returns-in_ok-witness_of-in-Some-least_hit-clause-answers
returns-in_ok-witness_of-in-Some-least_hit-clause-answers g c journal holds =
    let shard = c.args.self.now in
    let based = c.args.based.now in
    let timely = timely-by shard based c.horizon-horizon.result c.horizon-horizon.ensures c.in_default.ensures in
    let hit : Hit = (c.in-Some-least_hit.hit.based.now, c.in-Some-least_hit.hit.version.now) in
    let found : least_hit shard.kept based ≡ Some hit =
    sym (c.in-Some-least_hit.ensures.least ∙ ap (λ (s : Sharded). least_hit s.kept based) c.self.view_is) in (
      timely,
      names-least journal shard holds based c.requires.here timely hit c.in_ok-witness_of-in-Some-least_hit.field-0 found
          c.in_ok-witness_of-in-Some-least_hit.ensures,
    )

pub returns-in_err-witness_of-in-Some-least_hit-clause-answers : goal.returns-in_err-witness_of-in-Some-least_hit-clause-answers
returns-in_err-witness_of-in-Some-least_hit-clause-answers g c journal holds =
    let shard = c.args.self.now in
    let based = c.args.based.now in
    let timely = timely-by shard based c.horizon-horizon.result c.horizon-horizon.ensures c.in_default.ensures in
    let hit : Hit = (c.in-Some-least_hit.hit.based.now, c.in-Some-least_hit.hit.version.now) in
    let found : least_hit shard.kept based ≡ Some hit =
    sym (c.in-Some-least_hit.ensures.least ∙ ap (λ (s : Sharded). least_hit s.kept based) c.self.view_is) in
    let p = err_from_is_err_and c.from_residual.result c.from_residual.ensures.1 in
    rw (p.1, p.2) (timely, some-pair journal shard holds based c.requires.here timely hit found)

pub returns-in-None-clause-answers : goal.returns-in-None-clause-answers
returns-in-None-clause-answers g c journal holds =
    let shard = c.args.self.now in
    let based = c.args.based.now in
    let timely = timely-by shard based c.horizon-horizon.result c.horizon-horizon.ensures c.in_default.ensures in
    let none : least_hit shard.kept based ≡ None = sym (c.in-None.ensures.least ∙ ap (λ (s : Sharded). least_hit s.kept based) c.self.view_is) in
    (timely, no-pair journal shard holds based c.requires.here timely none, ap (λ (s : Sharded). record { shard = s.number; front = s.front }) c.self.view_is)

pub returns-in_ok-witness_of-in-Some-least_hit-clause-steps : goal.returns-in_ok-witness_of-in-Some-least_hit-clause-steps
returns-in_ok-witness_of-in-Some-least_hit-clause-steps g c journal holds =
    few-steps journal c.args.self.now holds c.args.based.now c.requires.here
    (timely-by c.args.self.now c.args.based.now c.horizon-horizon.result c.horizon-horizon.ensures c.in_default.ensures)
    c.self.inside.kept _ _ (ap (λ (s : Sharded). s.kept) c.self.view_is) c.least_hit.ensures.steps

pub returns-in_err-witness_of-in-Some-least_hit-clause-steps : goal.returns-in_err-witness_of-in-Some-least_hit-clause-steps
returns-in_err-witness_of-in-Some-least_hit-clause-steps g c journal holds =
    few-steps journal c.args.self.now holds c.args.based.now c.requires.here
    (timely-by c.args.self.now c.args.based.now c.horizon-horizon.result c.horizon-horizon.ensures c.in_default.ensures)
    c.self.inside.kept _ _ (ap (λ (s : Sharded). s.kept) c.self.view_is) c.least_hit.ensures.steps

pub returns-in-None-clause-steps : goal.returns-in-None-clause-steps
returns-in-None-clause-steps g c journal holds =
    few-steps journal c.args.self.now holds c.args.based.now c.requires.here
    (timely-by c.args.self.now c.args.based.now c.horizon-horizon.result c.horizon-horizon.ensures c.in_default.ensures)
    c.self.inside.kept _ _ (ap (λ (s : Sharded). s.kept) c.self.view_is) c.least_hit.ensures.steps
