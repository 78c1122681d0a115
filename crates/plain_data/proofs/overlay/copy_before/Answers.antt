use Rattle.std.proofs.Common.{sym, ap, ◌∙◌, rules}
use Rattle.plain_data.specs.code.Merging.{before, after}
use Rattle.plain_data.proofs.Merging.{before_none, after_none, before_below, before_at, after_above, all_copied, one_copied}
use Rattle.plain_data.proofs.TextMaps.{empty-length}
use Rattle.plain_data.proofs.overlay.copy_before.Goals as goal

pub returns-in-Less-clause-copied : goal.returns-in-Less-clause-copied
returns-in-Less-clause-copied g c =
    all_copied c.args.key.now c.loop-pair.pairs.items c.loop-pair.rest.now _ c.loop-pair.invariant.0
    (ap (before c.args.key.now) c.in-Some.ensures.cases.0 ∙ before_below c.args.key.now c.in-Some.pair.now c.in-Some.behind.now (search rules))

pub returns-in-Equal-clause-copied : goal.returns-in-Equal-clause-copied
returns-in-Equal-clause-copied g c =
    all_copied c.args.key.now c.loop-pair.pairs.items c.loop-pair.rest.now _ c.loop-pair.invariant.0
    (ap (before c.args.key.now) c.in-Some.ensures.cases.0 ∙ before_at c.args.key.now c.in-Some.pair.now c.in-Some.behind.now (search rules))

pub loop-pair-preserved : goal.loop-pair-preserved
loop-pair-preserved g c = (
  one_copied c.args.key.now c.loop-pair.pairs.items c.loop-pair.rest.now _ c.loop-pair.invariant.0 c.in-Some.pair.now c.in-Some.behind.now
      c.push.new.self.items c.in-Some.ensures.cases.0 (search rules) (search rules),
  sym (ap (after c.args.key.now) c.in-Some.ensures.cases.0 ∙ after_above c.args.key.now c.in-Some.pair.now c.in-Some.behind.now (search rules))
      ∙ c.loop-pair.invariant.1,
)

pub returns-clause-copied : goal.returns-clause-copied
returns-clause-copied g c =
    all_copied c.args.key.now c.loop-pair.pairs.items c.loop-pair.rest.now _ c.loop-pair.invariant.0
    (ap (before c.args.key.now) (empty-length _ c.in_default.ensures.cases) ∙ before_none c.args.key.now)

pub returns-clause-rest : goal.returns-clause-rest
returns-clause-rest g c =
    let none = empty-length c.loop-pair.rest.now c.in_default.ensures.cases in
    none ∙ sym (ap (after c.args.key.now) none ∙ after_none c.args.key.now) ∙ c.loop-pair.invariant.1
