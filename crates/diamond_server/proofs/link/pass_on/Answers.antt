use Rattle.std.proofs.Common.{◌≡◌, true, false}
use Rattle.diamond_server.proofs.Held.{passes-said}
use Rattle.diamond_server.proofs.link.pass_on.Goals as goal

-- what was held back was written and passed on, or some first bytes of it were
pub returns-clause-passes : goal.returns-clause-passes
returns-clause-passes g c =
    passes-said c.say-said.result _ _ _ _ c.as_slice.ensures c.say-said.ensures.taken c.say-said.ensures.part c.say-said.ensures.passed
    c.say-said.ensures.writes (λ none. let no : false ≡ true = c.if-is_empty.ensures.1 none in absurd (cc no))
