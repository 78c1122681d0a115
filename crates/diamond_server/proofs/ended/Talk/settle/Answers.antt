use Rattle.std.proofs.Common.{◌∙◌, ap, sym, subst, Ok}
use Rattle.history_lock.specs.Tokens.{longer}
use Rattle.diamond_store.specs.Passes.{Passed}
use Rattle.diamond_server.specs.Accounts.{IsTold}
use Rattle.diamond_server.specs.code.Settling.{IsNearTalk}
use Rattle.diamond_server.proofs.Settled.{told-met}
use Rattle.diamond_server.proofs.ended.Talk.settle.Goals as goal

-- by the meeting of the client's own pass
pub returns-clause-told : goal.returns-clause-told
returns-clause-told g c x y status told =
    let near = c.requires.near in
    rw (← c.self.view_is) (told-met g.S.Serves.promised c.stays_promised.ensures x y status (c.self.inside.had.value, c.self.inside.pass) c.args.pass.now c.meet.new.pass
    (subst (λ (s : Passed × Passed). IsTold g.S.Serves.promised (λ p. p) x y status (Ok s)) (sym c.self.view_is) told)
    (subst (λ (s : Passed × Passed). IsNearTalk c.args.pass.now (Ok s)) (sym c.self.view_is) near) c.meet.ensures.learns
    (c.meet.ensures.meets.journal ∙ ap (longer c.self.inside.pass.journal) c.split-token.ensures.token.0))
