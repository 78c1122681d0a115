use Rattle.std.proofs.Common.{refl, ap, ◌∙◌, sym}
use Rattle.dio_core.specs.Links.{Outgoing, outgoing}
use Rattle.diamond_server.proofs.Held.{settled-kept, settled-passed}
use Rattle.diamond_server.proofs.link.settle.Goals.{then-holds, else-holds}
use Rattle.diamond_server.proofs.link.settle.Goals as goal

-- what was held back stays so, or was passed on
pub returns-then-pass_on-clause-settles : goal.returns-then-pass_on-clause-settles
returns-then-pass_on-clause-settles g c =
    let told : g.row.K.Denot → Outgoing = λ k. outgoing (g.K.Sink.taken k) (g.K.Sink.passed k) (g.K.Sink.write_faults k) in
    elim c.if-holds.branch [
      | then-holds w ↦ settled-kept c.args.outcome c.args.outcome (told c.args.link.now) (told c.if-holds.link) c.args.held.now c.if-holds.held refl
          (ap told w.link-is) w.held-is
      | else-holds w ↦ settled-passed w.pass_on.result c.args.outcome c.args.outcome (told c.args.link.now) (told w.pass_on.new.link)
          (told c.if-holds.link) c.args.held.now c.if-holds.held refl (ap told w.link-is) (w.held-is ∙ w.pass_on.ensures.none)
          (sym w.value-is ∙ c.if-pass_on.true) w.pass_on.ensures.passes
    ]
