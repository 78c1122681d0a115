use Rattle.std.proofs.Common.{sym, subst}
use Rattle.txn_lang.specs.Journals.{IsLegal}
use Rattle.diamond_store.specs.Passes.{Passed}
use Rattle.diamond_store.proofs.Sound.{lawful-sound}
use Rattle.diamond_store.proofs.store.Store.close.Goals as goal

pub returns-clause-legal : goal.returns-clause-legal
returns-clause-legal g c =
    subst (λ (p : Passed). IsLegal p.trusted c.close-keeper.result.1) c.pass.view_is
    (subst (IsLegal g.N.Naming.lock.base) (sym c.close-keeper.ensures.commits)
    (lawful-sound g.N.Naming.lock.base c.close.result.journal.commits c.close.ensures.lawful).legal)
