use Rattle.std.proofs.Common.{◌≤◌, length, subst, arith}
use Rattle.plain_data.specs.Histories.{IsLawful}
use Rattle.txn_lang.specs.Journals.{IsLegal}
use Rattle.diamond_store.specs.Following.{Follows}
use Rattle.diamond_store.specs.Passes.{Passed}
use Rattle.diamond_store.proofs.Sound.{lawful-sound}
use Rattle.diamond_store.proofs.pass.Pass.seen.Goals as goal

pub returns-clause-legal : goal.returns-clause-legal
returns-clause-legal g c =
    subst (λ (p : Passed). IsLegal p.trusted p.journal) c.self.view_is
    (lawful-sound g.N.Naming.lock.base c.self.inside.front.seen c.count-known.ensures.lawful).legal

pub returns-clause-kept : goal.returns-clause-kept
returns-clause-kept g c =
    let is = c.self.invariant in
    let kept = is.kept in
    let taken = is.taken in
    let within = is.within in
    subst (λ (p : Passed). p.trusted ≤ length p.journal) c.self.view_is (omega arith)

pub returns-clause-lawful : goal.returns-clause-lawful
returns-clause-lawful g c = subst (λ (p : Passed). IsLawful Follows p.trusted p.journal) c.self.view_is c.count-known.ensures.lawful
