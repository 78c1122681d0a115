use Rattle.std.proofs.Common.{ℕ, sym, ap, ◌∙◌, subst, arith}
use Rattle.std.specs.Prelude.{Option}
use Rattle.dio_core.specs.Disks.{DiskState}
use Rattle.diamond_store.specs.Books.{IsAtMostRise}
use Rattle.journal_file.specs.Keepers.{doubted_by, ReadsAs, LeavesAs}
use Rattle.diamond_cli.proofs.Recovered.{later-served, holds-journal}
use Rattle.diamond_cli.proofs.file.serve_recovered.Goals as goal

-- the keeper goes on behind the recovered commits
pub new-keeper-requires-clause-holds : goal.new-keeper-requires-clause-holds
new-keeper-requires-clause-holds g c = (c.args.recovered.commits, c.requires.holds)

-- and keeps them
pub serve_kept-requires-clause-told : goal.serve_kept-requires-clause-told
serve_kept-requires-clause-told g c ks h = c.new-keeper.ensures.keeps c.args.recovered.commits c.requires.holds

-- one call more may have failed since the store was closed
pub returns-clause-served : goal.returns-clause-served
returns-clause-served g c =
    let told = c.in_ok-served.ensures in
    let back = c.disk-2-1.given.1 (sym (c.release-disk.ensures.same_reference ∙ c.mend-mended.ensures.home ∙ told.home ∙ c.new-keeper.ensures.home)) in
    later-served _ _ _ _ _ _ _ _ _ _ _ _ _ _ c.new-keeper.ensures.faults c.mend-mended.ensures.counted
    (sym c.release-disk.ensures.faults ∙ sym (ap g.D.Disk.disk_faults back)) told.served

-- the disk is the one that was lent, and so its file holds what the keeper kept
pub returns-clause-holds : goal.returns-clause-holds
returns-clause-holds g c =
    let served = c.in_ok-served.served in
    let told = c.in_ok-served.ensures in
    let end = c.release-disk.ensures in
    let keeper = c.mend-mended.new.self in
    let back = c.disk-2-1.given.1 (sym (end.same_reference ∙ c.mend-mended.ensures.home ∙ told.home ∙ c.new-keeper.ensures.home)) in
    holds-journal served.commits (g.D.Disk.disk_faults c.args.disk.now) told.served.pass.denials served.keeper keeper c.mend-mended.result _ _
    c.mend-mended.ensures.ok c.mend-mended.ensures.counted c.mend-mended.ensures.kept told.kept (omega arith)
    (subst (λ (n : ℕ). IsAtMostRise n told.served.pass.denials served.keeper.faults) c.new-keeper.ensures.faults told.served.denied)
    (sym end.faults ∙ sym (ap g.D.Disk.disk_faults back))
    (sym end.state ∙ sym (ap g.D.Disk.state back))
    (λ keeps. subst (λ (state : Option DiskState). ReadsAs served.commits (doubted_by keeper) state) (sym (ap g.D.Disk.state back))
    (end.reads served.commits keeps))
    (λ keeps. subst (λ (state : Option DiskState). LeavesAs served.commits (doubted_by keeper) state) (sym (ap g.D.Disk.state back))
    (end.leaves served.commits keeps))
