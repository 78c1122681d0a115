use Rattle.std.proofs.Common.{◌≡◌, None, OnOk, OnErr, ap, sym, ◌∙◌, subst}
use Rattle.commit_file.specs.Keepers.{Keeper}
use Rattle.journal_file.specs.Commits.{CommitsFollow}
use Rattle.journal_file.specs.Keepers.{commit_where, commits_where, told_by, doubted_by}
use Rattle.journal_file.proofs.Doubted.{mended-are, mends-safe}
use Rattle.journal_file.proofs.Held.{none-doubted}
use Rattle.journal_file.proofs.keeper.CommitKeeper.mend.Goals.{in-Ok, in-Err}
use Rattle.journal_file.proofs.keeper.CommitKeeper.mend.Goals as goal

pub invariant_of-self : goal.invariant_of-self
invariant_of-self g c =
    mended-are c.mend.result c.self.inside.file c.mend.new.self c.self.invariant c.mend.ensures.ok c.mend.ensures.err c.mend.ensures.kept

pub returns-clause-ok : goal.returns-clause-ok
returns-clause-ok g c = elim c.match-mend.branch [
  | in-Ok w ↦ subst (λ r. OnOk r (doubted_by c.mend.new.self ≡ None)) (sym w.result-is) (none-doubted c.mend.new.self w.in-Ok.ensures.ok)
  | in-Err w ↦ subst (λ r. OnOk r (doubted_by c.mend.new.self ≡ None)) (sym w.result-is) tt
]

pub returns-clause-err : goal.returns-clause-err
returns-clause-err g c = elim c.match-mend.branch [
  | in-Ok w ↦ subst (λ r. OnErr r (doubted_by c.mend.new.self ≡ doubted_by c.args.self.now)) (sym w.result-is) tt
  | in-Err w ↦ subst (λ r. OnErr r (doubted_by c.mend.new.self ≡ doubted_by c.args.self.now)) (sym w.result-is)
      (ap commit_where w.in-Err.ensures.err.2 ∙ ap (λ (k : Keeper). doubted_by k) c.self.view_is)
]

pub returns-clause-kept : goal.returns-clause-kept
returns-clause-kept g c = ap commits_where c.mend.ensures.kept ∙ ap (λ (k : Keeper). told_by k) c.self.view_is

pub returns-clause-any_moment : goal.returns-clause-any_moment
returns-clause-any_moment g c = λ journal keeps.
    mends-safe c.self.inside.file c.args.self.now c.mend.new.self c.self.view_is c.self.invariant journal keeps (c.mend.ensures.any_moment CommitsFollow)
