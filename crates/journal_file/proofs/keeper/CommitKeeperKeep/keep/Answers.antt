use Rattle.std.proofs.Common.{◌≡◌, Some, None, OnOk, OnErr, subst, sym}
use Rattle.txn_lang.specs.declared.commit.Commit.{Commit}
use Rattle.commit_file.specs.Keepers.{Keeper, IsSpelled, held_of}
use Rattle.journal_core.specs.Keeping.{CanKeep, Keeps, StandsFor}
use Rattle.journal_file.specs.Commits.{CommitsFollow}
use Rattle.journal_file.specs.Keepers.{IsCoded, DoubtsOneOf, told_by, doubted_by}
use Rattle.journal_file.proofs.Doubted.{doubts-one}
use Rattle.journal_file.proofs.Held.{shut-doubted}
use Rattle.journal_file.proofs.Grown.{grown-commits, still-commits, keeps-safe}
use Rattle.journal_file.proofs.keeper.CommitKeeperKeep.keep.Goals.{in-Ok, in-Err}
use Rattle.journal_file.proofs.keeper.CommitKeeperKeep.keep.Goals as goal

pub keep-requires : goal.keep-requires
keep-requires g c = record {
  next = (
    c.requires.1.made.payload,
    subst (λ b. IsSpelled b c.requires.1.made.payload) (sym c.as_slice.ensures) c.requires.1.made.spelled,
  );
}

pub invariant_of-self : goal.invariant_of-self
invariant_of-self g c =
    still-commits c.keep.result c.as_slice.result.now c.self.inside.file c.keep.new.self c.self.invariant
    (subst (λ b. CanKeep IsCoded (told_by c.self.inside.file) b) (sym c.as_slice.ensures)
    (subst (λ (k : Keeper). CanKeep IsCoded (told_by k) c.args.bytes.now) (sym c.self.view_is) c.requires))
    c.keep.ensures.ok c.keep.ensures.err c.keep.ensures.doubt

pub returns-clause-ok : goal.returns-clause-ok
returns-clause-ok g c = elim c.match-keep.branch [
  | in-Ok w ↦ subst (λ r. OnOk r (Keeps IsCoded c.args.bytes.now (told_by c.args.self.now) (told_by c.keep.new.self))) (sym w.result-is)
      (subst (λ b. Keeps IsCoded b (told_by c.args.self.now) (told_by c.keep.new.self)) c.as_slice.ensures
      (subst (λ (k : Keeper). Keeps IsCoded c.as_slice.result.now (told_by k) (told_by c.keep.new.self)) c.self.view_is
      (grown-commits c.as_slice.result.now (held_of c.self.inside.file) (held_of c.keep.new.self) w.in-Ok.ensures.ok.1)))
  | in-Err w ↦ subst (λ r. OnOk r (Keeps IsCoded c.args.bytes.now (told_by c.args.self.now) (told_by c.keep.new.self))) (sym w.result-is) tt
]

pub returns-clause-any_moment : goal.returns-clause-any_moment
returns-clause-any_moment g c = λ journal commit keeps stands.
    let here : StandsFor IsCoded (Some journal) c.as_slice.result.now commit =
    subst (λ b. StandsFor IsCoded (Some journal) b commit) (sym c.as_slice.ensures) stands in
    keeps-safe c.self.inside.file c.args.self.now c.keep.new.self c.self.view_is c.self.invariant journal c.as_slice.result.now commit keeps here
    (c.keep.ensures.any_moment CommitsFollow here.made.payload here.made.spelled)

pub returns-clause-none_doubted : goal.returns-clause-none_doubted
returns-clause-none_doubted g c = elim c.match-keep.branch [
  | in-Ok w ↦ subst (λ r. OnOk r (doubted_by c.keep.new.self ≡ None)) (sym w.result-is) (shut-doubted c.keep.new.self w.in-Ok.ensures.ok.0)
  | in-Err w ↦ subst (λ r. OnOk r (doubted_by c.keep.new.self ≡ None)) (sym w.result-is) tt
]

pub returns-clause-doubt : goal.returns-clause-doubt
returns-clause-doubt g c = elim c.match-keep.branch [
  | in-Ok w ↦ subst (λ r. OnErr r ((commit : Commit) → StandsFor IsCoded (told_by c.args.self.now) c.args.bytes.now commit
      → DoubtsOneOf commit c.args.self.now c.keep.new.self)) (sym w.result-is) tt
  | in-Err w ↦ subst (λ r. OnErr r ((commit : Commit) → StandsFor IsCoded (told_by c.args.self.now) c.args.bytes.now commit
      → DoubtsOneOf commit c.args.self.now c.keep.new.self)) (sym w.result-is) (λ commit stands.
      subst (λ (k : Keeper). DoubtsOneOf commit k c.keep.new.self) c.self.view_is
      (doubts-one c.as_slice.result.now commit c.self.inside.file c.keep.new.self c.self.invariant
      (subst (λ b. StandsFor IsCoded (told_by c.self.inside.file) b commit) (sym c.as_slice.ensures)
      (subst (λ (k : Keeper). StandsFor IsCoded (told_by k) c.args.bytes.now commit) (sym c.self.view_is) stands))
      w.in-Err.ensures.err w.in-Err.ensures.doubt))
]
