-- What a file is kept as, in commits.
use Rattle.std.proofs.Common.{◌≡◌, inl, inr, ℕ, Bool, true, false, List, [], ◌∷◌, Option, Some, None, IfSome, refl, ap, sym, ◌∙◌, subst}
use Rattle.std.proofs.lemmas.List.{take_at}
use Rattle.dio_core.specs.Disks.{DiskState}
use Rattle.dio_core.specs.Moments.{LeavesOnly}
use Rattle.commit_file.specs.Files.{Contents, opened, file, end_of, all_of}
use Rattle.commit_file.specs.Kept.{KeptAs, IsProper, IsBeforeOrAfter}
use Rattle.commit_file.specs.Keepers.{Keeper, Stands, IsHeld, FollowsToo, IsSure, IsSound, kept_by, doubtful_by, held_where, doubt_where}
use Rattle.commit_file.specs.Recovering.{IsAtRest}
use Rattle.commit_file.specs.Standing.{contents_of}
use Rattle.commit_file.specs.Through.{resting}
use Rattle.commit_file.proofs.Frames.{all_of-with}
use Rattle.commit_file.proofs.Standings.{contents_of-opened}
use Rattle.txn_lang.specs.declared.commit.Commit.{Commit}
use Rattle.txn_lang.specs.States.{Journal}
use Rattle.journal_file.specs.Commits.{commit_in, commit_of, commits_of, commits_in, CommitsFollow, IsKeptAs, IsKeptWith}
use Rattle.journal_file.specs.Keepers.{Holds, AreCommits, IsOfCommits, KeepsThese, ReadsAs, LeavesAs, commits_where, commit_where, doubted_by}
use Rattle.journal_file.proofs.Following.{IsProper-of_last, may_stand-commit, read_all-with}

-- ---- images

-- what is kept as payloads is kept as their commits
pub kept-commits : (ps : List (List ℕ)) (journal : Journal) (image : List ℕ) → commits_of ps ≡ Some journal → KeptAs CommitsFollow ps image
    → IsKeptAs journal image
kept-commits ps journal image are kept = ap commits_in kept ∙ are

-- before or after a payload more, it is kept as the commits, or as these and one more
pub before_or_after : (c : Contents) (p : List ℕ) (journal : Journal) (commit : Commit) → commits_of (all_of c) ≡ Some journal
    → commit_of p ≡ Some commit → (image : List ℕ) → IsBeforeOrAfter CommitsFollow c p image → IsKeptWith journal (Some commit) image
before_or_after c p journal commit are is image (inl before) = inl (kept-commits (all_of c) journal image are before)
before_or_after c p journal commit are is image (inr after) =
    inr (ap commits_in after ∙ ap commits_of (sym (all_of-with c p)) ∙ read_all-with commit_in c p journal commit are is)

-- the payload that is doubtful, if one is
abbrev pub doubt : Bool → List ℕ → Option (List ℕ)
doubt false p = None
doubt true p = Some p

-- what is held is kept as the commits, or as these and the doubtful one
pub held-commits : (b : Bool) (c : Contents) (p : List ℕ) (journal : Journal) → commits_of (all_of c) ≡ Some journal
    → FollowsToo CommitsFollow b c p → (image : List ℕ) → IsHeld CommitsFollow b c p image → IsKeptWith journal (commit_where (doubt b p)) image
held-commits false c p journal are follow image held = kept-commits (all_of c) journal image are held
held-commits true c p journal are follow image held =
    let one = may_stand-commit (commits_of (all_of c)) (commit_of p) (IsProper-of_last CommitsFollow c p follow.1) in
    subst (λ o. IsKeptWith journal o image) (sym one.1) (before_or_after c p journal one.0 are one.1 image held)

-- ---- between two calls

-- the doubtful payload, where the disk tells
pub doubt-where : (b : Bool) (end : ℕ) (s : DiskState) → doubt_where b end (Some s) ≡ doubt b (doubtful_by end s)
doubt-where false end s = refl
doubt-where true end s = refl

-- each image, and the file as it reads
pub sure-commits : (b : Bool) (end : ℕ) (state : Option DiskState) (journal : Journal)
    → IfSome state (λ s. AreCommits b (kept_by end s) (doubtful_by end s))
    → IfSome state (λ s. FollowsToo CommitsFollow b (kept_by end s) (doubtful_by end s)
    → LeavesOnly (IsHeld CommitsFollow b (kept_by end s) (doubtful_by end s)) s.durable
    × IsHeld CommitsFollow b (kept_by end s) (doubtful_by end s) s.file)
    → IfSome (commits_where (held_where end state)) (λ list. list ≡ journal)
    → ReadsAs journal (commit_where (doubt_where b end state)) state × LeavesAs journal (commit_where (doubt_where b end state)) state
sure-commits b end None journal are sure keeps = (tt, tt)
sure-commits b end (Some s) journal are sure keeps =
    let c = kept_by end s in
    let p = doubtful_by end s in
    let same : are.0 ≡ journal = subst (λ o. IfSome o (λ list. list ≡ journal)) are.1 keeps in
    let told : commits_of (all_of c) ≡ Some journal = are.1 ∙ ap Some same in
    let both = sure are.2 in
    let P : List ℕ → Type 0 = IsKeptWith journal (commit_where (doubt b p)) in
    let is : (image : List ℕ) → IsHeld CommitsFollow b c p image → P image = held-commits b c p journal told are.2 in
    subst (λ o. ReadsAs journal (commit_where o) (Some s) × LeavesAs journal (commit_where o) (Some s)) (sym (doubt-where b end s))
    (is s.file both.1, λ image left. is image (both.0 image left))

-- the same of a keeper that is seen as another
pub stands-commits : (k n : Keeper) → k ≡ n → IsOfCommits k → IsSure CommitsFollow k → (journal : Journal) → KeepsThese journal n
    → ReadsAs journal (doubted_by n) n.state × LeavesAs journal (doubted_by n) n.state
stands-commits k n same are sure journal keeps =
    subst (λ (j : Keeper). ReadsAs journal (doubted_by j) j.state × LeavesAs journal (doubted_by j) j.state) same
    (sure-commits k.doubtful k.end k.state journal are sure (subst (KeepsThese journal) (sym same) keeps))

-- ---- where a keeper begins

-- contents at rest are those before their end
rest-kept_by : (c : Contents) (s : DiskState) → s ≡ resting (file c) → IsProper CommitsFollow c → kept_by (end_of c) s ≡ c
rest-kept_by c s rests proper =
    ap (λ (t : DiskState). kept_by (end_of c) t) rests ∙ ap contents_of (take_at (opened c) (0 ∷ []) (end_of c) refl)
    ∙ contents_of-opened c proper.short

rest-holds : (ps : List (List ℕ)) (journal : Journal) (end : ℕ) (s : DiskState) → commits_of ps ≡ Some journal → IsAtRest CommitsFollow ps end s
    → Stands false end s → Holds journal end s
rest-holds ps journal end s are rest stands =
    let c = rest.contents in
    let same : kept_by end s ≡ c = ap (λ n. kept_by n s) rest.end_is ∙ rest-kept_by c s rest.rests rest.proper in
    record {
      stands = stands;
      proper = subst (IsProper CommitsFollow) (sym same) rest.proper;
      commits = ap (λ k. commits_of (all_of k)) same ∙ ap commits_of rest.holds ∙ are;
    }

-- what recovery leaves holds the commits
pub at_rest-holds : (ps : List (List ℕ)) (journal : Journal) (end : ℕ) (state : Option DiskState) → commits_of ps ≡ Some journal
    → IfSome state (IsAtRest CommitsFollow ps end) → IfSome state (Stands false end) → IfSome state (Holds journal end)
at_rest-holds ps journal end None are rest stands = tt
at_rest-holds ps journal end (Some s) are rest stands = rest-holds ps journal end s are rest stands

-- and the file was kept as these
pub some-kept : (ps : List (List ℕ)) (journal : Journal) (state : Option DiskState) → commits_of ps ≡ Some journal
    → IfSome state (λ s. KeptAs CommitsFollow ps s.file) → IfSome state (λ s. IsKeptAs journal s.file)
some-kept ps journal None are kept = tt
some-kept ps journal (Some s) are kept = kept-commits ps journal s.file are kept

-- where it holds commits, a keeper is one of commits
pub begins-commits : (b : Bool) (journal : Journal) (end : ℕ) (state : Option DiskState) → b ≡ false → IfSome state (Holds journal end)
    → IfSome state (λ s. AreCommits b (kept_by end s) (doubtful_by end s))
begins-commits b journal end None shut holds = tt
begins-commits b journal end (Some s) shut holds =
    subst (λ k. AreCommits k (kept_by end s) (doubtful_by end s)) (sym shut) (journal, holds.commits, holds.proper)

-- and keeps these
pub begins-keeps : (journal : Journal) (end : ℕ) (state : Option DiskState) → IfSome state (Holds journal end)
    → IfSome (commits_where (held_where end state)) (λ list. list ≡ journal)
begins-keeps journal end None holds = tt
begins-keeps journal end (Some s) holds = subst (λ o. IfSome o (λ list. list ≡ journal)) (sym holds.commits) refl

-- a keeper that begins there
pub new-commits : (k : Keeper) (end : ℕ) (state : Option DiskState) → k.state ≡ state → k.end ≡ end → IsSound k → (journal : Journal)
    → IfSome state (Holds journal end) → IsOfCommits k × KeepsThese journal k
new-commits k end state same_state same_end sound journal holds =
    let here : IfSome k.state (Holds journal k.end) = subst (λ o. IfSome o (Holds journal k.end)) (sym same_state)
    (subst (λ n. IfSome state (Holds journal n)) (sym same_end) holds) in
    (begins-commits k.doubtful journal k.end k.state sound.0 here, begins-keeps journal k.end k.state here)

-- no commit is doubtful where no payload is
pub shut-doubted : (k : Keeper) → k.doubtful ≡ false → doubted_by k ≡ None
shut-doubted k shut = ap (λ b. commit_where (doubt_where b k.end k.state)) shut

pub none-doubted : (k : Keeper) → IsSound k → doubted_by k ≡ None
none-doubted k sound = shut-doubted k sound.0
