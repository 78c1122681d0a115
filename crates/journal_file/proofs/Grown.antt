-- A commit is kept behind others.
use Rattle.std.proofs.Common.{◌≡◌, ◌⊎◌, inl, inr, ℕ, ◌^◌, ◌<◌, Bool, true, false, cond, List, [], ◌∷◌, ◌++◌, length, Option, Some, None, IfSome, Result, Ok, Err, OnOk, OnErr, refl, ap, sym, ◌∙◌, subst, arith}
use Rattle.std.proofs.lemmas.Bool.{lt-ltb}
use Rattle.dio_core.specs.Disks.{Durable, DiskState}
use Rattle.dio_core.specs.Moments.{LeavesOnly, AtAnyMoment}
use Rattle.commit_file.specs.declared.version.Version.TheVariants.{Two}
use Rattle.commit_file.specs.Files.{Contents, all_of, with_payload}
use Rattle.commit_file.specs.Kept.{IsProper, IsBeforeOrAfter}
use Rattle.commit_file.specs.Keepers.{Keeper, IsHeld, IsSpelled, FollowsToo, RunsInTurn, Doubts, Keeps as PayloadKeeps, KeepsSafe as PayloadsSafe, grown, kept_by, doubtful_by, held_where, held_of, doubt_where}
use Rattle.commit_file.proofs.Runs.{all-weaker}
use Rattle.commit_file.proofs.Settled.{AtAnyMoment-weaker}
use Rattle.txn_lang.specs.declared.commit.Commit.{Commit}
use Rattle.txn_lang.specs.States.{Journal}
use Rattle.journal_core.specs.declared.limits.TheConstants.{FIRST_UNTOLD_CLIENT}
use Rattle.journal_core.specs.Keeping.{IsNext, IsOfRun, StandsFor, CanKeep, Keeps, kept_after}
use Rattle.journal_file.specs.Commits.{commit_in, commit_of, commits_of, CommitsFollow, IsKeptWith}
use Rattle.journal_file.specs.Keepers.{IsCoded, AreCommits, IsOfCommits, KeepsThese, KeepsSafe, told_by, commits_where, commit_where}
use Rattle.journal_file.proofs.Following.{IsProper-last, next-passes, follows-next, read_all-with, read_all-nothing}
use Rattle.journal_file.proofs.Held.{before_or_after, held-commits, doubt, doubt-where}
use Rattle.journal_file.proofs.Recorded.{run-keepable}

-- ---- the payload of a commit that may be kept

-- it is read as the commit
pub coded-commit : (journal : Journal) (bytes : List ℕ) (commit : Commit) (coded : IsCoded bytes commit) → IsOfRun commit → IsNext journal commit
    → commit_of coded.payload ≡ Some commit
coded-commit journal bytes commit coded run next =
    coded.again (run-keepable commit run coded.client (omega (arith, next.number)) (omega (arith, next.seq)))

-- and contents are proper with it
pub coded-proper : (c : Contents) (journal : Journal) (p : List ℕ) (commit : Commit) → commits_of (all_of c) ≡ Some journal
    → commit_of p ≡ Some commit → IsNext journal commit → length p < 2 ^ 32 → IsProper CommitsFollow c
    → IsProper CommitsFollow (with_payload c p)
coded-proper c journal p commit are is next short proper =
    IsProper-last CommitsFollow c p proper (follows-next commit_in (all_of c) Two p journal commit are is ∙ next-passes journal commit next) short

-- without the doubtful payload
pub proper-alone : (b : Bool) (c : Contents) (p : List ℕ) → FollowsToo CommitsFollow b c p → IsProper CommitsFollow c
proper-alone false c p follow = follow
proper-alone true c p follow = follow.0

-- ---- what is kept then

-- where the others stand for commits, they do with one more
kept-told : (c : Contents) (bytes : List ℕ) (commit : Commit) (coded : IsCoded bytes commit) → IsOfRun commit
    → (o : Option Journal) → commits_of (all_of c) ≡ o → IfSome o (λ list. IsNext list commit)
    → commits_of (all_of (with_payload c coded.payload)) ≡ kept_after o commit
kept-told c bytes commit coded run None is next = read_all-nothing commit_in c coded.payload is
kept-told c bytes commit coded run (Some journal) is next =
    read_all-with commit_in c coded.payload journal commit is (coded-commit journal bytes commit coded run next)
    ∙ ap (λ b. cond b (Some (journal ++ commit ∷ [])) None) (sym (lt-ltb commit.client FIRST_UNTOLD_CLIENT coded.client))

-- the list goes up by each commit that the bytes stand for
pub grown-commits : (bytes : List ℕ) (old new : Option Contents) → ((p : List ℕ) → IsSpelled bytes p → new ≡ grown old p)
    → Keeps IsCoded bytes (commits_where old) (commits_where new)
grown-commits bytes None new grows commit stands = ap commits_where (grows stands.made.payload stands.made.spelled)
grown-commits bytes (Some c) new grows commit stands =
    ap commits_where (grows stands.made.payload stands.made.spelled)
    ∙ kept-told c bytes commit stands.made stands.of_run (commits_of (all_of c)) refl stands.next

-- ---- the keeper is one of commits still

module _ (b then_b : Bool) (end then_end : ℕ) (bytes : List ℕ) (commit : Commit) where
  -- with the commit
  are-with : (s u : DiskState) → (are : AreCommits b (kept_by end s) (doubtful_by end s))
      → (stands : StandsFor IsCoded (commits_of (all_of (kept_by end s))) bytes commit) → then_b ≡ false
      → kept_by then_end u ≡ with_payload (kept_by end s) stands.made.payload
      → AreCommits then_b (kept_by then_end u) (doubtful_by then_end u)
  are-with s u are stands shut is =
      let c = kept_by end s in
      let p = stands.made.payload in
      let next : IsNext are.0 commit = subst (λ o. IfSome o (λ list. IsNext list commit)) are.1 stands.next in
      let one : commit_of p ≡ Some commit = coded-commit are.0 bytes commit stands.made stands.of_run next in
      subst (λ k. AreCommits then_b k (doubtful_by then_end u)) (sym is)
      (subst (λ k. AreCommits k (with_payload c p) (doubtful_by then_end u)) (sym shut) (
        are.0 ++ commit ∷ [],
        read_all-with commit_in c p are.0 commit are.1 one,
        coded-proper c are.0 p commit are.1 one next stands.made.spelled.short (proper-alone b c (doubtful_by end s) are.2),
      ))

  pub kept-are : (old new : Option DiskState) → IfSome old (λ s. AreCommits b (kept_by end s) (doubtful_by end s))
      → (stands : StandsFor IsCoded (commits_where (held_where end old)) bytes commit) → then_b ≡ false
      → held_where then_end new ≡ grown (held_where end old) stands.made.payload
      → IfSome new (λ u. AreCommits then_b (kept_by then_end u) (doubtful_by then_end u))
  kept-are old None are stands shut same = tt
  kept-are None (Some u) are stands shut same = absurd (cc same)
  kept-are (Some s) (Some u) are stands shut same = are-with s u are stands shut (cc same)

  -- or without it, and then it may be doubtful
  are-without : (s u : DiskState) → (are : AreCommits b (kept_by end s) (doubtful_by end s))
      → (stands : StandsFor IsCoded (commits_of (all_of (kept_by end s))) bytes commit)
      → (then_b ≡ true → (doubt_where then_b then_end (Some u) ≡ doubt_where b end (Some s)) ⊎ (doubtful_by then_end u ≡ stands.made.payload))
      → AreCommits then_b (kept_by end s) (doubtful_by then_end u)
  are-without s u are stands doubts = (are.0, are.1, by then_b doubts)
    where
      same_as : (k : Bool) → doubt_where true then_end (Some u) ≡ doubt_where k end (Some s) → FollowsToo CommitsFollow k (kept_by end s) (doubtful_by end s)
          → FollowsToo CommitsFollow true (kept_by end s) (doubtful_by then_end u)
      same_as false same follow = absurd (cc same)
      same_as true same follow = subst (FollowsToo CommitsFollow true (kept_by end s)) (cc same) follow

      with_this : doubtful_by then_end u ≡ stands.made.payload → FollowsToo CommitsFollow true (kept_by end s) (doubtful_by then_end u)
      with_this is =
          let c = kept_by end s in
          let p = stands.made.payload in
          let next : IsNext are.0 commit = subst (λ o. IfSome o (λ list. IsNext list commit)) are.1 stands.next in
          let proper = proper-alone b c (doubtful_by end s) are.2 in
          subst (FollowsToo CommitsFollow true c) (sym is) (
            proper,
            coded-proper c are.0 p commit are.1 (coded-commit are.0 bytes commit stands.made stands.of_run next) next
                stands.made.spelled.short proper,
          )

      either : (doubt_where true then_end (Some u) ≡ doubt_where b end (Some s)) ⊎ (doubtful_by then_end u ≡ stands.made.payload)
          → FollowsToo CommitsFollow true (kept_by end s) (doubtful_by then_end u)
      either (inl same) = same_as b same are.2
      either (inr is) = with_this is

      by : (k : Bool) → (k ≡ true → (doubt_where k then_end (Some u) ≡ doubt_where b end (Some s)) ⊎ (doubtful_by then_end u ≡ stands.made.payload))
          → FollowsToo CommitsFollow k (kept_by end s) (doubtful_by then_end u)
      by false doubts = proper-alone b (kept_by end s) (doubtful_by end s) are.2
      by true doubts = either (doubts refl)

  pub refused-are : (old new : Option DiskState) → IfSome old (λ s. AreCommits b (kept_by end s) (doubtful_by end s))
      → (stands : StandsFor IsCoded (commits_where (held_where end old)) bytes commit)
      → held_where then_end new ≡ held_where end old
      → (then_b ≡ true → (doubt_where then_b then_end new ≡ doubt_where b end old) ⊎ IfSome new (λ u. doubtful_by then_end u ≡ stands.made.payload))
      → IfSome new (λ u. AreCommits then_b (kept_by then_end u) (doubtful_by then_end u))
  refused-are old None are stands same doubts = tt
  refused-are None (Some u) are stands same doubts = absurd (cc same)
  refused-are (Some s) (Some u) are stands same doubts =
      let is : kept_by then_end u ≡ kept_by end s = cc same in
      subst (λ k. AreCommits then_b k (doubtful_by then_end u)) (sym is) (are-without s u are stands doubts)

-- the same of keepers, by the answer
pub still-commits : {A E : Type 0} (r : Result A E) (bytes : List ℕ) (k n : Keeper) → IsOfCommits k → CanKeep IsCoded (told_by k) bytes
    → OnOk r (PayloadKeeps bytes k n) → OnErr r (held_of n ≡ held_of k) → OnErr r (Doubts bytes k n) → IsOfCommits n
still-commits (Ok x) bytes k n are can ok same doubts =
    kept-are k.doubtful n.doubtful k.end n.end bytes can.0 k.state n.state are can.1 ok.0 (ok.1 can.1.made.payload can.1.made.spelled)
still-commits (Err e) bytes k n are can ok same doubts =
    refused-are k.doubtful n.doubtful k.end n.end bytes can.0 k.state n.state are can.1 same (doubts can.1.made.payload can.1.made.spelled)

-- ---- each moment of it

-- runs whose images have more
pub RunsInTurn-weaker : (P Q R S : List ℕ → Type 0) (a b : List Durable) (state : Option DiskState) → ((image : List ℕ) → P image → R image)
    → ((image : List ℕ) → Q image → S image) → RunsInTurn P Q a b state → RunsInTurn R S a b state
RunsInTurn-weaker P Q R S a b state first second runs = record {
  first = runs.first;
  each = all-weaker (LeavesOnly P) (LeavesOnly R) runs.first (λ d safe image left. first image (safe image left)) runs.each;
  second = AtAnyMoment-weaker Q S (a ++ runs.first) b state second runs.second;
}

-- one run, or two in turn
pub safe-weaker : (P Q R S : List ℕ → Type 0) (a b : List Durable) (state : Option DiskState) → ((image : List ℕ) → P image → R image)
    → ((image : List ℕ) → Q image → S image) → AtAnyMoment P a b state ⊎ RunsInTurn P Q a b state
    → AtAnyMoment R a b state ⊎ RunsInTurn R S a b state
safe-weaker P Q R S a b state first second (inl at) = inl (AtAnyMoment-weaker P R a b state first at)
safe-weaker P Q R S a b state first second (inr runs) = inr (RunsInTurn-weaker P Q R S a b state first second runs)

pub safe-commits : (b : Bool) (end : ℕ) (old new : Option DiskState) (past past_then : List Durable) (journal : Journal) (bytes : List ℕ)
    (commit : Commit) → IfSome old (λ s. AreCommits b (kept_by end s) (doubtful_by end s))
    → IfSome (commits_where (held_where end old)) (λ list. list ≡ journal)
    → (stands : StandsFor IsCoded (Some journal) bytes commit)
    → IfSome old (λ s. FollowsToo CommitsFollow b (kept_by end s) (doubtful_by end s)
    × (IsProper CommitsFollow (kept_by end s) × IsProper CommitsFollow (with_payload (kept_by end s) stands.made.payload))
    → AtAnyMoment (IsHeld CommitsFollow b (kept_by end s) (doubtful_by end s)) past past_then new
    ⊎ RunsInTurn (IsHeld CommitsFollow b (kept_by end s) (doubtful_by end s))
    (IsBeforeOrAfter CommitsFollow (kept_by end s) stands.made.payload) past past_then new)
    → IfSome old (λ s. AtAnyMoment (IsKeptWith journal (commit_where (doubt_where b end old))) past past_then new
    ⊎ RunsInTurn (IsKeptWith journal (commit_where (doubt_where b end old))) (IsKeptWith journal (Some commit)) past past_then new)
safe-commits b end None new past past_then journal bytes commit are keeps stands safe = tt
safe-commits b end (Some s) new past past_then journal bytes commit are keeps stands safe =
    let c = kept_by end s in
    let d = doubtful_by end s in
    let p = stands.made.payload in
    let same : are.0 ≡ journal = subst (λ o. IfSome o (λ list. list ≡ journal)) are.1 keeps in
    let told : commits_of (all_of c) ≡ Some journal = are.1 ∙ ap Some same in
    let proper = proper-alone b c d are.2 in
    let one : commit_of p ≡ Some commit = coded-commit journal bytes commit stands.made stands.of_run stands.next in
    let R : List ℕ → Type 0 = IsKeptWith journal (commit_where (doubt b d)) in
    let S : List ℕ → Type 0 = IsKeptWith journal (Some commit) in
    subst (λ o. AtAnyMoment (IsKeptWith journal (commit_where o)) past past_then new
    ⊎ RunsInTurn (IsKeptWith journal (commit_where o)) S past past_then new) (sym (doubt-where b end s))
    (safe-weaker (IsHeld CommitsFollow b c d) (IsBeforeOrAfter CommitsFollow c p) R S past past_then new
    (held-commits b c d journal told are.2) (before_or_after c p journal commit told one)
    (safe (are.2, (proper, coded-proper c journal p commit told one stands.next stands.made.spelled.short proper))))

-- the same of a keeper that is seen as another
pub keeps-safe : (k l n : Keeper) → k ≡ l → IsOfCommits k → (journal : Journal) (bytes : List ℕ) (commit : Commit) → KeepsThese journal l
    → (stands : StandsFor IsCoded (Some journal) bytes commit) → PayloadsSafe CommitsFollow stands.made.payload k n
    → IfSome l.state (λ s. KeepsSafe journal commit l n)
keeps-safe k l n same are journal bytes commit keeps stands safe =
    subst (λ (j : Keeper). IfSome j.state (λ s. KeepsSafe journal commit j n)) same
    (safe-commits k.doubtful k.end k.state n.state k.past n.past journal bytes commit are
    (subst (KeepsThese journal) (sym same) keeps) stands safe)
