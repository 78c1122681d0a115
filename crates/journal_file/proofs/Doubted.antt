-- What is doubtful after a call, and what mending leaves.
use Rattle.std.proofs.Common.{◌≡◌, ◌⊎◌, inl, inr, ℕ, Bool, true, false, List, Option, Some, None, IfSome, Result, Ok, Err, OnOk, OnErr, refl, ap, sym, ◌∙◌, subst}
use Rattle.dio_core.specs.Disks.{Durable, DiskState}
use Rattle.dio_core.specs.Moments.{AtAnyMoment}
use Rattle.commit_file.specs.Files.{all_of}
use Rattle.commit_file.specs.Keepers.{Keeper, IsHeld, IsJournal, IsSound, FollowsToo, MayHold, Throughout, Doubts, kept_by, doubtful_by, held_where, held_of, doubt_where, doubt_of}
use Rattle.commit_file.proofs.Settled.{AtAnyMoment-weaker}
use Rattle.txn_lang.specs.declared.commit.Commit.{Commit}
use Rattle.txn_lang.specs.States.{Journal}
use Rattle.journal_core.specs.Keeping.{IsNext, StandsFor}
use Rattle.journal_file.specs.Commits.{commit_of, commits_of, CommitsFollow, IsKeptWith}
use Rattle.journal_file.specs.Keepers.{IsCoded, AreCommits, IsOfCommits, KeepsThese, MendsSafe, DoubtsOneOf, told_by, commits_where, commit_where}
use Rattle.journal_file.proofs.Grown.{coded-commit, proper-alone}
use Rattle.journal_file.proofs.Held.{held-commits, doubt, doubt-where}

module _ (b then_b : Bool) (end then_end : ℕ) where
  -- ---- the commit that is doubtful

  -- after a commit was not kept
  doubted-one : (bytes : List ℕ) (commit : Commit) (old new : Option DiskState)
      → IfSome old (λ s. AreCommits b (kept_by end s) (doubtful_by end s))
      → (stands : StandsFor IsCoded (commits_where (held_where end old)) bytes commit)
      → held_where then_end new ≡ held_where end old
      → (then_b ≡ true → (doubt_where then_b then_end new ≡ doubt_where b end old)
      ⊎ IfSome new (λ u. doubtful_by then_end u ≡ stands.made.payload))
      → (commit_where (doubt_where then_b then_end new) ≡ None)
      ⊎ ((commit_where (doubt_where then_b then_end new) ≡ commit_where (doubt_where b end old))
      ⊎ (commit_where (doubt_where then_b then_end new) ≡ Some commit))
  doubted-one bytes commit old new are stands same doubts = by then_b doubts
    where
      this : (old new : Option DiskState) → IfSome old (λ s. AreCommits b (kept_by end s) (doubtful_by end s))
          → (stands : StandsFor IsCoded (commits_where (held_where end old)) bytes commit)
          → held_where then_end new ≡ held_where end old → IfSome new (λ u. doubtful_by then_end u ≡ stands.made.payload)
          → (commit_where (doubt_where true then_end new) ≡ None) ⊎ (commit_where (doubt_where true then_end new) ≡ Some commit)
      this old None are stands same is = inl refl
      this None (Some u) are stands same is = absurd (cc same)
      this (Some s) (Some u) are stands same is =
          let next : IsNext are.0 commit = subst (λ o. IfSome o (λ list. IsNext list commit)) are.1 stands.next in
          inr (ap commit_of is ∙ coded-commit are.0 bytes commit stands.made stands.of_run next)

      behind : (commit_where (doubt_where true then_end new) ≡ None) ⊎ (commit_where (doubt_where true then_end new) ≡ Some commit)
          → (commit_where (doubt_where true then_end new) ≡ None)
          ⊎ ((commit_where (doubt_where true then_end new) ≡ commit_where (doubt_where b end old))
          ⊎ (commit_where (doubt_where true then_end new) ≡ Some commit))
      behind (inl none) = inl none
      behind (inr is) = inr (inr is)

      either : (doubt_where true then_end new ≡ doubt_where b end old) ⊎ IfSome new (λ u. doubtful_by then_end u ≡ stands.made.payload)
          → (commit_where (doubt_where true then_end new) ≡ None)
          ⊎ ((commit_where (doubt_where true then_end new) ≡ commit_where (doubt_where b end old))
          ⊎ (commit_where (doubt_where true then_end new) ≡ Some commit))
      either (inl alike) = inr (inl (ap commit_where alike))
      either (inr is) = behind (this old new are stands same is)

      by : (k : Bool) → (k ≡ true → (doubt_where k then_end new ≡ doubt_where b end old)
          ⊎ IfSome new (λ u. doubtful_by then_end u ≡ stands.made.payload))
          → (commit_where (doubt_where k then_end new) ≡ None)
          ⊎ ((commit_where (doubt_where k then_end new) ≡ commit_where (doubt_where b end old))
          ⊎ (commit_where (doubt_where k then_end new) ≡ Some commit))
      by false doubts = inl refl
      by true doubts = either (doubts refl)

  -- ---- mending

  -- the same payload is doubtful, or none
  same-follow : (s u : DiskState) → FollowsToo CommitsFollow b (kept_by end s) (doubtful_by end s)
      → (then_b ≡ true → doubt_where then_b then_end (Some u) ≡ doubt_where b end (Some s))
      → FollowsToo CommitsFollow then_b (kept_by end s) (doubtful_by then_end u)
  same-follow s u follow same = by then_b same
    where
      alike : (k : Bool) → doubt_where true then_end (Some u) ≡ doubt_where k end (Some s) → FollowsToo CommitsFollow k (kept_by end s) (doubtful_by end s)
          → FollowsToo CommitsFollow true (kept_by end s) (doubtful_by then_end u)
      alike false is follow = absurd (cc is)
      alike true is follow = subst (FollowsToo CommitsFollow true (kept_by end s)) (cc is) follow

      by : (k : Bool) → (k ≡ true → doubt_where k then_end (Some u) ≡ doubt_where b end (Some s))
          → FollowsToo CommitsFollow k (kept_by end s) (doubtful_by then_end u)
      by false same = proper-alone b (kept_by end s) (doubtful_by end s) follow
      by true same = alike b (same refl) follow

  -- the contents are as before
  same-are : (old new : Option DiskState) → IfSome old (λ s. AreCommits b (kept_by end s) (doubtful_by end s))
      → held_where then_end new ≡ held_where end old → (then_b ≡ true → doubt_where then_b then_end new ≡ doubt_where b end old)
      → IfSome new (λ u. AreCommits then_b (kept_by then_end u) (doubtful_by then_end u))
  same-are old None are same alike = tt
  same-are None (Some u) are same alike = absurd (cc same)
  same-are (Some s) (Some u) are same alike =
      let is : kept_by then_end u ≡ kept_by end s = cc same in
      subst (λ k. AreCommits then_b k (doubtful_by then_end u)) (sym is) (are.0, are.1, same-follow s u are.2 alike)

-- a keeper that was mended, or was not
pub mended-are : {A E : Type 0} (r : Result A E) (k n : Keeper) → IsOfCommits k → OnOk r (IsSound n)
    → OnErr r ((n.doubtful ≡ k.doubtful) × (n.unsound ≡ k.unsound) × (doubt_of n ≡ doubt_of k)) → held_of n ≡ held_of k → IsOfCommits n
mended-are (Ok x) k n are sound failed same =
    same-are k.doubtful n.doubtful k.end n.end k.state n.state are same (λ yes. absurd (cc (sym yes ∙ sound.0)))
mended-are (Err e) k n are sound failed same =
    same-are k.doubtful n.doubtful k.end n.end k.state n.state are same (λ yes. failed.2)

-- what is doubtful after a fault
pub doubts-one : (bytes : List ℕ) (commit : Commit) (k n : Keeper) → IsOfCommits k → StandsFor IsCoded (told_by k) bytes commit
    → held_of n ≡ held_of k → Doubts bytes k n → DoubtsOneOf commit k n
doubts-one bytes commit k n are stands same doubts =
    doubted-one k.doubtful n.doubtful k.end n.end bytes commit k.state n.state are stands same
    (doubts stands.made.payload stands.made.spelled)

-- each moment of mending
mend-commits : (b : Bool) (end : ℕ) (old new : Option DiskState) (past past_then : List Durable) (journal : Journal)
    → IfSome old (λ s. AreCommits b (kept_by end s) (doubtful_by end s))
    → IfSome (commits_where (held_where end old)) (λ list. list ≡ journal)
    → IfSome old (λ s. FollowsToo CommitsFollow b (kept_by end s) (doubtful_by end s)
    → AtAnyMoment (IsHeld CommitsFollow b (kept_by end s) (doubtful_by end s)) past past_then new)
    → IfSome old (λ s. AtAnyMoment (IsKeptWith journal (commit_where (doubt_where b end old))) past past_then new)
mend-commits b end None new past past_then journal are keeps safe = tt
mend-commits b end (Some s) new past past_then journal are keeps safe =
    let c = kept_by end s in
    let d = doubtful_by end s in
    let same : are.0 ≡ journal = subst (λ o. IfSome o (λ list. list ≡ journal)) are.1 keeps in
    let told : commits_of (all_of c) ≡ Some journal = are.1 ∙ ap Some same in
    subst (λ o. AtAnyMoment (IsKeptWith journal (commit_where o)) past past_then new) (sym (doubt-where b end s))
    (AtAnyMoment-weaker (IsHeld CommitsFollow b c d) (IsKeptWith journal (commit_where (doubt b d))) past past_then new
    (held-commits b c d journal told are.2) (safe are.2))

pub mends-safe : (k l n : Keeper) → k ≡ l → IsOfCommits k → (journal : Journal) → KeepsThese journal l
    → Throughout (IsJournal CommitsFollow k) (MayHold CommitsFollow k) k n → IfSome l.state (λ s. MendsSafe journal l n)
mends-safe k l n same are journal keeps safe =
    subst (λ (j : Keeper). IfSome j.state (λ s. MendsSafe journal j n)) same
    (mend-commits k.doubtful k.end k.state n.state k.past n.past journal are (subst (KeepsThese journal) (sym same) keeps) safe)
