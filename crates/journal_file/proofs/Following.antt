-- Payloads that follow one another, and the commits that they stand for.
use Rattle.std.proofs.Common.{◌≡◌, ℕ, ◌+◌, ◌^◌, ◌<◌, ◌&&◌, Bool, true, false, List, [], ◌∷◌, ◌++◌, length, Option, Some, None, refl, ap, sym, ◌∙◌, append_assoc, arith, nat_eq}
use Rattle.std.proofs.lemmas.List.{append-nil}
use Rattle.std.proofs.lemmas.Bool.{false≢true}
use Rattle.std.proofs.lemmas.Bool.Decides.{nat_tests}
use Rattle.commit_file.specs.declared.version.Version.{Version}
use Rattle.commit_file.specs.declared.version.Version.TheVariants.{Two}
use Rattle.commit_file.specs.Files.{Contents, all_of, with_payload}
use Rattle.commit_file.specs.Files.Contents.{Current, Marked}
use Rattle.commit_file.specs.Kept.{Meaning, Follow, IsProper}
use Rattle.commit_file.proofs.Frames.{Follow-last, IsShort-last, all_of-with}
use Rattle.txn_lang.specs.declared.commit.Commit.{Commit}
use Rattle.txn_lang.specs.States.{Journal}
use Rattle.txn_lang.specs.Journals.{own}
use Rattle.journal_core.specs.Keeping.{IsNext}
use Rattle.journal_file.specs.Commits.{Coding, in_front, is_next, may_stand, read_all, FollowBy}

-- ---- one payload more

-- the last of some that follow does
Follow-of_last : (m : Meaning) (v : Version) (before ps : List (List ℕ)) (p : List ℕ) → Follow m v before (ps ++ p ∷ [])
    → m v (before ++ ps) p ≡ true
Follow-of_last m v before [] p follow = ap (λ l. m v l p) (append-nil before) ∙ follow.0
Follow-of_last m v before (x ∷ ps) p follow =
    ap (λ l. m v l p) (sym (append_assoc before (x ∷ []) ps)) ∙ Follow-of_last m v (before ++ x ∷ []) ps p follow.1

-- contents are proper with a payload that follows them
pub IsProper-last : (m : Meaning) (c : Contents) (p : List ℕ) → IsProper m c → m Two (all_of c) p ≡ true → length p < 2 ^ 32
    → IsProper m (with_payload c p)
IsProper-last m (Current ps) p proper next short = record {
  follow = Follow-last m Two [] ps p proper.follow next;
  short = IsShort-last (Current ps) p proper.short short;
}
IsProper-last m (Marked old ps) p proper next short = record {
  follow = (proper.follow.0, Follow-last m Two old ps p proper.follow.1 next);
  short = IsShort-last (Marked old ps) p proper.short short;
}

-- and where they are proper with it, it follows them
pub IsProper-of_last : (m : Meaning) (c : Contents) (p : List ℕ) → IsProper m (with_payload c p) → m Two (all_of c) p ≡ true
IsProper-of_last m (Current ps) p proper = Follow-of_last m Two [] ps p proper.follow
IsProper-of_last m (Marked old ps) p proper = Follow-of_last m Two old ps p proper.follow.1

-- ---- what is read

-- a commit behind others, where they are all there
abbrev pub behind : Option Journal → Option Commit → Option Journal
behind None last = None
behind (Some commits) None = None
behind (Some commits) (Some commit) = Some (commits ++ commit ∷ [])

in_front-behind : (first : Option Commit) (rest : Option Journal) (last : Option Commit)
    → in_front first (behind rest last) ≡ behind (in_front first rest) last
in_front-behind None rest last = refl
in_front-behind (Some commit) None last = refl
in_front-behind (Some commit) (Some rest) None = refl
in_front-behind (Some commit) (Some rest) (Some last) = refl

-- what may stand behind payloads that are read is a commit
pub may_stand-commit : (before : Option Journal) (o : Option Commit) → may_stand before o ≡ true → (commit : Commit) × (o ≡ Some commit)
may_stand-commit None o is = absurd (false≢true is)
may_stand-commit (Some before) None is = absurd (false≢true is)
may_stand-commit (Some before) (Some commit) is = (commit, refl)

module _ (coding : Coding) where
  -- one payload more stands for one commit more
  pub read_all-last : (ps : List (List ℕ)) (p : List ℕ) → read_all coding (ps ++ p ∷ []) ≡ behind (read_all coding ps) (coding Two p)
  read_all-last [] p = one (coding Two p)
    where
      one : (o : Option Commit) → in_front o (Some []) ≡ behind (Some []) o
      one None = refl
      one (Some commit) = refl
  read_all-last (x ∷ ps) p =
      ap (in_front (coding Two x)) (read_all-last ps p) ∙ in_front-behind (coding Two x) (read_all coding ps) (coding Two p)

  -- so do contents with it
  pub read_all-with : (c : Contents) (p : List ℕ) (journal : Journal) (commit : Commit) → read_all coding (all_of c) ≡ Some journal
      → coding Two p ≡ Some commit → read_all coding (all_of (with_payload c p)) ≡ Some (journal ++ commit ∷ [])
  read_all-with c p journal commit read is =
      ap (read_all coding) (all_of-with c p) ∙ read_all-last (all_of c) p ∙ ap (λ o. behind o (coding Two p)) read
      ∙ ap (behind (Some journal)) is

  -- and where the others stand for none, they stand for none with it
  pub read_all-nothing : (c : Contents) (p : List ℕ) → read_all coding (all_of c) ≡ None → read_all coding (all_of (with_payload c p)) ≡ None
  read_all-nothing c p read =
      ap (read_all coding) (all_of-with c p) ∙ read_all-last (all_of c) p ∙ ap (λ o. behind o (coding Two p)) read

  -- a payload follows where its commit may
  pub follows-next : (ps : List (List ℕ)) (v : Version) (p : List ℕ) (journal : Journal) (commit : Commit)
      → read_all coding ps ≡ Some journal → coding v p ≡ Some commit → FollowBy coding v ps p ≡ is_next journal commit
  follows-next ps v p journal commit read is = ap (λ o. may_stand o (coding v p)) read ∙ ap (may_stand (Some journal)) is

  -- and not where it stands for none
  pub follows-none : (ps : List (List ℕ)) (v : Version) (p : List ℕ) (journal : Journal) → read_all coding ps ≡ Some journal
      → coding v p ≡ None → FollowBy coding v ps p ≡ false
  follows-none ps v p journal read is = ap (λ o. may_stand o (coding v p)) read ∙ ap (may_stand (Some journal)) is

-- ---- the test of what is next

both : (a b : Bool) → a ≡ true → b ≡ true → (a && b) ≡ true
both a b first second = ap (λ x. x && b) first ∙ second

first_of_both : (a b : Bool) → (a && b) ≡ true → a ≡ true
first_of_both true b is = refl
first_of_both false b is = absurd (false≢true is)

second_of_both : (a b : Bool) → (a && b) ≡ true → b ≡ true
second_of_both true b is = is
second_of_both false b is = absurd (false≢true is)

same-eq : (m n : ℕ) → m ≡ n → nat_eq m n ≡ true
same-eq m n is = grind (arith, nat_tests)

eq-same : (m n : ℕ) → nat_eq m n ≡ true → m ≡ n
eq-same m n is = grind (arith, nat_tests)

-- what is next passes
pub next-passes : (before : Journal) (commit : Commit) → IsNext before commit → is_next before commit ≡ true
next-passes before commit next =
    both (nat_eq commit.number (length before + 1)) (nat_eq commit.seq (length (own commit.client before) + 1))
    (same-eq commit.number (length before + 1) next.number) (same-eq commit.seq (length (own commit.client before) + 1) next.seq)

-- and what passes is next
pub passes-next : (before : Journal) (commit : Commit) → is_next before commit ≡ true → IsNext before commit
passes-next before commit is =
    let number = nat_eq commit.number (length before + 1) in
    let seq = nat_eq commit.seq (length (own commit.client before) + 1) in
    record {
      number = eq-same commit.number (length before + 1) (first_of_both number seq is);
      seq = eq-same commit.seq (length (own commit.client before) + 1) (second_of_both number seq is);
    }
