-- What a file is kept as: the commits that its payloads stand for.
use Rattle.std.specs.Prelude.{◌≡◌, ℕ, ◌+◌, ◌&&◌, ◌⊎◌, Bool, false, nat_eq, List, [], ◌∷◌, ◌++◌, length, Option, Some, None, refl}
use Rattle.std.specs.Result.{result_ok}
use Rattle.rdt_types.specs.declared.outcome.Outcome.TheVariants as outcome
use Rattle.commit_file.specs.declared.version.Version.{Version}
use Rattle.commit_file.specs.declared.version.Version.TheVariants.{Two}
use Rattle.commit_file.specs.Files.{file}
use Rattle.commit_file.specs.Files.Contents.{Current, Marked}
use Rattle.commit_file.specs.Kept.{Meaning, Reading, kept}
use Rattle.commit_file.specs.Kept.Reading.{Journal as Payloads, NotJournal}
use Rattle.txn_lang.specs.declared.commit.Commit.{Commit}
use Rattle.txn_lang.specs.States.{Journal}
use Rattle.txn_lang.specs.Journals.{own}
use Rattle.record_code.specs.Payloads.{decoded}

-- ---- which payloads may stand behind one another

-- how payloads of each version are read: as a commit, or not at all
abbrev pub Coding : Type 0
Coding = Version → List ℕ → Option Commit

-- a commit before others, where they are all there
abbrev pub in_front : Option Commit → Option Journal → Option Journal
in_front None rest = None
in_front (Some commit) None = None
in_front (Some commit) (Some rest) = Some (commit ∷ rest)

-- whether the commit has the next number, and the next seq of its client
abbrev pub is_next : Journal → Commit → Bool
is_next before commit =
    nat_eq commit.number (length before + 1) && nat_eq commit.seq (length (own commit.client before) + 1)

-- whether what is read so may stand behind what is read so
abbrev pub may_stand : Option Journal → Option Commit → Bool
may_stand None commit = false
may_stand (Some before) None = false
may_stand (Some before) (Some commit) = is_next before commit

module _ (coding : Coding) where
  -- the commits that payloads stand for, where each stands for one
  abbrev pub read_all : List (List ℕ) → Option Journal
  read_all [] = Some []
  read_all (p ∷ ps) = in_front (coding Two p) (read_all ps)

  -- A payload of a version may stand behind these where it stands for a commit that may stand behind theirs.
  abbrev pub FollowBy : Meaning
  FollowBy version before p = may_stand (read_all before) (coding version p)

-- ---- commits

-- the commit that a payload of a version stands for, if it stands for one
abbrev pub commit_in : Coding
commit_in version p = result_ok (decoded version p)

-- What is read in version 1 is read so in version 2 as well: so this is the commit of a payload of either.
abbrev pub commit_of : List ℕ → Option Commit
commit_of p = commit_in Two p

-- the commits of payloads
abbrev pub commits_of : List (List ℕ) → Option Journal
commits_of ps = read_all commit_in ps

-- A payload of a version may stand behind these: it decodes in its version, and it has the next number and the next seq
-- of its client.
abbrev pub CommitsFollow : Meaning
CommitsFollow = FollowBy commit_in

-- the commits of what was read
abbrev pub commits_in : Reading → Option Journal
commits_in (Payloads ps) = commits_of ps
commits_in (NotJournal at) = None

-- a file of these bytes is kept as these commits
abbrev pub IsKeptAs : Journal → List ℕ → Type 0
IsKeptAs journal bytes = commits_in (kept CommitsFollow bytes) ≡ Some journal

-- it is none of a journal, from this byte on
abbrev pub IsNotJournal : ℕ → List ℕ → Type 0
IsNotJournal at bytes = kept CommitsFollow bytes ≡ NotJournal at

-- it is kept as these commits, or, where one is doubtful, as these and that one
abbrev pub IsKeptWith : Journal → Option Commit → List ℕ → Type 0
IsKeptWith journal None bytes = IsKeptAs journal bytes
IsKeptWith journal (Some commit) bytes = IsKeptAs journal bytes ⊎ IsKeptAs (journal ++ commit ∷ []) bytes

-- ---- worked lines

-- the file as it is made holds none
IsKeptAs-example : IsKeptAs [] (file (Current []))
IsKeptAs-example = refl

-- a file of another program is none of a journal from its first byte on
IsNotJournal-example : IsNotJournal 0 (35 ∷ 33 ∷ 32 ∷ 32 ∷ 32 ∷ 32 ∷ 32 ∷ 32 ∷ 32 ∷ 32 ∷ 32 ∷ 32 ∷ 32 ∷ 32 ∷ [])
IsNotJournal-example = refl

-- in these lines a payload is a number, a client and a seq
abbrev pub plain : Coding
plain version (number ∷ client ∷ seq ∷ []) =
    Some (record { number = number; client = client; seq = seq; body = []; outcome = outcome.Ok []; deltas = [] })
plain version _ = None

-- two clients, of which each begins with seq 1
kept-example : kept (FollowBy plain) (file (Current ((1 ∷ 7 ∷ 1 ∷ []) ∷ (2 ∷ 9 ∷ 1 ∷ []) ∷ (3 ∷ 7 ∷ 2 ∷ []) ∷ [])))
    ≡ Payloads ((1 ∷ 7 ∷ 1 ∷ []) ∷ (2 ∷ 9 ∷ 1 ∷ []) ∷ (3 ∷ 7 ∷ 2 ∷ []) ∷ [])
kept-example = refl

-- what stands before a mark counts behind it
kept-marked_example : kept (FollowBy plain) (file (Marked ((1 ∷ 7 ∷ 1 ∷ []) ∷ []) ((2 ∷ 7 ∷ 2 ∷ []) ∷ [])))
    ≡ Payloads ((1 ∷ 7 ∷ 1 ∷ []) ∷ (2 ∷ 7 ∷ 2 ∷ []) ∷ [])
kept-marked_example = refl

-- the second has a seq that its client had, or a number past the next, or is no commit
kept-seq_example : kept (FollowBy plain) (file (Current ((1 ∷ 7 ∷ 1 ∷ []) ∷ (2 ∷ 7 ∷ 1 ∷ []) ∷ []))) ≡ NotJournal 20
kept-seq_example = refl

kept-number_example : kept (FollowBy plain) (file (Current ((1 ∷ 7 ∷ 1 ∷ []) ∷ (3 ∷ 7 ∷ 2 ∷ []) ∷ []))) ≡ NotJournal 20
kept-number_example = refl

kept-no_commit_example : kept (FollowBy plain) (file (Current ((1 ∷ 7 ∷ 1 ∷ []) ∷ (2 ∷ []) ∷ []))) ≡ NotJournal 20
kept-no_commit_example = refl
