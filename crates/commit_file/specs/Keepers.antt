-- A keeper, and how its file stands.
use Rattle.std.specs.Prelude.{◌≡◌, ◌⊎◌, ℕ, ◌+◌, ◌<◌, ◌^◌, Bool, true, false, List, [], ◌∷◌, ◌++◌, length, take, drop}
use Rattle.std.specs.Prelude.{Option, Some, None, IfSome, Result, Ok, Err, refl}
use Rattle.std.specs.List.{AllByRecursion}
use Rattle.std.specs.Coded.{Coded, code_by, coded×, coded_ℕ, coded_bool, coded_list, coded_option}
use Rattle.dio_core.specs.Disks.{Durable, DiskState, settled, Syncs}
use Rattle.dio_core.specs.Moments.{LeavesOnly, AtAnyMoment}
use Rattle.commit_file.specs.declared.keeper.Trouble.{Trouble}
use Rattle.commit_file.specs.declared.keeper.Trouble.TheVariants as trouble
use Rattle.commit_file.specs.Files.{Contents, body, all_of, with_payload, end_of, IsShort}
use Rattle.commit_file.specs.Kept.{Meaning, payload_behind, IsProper, IsBeforeOrAfter, KeptAs}
use Rattle.commit_file.specs.Standing.{contents_of, IsClosed, IsDoubtful}
use Rattle.commit_file.specs.Tapes.{durable_code, state_code}
use Rattle.commit_file.specs.Through.{write_moments, WritesThrough}

-- A keeper, as contracts see it.
pub record Keeper : Type 0 where
  pub state : Option DiskState  -- of its disk, if that tells
  pub past : List Durable
  pub faults : ℕ
  pub home : ℕ  -- where its disk is lent from
  pub end : ℕ  -- where the closed gate stands
  pub doubtful : Bool  -- whether that gate may be open
  pub unsound : Bool  -- whether a call has failed since the last that was made durable

abbrev pub keeper_code : Coded Keeper
keeper_code =
    code_by (Option DiskState × (List Durable × (ℕ × (ℕ × (ℕ × (Bool × Bool))))))
    (coded× (coded_option state_code) (coded× (coded_list durable_code)
    (coded× coded_ℕ (coded× coded_ℕ (coded× coded_ℕ (coded× coded_bool coded_bool))))))
    (λ k. (k.state, (k.past, (k.faults, (k.home, (k.end, (k.doubtful, k.unsound)))))))
    (λ p. record {
      state = p.0;
      past = p.1.0;
      faults = p.1.1.0;
      home = p.1.1.1.0;
      end = p.1.1.1.1.0;
      doubtful = p.1.1.1.1.1.0;
      unsound = p.1.1.1.1.1.1;
    }) (λ _. refl)

abbrev pub is_doubtful : Trouble → Bool
is_doubtful trouble.None = false
is_doubtful trouble.Behind = false
is_doubtful trouble.AtGate = true

abbrev pub is_unsound : Trouble → Bool
is_unsound trouble.None = false
is_unsound trouble.Behind = true
is_unsound trouble.AtGate = true

-- ---- the file between two calls

-- the contents before the gate at an end
abbrev pub kept_by : ℕ → DiskState → Contents
kept_by end s = contents_of (take end s.file)

abbrev pub or_empty : Option (List ℕ) → List ℕ
or_empty None = []
or_empty (Some p) = p

-- the payload behind the gate at an end
abbrev pub doubtful_by : ℕ → DiskState → List ℕ
doubtful_by end s = or_empty (payload_behind (drop (end + 1) s.file))

-- The file stands at rest but for what failed.
pub record Stands (doubtful : Bool) (end : ℕ) (s : DiskState) : Type 0 where
  pub short : IsShort (kept_by end s)
  pub end_is : end ≡ end_of (kept_by end s)
  pub closed : doubtful ≡ false → IsClosed (kept_by end s) s
  pub open_gate : doubtful ≡ true → IsDoubtful (kept_by end s) (doubtful_by end s) s
  pub short_doubtful : doubtful ≡ true → length (doubtful_by end s) < 2 ^ 32

-- ---- what a crash may leave

abbrev pub IsHeld : Meaning → Bool → Contents → List ℕ → List ℕ → Type 0
IsHeld m false c p image = KeptAs m (all_of c) image
IsHeld m true c p image = IsBeforeOrAfter m c p image

-- the image is kept as what the keeper has, or, where a payload is doubtful, as this and that payload
abbrev pub MayHold : Meaning → Keeper → DiskState → List ℕ → Type 0
MayHold m k s image = IsHeld m k.doubtful (kept_by k.end s) (doubtful_by k.end s) image

-- the image is kept as what the keeper has, or as this and p
abbrev pub MayHoldNext : Meaning → Keeper → List ℕ → DiskState → List ℕ → Type 0
MayHoldNext m k p s image = IsBeforeOrAfter m (kept_by k.end s) p image

-- the contents are proper, with the doubtful payload too, if there is one
abbrev pub FollowsToo : Meaning → Bool → Contents → List ℕ → Type 0
FollowsToo m false c p = IsProper m c
FollowsToo m true c p = IsProper m c × IsProper m (with_payload c p)

-- what a keeper has, the doubtful payload too, is a journal
abbrev pub IsJournal : Meaning → Keeper → DiskState → Type 0
IsJournal m k s = FollowsToo m k.doubtful (kept_by k.end s) (doubtful_by k.end s)

-- a payload may stand behind what a keeper has
abbrev pub MayFollow : Meaning → Keeper → List ℕ → DiskState → Type 0
MayFollow m k p s = IsProper m (kept_by k.end s) × IsProper m (with_payload (kept_by k.end s) p)

-- Where the payloads are a journal, a crash now leaves them, or these and the doubtful one, and so the file reads.
abbrev pub IsSure : Meaning → Keeper → Type 0
IsSure m k = IfSome k.state (λ s. IsJournal m k s → LeavesOnly (MayHold m k s) s.durable × MayHold m k s s.file)

-- Where the disk tells, and has J, a crash at any moment from one state of a keeper to another leaves images with P alone.
abbrev pub Throughout : (DiskState → Type 0) → (DiskState → List ℕ → Type 0) → Keeper → Keeper → Type 0
Throughout J P old new = IfSome old.state (λ s. J s → AtAnyMoment (P s) old.past new.past new.state)

-- Two runs of calls, one after the other: a crash at any moment of the first leaves images with P, and of the second
-- with Q.
pub record RunsInTurn (P Q : List ℕ → Type 0) (past past_then : List Durable) (state : Option DiskState) : Type 0 where
  pub first : List Durable
  pub each : AllByRecursion (LeavesOnly P) first
  pub second : AtAnyMoment Q (past ++ first) past_then state

-- The same of a keeper, where its disk tells; the calls may have ended with the first run.
abbrev pub InTurn : (DiskState → Type 0) → (DiskState → List ℕ → Type 0) → (DiskState → List ℕ → Type 0) → Keeper → Keeper → Type 0
InTurn J P Q old new = IfSome old.state (λ s. J s →
    AtAnyMoment (P s) old.past new.past new.state ⊎ RunsInTurn (P s) (Q s) old.past new.past new.state)

-- Up to some moment a crash leaves what it might have left before, and then what the keeper had, or this and p.
abbrev pub KeepsSafe : Meaning → List ℕ → Keeper → Keeper → Type 0
KeepsSafe m p old new =
    InTurn (λ s. IsJournal m old s × MayFollow m old p s) (MayHold m old) (MayHoldNext m old p) old new

-- ---- what is kept

-- the bytes behind the gate that stand for a payload
pub record IsSpelled (bytes p : List ℕ) : Type 0 where
  pub spelled : bytes ≡ body p ++ 0 ∷ []
  pub short : length p < 2 ^ 32

-- bytes that stand for some payload
abbrev pub IsSpelling : List ℕ → Type 0
IsSpelling bytes = (p : List ℕ) × IsSpelled bytes p

-- the contents that are kept, where the disk tells
abbrev pub held_where : ℕ → Option DiskState → Option Contents
held_where end None = None
held_where end (Some s) = Some (kept_by end s)

abbrev pub held_of : Keeper → Option Contents
held_of k = held_where k.end k.state

-- the payload that a crash may leave behind them besides, where there is one
abbrev pub doubt_where : Bool → ℕ → Option DiskState → Option (List ℕ)
doubt_where false end state = None
doubt_where true end None = None
doubt_where true end (Some s) = Some (doubtful_by end s)

abbrev pub doubt_of : Keeper → Option (List ℕ)
doubt_of k = doubt_where k.doubtful k.end k.state

-- the contents with a payload more, where they are told
abbrev pub grown : Option Contents → List ℕ → Option Contents
grown None p = None
grown (Some c) p = Some (with_payload c p)

-- the payload that these bytes stand for is kept behind the others, and none is doubtful
abbrev pub Keeps : List ℕ → Keeper → Keeper → Type 0
Keeps bytes old new =
    (new.doubtful ≡ false) × ((p : List ℕ) → IsSpelled bytes p → held_of new ≡ grown (held_of old) p)

-- what is doubtful then is what was before, or the payload that these bytes stand for
abbrev pub Doubts : List ℕ → Keeper → Keeper → Type 0
Doubts bytes old new = (p : List ℕ) → IsSpelled bytes p → new.doubtful ≡ true
    → (doubt_of new ≡ doubt_of old) ⊎ IfSome new.state (λ u. doubtful_by new.end u ≡ p)

-- nothing has to be mended
abbrev pub IsSound : Keeper → Type 0
IsSound k = (k.doubtful ≡ false) × (k.unsound ≡ false)

-- ---- mending

-- the moments of mending
abbrev pub mend_moments : Trouble → ℕ → DiskState → List Durable
mend_moments trouble.None end s = s.durable ∷ []
mend_moments trouble.Behind end s = s.durable ∷ settled s.file ∷ []
mend_moments trouble.AtGate end s = write_moments end (0 ∷ []) s

-- what mending did
abbrev pub Mends : {A E : Type 0} → Result A E → Trouble → ℕ → DiskState → DiskState → Type 0
Mends r trouble.None end old new = new ≡ old
Mends r trouble.Behind end old new = Syncs r old new
Mends r trouble.AtGate end old new = WritesThrough r end (0 ∷ []) old new
