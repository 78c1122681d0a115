-- What a run of calls on a disk at rest may leave, told or not.
use Rattle.std.proofs.Common.{◌≡◌, ℕ, ◌+◌, ◌<◌, ◌≤◌, Bool, true, false, List, [], ◌∷◌, ◌++◌, Option, Some, None, IfSome, Result, Ok, Err, OnOk, IfOk, take, drop, length, refl, ap, sym, ◌∙◌, subst, append_assoc, length-append, arith}
use Rattle.std.specs.List.{AllByRecursion}
use Rattle.std.proofs.lemmas.List.{append-nil, take_at, length-take-le}
use Rattle.dio_core.specs.Disks.{Durable, DiskState, settled, Reads, NothingPending}
use Rattle.dio_core.specs.Told.{WhereTold}
use Rattle.dio_core.specs.Moments.{LeavesOnly, IsSafe, AtAnyMoment}
use Rattle.dio_core.proofs.Moments.{AtAnyMoment-none, AtAnyMoment-then, IsSafe-settled}
use Rattle.commit_file.specs.declared.gate.Outcome.TheVariants.{Done}
use Rattle.commit_file.specs.declared.version.Version.TheVariants.{One}
use Rattle.commit_file.specs.Files.{Contents, header, frames, all_of, file, opened, end_of}
use Rattle.commit_file.specs.Files.Contents.{Current, Marked}
use Rattle.commit_file.specs.Kept.{Meaning, Reading, kept, KeptAs, KeptAlike, IsProper}
use Rattle.commit_file.specs.Kept.Reading.{Journal}
use Rattle.commit_file.specs.Keepers.{Stands}
use Rattle.commit_file.specs.Recovering.{HasForm, IsFound, IsAtRest, Replaces}
use Rattle.commit_file.specs.Standing.{SetsGate, gate_moments, set_at, IsClosed}
use Rattle.commit_file.specs.Through.{resting, Rests, PassesAmong}
use Rattle.commit_file.proofs.Images.{IsUnreached-settled}
use Rattle.commit_file.proofs.Mended.{marked_at, marked-is}
use Rattle.commit_file.proofs.Opening.{length-file}
use Rattle.commit_file.proofs.Runs.{AtAnyMoment-among, all-weaker, some-weaker}
use Rattle.commit_file.proofs.Standings.{Stands-closed}

-- a disk on which nothing is pending
resting-is : (file : List ℕ) (s : DiskState) → s.file ≡ file → s.durable ≡ settled s.file → s ≡ resting file
resting-is file s reads none = let same : s ≡ resting s.file = ap (λ d. record { file = s.file; durable = d }) none in same ∙ ap resting reads

-- a run of calls whose moments are known
pub any_moment : (P : List ℕ → Type 0) (file : List ℕ) (old new : Option DiskState) (a b : List Durable) (among : DiskState → List Durable)
    → Reads file old → NothingPending old → AllByRecursion (LeavesOnly P) (among (resting file)) → IfSome old (λ s. PassesAmong (among s) a b new)
    → IfSome old (λ s. AtAnyMoment P a b new)
any_moment P file None new a b among reads none all passes = tt
any_moment P file (Some s) new a b among reads none all passes =
    AtAnyMoment-among P (among (resting file)) a b new all (subst (λ t. PassesAmong (among t) a b new) (resting-is file s reads none) passes)

-- no call
pub no_moment : (P : List ℕ → Type 0) (file : List ℕ) (state : Option DiskState) (a : List Durable)
    → Reads file state → NothingPending state → P file → IfSome state (λ s. AtAnyMoment P a a state)
no_moment P file None a reads none holds = tt
no_moment P file (Some s) a reads none holds = AtAnyMoment-none P a (Some s) (IsSafe-settled P file (Some s) holds reads none)

-- two runs, of which the first left the disk at rest
pub runs-then : (P : List ℕ → Type 0) (file : List ℕ) (old mid new : Option DiskState) (a b c : List Durable) → WhereTold (Rests file) old mid
    → IfSome old (λ s. AtAnyMoment P a b mid) → IfSome mid (λ s. AtAnyMoment P b c new) → IfSome old (λ s. AtAnyMoment P a c new)
runs-then P file None mid new a b c rests first second = tt
runs-then P file (Some s) None new a b c rests first second = absurd rests
runs-then P file (Some s) (Some t) new a b c rests first second = AtAnyMoment-then P a b c (Some t) new first second

-- a file that is at rest already
pub still_at_rest : (bytes file : List ℕ) (state : Option DiskState) → Reads bytes state → NothingPending state → bytes ≡ file
    → WhereTold (Rests file) state state
still_at_rest bytes file None reads none is = tt
still_at_rest bytes file (Some s) reads none is = resting-is bytes s reads none ∙ ap resting is

-- the end was replaced
pub replaced-rests : {E : Type 0} (r : Result (Unit {0}) E) (to : ℕ) (bytes file : List ℕ) (old new : Option DiskState) → Reads file old
    → WhereTold (Replaces r to bytes) old new → OnOk r (WhereTold (Rests (take to file ++ bytes)) old new)
replaced-rests (Err e) to bytes file old new reads replaced = tt
replaced-rests (Ok a) to bytes file None None reads replaced = tt
replaced-rests (Ok a) to bytes file None (Some t) reads replaced = absurd replaced
replaced-rests (Ok a) to bytes file (Some s) None reads replaced = absurd replaced
replaced-rests (Ok a) to bytes file (Some s) (Some t) reads replaced = replaced ∙ ap (λ f. resting (take to f ++ bytes)) reads

-- ---- the mark

pub marked-throughout : (m : Meaning) (ps : List (List ℕ)) (end : ℕ) (bytes : List ℕ) (old new : Option DiskState) (a b : List Durable)
    → end ≤ length bytes → IfSome old (λ s. s ≡ resting (take end bytes ++ 0 ∷ [])) → HasForm m true (take end bytes) ps
    → IfSome old (λ s. PassesAmong (gate_moments 2 end (0 ∷ []) s) a b new) → IfSome old (λ s. AtAnyMoment (KeptAs m ps) a b new)
marked-throughout m ps end bytes None new a b within closed form passes = tt
marked-throughout m ps end bytes (Some s) new a b within closed form passes =
    AtAnyMoment-among (KeptAs m ps) (gate_moments 2 end (0 ∷ []) (resting (take end bytes ++ 0 ∷ []))) a b new (marked_at m ps end bytes within form)
    (subst (λ t. PassesAmong (gate_moments 2 end (0 ∷ []) t) a b new) closed passes)

pub marked_at_rest : (end : ℕ) (bytes : List ℕ) (old new : Option DiskState) → end ≤ length bytes
    → IfSome old (λ s. s ≡ resting (take end bytes ++ 0 ∷ [])) → WhereTold (SetsGate Done 2 end (0 ∷ [])) old new
    → WhereTold (Rests (take end bytes ++ 2 ∷ 0 ∷ [])) old new
marked_at_rest end bytes None None within closed set = tt
marked_at_rest end bytes None (Some t) within closed set = absurd set
marked_at_rest end bytes (Some s) None within closed set = absurd set
marked_at_rest end bytes (Some s) (Some t) within closed set =
    let front = take end bytes in
    let long : length front ≡ end = length-take-le end bytes within in
    let now : t ≡ resting (set_at 2 end (0 ∷ []) (front ++ 0 ∷ [])) = set ∙ ap (λ (u : DiskState). resting (set_at 2 end (0 ∷ []) u.file)) closed in
    now ∙ ap (λ k. resting (set_at 2 k (0 ∷ []) (front ++ 0 ∷ []))) (sym long) ∙ ap resting (marked-is front)

-- ---- what is at rest

-- contents that go on being written
pub rests_written : (m : Meaning) (bytes : List ℕ) (ps : List (List ℕ)) (end : ℕ) (old new : Option DiskState) → end ≤ length bytes
    → HasForm m false (take end bytes) ps → WhereTold (Rests (take end bytes ++ 0 ∷ [])) old new → IfSome new (IsAtRest m ps end)
rests_written m bytes ps end None None within form rests = tt
rests_written m bytes ps end None (Some t) within form rests = absurd rests
rests_written m bytes ps end (Some s) None within form rests = tt
rests_written m bytes ps end (Some s) (Some t) within form rests = record {
  contents = form.0;
  holds = form.2;
  proper = form.3;
  end_is = sym (length-take-le end bytes within) ∙ ap length form.1;
  rests = rests ∙ ap (λ l. resting (l ++ 0 ∷ [])) form.1;
}

-- those of version 1, once they have their mark
pub rests_marked : (m : Meaning) (bytes : List ℕ) (ps : List (List ℕ)) (end : ℕ) (old new : Option DiskState) → end ≤ length bytes
    → HasForm m true (take end bytes) ps → WhereTold (Rests (take end bytes ++ 2 ∷ 0 ∷ [])) old new → IfSome new (IsAtRest m ps (end + 1))
rests_marked m bytes ps end None None within form rests = tt
rests_marked m bytes ps end None (Some t) within form rests = absurd rests
rests_marked m bytes ps end (Some s) None within form rests = tt
rests_marked m bytes ps end (Some s) (Some t) within form rests = record {
  contents = Marked ps [];
  holds = append-nil ps;
  proper = record { follow = (form.1, tt); short = (form.2, tt) };
  end_is = ap (λ n. n + 1) (sym (length-take-le end bytes within) ∙ ap length form.0) ∙ sym (length-append (header One ++ frames ps) (2 ∷ []));
  rests = rests ∙ ap (λ l. resting (l ++ 2 ∷ 0 ∷ [])) form.0 ∙ ap resting (sym (append_assoc (header One ++ frames ps) (2 ∷ []) (0 ∷ [])));
}

-- none
pub rests_empty : (m : Meaning) (ps : List (List ℕ)) (new : Option DiskState) → ps ≡ [] → IfSome new (λ s. s ≡ resting (file (Current [])))
    → IfSome new (IsAtRest m ps 12)
rests_empty m ps None empty rests = tt
rests_empty m ps (Some t) empty rests = record {
  contents = Current [];
  holds = sym empty;
  proper = record { follow = tt; short = tt };
  end_is = refl;
  rests = rests;
}

-- a keeper may go on there
stands-rest : (m : Meaning) (ps : List (List ℕ)) (end : ℕ) (s : DiskState) → IsAtRest m ps end s → Stands false end s
stands-rest m ps end s rest =
    let c = rest.contents in
    let whole : take (end_of c + 1) (file c) ≡ file c =
    ap (take (end_of c + 1)) (sym (append-nil (file c))) ∙ take_at (file c) [] (end_of c + 1) (length-file c) in
    let closed : IsClosed c (resting (file c)) = record {
      unreached = IsUnreached-settled (end_of c + 1) (file c) (omega (arith, length-file c));
      synced = whole;
      reads = whole;
    } in
    subst (λ n. Stands false n s) (sym rest.end_is) (Stands-closed c s rest.proper.short (subst (IsClosed c) (sym rest.rests) closed)).0

pub stands-at_rest : (m : Meaning) (ps : List (List ℕ)) (end : ℕ) (state : Option DiskState) → IfSome state (IsAtRest m ps end)
    → IfSome state (Stands false end)
stands-at_rest m ps end None rest = tt
stands-at_rest m ps end (Some s) rest = stands-rest m ps end s rest

-- ---- recovery

-- images with P have Q
pub AtAnyMoment-weaker : (P Q : List ℕ → Type 0) (a b : List Durable) (state : Option DiskState) → ((image : List ℕ) → P image → Q image)
    → AtAnyMoment P a b state → AtAnyMoment Q a b state
AtAnyMoment-weaker P Q a b state weaker at = record {
  moments = at.moments;
  passed = at.passed;
  each = all-weaker (LeavesOnly P) (LeavesOnly Q) at.moments (λ d safe image left. weaker image (safe image left)) at.each;
  last = some-weaker (λ s. LeavesOnly P s.durable) (λ s. LeavesOnly Q s.durable) state (λ s safe image left. weaker image (safe image left)) at.last;
}

-- of a file that is only read
pub alike_read : (m : Meaning) (old new : Option DiskState) (a b : List Durable) → new ≡ old → b ≡ a → NothingPending old
    → IfSome old (λ s. AtAnyMoment (KeptAlike m s.file) a b new)
alike_read m None new a b same past none = tt
alike_read m (Some s) new a b same past none =
    subst (λ t. AtAnyMoment (KeptAlike m s.file) a b t) (sym same)
    (subst (λ c. AtAnyMoment (KeptAlike m s.file) a c (Some s)) (sym past)
    (AtAnyMoment-none (KeptAlike m s.file) a (Some s) (IsSafe-settled (KeptAlike m s.file) s.file (Some s) refl refl none)))

-- and of one that was read, and then brought to rest
pub alike_settled : (m : Meaning) (ps : List (List ℕ)) (bytes : List ℕ) (old mid new : Option DiskState) (a n b : List Durable) → mid ≡ old → n ≡ a
    → Reads bytes old → kept m bytes ≡ Journal ps → IfSome mid (λ s. AtAnyMoment (KeptAs m ps) n b new)
    → IfSome old (λ s. AtAnyMoment (KeptAlike m s.file) a b new)
alike_settled m ps bytes None mid new a n b same past reads is at = tt
alike_settled m ps bytes (Some s) mid new a n b same past reads is at =
    let here : AtAnyMoment (KeptAs m ps) n b new = subst (λ t. IfSome t (λ s. AtAnyMoment (KeptAs m ps) n b new)) same at in
    AtAnyMoment-weaker (KeptAs m ps) (KeptAlike m s.file) a b new (λ image h. h ∙ sym (ap (kept m) reads ∙ is))
    (subst (λ c. AtAnyMoment (KeptAs m ps) c b new) past here)
