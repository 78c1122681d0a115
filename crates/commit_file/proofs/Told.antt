-- The same, of a disk that may not tell.
use Rattle.std.proofs.Common.{◌≡◌, ◌⊎◌, inl, inr, ℕ, ◌+◌, Bool, true, false, List, [], ◌∷◌, ◌++◌, length, Option, Some, None, IfSome, Result, Ok, Err, refl, ap, sym, ◌∙◌, subst}
use Rattle.std.specs.List.{AllByRecursion}
use Rattle.dio_core.specs.Disks.{Durable, DiskState}
use Rattle.dio_core.specs.Told.{WhereTold}
use Rattle.dio_core.specs.Moments.{LeavesOnly, AtAnyMoment}
use Rattle.commit_file.specs.declared.gate.Outcome.{Outcome}
use Rattle.commit_file.specs.declared.gate.Outcome.TheVariants.{Done, Behind, AtGate}
use Rattle.commit_file.specs.declared.keeper.Trouble.{Trouble}
use Rattle.commit_file.specs.Files.{Contents, with_payload}
use Rattle.commit_file.specs.Kept.{Meaning, IsProper, IsBeforeOrAfter}
use Rattle.commit_file.specs.Standing.{SetsGate, gate_moments}
use Rattle.commit_file.specs.Through.{PassesAmong}
use Rattle.commit_file.specs.Keepers.{Stands, IsHeld, IsSpelled, FollowsToo, is_doubtful, kept_by, doubtful_by, held_where, doubt_where, mend_moments, Mends, grown, RunsInTurn}
use Rattle.commit_file.proofs.Runs.{AtAnyMoment-among}
use Rattle.commit_file.proofs.Standings.{mend_held, mend_done, mend_failed, keep_held, keep_stands, StandsAfter, held_now, reads_now}

-- each moment of mending
pub mended-throughout : (m : Meaning) (t : Trouble) (end : ℕ) (old new : Option DiskState) (a b : List Durable)
    → IfSome old (Stands (is_doubtful t) end)
    → IfSome old (λ s. PassesAmong (mend_moments t end s) a b new)
    → IfSome old (λ s. FollowsToo m (is_doubtful t) (kept_by end s) (doubtful_by end s)
    → AtAnyMoment (IsHeld m (is_doubtful t) (kept_by end s) (doubtful_by end s)) a b new)
mended-throughout m t end None new a b stands passes = tt
mended-throughout m t end (Some s) new a b stands passes = λ follow.
    AtAnyMoment-among (IsHeld m (is_doubtful t) (kept_by end s) (doubtful_by end s)) (mend_moments t end s) a b new
    (mend_held m t end s stands follow) passes

-- once it is mended
pub mended-stands : (E : Type 0) (t : Trouble) (end : ℕ) (old new : Option DiskState) → IfSome old (Stands (is_doubtful t) end)
    → WhereTold (Mends {A = Unit {0}} {E = E} (Ok tt) t end) old new
    → IfSome new (Stands false end) × (held_where end new ≡ held_where end old)
mended-stands E t end None None stands mends = (tt, refl)
mended-stands E t end None (Some u) stands mends = absurd mends
mended-stands E t end (Some s) None stands mends = absurd mends
mended-stands E t end (Some s) (Some u) stands mends = let both = mend_done t end s u stands mends in (both.0, ap Some both.1)

-- where that failed
pub unmended-stands : (E : Type 0) (e : E) (t : Trouble) (end : ℕ) (old new : Option DiskState) → IfSome old (Stands (is_doubtful t) end)
    → WhereTold (Mends {A = Unit {0}} {E = E} (Err e) t end) old new
    → IfSome new (Stands (is_doubtful t) end) × (held_where end new ≡ held_where end old)
    × (doubt_where (is_doubtful t) end new ≡ doubt_where (is_doubtful t) end old)
unmended-stands E e t end None None stands mends = (tt, refl, refl)
unmended-stands E e t end None (Some u) stands mends = absurd mends
unmended-stands E e t end (Some s) None stands mends = absurd mends
unmended-stands E e t end (Some s) (Some u) stands mends =
    let all = mend_failed t end s u E e stands mends in (all.0, ap Some all.1, doubt (is_doubtful t) all.2)
  where
    doubt : (b : Bool) → (b ≡ true → doubtful_by end u ≡ doubtful_by end s) → doubt_where b end (Some u) ≡ doubt_where b end (Some s)
    doubt false same = refl
    doubt true same = ap Some (same refl)

-- each moment of keeping a payload
pub keep-throughout : (m : Meaning) (end : ℕ) (old new : Option DiskState) (a b : List Durable) (bytes p : List ℕ)
    → IfSome old (Stands false end) → IfSome old (λ s. PassesAmong (gate_moments 1 end bytes s) a b new) → IsSpelled bytes p
    → IfSome old (λ s. IsProper m (kept_by end s) × IsProper m (with_payload (kept_by end s) p)
    → AtAnyMoment (IsBeforeOrAfter m (kept_by end s) p) a b new)
keep-throughout m end None new a b bytes p stands passes next = tt
keep-throughout m end (Some s) new a b bytes p stands passes next = λ follow.
    AtAnyMoment-among (IsBeforeOrAfter m (kept_by end s) p) (gate_moments 1 end bytes s) a b new
    (keep_held m end s bytes p stands next follow.0 follow.1) passes

-- how a keeper stands after it, by how far it came
abbrev pub KeptTold : Outcome → ℕ → List ℕ → List ℕ → Option DiskState → Option DiskState → Type 0
KeptTold Done end bytes p old new =
    IfSome new (Stands false (end + length bytes))
    × (held_where (end + length bytes) new ≡ grown (held_where end old) p)
KeptTold Behind end bytes p old new =
    IfSome new (Stands false end) × (held_where end new ≡ held_where end old)
KeptTold AtGate end bytes p old new =
    IfSome new (Stands true end) × (held_where end new ≡ held_where end old)
    × IfSome new (λ u. doubtful_by end u ≡ p)

pub keep-stands : (r : Outcome) (end : ℕ) (bytes p : List ℕ) (old new : Option DiskState) → IfSome old (Stands false end)
    → IsSpelled bytes p → WhereTold (SetsGate r 1 end bytes) old new → KeptTold r end bytes p old new
keep-stands Done end bytes p None None stands next keeps = (tt, refl)
keep-stands Behind end bytes p None None stands next keeps = (tt, refl)
keep-stands AtGate end bytes p None None stands next keeps = (tt, refl, tt)
keep-stands r end bytes p None (Some u) stands next keeps = absurd keeps
keep-stands r end bytes p (Some s) None stands next keeps = absurd keeps
keep-stands r end bytes p (Some s) (Some u) stands next keeps = told r (keep_stands r end s bytes p u stands next keeps)
  where
    told : (r : Outcome) → StandsAfter r end s bytes p u → KeptTold r end bytes p (Some s) (Some u)
    told Done all = (all.0, ap Some all.1)
    told Behind all = (all.0, ap Some all.1)
    told AtGate all = (all.0, ap Some all.1, all.2)

-- between two calls
pub sure_now : (m : Meaning) (b : Bool) (end : ℕ) (state : Option DiskState) → IfSome state (Stands b end)
    → IfSome state (λ s. FollowsToo m b (kept_by end s) (doubtful_by end s)
    → LeavesOnly (IsHeld m b (kept_by end s) (doubtful_by end s)) s.durable × IsHeld m b (kept_by end s) (doubtful_by end s) s.file)
sure_now m b end None stands = tt
sure_now m b end (Some s) stands = λ follow. (held_now m b end s stands follow, reads_now m b end s stands follow)

-- two runs in turn, of which the first may be the last
pub stopped : (J : DiskState → Type 0) (P : DiskState → List ℕ → Type 0) (Q : DiskState → Type 0) (old new : Option DiskState) (a c : List Durable)
    → IfSome old (λ s. J s → AtAnyMoment (P s) a c new) → (H : DiskState → Type 0) → ((s : DiskState) → H s → J s)
    → IfSome old (λ s. H s → AtAnyMoment (P s) a c new ⊎ Q s)
stopped J P Q None new a c at H has = tt
stopped J P Q (Some s) new a c at H has = λ h. inl (at (has s h))

-- two runs in turn, of which the first leaves the contents as they were
pub turns : (m : Meaning) (b : Bool) (end next : ℕ) (p : List ℕ) (old mid new : Option DiskState) (a n c : List Durable)
    → held_where next mid ≡ held_where end old
    → IfSome old (λ s. FollowsToo m b (kept_by end s) (doubtful_by end s)
    → AtAnyMoment (IsHeld m b (kept_by end s) (doubtful_by end s)) a n mid)
    → IfSome mid (λ t. IsProper m (kept_by next t) × IsProper m (with_payload (kept_by next t) p)
    → AtAnyMoment (IsBeforeOrAfter m (kept_by next t) p) n c new)
    → IfSome old (λ s. FollowsToo m b (kept_by end s) (doubtful_by end s)
    × (IsProper m (kept_by end s) × IsProper m (with_payload (kept_by end s) p))
    → AtAnyMoment (IsHeld m b (kept_by end s) (doubtful_by end s)) a c new
    ⊎ RunsInTurn (IsHeld m b (kept_by end s) (doubtful_by end s)) (IsBeforeOrAfter m (kept_by end s) p) a c new)
turns m b end next p None mid new a n c same first second = tt
turns m b end next p (Some s) None new a n c same first second = absurd (cc same)
turns m b end next p (Some s) (Some t) new a n c same first second = λ follow.
    let is : kept_by next t ≡ kept_by end s = cc same in
    let one = first follow.0 in
    let two : AtAnyMoment (IsBeforeOrAfter m (kept_by end s) p) n c new =
    subst (λ k. IsProper m k × IsProper m (with_payload k p) → AtAnyMoment (IsBeforeOrAfter m k p) n c new) is second follow.1 in
    inr (record {
      first = one.moments;
      each = one.each;
      second = subst (λ l. AtAnyMoment (IsBeforeOrAfter m (kept_by end s) p) l c new) one.passed two;
    })
