-- How a keeper's file stands after each call.
use Rattle.std.proofs.Common.{◌≡◌, ◌⊎◌, inl, inr, ℕ, ◌+◌, ◌-◌, ◌^◌, ◌<◌, ◌≤◌, Bool, true, false, List, [], ◌∷◌, ◌++◌, length, get_or, take, drop, Option, Some, None, Result, Ok, Err, refl, ap, sym, ◌∙◌, subst, append_assoc, length-append, arith}
use Rattle.std.specs.List.{AllByRecursion}
use Rattle.std.proofs.lemmas.List.{append-nil, take_at, drop_at, drop_more}
use Rattle.dio_core.specs.Disks.{Durable, DiskState, settled, Writes, Syncs, overwritten}
use Rattle.dio_core.specs.Moments.{LeavesOnly}
use Rattle.std.specs.Cmp.Lexicographic.{pointwise}
use Rattle.commit_file.specs.declared.gate.Outcome.{Outcome}
use Rattle.commit_file.specs.declared.gate.Outcome.TheVariants.{Done, Behind, AtGate}
use Rattle.commit_file.specs.declared.keeper.Trouble.{Trouble}
use Rattle.commit_file.specs.declared.keeper.Trouble.TheVariants as trouble
use Rattle.commit_file.specs.declared.version.Version.TheVariants.{One, Two}
use Rattle.commit_file.specs.Files.{Contents, header, opened, body, file, frame, frames, all_of, with_payload, end_of, AreShort, IsShort}
use Rattle.commit_file.specs.Files.Contents.{Current, Marked}
use Rattle.commit_file.specs.Kept.{Meaning, payloads, payloads_marked, behind_frames, payload_behind, kept, KeptAs, IsProper, IsBeforeOrAfter}
use Rattle.commit_file.specs.Kept.Reading.{Journal}
use Rattle.commit_file.specs.Standing.{contents_of, IsClosed, IsDoubtful, SetsGate, gate_moments, staged_at, set_at}
use Rattle.commit_file.specs.Through.{resting, WritesThrough, write_moments}
use Rattle.commit_file.specs.Keepers.{Stands, IsHeld, is_doubtful, kept_by, doubtful_by, or_empty, mend_moments, Mends, IsSpelled, FollowsToo}
use Rattle.commit_file.proofs.Frames.{payloads-frames, payload_behind-body, kept-closed, opened-last, IsShort-last, kept-gate}
use Rattle.commit_file.proofs.Images.{begins, LeavesOnly-settled, IsUnreached-settled}
use Rattle.commit_file.proofs.Opening.{at_closed, two_parts, length-file, IsClosed-synced, IsClosed-failed, IsClosed-kept, IsDoubtful-failed, kept_moments}
use Rattle.commit_file.proofs.Mending.{at_gate, long_file, mended_moments, IsClosed-mended, IsDoubtful-still}

-- payloads of frames with nothing behind them
payloads-all : (ps : List (List ℕ)) → AreShort ps → payloads (frames ps) ≡ ps
payloads-all ps short = ap payloads (sym (append-nil (frames ps))) ∙ payloads-frames ps [] short ∙ append-nil ps

-- what the written part of a file stands for
pub contents_of-opened : (c : Contents) → IsShort c → contents_of (opened c) ≡ c
contents_of-opened (Current ps) short = ap Current (payloads-all ps short)
contents_of-opened (Marked old ps) short =
    let read : payloads (frames old ++ 2 ∷ frames ps) ≡ old = payloads-frames old (2 ∷ frames ps) short.0 ∙ append-nil old in
    let behind : behind_frames (frames old ++ 2 ∷ frames ps) ≡ 2 ∷ frames ps =
    ap (λ qs. drop (length (frames qs)) (frames old ++ 2 ∷ frames ps)) read ∙ drop_at (frames old) (2 ∷ frames ps) (length (frames old)) refl in
    ap (λ qs. Marked qs (payloads_marked (behind_frames (frames old ++ 2 ∷ frames ps)))) read
    ∙ ap (λ l. Marked old (payloads_marked l)) behind ∙ ap (Marked old) (payloads-all ps short.1)

-- the contents before the gate
kept_by-reads : (c : Contents) (t : DiskState) → IsShort c → take (end_of c) t.file ≡ opened c → kept_by (end_of c) t ≡ c
kept_by-reads c t short reads = ap contents_of reads ∙ contents_of-opened c short

-- the one behind it
doubtful_by-reads : (n : ℕ) (p : List ℕ) (t : DiskState) → length p < 2 ^ 32 → take (length (body p) + 1) (drop (n + 1) t.file) ≡ body p ++ 0 ∷ []
    → doubtful_by n t ≡ p
doubtful_by-reads n p t short reads =
    let rest = drop (length (body p) + 1) (drop (n + 1) t.file) in
    let whole : drop (n + 1) t.file ≡ body p ++ 0 ∷ rest =
    begins (length (body p) + 1) (body p ++ 0 ∷ []) (drop (n + 1) t.file) reads ∙ append_assoc (body p) (0 ∷ []) rest in
    ap (λ l. or_empty (payload_behind l)) whole ∙ ap or_empty (payload_behind-body p (0 ∷ rest) short)

-- a closed file
pub Stands-closed : (c : Contents) (t : DiskState) → IsShort c → IsClosed c t → Stands false (end_of c) t × (kept_by (end_of c) t ≡ c)
Stands-closed c t short closed =
    let same : kept_by (end_of c) t ≡ c = kept_by-reads c t short (two_parts (end_of c) (opened c) 0 t.file refl closed.reads).0 in (
      record {
        short = subst IsShort (sym same) short;
        end_is = ap end_of (sym same);
        closed = λ is. subst (λ k. IsClosed k t) (sym same) closed;
        open_gate = λ is. absurd (cc is);
        short_doubtful = λ is. absurd (cc is);
      },
      same,
    )

-- one with a doubtful payload
pub Stands-doubtful : (c : Contents) (p : List ℕ) (t : DiskState) → IsShort c → length p < 2 ^ 32 → IsDoubtful c p t
    → Stands true (end_of c) t × (kept_by (end_of c) t ≡ c) × (doubtful_by (end_of c) t ≡ p)
Stands-doubtful c p t short short_p doubtful =
    let same : kept_by (end_of c) t ≡ c = kept_by-reads c t short doubtful.reads in
    let one : doubtful_by (end_of c) t ≡ p = doubtful_by-reads (end_of c) p t short_p doubtful.reads_behind in (
      record {
        short = subst IsShort (sym same) short;
        end_is = ap end_of (sym same);
        closed = λ is. absurd (cc is);
        open_gate = λ is. subst (λ k. IsDoubtful k (doubtful_by (end_of c) t) t) (sym same) (subst (λ q. IsDoubtful c q t) (sym one) doubtful);
        short_doubtful = λ is. subst (λ q. length q < 2 ^ 32) (sym one) short_p;
      },
      same,
      one,
    )

-- where it stands closed, a crash leaves the payloads
held_closed : (m : Meaning) (end : ℕ) (s : DiskState) → Stands false end s → IsProper m (kept_by end s)
    → LeavesOnly (KeptAs m (all_of (kept_by end s))) s.durable
held_closed m end s stands proper =
    let closed = stands.closed refl in
    at_closed (kept_by end s) s closed (KeptAs m (all_of (kept_by end s))) s.durable closed.unreached closed.synced
    (λ rest. kept-closed m (kept_by end s) rest proper)

-- what the file reads as where it stands closed
reads_closed : (m : Meaning) (end : ℕ) (s : DiskState) → Stands false end s → IsProper m (kept_by end s)
    → kept m s.file ≡ Journal (all_of (kept_by end s))
reads_closed m end s stands proper =
    let c = kept_by end s in
    let back = drop (end_of c + 1) s.file in
    ap (kept m) (begins (end_of c + 1) (file c) s.file (stands.closed refl).reads ∙ append_assoc (opened c) (0 ∷ []) back)
    ∙ kept-closed m c back proper

-- each moment of mending
pub mend_held : (m : Meaning) (t : Trouble) (end : ℕ) (s : DiskState) → Stands (is_doubtful t) end s
    → FollowsToo m (is_doubtful t) (kept_by end s) (doubtful_by end s)
    → AllByRecursion (LeavesOnly (IsHeld m (is_doubtful t) (kept_by end s) (doubtful_by end s))) (mend_moments t end s)
mend_held m trouble.None end s stands proper = (held_closed m end s stands proper, tt)
mend_held m trouble.Behind end s stands proper = (
  held_closed m end s stands proper,
  (LeavesOnly-settled (KeptAs m (all_of (kept_by end s))) s.file (reads_closed m end s stands proper), tt),
)
mend_held m trouble.AtGate end s stands both =
    subst (λ n. AllByRecursion (LeavesOnly (IsBeforeOrAfter m (kept_by end s) (doubtful_by end s))) (write_moments n (0 ∷ []) s)) (sym stands.end_is)
    (mended_moments (kept_by end s) (doubtful_by end s) s (stands.open_gate refl) m both.0 both.1)

-- once it is mended
pub mend_done : (t : Trouble) (end : ℕ) (s u : DiskState) → Stands (is_doubtful t) end s → Mends {A = Unit {0}} {E = ℕ} (Ok tt) t end s u
    → Stands false end u × (kept_by end u ≡ kept_by end s)
mend_done t end s u stands mends =
    let c = kept_by end s in
    let at : (n : ℕ) → n ≡ end → Stands false n u × (kept_by n u ≡ c) → Stands false end u × (kept_by end u ≡ c) =
    λ n is both. subst (λ m. Stands false m u × (kept_by m u ≡ c)) is both in
    at (end_of c) (sym stands.end_is) (Stands-closed c u stands.short (now t stands mends))
  where
    now : (t : Trouble) → Stands (is_doubtful t) end s → Mends {A = Unit {0}} {E = ℕ} (Ok tt) t end s u → IsClosed (kept_by end s) u
    now trouble.None stands mends = subst (IsClosed (kept_by end s)) (sym mends) (stands.closed refl)
    now trouble.Behind stands mends = IsClosed-synced (kept_by end s) s (stands.closed refl) (Unit {0}) ℕ (Ok tt) u mends
    now trouble.AtGate stands mends =
        subst (IsClosed (kept_by end s)) (sym (mends ∙ ap (λ n. resting (overwritten s.file n (0 ∷ []))) stands.end_is))
        (IsClosed-mended (kept_by end s) (doubtful_by end s) s (stands.open_gate refl))

-- where that failed
pub mend_failed : (t : Trouble) (end : ℕ) (s u : DiskState) (E : Type 0) (e : E) → Stands (is_doubtful t) end s → Mends {A = Unit {0}} {E = E} (Err e) t end s u
    → Stands (is_doubtful t) end u × (kept_by end u ≡ kept_by end s) × (is_doubtful t ≡ true → doubtful_by end u ≡ doubtful_by end s)
mend_failed trouble.None end s u E e stands mends = (subst (Stands false end) (sym mends) stands, ap (kept_by end) mends, λ is. ap (doubtful_by end) mends)
mend_failed trouble.Behind end s u E e stands mends = (subst (Stands false end) (sym mends) stands, ap (kept_by end) mends, λ is. ap (doubtful_by end) mends)
mend_failed trouble.AtGate end s u E e stands mends =
    let c = kept_by end s in
    let p = doubtful_by end s in
    let still : IsDoubtful c p u = IsDoubtful-still c p s (stands.open_gate refl) E e u
    (subst (λ n. Writes {A = ℕ} (Err e) n (0 ∷ []) s u) stands.end_is mends) in
    let both = Stands-doubtful c p u stands.short (stands.short_doubtful refl) still in
    subst (λ m. Stands true m u × (kept_by m u ≡ c) × (true ≡ true → doubtful_by m u ≡ p)) (sym stands.end_is) (both.0, both.1, (λ is. both.2))

-- ---- a payload more

-- each moment of keeping it
pub keep_held : (m : Meaning) (end : ℕ) (s : DiskState) (bytes p : List ℕ) → Stands false end s → IsSpelled bytes p
    → IsProper m (kept_by end s) → IsProper m (with_payload (kept_by end s) p)
    → AllByRecursion (LeavesOnly (IsBeforeOrAfter m (kept_by end s) p)) (gate_moments 1 end bytes s)
keep_held m end s bytes p stands next proper after =
    let c = kept_by end s in
    subst (λ bs. AllByRecursion (LeavesOnly (IsBeforeOrAfter m c p)) (gate_moments 1 end bs s)) (sym next.spelled)
    (subst (λ n. AllByRecursion (LeavesOnly (IsBeforeOrAfter m c p)) (gate_moments 1 n (body p ++ 0 ∷ []) s)) (sym stands.end_is)
    (kept_moments c s (stands.closed refl) p m proper after))

-- how the file stands after it, by how far it came
abbrev pub StandsAfter : Outcome → ℕ → DiskState → List ℕ → List ℕ → DiskState → Type 0
StandsAfter Done end s bytes p u = Stands false (end + length bytes) u × (kept_by (end + length bytes) u ≡ with_payload (kept_by end s) p)
StandsAfter Behind end s bytes p u = Stands false end u × (kept_by end u ≡ kept_by end s)
StandsAfter AtGate end s bytes p u = Stands true end u × (kept_by end u ≡ kept_by end s) × (doubtful_by end u ≡ p)

-- where the frames end once there is a payload more
end_of-last : (c : Contents) (p : List ℕ) → end_of (with_payload c p) ≡ end_of c + length (body p ++ 0 ∷ [])
end_of-last c p =
    let whole : opened (with_payload c p) ≡ opened c ++ frame p = sym (append-nil (opened (with_payload c p))) ∙ opened-last c p [] ∙ ap (λ l. opened c ++ 1 ∷ l) (append-nil (body p)) in
    omega (arith, ap length whole, length-append (opened c) (frame p), length-append (body p) (0 ∷ []))

-- how it stands then
pub keep_stands : (r : Outcome) (end : ℕ) (s : DiskState) (bytes p : List ℕ) (u : DiskState) → Stands false end s → IsSpelled bytes p
    → SetsGate r 1 end bytes s u → StandsAfter r end s bytes p u
keep_stands Done end s bytes p u stands next keeps =
    let c = kept_by end s in
    let last : end_of (with_payload c p) ≡ end + length bytes = end_of-last c p ∙ ap (λ n. n + length (body p ++ 0 ∷ [])) (sym stands.end_is) ∙ ap (λ bs. end + length bs) (sym next.spelled) in
    let now : u ≡ resting (set_at 1 (end_of c) (body p ++ 0 ∷ []) s.file) = keeps ∙ ap (λ n. resting (set_at 1 n bytes s.file)) stands.end_is ∙ ap (λ bs. resting (set_at 1 (end_of c) bs s.file)) next.spelled in
    let closed : IsClosed (with_payload c p) u = subst (IsClosed (with_payload c p)) (sym now) (IsClosed-kept c s (stands.closed refl) p) in
    subst (λ n. Stands false n u × (kept_by n u ≡ with_payload c p)) last (Stands-closed (with_payload c p) u (IsShort-last c p stands.short next.short) closed)
keep_stands Behind end s bytes p u stands next keeps =
    let c = kept_by end s in
    let closed : IsClosed c u = IsClosed-failed c s (stands.closed refl) ℕ 0 bytes u (subst (λ n. Writes {A = ℕ} {E = ℕ} (Err 0) (n + 1) bytes s u) stands.end_is keeps) in
    subst (λ n. Stands false n u × (kept_by n u ≡ c)) (sym stands.end_is) (Stands-closed c u stands.short closed)
keep_stands AtGate end s bytes p u stands next keeps =
    let c = kept_by end s in
    let now : Writes {A = ℕ} {E = ℕ} (Err 0) (end_of c) (1 ∷ []) (resting (staged_at (end_of c) (body p ++ 0 ∷ []) s.file)) u =
    subst (λ bs. Writes {A = ℕ} {E = ℕ} (Err 0) (end_of c) (1 ∷ []) (resting (staged_at (end_of c) bs s.file)) u) next.spelled
    (subst (λ n. Writes {A = ℕ} {E = ℕ} (Err 0) n (1 ∷ []) (resting (staged_at n bytes s.file)) u) stands.end_is keeps) in
    let doubtful : IsDoubtful c p u = IsDoubtful-failed c s (stands.closed refl) p ℕ 0 u now in
    subst (λ n. Stands true n u × (kept_by n u ≡ c) × (doubtful_by n u ≡ p)) (sym stands.end_is) (Stands-doubtful c p u stands.short next.short doubtful)

-- ---- between two calls

-- where it stands so, a crash leaves the payloads, or these and the doubtful one
pub held_now : (m : Meaning) (b : Bool) (end : ℕ) (s : DiskState) → Stands b end s → FollowsToo m b (kept_by end s) (doubtful_by end s)
    → LeavesOnly (IsHeld m b (kept_by end s) (doubtful_by end s)) s.durable
held_now m false end s stands proper = held_closed m end s stands proper
held_now m true end s stands both =
    at_gate (kept_by end s) (doubtful_by end s) s (stands.open_gate refl) m both.0 both.1 s.durable
    (stands.open_gate refl).unreached (stands.open_gate refl).gate_alone (stands.open_gate refl).no_shorter (stands.open_gate refl).no_longer refl

-- and so does the file read
pub reads_now : (m : Meaning) (b : Bool) (end : ℕ) (s : DiskState) → Stands b end s → FollowsToo m b (kept_by end s) (doubtful_by end s)
    → IsHeld m b (kept_by end s) (doubtful_by end s) s.file
reads_now m false end s stands proper = reads_closed m end s stands proper
reads_now m true end s stands both =
    let c = kept_by end s in
    let p = doubtful_by end s in
    let d = stands.open_gate refl in
    let rest = drop (length (body p) + 1) (drop (end_of c + 1) s.file) in
    let long : end_of c < length s.file = omega (arith, long_file c p s d) in
    let behind : drop (end_of c + 1) s.file ≡ body p ++ 0 ∷ rest =
    begins (length (body p) + 1) (body p ++ 0 ∷ []) (drop (end_of c + 1) s.file) d.reads_behind ∙ append_assoc (body p) (0 ∷ []) rest in
    let whole : s.file ≡ opened c ++ get_or s.file (end_of c) 0 ∷ (body p ++ 0 ∷ rest) =
    begins (end_of c) (opened c) s.file d.reads ∙ ap (λ l. opened c ++ l) (drop_more s.file (end_of c) 0 long ∙ ap (λ l. get_or s.file (end_of c) 0 ∷ l) behind) in
    subst (IsBeforeOrAfter m c p) (sym whole) (kept-gate m c p (get_or s.file (end_of c) 0) rest both.0 both.1)
