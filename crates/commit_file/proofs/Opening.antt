-- What a crash leaves while a payload is kept behind others, or a doubtful one is taken back.
use Rattle.std.proofs.Common.{◌≡◌, ◌⊎◌, inl, inr, ℕ, ◌+◌, ◌-◌, ◌<◌, ◌≤◌, min, List, [], ◌∷◌, ◌++◌, length, get_or, take, drop, Result, Ok, Err, refl, ap, sym, ◌∙◌, subst, append_assoc, arith}
use Rattle.std.proofs.Common.{length-append, length-drop}
use Rattle.std.specs.List.{AllByRecursion}
use Rattle.std.proofs.lemmas.List.{append-nil, take_at, drop_at, take-append-drop, length-take, drop_more}
use Rattle.dio_core.specs.Disks.{Durable, DiskState, MayLeave, IsUnreached, IsTorn, settled, loosened, shortened, overwritten, write_start, Writes, Syncs}
use Rattle.dio_core.specs.Moments.{LeavesOnly}
use Rattle.dio_core.proofs.Disks.{take-MayLeave, drop-MayLeave, torn-Writes}
use Rattle.commit_file.specs.Files.{Contents, opened, body, file, end_of, with_payload}
use Rattle.commit_file.specs.Kept.{Meaning, IsProper, IsBeforeOrAfter}
use Rattle.commit_file.specs.Standing.{IsClosed, IsDoubtful, gate_moments}
use Rattle.commit_file.specs.Through.{resting}
use Rattle.commit_file.proofs.Frames.{kept-closed, kept-gate, opened-last}
use Rattle.commit_file.proofs.Images.{begins, LeavesOnly-settled, LeavesOnly-begun, IsUnreached-loosened, IsUnreached-settled, take-overwritten, overwritten-begun}

-- an image that differs from what was synced in one byte at most, behind a beginning
one_byte : (n : ℕ) (xs back : List ℕ) (d : Durable) (image : List ℕ) → IsUnreached n d → AllByRecursion (λ range. range.1 ≤ n + 1) d.loose
    → length d.synced ≤ d.least → d.greatest ≤ length d.synced → n < length d.synced → take n d.synced ≡ xs → drop (n + 1) d.synced ≡ back
    → MayLeave d image → image ≡ xs ++ get_or image n 0 ∷ back
one_byte n xs back d image unreached alone least greatest inside front behind left =
    let long : n < length image = omega (arith, left.no_shorter) in
    let first : take n image ≡ xs = take-MayLeave n d image unreached.0 unreached.1 unreached.2 left ∙ front in
    let last : drop (n + 1) image ≡ back = drop-MayLeave (n + 1) d image least greatest alone left ∙ behind in
    begins n xs image first ∙ ap (λ l. xs ++ l) (drop_more image n 0 long ∙ ap (λ l. get_or image n 0 ∷ l) last)

pub LeavesOnly-gate : (P : List ℕ → Type 0) (n : ℕ) (xs back : List ℕ) (d : Durable) → IsUnreached n d → AllByRecursion (λ range. range.1 ≤ n + 1) d.loose
    → length d.synced ≤ d.least → d.greatest ≤ length d.synced → n < length d.synced → take n d.synced ≡ xs → drop (n + 1) d.synced ≡ back
    → ((gate : ℕ) → P (xs ++ gate ∷ back)) → LeavesOnly P d
LeavesOnly-gate P n xs back d unreached alone least greatest inside front behind holds image left =
    subst P (sym (one_byte n xs back d image unreached alone least greatest inside front behind left)) (holds (get_or image n 0))

-- a list of which a beginning is known, in two parts
pub two_parts : (n : ℕ) (xs : List ℕ) (b : ℕ) (all : List ℕ) → length xs ≡ n → take (n + 1) all ≡ xs ++ b ∷ [] → (take n all ≡ xs) × (n < length all)
two_parts n xs b all long front =
    let whole : all ≡ xs ++ b ∷ drop (n + 1) all = begins (n + 1) (xs ++ b ∷ []) all front ∙ append_assoc xs (b ∷ []) (drop (n + 1) all) in
    (ap (take n) whole ∙ take_at xs (b ∷ drop (n + 1) all) n long, omega (arith, ap length whole, length-append xs (b ∷ drop (n + 1) all)))

pub length-file : (c : Contents) → length (file c) ≡ end_of c + 1
length-file c = length-append (opened c) (0 ∷ [])

module _ (c : Contents) (s : DiskState) (closed : IsClosed c s) where
  inside : end_of c + 1 ≤ length s.file
  inside = omega (arith, ap length closed.reads, length-file c, length-take (end_of c + 1) s.file)

  start : min (end_of c + 1) (length s.file) ≡ end_of c + 1
  start = omega (arith, inside)

  -- a crash on a closed file
  pub at_closed : (P : List ℕ → Type 0) (d : Durable) → IsUnreached (end_of c + 1) d → take (end_of c + 1) d.synced ≡ file c
      → ((rest : List ℕ) → P (opened c ++ 0 ∷ rest)) → LeavesOnly P d
  at_closed P d unreached synced holds =
      LeavesOnly-begun P (end_of c + 1) (file c) d unreached synced (λ back long. subst P (sym (append_assoc (opened c) (0 ∷ []) back)) (holds back))

  -- a write behind the gate that failed
  pub IsClosed-failed : (E : Type 0) (e : E) (bytes : List ℕ) (t : DiskState) → Writes {A = ℕ} (Err e) (end_of c + 1) bytes s t → IsClosed c t
  IsClosed-failed E e bytes t wrote = elim (torn-Writes {A = ℕ} (Err e) (end_of c + 1) bytes s t wrote) [
    | inr same ↦ subst (IsClosed c) (sym same) closed
    | inl torn ↦
        let loose = loosened (min (end_of c + 1) (length s.file)) (end_of c + 1 + length bytes) s.durable in
        let before : take (end_of c + 1) t.file ≡ take (end_of c + 1) s.file =
        subst (λ n. take n t.file ≡ take n s.file) start torn.0.before in
        record {
          unreached = subst (IsUnreached (end_of c + 1)) (sym torn.1)
              (IsUnreached-loosened (end_of c + 1) (min (end_of c + 1) (length s.file)) (end_of c + 1 + length bytes) s.durable (omega (arith, inside)) closed.unreached);
          synced = ap (λ (d : Durable). take (end_of c + 1) d.synced) torn.1 ∙ closed.synced;
          reads = before ∙ closed.reads;
        }
  ]

  -- a sync, done or failed
  pub IsClosed-synced : (A E : Type 0) (r : Result A E) (t : DiskState) → Syncs r s t → IsClosed c t
  IsClosed-synced A E (Err e) t same = subst (IsClosed c) (sym same) closed
  IsClosed-synced A E (Ok a) t same = subst (IsClosed c) (sym same) (record {
    unreached = IsUnreached-settled (end_of c + 1) s.file inside;
    synced = closed.reads;
    reads = closed.reads;
  })

  module _ (p : List ℕ) where
    abbrev pub bytes : List ℕ
    bytes = body p ++ 0 ∷ []

    abbrev pub rest : List ℕ
    rest = drop (length bytes) (drop (end_of c + 1) s.file)

    -- with the payload behind the gate
    abbrev pub staged : List ℕ
    staged = overwritten s.file (end_of c + 1) bytes

    staged-is : staged ≡ opened c ++ 0 ∷ (body p ++ 0 ∷ rest)
    staged-is =
        let whole : s.file ≡ file c ++ drop (end_of c + 1) s.file = begins (end_of c + 1) (file c) s.file closed.reads in
        ap (λ f. overwritten f (end_of c + 1) bytes) whole
        ∙ ap (λ n. overwritten (file c ++ drop (end_of c + 1) s.file) n bytes) (sym (length-file c))
        ∙ overwritten-begun (file c) (drop (end_of c + 1) s.file) bytes
        ∙ append_assoc (opened c) (0 ∷ []) (bytes ++ rest)
        ∙ ap (λ l. opened c ++ 0 ∷ l) (append_assoc (body p) (0 ∷ []) rest)

    -- and the gate open
    opened_gate : (gate : ℕ) → overwritten staged (end_of c) (gate ∷ []) ≡ opened c ++ gate ∷ (body p ++ 0 ∷ rest)
    opened_gate gate =
        ap (λ f. overwritten f (end_of c) (gate ∷ [])) staged-is ∙ overwritten-begun (opened c) (0 ∷ (body p ++ 0 ∷ rest)) (gate ∷ [])

    abbrev P : Meaning → List ℕ → Type 0
    P m = IsBeforeOrAfter m c p

    closed_has : (m : Meaning) → IsProper m c → (back : List ℕ) → P m (opened c ++ 0 ∷ back)
    closed_has m proper back = inl (kept-closed m c back proper)

    staged_long : length staged ≡ end_of c + (length (body p ++ 0 ∷ rest) + 1)
    staged_long = ap length staged-is ∙ length-append (opened c) (0 ∷ (body p ++ 0 ∷ rest)) ∙ omega arith

    staged_front : take (end_of c) staged ≡ opened c
    staged_front = ap (take (end_of c)) staged-is ∙ take_at (opened c) (0 ∷ (body p ++ 0 ∷ rest)) (end_of c) refl

    staged_behind : drop (end_of c + 1) staged ≡ body p ++ 0 ∷ rest
    staged_behind =
        ap (drop (end_of c + 1)) (staged-is ∙ sym (append_assoc (opened c) (0 ∷ []) (body p ++ 0 ∷ rest)))
        ∙ drop_at (file c) (body p ++ 0 ∷ rest) (end_of c + 1) (length-file c)

    -- while the gate is opened
    gate_loose : (m : Meaning) → IsProper m c → IsProper m (with_payload c p) → LeavesOnly (P m) (loosened (min (end_of c) (length staged)) (end_of c + 1) (settled staged))
    gate_loose m proper after =
        let d = loosened (min (end_of c) (length staged)) (end_of c + 1) (settled staged) in
        LeavesOnly-gate (P m) (end_of c) (opened c) (body p ++ 0 ∷ rest) d
        (IsUnreached-loosened (end_of c) (min (end_of c) (length staged)) (end_of c + 1) (settled staged) (omega (arith, staged_long)) (IsUnreached-settled (end_of c) staged (omega (arith, staged_long))))
        (omega arith, tt) (omega arith) (omega (arith, staged_long)) (omega (arith, staged_long)) staged_front staged_behind
        (λ gate. kept-gate m c p gate rest proper after)

    -- each moment of keeping it
    pub kept_moments : (m : Meaning) → IsProper m c → IsProper m (with_payload c p)
        → AllByRecursion (LeavesOnly (P m)) (gate_moments 1 (end_of c) bytes s)
    kept_moments m proper after =
        let Q : Durable → Type 0 = LeavesOnly (P m) in
        let before : Q s.durable = at_closed (P m) s.durable closed.unreached closed.synced (closed_has m proper) in
        let behind : Q (loosened (min (end_of c + 1) (length s.file)) (end_of c + 1 + length bytes) s.durable) =
        at_closed (P m) (loosened (min (end_of c + 1) (length s.file)) (end_of c + 1 + length bytes) s.durable)
        (IsUnreached-loosened (end_of c + 1) (min (end_of c + 1) (length s.file)) (end_of c + 1 + length bytes) s.durable (omega (arith, inside)) closed.unreached)
        closed.synced (closed_has m proper) in
        let written : Q (settled staged) = LeavesOnly-settled (P m) staged (subst (P m) (sym staged-is) (closed_has m proper (body p ++ 0 ∷ rest))) in
        let done : Q (settled (overwritten staged (end_of c) (1 ∷ []))) =
        LeavesOnly-settled (P m) (overwritten staged (end_of c) (1 ∷ [])) (subst (P m) (sym (opened_gate 1)) (kept-gate m c p 1 rest proper after)) in
        (before, (behind, (written, (written, (gate_loose m proper after, (done, tt))))))

    -- once it is kept
    pub IsClosed-kept : IsClosed (with_payload c p) (resting (overwritten staged (end_of c) (1 ∷ [])))
    IsClosed-kept =
        let qs = with_payload c p in
        let whole : overwritten staged (end_of c) (1 ∷ []) ≡ file qs ++ rest =
        opened_gate 1 ∙ sym (opened-last c p (0 ∷ rest)) ∙ sym (append_assoc (opened qs) (0 ∷ []) rest) in
        let front : take (end_of qs + 1) (overwritten staged (end_of c) (1 ∷ [])) ≡ file qs =
        ap (take (end_of qs + 1)) whole ∙ take_at (file qs) rest (end_of qs + 1) (length-file qs) in
        record {
          unreached = IsUnreached-settled (end_of qs + 1) (overwritten staged (end_of c) (1 ∷ []))
              (omega (arith, ap length whole, length-append (file qs) rest, length-file qs));
          synced = front;
          reads = front;
        }

    -- where the write at the gate, or the sync behind it, failed
    pub IsDoubtful-failed : (E : Type 0) (e : E) (t : DiskState) → Writes {A = ℕ} (Err e) (end_of c) (1 ∷ []) (resting staged) t → IsDoubtful c p t
    IsDoubtful-failed E e t wrote =
        let short : length (body p) + 1 ≡ length (body p ++ 0 ∷ []) = sym (length-append (body p) (0 ∷ [])) in
        let seen : take (length (body p) + 1) (body p ++ 0 ∷ rest) ≡ body p ++ 0 ∷ [] =
        ap (take (length (body p) + 1)) (sym (append_assoc (body p) (0 ∷ []) rest)) ∙ take_at (body p ++ 0 ∷ []) rest (length (body p) + 1) (sym short) in
        let synced_seen : take (length (body p) + 1) (drop (end_of c + 1) staged) ≡ body p ++ 0 ∷ [] = ap (take (length (body p) + 1)) staged_behind ∙ seen in
        elim (torn-Writes {A = ℕ} (Err e) (end_of c) (1 ∷ []) (resting staged) t wrote) [
          | inr same ↦ subst (IsDoubtful c p) (sym same) (record {
            unreached = IsUnreached-settled (end_of c) staged (omega (arith, staged_long));
            gate_alone = tt;
            no_shorter = omega arith;
            no_longer = omega arith;
            synced = staged_front;
            synced_behind = synced_seen;
            reads = staged_front;
            reads_behind = synced_seen;
          })
          | inl torn ↦
              let first : min (end_of c) (length staged) ≡ end_of c = omega (arith, staged_long) in
              let d = loosened (min (end_of c) (length staged)) (end_of c + 1) (settled staged) in
              let Q : Durable → Type 0 = λ d. IsUnreached (end_of c) d × AllByRecursion (λ range. range.1 ≤ end_of c + 1) d.loose × (length d.synced ≤ d.least) × (d.greatest ≤ length d.synced) × (d.synced ≡ staged) in
              let same : Q t.durable = subst Q (sym torn.1) (
                IsUnreached-loosened (end_of c) (min (end_of c) (length staged)) (end_of c + 1) (settled staged) (omega (arith, staged_long)) (IsUnreached-settled (end_of c) staged (omega (arith, staged_long))),
                (omega arith, tt),
                omega arith,
                omega (arith, staged_long),
                refl,
              ) in
              record {
                unreached = same.0;
                gate_alone = same.1;
                no_shorter = same.2;
                no_longer = same.3;
                synced = ap (take (end_of c)) same.4 ∙ staged_front;
                synced_behind = ap (λ f. take (length (body p) + 1) (drop (end_of c + 1) f)) same.4 ∙ synced_seen;
                reads = subst (λ n. take n t.file ≡ take n staged) first torn.0.before ∙ staged_front;
                reads_behind = ap (take (length (body p) + 1)) torn.0.behind ∙ synced_seen;
              }
        ]
