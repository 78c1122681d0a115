-- What a crash leaves while a doubtful payload is taken back.
use Rattle.std.proofs.Common.{◌≡◌, ◌⊎◌, inl, inr, ℕ, ◌+◌, ◌-◌, ◌<◌, ◌≤◌, min, List, [], ◌∷◌, ◌++◌, length, get_or, take, drop, Result, Ok, Err, refl, ap, sym, ◌∙◌, subst, append_assoc, arith}
use Rattle.std.proofs.Common.{length-append, length-drop}
use Rattle.std.specs.List.{AllByRecursion}
use Rattle.std.proofs.lemmas.List.{append-nil, take_at, drop_at, take-append-drop, length-take, drop_more}
use Rattle.dio_core.specs.Disks.{Durable, DiskState, MayLeave, IsUnreached, IsTorn, settled, loosened, shortened, overwritten, write_start, Writes, Syncs}
use Rattle.dio_core.specs.Moments.{LeavesOnly}
use Rattle.dio_core.proofs.Disks.{torn-Writes}
use Rattle.commit_file.specs.Files.{Contents, opened, body, file, end_of, with_payload}
use Rattle.commit_file.specs.Kept.{Meaning, IsProper, IsBeforeOrAfter}
use Rattle.commit_file.specs.Standing.{IsClosed, IsDoubtful}
use Rattle.commit_file.specs.Through.{resting, write_moments}
use Rattle.commit_file.proofs.Frames.{kept-closed, kept-gate, length-body}
use Rattle.commit_file.proofs.Images.{begins, LeavesOnly-settled, IsUnreached-loosened, IsUnreached-settled, overwritten-begun}
use Rattle.commit_file.proofs.Opening.{LeavesOnly-gate, length-file}

-- what lies behind, where its beginning isn't empty
some_behind : (n m : ℕ) (all xs : List ℕ) (b : ℕ) → take m (drop n all) ≡ xs ++ b ∷ [] → n < length all
some_behind n m all xs b seen =
    omega (arith, ap length seen, length-append xs (b ∷ []), length-take m (drop n all), length-drop n all)

module _ (c : Contents) (p : List ℕ) (s : DiskState) (doubtful : IsDoubtful c p s) where
  long : end_of c + 1 < length s.durable.synced
  long = some_behind (end_of c + 1) (length (body p) + 1) s.durable.synced (body p) 0 doubtful.synced_behind

  pub long_file : end_of c + 1 < length s.file
  long_file = some_behind (end_of c + 1) (length (body p) + 1) s.file (body p) 0 doubtful.reads_behind

  abbrev rest : List ℕ
  rest = drop (length (body p) + 1) (drop (end_of c + 1) s.durable.synced)

  behind : drop (end_of c + 1) s.durable.synced ≡ body p ++ 0 ∷ rest
  behind = begins (length (body p) + 1) (body p ++ 0 ∷ []) (drop (end_of c + 1) s.durable.synced) doubtful.synced_behind ∙ append_assoc (body p) (0 ∷ []) rest

  abbrev P : Meaning → List ℕ → Type 0
  P m = IsBeforeOrAfter m c p

  -- a crash on a file that differs at the gate alone
  pub at_gate : (m : Meaning) → IsProper m c → IsProper m (with_payload c p) → (d : Durable) → IsUnreached (end_of c) d
      → AllByRecursion (λ range. range.1 ≤ end_of c + 1) d.loose → length d.synced ≤ d.least
      → d.greatest ≤ length d.synced → d.synced ≡ s.durable.synced → LeavesOnly (P m) d
  at_gate m proper after d unreached alone least greatest same =
      LeavesOnly-gate (P m) (end_of c) (opened c) (body p ++ 0 ∷ rest) d unreached alone least greatest (omega (arith, long, ap length same))
      (ap (take (end_of c)) same ∙ doubtful.synced) (ap (drop (end_of c + 1)) same ∙ behind)
      (λ gate. kept-gate m c p gate rest proper after)

  start : min (end_of c) (length s.file) ≡ end_of c
  start = omega (arith, long_file)

  abbrev loose : Durable
  loose = loosened (min (end_of c) (length s.file)) (end_of c + 1) s.durable

  loose_unreached : IsUnreached (end_of c) loose
  loose_unreached = IsUnreached-loosened (end_of c) (min (end_of c) (length s.file)) (end_of c + 1) s.durable (omega (arith, long_file)) doubtful.unreached

  loose_longest : loose.greatest ≤ length s.durable.synced
  loose_longest = omega (arith, long, doubtful.no_longer)

  -- the file once the gate is closed
  shut : overwritten s.file (end_of c) (0 ∷ []) ≡ opened c ++ 0 ∷ drop 1 (drop (end_of c) s.file)
  shut = ap (λ f. overwritten f (end_of c) (0 ∷ [])) (begins (end_of c) (opened c) s.file doubtful.reads)
      ∙ overwritten-begun (opened c) (drop (end_of c) s.file) (0 ∷ [])

  -- each moment of closing the gate again
  pub mended_moments : (m : Meaning) → IsProper m c → IsProper m (with_payload c p)
      → AllByRecursion (LeavesOnly (P m)) (write_moments (end_of c) (0 ∷ []) s)
  mended_moments m proper after =
      let Q : Durable → Type 0 = LeavesOnly (P m) in
      let before : Q s.durable = at_gate m proper after s.durable doubtful.unreached doubtful.gate_alone doubtful.no_shorter doubtful.no_longer refl in
      let during : Q loose = at_gate m proper after loose loose_unreached (omega arith, doubtful.gate_alone) doubtful.no_shorter loose_longest refl in
      let done : Q (settled (overwritten s.file (end_of c) (0 ∷ []))) =
      LeavesOnly-settled (P m) (overwritten s.file (end_of c) (0 ∷ [])) (subst (P m) (sym shut) (inl (kept-closed m c (drop 1 (drop (end_of c) s.file)) proper))) in
      (before, (during, (done, tt)))

  -- once it is closed
  pub IsClosed-mended : IsClosed c (resting (overwritten s.file (end_of c) (0 ∷ [])))
  IsClosed-mended =
      let back = drop 1 (drop (end_of c) s.file) in
      let whole : overwritten s.file (end_of c) (0 ∷ []) ≡ file c ++ back = shut ∙ sym (append_assoc (opened c) (0 ∷ []) back) in
      let front : take (end_of c + 1) (overwritten s.file (end_of c) (0 ∷ [])) ≡ file c =
      ap (take (end_of c + 1)) whole ∙ take_at (file c) back (end_of c + 1) (length-file c) in
      record {
        unreached = IsUnreached-settled (end_of c + 1) (overwritten s.file (end_of c) (0 ∷ []))
            (omega (arith, ap length whole, length-append (file c) back, length-file c));
        synced = front;
        reads = front;
      }

  -- where that failed
  pub IsDoubtful-still : (E : Type 0) (e : E) (t : DiskState) → Writes {A = ℕ} (Err e) (end_of c) (0 ∷ []) s t → IsDoubtful c p t
  IsDoubtful-still E e t (inr same) = subst (IsDoubtful c p) (sym same) doubtful
  IsDoubtful-still E e t (inl torn) =
      let Q : Durable → Type 0 = λ d. IsUnreached (end_of c) d × AllByRecursion (λ range. range.1 ≤ end_of c + 1) d.loose × (length d.synced ≤ d.least) × (d.greatest ≤ length d.synced) × (d.synced ≡ s.durable.synced) in
      let same : Q t.durable = subst Q (sym torn.1) (loose_unreached, (omega arith, doubtful.gate_alone), doubtful.no_shorter, loose_longest, refl) in
      record {
        unreached = same.0;
        gate_alone = same.1;
        no_shorter = same.2;
        no_longer = same.3;
        synced = ap (take (end_of c)) same.4 ∙ doubtful.synced;
        synced_behind = ap (λ f. take (length (body p) + 1) (drop (end_of c + 1) f)) same.4 ∙ doubtful.synced_behind;
        reads = subst (λ n. take n t.file ≡ take n s.file) start torn.0.before ∙ doubtful.reads;
        reads_behind = ap (take (length (body p) + 1)) torn.0.behind ∙ doubtful.reads_behind;
      }
