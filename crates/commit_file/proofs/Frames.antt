-- What bytes that begin with open frames are kept as.
use Rattle.std.proofs.Common.{◌≡◌, ◌≢◌, ◌⊎◌, inl, inr, ℕ, zero, suc, ◌+◌, ◌-◌, ◌^◌, ◌<◌, ◌≤◌, Bool, true, false, cond, ltb, List, [], ◌∷◌, ◌++◌, length, take, drop, Option, Some, None, refl, ap, sym, ◌∙◌, subst, append_assoc, arith}
use Rattle.std.proofs.Common.{length-append, nat_eq}
use Rattle.std.specs.Prelude.{◌==◌, IsTrue}
use Rattle.std.specs.List.{AllByRecursion}
use Rattle.std.specs.Int.{w32, to_be_bytes, from_be_bytes}
use Rattle.std.proofs.lemmas.Bool.{cases_eq, cases_lt, ltb-true, lt-ltb, le-ltb}
use Rattle.std.proofs.lemmas.Bool.Decides.{nat_tests}
use Rattle.std.proofs.lemmas.List.{append-nil, take_at, drop_at, take-append-drop, length-take}
use Rattle.std.specs.Cmp.Lexicographic.{pointwise}
use Rattle.std.proofs.lemmas.Nat.{from_be_bytes-to_be_bytes_4}
use Rattle.commit_file.specs.declared.version.Version.{Version}
use Rattle.commit_file.specs.declared.version.Version.TheVariants.{One, Two}
use Rattle.commit_file.specs.Files.{Contents, header, body, frame, frames, opened, all_of, with_payload, AreShort, IsShort}
use Rattle.commit_file.specs.Files.Contents.{Current, Marked}
use Rattle.commit_file.specs.Kept.{Meaning, Reading, length_field, payload_behind, payload_at, stride, listed, payloads_past, payloads, behind_frames}
use Rattle.commit_file.specs.Kept.{payloads_marked, checked, continued, checked_old, kept, Follow, Follows, IsProper, IsBeforeOrAfter}
use Rattle.commit_file.specs.Kept.Reading.{Journal, NotJournal}

-- bytes that are passed over
payloads_past-over : (n : ℕ) (xs rest : List ℕ) → length xs ≡ n → payloads_past n (xs ++ rest) ≡ payloads rest
payloads_past-over zero [] rest long = refl
payloads_past-over zero (x ∷ xs) rest long = absurd (omega (arith, long))
payloads_past-over (suc n) [] rest long = absurd (omega (arith, long))
payloads_past-over (suc n) (x ∷ xs) rest long = payloads_past-over n xs rest (omega (arith, long))

-- how long a payload is behind its gate
pub length-body : (p : List ℕ) → length (body p) ≡ 4 + length p
length-body p = length-append (to_be_bytes w32 (length p)) p

-- the payload behind its gate
pub payload_behind-body : (p rest : List ℕ) → length p < 2 ^ 32 → payload_behind (body p ++ rest) ≡ Some p
payload_behind-body p rest short =
    let parts : body p ++ rest ≡ to_be_bytes w32 (length p) ++ (p ++ rest) = append_assoc (to_be_bytes w32 (length p)) p rest in
    let field : length_field (body p ++ rest) ≡ length p =
    ap (λ bytes. from_be_bytes w32 (take 4 bytes)) parts ∙ ap (from_be_bytes w32) (take_at (to_be_bytes w32 (length p)) (p ++ rest) 4 refl)
    ∙ from_be_bytes-to_be_bytes_4 (length p) short in
    let long : ltb (length (body p ++ rest)) (4 + length p) ≡ false =
    le-ltb (length (body p ++ rest)) (4 + length p) (omega (arith, length-append (body p) rest, length-body p)) in
    let behind : drop 4 (body p ++ rest) ≡ p ++ rest = ap (drop 4) parts ∙ drop_at (to_be_bytes w32 (length p)) (p ++ rest) 4 refl in
    rw (field, long, behind, take_at p rest (length p) refl) refl

-- an open frame, and what is read behind it
pub payloads-frame : (p rest : List ℕ) → length p < 2 ^ 32 → payloads (frame p ++ rest) ≡ p ∷ payloads rest
payloads-frame p rest short =
    let found : payload_behind (body p ++ rest) ≡ Some p = payload_behind-body p rest short in
    ap (λ o. listed o (payloads_past (stride o) (body p ++ rest))) found
    ∙ ap (λ ps. p ∷ ps) (payloads_past-over (4 + length p) (body p) rest (length-body p))

-- several
pub payloads-frames : (ps : List (List ℕ)) (rest : List ℕ) → AreShort ps → payloads (frames ps ++ rest) ≡ ps ++ payloads rest
payloads-frames [] rest short = refl
payloads-frames (p ∷ ps) rest short =
    ap payloads (append_assoc (frame p) (frames ps) rest) ∙ payloads-frame p (frames ps ++ rest) short.0
    ∙ ap (λ qs. p ∷ qs) (payloads-frames ps rest short.1)

-- behind a gate that isn't open nothing is read
pub payloads-closed : (gate : ℕ) (rest : List ℕ) → gate ≢ 1 → payloads (gate ∷ rest) ≡ []
payloads-closed gate rest shut =
    let no : (gate == 1) ≡ false = grind (arith, nat_tests) in
    ap (λ b. let o = cond b (payload_behind rest) None in listed o (payloads_past (stride o) rest)) no

-- nor where there is one byte at most
pub payloads-one : (xs : List ℕ) → length xs ≤ 1 → payloads xs ≡ []
payloads-one [] few = refl
payloads-one (gate ∷ []) few = elim (cases_eq gate 1) [ inl is_open ↦ subst (λ g. payloads (g ∷ []) ≡ []) (sym is_open) refl | inr shut ↦ payloads-closed gate [] shut ]
payloads-one (a ∷ b ∷ xs) few = absurd (omega arith)

-- no payload behind a gate, and none behind it where less is left
payload_behind-take : (k : ℕ) (xs : List ℕ) → payload_behind xs ≡ None → payload_behind (take k xs) ≡ None
payload_behind-take k xs none = elim (cases_lt (length (take k xs)) (4 + length_field (take k xs))) [
  | inl lt ↦ ap (λ b. cond b None (Some (take (length_field (take k xs)) (drop 4 (take k xs))))) (lt-ltb _ _ lt)
  | inr le ↦
      let cut = length-take k xs in
      let same : length_field (take k xs) ≡ length_field xs = ap (from_be_bytes w32) (take-take 4 k xs (omega (arith, cut))) in
      let whole : ltb (length xs) (4 + length_field xs) ≡ false = le-ltb _ _ (omega (arith, cut, same)) in
      let found : payload_behind xs ≡ Some (take (length_field xs) (drop 4 xs)) = ap (λ b. cond b None (Some (take (length_field xs) (drop 4 xs)))) whole in
      absurd (cc (none, found))
]
  where
    take-take : (a b : ℕ) (ys : List ℕ) → a ≤ b → take a (take b ys) ≡ take a ys
    take-take zero b ys le = refl
    take-take (suc a) zero ys le = absurd (omega arith)
    take-take (suc a) (suc b) [] le = refl
    take-take (suc a) (suc b) (y ∷ ys) le = ap (λ l. y ∷ l) (take-take a b ys (omega arith))

-- where nothing is listed, there is no first payload
listed-nothing : (o : Option (List ℕ)) (ps : List (List ℕ)) → listed o ps ≡ [] → o ≡ None
listed-nothing None ps none = refl
listed-nothing (Some p) ps none = absurd (cc none)

-- a part of bytes in which no frame is open opens none
pub payloads-take : (m : ℕ) (xs : List ℕ) → payloads xs ≡ [] → payloads (take m xs) ≡ []
payloads-take zero xs none = refl
payloads-take (suc m) [] none = refl
payloads-take (suc m) (gate ∷ xs) none = elim (cases_eq gate 1) [
  | inr shut ↦ payloads-closed gate (take m xs) shut
  | inl is_open ↦
      let yes : (gate == 1) ≡ true = grind (arith, nat_tests) in
      let at : payload_at (gate ∷ xs) ≡ None = listed-nothing (payload_at (gate ∷ xs)) (payloads_past (stride (payload_at (gate ∷ xs))) xs) none in
      let behind : payload_behind xs ≡ None = ap (λ b. cond b (payload_behind xs) None) (sym yes) ∙ at in
      let now : payload_at (gate ∷ take m xs) ≡ None = ap (λ b. cond b (payload_behind (take m xs)) None) yes ∙ payload_behind-take m xs behind in
      ap (λ o. listed o (payloads_past (stride o) (take m xs))) now
]

-- ---- whether they follow

pub checked-Follow : (m : Meaning) (v : Version) (before : List (List ℕ)) (at : ℕ) (ps : List (List ℕ)) → Follow m v before ps
    → checked m v before at ps ≡ Journal (before ++ ps)
checked-Follow m v before at [] follow = ap Journal (sym (append-nil before))
checked-Follow m v before at (p ∷ ps) follow =
    ap (λ b. cond b (checked m v (before ++ p ∷ []) (at + length (frame p)) ps) (NotJournal at)) follow.0
    ∙ checked-Follow m v (before ++ p ∷ []) (at + length (frame p)) ps follow.1 ∙ ap Journal (append_assoc before (p ∷ []) ps)

pub checked-stops : (m : Meaning) (v : Version) (before : List (List ℕ)) (at : ℕ) (ps : List (List ℕ)) (p : List ℕ) (qs : List (List ℕ))
    → Follow m v before ps → m v (before ++ ps) p ≡ false → checked m v before at (ps ++ p ∷ qs) ≡ NotJournal (at + length (frames ps))
checked-stops m v before at [] p qs follow not =
    let here : m v before p ≡ false = ap (λ l. m v l p) (sym (append-nil before)) ∙ not in
    ap (λ b. cond b (checked m v (before ++ p ∷ []) (at + length (frame p)) qs) (NotJournal at)) here ∙ ap NotJournal (omega arith)
checked-stops m v before at (x ∷ ps) p qs follow not =
    let here : m v ((before ++ x ∷ []) ++ ps) p ≡ false = ap (λ l. m v l p) (append_assoc before (x ∷ []) ps) ∙ not in
    ap (λ b. cond b (checked m v (before ++ x ∷ []) (at + length (frame x)) (ps ++ p ∷ qs)) (NotJournal at)) follow.0
    ∙ checked-stops m v (before ++ x ∷ []) (at + length (frame x)) ps p qs follow.1 here
    ∙ ap NotJournal (omega (arith, length-append (frame x) (frames ps)))

pub Follow-last : (m : Meaning) (v : Version) (before ps : List (List ℕ)) (p : List ℕ) → Follow m v before ps → m v (before ++ ps) p ≡ true
    → Follow m v before (ps ++ p ∷ [])
Follow-last m v before [] p follow next = (ap (λ l. m v l p) (sym (append-nil before)) ∙ next, tt)
Follow-last m v before (x ∷ ps) p follow next =
    (follow.0, Follow-last m v (before ++ x ∷ []) ps p follow.1 (ap (λ l. m v l p) (append_assoc before (x ∷ []) ps) ∙ next))

pub AreShort-last : (ps : List (List ℕ)) (p : List ℕ) → AreShort ps → length p < 2 ^ 32 → AreShort (ps ++ p ∷ [])
AreShort-last [] p short next = (next, tt)
AreShort-last (x ∷ ps) p short next = (short.0, AreShort-last ps p short.1 next)

pub IsShort-last : (c : Contents) (p : List ℕ) → IsShort c → length p < 2 ^ 32 → IsShort (with_payload c p)
IsShort-last (Current ps) p short next = AreShort-last ps p short next
IsShort-last (Marked old ps) p short next = (short.0, AreShort-last ps p short.1 next)

-- ---- whole files

-- whatever a file of at most 13 bytes has
pub kept-short : (m : Meaning) (bytes : List ℕ) → length bytes ≤ 13 → kept m bytes ≡ Journal []
kept-short m bytes few =
    ap (λ b. cond b (cond (pointwise nat_eq (take 12 bytes) (header Two)) (checked m Two [] 12 (payloads (drop 12 bytes)))
    (cond (pointwise nat_eq (take 12 bytes) (header One)) (checked_old m (drop 12 bytes)) (NotJournal 0))) (Journal []))
    (le-ltb 13 (length bytes) few)

pub kept-long : (m : Meaning) (rest : List ℕ) → 1 < length rest → kept m (header Two ++ rest) ≡ checked m Two [] 12 (payloads rest)
kept-long m rest more =
    ap (λ b. cond b (checked m Two [] 12 (payloads rest)) (Journal []))
    (lt-ltb 13 (length (header Two ++ rest)) (omega (arith, length-append (header Two) rest)))

pub kept-long_old : (m : Meaning) (rest : List ℕ) → 1 < length rest → kept m (header One ++ rest) ≡ checked_old m rest
kept-long_old m rest more =
    ap (λ b. cond b (checked_old m rest) (Journal []))
    (lt-ltb 13 (length (header One ++ rest)) (omega (arith, length-append (header One) rest)))

pub no_frames : (ps : List (List ℕ)) → length (frames ps) ≤ 1 → ps ≡ []
no_frames [] few = refl
no_frames (p ∷ ps) few = absurd (omega (arith, length-append (frame p) (frames ps), length-body p))

-- what is read of frames, and of what opens none behind them
payloads-whole : (ps : List (List ℕ)) (rest : List ℕ) → AreShort ps → payloads rest ≡ [] → payloads (frames ps ++ rest) ≡ ps
payloads-whole ps rest short none = payloads-frames ps rest short ∙ ap (λ qs. ps ++ qs) none ∙ append-nil ps

behind-whole : (ps : List (List ℕ)) (rest : List ℕ) → AreShort ps → payloads rest ≡ [] → behind_frames (frames ps ++ rest) ≡ rest
behind-whole ps rest short none =
    ap (λ qs. drop (length (frames qs)) (frames ps ++ rest)) (payloads-whole ps rest short none) ∙ drop_at (frames ps) rest (length (frames ps)) refl

-- frames of version 1, and what stands behind them
pub checked_old-whole : (m : Meaning) (ps : List (List ℕ)) (rest : List ℕ) → Follow m One [] ps → AreShort ps → payloads rest ≡ []
    → checked_old m (frames ps ++ rest) ≡ checked m Two ps (12 + length (frames ps) + 1) (payloads_marked rest)
checked_old-whole m ps rest follow short none =
    let read : payloads (frames ps ++ rest) ≡ ps = payloads-whole ps rest short none in
    ap (λ qs. continued m (checked m One [] 12 qs) (12 + length (frames qs) + 1) (payloads_marked (behind_frames (frames ps ++ rest)))) read
    ∙ ap (λ l. continued m (checked m One [] 12 ps) (12 + length (frames ps) + 1) (payloads_marked l)) (behind-whole ps rest short none)
    ∙ ap (λ reading. continued m reading (12 + length (frames ps) + 1) (payloads_marked rest)) (checked-Follow m One [] 12 ps follow)

-- a file of version 2: frames that follow one another, and then what opens none
kept-current : (m : Meaning) (ps : List (List ℕ)) (rest : List ℕ) → Follow m Two [] ps → AreShort ps → payloads rest ≡ []
    → kept m (header Two ++ (frames ps ++ rest)) ≡ Journal ps
kept-current m ps rest follow short none = elim (cases_lt 1 (length (frames ps ++ rest))) [
  | inl more ↦ kept-long m (frames ps ++ rest) more ∙ ap (checked m Two [] 12) (payloads-whole ps rest short none) ∙ checked-Follow m Two [] 12 ps follow
  | inr few ↦
      kept-short m (header Two ++ (frames ps ++ rest)) (omega (arith, length-append (header Two) (frames ps ++ rest)))
      ∙ ap Journal (sym (no_frames ps (omega (arith, length-append (frames ps) rest))))
]

-- one of version 1: frames that follow one another, and then what opens none, also behind a mark
pub kept-unmarked : (m : Meaning) (ps : List (List ℕ)) (rest : List ℕ) → Follow m One [] ps → AreShort ps → payloads rest ≡ []
    → payloads_marked rest ≡ [] → kept m ((header One ++ frames ps) ++ rest) ≡ Journal ps
kept-unmarked m ps rest follow short none unmarked = ap (kept m) (append_assoc (header One) (frames ps) rest) ∙ elim (cases_lt 1 (length (frames ps ++ rest))) [
  | inl more ↦
      kept-long_old m (frames ps ++ rest) more ∙ checked_old-whole m ps rest follow short none
      ∙ ap (checked m Two ps (12 + length (frames ps) + 1)) unmarked
  | inr few ↦
      kept-short m (header One ++ (frames ps ++ rest)) (omega (arith, length-append (header One) (frames ps ++ rest)))
      ∙ ap Journal (sym (no_frames ps (omega (arith, length-append (frames ps) rest))))
]

-- one with a mark, behind which frames follow, and then what opens none
kept-marked : (m : Meaning) (old ps : List (List ℕ)) (rest : List ℕ) → Follow m One [] old → Follow m Two old ps → AreShort old → AreShort ps
    → payloads rest ≡ [] → kept m (header One ++ (frames old ++ 2 ∷ (frames ps ++ rest))) ≡ Journal (old ++ ps)
kept-marked m old ps rest follow then_follow short then_short none =
    let long = length-append (frames old) (2 ∷ (frames ps ++ rest)) in
    elim (cases_lt 1 (length (frames old ++ 2 ∷ (frames ps ++ rest)))) [
      | inl more ↦
          kept-long_old m (frames old ++ 2 ∷ (frames ps ++ rest)) more
          ∙ checked_old-whole m old (2 ∷ (frames ps ++ rest)) follow short refl
          ∙ ap (checked m Two old (12 + length (frames old) + 1)) (payloads-whole ps rest then_short none)
          ∙ checked-Follow m Two old (12 + length (frames old) + 1) ps then_follow
      | inr few ↦
          let first : old ≡ [] = no_frames old (omega (arith, long)) in
          let second : ps ≡ [] = no_frames ps (omega (arith, long, length-append (frames ps) rest)) in
          kept-short m (header One ++ (frames old ++ 2 ∷ (frames ps ++ rest))) (omega (arith, length-append (header One) (frames old ++ 2 ∷ (frames ps ++ rest))))
          ∙ ap Journal (sym (ap (λ l. l ++ ps) first ∙ second))
    ]

-- contents that are proper, and then what opens no frame
pub kept-opened : (m : Meaning) (c : Contents) (rest : List ℕ) → IsProper m c → payloads rest ≡ [] → kept m (opened c ++ rest) ≡ Journal (all_of c)
kept-opened m (Current ps) rest proper none =
    ap (kept m) (append_assoc (header Two) (frames ps) rest) ∙ kept-current m ps rest proper.follow proper.short none
kept-opened m (Marked old ps) rest proper none =
    ap (kept m) (append_assoc (header One ++ frames old) (2 ∷ frames ps) rest ∙ append_assoc (header One) (frames old) (2 ∷ (frames ps ++ rest)))
    ∙ kept-marked m old ps rest proper.follow.0 proper.follow.1 proper.short.0 proper.short.1 none

pub kept-closed : (m : Meaning) (c : Contents) (rest : List ℕ) → IsProper m c → kept m (opened c ++ 0 ∷ rest) ≡ Journal (all_of c)
kept-closed m c rest proper = kept-opened m c (0 ∷ rest) proper refl

-- a payload more
pub all_of-with : (c : Contents) (p : List ℕ) → all_of (with_payload c p) ≡ all_of c ++ p ∷ []
all_of-with (Current ps) p = refl
all_of-with (Marked old ps) p = sym (append_assoc old ps (p ∷ []))

pub frames-last : (ps : List (List ℕ)) (p : List ℕ) → frames (ps ++ p ∷ []) ≡ frames ps ++ frame p
frames-last [] p = append-nil (frame p)
frames-last (x ∷ ps) p = ap (λ l. frame x ++ l) (frames-last ps p) ∙ sym (append_assoc (frame x) (frames ps) (frame p))

-- the written part with a payload more
opened-with : (c : Contents) (p : List ℕ) → opened (with_payload c p) ≡ opened c ++ frame p
opened-with (Current ps) p = ap (λ l. header Two ++ l) (frames-last ps p) ∙ sym (append_assoc (header Two) (frames ps) (frame p))
opened-with (Marked old ps) p =
    ap (λ l. (header One ++ frames old) ++ 2 ∷ l) (frames-last ps p) ∙ sym (append_assoc (header One ++ frames old) (2 ∷ frames ps) (frame p))

pub opened-last : (c : Contents) (p rest : List ℕ) → opened (with_payload c p) ++ rest ≡ opened c ++ 1 ∷ (body p ++ rest)
opened-last c p rest = ap (λ l. l ++ rest) (opened-with c p) ∙ append_assoc (opened c) (frame p) rest

-- any byte at the gate of a whole frame
pub kept-gate : (m : Meaning) (c : Contents) (p : List ℕ) (gate : ℕ) (rest : List ℕ) → IsProper m c → IsProper m (with_payload c p)
    → IsBeforeOrAfter m c p (opened c ++ gate ∷ (body p ++ 0 ∷ rest))
kept-gate m c p gate rest before after = elim (cases_eq gate 1) [
  | inl is_open ↦
      inr (ap (λ g. kept m (opened c ++ g ∷ (body p ++ 0 ∷ rest))) is_open ∙ ap (kept m) (sym (opened-last c p (0 ∷ rest)))
      ∙ kept-closed m (with_payload c p) rest after ∙ ap Journal (all_of-with c p))
  | inr shut ↦ inl (kept-opened m c (gate ∷ (body p ++ 0 ∷ rest)) before (payloads-closed gate (body p ++ 0 ∷ rest) shut))
]
