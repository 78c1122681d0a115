-- How frames are read one by one, and what a file is found to hold.
use Rattle.std.proofs.Common.{◌≡◌, ℕ, ◌+◌, ◌-◌, ◌^◌, ◌<◌, ◌≤◌, Bool, true, false, List, [], ◌∷◌, ◌++◌, length, take, drop, refl, ap, sym, ◌∙◌, subst, append_assoc, length-append, arith}
use Rattle.std.proofs.lemmas.List.{append-nil, take_at, drop_at}
use Rattle.commit_file.specs.declared.recover_error.RecoverError.{RecoverError}
use Rattle.commit_file.specs.declared.recover_error.RecoverError.TheVariants as error
use Rattle.commit_file.specs.declared.version.Version.{Version}
use Rattle.commit_file.specs.declared.version.Version.TheVariants.{One, Two}
use Rattle.commit_file.specs.Files.{Contents, header, frame, frames, opened, AreShort}
use Rattle.commit_file.specs.Files.Contents.{Current, Marked}
use Rattle.commit_file.specs.Kept.{Meaning, Reading, payloads, payloads_marked, behind_frames, kept, checked, continued, checked_old, Follow}
use Rattle.commit_file.specs.Kept.Reading.{Journal, NotJournal}
use Rattle.commit_file.specs.Recovering.{IsScanned, IsFound, IsRefused, OpensNone, HasForm}
use Rattle.commit_file.proofs.Frames.{payloads-frame, payloads-frames, checked-Follow, checked-stops, Follow-last, AreShort-last, frames-last, kept-short, kept-long, kept-long_old}
use Rattle.commit_file.proofs.Mended.{kept-form}

-- ---- a loop over frames

-- Some payloads were taken behind those, and this rest stands behind their frames.
pub record IsBegun (m : Meaning) (version : Version) (before : List (List ℕ)) (bytes rest : List ℕ)
    (so_far after : List (List ℕ)) : Type 0 where
  pub taken : after ≡ before ++ so_far
  pub follow : Follow m version before so_far
  pub short : AreShort so_far
  pub parts : bytes ≡ frames so_far ++ rest

-- before the first
pub begun-none : (m : Meaning) (v : Version) (before : List (List ℕ)) (bytes : List ℕ)
    → IsBegun m v before bytes bytes (drop (length before) before) before
begun-none m v before bytes =
    let none : drop (length before) before ≡ [] = ap (drop (length before)) (sym (append-nil before)) ∙ drop_at before [] (length before) refl in
    subst (λ ps. IsBegun m v before bytes bytes ps before) (sym none)
    (record { taken = sym (append-nil before); follow = tt; short = tt; parts = refl })

-- what was taken behind those
begun-drop : (m : Meaning) (v : Version) (before : List (List ℕ)) (bytes rest : List ℕ) (ps after : List (List ℕ))
    → IsBegun m v before bytes rest ps after → IsBegun m v before bytes rest (drop (length before) after) after
begun-drop m v before bytes rest ps after begun =
    let same : drop (length before) after ≡ ps = ap (drop (length before)) begun.taken ∙ drop_at before ps (length before) refl in
    subst (λ qs. IsBegun m v before bytes rest qs after) (sym same) begun

module _ (m : Meaning) (v : Version) (before : List (List ℕ)) (bytes rest behind : List ℕ) (ps after : List (List ℕ)) (p : List ℕ)
    (begun : IsBegun m v before bytes rest ps after) (next : rest ≡ frame p ++ behind) (short : length p < 2 ^ 32) where
  -- one more
  pub begun-more : (then_after : List (List ℕ)) → then_after ≡ after ++ p ∷ [] → m v after p ≡ true
      → IsBegun m v before bytes behind (drop (length before) then_after) then_after
  begun-more then_after is follows = begun-drop m v before bytes behind (ps ++ p ∷ []) then_after (record {
    taken = is ∙ ap (λ l. l ++ p ∷ []) begun.taken ∙ append_assoc before ps (p ∷ []);
    follow = Follow-last m v before ps p begun.follow (ap (λ l. m v l p) (sym begun.taken) ∙ follows);
    short = AreShort-last ps p begun.short short;
    parts = begun.parts ∙ ap (λ l. frames ps ++ l) next ∙ sym (append_assoc (frames ps) (frame p) behind)
        ∙ ap (λ l. l ++ behind) (sym (frames-last ps p));
  })

  -- one that doesn't follow
  pub begun-stops : (at place : ℕ) → place ≡ at + (length bytes - length rest) → m v after p ≡ false
      → checked m v before at (payloads bytes) ≡ NotJournal place
  begun-stops at place is not =
      let read : payloads bytes ≡ ps ++ p ∷ payloads behind =
      ap payloads begun.parts ∙ payloads-frames ps rest begun.short ∙ ap (λ qs. ps ++ qs) (ap payloads next ∙ payloads-frame p behind short) in
      let here : at + length (frames ps) ≡ place = omega (arith, is, ap length begun.parts, length-append (frames ps) rest) in
      ap (checked m v before at) read
      ∙ checked-stops m v before at ps p (payloads behind) begun.follow (ap (λ l. m v l p) (sym begun.taken) ∙ not) ∙ ap NotJournal here

-- no more
pub begun-ends : (m : Meaning) (v : Version) (before : List (List ℕ)) (bytes rest : List ℕ) (ps after : List (List ℕ))
    → IsBegun m v before bytes rest ps after → payloads rest ≡ [] → IsScanned m v before bytes rest after
begun-ends m v before bytes rest ps after begun none =
    let read : payloads bytes ≡ ps = ap payloads begun.parts ∙ payloads-frames ps rest begun.short ∙ ap (λ qs. ps ++ qs) none ∙ append-nil ps in
    record {
      taken = begun.taken ∙ ap (λ qs. before ++ qs) (sym read);
      follow = subst (Follow m v before) (sym read) begun.follow;
      short = subst AreShort (sym read) begun.short;
      parts = begun.parts ∙ ap (λ qs. frames qs ++ rest) (sym read);
      within = omega (arith, ap length begun.parts, length-append (frames ps) rest);
      none = none;
    }

-- ---- a file

-- A front of a known form, and behind it a rest that opens no frame.
found_form : (m : Meaning) (unmarked : Bool) (bytes front rest : List ℕ) (ps : List (List ℕ)) (end : ℕ) → 13 < length bytes
    → bytes ≡ front ++ rest → length front ≡ end → HasForm m unmarked front ps → OpensNone unmarked rest → IsFound m bytes ps end unmarked
found_form m unmarked bytes front rest ps end long parts is form none =
    let first : take end bytes ≡ front = ap (take end) parts ∙ take_at front rest end is in
    let last : drop end bytes ≡ rest = ap (drop end) parts ∙ drop_at front rest end is in
    record {
      kept_as = ap (kept m) parts ∙ kept-form m unmarked front ps rest form none;
      empty = λ few. absurd (omega (arith, long, few));
      within = λ _. omega (arith, ap length parts, length-append front rest, is);
      form = λ _. subst (λ l. HasForm m unmarked l ps) (sym first) form;
      none = λ _. subst (OpensNone unmarked) (sym last) none;
    }

-- behind a header of version 2
pub found_frames : (m : Meaning) (bytes rest : List ℕ) (before after : List (List ℕ)) (end : ℕ) → before ≡ []
    → IsScanned m Two before bytes rest after → end ≡ 12 + (length bytes - length rest) → 1 < length bytes
    → IsFound m (header Two ++ bytes) after end false
found_frames m bytes rest before after end none scanned is long =
    let ps = payloads bytes in
    let all : ps ≡ after = ap (λ l. l ++ ps) (sym none) ∙ sym scanned.taken in
    let front = header Two ++ frames ps in
    found_form m false (header Two ++ bytes) front rest after end (omega (arith, length-append (header Two) bytes))
    (ap (λ l. header Two ++ l) scanned.parts ∙ sym (append_assoc (header Two) (frames ps) rest))
    (omega (arith, is, length-append (header Two) (frames ps), ap length scanned.parts, length-append (frames ps) rest))
    (Current ps, refl, all, record { follow = subst (λ l. Follow m Two l ps) none scanned.follow; short = scanned.short })
    scanned.none

pub refused_frames : (m : Meaning) (bytes : List ℕ) (before : List (List ℕ)) (reading : Reading) → before ≡ [] → 1 < length bytes
    → checked m Two before 12 (payloads bytes) ≡ reading → kept m (header Two ++ bytes) ≡ reading
refused_frames m bytes before reading none long is =
    kept-long m bytes long ∙ ap (λ l. checked m Two l 12 (payloads bytes)) (sym none) ∙ is

module _ (m : Meaning) (bytes rest : List ℕ) (before mid : List (List ℕ)) (none : before ≡ []) (scanned : IsScanned m One before bytes rest mid)
    (long : 1 < length bytes) where
  abbrev old : List (List ℕ)
  old = payloads bytes

  old-is : old ≡ mid
  old-is = ap (λ l. l ++ old) (sym none) ∙ sym scanned.taken

  follow_old : Follow m One [] old
  follow_old = subst (λ l. Follow m One l old) none scanned.follow

  long_file : 13 < length (header One ++ bytes)
  long_file = omega (arith, length-append (header One) bytes)

  -- behind a header of version 1, where no mark stands
  pub found_unmarked : (end : ℕ) → payloads_marked rest ≡ [] → end ≡ 12 + (length bytes - length rest)
      → IsFound m (header One ++ bytes) mid end true
  found_unmarked end unmarked is =
      let front = header One ++ frames old in
      found_form m true (header One ++ bytes) front rest mid end long_file
      (ap (λ l. header One ++ l) scanned.parts ∙ sym (append_assoc (header One) (frames old) rest))
      (omega (arith, is, length-append (header One) (frames old), ap length scanned.parts, length-append (frames old) rest))
      (subst (λ ps. (front ≡ header One ++ frames ps) × Follow m One [] ps × AreShort ps) old-is (refl, follow_old, scanned.short))
      (scanned.none, unmarked)

  module _ (behind : List ℕ) (marked : rest ≡ 2 ∷ behind) where
    -- and where one stands, with frames of version 2 behind it
    pub found_marked : (last : List ℕ) (after : List (List ℕ)) (end : ℕ) → IsScanned m Two mid behind last after
        → end ≡ 12 + (length bytes - length last) → IsFound m (header One ++ bytes) after end false
    found_marked last after end then_scanned is =
        let ps = payloads behind in
        let front = (header One ++ frames old) ++ 2 ∷ frames ps in
        let whole : bytes ≡ frames old ++ 2 ∷ (frames ps ++ last) =
        scanned.parts ∙ ap (λ l. frames old ++ l) marked ∙ ap (λ l. frames old ++ 2 ∷ l) then_scanned.parts in
        found_form m false (header One ++ bytes) front last after end long_file
        (ap (λ l. header One ++ l) whole ∙ sym (append_assoc (header One) (frames old) (2 ∷ (frames ps ++ last)))
        ∙ sym (append_assoc (header One ++ frames old) (2 ∷ frames ps) last))
        (omega (
          arith,
          is,
          length-append (header One ++ frames old) (2 ∷ frames ps),
          length-append (header One) (frames old),
          ap length whole,
          length-append (frames old) (2 ∷ (frames ps ++ last)),
          length-append (frames ps) last,
        )) (
          Marked old ps,
          refl,
          ap (λ l. l ++ ps) old-is ∙ sym then_scanned.taken,
          record {
            follow = (follow_old, subst (λ l. Follow m Two l ps) (sym old-is) then_scanned.follow);
            short = (scanned.short, then_scanned.short);
          },
        )
        then_scanned.none

    -- or one that doesn't follow
    pub refused_marked : (at : ℕ) (reading : Reading) → at ≡ 12 + (length bytes - length behind)
        → checked m Two mid at (payloads behind) ≡ reading → kept m (header One ++ bytes) ≡ reading
    refused_marked at reading is checks =
        let tail : behind_frames bytes ≡ 2 ∷ behind =
        ap (drop (length (frames old))) scanned.parts ∙ drop_at (frames old) rest (length (frames old)) refl ∙ marked in
        let place : 12 + length (frames old) + 1 ≡ at =
        omega (arith, is, ap length scanned.parts, length-append (frames old) rest, ap length marked) in
        kept-long_old m bytes long
        ∙ ap (λ reading. continued m reading (12 + length (frames old) + 1) (payloads_marked (behind_frames bytes)))
        (checked-Follow m One [] 12 old follow_old)
        ∙ ap (λ l. checked m Two old (12 + length (frames old) + 1) (payloads_marked l)) tail
        ∙ ap (λ n. checked m Two old n (payloads behind)) place ∙ ap (λ qs. checked m Two qs at (payloads behind)) old-is ∙ checks

pub refused_old : (m : Meaning) (bytes : List ℕ) (before : List (List ℕ)) (stop : ℕ) → before ≡ [] → 1 < length bytes
    → checked m One before 12 (payloads bytes) ≡ NotJournal stop → kept m (header One ++ bytes) ≡ NotJournal stop
refused_old m bytes before stop none long is =
    kept-long_old m bytes long
    ∙ ap (λ reading. continued m reading (12 + length (frames (payloads bytes)) + 1) (payloads_marked (behind_frames bytes)))
    (ap (λ l. checked m One l 12 (payloads bytes)) (sym none) ∙ is)

-- ---- the causes

-- the answer of a reader whose reading is another's
pub refused-same : (reading other : Reading) (e : RecoverError) → ((at : ℕ) → reading ≡ NotJournal at → other ≡ NotJournal at)
    → IsRefused reading e → IsRefused other e
refused-same reading other (error.NotJournal at) same refused = same at refused
refused-same reading other error.DiskFault same refused = tt
refused-same reading other error.NoMemory same refused = tt

-- a short file
pub found_short : (m : Meaning) (bytes : List ℕ) (ps : List (List ℕ)) → length bytes ≤ 13 → ps ≡ [] → IsFound m bytes ps 12 false
found_short m bytes ps few none = record {
  kept_as = kept-short m bytes few ∙ ap Journal (sym none);
  empty = λ _. (none, refl);
  within = λ long. absurd (omega (arith, long, few));
  form = λ long. absurd (omega (arith, long, few));
  none = λ long. absurd (omega (arith, long, few));
}
