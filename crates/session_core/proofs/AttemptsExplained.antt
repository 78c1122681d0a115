-- Lines that aren't of watches end with answers that pass: along their programs, where the backend tells its journal.
use Rattle.std.proofs.Common.{◌≡◌, ℕ, zero, suc, ◌+◌, ◌-◌, ◌≤◌, ◌<◌, Bool, true, false, cond, nat_lt, [], length, Option, Some, None, refl, sym, ap, ◌∙◌}
use Rattle.std.proofs.Common.{subst, arith}
use Rattle.std.specs.Prelude.{IfSome}
use Rattle.std.specs.List.{AllByRecursion}
use Rattle.std.specs.BTreeMap.{insert_entry}
use Rattle.std.proofs.lemmas.Bool.Decides.{nat_tests}
use Rattle.dio_core.specs.Told.{WhereTold}
use Rattle.rdt_types.specs.declared.address.Address.{Address}
use Rattle.rdt_types.specs.Addresses.{address_cmp}
use Rattle.session_text.specs.declared.reply.Reply.{Reply}
use Rattle.session_text.specs.declared.reply.Reply.TheVariants as reply
use Rattle.txn_lang.specs.declared.checked.Checked.{Checked}
use Rattle.txn_lang.specs.declared.run.Run.{Run}
use Rattle.txn_lang.specs.Execution.{Ran, need, done, exec}
use Rattle.txn_lang.specs.States.{Journal}
use Rattle.txn_eval.specs.Running.{values_of}
use Rattle.docc_prepare.specs.declared.attempt.Attempt.{Attempt}
use Rattle.docc_prepare.specs.declared.attempt.Next.{Next}
use Rattle.docc_prepare.specs.declared.attempt.Next.TheVariants as next
use Rattle.docc_prepare.specs.Attempts.{SnapList, next_event, with_front, Fits}
use Rattle.docc_prepare.specs.Calls.{Known, Call, Answer}
use Rattle.docc_prepare.specs.Calls.Call.{refresh, read_at}
use Rattle.docc_prepare.specs.Calls.Answer.{number, prepared, value, late}
use Rattle.docc_prepare.specs.Backends.{IsPrefix, IsAnswered, SaysOfJournal}
use Rattle.docc_prepare.proofs.Each.{each-more}
use Rattle.docc_prepare.proofs.EachRead.{each-inserted}
use Rattle.call_programs.specs.Programs.{Program, bind, Succeeds}
use Rattle.call_programs.specs.Safe.{AlwaysEnds}
use Rattle.call_programs.proofs.Safe.{then_ends}
use Rattle.session_core.specs.declared.line.Line.{Line}
use Rattle.session_core.specs.declared.line.Line.TheVariants as asked
use Rattle.session_core.specs.declared.moved.Moved.{Moved}
use Rattle.session_core.specs.declared.moved.Moved.TheVariants as moved
use Rattle.session_core.specs.declared.session.Session.{Session}
use Rattle.session_core.specs.Bounds.{IsPlain}
use Rattle.session_core.specs.Explained.{setting_of, Hides, AreFrom}
use Rattle.session_core.specs.Holding.{Attends, Holds, IsReady, BodyIsReady}
use Rattle.session_core.specs.Events.{with_attempt, closed, ended, opened, afresh, event_call, call_of, moved_by, said}
use Rattle.session_core.specs.LinePrograms.{line}
use Rattle.session_core.specs.Verbs.{LineEnd, AttemptEnd, says, refreshed, refresh_then, moved_to, event, unshown, event_on, or_on, drive_in, events, drive}
use Rattle.session_core.specs.Verbs.{attempt_once, unless_abort, or_again, then_again, last_shown, try_times, closing, stepped, valued, look_by, look_in}
use Rattle.session_core.specs.Verbs.{look_at, look_from, look}
use Rattle.session_core.proofs.Explained.{same-setting, asking}
use Rattle.session_core.proofs.Explaining.{Asking, IsOver, Began, IsDriven, IsTried, LooksUpTo, LooksAt, IsOf, IsLooked, over-is, if-told}
use Rattle.session_core.proofs.Explaining.{StepPasses, EndPasses, DrivePasses, look-over, step-explained, go-explained, late-over}
use Rattle.session_core.proofs.Grown.{prefix-whole, prefix-shorter, prefix-again, prefix-state}
use Rattle.session_core.proofs.Kept.{fits-on, prepare-holds, holds-on, opened-holds}
use Rattle.session_core.proofs.Moving.{MovedHolds, held, closes}
use Rattle.session_core.proofs.Safe.{refreshed_on}

-- ---- states that are told

-- A place to which a line has come: the journal that is told there has grown, and so much is known of the store.
pub record IsAt (w : Asking) (first : Journal) (c : Known) (journal : Journal) : Type 0 where
  pub told : c.journal ≡ Some journal
  pub grows : IsPrefix first journal
  pub set : setting_of c ≡ w.set
  pub low : w.low ≤ c.seen
  pub there : c.seen ≤ length journal

-- what ends at such a place
abbrev pub Ends : {A : Type 0} → Asking → Journal → (Known → Journal → A → Type 0) → Known → A → Type 0
Ends w first holds l a = (new : Journal) × (IsAt w first l new × holds l new a)

-- what is told goes on being told
pub told_next : (S : Journal → Journal → Type 0) (x y : Option Journal) (old : Journal) → x ≡ Some old → WhereTold S x y
    → (new : Journal) × ((y ≡ Some new) × S old new)
told_next S None y old e told = absurd (cc)
told_next S (Some a) None old e told = absurd told
told_next S (Some a) (Some b) old e told = let same : a ≡ old = cc in (b, (refl, subst (λ z. S z b) same told))

-- one call more
at_on : (w : Asking) (first : Journal) (c : Known) (old : Journal) → IsAt w first c old → (call : Call) (answer : Answer) (l : Known)
    → IsAnswered c call answer l → (new : Journal) × (IsAt w first l new × SaysOfJournal c l call answer old new)
at_on w first c old at call answer l step =
    let then_ = told_next (SaysOfJournal c l call answer) c.journal l.journal old at.told step.told in
    let says = then_.1.1 in (
      then_.0,
      (
        record {
          told = then_.1.0;
          grows = prefix-again first old then_.0 at.grows says.grows;
          set = same-setting c l step.client ∙ at.set;
          low = let up = step.goes_on.seen in let low = at.low in omega arith;
          there = says.within;
        },
        says,
      ),
    )

-- a refresh, and what ends behind it
pub refresh_ends : {A : Type 0} (c : Known) (next : ℕ → Program A) (holds : Known → A → Type 0)
    → ((l : Known) (n : ℕ) → IsAnswered c refresh (number n) l → AlwaysEnds l (next n) holds) → AlwaysEnds c (refresh_then next) holds
refresh_ends {A} c next holds more = (tt, λ answer l step ok. by answer l step)
  where
    by : (answer : Answer) (l : Known) → IsAnswered c refresh answer l → AlwaysEnds l (refreshed next answer) holds
    by (number n) l step = more l n step
    by answer l step = tt

-- ---- attempts that are driven

module _ (w : Asking) (first : Journal) (before : w.begun ≤ w.low) where
  -- the session meanwhile
  abbrev here : Session
  here = closed w.session

  -- what an event leaves
  abbrev MovedSo : ℕ → Known → Journal → Moved → Type 0
  MovedSo left l new (moved.More b r) = (Attends l here × Holds l b) × IsDriven w here left b
  MovedSo left l new (moved.End b r) = (Attends l (ended here r) × Holds l (afresh b)) × EndPasses w new l.seen here left b r

  -- one event
  event_ends : (left : ℕ) (c : Known) (old : Journal) (a : Attempt) → IsAt w first c old → Attends c here → Holds c a → IsDriven w here left a
      → AlwaysEnds c (event here a) (Ends w first (MovedSo left))
  event_ends left c old a at on holds driven = (tt, λ answer l step ok. by answer l step (moved_by a answer) refl)
    where
      moved_so : (l : Known) (new : Journal) (m : Moved) → MovedHolds l here m → DrivePasses w new l.seen here left (Some m) → MovedSo left l new m
      moved_so l new (moved.More b r) kept x = (kept, x)
      moved_so l new (moved.End b r) kept x = (kept, x)

      by : (answer : Answer) (l : Known) → IsAnswered c (call_of here a) answer l → (o : Option Moved) → moved_by a answer ≡ o
          → AlwaysEnds l (moved_to o) (Ends w first (MovedSo left))
      by answer l step None e = tt
      by answer l step (Some m) e =
          let then_ = at_on w first c old at (call_of here a) answer l step in
          let says = then_.1.1 in
          let fits = fits-on old then_.0 a says.grows (if-told (λ journal. Fits journal a) c.journal old at.told holds.told) in (
            then_.0,
            (
              then_.1.0,
              moved_so l then_.0 m (held c l here a on holds answer m step e)
                  (subst (DrivePasses w then_.0 l.seen here left) e
                  (go-explained w c l old then_.0 at.set at.low before at.there on.client left a driven fits (next_event a) answer refl step says)),
            ),
          )

  -- the same where it isn't shown
  abbrev OnSo : ℕ → Known → Journal → Attempt → Option Reply → Type 0
  OnSo left l new b None = (Attends l here × Holds l b) × IsDriven w here left b
  OnSo left l new b (Some r) = (Attends l (ended here r) × Holds l (afresh b)) × EndPasses w new l.seen here left b r

  event_on_ends : (left : ℕ) (c : Known) (old : Journal) (a : Attempt) → IsAt w first c old → Attends c here → Holds c a → IsDriven w here left a
      → AlwaysEnds c (event_on here a) (Ends w first (λ l new (end : Attempt × Option Reply). OnSo left l new end.0 end.1))
  event_on_ends left c old a at on holds driven =
      then_ends (Ends w first (MovedSo left)) (Ends w first (λ l new (end : Attempt × Option Reply). OnSo left l new end.0 end.1))
      (λ m. Program.ends (unshown m)) c (event here a) (event_ends left c old a at on holds driven)
      (λ l m h. (h.0, (h.1.0, by l h.0 m h.1.1)))
    where
      by : (l : Known) (new : Journal) (m : Moved) → MovedSo left l new m → OnSo left l new (unshown m).0 (unshown m).1
      by l new (moved.More b r) h = h
      by l new (moved.End b r) h = h

  -- what an end leaves
  abbrev EndSo : ℕ → Known → Journal → AttemptEnd → Type 0
  EndSo left l new end =
      (Attends l (ended here end.1) × Holds l (afresh end.0)) × EndPasses w new l.seen here left end.0 end.1

  -- event by event
  drive_ends : (fuel left : ℕ) (c : Known) (old : Journal) (a : Attempt) → IsAt w first c old → Attends c here → Holds c a → IsDriven w here left a
      → AlwaysEnds c (drive_in fuel here a) (Ends w first (EndSo left))
  drive_ends zero left c old a at on holds driven = tt
  drive_ends (suc fuel) left c old a at on holds driven =
      then_ends (Ends w first (λ l new (end : Attempt × Option Reply). OnSo left l new end.0 end.1)) (Ends w first (EndSo left))
      (or_on (drive_in fuel here)) c (event_on here a) (event_on_ends left c old a at on holds driven)
      (λ l end h. by (λ l new b at on holds driven. drive_ends fuel left l new b at on holds driven) l h.0 h.1.0 end.0 end.1 h.1.1)
    where
      by : ((l : Known) (new : Journal) (b : Attempt) → IsAt w first l new → Attends l here → Holds l b → IsDriven w here left b
          → AlwaysEnds l (drive_in fuel here b) (Ends w first (EndSo left)))
          → (l : Known) (new : Journal) → IsAt w first l new → (b : Attempt) (o : Option Reply) → OnSo left l new b o
          → AlwaysEnds l (or_on (drive_in fuel here) (b, o)) (Ends w first (EndSo left))
      by more l new at b None h = more l new b at h.0.0 h.0.1 h.1
      by more l new at b (Some r) h = (new, (at, h))

  -- ---- attempts of a try

  -- one that is to begin
  once_ends : (left : ℕ) (c : Known) (old : Journal) (a : Attempt) → IsAt w first c old → Attends c here → Holds c a → IsTried w here a
      → AlwaysEnds c (attempt_once here a) (Ends w first (EndSo left))
  once_ends left c old a at on holds tried =
      refresh_ends c (λ seen. drive here a) (Ends w first (EndSo left)) (λ l n step. let then_ = at_on w first c old at refresh (number n) l step in
      drive_ends events left l then_.0 a then_.1.0 (refreshed_on c l here n step on) (holds-on c l a refresh (number n) step step.keeps holds) (record {
        session = tried.session;
        first = a;
        since = w.low;
        began = Began.at_try tried.tries tried.body tried.line tried.none refl tried.first;
        hides = Hides.nothing;
        below = omega arith;
        bases = subst (AreFrom w.low) (sym tried.first) tt;
      }))

  -- a reply passes
  abbrev ReplyPasses : Known → Journal → Reply → Type 0
  ReplyPasses l new r = IsOver w new l.seen (ended here r) (said r)

  -- one behind another
  tries_end : (left : ℕ) (c : Known) (old : Journal) (a : Attempt) → IsAt w first c old → Attends c here → Holds c a → IsTried w here a
      → AlwaysEnds c (try_times left here a) (Ends w first ReplyPasses)
  tries_end zero c old a at on holds tried =
      then_ends (Ends w first (EndSo 0)) (Ends w first ReplyPasses) last_shown c (attempt_once here a) (once_ends 0 c old a at on holds tried)
      (λ l end h. (h.0, (h.1.0, h.1.1.1)))
  tries_end (suc left) c old a at on holds tried =
      then_ends (Ends w first (EndSo (suc left))) (Ends w first ReplyPasses) (then_again (try_times left here)) c (attempt_once here a)
      (once_ends (suc left) c old a at on holds tried)
      (λ l end h. by (λ l new b at on holds tried. tries_end left l new b at on holds tried) l h.0 h.1.0 end.0 end.1 h.1.1.0.0 h.1.1.0.1 h.1.1.1)
    where
      by : ((l : Known) (new : Journal) (b : Attempt) → IsAt w first l new → Attends l here → Holds l b → IsTried w here b
          → AlwaysEnds l (try_times left here b) (Ends w first ReplyPasses))
          → (l : Known) (new : Journal) → IsAt w first l new → (b : Attempt) (r : Reply) → Attends l (ended here r) → Holds l (afresh b)
          → EndPasses w new l.seen here (suc left) b r
          → AlwaysEnds l (or_again (try_times left here) b (unless_abort r)) (Ends w first ReplyPasses)
      by more l new at b (reply.Abort x) on holds tried = more l new (afresh b) at on holds tried
      by more l new at b r on holds over = (new, (at, over))

  -- ---- the open attempt at a step

  -- a line's end passes
  abbrev pub LinePassed : Known → Journal → LineEnd → Type 0
  LinePassed l new end = IsOver w new l.seen end.0 end.1

  step_ends : (c : Known) (old : Journal) (a : Attempt) → IsAt w first c old → Attends c here → Holds c a → w.line ≡ asked.Step → w.attempt ≡ Some a
      → AlwaysEnds c (bind (event here a) (stepped here)) (Ends w first LinePassed)
  step_ends c old a at on holds el eo =
      then_ends (Ends w first (λ l new m. StepPasses w new l.seen here (Some m))) (Ends w first LinePassed) (stepped here) c (event here a)
      (tt, λ answer l step ok. by answer l step (moved_by a answer) refl) (λ l m h. shown l h.0 m h.1.0 h.1.1)
    where
      shown : (l : Known) (new : Journal) (m : Moved) → IsAt w first l new → StepPasses w new l.seen here (Some m)
          → AlwaysEnds l (stepped here m) (Ends w first LinePassed)
      shown l new (moved.More b r) at x = (new, (at, x))
      shown l new (moved.End b r) at x = (new, (at, x))

      fitting : (l : Known) (new : Journal) (answer : Answer) → IsAnswered c (call_of here a) answer l → l.journal ≡ Some new → (shard : ℕ) (run : Run)
          (front : ℕ) → next_event a ≡ next.Prepare shard run → answer ≡ prepared (record { shard = shard; front = front })
          → Fits new (with_front a shard front)
      fitting l new answer step to shard run front is_next is_answer =
          if-told (λ journal. Fits journal (with_front a shard front)) l.journal new to
          (prepare-holds c l a holds shard run (record { shard = shard; front = front }) is_next
          (subst (λ (n : Next). IsAnswered c (event_call here a n) (prepared (record { shard = shard; front = front })) l) is_next
          (subst (λ (x : Answer). IsAnswered c (call_of here a) x l) is_answer step))).told

      by : (answer : Answer) (l : Known) → IsAnswered c (call_of here a) answer l → (o : Option Moved) → moved_by a answer ≡ o
          → AlwaysEnds l (moved_to o) (Ends w first (λ l new m. StepPasses w new l.seen here (Some m)))
      by answer l step None e = tt
      by answer l step (Some m) e =
          let then_ = at_on w first c old at (call_of here a) answer l step in (
            then_.0,
            (
              then_.1.0,
              subst (StepPasses w then_.0 l.seen here) e
                  (step-explained w c l old then_.0 at.set at.low before at.there on.client a el eo (next_event a) answer refl step then_.1.1
                  (fitting l then_.0 answer step then_.1.0.told)),
            ),
          )

  -- ---- looks

  -- the outcome passes
  abbrev LookPassed : Session → Known → Journal → Reply → Type 0
  LookPassed t l new r = IsOver w new l.seen t (said r)

  look_ends : (fuel : ℕ) (c : Known) (old : Journal) (t : Session) (n : ℕ) (body : Checked) (snaps : SnapList) → IsAt w first c old
      → IsLooked w old c.seen t n body snaps → AlwaysEnds c (look_in fuel n body snaps) (Ends w first (LookPassed t))
  look_ends zero c old t n body snaps at looked = tt
  look_ends (suc fuel) c old t n body snaps at looked =
      by (exec body.body (values_of snaps)) refl (λ l new more at looked. look_ends fuel l new t n body more at looked)
    where
      by : (r : Ran) → exec body.body (values_of snaps) ≡ r
          → ((l : Known) (new : Journal) (more : SnapList) → IsAt w first l new → IsLooked w new l.seen t n body more
          → AlwaysEnds l (look_in fuel n body more) (Ends w first (LookPassed t)))
          → AlwaysEnds c (look_by (look_in fuel n body) n snaps r) (Ends w first (LookPassed t))
      by (done run) e more = (old, (at, look-over w old c.seen at.low t n body snaps run looked e))
      by (need address) e more = (tt, λ answer l step ok. given answer l step)
        where
          given : (answer : Answer) (l : Known) → IsAnswered c (read_at address n) answer l
              → AlwaysEnds l (valued (look_in fuel n body) n snaps address answer) (Ends w first (LookPassed t))
          given (value v) l step =
              let then_ = at_on w first c old at (read_at address n) (value v) l step in
              let says = then_.1.1 in
              let up = step.goes_on.seen in
              let longer = prefix-shorter old then_.0 says.grows in let there = looked.there in let within = looked.within in
              more l then_.0 (insert_entry address_cmp snaps address (record { base = n; value = v })) then_.1.0 (record {
                session = looked.session;
                at = looked.at;
                there = omega arith;
                within = omega arith;
                values = each-inserted (IsOf then_.0 n) snaps address (record { base = n; value = v }) says.row
                    (each-more (IsOf old n) (IsOf then_.0 n) snaps (λ read h. h ∙ sym (prefix-state old then_.0 n read.0 says.grows looked.there))
                    looked.values);
              })
          given (late m horizon) l step =
              let then_ = at_on w first c old at (read_at address n) (late m horizon) l step in
              let says = then_.1.1 in (
                then_.0,
                (
                  then_.1.0,
                  late-over w c l old then_.0 at.set at.low t n body snaps m horizon looked step.shows.1
                      (let b = says.row.below in let same = step.shows.1 in omega arith) says.row.behind says.grows step.goes_on.seen,
                ),
              )
          given answer l step = tt

  -- from where it begins
  from_ends : (l : Known) (new : Journal) (t : Session) (n : ℕ) (upto : Option ℕ) (body : Checked) → IsAt w first l new
      → t ≡ with_attempt w.session w.attempt → LooksUpTo w upto body → n ≡ l.seen → n ≡ length new
      → AlwaysEnds l (look_from upto body n) (Ends w first (LookPassed t))
  from_ends l new t n None body at et el is all = look_ends events l new t n body [] at (record {
    session = et;
    at = LooksAt.at_seen el (let low = at.low in omega arith);
    there = omega arith;
    within = omega arith;
    values = tt;
  })
  from_ends l new t n (Some m) body at et el is all = by (nat_lt n m) refl
    where
      by : (x : Bool) → nat_lt n m ≡ x → AlwaysEnds l (cond x (Program.ends (reply.Ahead m n)) (look_at m body)) (Ends w first (LookPassed t))
      by true e = let ahead : n < m = grind (arith, nat_tests) in (
        new,
        (
          at,
          over-is w w.attempt (asked.At m body) new l.seen t (said (reply.Ahead m n)) refl el (record {
            passes = (refl, ahead, record { not_back = (let low = at.low in omega arith); within = omega arith });
            session = et;
            shown = omega arith;
          }),
        ),
      )
      by false e = let within : m ≤ n = grind (arith, nat_tests) in look_ends events l new t m body [] at
          (record { session = et; at = LooksAt.at_named el; there = omega arith; within = omega arith; values = tt })

  -- behind a refresh
  looks_end : (c : Known) (old : Journal) (t : Session) (upto : Option ℕ) (body : Checked) → IsAt w first c old → t ≡ with_attempt w.session w.attempt
      → LooksUpTo w upto body → AlwaysEnds c (bind (look upto body) (says t)) (Ends w first LinePassed)
  looks_end c old t upto body at et el =
      then_ends (Ends w first (LookPassed t)) (Ends w first LinePassed) (says t) c (look upto body)
      (refresh_ends c (look_from upto body) (Ends w first (LookPassed t)) (λ l n step. let then_ = at_on w first c old at refresh (number n) l step in
      let row : l.seen ≡ length then_.0 = then_.1.1.row in
      from_ends l then_.0 t n upto body then_.1.0 et el step.shows (step.shows ∙ row))) (λ l r h. h)

-- ---- lines

module _ (k : Known) (first : Journal) (low begun : ℕ) (s : Session) (below : low ≤ k.seen) (before : begun ≤ low) (there : k.seen ≤ length first)
    (told : k.journal ≡ Some first) where
  -- where a line begins
  begins_at : (o : Option Attempt) (l : Line) → IsAt (asking k low begun s o l) first k first
  begins_at o l = record { told = told; grows = prefix-whole first; set = refl; low = below; there = there }

  -- what its end is to be
  abbrev pub Passed : Option Attempt → Line → Known → LineEnd → Type 0
  Passed o l = Ends (asking k low begun s o l) first (LinePassed (asking k low begun s o l) first before)

  -- a row a form of line
  pub plain_ends : (o : Option Attempt) (l : Line) → IsPlain l → Attends k (with_attempt s o) → BodyIsReady l → IfSome o (AreFrom begun)
      → AlwaysEnds k (line k.shards k.seen (with_attempt s o) l) (Passed o l)
  plain_ends o asked.Quiet plain is ready bases = (first, (begins_at o asked.Quiet, record { passes = refl; session = refl; shown = below }))
  plain_ends o (asked.Refused reason) plain is ready bases =
      (first, (begins_at o (asked.Refused reason), record { passes = refl; session = refl; shown = below }))
  plain_ends (Some a) (asked.Begin body) plain is ready bases =
      (first, (begins_at (Some a) (asked.Begin body), record { passes = refl; session = refl; shown = below }))
  plain_ends None (asked.Begin body) plain is ready bases =
      refresh_ends k _ (Passed None (asked.Begin body)) (λ l n step.
      let then_ = at_on (asking k low begun s None (asked.Begin body)) first k first (begins_at None (asked.Begin body)) refresh (number n) l step in
      let at = step.shows in let up = step.goes_on.seen in let within = then_.1.1.within in
      (then_.0, (then_.1.0, record { passes = record { not_back = omega arith; within = omega arith }; session = refl; shown = omega arith })))
  plain_ends (Some a) (asked.Try tries body) plain is ready bases =
      (first, (begins_at (Some a) (asked.Try tries body), record { passes = refl; session = refl; shown = below }))
  plain_ends None (asked.Try tries body) plain is ready bases =
      let w = asking k low begun s None (asked.Try tries body) in
      then_ends (Ends w first (ReplyPasses w first before)) (Passed None (asked.Try tries body)) (closing (closed s)) k
      (try_times (tries - 1) (closed s) (opened k.shards body))
      (tries_end w first before (tries - 1) k first (opened k.shards body) (begins_at None (asked.Try tries body)) is (opened-holds k (closed s) body is ready)
      (record { session = refl; tries = tries; body = body; line = refl; none = refl; first = refl })) (λ l r h. h)
  plain_ends None asked.Step plain is ready bases = (first, (begins_at None asked.Step, record { passes = refl; session = refl; shown = below }))
  plain_ends (Some a) asked.Step plain is ready bases =
      step_ends (asking k low begun s (Some a) asked.Step) first before k first a (begins_at (Some a) asked.Step) (closes k (with_attempt s (Some a)) is)
      is.attempt refl refl
  plain_ends None asked.Go plain is ready bases = (first, (begins_at None asked.Go, record { passes = refl; session = refl; shown = below }))
  plain_ends (Some a) asked.Go plain is ready bases =
      let w = asking k low begun s (Some a) asked.Go in
      then_ends (Ends w first (EndSo w first before 0)) (Passed (Some a) asked.Go) (λ end. closing (with_attempt s (Some a)) end.1) k (drive (closed s) a)
      (drive_ends w first before events 0 k first a (begins_at (Some a) asked.Go) (closes k (with_attempt s (Some a)) is) is.attempt
      (record { session = refl; first = a; since = begun; began = Began.at_go refl refl refl refl; hides = Hides.nothing; below = before; bases = bases }))
      (λ l end h. (h.0, (h.1.0, h.1.1.1)))
  plain_ends None asked.Drop plain is ready bases = (first, (begins_at None asked.Drop, record { passes = refl; session = refl; shown = below }))
  plain_ends (Some a) asked.Drop plain is ready bases = (first, (begins_at (Some a) asked.Drop, record { passes = refl; session = refl; shown = below }))
  plain_ends o (asked.Look body) plain is ready bases =
      looks_end (asking k low begun s o (asked.Look body)) first before k first (with_attempt s o) None body (begins_at o (asked.Look body)) refl refl
  plain_ends o (asked.At n body) plain is ready bases =
      looks_end (asking k low begun s o (asked.At n body)) first before k first (with_attempt s o) (Some n) body (begins_at o (asked.At n body)) refl refl
  plain_ends o (asked.Watch name body) plain is ready bases = absurd plain
  plain_ends o (asked.Unwatch name) plain is ready bases = absurd plain
  plain_ends o asked.Sync plain is ready bases = absurd plain
  plain_ends o asked.Wait plain is ready bases = absurd plain
  plain_ends o asked.Seen plain is ready bases =
      (first, (begins_at o asked.Seen, record { passes = record { not_back = below; within = there }; session = refl; shown = omega arith }))
  plain_ends o asked.Quit plain is ready bases = (first, (begins_at o asked.Quit, record { passes = refl; session = refl; shown = below }))
