-- What explains a line on its way, and that each of its calls keeps to that.
use Rattle.std.proofs.Common.{◌≡◌, ℕ, zero, suc, ◌+◌, ◌≤◌, ◌<◌, Bool, true, false, cond, nat_le, min, List, [], ◌∷◌, ◌++◌, length, Option}
use Rattle.std.proofs.Common.{Some, None, refl, sym, ap, ◌∙◌, subst, arith}
use Rattle.std.specs.Prelude.{IfSome, ◌==◌, nat_lt}
use Rattle.std.specs.List.{AllByRecursion}
use Rattle.std.specs.Map.{lookup}
use Rattle.std.specs.Option.{option_map}
use Rattle.std.specs.BTreeMap.{is_at, insert_entry}
use Rattle.std.proofs.lemmas.Bool.Decides.{nat_tests}
use Rattle.rdt_types.specs.declared.address.Address.{Address}
use Rattle.rdt_types.specs.declared.value.Value.{Value}
use Rattle.rdt_types.specs.Addresses.{address_cmp}
use Rattle.rdt_types.specs.Shards.{shard_of}
use Rattle.rdt_types.specs.Values.{kind_of}
use Rattle.conflict_table.specs.Observing.{observe}
use Rattle.session_text.specs.declared.reply.Reply.{Reply}
use Rattle.session_text.specs.declared.reply.Reply.TheVariants as reply
use Rattle.txn_lang.specs.declared.checked.Checked.{Checked}
use Rattle.txn_lang.specs.declared.run.Run.{Run}
use Rattle.txn_lang.specs.declared.run.Seen.{Seen}
use Rattle.txn_lang.specs.declared.snaps.Snap.{Snap}
use Rattle.txn_lang.specs.Determinacy.{Agree}
use Rattle.txn_lang.specs.Execution.{Ran, need, done, exec}
use Rattle.txn_lang.specs.Observed.{IsThere}
use Rattle.txn_lang.specs.States.{Journal, known, state}
use Rattle.txn_lang.proofs.Determinacy.{runs_are_determined}
use Rattle.txn_lang.proofs.Observed.{observed_is_there}
use Rattle.txn_eval.specs.Running.{values_of}
use Rattle.journal_core.specs.declared.ready.PreparedFront.{PreparedFront}
use Rattle.journal_core.specs.Holds.{bars}
use Rattle.docc_prepare.specs.declared.attempt.Attempt.{Attempt}
use Rattle.docc_prepare.specs.declared.attempt.Next.{Next}
use Rattle.docc_prepare.specs.declared.attempt.Next.TheVariants as next
use Rattle.docc_prepare.specs.Attempts.{SnapList, base_in, with_base, based, in_shard, has_front, lesser, least_unprepared, next_event}
use Rattle.docc_prepare.specs.Attempts.{with_snap, with_front, Fits}
use Rattle.docc_prepare.specs.Calls.{Known, Call, Answer}
use Rattle.docc_prepare.specs.Calls.Answer.{number, snap, prepared, late, clash, held, full, disk}
use Rattle.docc_prepare.specs.Backends.{IsPrefix, IsAnswered, SaysOfJournal}
use Rattle.docc_prepare.proofs.Each.{each-more}
use Rattle.docc_prepare.proofs.EachRead.{each-inserted, found}
use Rattle.docc_prepare.proofs.Nexts.{prepares}
use Rattle.session_core.specs.declared.line.Line.{Line}
use Rattle.session_core.specs.declared.line.Line.TheVariants as asked
use Rattle.session_core.specs.declared.moved.Moved.{Moved}
use Rattle.session_core.specs.declared.moved.Moved.TheVariants as moved
use Rattle.session_core.specs.declared.session.Session.{Session}
use Rattle.session_core.specs.declared.turn.Turn.{Turn}
use Rattle.session_core.specs.Events.{with_attempt, closed, ended, opened, afresh, event_call, moved_at, said}
use Rattle.session_core.specs.Explained.{Setting, Story, attempting_of, story_of, based_all, commit_by, EndPasses as EndIsRight, IsAborted, Hides}
use Rattle.session_core.specs.Explained.{IsOutcomeAt, PlainPasses, low_by, low_after}
use Rattle.session_core.specs.Explained.{setting_of, AreFrom}
use Rattle.session_core.proofs.After.{session_after}
use Rattle.session_core.proofs.Same.{attempt_same}
use Rattle.session_core.proofs.Grown.{prefix-whole, prefix-shorter, prefix-of, none-in-front}

-- ---- what explains a line on its way

-- a line, and what stood before it
pub record Asking : Type 0 where
  pub set : Setting
  pub low : ℕ
  pub begun : ℕ
  pub session : Session
  pub attempt : Option Attempt
  pub line : Line

-- the story of the client as it stood before the line
abbrev pub told_before : Asking → Story
told_before w = story_of w.low w.begun (with_attempt w.session w.attempt)

-- it is over, and its turn passes
pub record IsOver (w : Asking) (journal : Journal) (seen : ℕ) (t : Session) (turn : Turn) : Type 0 where
  pub passes : PlainPasses w.set journal (told_before w) w.line turn
  pub session : t ≡ session_after w.set journal (with_attempt w.session w.attempt) w.line turn
  pub shown : low_after w.low w.line turn ≤ seen

-- where an attempt that is driven began, and from which number on its bases are
pub data Began (w : Asking) (left since : ℕ) (first : Attempt) : Type 0 where
  at_go : w.line ≡ asked.Go → w.attempt ≡ Some first → since ≡ w.begun → left ≡ 0 → Began w left since first
  at_try : (tries : ℕ) (body : Checked) → w.line ≡ asked.Try tries body → w.attempt ≡ None → since ≡ w.low → first ≡ opened w.set.shards body
      → Began w left since first

-- an attempt of `go`, `do` or `try` on its way: it began at some number, which hides its bases
pub record IsDriven (w : Asking) (t : Session) (left : ℕ) (a : Attempt) : Type 0 where
  pub session : t ≡ closed w.session
  pub first : Attempt
  pub since : ℕ
  pub began : Began w left since first
  pub hides : Hides since first a
  pub below : since ≤ w.low
  pub bases : AreFrom since a

-- an attempt of `do` or `try` before its refresh
pub record IsTried (w : Asking) (t : Session) (a : Attempt) : Type 0 where
  pub session : t ≡ closed w.session
  pub tries : ℕ
  pub body : Checked
  pub line : w.line ≡ asked.Try tries body
  pub none : w.attempt ≡ None
  pub first : a ≡ opened w.set.shards body

-- at which number a look is to run, and at which it runs
abbrev pub LooksUpTo : Asking → Option ℕ → Checked → Type 0
LooksUpTo w None body = w.line ≡ asked.Look body
LooksUpTo w (Some n) body = w.line ≡ asked.At n body

-- a look on what is seen, or at a number that the line names
pub data LooksAt (w : Asking) (n : ℕ) (body : Checked) : Type 0 where
  at_seen : w.line ≡ asked.Look body → w.low ≤ n → LooksAt w n body
  at_named : w.line ≡ asked.At n body → LooksAt w n body

-- a value of the first n commits
abbrev pub IsOf : Journal → ℕ → (Address × Snap) → Type 0
IsOf journal n entry = entry.1.value ≡ state journal n entry.0

-- a run on a prefix has values of that prefix alone
pub record IsLooked (w : Asking) (journal : Journal) (seen : ℕ) (t : Session) (n : ℕ) (body : Checked) (snaps : SnapList) : Type 0 where
  pub session : t ≡ with_attempt w.session w.attempt
  pub at : LooksAt w n body
  pub there : n ≤ length journal
  pub within : n ≤ seen
  pub values : AllByRecursion (IsOf journal n) snaps

-- an event that `step` has shown, or none was made
abbrev pub StepPasses : Asking → Journal → ℕ → Session → Option Moved → Type 0
StepPasses w journal seen t None = Unit {0}
StepPasses w journal seen t (Some (moved.More a r)) = IsOver w journal seen (with_attempt t (Some a)) (said r)
StepPasses w journal seen t (Some (moved.End a r)) = IsOver w journal seen (ended t r) (said r)

-- an end, behind which so many attempts may follow: behind an abort one does, and any other is shown
abbrev pub EndPasses : Asking → Journal → ℕ → Session → ℕ → Attempt → Reply → Type 0
EndPasses w journal seen t (suc left) a (reply.Abort x) = IsTried w t (afresh a)
EndPasses w journal seen t left a r = IsOver w journal seen (ended t r) (said r)

-- an event of an attempt that is driven: it goes on, or has ended
abbrev pub DrivePasses : Asking → Journal → ℕ → Session → ℕ → Option Moved → Type 0
DrivePasses w journal seen t left None = Unit {0}
DrivePasses w journal seen t left (Some (moved.More a r)) = IsDriven w t left a
DrivePasses w journal seen t left (Some (moved.End a r)) = EndPasses w journal seen t left a r

-- a line that is over, with its form and whether an attempt was open
pub over-is : (w : Asking) (o : Option Attempt) (l : Line) (journal : Journal) (seen : ℕ) (t : Session) (turn : Turn) → w.attempt ≡ o → w.line ≡ l
    → IsOver (record w { attempt = o; line = l }) journal seen t turn → IsOver w journal seen t turn
over-is w o l journal seen t turn eo el h = subst (λ (x : Option Attempt). IsOver (record w { attempt = x }) journal seen t turn) (sym eo)
    (subst (λ (x : Line). IsOver (record w { attempt = o; line = x }) journal seen t turn) (sym el) h)

-- what holds of a journal where it is told holds of the one that is told
pub if-told : {A : Type 0} (P : A → Type 0) (x : Option A) (v : A) → x ≡ Some v → IfSome x P → P v
if-told P None v e h = absurd (cc)
if-told P (Some u) v e h = let same : u ≡ v = cc in subst P same h

-- ---- hidden events

-- hidden events leave the body as it is
hides-body : (since : ℕ) (first a : Attempt) → Hides since first a → a.body ≡ first.body
hides-body since first a Hides.nothing = refl
hides-body since first a (Hides.a_read {b = b} address s h e up) = hides-body since first b h
hides-body since first a (Hides.a_front {b = b} shard front h p up) = hides-body since first b h

-- and the number of shards
hides-shards : (since : ℕ) (first a : Attempt) → Hides since first a → a.shards ≡ first.shards
hides-shards since first a Hides.nothing = refl
hides-shards since first a (Hides.a_read {b = b} address s h e up) = hides-shards since first b h
hides-shards since first a (Hides.a_front {b = b} shard front h p up) = hides-shards since first b h

-- an attempt that begins anew is the one that was opened
anew-is : (a : Attempt) (shards : ℕ) (body : Checked) (since : ℕ) (first : Attempt) → first ≡ opened shards body → Hides since first a
    → afresh a ≡ opened shards body
anew-is a shards body since first e h = attempt_same (afresh a) (opened shards body) (hides-body since first a h ∙ ap (λ (x : Attempt). x.body) e)
    (hides-shards since first a h ∙ ap (λ (x : Attempt). x.shards) e) refl refl

-- what was observed has a base, and that is not below the number
observed-from : (since : ℕ) (snaps : SnapList) (seen : List Seen) → AllByRecursion (λ (read : Address × Snap). since ≤ read.1.base) snaps
    → AllByRecursion (IsThere (values_of snaps)) seen
    → AllByRecursion (λ z. since ≤ (with_base snaps z).base) seen
observed-from since snaps seen from there = each-more (IsThere (values_of snaps)) (λ z. since ≤ (with_base snaps z).base) seen one there
  where
    by : (z : Seen) (v : Value) (o : Option Snap) → lookup (is_at (address_cmp z.address)) snaps ≡ o → option_map (λ (s : Snap). s.value) o ≡ Some v
        → since ≤ base_in o
    by z v None e is = absurd (cc)
    by z v (Some s) e is = found (λ (read : Address × Snap). since ≤ read.1.base) snaps z.address s from e

    one : (z : Seen) → IsThere (values_of snaps) z → since ≤ (with_base snaps z).base
    one z there = by z there.value (lookup (is_at (address_cmp z.address)) snaps) refl there.is

-- the lesser of two numbers that isn't the first is the second
lesser-other : (k : ℕ) (o : Option ℕ) (shard : ℕ) → (k == shard) ≡ false → Some (lesser k o) ≡ Some shard → o ≡ Some shard
lesser-other k None shard other e = absurd (let same : k ≡ shard = cc in let here : (k == shard) ≡ true = grind
    (arith, nat_tests) in let h : true ≡ false = sym here ∙ other in cc)
lesser-other k (Some l) shard other e = let same : min k l ≡ shard = cc in ap (λ (n : ℕ). Some n) (by (nat_le k l) refl same)
  where
    by : (x : Bool) → nat_le k l ≡ x → min k l ≡ shard → l ≡ shard
    by true h same = absurd (let less : k ≤ l = grind (arith, nat_tests) in let is : k ≡ shard = omega arith in let here : (k == shard) ≡ true = grind
        (arith, nat_tests) in let f : true ≡ false = sym here ∙ other in cc)
    by false h same = let more : l < k = grind (arith, nat_tests) in omega arith

-- A shard is prepared since something was observed in it; so its front is not below the bases.
front-from : (since front shards shard : ℕ) (fronts : List PreparedFront) (snaps : SnapList) (seen : List Seen)
    → least_unprepared shards fronts seen ≡ Some shard
    → AllByRecursion (λ z. since ≤ (with_base snaps z).base) seen → AllByRecursion (λ b. b.base ≤ front) (in_shard shards shard (based snaps seen))
    → since ≤ front
front-from since front shards shard fronts snaps [] e from bases = absurd (cc)
front-from since front shards shard fronts snaps (z ∷ seen) e from bases =
    by (shard_of z.address shards == shard) refl (λ later. front-from since front shards shard fronts snaps seen later from.1) bases
  where
    rest : (x : Bool) → (shard_of z.address shards == shard) ≡ false
        → cond x (least_unprepared shards fronts seen) (Some (lesser (shard_of z.address shards) (least_unprepared shards fronts seen))) ≡ Some shard
        → least_unprepared shards fronts seen ≡ Some shard
    rest true other h = h
    rest false other h = lesser-other (shard_of z.address shards) (least_unprepared shards fronts seen) shard other h

    by : (x : Bool) → (shard_of z.address shards == shard) ≡ x
        → (least_unprepared shards fronts seen ≡ Some shard → AllByRecursion (λ b. b.base ≤ front) (in_shard shards shard (based snaps seen))
        → since ≤ front)
        → AllByRecursion (λ b. b.base ≤ front) (cond x (with_base snaps z ∷ in_shard shards shard (based snaps seen))
        (in_shard shards shard (based snaps seen))) → since ≤ front
    by true is more all = let up = from.0 in let down = all.0 in omega arith
    by false is more all = more (rest (has_front fronts (shard_of z.address shards)) is e) all

-- ---- looks

-- values of a prefix agree with its state on whatever was observed
values-agree : (s : Address → Value) (snaps : SnapList) → AllByRecursion (λ (read : Address × Snap). read.1.value ≡ s read.0) snaps
    → (seen : List Seen) → Agree (values_of snaps) (known s) seen
values-agree s snaps all [] = tt
values-agree s snaps all (z ∷ seen) = (record { there = s z.address; is = refl; same = λ v e. agrees v e }, values-agree s snaps all seen)
  where
    is : (v : Value) (o : Option Snap) → lookup (is_at (address_cmp z.address)) snaps ≡ o → option_map (λ (x : Snap). x.value) o ≡ Some v
        → v ≡ s z.address
    is v None e h = absurd (cc)
    is v (Some x) e h = let same : x.value ≡ v = cc in sym same ∙ found (λ (read : Address × Snap). read.1.value ≡ s read.0) snaps z.address x all e

    agrees : (v : Value) → values_of snaps z.address ≡ Some v → (kind_of v ≡ kind_of (s z.address)) × (observe z.obs v ≡ observe z.obs (s z.address))
    agrees v e = let same = is v (lookup (is_at (address_cmp z.address)) snaps) refl e in (ap kind_of same, ap (observe z.obs) same)

-- a run on values of a prefix is the run on its state, by determinacy
outcome-at : (journal : Journal) (n : ℕ) (body : Checked) (snaps : SnapList) (run : Run) → AllByRecursion (IsOf journal n) snaps
    → exec body.body (values_of snaps) ≡ done run
    → IsOutcomeAt journal body n run.outcome
outcome-at journal n body snaps run all e = record {
  run = run;
  ran = runs_are_determined body.body (values_of snaps) (known (state journal n)) run e (values-agree (state journal n) snaps all run.observations);
  outcome_is = refl;
}

module _ (w : Asking) (journal : Journal) (seen : ℕ) (below : w.low ≤ seen) where
  -- its run is done, so its outcome is that on the prefix
  pub look-over : (t : Session) (n : ℕ) (body : Checked) (snaps : SnapList) (run : Run) → IsLooked w journal seen t n body snaps
      → exec body.body (values_of snaps) ≡ done run
      → IsOver w journal seen t (said (reply.At n run.outcome))
  look-over t n body snaps run h e = by h.at
    where
      by : LooksAt w n body → IsOver w journal seen t (said (reply.At n run.outcome))
      by (LooksAt.at_seen el up) = over-is w w.attempt (asked.Look body) journal seen t (said (reply.At n run.outcome)) refl el (record {
        passes = (record { not_back = up; within = h.there }, outcome-at journal n body snaps run h.values e);
        session = h.session;
        shown = let within = h.within in omega arith;
      })
      by (LooksAt.at_named el) = over-is w w.attempt (asked.At n body) journal seen t (said (reply.At n run.outcome)) refl el (record {
        passes = (refl, h.there, outcome-at journal n body snaps run h.values e);
        session = h.session;
        shown = below;
      })

-- ---- one step, from a told journal to another

-- the window is that of the settings
window-is : (w : Asking) (k : Known) → setting_of k ≡ w.set → k.window ≡ w.set.window
window-is w k is = ap (λ (set : Setting). set.window) is

module _ (w : Asking) (k l : Known) (old new : Journal) (is : setting_of k ≡ w.set) (below : w.low ≤ k.seen) where
  -- a look's late number
  pub late-over : (t : Session) (n : ℕ) (body : Checked) (snaps : SnapList) (m horizon : ℕ) → IsLooked w old k.seen t n body snaps → m ≡ n → m < horizon
      → horizon + k.window ≤ length new
      → IsPrefix old new → k.seen ≤ l.seen → IsOver w new l.seen t (said (reply.Late m horizon))
  late-over t n body snaps m horizon h same under behind grows up = by h.at
    where
      within : m ≤ length new
      within = let there = h.there in let more = prefix-shorter old new grows in omega arith

      by : LooksAt w n body → IsOver w new l.seen t (said (reply.Late m horizon))
      by (LooksAt.at_seen el from_low) = over-is w w.attempt (asked.Look body) new l.seen t (said (reply.Late m horizon)) refl el (record {
        passes = (record { not_back = omega arith; within = within }, record { below = under; behind = let is_window = window-is w k is in omega arith });
        session = h.session;
        shown = omega arith;
      })
      by (LooksAt.at_named el) = over-is w w.attempt (asked.At n body) new l.seen t (said (reply.Late m horizon)) refl el (record {
        passes = (same, record { below = under; behind = let is_window = window-is w k is in omega arith });
        session = h.session;
        shown = omega arith;
      })

module _ (w : Asking) (k l : Known) (old new : Journal) (is : setting_of k ≡ w.set) (below : w.low ≤ k.seen) (before : w.begun ≤ w.low)
    (seen_there : k.seen ≤ length old) (mine : w.session.client ≡ k.client) where
  -- the session while its attempt is under way
  abbrev here : Session
  here = closed w.session

  -- the limit is that of the settings, too
  limit-is : k.limit ≡ w.set.limit
  limit-is = ap (λ (set : Setting). set.limit) is

  -- what bars the client is what the backend knows to bar it
  bars-is : (c : Known) → c.trusted ≡ k.trusted → c.client ≡ k.client → (journal : Journal) (run : Run)
      → bars w.set.trusted journal w.session.client run.deltas ≡ bars c.trusted journal c.client run.deltas
  bars-is c trusted client journal run =
      ap (λ (m : ℕ). bars m journal w.session.client run.deltas) (sym (trusted ∙ ap (λ (set : Setting). set.trusted) is))
      ∙ ap (λ (n : ℕ). bars c.trusted journal n run.deltas) (mine ∙ sym client)

  -- an end passes, and shows no number above what is seen then
  abbrev Ends : Option Attempt → Attempt → Reply → Type 0
  Ends o a r = EndIsRight w.set new w.low (attempting_of (with_attempt w.session o)) a r × (low_by w.low r ≤ l.seen)

  -- each end by its row of the clause of every call
  end-passes : (o : Option Attempt) (a : Attempt) (e : Next) (answer : Answer) (r : Reply) → next_event a ≡ e
      → IsAnswered k (event_call here a e) answer l
      → SaysOfJournal k l (event_call here a e) answer old new → moved_at a e answer ≡ Some (moved.End a r) → Ends o a r
  end-passes o a (next.Read address) (snap s) r e event says h = absurd (cc)
  end-passes o a (next.Prepare shard run) (prepared p) r e event says h = absurd (cc)
  end-passes o a (next.Prepare shard run) (late base horizon) r e event says h =
      subst (Ends o a) (let same : reply.Late base horizon ≡ r = cc in same) (
        record {
          shard = shard;
          run = run;
          next = e;
          least = says.row.0;
          late = record { below = says.row.1.below; behind = let b = says.row.1.behind in let same = window-is w k is in omega arith };
        },
        let up = event.goes_on.seen in omega arith,
      )
  end-passes o a (next.Prepare shard run) (clash x) r e event says h =
      subst (Ends o a) (let same : reply.Abort x ≡ r = cc in same)
      (IsAborted.at_prepare shard run e says.row.least, let up = event.goes_on.seen in let n = says.row.seen in omega arith)
  end-passes o a (next.Append run) (number n) r e event says h =
      subst (Ends o a) (let same : reply.Commit n run.outcome ≡ r = cc in same) (
        record {
          run = run;
          next = e;
          before = says.row.1.before;
          there = prefix-of new (says.row.1.before ++ commit_by (attempting_of (with_attempt w.session o)) a run n ∷ [])
              (says.row.1.added ∙ ap (λ (m : ℕ). says.row.1.before ++ commit_by (attempting_of (with_attempt w.session o)) a run m ∷ [])
              (sym says.row.1.numbered));
          number = says.row.1.numbered;
          above = let m = says.row.1.numbered in let more = prefix-shorter old says.row.1.before says.row.1.grown in omega arith;
          clear = says.row.1.clear;
          unbarred = bars-is k refl refl says.row.1.before run ∙ says.row.1.unbarred;
          outcome_is = refl;
        },
        let up = event.goes_on.seen in let n = event.shows in omega arith,
      )
  end-passes o a (next.Append run) (clash x) r e event says h =
      subst (Ends o a) (let same : reply.Abort x ≡ r = cc in same)
      (IsAborted.at_append run e says.row.least, let up = event.goes_on.seen in let n = says.row.seen in omega arith)
  end-passes o a (next.Append run) (held client at) r e event says h =
      subst (Ends o a) (let same : reply.Held client at ≡ r = cc in same) (
        record {
          run = run;
          next = e;
          first = length new;
          shown = record { not_back = let up = event.goes_on.seen in let there = says.within in omega arith; within = omega arith };
          clear = none-in-front (based_all a run) new (length new) says.row.clear;
          barred = ap (λ (front : Journal). bars w.set.trusted front w.session.client run.deltas) (prefix-whole new)
              ∙ (bars-is l event.client.trusted event.client.client new run ∙ says.row.barred);
        },
        let up = event.goes_on.seen in let there = says.row.seen in omega arith,
      )
  end-passes o a (next.Append run) (full limit) r e event says h =
      subst (Ends o a) (let same : reply.Full limit ≡ r = cc in same) (
        record {
          run = run;
          next = e;
          limit_is = says.row.limit_is ∙ (event.client.limit ∙ limit-is);
          within = let at = says.row.seen in let there = says.within in omega arith;
          clear = none-in-front (based_all a run) new limit says.row.clear;
        },
        let up = event.goes_on.seen in let at = says.row.seen in omega arith,
      )
  end-passes o a (next.Append run) disk r e event says h =
      subst (Ends o a) (let same : reply.Disk ≡ r = cc in same) (record { run = run; next = e }, let up = event.goes_on.seen in omega arith)
  end-passes o a e answer r is_next event says h = absurd (cc)

  -- `step`
  module _ (a : Attempt) (el : w.line ≡ asked.Step) (eo : w.attempt ≡ Some a) where
    abbrev Shows : Session → Reply → Type 0
    Shows t r = IsOver w new l.seen t (said r)

    shown : (t : Session) (r : Reply) → IsOver (record w { attempt = Some a; line = asked.Step }) new l.seen t (said r) → Shows t r
    shown t r h = over-is w (Some a) asked.Step new l.seen t (said r) eo el h

    pub step-explained : (e : Next) (answer : Answer) → next_event a ≡ e → IsAnswered k (event_call here a e) answer l
        → SaysOfJournal k l (event_call here a e) answer old new
        → ((shard : ℕ) (run : Run) (front : ℕ) → e ≡ next.Prepare shard run → answer ≡ prepared (record { shard = shard; front = front })
        → Fits new (with_front a shard front))
        → StepPasses w new l.seen here (moved_at a e answer)
    step-explained (next.Read address) (snap s) e event says fits = shown (with_attempt here (Some (with_snap a address s)))
        (reply.Read address s.base) (record {
          passes = (
            e,
            record {
              not_back =
                  (let up = event.goes_on.seen in let at = event.shows.0 in omega arith);
              within = let at = event.shows.0 in let there = says.within in omega arith;
            },
          );
          session = ap (λ (v : Value). with_attempt here (Some (with_snap a address (record { base = s.base; value = v })))) says.row;
          shown = let up = event.goes_on.seen in let at = event.shows.0 in omega arith;
        })
    step-explained (next.Prepare shard run) (prepared p) e event says fits = shown (with_attempt here (Some (with_front a shard p.front)))
        (reply.Prepared shard p.front) (record {
          passes = ((run, e), fits shard run p.front refl (ap (λ (n : ℕ). prepared (record { shard = n; front = p.front })) event.shows));
          session = refl;
          shown = let up = event.goes_on.seen in let at = says.row.seen in omega arith;
        })
    step-explained (next.Prepare shard run) (late base horizon) e event says fits =
        let p = end-passes (Some a) a (next.Prepare shard run) (late base horizon) (reply.Late base horizon) e event says refl in
        shown (ended here (reply.Late base horizon)) (reply.Late base horizon) (record { passes = p.0; session = refl; shown = p.1 })
    step-explained (next.Prepare shard run) (clash x) e event says fits =
        let p = end-passes (Some a) a (next.Prepare shard run) (clash x) (reply.Abort x) e event says refl in
        shown (ended here (reply.Abort x)) (reply.Abort x) (record { passes = p.0; session = refl; shown = p.1 })
    step-explained (next.Append run) (number n) e event says fits =
        let p = end-passes (Some a) a (next.Append run) (number n) (reply.Commit n run.outcome) e event says refl in
        shown (ended here (reply.Commit n run.outcome)) (reply.Commit n run.outcome) (record { passes = p.0; session = refl; shown = p.1 })
    step-explained (next.Append run) (clash x) e event says fits =
        let p = end-passes (Some a) a (next.Append run) (clash x) (reply.Abort x) e event says refl in
        shown (ended here (reply.Abort x)) (reply.Abort x) (record { passes = p.0; session = refl; shown = p.1 })
    step-explained (next.Append run) (held client at) e event says fits =
        let p = end-passes (Some a) a (next.Append run) (held client at) (reply.Held client at) e event says refl in
        shown (ended here (reply.Held client at)) (reply.Held client at) (record { passes = p.0; session = refl; shown = p.1 })
    step-explained (next.Append run) (full limit) e event says fits =
        let p = end-passes (Some a) a (next.Append run) (full limit) (reply.Full limit) e event says refl in
        shown (ended here (reply.Full limit)) (reply.Full limit) (record { passes = p.0; session = refl; shown = p.1 })
    step-explained (next.Append run) disk e event says fits =
        let p = end-passes (Some a) a (next.Append run) disk reply.Disk e event says refl in
        shown (ended here reply.Disk) reply.Disk (record { passes = p.0; session = refl; shown = p.1 })
    step-explained e answer is_next event says fits = tt

  -- `go` and `try`
  module _ (left : ℕ) (a : Attempt) (h : IsDriven w here left a) (fits : Fits new a) where
    -- the end of one that isn't followed
    end-over : (r : Reply) → ((o : Option Attempt) → Ends o a r) → IsOver w new l.seen (ended here r) (said r)
    end-over r p = by h.first h.since h.began h.hides
      where
        by : (first : Attempt) (since : ℕ) → Began w left since first → Hides since first a → IsOver w new l.seen (ended here r) (said r)
        by first since (Began.at_go el eo es none) hides = over-is w (Some first) asked.Go new l.seen (ended here r) (said r) eo el (record {
          passes = record { attempt = a; hidden = subst (λ (n : ℕ). Hides n first a) es hides; fits = fits; passes = (p (Some first)).0 };
          session = refl;
          shown = (p (Some first)).1;
        })
        by first since (Began.at_try tries body el eo es ef) hides = over-is w None (asked.Try tries body) new l.seen (ended here r) (said r) eo el
            (record {
              passes = record {
                attempt = a;
                hidden = subst (λ (x : Attempt). Hides w.low x a) ef
                    (subst (λ (n : ℕ). Hides n first a) es hides);
                fits = fits;
                passes = (p None).0;
              };
              session = refl;
              shown = (p None).1;
            })

    -- of one that may be
    again : (m : ℕ) → left ≡ suc m → Began w left h.since h.first → IsTried w here (afresh a)
    again m e (Began.at_go el eo es none) = absurd (omega arith)
    again m e (Began.at_try tries body el eo es ef) =
        record { session = refl; tries = tries; body = body; line = el; none = eo; first = anew-is a w.set.shards body h.since h.first ef h.hides }

    end-explained : (r : Reply) → ((o : Option Attempt) → Ends o a r) → EndPasses w new l.seen here left a r
    end-explained r p = by left refl r (end-over r p)
      where
        by : (m : ℕ) → left ≡ m → (r : Reply) → IsOver w new l.seen (ended here r) (said r) → EndPasses w new l.seen here m a r
        by (suc m) e (reply.Abort x) over = again m e h.began
        by zero e r over = over
        by (suc m) e r over = over

    pub go-explained : (e : Next) (answer : Answer) → next_event a ≡ e → IsAnswered k (event_call here a e) answer l
        → SaysOfJournal k l (event_call here a e) answer old new
        → DrivePasses w new l.seen here left (moved_at a e answer)
    go-explained (next.Read address) (snap s) e event says =
        let up : h.since ≤ s.base = (let b = h.below in let rises = event.goes_on.seen in let at = event.shows.0 in omega arith) in record {
          session = refl;
          first = h.first;
          since = h.since;
          began = h.began;
          hides = Hides.a_read address s h.hides e up;
          below = h.below;
          bases = each-inserted (λ (read : Address × Snap). h.since ≤ read.1.base) a.snaps address s up h.bases;
        }
    go-explained (next.Prepare shard run) (prepared p) e event says =
        let is = prepares a shard run e in
        let up = front-from h.since p.front a.shards shard a.fronts a.snaps run.observations is.least
        (observed-from h.since a.snaps run.observations h.bases (observed_is_there a.body.body (values_of a.snaps) run is.ran))
        says.row.bases in record {
          session = refl;
          first = h.first;
          since = h.since;
          began = h.began;
          hides = Hides.a_front shard p.front h.hides (run, e) up;
          below = h.below;
          bases = h.bases;
        }
    go-explained (next.Prepare shard run) (late base horizon) e event says =
        end-explained (reply.Late base horizon) (λ o. end-passes o a (next.Prepare shard run) (late base horizon) (reply.Late base horizon)
        e event says refl)
    go-explained (next.Prepare shard run) (clash x) e event says =
        end-explained (reply.Abort x) (λ o. end-passes o a (next.Prepare shard run) (clash x) (reply.Abort x) e event says refl)
    go-explained (next.Append run) (number n) e event says =
        end-explained (reply.Commit n run.outcome) (λ o. end-passes o a (next.Append run) (number n) (reply.Commit n run.outcome) e event says refl)
    go-explained (next.Append run) (clash x) e event says =
        end-explained (reply.Abort x) (λ o. end-passes o a (next.Append run) (clash x) (reply.Abort x) e event says refl)
    go-explained (next.Append run) (held client at) e event says =
        end-explained (reply.Held client at) (λ o. end-passes o a (next.Append run) (held client at) (reply.Held client at) e event says refl)
    go-explained (next.Append run) (full limit) e event says =
        end-explained (reply.Full limit) (λ o. end-passes o a (next.Append run) (full limit) (reply.Full limit) e event says refl)
    go-explained (next.Append run) disk e event says =
        end-explained reply.Disk (λ o. end-passes o a (next.Append run) disk reply.Disk e event says refl)
    go-explained e answer is_next event says = tt
