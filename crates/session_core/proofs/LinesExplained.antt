-- Lines of every form end with answers that pass, where the backend tells its journal.
use Rattle.std.proofs.Common.{◌≡◌, ℕ, ◌+◌, ◌≤◌, ◌<◌, Bool, true, false, cond, nat_lt, List, [], ◌∷◌, fold, length, Option, Some, None, Ok, refl, sym, ap}
use Rattle.std.proofs.Common.{subst, arith}
use Rattle.std.specs.List.{AllByRecursion}
use Rattle.std.proofs.lemmas.Bool.Decides.{nat_tests}
use Rattle.dio_core.specs.Told.{WhereTold}
use Rattle.plain_data.specs.Texts.{Bytes}
use Rattle.session_text.specs.declared.reply.Reply.{Reply}
use Rattle.txn_lang.specs.declared.checked.Checked.{Checked}
use Rattle.txn_lang.specs.States.{Journal}
use Rattle.docc_prepare.specs.Calls.{Known, Call, Answer}
use Rattle.docc_prepare.specs.Calls.Answer.{number}
use Rattle.docc_prepare.specs.Backends.{IsPrefix, IsAnswered, SaysOfJournal}
use Rattle.call_programs.specs.Programs.{Program}
use Rattle.call_programs.specs.Safe.{AsksAny, AlwaysEnds}
use Rattle.call_programs.proofs.Programs.{always_more}
use Rattle.call_programs.proofs.Safe.{then_ends}
use Rattle.client_watches.specs.declared.watching.Watching.{Watching}
use Rattle.client_watches.specs.Explained.{shown_of, GoalPasses, UnwatchPasses}
use Rattle.client_watches.specs.GoingOn.{WatchLine}
use Rattle.client_watches.specs.Laws.{Passes as WatchesPass, Forgets}
use Rattle.client_watches.specs.LineLaws.{program_of}
use Rattle.client_watches.specs.Lines.{Told}
use Rattle.client_watches.specs.Goals.{Goal}
use Rattle.client_watches.specs.Saying.{IsOfWatches}
use Rattle.client_watches.proofs.Explaining.{sync_is_explained}
use Rattle.client_watches.proofs.Forgotten.{unwatch_is_explained}
use Rattle.client_watches.proofs.Making.{watch_is_explained}
use Rattle.client_watches.proofs.Seen.{lines_say_what_is_seen}
use Rattle.client_watches.proofs.Stays.{AreUpTo}
use Rattle.client_watches.proofs.Telling.{up-to-more}
use Rattle.session_core.specs.declared.line.Line.{Line}
use Rattle.session_core.specs.declared.line.Line.TheVariants as asked
use Rattle.session_core.specs.declared.session.Session.{Session}
use Rattle.session_core.specs.declared.turn.Turn.{Turn}
use Rattle.session_core.specs.declared.turn.Turn.TheVariants as turn
use Rattle.session_core.specs.Bounds.{IsPlain}
use Rattle.session_core.specs.Explained.{Story, attempting_of, story_of, low_by, LinePasses, MayBeTold, setting_of, IsExplained}
use Rattle.session_core.specs.Holding.{Attends, Counts, BodyIsReady}
use Rattle.session_core.specs.LineLaws.{LinesAreExplained}
use Rattle.session_core.specs.LinePrograms.{leaves, of_watches, sync, wait_for, line_over}
use Rattle.session_core.specs.Events.{with_watching}
use Rattle.session_core.specs.Verbs.{LineEnd}
use Rattle.session_core.proofs.AttemptsExplained.{Passed, plain_ends, refresh_ends, told_next}
use Rattle.session_core.proofs.Explained.{plain-passes}
use Rattle.session_core.proofs.Explaining.{if-told}
use Rattle.session_core.proofs.Grown.{prefix-again}
use Rattle.session_core.proofs.Minding.{told-attends}
use Rattle.session_core.proofs.Reports.{shown-up, minded}
use Rattle.session_core.proofs.Safe.{refreshed_on}
use Rattle.session_core.proofs.WatchesBehind.{untold_behind}

-- ---- facts of every program

-- two facts of an end
both_end : {A : Type 0} (first second : Known → A → Type 0) (c : Known) (p : Program A) → AlwaysEnds c p first → AlwaysEnds c p second
    → AlwaysEnds c p (λ l a. first l a × second l a)
both_end first second c (Program.ends a) one other = (one, other)
both_end first second c (Program.asks call next) one other =
    (tt, λ answer l step ok. both_end first second l (next answer) (one.1 answer l step ok) (other.1 answer l step ok))
both_end first second c Program.stuck one other = tt

-- of all, where it is so of each
all_end : {A X : Type 0} (holds : X → Known → A → Type 0) (c : Known) (p : Program A) → ((x : X) → AlwaysEnds c p (holds x))
    → AlwaysEnds c p (λ l a. (x : X) → holds x l a)
all_end holds c (Program.ends a) each = each
all_end holds c (Program.asks call next) each = (tt, λ answer l step ok. all_end holds l (next answer) (λ x. (each x).1 answer l step ok))
all_end holds c Program.stuck each = tt

-- what is seen never falls
pub seen_up : {A : Type 0} (k c : Known) (p : Program A) → k.seen ≤ c.seen → AlwaysEnds c p (λ l a. k.seen ≤ l.seen)
seen_up k c (Program.ends a) up = up
seen_up k c (Program.asks call next) up = (tt, λ answer l step ok. seen_up k l (next answer) (let more = step.goes_on.seen in omega arith))
seen_up k c Program.stuck up = tt

-- where both are told
pub told_is : (R : Journal → Journal → Type 0) (x y : Option Journal) (old new : Journal) → x ≡ Some old → y ≡ Some new → R old new → WhereTold R x y
told_is R x y old new ex ey h =
    subst (λ (x : Option Journal). WhereTold R x y) (sym ex) (subst (λ (y : Option Journal). WhereTold R (Some old) y) (sym ey) h)

-- and where neither is
told_none : (R : Journal → Journal → Type 0) (x y : Option Journal) → x ≡ None → y ≡ None → WhereTold R x y
told_none R x y ex ey =
    subst (λ (x : Option Journal). WhereTold R x y) (sym ex) (subst (λ (y : Option Journal). WhereTold R None y) (sym ey) tt)

-- ---- lines of watches

-- what their replies show is seen
shows_seen : (k : Known) (s : Session) (line : WatchLine) (low : ℕ) → Attends k s → low ≤ k.seen
    → AlwaysEnds k (program_of line s.watching) (λ l told. fold low_by low told.1 ≤ l.seen)
shows_seen k s line low is below =
    always_more AsksAny IsAnswered (Unit {0}) (λ l (told : Told). AllByRecursion (IsOfWatches l.seen) told.1 × (k.seen ≤ l.seen))
    (λ l (told : Told). fold low_by low told.1 ≤ l.seen) k (program_of line s.watching)
    (λ l told h. shown-up l.seen low told.1 (let up = h.1 in omega arith) h.0)
    (both_end (λ l (told : Told). AllByRecursion (IsOfWatches l.seen) told.1) (λ l (told : Told). k.seen ≤ l.seen) k (program_of line s.watching)
    (lines_say_what_is_seen k s.watching line is.watches.keeps) (seen_up k k (program_of line s.watching) (omega arith)))

-- an end of a line passes
abbrev pub EndPasses : Known → Session → Line → ℕ → ℕ → Known → LineEnd → Type 0
EndPasses k s asked low begun l end = WhereTold (LinePasses k l (story_of low begun s) asked end.1 end.0) k.journal l.journal

module _ (k : Known) (s : Session) (low begun : ℕ) (old : Journal) (is : Attends k s) (e : k.journal ≡ Some old) where
  -- `sync`, of which so much was shown before
  synced_so : (most : ℕ) → most ≤ k.seen → AreUpTo most (shown_of s.watching.watches)
      → AlwaysEnds k (program_of WatchLine.sync s.watching) (λ l told. WatchesPass k l s.watching told.0 most Goal.current told.1 old)
  synced_so most below upto =
      let minds = minded k s old is e in
      sync_is_explained k s.watching most old (told-attends k s.watching old e is.watches.keeps minds) minds.can_on (record { seen = below; reported = upto })

  module _ (may : MayBeTold k (story_of low begun s)) where
    -- the line's part
    of_ends : (line : WatchLine) (asked : Line) (part : Known → Told → Type 0) → AlwaysEnds k (program_of line s.watching) part
        → ((l : Known) (told : Told) → part l told → fold low_by low told.1 ≤ l.seen
        → EndPasses k s asked low begun l (with_watching s told.0, turn.Replies told.1))
        → AlwaysEnds k (of_watches s (program_of line s.watching)) (EndPasses k s asked low begun)
    of_ends line asked part ends passes =
        then_ends (λ l (told : Told). part l told × (fold low_by low told.1 ≤ l.seen)) (EndPasses k s asked low begun) (leaves s) k
        (program_of line s.watching)
        (both_end part (λ l (told : Told). fold low_by low told.1 ≤ l.seen) k (program_of line s.watching) ends (shows_seen k s line low is may.seen))
        (λ l told h. passes l told h.0 h.1)

    sync_ends : AlwaysEnds k (of_watches s (program_of WatchLine.sync s.watching)) (EndPasses k s asked.Sync low begun)
    sync_ends = of_ends WatchLine.sync asked.Sync (λ l told. WatchesPass k l s.watching told.0 low Goal.current told.1 old)
        (synced_so low may.seen may.reported)
        (λ l told pass shown. told_is _ k.journal l.journal old pass.new e pass.goes_on.attends.told
        (record { grows = pass.goes_on.grows; passes = pass.passes; attempting = refl; shown = shown }))

    watch_ends : (name : Bytes) (body : Checked) → AlwaysEnds k (of_watches s (program_of (WatchLine.watch name body) s.watching))
        (EndPasses k s (asked.Watch name body) low begun)
    watch_ends name body =
        let minds = minded k s old is e in
        of_ends (WatchLine.watch name body) (asked.Watch name body)
        (λ l told. WatchesPass k l s.watching told.0 low (Goal.watch name body) told.1 old)
        (watch_is_explained k s.watching name body low old (told-attends k s.watching old e is.watches.keeps minds) minds.can_on
        (record { seen = may.seen; reported = may.reported }))
        (λ l told pass shown. told_is _ k.journal l.journal old pass.new e pass.goes_on.attends.told
        (record { grows = pass.goes_on.grows; passes = pass.passes; attempting = refl; shown = shown }))

    unwatch_ends : (name : Bytes) → AlwaysEnds k (of_watches s (program_of (WatchLine.unwatch name) s.watching)) (EndPasses k s (asked.Unwatch name) low begun)
    unwatch_ends name =
        let minds = minded k s old is e in
        of_ends (WatchLine.unwatch name) (asked.Unwatch name) (λ l told. Forgets k l s.watching told.0 name told.1 old)
        (unwatch_is_explained k s.watching name old (told-attends k s.watching old e is.watches.keeps minds) minds.can_on)
        (λ l told pass shown. told_is _ k.journal l.journal old pass.new e pass.goes_on.attends.told
        (record { grows = pass.goes_on.grows; passes = pass.passes; attempting = refl; shown = shown }))

-- Behind a wait all is as for `sync`, past all that was shown.
pub waited_ends : (k l : Known) (s : Session) (low begun : ℕ) (old mid : Journal) → k.journal ≡ Some old → l.journal ≡ Some mid → IsPrefix old mid
    → MayBeTold k (story_of low begun s) → Attends l s → k.seen < l.seen → l.window ≡ k.window
    → AlwaysEnds l (sync s) (EndPasses k s asked.Wait low begun)
waited_ends k l s low begun old mid e to grows may on more window =
    let seen = may.seen in
    then_ends (λ m (told : Told). WatchesPass l m s.watching told.0 (low + 1) Goal.current told.1 mid × (fold low_by low told.1 ≤ m.seen))
    (EndPasses k s asked.Wait low begun) (leaves s) l (program_of WatchLine.sync s.watching)
    (both_end (λ m (told : Told). WatchesPass l m s.watching told.0 (low + 1) Goal.current told.1 mid)
    (λ m (told : Told). fold low_by low told.1 ≤ m.seen) l (program_of WatchLine.sync s.watching)
    (synced_so l s (low + 1) begun mid on to (low + 1) (omega arith)
    (up-to-more low (low + 1) (shown_of s.watching.watches) (omega arith) may.reported))
    (shows_seen l s WatchLine.sync low on (omega arith)))
    (λ m told h. told_is _ k.journal m.journal old h.0.new e h.0.goes_on.attends.told (record {
      grows = prefix-again old mid h.0.new grows h.0.goes_on.grows;
      passes = subst (λ (window : ℕ). GoalPasses window h.0.new (low + 1) Goal.current (shown_of s.watching.watches) told.1
          (shown_of told.0.watches)) window h.0.passes;
      attempting = refl;
      shown = h.1;
    }))

-- `wait`
wait_ends : (k : Known) (s : Session) (low begun : ℕ) (old : Journal) → Attends k s → k.journal ≡ Some old → MayBeTold k (story_of low begun s)
    → AlwaysEnds k (line_over k s asked.Wait) (EndPasses k s asked.Wait low begun)
wait_ends k s low begun old is e may =
    refresh_ends k (wait_for s k.seen) (EndPasses k s asked.Wait low begun) (λ l n step. by l n step
    (told_next (SaysOfJournal k l Call.refresh (number n)) k.journal l.journal old e step.told) (nat_lt k.seen n) refl)
  where
    by : (l : Known) (n : ℕ) → IsAnswered k Call.refresh (number n) l
        → (mid : Journal) × ((l.journal ≡ Some mid) × SaysOfJournal k l Call.refresh (number n) old mid) → (b : Bool) → nat_lt k.seen n ≡ b
        → AlwaysEnds l (cond b (sync s) (Program.ends (s, turn.WaitWanted))) (EndPasses k s asked.Wait low begun)
    by l n step then_ false test = told_is _ k.journal l.journal old then_.0 e then_.1.0 (record {
      grows = then_.1.1.grows;
      passes = refl;
      attempting = refl;
      shown = let seen = may.seen in let up = step.goes_on.seen in omega arith;
    })
    by l n step then_ true test =
        waited_ends k l s low begun old then_.0 e then_.1.0 then_.1.1.grows may (refreshed_on k l s n step is)
        (let at = step.shows in let more : k.seen < n = grind (arith, nat_tests) in omega arith) step.client.window

-- ---- all lines

-- a line that isn't of watches
plain_end : (k : Known) (s : Session) (l : Line) (low begun : ℕ) (old : Journal) → IsPlain l → Attends k s → BodyIsReady l
    → MayBeTold k (story_of low begun s) → k.journal ≡ Some old → AlwaysEnds k (line_over k s l) (EndPasses k s l low begun)
plain_end k s l low begun old plain is ready may e =
    let there = (if-told (Counts k s.seq) k.journal old e is.counts).within in
    always_more AsksAny IsAnswered (Unit {0}) (Passed k old low begun s may.seen may.before there e s.attempt l) (EndPasses k s l low begun) k (line_over k s l)
    (λ m end h. told_is _ k.journal m.journal old h.0 e h.1.0.told (record {
      grows = h.1.0.grows;
      passes = plain-passes (setting_of k) h.0 (story_of low begun s) l end.1 (shown_of end.0.watching.watches) h.1.1.passes
          (ap (λ (x : Session). shown_of x.watching.watches) h.1.1.session);
      attempting = ap attempting_of h.1.1.session;
      shown = h.1.1.shown;
    })) (plain_ends k old low begun s may.seen may.before there e s.attempt l plain is ready may.bases)

-- a row a form of line
told_line : (k : Known) (s : Session) (l : Line) (low begun : ℕ) (old : Journal) → Attends k s → BodyIsReady l → MayBeTold k (story_of low begun s)
    → k.journal ≡ Some old → AlwaysEnds k (line_over k s l) (EndPasses k s l low begun)
told_line k s (asked.Watch name body) low begun old is ready may e = watch_ends k s low begun old is e may name body
told_line k s (asked.Unwatch name) low begun old is ready may e = unwatch_ends k s low begun old is e may name
told_line k s asked.Sync low begun old is ready may e = sync_ends k s low begun old is e may
told_line k s asked.Wait low begun old is ready may e = wait_ends k s low begun old is e may
told_line k s asked.Quiet low begun old is ready may e = plain_end k s asked.Quiet low begun old tt is ready may e
told_line k s (asked.Refused reason) low begun old is ready may e = plain_end k s (asked.Refused reason) low begun old tt is ready may e
told_line k s (asked.Begin body) low begun old is ready may e = plain_end k s (asked.Begin body) low begun old tt is ready may e
told_line k s (asked.Try tries body) low begun old is ready may e = plain_end k s (asked.Try tries body) low begun old tt is ready may e
told_line k s asked.Step low begun old is ready may e = plain_end k s asked.Step low begun old tt is ready may e
told_line k s asked.Go low begun old is ready may e = plain_end k s asked.Go low begun old tt is ready may e
told_line k s asked.Drop low begun old is ready may e = plain_end k s asked.Drop low begun old tt is ready may e
told_line k s (asked.Look body) low begun old is ready may e = plain_end k s (asked.Look body) low begun old tt is ready may e
told_line k s (asked.At n body) low begun old is ready may e = plain_end k s (asked.At n body) low begun old tt is ready may e
told_line k s asked.Seen low begun old is ready may e = plain_end k s asked.Seen low begun old tt is ready may e
told_line k s asked.Quit low begun old is ready may e = plain_end k s asked.Quit low begun old tt is ready may e

-- whether the journal is told or not
pub lines_are_explained : LinesAreExplained
lines_are_explained k s l is ready =
    all_end (λ (low : ℕ) m (end : LineEnd). (begun : ℕ) → MayBeTold k (story_of low begun s) → EndPasses k s l low begun m end) k (line_over k s l)
    (λ low. all_end (λ (begun : ℕ) m (end : LineEnd). MayBeTold k (story_of low begun s) → EndPasses k s l low begun m end) k (line_over k s l)
    (λ begun. all_end (λ (may : MayBeTold k (story_of low begun s)) m (end : LineEnd). EndPasses k s l low begun m end) k (line_over k s l)
    (λ may. by low begun may k.journal refl)))
  where
    by : (low begun : ℕ) → MayBeTold k (story_of low begun s) → (o : Option Journal) → k.journal ≡ o
        → AlwaysEnds k (line_over k s l) (EndPasses k s l low begun)
    by low begun may None e =
        always_more AsksAny IsAnswered (Unit {0}) (λ m (end : LineEnd). m.journal ≡ None) (EndPasses k s l low begun) k (line_over k s l)
        (λ m end none. told_none _ k.journal m.journal e none) (untold_behind k (line_over k s l) e)
    by low begun may (Some old) e = told_line k s l low begun old is ready may e
