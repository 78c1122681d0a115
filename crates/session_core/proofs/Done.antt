-- What holds of a line that is done, also where it had to wait first.
use Rattle.std.proofs.Common.{◌≡◌, ℕ, ◌≤◌, [], length, Some, Ok, refl, sym, ap, ◌∙◌, subst, arith}
use Rattle.dio_core.specs.Told.{WhereTold}
use Rattle.dio_core.specs.declared.line.TheConstants.{LONGEST_LINE}
use Rattle.dio_core.proofs.Told.{WhereTold-map, WhereTold-then}
use Rattle.txn_grammar.specs.Characters.{Text}
use Rattle.txn_lang.specs.Journals.{own}
use Rattle.txn_lang.specs.States.{Journal}
use Rattle.docc_prepare.specs.Backends.{IsPrefix, IsAnswered, IsSameClient, SaysOfJournal}
use Rattle.docc_prepare.specs.Calls.{Known, Call, Answer}
use Rattle.call_programs.specs.Programs.{Program, Leads}
use Rattle.call_programs.specs.Safe.{MayAsk, AsksAny}
use Rattle.call_programs.proofs.Programs.{along}
use Rattle.client_watches.specs.Explained.{shown_of}
use Rattle.session_core.specs.declared.line.Line.{Line}
use Rattle.session_core.specs.declared.line.Line.TheVariants as asked
use Rattle.session_core.specs.declared.session.Session.{Session}
use Rattle.session_core.specs.declared.turn.Turn.{Turn}
use Rattle.session_core.specs.declared.turn.Turn.TheVariants as turn
use Rattle.session_core.specs.Explained.{Setting, Story, story_of, Passes, replies_in, setting_of, LinePasses, MayBeTold, IsExplained}
use Rattle.session_core.specs.Holding.{Attends, BodyIsReady}
use Rattle.session_core.specs.LinePrograms.{sync, line_over}
use Rattle.session_core.specs.LineTalks.{IsDone}
use Rattle.session_core.specs.Lines.{line_of}
use Rattle.session_core.specs.Sessions.{denied_by_all}
use Rattle.session_core.specs.Verbs.{LineEnd}
use Rattle.session_core.proofs.AttemptsExplained.{told_next}
use Rattle.session_core.proofs.Explained.{told-then, where-told, same-setting}
use Rattle.session_core.proofs.Grown.{prefix-again}
use Rattle.session_core.proofs.LinesExplained.{EndPasses, lines_are_explained, seen_up, waited_ends}
use Rattle.session_core.proofs.LinesSafe.{lines_are_safe}
use Rattle.session_core.proofs.LinesTell.{lines_tell}
use Rattle.session_core.proofs.Moving.{plain-on}
use Rattle.session_core.proofs.Ready.{line-ready}
use Rattle.session_core.proofs.Said.{denied-rises}
use Rattle.session_core.proofs.Safe.{AttendsEnd}
use Rattle.session_core.proofs.Telling.{HasSaid, LineSaid}
use Rattle.session_core.proofs.WatchesBehind.{same_client}
use Rattle.session_core.proofs.Woken.{HasOwned, waits-alone, same-thrice, owned-behind}

-- ---- a program that leads to its end

module _ (k m : Known) (s t : Session) (l : Line) (x : Turn) (is : Attends k s) (ready : BodyIsReady l)
    (led : Leads IsAnswered k (line_over k s l) m (Program.ends (t, x))) where
  -- the session attends there
  pub led_attends : Attends m t
  led_attends = along MayAsk ⊥ AttendsEnd led (lines_are_safe k s l is ready)

  -- it is the same client
  pub led_client : IsSameClient k m
  led_client = along AsksAny (Unit {0}) (λ m (end : LineEnd). IsSameClient k m) led (same_client k k (line_over k s l)
      (record { client = refl; trusted = refl; shards = refl; window = refl; limit = refl }))

  -- its replies tell of all that was done
  pub led_said : HasSaid k m (replies_in x)
  led_said = along (λ m call. HasSaid k m []) (Unit {0}) (LineSaid k) led (lines_tell k s l is)

  -- the answer passes
  pub led_explained : (low begun : ℕ) → MayBeTold k (story_of low begun s)
      → WhereTold (LinePasses k m (story_of low begun s) l x t) k.journal m.journal
  led_explained = along AsksAny (Unit {0}) (λ m (end : LineEnd). IsExplained k m s l (Ok end.1) end.0) led (lines_are_explained k s l is ready)

-- commits that were said are owned
owned_of : (client : ℕ) (k m : Known) (s t : Session) (l : Line) (x : Turn) → k.client ≡ client → HasSaid k m (replies_in x)
    → WhereTold (HasOwned client (replies_in x)) k.journal m.journal
owned_of client k m s t l x same said = subst (λ (c : ℕ). WhereTold (HasOwned c (replies_in x)) k.journal m.journal) same
    (WhereTold-map k.journal m.journal (λ old new h. record { grows = h.grows; own_is = h.own_is; there = h.there }) said.own)

-- ---- a line that is done

-- all that is so of it
pub record HasDone (k m : Known) (s t : Session) (text : Text) (x : Turn) : Type 0 where
  pub attends : Attends m t
  pub client : IsSameClient k m
  pub owns : WhereTold (HasOwned k.client (replies_in x)) k.journal m.journal
  pub denied : m.denied ≡ denied_by_all k.denied (replies_in x)
  pub known : denied_by_all k.denials (replies_in x) ≤ m.denials
  pub explained : (low begun : ℕ) → MayBeTold k (story_of low begun s)
      → WhereTold (LinePasses k m (story_of low begun s) (line_of text) x t) k.journal m.journal

-- at once
once_done : (k m : Known) (s t : Session) (text : Text) (x : Turn) → Attends k s → length text ≤ LONGEST_LINE
    → Leads IsAnswered k (line_over k s (line_of text)) m (Program.ends (t, x)) → HasDone k m s t text x
once_done k m s t text x is short led =
    let ready = line-ready text short in
    let said = led_said k m s t (line_of text) x is ready led in record {
      attends = led_attends k m s t (line_of text) x is ready led;
      client = led_client k m s t (line_of text) x is ready led;
      owns = owned_of k.client k m s t (line_of text) x refl said;
      denied = said.denied.denied;
      known = said.known.known;
      explained = led_explained k m s t (line_of text) x is ready led;
    }

module _ (k there woke m : Known) (s u t : Session) (text : Text) (x : Turn) (is : Attends k s) (short : length text ≤ LONGEST_LINE)
    (led : Leads IsAnswered k (line_over k s (line_of text)) there (Program.ends (u, turn.WaitWanted)))
    (event : IsAnswered there Call.wait Answer.done woke) (on : Leads IsAnswered woke (sync u) m (Program.ends (t, x))) where
  -- what was seen is seen
  seen_there : k.seen ≤ there.seen
  seen_there = along AsksAny (Unit {0}) (λ m (end : LineEnd). k.seen ≤ m.seen) led (seen_up k k (line_over k s (line_of text)) (omega arith))

  -- up to the wait
  waiting : HasDone k there s u text turn.WaitWanted
  waiting = once_done k there s u text turn.WaitWanted is short led

  -- behind it the session goes on
  attends_woke : Attends woke u
  attends_woke =
      plain-on there woke u Call.wait Answer.done event (λ old new own. own) event.keeps event.goes_on.subscribed event.goes_on.taken waiting.attends

  -- and says what `sync` says
  said_woke : HasSaid woke m (replies_in x)
  said_woke = led_said woke m u t asked.Sync x attends_woke tt on

  -- the client all along
  client_woke : woke.client ≡ k.client
  client_woke = event.client.client ∙ waiting.client.client

  -- the commits, from before the wait
  woken_owns : WhereTold (HasOwned k.client (replies_in x)) k.journal m.journal
  woken_owns = WhereTold-then {S = λ mid new. (woke : Journal) × IsPrefix mid woke × (own k.client woke ≡ own k.client mid) × HasOwned k.client
      (replies_in x) woke new} k.journal there.journal m.journal
      (λ old mid new first rest. owned-behind k.client old mid rest.0 new (replies_in x) first rest.1 rest.2 rest.3) waiting.owns
      (WhereTold-then {R = λ mid woke. IsPrefix mid woke × (own k.client woke ≡ own k.client mid)} there.journal woke.journal m.journal
      (λ mid woke new waited last. (woke, waited.0, waited.1, last))
      (WhereTold-map there.journal woke.journal
      (λ old new says. (says.grows, subst (λ (c : ℕ). own c new ≡ own c old) waiting.client.client says.same_own)) event.told)
      (owned_of k.client woke m u t asked.Sync x client_woke said_woke))

  module _ (low begun : ℕ) (may : MayBeTold k (story_of low begun s)) where
    -- the story is the same behind the wait, and the reports are then past all that was shown
    woken_passes : (old mid new : Journal) → there.journal ≡ Some mid → m.journal ≡ Some new
        → LinePasses k there (story_of low begun s) (line_of text) turn.WaitWanted u old mid
        → LinePasses k m (story_of low begun s) (line_of text) x t old new
    woken_passes old mid new from to passes =
        let y : Story = story_of low begun s in
        let waits = waits-alone (setting_of k) mid y (line_of text) u passes.passes passes.attempting in
        let may_there : MayBeTold there (story_of low begun u) = subst (MayBeTold there) (sym waits.story) (record {
          seen = (let seen = may.seen in let up = seen_there in omega arith);
          before = may.before;
          bases = may.bases;
          reported = may.reported;
        }) in
        let next = told_next (SaysOfJournal there woke Call.wait Answer.done) there.journal woke.journal mid from event.told in
        let last = subst (λ (z : Story). LinePasses there m z asked.Wait x t mid new) waits.story
        (where-told (LinePasses there m (story_of low begun u) asked.Wait x t) there.journal m.journal mid new from to
        (along AsksAny (Unit {0}) (EndPasses there u asked.Wait low begun) on
        (waited_ends there woke u low begun mid next.0 from next.1.0 next.1.1.grows may_there attends_woke event.shows event.client.window))) in
        subst (λ (line : Line). LinePasses k m y line x t old new) (sym waits.line) (record {
          grows = prefix-again old mid new passes.grows last.grows;
          passes = subst (λ (set : Setting). Passes set new y asked.Wait x (shown_of t.watching.watches)) (same-setting k there waiting.client) last.passes;
          attempting = last.attempting;
          shown = last.shown;
        })

    -- whether the journal is told or not
    woken_explained : WhereTold (LinePasses k m (story_of low begun s) (line_of text) x t) k.journal m.journal
    woken_explained = told-then {R = LinePasses k there (story_of low begun s) (line_of text) turn.WaitWanted u} {S = λ mid new. Unit {0}} k.journal
        there.journal m.journal (λ old mid new from to passes told. woken_passes old mid new from to passes) (waiting.explained low begun may)
        (WhereTold-then {R = SaysOfJournal there woke Call.wait Answer.done} {S = HasOwned k.client (replies_in x)} there.journal woke.journal m.journal
        (λ mid woke new says last. tt) event.told (owned_of k.client woke m u t asked.Sync x client_woke said_woke))

  -- all of that
  woken_done : HasDone k m s t text x
  woken_done = record {
    attends = led_attends woke m u t asked.Sync x attends_woke tt on;
    client = same-thrice k there woke m waiting.client event.client (led_client woke m u t asked.Sync x attends_woke tt on);
    owns = woken_owns;
    denied = said_woke.denied.denied ∙ ap (λ (n : ℕ). denied_by_all n (replies_in x)) (event.goes_on.denied ∙ waiting.denied);
    known =
        let first = waiting.known in
        let waited = event.goes_on.denials in
        let last = said_woke.known.known in
        let up = denied-rises k.denials woke.denials (replies_in x) (omega arith) in omega arith;
    explained = woken_explained;
  }

-- either way
pub has_done : (k m : Known) (s t : Session) (text : Text) (x : Turn) → Attends k s → length text ≤ LONGEST_LINE → IsDone k s text x m t
    → HasDone k m s t text x
has_done k m s t text x is short (IsDone.at_once led) = once_done k m s t text x is short led
has_done k m s t text x is short (IsDone.woken there woke u led event on) = woken_done k there woke m s u t text x is short led event on
