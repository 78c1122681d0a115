-- What a client's line tells it, and that the journal explains it.
use Rattle.std.proofs.Common.{◌≡◌, ◌≢◌, ℕ, ◌≤◌, ◌<◌, max, Bool, true, false, cond, List, [], ◌∷◌, ◌++◌, length, get_or, set, fold, Option, Some, None, Ok}
use Rattle.std.proofs.Common.{◌⊎◌, inl, inr, refl, sym, ap, ◌∙◌, subst, arith, append_assoc}
use Rattle.std.specs.List.{AllByRecursion}
use Rattle.std.specs.Prelude.{IfSome, nat_le, nat_lt, ◌==◌}
use Rattle.std.proofs.lemmas.Bool.Decides.{nat_tests}
use Rattle.std.proofs.lemmas.List.{append-nil}
use Rattle.dio_core.specs.declared.line.TheConstants.{LONGEST_LINE}
use Rattle.dio_core.specs.declared.line.Line.{Line}
use Rattle.dio_core.specs.declared.line.Line.TheVariants as line
use Rattle.dio_core.specs.Lines.{lines, line_of as cut_of, IsShort}
use Rattle.rdt_types.specs.declared.settings.Settings.{Settings}
use Rattle.session_text.specs.declared.reply.Why.TheVariants as why
use Rattle.txn_grammar.specs.Characters.{Text}
use Rattle.txn_lang.specs.Journals.{IsLegal}
use Rattle.txn_lang.specs.States.{Journal}
use Rattle.rdt_types.specs.declared.address.Address.{Address}
use Rattle.txn_lang.specs.declared.snaps.Snap.{Snap}
use Rattle.docc_prepare.specs.declared.attempt.Attempt.{Attempt}
use Rattle.docc_prepare.specs.Attempts.{SnapList}
use Rattle.call_programs.specs.Safe.{AsksAny}
use Rattle.call_programs.proofs.Programs.{along}
use Rattle.docc_prepare.specs.Calls.{Known}
use Rattle.docc_prepare.specs.Backends.{IsPrefix}
use Rattle.docc_prepare.specs.declared.limits.TheConstants.{CLIENTS}
use Rattle.docc_prepare.specs.Stores.{Store, IsSound, known_by, seen_by}
use Rattle.docc_prepare.proofs.Elsewhere.{shards_follow}
use Rattle.docc_prepare.proofs.Readable.{legal-reads}
use Rattle.session_core.specs.declared.line.Line.{Line as Asked}
use Rattle.session_core.specs.declared.session.Session.{Session}
use Rattle.session_core.specs.declared.turn.Turn.{Turn}
use Rattle.session_core.specs.declared.turn.Turn.TheVariants as turn
use Rattle.session_core.specs.Lines.{line_of}
use Rattle.session_core.specs.Holding.{BodyIsReady, Attends}
use Rattle.session_core.specs.Verbs.{LineEnd}
use Rattle.session_core.specs.Words.{trimmed_start, trimmed_end, is_quiet}
use Rattle.client_watches.specs.Explained.{shown_of}
use Rattle.client_watches.proofs.Telling.{up-to-more}
use Rattle.session_core.specs.Explained.{Setting, Attempting, Story, story_of, Passes, attempting_after, story_after, LinePasses, AreFrom, MayBeTold, IsExplained}
use Rattle.session_core.proofs.Minding.{reported-seen}
use Rattle.session_core.proofs.LinesExplained.{lines_are_explained}
use Rattle.session_core.proofs.Grown.{prefix-whole, prefix-again, prefix-shorter}
use Rattle.session_core.proofs.Ready.{line-ready}
use Rattle.session_core.proofs.Stories.{story-stays, story-told}
use Rattle.script_runner.specs.declared.words.TheConstants.{LAST_CLIENT}
use Rattle.script_runner.specs.Words.{first_word, after_word, small_number, client_named, if_client, is_follow, if_shard, shard_named}
use Rattle.script_runner.specs.Play.{ScriptWorld, first_session, first_sessions, first_world, session_of, Told, Did, left, play_line, ended_line}
use Rattle.script_runner.specs.Play.{follow_line, client_line}
use Rattle.script_runner.specs.Play.{Done, done, placed, named_line, text_line, answer, cut_line, world_after, Played, nothing_played, one_more, played, play}
use Rattle.script_runner.specs.Laws.{IsOfClient, LinesHaveEntries}
use Rattle.script_runner.specs.Explained.{setting_of, first_story, is_to, told_to, ExplainsTold, ExplainsScript}
use Rattle.script_runner.specs.Worlds.{Stands}
use Rattle.script_runner.proofs.Places.{set-here, set-elsewhere, same-or-not}
use Rattle.script_runner.proofs.Standing.{each-first, first-stands, answer-stands, played-stands, trimmed-shorter, after-shorter, cut-short}
use Rattle.script_runner.proofs.Stood.{setting_in, IsPlayedTo, line-played}

-- ---- what a client's line tells it

-- a story of a session, whatever numbers it has shown
abbrev IsOf : Story → Session → Type 0
IsOf y session = story_of y.low y.begun session ≡ y

-- its session answers: the answer passes, whatever was shown before, and the session goes on unless that ended it
record IsAnswer (s : Store) (client : ℕ) (session : Session) (d : Did) (who : ℕ) (asked : Asked) (t : Turn) : Type 0 where
  is_mine : who ≡ client
  after : Session
  goes : d.session ≡ left after t
  passes : (y : Story) → IsOf y session → MayBeTold (known_by s client) y
      → LinePasses (known_by s client) (known_by d.store client) y asked t after s.journal d.store.journal

-- it let a shard follow: it has seen the front, which is the journal's end
record IsFront (s : Store) (client : ℕ) (session : Session) (d : Did) (who front : ℕ) : Type 0 where
  is_mine : who ≡ client
  goes : d.session ≡ Some session
  not_back : seen_by s client ≤ front
  within : front ≤ length d.store.journal
  seen : front ≤ seen_by d.store client

-- what a line tells of its client, by what it tells
abbrev TellsMine : Store → ℕ → Session → Did → Told → Type 0
TellsMine s client session d Told.nothing = ⊥
TellsMine s client session d (Told.nobody reason) = ⊥
TellsMine s client session d (Told.answered who asked t) = IsAnswer s client session d who asked t
TellsMine s client session d (Told.follow who shard front) = IsFront s client session d who front

-- what a client's line leaves of the journal, and tells
record Tells (s : Store) (client : ℕ) (session : Session) (d : Did) : Type 0 where
  grows : IsPrefix s.journal d.store.journal
  legal : IsLegal 0 d.store.journal
  setting : setting_in d.store ≡ setting_in s
  others : (other : ℕ) → other ≢ client → seen_by s other ≤ seen_by d.store other
  mine : TellsMine s client session d d.told

module _ (s : Store) (client : ℕ) (session : Session) (sound : IsSound s) (below : client < CLIENTS) (is : Attends (known_by s client) session) where
  -- a line that names no shard is refused, and a refusal passes
  tells-refusal : Tells s client session (follow_line client s session None)
  tells-refusal = record {
    grows = prefix-whole s.journal;
    legal = sound.legal;
    setting = refl;
    others = λ other apart. omega arith;
    mine = record {
      is_mine = refl;
      after = session;
      goes = refl;
      passes = λ y same may. record {
        grows = prefix-whole s.journal;
        passes = (refl, ap (λ (z : Story). z.watches) same);
        attempting = ap (λ (z : Story). z.attempting) same;
        shown = may.seen;
      };
    };
  }

  -- a shard that follows shows the journal's end
  tells-front : (shard : ℕ) → shard < s.shards → Tells s client session (follow_line client s session (Some shard))
  tells-front shard there =
      let after = shards_follow s client shard sound below there in record {
        grows = prefix-whole s.journal;
        legal = sound.legal;
        setting = refl;
        others = λ other apart. let same = (after.others other apart).seen in omega arith;
        mine = record {
          is_mine = refl;
          goes = refl;
          not_back = sound.seen client;
          within = omega arith;
          seen = let all = after.mine.all_seen in omega arith;
        };
      }

  -- a shard that there is follows; any other is refused
  tells-follow : (o : Option ℕ) → Tells s client session (follow_line client s session (if_shard s.shards o))
  tells-follow None = tells-refusal
  tells-follow (Some shard) = by (nat_lt shard s.shards) refl
    where
      by : (b : Bool) → nat_lt shard s.shards ≡ b → Tells s client session (follow_line client s session (cond b (Some shard) None))
      by false e = tells-refusal
      by true e = tells-front shard (let there : shard < s.shards = grind (arith, nat_tests) in there)

  -- a line that is played is explained
  tells-played : (line : Asked) → BodyIsReady line → (x : Option LineEnd × Store) → IsPlayedTo s client session line x
      → Tells s client session (ended_line client session line x)
  tells-played line ready x h = subst (λ (x : Option LineEnd × Store). Tells s client session (ended_line client session line x)) (sym h.is) (record {
    grows = (explained first refl first-may).grows;
    legal = h.leave.sound.legal;
    setting = h.leave.setting;
    others = λ other apart. let same = h.leave.seen_others other apart in omega arith;
    mine = record { is_mine = refl; after = h.end.0; goes = refl; passes = explained };
  })
    where
      k : Known
      k = known_by s client

      -- whatever was shown before
      explained : (y : Story) → IsOf y session → MayBeTold k y
          → LinePasses k (known_by h.store client) y line h.end.1 h.end.0 s.journal h.store.journal
      explained y same may =
          subst (λ (z : Story). LinePasses k (known_by h.store client) z line h.end.1 h.end.0 s.journal h.store.journal) same
          (along AsksAny (Unit {0}) (λ l (end : LineEnd). IsExplained k l session line (Ok end.1) end.0) h.answered
          (lines_are_explained k session line is ready) y.low y.begun (subst (MayBeTold k) (sym same) may))

      -- a story in which all that is seen was shown may always be told
      first : Story
      first = story_of (known_by s client).seen 0 session

      first-may : MayBeTold (known_by s client) first
      first-may = record {
        seen = omega arith;
        before = omega arith;
        bases = all session.attempt;
        reported = (reported-seen (known_by s client) session.watching s.journal is.watches.keeps is.watches.told).reported;
      }
        where
          all : (o : Option Attempt) → IfSome o (AreFrom 0)
          all None = tt
          all (Some a) = each a.snaps
            where
              each : (snaps : SnapList) → AllByRecursion (λ (read : Address × Snap). 0 ≤ read.1.base) snaps
              each [] = tt
              each (r ∷ rest) = (omega arith, each rest)

  -- either of two lines
  tells-either : (b : Bool) (x y : Did) → Tells s client session x → Tells s client session y → Tells s client session (cond b x y)
  tells-either true x y kx ky = kx
  tells-either false x y kx ky = ky

  -- `follow`, or what a session does
  tells-line : (text : Text) → length text ≤ LONGEST_LINE → Tells s client session (client_line client s (Some session) text)
  tells-line text short = tells-either (is_follow text) (follow_line client s session (shard_named s.shards (after_word text)))
      (ended_line client session (line_of text) (play_line client s session (line_of text))) (tells-follow (small_number (trimmed_end (after_word text))))
      (tells-played (line_of text) (line-ready text short) (play_line client s session (line_of text))
      (line-played s client session (line_of text) below sound is (line-ready text short)))

-- ---- what a client hears of a line

-- A client's story so far may be told: its numbers were seen, and its session is the client's.
pub record Listens (w : ScriptWorld) (c : ℕ) (y : Story) : Type 0 where
  may : MayBeTold (known_by w.store c) y
  session : IfSome (session_of w c) (IsOf y)

-- Its story goes on behind what is told, and what is told is explained where that story is.
pub record Hears (these : Setting) (d : Done) (c : ℕ) (y : Story) : Type 0 where
  next : Story
  listens : Listens d.world c next
  explains : (journal : Journal) (rest : List Told) → IsLegal 0 journal → IsPrefix d.world.store.journal journal
      → ExplainsTold these journal next (told_to c rest)
      → ExplainsTold these journal y (told_to c (d.told ∷ rest))

-- what is told to others is passed over
passed-over : (these : Setting) (journal : Journal) (c : ℕ) (y : Story) (told : Told) (rest : List Told) → is_to c told ≡ false
    → ExplainsTold these journal y (told_to c rest) → ExplainsTold these journal y (told_to c (told ∷ rest))
passed-over these journal c y told rest e h = subst (λ b. ExplainsTold these journal y (cond b (told ∷ told_to c rest) (told_to c rest))) (sym e) h

-- what is told to the client is heard
heard : (these : Setting) (journal : Journal) (c : ℕ) (y : Story) (told : Told) (rest : List Told) → is_to c told ≡ true
    → ExplainsTold these journal y (told ∷ told_to c rest) → ExplainsTold these journal y (told_to c (told ∷ rest))
heard these journal c y told rest e h = subst (λ b. ExplainsTold these journal y (cond b (told ∷ told_to c rest) (told_to c rest))) (sym e) h

-- the test says whether numbers are the same
same-tests : (a b : ℕ) → a ≡ b → (a == b) ≡ true
same-tests a b e = grind (arith, nat_tests)

-- and whether they are not
apart-tests : (a b : ℕ) → (a ≡ b → ⊥) → (a == b) ≡ false
apart-tests a b differ = by (a == b) refl
  where
    by : (x : Bool) → (a == b) ≡ x → x ≡ false
    by true e = absurd (differ (let same : a ≡ b = grind (arith, nat_tests) in same))
    by false e = refl

-- a story may be told on where no less is seen
may-on : (k l : Known) (y : Story) → k.seen ≤ l.seen → MayBeTold k y → MayBeTold l y
may-on k l y up may = record { seen = let b = may.seen in omega arith; before = may.before; bases = may.bases; reported = may.reported }

module _ (these : Setting) (w : ScriptWorld) (client : ℕ) (session : Session) (d : Did) (e : setting_in w.store ≡ these)
    (there : session_of w client ≡ Some session) (h : Tells w.store client session d) where
  -- the session that is set at the client's place
  own-place : (P : Session → Type 0) → IfSome d.session P → IfSome (session_of (placed w client d).world client) P
  own-place P is = set-here (λ o. IfSome o P) w.sessions client d.session None is tt

  -- what the client itself hears
  own-hears : (y : Story) → IsOf y session → MayBeTold (known_by w.store client) y → (told : Told) → d.told ≡ told
      → TellsMine w.store client session d told → Hears these (placed w client d) client y
  own-hears y same may Told.nothing is mine = absurd mine
  own-hears y same may (Told.nobody reason) is mine = absurd mine
  own-hears y same may (Told.answered who asked t) is mine =
      let passing = mine.passes y same may in
      let later = shown_of mine.after.watching.watches in
      let passes = subst (λ (x : Setting). Passes x d.store.journal y asked t later) e passing.passes in
      let next = story_after these d.store.journal y asked t later in
      let after : IsOf next mine.after =
      ap (λ (x : Attempting). record { low = next.low; begun = next.begun; attempting = x; watches = later })
      (passing.attempting ∙ ap (λ (x : Setting). attempting_after x d.store.journal y.attempting asked t) e) in record {
        next = next;
        listens = record {
          may = subst (λ (x : Setting). MayBeTold (known_by d.store client) (story_after x d.store.journal y asked t later)) e
              (story-told (known_by w.store client) (known_by d.store client) y asked t mine.after w.store.journal d.store.journal may passing);
          session = own-place (IsOf next) (subst (λ o. IfSome o (IsOf next)) (sym mine.goes) (goes t next mine.after after));
        };
        explains = λ journal rest legal grows h.
            let stays = story-stays these d.store.journal journal y asked t later (legal-reads d.store.journal legal_here)
            (legal-reads journal legal) may.reported grows passes in
            heard these journal client y d.told rest (ap (is_to client) is ∙ same-tests who client mine.is_mine)
            (subst (λ (x : Told). ExplainsTold these journal y (x ∷ told_to client rest)) (sym is) (record {
              later = later;
              passes = stays.passes;
              rest = subst (λ (z : Story). ExplainsTold these journal z (told_to client rest)) (sym stays.same) h;
            }));
      }
    where
      legal_here : IsLegal 0 d.store.journal
      legal_here = h.legal

      goes : (t : Turn) (y : Story) (s : Session) → IsOf y s → IfSome (left s t) (IsOf y)
      goes turn.Quiet y s e = e
      goes (turn.Replies rs) y s e = e
      goes turn.WaitWanted y s e = e
      goes (turn.Ended rs) y s e = tt
  own-hears y same may (Told.follow who shard front) is mine = record {
    next = record y { low = max y.low front };
    listens = record {
      may = record {
        seen = let b = may.seen in let up = mine.not_back in let s = mine.seen in omega arith;
        before = let b = may.before in omega arith;
        bases = may.bases;
        reported = up-to-more y.low (max y.low front) y.watches (omega arith) may.reported;
      };
      session = own-place (IsOf (record y { low = max y.low front })) (subst (λ o. IfSome o (IsOf (record y { low = max y.low front }))) (sym mine.goes)
          (ap (λ (z : Story). record z { low = max y.low front }) same));
    };
    explains = λ journal rest legal grows h.
        heard these journal client y d.told rest (ap (is_to client) is ∙ same-tests who client mine.is_mine)
        (subst (λ (x : Told). ExplainsTold these journal y (x ∷ told_to client rest)) (sym is) (
          record {
            not_back = let b = may.seen in let up = mine.not_back in omega arith;
            within = let w = mine.within in let longer = prefix-shorter d.store.journal journal grows in omega arith;
          },
          h,
        ));
  }

  -- what another client hears: nothing
  to-nobody-else : (c : ℕ) → c ≢ client → (told : Told) → TellsMine w.store client session d told → is_to c told ≡ false
  to-nobody-else c apart Told.nothing mine = refl
  to-nobody-else c apart (Told.nobody reason) mine = refl
  to-nobody-else c apart (Told.answered who asked t) mine = apart-tests who c (λ same. apart (sym same ∙ mine.is_mine))
  to-nobody-else c apart (Told.follow who shard front) mine = apart-tests who c (λ same. apart (sym same ∙ mine.is_mine))

  -- so its story stays as it was
  others-hear : (c : ℕ) (y : Story) → c ≢ client → Listens w c y → Hears these (placed w client d) c y
  others-hear c y apart l = record {
    next = y;
    listens = record {
      may = may-on (known_by w.store c) (known_by d.store c) y (h.others c apart) l.may;
      session = subst (λ o. IfSome o (IsOf y)) (sym (set-elsewhere w.sessions client c d.session None apart)) l.session;
    };
    explains = λ journal rest legal grows there. passed-over these journal c y d.told rest (to-nobody-else c apart d.told h.mine) there;
  }

  -- either way
  placed-hears : (c : ℕ) (y : Story) → Listens w c y → Hears these (placed w client d) c y
  placed-hears c y l = by (same-or-not c client)
    where
      by : (c ≡ client) ⊎ (c ≢ client) → Hears these (placed w client d) c y
      by (inl same) =
          let mine : Listens w client y = subst (λ (n : ℕ). Listens w n y) same l in
          subst (λ (n : ℕ). Hears these (placed w client d) n y) (sym same)
          (own-hears y (subst (λ o. IfSome o (IsOf y)) there mine.session) mine.may d.told refl h.mine)
      by (inr apart) = others-hear c y apart l

-- ---- one line

-- what a line leaves of the journal, and what each client hears of it
pub record HasTold (these : Setting) (w : ScriptWorld) (d : Done) : Type 0 where
  grows : IsPrefix w.store.journal d.world.store.journal
  setting : setting_in d.world.store ≡ these
  hears : (c : ℕ) (y : Story) → Listens w c y → Hears these d c y

module _ (these : Setting) (w : ScriptWorld) (e : setting_in w.store ≡ these) (stands : Stands w) where
  -- where nothing is done, and nothing is told to a client
  told-nobody : (told : Told) → ((c : ℕ) → is_to c told ≡ false) → HasTold these w (record { world = w; told = told })
  told-nobody told none = record {
    grows = prefix-whole w.store.journal;
    setting = e;
    hears = λ c y l. record { next = y; listens = l; explains = λ journal rest legal grows h. passed-over these journal c y told rest (none c) h };
  }

  -- a client who has quit stays so
  quit-told : (client : ℕ) (text : Text) → session_of w client ≡ None → HasTold these w (placed w client (client_line client w.store None text))
  quit-told client text gone = record {
    grows = prefix-whole w.store.journal;
    setting = e;
    hears = λ c y l. record {
      next = y;
      listens = record { may = l.may; session = by c y l (same-or-not c client) };
      explains = λ journal rest legal grows h. passed-over these journal c y (Told.nobody why.Client) rest refl h;
    };
  }
    where
      by : (c : ℕ) (y : Story) → Listens w c y → (c ≡ client) ⊎ (c ≢ client) → IfSome (get_or (set w.sessions client None) c None) (IsOf y)
      by c y l (inl same) = subst (λ (n : ℕ). IfSome (get_or (set w.sessions client None) n None) (IsOf y)) (sym same)
          (set-here (λ o. IfSome o (IsOf y)) w.sessions client None None tt tt)
      by c y l (inr apart) = subst (λ o. IfSome o (IsOf y)) (sym (set-elsewhere w.sessions client c None None apart)) l.session

  -- the line of a client
  client-told : (client : ℕ) (text : Text) → client < CLIENTS → length text ≤ LONGEST_LINE → (o : Option Session) → session_of w client ≡ o
      → HasTold these w (placed w client (client_line client w.store o text))
  client-told client text below short None there = quit-told client text there
  client-told client text below short (Some session) there =
      let attends = subst (λ o. IfSome o (Attends (known_by w.store client))) there (stands.attend client) in
      let tells = tells-line w.store client session stands.sound below attends text short in record {
        grows = tells.grows;
        setting = tells.setting ∙ e;
        hears = placed-hears these w client session (client_line client w.store (Some session) text) e there tells;
      }

  -- a line that names a client, or none
  named-told : (o : Option ℕ) (text : Text) → length text ≤ LONGEST_LINE → HasTold these w (named_line w (if_client o) text)
  named-told None text short = told-nobody (Told.nobody why.Client) (λ c. refl)
  named-told (Some client) text short = by (nat_le client LAST_CLIENT) refl
    where
      by : (b : Bool) → nat_le client LAST_CLIENT ≡ b → HasTold these w (named_line w (cond b (Some client) None) text)
      by false is = told-nobody (Told.nobody why.Client) (λ c. refl)
      by true is = client-told client text (let below : client < CLIENTS = grind (arith, nat_tests) in below) short (session_of w client) refl

  -- either of two lines
  told-either : (b : Bool) (x y : Done) → HasTold these w x → HasTold these w y → HasTold these w (cond b x y)
  told-either true x y kx ky = kx
  told-either false x y kx ky = ky

  -- a line that asks for nothing, or one of a client
  text-told : (text : Text) → length text ≤ LONGEST_LINE → HasTold these w (text_line w text)
  text-told text short = told-either (is_quiet text) (done w Told.nothing) (named_line w (client_named (first_word text)) (after_word text))
      (told-nobody Told.nothing (λ c. refl))
      (named-told (small_number (first_word text)) (after_word text) (let shorter = after-shorter text in omega arith))

  -- any line
  pub line-told : (l : Line) → IsShort l → HasTold these w (answer w l)
  line-told (line.Bytes bytes) short = text-told (trimmed_start bytes) (let shorter = trimmed-shorter bytes in omega arith)
  line-told line.TooLong short = told-nobody (Told.nobody why.Long) (λ c. refl)
  line-told line.End short = told-nobody Told.nothing (λ c. refl)

-- ---- many lines

-- what is told of lines from a world on
abbrev tolds_from : ScriptWorld → List Text → List Told
tolds_from w [] = []
tolds_from w (raw ∷ raws) = (cut_line w raw).told ∷ tolds_from (world_after w raw) raws

-- it stands behind what was told before
told-split : (raws : List Text) (p : Played) → (fold one_more p raws).told ≡ p.told ++ tolds_from p.world raws
told-split [] p = sym (append-nil p.told)
told-split (raw ∷ raws) p =
    told-split raws (one_more p raw) ∙ append_assoc p.told ((cut_line p.world raw).told ∷ []) (tolds_from (world_after p.world raw) raws)

module _ (these : Setting) where
  -- lines only add to the journal
  lines-grow : (raws : List Text) (p : Played) → setting_in p.world.store ≡ these → Stands p.world
      → IsPrefix p.world.store.journal (fold one_more p raws).world.store.journal
  lines-grow [] p e h = prefix-whole p.world.store.journal
  lines-grow (raw ∷ raws) p e h =
      let one = line-told these p.world e h (cut_of raw) (cut-short raw) in
      prefix-again p.world.store.journal (one_more p raw).world.store.journal (fold one_more (one_more p raw) raws).world.store.journal one.grows
      (lines-grow raws (one_more p raw) one.setting (answer-stands p.world (cut_of raw) h (cut-short raw)))

  -- what is told of lines to a client that listens is explained by the journal at their end
  lines-explained : (raws : List Text) (p : Played) (c : ℕ) (y : Story) → setting_in p.world.store ≡ these → Stands p.world → Listens p.world c y
      → ExplainsTold these (fold one_more p raws).world.store.journal y (told_to c (tolds_from p.world raws))
  lines-explained [] p c y e h l = tt
  lines-explained (raw ∷ raws) p c y e h l =
      let one = line-told these p.world e h (cut_of raw) (cut-short raw) in
      let stands = answer-stands p.world (cut_of raw) h (cut-short raw) in
      let hears = one.hears c y l in
      hears.explains (fold one_more (one_more p raw) raws).world.store.journal (tolds_from (world_after p.world raw) raws)
      (played-stands raws (one_more p raw) stands).sound.legal (lines-grow raws (one_more p raw) one.setting stands)
      (lines-explained raws (one_more p raw) c hears.next one.setting stands hears.listens)

-- a client listens from the first world on
first-listens : (settings : Settings) (c : ℕ) → Listens (first_world settings) c (first_story c)
first-listens settings c = record {
  may = record { seen = omega arith; before = omega arith; bases = tt; reported = tt };
  session = flip (get_or (first_sessions CLIENTS) c None) (each-first CLIENTS c);
}
  where
    flip : (o : Option Session) → IfSome o (λ s. s ≡ first_session c) → IfSome o (IsOf (first_story c))
    flip None e = tt
    flip (Some s) e = ap (story_of 0 0) e

-- Each client's answers are explained by the journal that the script leaves.
pub scripts-explained : (settings : Settings) (bytes : Text) → ExplainsScript settings bytes
scripts-explained settings bytes c =
    subst (λ (tolds : List Told). ExplainsTold (setting_of settings) (play settings bytes).world.store.journal (first_story c) (told_to c tolds))
    (sym (told-split (lines bytes) (nothing_played settings)))
    (lines-explained (setting_of settings) (lines bytes) (nothing_played settings) c (first_story c) refl (first-stands settings) (first-listens settings c))

-- the same of an input that may not be told
pub scripts_are_explained : (settings : Settings) (o : Option Text) → IfSome o (ExplainsScript settings)
scripts_are_explained settings None = tt
scripts_are_explained settings (Some bytes) = scripts-explained settings bytes

-- ---- entries

-- what is told of a client's line is told to the client
told-to-client : (s : Store) (client : ℕ) (session : Session) (d : Did) (told : Told) → TellsMine s client session d told → is_to client told ≡ true
told-to-client s client session d Told.nothing mine = absurd mine
told-to-client s client session d (Told.nobody reason) mine = absurd mine
told-to-client s client session d (Told.answered who asked t) mine = same-tests who client mine.is_mine
told-to-client s client session d (Told.follow who shard front) mine = same-tests who client mine.is_mine

-- a client that is named is one of those that there are
named-below : (o : Option ℕ) (client : ℕ) → if_client o ≡ Some client → client < CLIENTS
named-below None client e = absurd (cc)
named-below (Some n) client e = by (nat_le n LAST_CLIENT) refl e
  where
    by : (b : Bool) → nat_le n LAST_CLIENT ≡ b → cond b (Some n) None ≡ Some client → client < CLIENTS
    by false test e = absurd (cc)
    by true test e = let same : n ≡ client = cc in let below : n ≤ LAST_CLIENT = grind (arith, nat_tests) in omega arith

-- in a world that stands the line of a client who goes on has its entry
entry-of : (w : ScriptWorld) (raw : Text) (client : ℕ) → Stands w → IsOfClient w raw client → is_to client (cut_line w raw).told ≡ true
entry-of w raw client stands h =
    let text = trimmed_start h.bytes in
    let rest = after_word text in
    let short : length h.bytes ≤ LONGEST_LINE = subst IsShort h.cut (cut-short raw) in
    let attends = subst (λ o. IfSome o (Attends (known_by w.store client))) h.goes_on (stands.attend client) in
    let tells = tells-line w.store client h.session stands.sound (named-below (small_number (first_word text)) client h.names) attends rest
    (let first = trimmed-shorter h.bytes in let behind = after-shorter text in omega arith) in
    subst (λ (l : Line). is_to client (answer w l).told ≡ true) (sym h.cut)
    (subst (λ (b : Bool). is_to client (cond b (done w Told.nothing) (named_line w (client_named (first_word text)) rest)).told ≡ true) (sym h.asks)
    (subst (λ (o : Option ℕ). is_to client (named_line w o rest).told ≡ true) (sym h.names)
    (subst (λ (o : Option Session). is_to client (client_line client w.store o rest).told ≡ true) (sym h.goes_on)
    (told-to-client w.store client h.session (client_line client w.store (Some h.session) rest) (client_line client w.store (Some h.session) rest).told
    tells.mine))))

-- behind any lines the world stands
pub lines_have_entries : LinesHaveEntries
lines_have_entries settings before raw client h =
    entry-of (played settings before).world raw client (played-stands before (nothing_played settings) (first-stands settings)) h
