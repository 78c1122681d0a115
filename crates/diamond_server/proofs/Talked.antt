-- A talk over a backend is one of a session over what its client knows, so all that is proved of sessions holds of it.
use Rattle.std.proofs.Common.{◌≡◌, ℕ, ◌+◌, ◌≤◌, List, [], ◌∷◌, ◌++◌, length, Option, Some, None, Result, Ok, Err, refl, sym}
use Rattle.std.proofs.Common.{ap, ◌∙◌, subst, arith, append_assoc}
use Rattle.std.specs.Prelude.{IfSome, IfOk, OnOk, Bool, true, false}
use Rattle.std.specs.List.{AllByRecursion}
use Rattle.std.proofs.lemmas.List.{append-nil}
use Rattle.dio_core.specs.declared.line.TheConstants.{LONGEST_LINE}
use Rattle.rdt_types.specs.declared.limits.TheConstants.{LEAST_SHARDS, MOST_SHARDS}
use Rattle.txn_grammar.specs.Characters.{Text}
use Rattle.txn_lang.specs.Journals.{own}
use Rattle.txn_lang.specs.States.{Journal}
use Rattle.docc_prepare.specs.declared.backend.StoreError.{StoreError}
use Rattle.docc_prepare.specs.declared.backend.StoreError.TheVariants as store_error
use Rattle.docc_prepare.specs.Calls.{Known, Call, Answer, store_failed}
use Rattle.docc_prepare.specs.Readable.{IsReadOn, StaysReadable, IsNew}
use Rattle.docc_prepare.specs.Backends.{Goes, IsAnswered}
use Rattle.call_programs.specs.Programs.{Program, Leads}
use Rattle.call_programs.proofs.Counted.{counts_over}
use Rattle.call_programs.proofs.Programs.{along, known_leads}
use Rattle.call_programs.proofs.Safe.{safe_end, then_ends, ends_somehow}
use Rattle.call_programs.specs.Safe.{AsksAny, AlwaysEnds, CountsFault}
use Rattle.client_watches.specs.Lines as watches
use Rattle.client_watches.specs.Watching.{none_yet}
use Rattle.session_core.specs.declared.line.Line.TheVariants as asked
use Rattle.session_core.specs.declared.error.SessionError.{SessionError}
use Rattle.session_core.specs.declared.error.SessionError.TheVariants as error
use Rattle.session_core.specs.Errors.{error_of}
use Rattle.session_core.specs.declared.session.Session.{Session}
use Rattle.session_core.specs.declared.turn.Turn.{Turn}
use Rattle.session_core.specs.declared.turn.Turn.TheVariants as turn
use Rattle.session_core.specs.Holding.{Counts, Minds, Attends, UnlessOver, Follows}
use Rattle.session_core.specs.LinePrograms.{line_over, leaves, sync}
use Rattle.session_core.specs.Lines.{line_of}
use Rattle.session_core.specs.LineTalks.{IsDone, AreDone}
use Rattle.session_core.specs.Verbs.{LineEnd, Plays}
use Rattle.session_core.proofs.AllDone.{done_more, done_lines_are_explained}
use Rattle.session_core.proofs.Done.{has_done}
use Rattle.session_core.proofs.LinesSafe.{lines_are_safe}
use Rattle.session_core.proofs.Minding.{none-minds, none-keeps}
use Rattle.session_core.proofs.Moving.{plain-on}
use Rattle.session_core.proofs.Safe.{AttendsEnd}
use Rattle.script_runner.specs.Play.{left}
use Rattle.diamond_server.specs.Talking.{Told, Answers, Does, Talks, AreInOrder, ends, waits, is_over, first_session, printed, output, texts_of, turns_of}
use Rattle.diamond_server.specs.code.Serving.{Wakes}
use Rattle.diamond_server.specs.Promises.{IsAccounted}

-- ---- one line more

-- too long a line is none of the session's
texts-long : (tolds : List Told) → texts_of (tolds ++ Told.long ∷ []) ≡ texts_of tolds
texts-long [] = refl
texts-long (Told.long ∷ rest) = texts-long rest
texts-long (Told.answered text said ∷ rest) = ap (λ texts. text ∷ texts) (texts-long rest)

-- nor does it add to the turns
turns-long : (tolds : List Told) → turns_of (tolds ++ Told.long ∷ []) ≡ turns_of tolds
turns-long [] = refl
turns-long (Told.long ∷ rest) = turns-long rest
turns-long (Told.answered text said ∷ rest) = ap (λ turns. said ∷ turns) (turns-long rest)

-- any other is its last
texts-more : (tolds : List Told) (text : Text) (said : Turn) → texts_of (tolds ++ Told.answered text said ∷ []) ≡ texts_of tolds ++ text ∷ []
texts-more [] text said = refl
texts-more (Told.long ∷ rest) text said = texts-more rest text said
texts-more (Told.answered first one ∷ rest) text said = ap (λ texts. first ∷ texts) (texts-more rest text said)

-- and its turn the last turn
turns-more : (tolds : List Told) (text : Text) (said : Turn) → turns_of (tolds ++ Told.answered text said ∷ []) ≡ turns_of tolds ++ said ∷ []
turns-more [] text said = refl
turns-more (Told.long ∷ rest) text said = turns-more rest text said
turns-more (Told.answered first one ∷ rest) text said = ap (λ turns. one ∷ turns) (turns-more rest text said)

-- its text is the last of the output
pub output-more : (tolds : List Told) (told : Told) → output (tolds ++ told ∷ []) ≡ output tolds ++ printed told
output-more [] told = append-nil (printed told)
output-more (first ∷ rest) told = ap (λ bytes. printed first ++ bytes) (output-more rest told) ∙ sym (append_assoc (printed first) (output rest) (printed told))

-- the turn that goes on leaves its session
left-same : (t after : Session) (said : Turn) → Some t ≡ left after said → t ≡ after
left-same t after turn.Quiet e = cc
left-same t after (turn.Replies rs) e = cc
left-same t after turn.WaitWanted e = cc
left-same t after (turn.Ended rs) e = absurd (cc)

-- the same where the session may have ended
if-left : (o : Option Session) (after : Session) (said : Turn) → o ≡ left after said → IfSome o (λ t. t ≡ after)
if-left None after said e = tt
if-left (Some t) after said e = left-same t after said e

-- ---- lines in order

-- what is so of a line by whether the session goes on behind it
abbrev EndsBy : Option Session → Bool → Type 0
EndsBy None b = b ≡ true
EndsBy (Some t) b = b ≡ false

-- by what its turn leaves
ends-by : (o : Option Session) (after : Session) (text : Text) (said : Turn) → o ≡ left after said → EndsBy o (ends (Told.answered text said))
ends-by o after text turn.Quiet e = subst (λ (o : Option Session). EndsBy o false) (sym e) refl
ends-by o after text (turn.Replies rs) e = subst (λ (o : Option Session). EndsBy o false) (sym e) refl
ends-by o after text turn.WaitWanted e = subst (λ (o : Option Session). EndsBy o false) (sym e) refl
ends-by o after text (turn.Ended rs) e = subst (λ (o : Option Session). EndsBy o true) (sym e) refl

-- a line that has another answer was not left to wait
not-waiting : (text : Text) (said : Turn) → (said ≡ turn.WaitWanted → ⊥) → waits (Told.answered text said) ≡ false
not-waiting text turn.Quiet other = refl
not-waiting text (turn.Replies rs) other = refl
not-waiting text turn.WaitWanted other = absurd (other refl)
not-waiting text (turn.Ended rs) other = refl

-- `sync` answers with replies, so behind a wait no line is left to wait
sync-replies : (k : Known) (s : Session) → AlwaysEnds k (sync s) (λ l (end : LineEnd). end.1 ≡ turn.WaitWanted → ⊥)
sync-replies k s = then_ends (λ l told. Unit {0}) (λ l (end : LineEnd). end.1 ≡ turn.WaitWanted → ⊥) (leaves s) k (watches.sync s.watching)
    (ends_somehow k (watches.sync s.watching)) (λ l told any same. let never : ⊥ = cc in never)

-- a line behind which the session goes on
abbrev GoesOn : Told → Type 0
GoesOn told = (waits told ≡ false) × (ends told ≡ false)

-- such lines are in order, and none has ended the session
pub order-on : (tolds : List Told) → AllByRecursion GoesOn tolds → AreInOrder tolds × (is_over tolds ≡ false)
order-on [] on = (tt, refl)
order-on (told ∷ []) on = (on.0.0, on.0.1)
order-on (told ∷ next ∷ rest) on = let h = order-on (next ∷ rest) on.1 in ((on.0.0, on.0.1, h.0), h.1)

-- one more
on-more : (tolds : List Told) (told : Told) → AllByRecursion GoesOn tolds → GoesOn told → AllByRecursion GoesOn (tolds ++ told ∷ [])
on-more [] told on one = (one, tt)
on-more (first ∷ rest) told on one = (on.0, on-more rest told on.1 one)

-- one more that may be the last
order-more : (tolds : List Told) (told : Told) → AllByRecursion GoesOn tolds → waits told ≡ false → AreInOrder (tolds ++ told ∷ [])
order-more [] told on one = one
order-more (first ∷ []) told on one = (on.0.0, on.0.1, one)
order-more (first ∷ next ∷ rest) told on one = (on.0.0, on.0.1, order-more (next ∷ rest) told on.1 one)

-- and ends the session or not
over-more : (tolds : List Told) (told : Told) → is_over (tolds ++ told ∷ []) ≡ ends told
over-more [] told = refl
over-more (first ∷ []) told = refl
over-more (first ∷ next ∷ rest) told = over-more (next ∷ rest) told

-- what is so of lines by whether the session goes on behind them
abbrev pub IsOrdered : List Told → Option Session → Type 0
IsOrdered tolds None = AreInOrder tolds × (is_over tolds ≡ true)
IsOrdered tolds (Some t) = AllByRecursion GoesOn tolds

-- so they are in order
pub ordered-in : (tolds : List Told) (o : Option Session) → IsOrdered tolds o → AreInOrder tolds
ordered-in tolds None h = h.0
ordered-in tolds (Some t) h = (order-on tolds h).0

ordered-more : (tolds : List Told) (told : Told) (o : Option Session) → AllByRecursion GoesOn tolds → (waits told ≡ false) × EndsBy o (ends told)
    → IsOrdered (tolds ++ told ∷ []) o
ordered-more tolds told None on one = (order-more tolds told on one.0, over-more tolds told ∙ one.1)
ordered-more tolds told (Some t) on one = on-more tolds told on one

-- ---- what the client knows

-- so many lines with these answers are done, however they are named
named : (k l : Known) (s u : Session) (texts more : List Text) (turns others : List Turn) → more ≡ texts → others ≡ turns
    → AreDone k s texts turns l u → AreDone k s more others l u
named k l s u texts more turns others e f all = subst (λ (x : List Text). AreDone k s x others l u) (sym e)
    (subst (λ (x : List Turn). AreDone k s texts x l u) (sym f) all)

module _ {B : Type 0} (known : B → Known) (goes : B → Call → Answer → B → Type 0) where
  -- a line that is answered over the backend is done over what its client knows
  answers-done : (b : B) (s : Session) (text : Text) (said : Turn) (c : B) (t : Session) → Answers known goes b s text said c t
      → IsDone (known b) s text said (known c) t
  answers-done b s text said c t (Answers.at_once quick led) = IsDone.at_once (known_leads known goes led)
  answers-done b s text said c t (Answers.woken there woke u first waits last) =
      IsDone.woken (known there) (known woke) u (known_leads known goes first) waits.answered (known_leads known goes last)

  -- where a program leads to its end, the store has not failed
  led-unfaulted : (b : B) (p : Program LineEnd) (c : B) (end : LineEnd) → Leads (Goes known goes) b p c (Program.ends end) → (known c).faults ≡ (known b).faults
  led-unfaulted b p c end led = counts_over {E = SessionError} known goes b c error.StoreFault p (Ok end) (λ x. x) led

  -- nor has it where a line is answered
  pub answers-unfaulted : (b : B) (s : Session) (text : Text) (said : Turn) (c : B) (t : Session) → Answers known goes b s text said c t
      → (known c).faults ≡ (known b).faults
  answers-unfaulted b s text said c t (Answers.at_once quick led) = led-unfaulted b (line_over (known b) s (line_of text)) c (t, said) led
  answers-unfaulted b s text said c t (Answers.woken there woke u first waits last) =
      led-unfaulted woke (sync u) c (t, said) last
      ∙ (waits.answered.goes_on.faults ∙ led-unfaulted b (line_over (known b) s (line_of text)) there (u, turn.WaitWanted) first)

  -- ---- the calls of one line

  -- behind a line that came at once the session goes on
  pub came-attends : (b : B) (s : Session) (text : Text) (said : Turn) (c : B) (t : Session) → Attends (known b) s → length text ≤ LONGEST_LINE
      → Leads (Goes known goes) b (line_over (known b) s (line_of text)) c (Program.ends (t, said)) → Attends (known c) t
  came-attends b s text said c t is short led =
      (has_done (known b) (known c) s t text said is short (IsDone.at_once (known_leads known goes led))).attends

  -- an answer comes only where no call failed, so nothing more is counted
  pub came-unfaulted : (b : B) (s : Session) (text : Text) (said : Turn) (c : B) (t : Session)
      → Leads (Goes known goes) b (line_over (known b) s (line_of text)) c (Program.ends (t, said)) → (known c).faults ≡ (known b).faults
  came-unfaulted b s text said c t led = led-unfaulted b (line_over (known b) s (line_of text)) c (t, said) led

  -- it is to wait
  pub to-wait : (b : B) (s : Session) (text : Text) (said : Turn) (c : B) (t : Session) → said ≡ turn.WaitWanted
      → Leads (Goes known goes) b (line_over (known b) s (line_of text)) c (Program.ends (t, said))
      → Leads (Goes known goes) b (line_over (known b) s (line_of text)) c (Program.ends (t, turn.WaitWanted))
  to-wait b s text said c t e led =
      subst (λ (x : Turn). Leads (Goes known goes) b (line_over (known b) s (line_of text)) c (Program.ends (t, x))) e led

  -- and where it has waited
  pub waited-attends : (b : B) (s : Session) (c : B) → Attends (known b) s → Goes known goes b Call.wait Answer.done c → Attends (known c) s
  waited-attends b s c is waits = plain-on (known b) (known c) s Call.wait Answer.done waits.answered (λ old new own. own) waits.answered.keeps
      waits.answered.goes_on.subscribed waits.answered.goes_on.taken is

  -- a `sync` leaves the session attended, as each line does
  synced-attends : (b : B) (s : Session) (said : Turn) (c : B) (t : Session) → Attends (known b) s
      → Leads (Goes known goes) b (sync s) c (Program.ends (t, said)) → Attends (known c) t
  synced-attends b s said c t is led = safe_end AttendsEnd (lines_are_safe (known b) s asked.Sync is tt) led

  -- whatever is answered behind the wait
  pub synced-on : (b : B) (s : Session) (r : Result Turn SessionError) (c : B) (t : Session) → Attends (known b) s
      → Plays known goes b (sync s) r (λ said. (t, said)) c → OnOk r (Attends (known c) t)
  synced-on b s (Ok said) c t is led = synced-attends b s said c t is led
  synced-on b s (Err e) c t is stop = tt

  -- a line that is answered is not left to wait
  answers-told : (b : B) (s : Session) (text : Text) (said : Turn) (c : B) (t : Session) → Answers known goes b s text said c t
      → said ≡ turn.WaitWanted → ⊥
  answers-told b s text said c t (Answers.at_once quick led) = quick
  answers-told b s text said c t (Answers.woken there woke u first waits last) =
      along AsksAny (Unit {0}) (λ l (end : LineEnd). end.1 ≡ turn.WaitWanted → ⊥) (known_leads known goes last) (sync-replies (known woke) u)

  -- each line of a talk, by whether the session goes on behind it
  does-ends : (b : B) (s : Session) (told : Told) (c : B) (o : Option Session) → Does known goes b s told c o → (waits told ≡ false) × EndsBy o (ends told)
  does-ends b s Told.long c o does = (refl, subst (λ (o : Option Session). EndsBy o false) (sym does.1) refl)
  does-ends b s (Told.answered text said) c o does =
      (not-waiting text said (answers-told b s text said c does.after does.answers), ends-by o does.after text said does.goes_on)

  -- so the lines of a talk are in order
  pub talk-ordered : (old : B) (s : Session) (tolds : List Told) (new : B) (o : Option Session) → Talks known goes old s tolds new o → IsOrdered tolds o
  talk-ordered old s tolds new o Talks.silent = tt
  talk-ordered old s tolds new o (Talks.says {before = before} {mid = mid} {t = t} told talks does is) =
      subst (λ (x : List Told). IsOrdered x o) (sym is)
      (ordered-more before told o (talk-ordered old s before mid (Some t) talks) (does-ends mid t told new o does))

  -- a line that was to wait is answered behind the wait
  pub answers-woken : {E : Type 0} (b : B) (s : Session) (text : Text) (there : B) (u : Session) (r : Result Turn E) (c : B) (t : Session)
      → Leads (Goes known goes) b (line_over (known b) s (line_of text)) there (Program.ends (u, turn.WaitWanted))
      → IfOk r (λ said. Wakes known goes there u said c t) → IfOk r (λ said. Answers known goes b s text said c t)
  answers-woken b s text there u (Ok said) c t first wakes = Answers.woken there wakes.woke u first wakes.waits wakes.syncs
  answers-woken b s text there u (Err e) c t first wakes = tt

  -- the lines of a talk are done
  pub record IsTalk (old : B) (s : Session) (tolds : List Told) (new : B) (o : Option Session) : Type 0 where
    pub session : Session
    pub done : AreDone (known old) s (texts_of tolds) (turns_of tolds) (known new) session
    pub same : IfSome o (λ t. t ≡ session)
    pub faults : (known new).faults ≡ (known old).faults

  -- one line more
  talk-more : (old : B) (s : Session) (before : List Told) (mid : B) (t : Session) (told : Told) (new : B) (o : Option Session)
      → IsTalk old s before mid (Some t) → Does known goes mid t told new o → IsTalk old s (before ++ told ∷ []) new o
  talk-more old s before mid t Told.long new o h does = record {
    session = h.session;
    done = subst (λ (b : B). AreDone (known old) s (texts_of (before ++ Told.long ∷ [])) (turns_of (before ++ Told.long ∷ [])) (known b) h.session)
        (sym does.0) (named (known old) (known mid) s h.session (texts_of before) (texts_of (before ++ Told.long ∷ [])) (turns_of before)
        (turns_of (before ++ Told.long ∷ [])) (texts-long before) (turns-long before) h.done);
    same = subst (λ (x : Option Session). IfSome x (λ u. u ≡ h.session)) (sym does.1) h.same;
    faults = ap (λ (b : B). (known b).faults) does.0 ∙ h.faults;
  }
  talk-more old s before mid t (Told.answered text said) new o h does = record {
    session = does.after;
    done = named (known old) (known new) s does.after (texts_of before ++ text ∷ []) (texts_of (before ++ Told.answered text said ∷ []))
        (turns_of before ++ said ∷ []) (turns_of (before ++ Told.answered text said ∷ [])) (texts-more before text said) (turns-more before text said)
        (done_more (known old) s (texts_of before) (turns_of before) (known mid) t (known new) does.after text said
        (subst (λ (u : Session). AreDone (known old) s (texts_of before) (turns_of before) (known mid) u) (sym h.same) h.done) does.short
        (answers-done mid t text said new does.after does.answers));
    same = if-left o does.after said does.goes_on;
    faults = answers-unfaulted mid t text said new does.after does.answers ∙ h.faults;
  }

  -- line after line
  pub talk-is : (old : B) (s : Session) (tolds : List Told) (new : B) (o : Option Session) → Talks known goes old s tolds new o → IsTalk old s tolds new o
  talk-is old s tolds new o Talks.silent = record { session = s; done = AreDone.silent; same = refl; faults = refl }
  talk-is old s tolds new o (Talks.says {before = before} {mid = mid} {t = t} told talks does is) =
      subst (λ (x : List Told). IsTalk old s x new o) (sym is) (talk-more old s before mid t told new o (talk-is old s before mid (Some t) talks) does)

  -- so all that is proved of sessions holds of it
  pub talk-accounted : (old new : B) (tolds : List Told) (o : Option Session) → Attends (known old) (first_session (known old))
      → Talks known goes old (first_session (known old)) tolds new o → IsAccounted (known old) (known new) tolds
  talk-accounted old new tolds o is talks =
      let s = first_session (known old) in
      let h = talk-is old s tolds new o talks in
      let law = done_lines_are_explained (known old) (known new) s h.session (texts_of tolds) (turns_of tolds) is h.done in record {
        explained = λ low few. law.explained low low (record { seen = few; before = omega arith; bases = tt; reported = tt });
        own_commits = law.own_commits;
        denied = law.denied;
        known_denied = law.known_denied;
        faults = h.faults;
      }

-- ---- conditions and causes

-- a session that goes on may have its next line
pub follows-on : (k : Known) (s : Session) → Attends k s → Follows k s
follows-on k s is = subst (λ (o : Option SessionError). UnlessOver o (Attends k s)) (sym is.on) is

-- what is counted behind the wait is counted since before it
pub told-behind : (r : Result Turn SessionError) (old mid new : ℕ) → mid ≡ old → CountsFault error.StoreFault r mid new
    → CountsFault error.StoreFault r old new
told-behind r old mid new same told = subst (λ (n : ℕ). CountsFault error.StoreFault r n new) same told

-- a wait that has failed is counted exactly where it has failed by a fault
pub told-unwoken : (e : StoreError) (k l : Known) → IsAnswered k Call.wait (store_failed e) l
    → CountsFault {T = Turn} error.StoreFault (Err (error_of e)) k.faults l.faults
told-unwoken store_error.Fault k l step = record { rises = λ is. step.goes_on.faults; stays = λ no. absurd (no refl) }
told-unwoken store_error.NoMemory k l step = record { rises = λ is. absurd (let no : ⊥ = cc in no); stays = λ no. step.goes_on.faults }

-- ---- the beginning

-- it is made of the client's number and of how many commits it has seen
pub first-is : (k : Known) (client at : ℕ) → client ≡ k.client → at ≡ k.seen
    → record { client = client; seq = 1; at = at; attempt = None; watching = none_yet at; over = None } ≡ first_session k
first-is k client at e f =
    ap (λ (n : ℕ). record { client = n; seq = 1; at = at; attempt = None; watching = none_yet at; over = None }) e
    ∙ ap (λ (n : ℕ). record { client = k.client; seq = 1; at = n; attempt = None; watching = none_yet n; over = None }) f

-- a new client's session goes on, since what it knows stays readable
pub new-attends : (k : Known) → (LEAST_SHARDS ≤ k.shards) × (k.shards ≤ MOST_SHARDS) → StaysReadable k → IsNew k → Attends k (first_session k)
new-attends k shards readable new = record {
  on = refl;
  shards = shards;
  client = refl;
  begun = omega arith;
  counts = counts k.journal readable new;
  attempt = tt;
  watches = record { keeps = none-keeps k k.seen (omega arith); told = minds k.journal readable };
}
  where
    counts : (o : Option Journal) → IfSome o (IsReadOn k) → IfSome o (λ journal. own k.client journal ≡ []) → IfSome o (Counts k 1)
    counts None h none = tt
    counts (Some journal) h none = record { seq_is = ap (λ (xs : Journal). length xs + 1) (sym none); within = h.within }

    minds : (o : Option Journal) → IfSome o (IsReadOn k) → IfSome o (Minds k (first_session k).watching)
    minds None h = tt
    minds (Some journal) h = none-minds k k.seen journal h.within h.can h.can_on
