-- A session that is cut short: what the line did that was begun behind its talk, and that all its answers are explained.
use Rattle.std.proofs.Common.{◌≡◌, ℕ, ◌≤◌, ◌⊎◌, Bool, List, [], ◌++◌, length, Option, Some, None, inl, inr, refl, sym, ap, ◌∙◌, subst, arith}
use Rattle.std.specs.Prelude.{IfSome}
use Rattle.std.proofs.lemmas.List.{append-nil}
use Rattle.dio_core.specs.Told.{WhereTold}
use Rattle.dio_core.specs.declared.line.TheConstants.{LONGEST_LINE}
use Rattle.dio_core.proofs.Told.{WhereTold-refl, WhereTold-map, WhereTold-then}
use Rattle.txn_grammar.specs.Characters.{Text}
use Rattle.txn_lang.specs.declared.commit.Commit.{Commit}
use Rattle.txn_lang.specs.Journals.{IsLegal, own}
use Rattle.txn_lang.specs.States.{Journal}
use Rattle.journal_core.specs.declared.ready.Ready.{Ready}
use Rattle.session_text.specs.declared.reply.Reply.{Reply}
use Rattle.docc_prepare.specs.Calls.{Known, Call, Answer}
use Rattle.docc_prepare.specs.Backends.{IsPrefix, IsSameClient, IsAnswered}
use Rattle.call_programs.specs.Programs.{Program}
use Rattle.call_programs.specs.Safe.{MayAsk, IsSafe}
use Rattle.call_programs.proofs.Programs.{known_leads}
use Rattle.docc_prepare.specs.Readable.{CanRead}
use Rattle.session_core.specs.declared.line.Line.TheVariants as asked
use Rattle.session_core.specs.declared.session.Session.{Session}
use Rattle.session_core.specs.declared.turn.Turn.{Turn}
use Rattle.session_core.specs.declared.turn.Turn.TheVariants as turn
use Rattle.session_core.specs.Explained.{replies_in, setting_of, story_of}
use Rattle.session_core.specs.Holding.{Minds, Attends}
use Rattle.session_core.specs.LinePrograms.{line_over, sync}
use Rattle.session_core.specs.Lines.{line_of}
use Rattle.session_core.specs.LineTalks.{AreDone}
use Rattle.session_core.specs.Sessions.{committed_by, all_replies, denied_by_all, ExplainsAll}
use Rattle.session_core.specs.Verbs.{LineEnd}
use Rattle.session_core.proofs.AllDone.{done_attends, done_owned}
use Rattle.session_core.proofs.Done.{has_done, led_attends, led_said}
use Rattle.session_core.proofs.Explained.{told-then}
use Rattle.session_core.proofs.Grown.{prefix-whole, prefix-again}
use Rattle.session_core.proofs.LinesSafe.{lines_are_safe}
use Rattle.session_core.proofs.LinesTell.{lines_tell}
use Rattle.session_core.proofs.Ready.{line-ready}
use Rattle.session_core.proofs.Safe.{AttendsEnd}
use Rattle.session_core.proofs.Said.{Says, named-stays}
use Rattle.session_core.proofs.Stays.{explains_stays}
use Rattle.session_core.proofs.Talked.{finds, can-read}
use Rattle.session_core.proofs.Telling.{HasSaid, said_on, Tells, LineSaid}
use Rattle.session_core.proofs.Woken.{HasOwned}
use Rattle.diamond_server.specs.Promises.{count_of, MayCountMore, IsNearlyAccounted}
use Rattle.diamond_server.specs.Talking.{Told, Talks, HasBegun, Begins, MayBegin, first_session, texts_of, turns_of}
use Rattle.diamond_server.proofs.FirstCalls.{begun-led, begun-known}
use Rattle.diamond_server.proofs.Talked.{talk-is, talk-accounted, waited-attends}

-- ---- what was said where a program has come to

-- at each place something, maybe nothing
said-here : (k c : Known) (p : Program LineEnd) → IsSafe c p AttendsEnd → Tells k c p (LineSaid k) → (replies : List Reply) × HasSaid k c replies
said-here k c (Program.ends end) safe tells = (replies_in end.1, tells)
said-here k c (Program.asks call next) safe tells = ([], tells.0)
said-here k c Program.stuck safe tells = absurd safe

-- a call that has failed says nothing
failed-says : (P : List Reply → Type 0) (call : Call) (by_fault : Bool) → Says P call (Answer.failed by_fault) → P []
failed-says P (Call.append ready) by_fault h = h
failed-says P call by_fault h = h

-- call by call
begun-said : (k c m : Known) (p : Program LineEnd) → HasBegun IsAnswered c p m → IsSafe c p AttendsEnd → Tells k c p (LineSaid k)
    → (replies : List Reply) × HasSaid k m replies
begun-said k c m p HasBegun.no_more safe tells = said-here k c p safe tells
begun-said k c m p (HasBegun.last_failed {call} by_fault step) safe tells = (
  [],
  failed-says (HasSaid k m) call by_fault
      (said_on k c m call (Answer.failed by_fault) (λ ready is. ap (λ (r : Ready). r.client) (subst (MayAsk c) is safe.0).made) tells.0 step),
)
begun-said k c m p (HasBegun.then_more {m = mid} {next} answer step ok rest) safe tells =
    begun-said k mid m (next answer) rest (safe.1 answer mid step ok) (tells.1 answer mid step ok)

-- ---- what a line adds that was begun

-- to the journal
pub record Adds (most client : ℕ) (old new : Journal) : Type 0 where
  pub grows : IsPrefix old new
  pub more : List Commit
  pub few : length more ≤ most
  pub own_is : own client new ≡ own client old ++ more

-- to all that is known
pub record HasAdded (begun : Option Text) (k l : Known) : Type 0 where
  pub client : l.client ≡ k.client
  pub own : WhereTold (Adds (count_of begun) k.client) k.journal l.journal
  pub denied : MayCountMore begun k.denied l.denied
  pub known : k.denials ≤ l.denials

-- nothing
adds-none : (k : Known) → HasAdded None k k
adds-none k = record {
  client = refl;
  own = WhereTold-refl (Adds 0 k.client) k.journal
      (λ journal. record { grows = prefix-whole journal; more = []; few = omega arith; own_is = sym (append-nil (own k.client journal)) });
  denied = refl;
  known = omega arith;
}

-- what it has said
adds-said : (text : Text) (k l : Known) (replies : List Reply) → HasSaid k l replies → HasAdded (Some text) k l
adds-said text k l replies h = record {
  client = h.client;
  own = WhereTold-map k.journal l.journal
      (λ old new said. record { grows = said.grows; more = committed_by new replies; few = said.few; own_is = said.own_is }) h.own;
  denied = h.denied.one;
  known = h.known.up;
}

-- ---- where nothing is said

-- nothing was added
record HasStood (k l : Known) : Type 0 where
  pub client : l.client ≡ k.client
  pub own : WhereTold (λ old new. IsPrefix old new × (own k.client new ≡ own k.client old)) k.journal l.journal
  pub denied : l.denied ≡ k.denied
  pub known : k.denials ≤ l.denials

stood-said : (k l : Known) → HasSaid k l [] → HasStood k l
stood-said k l h = record {
  client = h.client;
  own = WhereTold-map k.journal l.journal (λ old new said. (said.grows, said.own_is ∙ append-nil (own k.client old))) h.own;
  denied = h.denied.denied;
  known = h.known.up;
}

-- while it was waited
stood-woken : (k l : Known) → IsAnswered k Call.wait Answer.done l → HasStood k l
stood-woken k l step = record {
  client = step.client.client;
  own = WhereTold-map k.journal l.journal (λ old new row. (row.grows, row.same_own)) step.told;
  denied = step.goes_on.denied;
  known = step.goes_on.denials;
}

stood-unwoken : (k l : Known) (by_fault : Bool) → IsAnswered k Call.wait (Answer.failed by_fault) l → HasStood k l
stood-unwoken k l by_fault step = record {
  client = step.client.client;
  own = WhereTold-map k.journal l.journal (λ old new row. (row.grows, row.same_own)) step.told;
  denied = step.goes_on.denied;
  known = step.goes_on.denials;
}

-- that is no more than may be added
adds-stood : (text : Text) (k l : Known) → HasStood k l → HasAdded (Some text) k l
adds-stood text k l h = record {
  client = h.client;
  own = WhereTold-map k.journal l.journal
      (λ old new stood. record { grows = stood.0; more = []; few = omega arith; own_is = stood.1 ∙ sym (append-nil (own k.client old)) }) h.own;
  denied = inl h.denied;
  known = h.known;
}

-- and then something
adds-behind : (text : Text) (k c l : Known) → HasStood k c → HasAdded (Some text) c l → HasAdded (Some text) k l
adds-behind text k c l h added = record {
  client = added.client ∙ h.client;
  own = WhereTold-then k.journal c.journal l.journal (λ old mid new stood adds. record {
    grows = prefix-again old mid new stood.0 adds.grows;
    more = adds.more;
    few = adds.few;
    own_is = subst (λ (n : ℕ). own n new ≡ own n mid ++ adds.more) h.client adds.own_is ∙ ap (λ (xs : Journal). xs ++ adds.more) stood.1;
  }) h.own added.own;
  denied = subst (λ (n : ℕ). MayCountMore (Some text) n l.denied) h.denied added.denied;
  known = (let first = h.known in let second = added.known in omega arith);
}

module _ {B : Type 0} (known : B → Known) (goes : B → Call → Answer → B → Type 0) where
  -- whatever becomes of the line
  begins-adds : (b : B) (s : Session) (text : Text) (c : B) → Attends (known b) s → length text ≤ LONGEST_LINE → Begins known goes b s text c
      → HasAdded (Some text) (known b) (known c)
  begins-adds b s text c is short (Begins.at_once begun) =
      let line = line_of text in
      let said = begun-said (known b) (known b) (known c) (line_over (known b) s line) (begun-known known goes begun)
      (lines_are_safe (known b) s line is (line-ready text short)) (lines_tell (known b) s line is) in
      adds-said text (known b) (known c) said.0 said.1
  begins-adds b s text c is short (Begins.unwoken there u by_fault led waits) =
      adds-behind text (known b) (known there) (known c)
      (stood-said (known b) (known there)
      (led_said (known b) (known there) s u (line_of text) turn.WaitWanted is (line-ready text short) (known_leads known goes led)))
      (adds-stood text (known there) (known c) (stood-unwoken (known there) (known c) by_fault waits.answered))
  begins-adds b s text c is short (Begins.woken there woke u led waits begun) =
      let way = known_leads known goes led in
      let ready = line-ready text short in
      let there_is = led_attends (known b) (known there) s u (line_of text) turn.WaitWanted is ready way in
      let woke_is = waited-attends known goes there u woke there_is waits in
      let said = begun-said (known woke) (known woke) (known c) (sync u) (begun-known known goes begun)
      (lines_are_safe (known woke) u asked.Sync woke_is tt) (lines_tell (known woke) u asked.Sync woke_is) in
      adds-behind text (known b) (known there) (known c)
      (stood-said (known b) (known there) (led_said (known b) (known there) s u (line_of text) turn.WaitWanted is ready way))
      (adds-behind text (known there) (known woke) (known c) (stood-woken (known there) (known woke) waits.answered)
      (adds-said text (known woke) (known c) said.0 said.1))

  -- if one was begun
  may-adds : (b : B) (t : Session) (o : Option Session) (begun : Option Text) (c : B) → Attends (known b) t → IfSome o (λ s. s ≡ t)
      → MayBegin known goes b o begun c → HasAdded begun (known b) (known c)
  may-adds b t o None c is same still = subst (λ (d : B). HasAdded None (known b) (known d)) (sym still) (adds-none (known b))
  may-adds b t None (Some text) c is same may = absurd may
  may-adds b t (Some s) (Some text) c is same may =
      begins-adds b s text c (subst (λ (u : Session). Attends (known b) u) (sym same) is) may.0 may.1

-- ---- how the journal has come so far

-- it has grown, and is legal if it is another
pub record HasCome (k l : Known) : Type 0 where
  pub client : IsSameClient k l
  pub told : WhereTold (λ old new. IsPrefix old new × ((new ≡ old) ⊎ IsLegal k.trusted new)) k.journal l.journal

come-none : (k : Known) → HasCome k k
come-none k = record {
  client = record { client = refl; trusted = refl; shards = refl; window = refl; limit = refl };
  told = WhereTold-refl (λ old new. IsPrefix old new × ((new ≡ old) ⊎ IsLegal k.trusted new)) k.journal (λ journal. (prefix-whole journal, inl refl));
}

-- by a call
come-by : (k l : Known) (call : Call) (answer : Answer) → IsAnswered k call answer l → HasCome k l
come-by k l call answer step = record {
  client = step.client;
  told = WhereTold-map k.journal l.journal
      (λ old new row. (row.grows, inr (subst (λ (n : ℕ). IsLegal n new) step.client.trusted row.legal))) step.told;
}

-- and then
legal-then : (k c : Known) (old mid new : Journal) → c.trusted ≡ k.trusted → (mid ≡ old) ⊎ IsLegal k.trusted mid
    → (new ≡ mid) ⊎ IsLegal c.trusted new → (new ≡ old) ⊎ IsLegal k.trusted new
legal-then k c old mid new trusted first (inr legal) = inr (subst (λ (n : ℕ). IsLegal n new) trusted legal)
legal-then k c old mid new trusted (inl before) (inl same) = inl (same ∙ before)
legal-then k c old mid new trusted (inr legal) (inl same) = inr (subst (λ (j : Journal). IsLegal k.trusted j) (sym same) legal)

pub come-then : (k c l : Known) → HasCome k c → HasCome c l → HasCome k l
come-then k c l first second = record {
  client = record {
    client = second.client.client ∙ first.client.client;
    trusted = second.client.trusted ∙ first.client.trusted;
    shards = second.client.shards ∙ first.client.shards;
    window = second.client.window ∙ first.client.window;
    limit = second.client.limit ∙ first.client.limit;
  };
  told = WhereTold-then k.journal c.journal l.journal (λ old mid new before behind. (
    prefix-again old mid new before.0 behind.0,
    legal-then k c old mid new first.client.trusted before.1 behind.1,
  )) first.told second.told;
}

-- by the first calls of a program
come-begun : {A : Type 0} (k l : Known) (p : Program A) → HasBegun IsAnswered k p l → HasCome k l
come-begun k l p HasBegun.no_more = come-none k
come-begun k l p (HasBegun.last_failed {call} by_fault step) = come-by k l call (Answer.failed by_fault) step
come-begun k l p (HasBegun.then_more {m} {call} {next} answer step ok rest) =
    come-then k m l (come-by k m call answer step) (come-begun m l (next answer) rest)

module _ {B : Type 0} (known : B → Known) (goes : B → Call → Answer → B → Type 0) where
  come-begins : (b : B) (s : Session) (text : Text) (c : B) → Begins known goes b s text c → HasCome (known b) (known c)
  come-begins b s text c (Begins.at_once begun) =
      come-begun (known b) (known c) (line_over (known b) s (line_of text)) (begun-known known goes begun)
  come-begins b s text c (Begins.unwoken there u by_fault led waits) =
      come-then (known b) (known there) (known c)
      (come-begun (known b) (known there) (line_over (known b) s (line_of text)) (begun-led (known_leads known goes led)))
      (come-by (known there) (known c) Call.wait (Answer.failed by_fault) waits.answered)
  come-begins b s text c (Begins.woken there woke u led waits begun) =
      come-then (known b) (known there) (known c)
      (come-begun (known b) (known there) (line_over (known b) s (line_of text)) (begun-led (known_leads known goes led)))
      (come-then (known there) (known woke) (known c) (come-by (known there) (known woke) Call.wait Answer.done waits.answered)
      (come-begun (known woke) (known c) (sync u) (begun-known known goes begun)))

  come-may : (b : B) (o : Option Session) (begun : Option Text) (c : B) → MayBegin known goes b o begun c → HasCome (known b) (known c)
  come-may b o None c still = subst (λ (d : B). HasCome (known b) (known d)) (sym still) (come-none (known b))
  come-may b None (Some text) c may = absurd may
  come-may b (Some s) (Some text) c may = come-begins b s text c may.1

-- ---- who knows more

-- the journal has come further, with no commit of the client's, and no denial
pub record HasMet (l m : Known) : Type 0 where
  pub come : HasCome l m
  pub own : WhereTold (λ old new. own l.client new ≡ own l.client old) l.journal m.journal
  pub denied : m.denied ≡ l.denied
  pub denials : l.denials ≤ m.denials

pub met-none : (l : Known) → HasMet l l
met-none l = record {
  come = come-none l;
  own = WhereTold-refl (λ old new. own l.client new ≡ own l.client old) l.journal (λ journal. refl);
  denied = refl;
  denials = omega arith;
}

-- two facts of one pair of journals are one
told-both : {A B : Type 0} (R S : A → B → Type 0) (x : Option A) (y : Option B) → WhereTold R x y → WhereTold S x y
    → WhereTold (λ a b. R a b × S a b) x y
told-both R S None None first second = tt
told-both R S None (Some b) first second = first
told-both R S (Some a) None first second = first
told-both R S (Some a) (Some b) first second = (first, second)

-- ---- a session that is cut short

-- no line changes the client
pub done-client : (k : Known) (s : Session) (texts : List Text) (turns : List Turn) (l : Known) (u : Session) → Attends k s
    → AreDone k s texts turns l u → l.client ≡ k.client
done-client k s texts turns l u is AreDone.silent = refl
done-client k s texts turns l u is
    (AreDone.done {here = here} {l = m} {t = t} {text = text} {said = x} {texts = rest} {turns = more} found_it short said talks) =
    let it = finds k here s is found_it in
    let h = has_done here m s t text x it.attends short said in
    done-client m t rest more l u h.attends talks ∙ (h.client.client ∙ it.client.client)

-- a journal that has come further can be read, too
reads-on : (k : Known) (s : Session) (mid new : Journal) → Attends k s → k.journal ≡ Some mid → IsPrefix mid new
    → (new ≡ mid) ⊎ IsLegal k.trusted new → CanRead new
reads-on k s mid new is told grows (inl same) = subst CanRead (sym same) (can-read k s mid is told)
reads-on k s mid new is told grows (inr legal) =
    (subst (λ (o : Option Journal). IfSome o (Minds k s.watching)) told is.watches.told).can_on new grows legal

module _ {B : Type 0} (known : B → Known) (goes : B → Call → Answer → B → Type 0) where
  -- All answers of the talk are explained by what is known behind the line that was begun, and by what is known later.
  module _ (old there new : B) (m : Known) (tolds : List Told) (o : Option Session) (begun : Option Text)
      (is : Attends (known old) (first_session (known old))) (talks : Talks known goes old (first_session (known old)) tolds there o)
      (may : MayBegin known goes there o begun new) (met : HasMet (known new) m) where
    abbrev replies : List Reply
    replies = all_replies (turns_of tolds)

    -- the session behind the talk attends
    talked : Attends (known there) (talk-is known goes old (first_session (known old)) tolds there o talks).session
    talked =
        let h = talk-is known goes old (first_session (known old)) tolds there o talks in
        done_attends (known old) (first_session (known old)) (texts_of tolds) (turns_of tolds) (known there) h.session is h.done

    owned : WhereTold (HasOwned (known old).client replies) (known old).journal (known there).journal
    owned =
        let h = talk-is known goes old (first_session (known old)) tolds there o talks in
        done_owned (known old) (first_session (known old)) (texts_of tolds) (turns_of tolds) (known there) h.session is h.done

    same-client : (known there).client ≡ (known old).client
    same-client =
        let h = talk-is known goes old (first_session (known old)) tolds there o talks in
        done-client (known old) (first_session (known old)) (texts_of tolds) (turns_of tolds) (known there) h.session is h.done

    -- the line adds so much
    added : HasAdded begun (known there) (known new)
    added =
        let h = talk-is known goes old (first_session (known old)) tolds there o talks in
        may-adds known goes there h.session o begun new talked h.same may

    -- and the journal has come so far
    come : HasCome (known there) m
    come = come-then (known there) (known new) m (come-may known goes there o begun new may) met.come

    -- with no commit more
    later-same : WhereTold (λ near far. IsPrefix near far × (own (known there).client far ≡ own (known there).client near)) (known new).journal m.journal
    later-same = WhereTold-map (known new).journal m.journal
        (λ near far both. (both.0.0, subst (λ (n : ℕ). own n far ≡ own n near) added.client both.1))
        (told-both (λ near far. IsPrefix near far × ((far ≡ near) ⊎ IsLegal (known new).trusted far))
        (λ near far. own (known new).client far ≡ own (known new).client near) (known new).journal m.journal met.come.told met.own)

    adds : WhereTold (Adds (count_of begun) (known there).client) (known there).journal m.journal
    adds = WhereTold-then (known there).journal (known new).journal m.journal (λ mid near far more same. record {
      grows = prefix-again mid near far more.grows same.0;
      more = more.more;
      few = more.few;
      own_is = same.1 ∙ more.own_is;
    }) added.own later-same

    pub cut-accounted : IsNearlyAccounted begun (known old) m tolds
    cut-accounted =
        let first = first_session (known old) in
        let law = talk-accounted known goes old there tolds o is talks in record {
          explained = λ low few.
              told-then {T = ExplainsAll (setting_of (known old)) (story_of low low first) (texts_of tolds) (turns_of tolds)} (known old).journal
              (known there).journal m.journal
              (λ was mid far from to e on. record {
                grows = prefix-again was mid far e.grows on.0;
                explains = explains_stays (setting_of (known old)) mid far (story_of low low first) (texts_of tolds) (turns_of tolds)
                    (can-read (known there) _ mid talked from) (reads-on (known there) _ mid far talked from on.0 on.1) on.0 tt e.explains;
              })
              (law.explained low few) come.told;
          own_commits = WhereTold-then (known old).journal (known there).journal m.journal (λ was mid far has more. record {
            more = more.more;
            few = more.few;
            own_commits =
                subst (λ (n : ℕ). own n far ≡ own n mid ++ more.more) same-client more.own_is
                ∙ ap (λ (xs : Journal). xs ++ more.more)
                (has.own_is ∙ ap (λ (xs : Journal). own (known old).client was ++ xs) (sym (named-stays mid far replies more.grows has.there)));
          }) owned adds;
          denied = subst (λ (n : ℕ). MayCountMore begun (denied_by_all (known old).denied replies) n) (sym met.denied)
              (subst (λ (n : ℕ). MayCountMore begun n (known new).denied) law.denied added.denied);
          known_denied =
              let said = law.known_denied in
              let up = added.known in
              let later = met.denials in omega arith;
        }
