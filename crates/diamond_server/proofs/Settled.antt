-- What a session's client knew at the end explains it; so does what the client knows once it has met others.
use Rattle.std.proofs.Common.{◌≡◌, ℕ, ◌≤◌, Bool, true, false, List, ◌++◌, length, Ok, inr, refl, ap, sym, ◌∙◌, subst, arith}
use Rattle.std.specs.Prelude.{ltb}
use Rattle.std.proofs.lemmas.Bool.Decides.{nat_tests}
use mathlib.Core.List.{IsPrefix}
use Rattle.history_lock.specs.Tokens.{longer}
use Rattle.history_lock.proofs.Prefixes.{prefix_whole}
use Rattle.dio_core.specs.declared.sink.Sink.{Ghosts as SinkTells}
use Rattle.dio_core.specs.declared.source.Source.{Ghosts as SourceTells}
use Rattle.dio_core.specs.Links.{Both, Outgoing}
use Rattle.txn_grammar.specs.Characters.{Text}
use Rattle.txn_lang.specs.Journals.{IsLegal, own}
use Rattle.txn_lang.specs.States.{Journal}
use Rattle.docc_prepare.specs.Calls.{Known, Call, Answer}
use Rattle.diamond_store.specs.Answers.{Learns}
use Rattle.diamond_store.specs.Passes.{Passed, known_of}
use Rattle.diamond_store.proofs.Known.{front-of}
use Rattle.session_core.specs.declared.session.Session.{Session}
use Rattle.session_core.specs.Explained.{setting_of, story_of}
use Rattle.session_core.specs.Holding.{Attends}
use Rattle.session_core.specs.LineTalks.{AreDone}
use Rattle.session_core.specs.Sessions.{all_replies}
use Rattle.session_core.proofs.AllDone.{done_attends, done_owned}
use Rattle.session_core.proofs.Grown.{prefix-again}
use Rattle.session_core.proofs.Said.{named-stays}
use Rattle.session_core.proofs.Stays.{explains_stays}
use Rattle.diamond_server.specs.Accounts.{IsExplained, IsNearlyExplained, LinesPromised, IsTold}
use Rattle.diamond_server.specs.Ways.{AnyStep, Promising, having_met, KnowsMore, StaysPromised}
use Rattle.diamond_server.specs.Promises.{sides, IsAccounted, IsCutShort, IsServed, Promises}
use Rattle.diamond_server.specs.code.Settling.{IsNearTalk}
use Rattle.diamond_server.specs.Talking.{Told, first_session, texts_of, turns_of}
use Rattle.diamond_server.proofs.CutShort.{done-client, HasMet, cut-accounted}
use Rattle.diamond_server.proofs.FirstCalls.{any-talks, any-may}
use Rattle.diamond_server.proofs.Talked.{talk-is}

-- ---- promises

-- whatever is told of a talk, so is what follows from it
pub promises-map : (Held Other : (List Told → Text → Text → Type 0) → Type 0) (Cut Short : (List Told → Outgoing → Outgoing → Type 0) → Type 0)
    (k l : Known) (status : ℕ) (x y : Both) → ((Reads : List Told → Text → Text → Type 0) → Held Reads → Other Reads)
    → ((Takes : List Told → Outgoing → Outgoing → Type 0) → Cut Takes → Short Takes) → Promises Held Cut k l status x y
    → Promises Other Short k l status x y
promises-map Held Other Cut Short k l status x y f g p = record {
  statuses = p.statuses;
  whole = λ is. f _ (p.whole is);
  broken_off = λ is. f _ (p.broken_off is);
  too_many = λ is. f _ (p.too_many is);
  cut_off = λ is. g _ (p.cut_off is);
  stalled = λ is. g _ (p.stalled is);
  failed = λ is. g _ (p.failed is);
  reads = p.reads;
  writes = p.writes;
  store_failed = p.store_failed;
  completes = p.completes;
}

-- a session that was served is explained by what its client knows at its end
pub served-explained : {B : Type 0} (known : B → Known) (goes : B → Call → Answer → B → Type 0) (old new : B) (x y : Both)
    (Reads : List Told → Text → Text → Type 0) → Attends (known old) (first_session (known old))
    → IsServed known goes old new x y Reads → IsExplained (known old) (known new) (known new) x y Reads
served-explained known goes old new x y Reads begins p =
    let h = talk-is known goes old (first_session (known old)) p.tolds new p.session p.talks in record {
      tolds = p.tolds;
      last = h.session;
      begins = begins;
      done = h.done;
      accounted = p.accounted;
      heard = p.heard;
    }

-- so is one that was cut short
pub cut-explained : {B : Type 0} (known : B → Known) (goes : B → Call → Answer → B → Type 0) (old new : B) (x y : Both)
    (Takes : List Told → Outgoing → Outgoing → Type 0) → Attends (known old) (first_session (known old))
    → IsCutShort known goes (known new) old new x y Takes → IsNearlyExplained (known old) (known new) (known new) x y Takes
cut-explained known goes old new x y Takes begins p = (
  begins,
  record {
    tolds = p.tolds;
    begun = p.begun;
    there = known p.there;
    session = p.session;
    talks = any-talks known goes p.talks;
    behind = any-may known goes p.there p.session p.begun new p.behind;
    accounted = p.accounted;
    few = p.few;
    in_order = p.in_order;
    reads = p.reads;
    taken = p.taken;
  },
)

-- a link that tells what another tells
pub sides-same : {K : Type 0} (source : SourceTells K) (sink : SinkTells K) (a b : K) → source.left a ≡ source.left b → sink.taken a ≡ sink.taken b
    → sink.passed a ≡ sink.passed b → source.read_faults a ≡ source.read_faults b → sink.write_faults a ≡ sink.write_faults b
    → sides source sink a ≡ sides source sink b
sides-same source sink a b same_left same_taken same_passed same_reads same_writes =
    rw (same_left, same_taken, same_passed, same_reads, same_writes) refl

-- ---- a longer journal

-- What a journal explains, a longer one explains that has no more commits of the client.
module _ (p has : Passed) (journal : Journal) (denials : ℕ) (tolds : List Told) (last : Session)
    (begins : Attends (known_of p) (first_session (known_of p)))
    (all : AreDone (known_of p) (first_session (known_of p)) (texts_of tolds) (turns_of tolds) (known_of has) last)
    (grows : IsPrefix has.journal journal) (legal : IsLegal has.trusted journal) (same : own has.client journal ≡ own has.client has.journal)
    (more : has.denials ≤ denials) where
  -- the session is the same one, so each of its answers is explained by the longer journal
  accounted-met : IsAccounted (known_of p) (known_of has) tolds
      → IsAccounted (known_of p) (known_of (record has { journal = journal; denials = denials })) tolds
  accounted-met a =
      let first = first_session (known_of p) in
      let texts = texts_of tolds in
      let turns = turns_of tolds in
      let on = done_attends (known_of p) first texts turns (known_of has) last begins all in
      let minds = on.watches.told in
      let begun = front-of has.journal journal grows in
      let owned = done_owned (known_of p) first texts turns (known_of has) last begins all in
      let client : has.client ≡ p.client = done-client (known_of p) first texts turns (known_of has) last begins all in
      let kept : own p.client journal ≡ own p.client has.journal =
      subst (λ (c : ℕ). own c journal ≡ own c has.journal) client same in record {
        explained = λ low few.
            let e = a.explained low few in record {
              grows = prefix-again p.journal has.journal journal e.grows begun;
              explains = explains_stays (setting_of (known_of p)) has.journal journal (story_of low low first) texts turns minds.can
                  (minds.can_on journal begun legal) begun tt e.explains;
            };
        own_commits = kept ∙ (owned.own_is ∙ ap (λ (xs : Journal). own p.client p.journal ++ xs)
            (sym (named-stays has.journal journal (all_replies turns) begun owned.there)));
        denied = a.denied;
        known_denied = (let known = a.known_denied in omega arith);
        faults = a.faults;
      }

-- ---- the meeting

-- the longer of a list and a prefix of it is the list
longer-prefix : {A : Type 0} (xs ys : List A) → IsPrefix xs ys → longer xs ys ≡ ys
longer-prefix xs ys p = by (ltb (length xs) (length ys)) refl
  where
    by : (t : Bool) → ltb (length xs) (length ys) ≡ t → longer xs ys ≡ ys
    by true is = rw is refl
    by false is = rw is (prefix_whole xs ys p (grind (arith, nat_tests)))

-- What is promised of a session of lines stays so.
pub lines-stay : StaysPromised LinesPromised
lines-stay first last other status x y =
    λ told more. (promises-map _ _ _ _ (known_of first) (known_of last) status x y (later more) (nearly more) told.0, told.1)
  where
    -- who has met the other
    met : KnowsMore last other → HasMet (known_of last) (known_of (having_met other last))
    met more = record {
      come = record {
        client = record { client = refl; trusted = refl; shards = refl; window = refl; limit = refl };
        told = (front-of last.journal other.journal more.grows, inr more.legal);
      };
      own = more.same_own;
      denied = refl;
      denials = more.denials;
    }

    nearly : KnowsMore last other → (Takes : List Told → Outgoing → Outgoing → Type 0)
        → IsNearlyExplained (known_of first) (known_of last) (known_of last) x y Takes
        → IsNearlyExplained (known_of first) (known_of last) (known_of (having_met other last)) x y Takes
    nearly more Takes (begins, h) = (
      begins,
      record {
        tolds = h.tolds;
        begun = h.begun;
        there = h.there;
        session = h.session;
        talks = h.talks;
        behind = h.behind;
        accounted = cut-accounted (λ k. k) AnyStep (known_of first) h.there (known_of last) (known_of (having_met other last)) h.tolds h.session h.begun
            begins h.talks h.behind (met more);
        few = h.few;
        in_order = h.in_order;
        reads = h.reads;
        taken = h.taken;
      },
    )

    later : KnowsMore last other → (Reads : List Told → Text → Text → Type 0) → IsExplained (known_of first) (known_of last) (known_of last) x y Reads
        → IsExplained (known_of first) (known_of last) (known_of (having_met other last)) x y Reads
    later more Reads h = record {
      tolds = h.tolds;
      last = h.last;
      begins = h.begins;
      done = h.done;
      accounted = accounted-met first last other.journal other.denials h.tolds h.last h.begins h.done more.grows more.legal more.same_own
          more.denials h.accounted;
      heard = h.heard;
    }

-- A client that has met what another knows, who knew all that it knew: what was told of its link is so of what the other knows.
pub told-met : (Promised : Promising) → StaysPromised Promised → (x y : Both) (status : ℕ) (t : Passed × Passed) (other new : Passed)
    → IsTold Promised (λ p. p) x y status (Ok t) → IsNearTalk other (Ok t) → Learns t.1 new → new.journal ≡ longer t.1.journal other.journal
    → IsTold Promised (having_met other) x y status (Ok t)
told-met Promised stays x y status t other new told near learns met = (
  told.0,
  stays t.0 t.1 other status x y told.1 (record {
    grows = near.0;
    legal = subst (λ (w : Journal). IsLegal t.1.trusted w) whole
        (subst (λ (n : ℕ). IsLegal n new.journal) (ap (λ (p : Passed). p.trusted) learns.rest) learns.legal);
    same_own = ap (own t.1.client) (sym whole) ∙ learns.own_commits;
    denials = near.1;
  }),
)
  where
    whole : new.journal ≡ other.journal
    whole = met ∙ longer-prefix t.1.journal other.journal near.0
