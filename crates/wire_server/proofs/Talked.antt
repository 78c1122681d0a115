-- What requests that are answered one after another come to, and that what is said of them over a backend is so by what is known.
use Rattle.std.proofs.Common.{◌≡◌, ℕ, ◌≤◌, ◌⊎◌, Bool, true, false, List, [], ◌∷◌, ◌++◌, map, length, Some, refl, ap, sym, ◌∙◌, subst, arith, append_assoc, inl, inr}
use Rattle.std.proofs.lemmas.List.{append-nil}
use Rattle.dio_core.specs.Counts.{IsCounted}
use Rattle.dio_core.specs.Told.{WhereTold}
use Rattle.dio_core.proofs.Told.{WhereTold-refl, WhereTold-map, WhereTold-then}
use Rattle.txn_grammar.specs.Characters.{Text}
use Rattle.txn_lang.specs.Journals.{IsLegal, own}
use Rattle.txn_lang.specs.States.{Journal}
use Rattle.docc_prepare.specs.Calls.{Known, Call, Answer, is_fault}
use Rattle.docc_prepare.specs.Backends.{IsPrefix, IsSameClient, IsAnswered, SaysOfJournal, CanCall, Goes}
use Rattle.session_core.proofs.Grown.{prefix-whole, prefix-again}
use Rattle.remote_wire.specs.declared.answer.Given.{Given}
use Rattle.remote_wire.specs.declared.answer.WireAnswer.{WireAnswer}
use Rattle.remote_wire.specs.declared.request.Request.{Request}
use Rattle.remote_wire.specs.declared.request.Request.TheVariants as request
use Rattle.remote_calls.specs.Spelled.{answered_by}
use Rattle.remote_service.specs.declared.service.Service.{Service}
use Rattle.remote_service.specs.Serving.{IsSpelling, IsUnchanged, MadeCall, HasFailed, HasStalled}
use Rattle.remote_service.specs.Serving as service
use Rattle.diamond_server.specs.Ways.{AnyStep}
use Rattle.wire_server.specs.Talking.{Exchange, Does, Talks, entry_of, appended_by, appended, OwnsAppended, denied_as, denied_by, denied_by_all}
use Rattle.wire_server.specs.Promises.{StaysLegal, IsAccounted, OwnsOneMore}
use Rattle.wire_server.proofs.Appended.{own-asked, own-called, own-fault, AddsOne, denied-asked, denials-asked, denied-up}

-- ---- one more

pub appended-more : (es : List Exchange) (e : Exchange) → appended (es ++ e ∷ []) ≡ appended es ++ appended_by e.asked e.answer.given
appended-more [] e = append-nil (appended_by e.asked e.answer.given)
appended-more (x ∷ es) e =
    let first = appended_by x.asked x.answer.given in
    ap (λ rest. first ++ rest) (appended-more es e) ∙ sym (append_assoc first (appended es) (appended_by e.asked e.answer.given))

pub denied-more : (n : ℕ) (es : List Exchange) (e : Exchange) → denied_by_all n (es ++ e ∷ []) ≡ denied_by (denied_by_all n es) e
denied-more n [] e = refl
denied-more n (x ∷ es) e = denied-more (denied_by n x) es e

-- ---- the same client

pub same-client : (k : Known) → IsSameClient k k
same-client k = record { client = refl; trusted = refl; shards = refl; window = refl; limit = refl }

pub same-then : (k m l : Known) → IsSameClient k m → IsSameClient m l → IsSameClient k l
same-then k m l first second = record {
  client = second.client ∙ first.client;
  trusted = second.trusted ∙ first.trusted;
  shards = second.shards ∙ first.shards;
  window = second.window ∙ first.window;
  limit = second.limit ∙ first.limit;
}

-- ---- a journal that stays legal

pub legal-same : (trusted : ℕ) (journal : Journal) → StaysLegal trusted journal journal
legal-same trusted journal = record { grows = prefix-whole journal; legal = λ is. is }

pub legal-then : (trusted : ℕ) (a b c : Journal) → StaysLegal trusted a b → StaysLegal trusted b c → StaysLegal trusted a c
legal-then trusted a b c first second =
    record { grows = prefix-again a b c first.grows second.grows; legal = λ is. second.legal (first.legal is) }

-- by a call it does, whatever that is answered
pub legal-called : (k l : Known) (call : Call) (a : Answer) (old new : Journal) → l.trusted ≡ k.trusted → SaysOfJournal k l call a old new
    → StaysLegal k.trusted old new
legal-called k l call a old new same says =
    record { grows = says.grows; legal = λ is. subst (λ (n : ℕ). IsLegal n new) same says.legal }

-- ---- one request

-- what a request adds to the client's commits, in a journal that stays legal
pub record Adds (trusted client : ℕ) (asked : Request) (g : Given) (old new : Journal) : Type 0 where
  pub legal : StaysLegal trusted old new
  pub own_is : map entry_of (own client new) ≡ map entry_of (own client old) ++ appended_by asked g

-- what a request that is answered does to what is known
pub record Steps (k l : Known) (asked : Request) (g : Given) : Type 0 where
  pub same : IsSameClient k l
  pub told : WhereTold (Adds k.trusted k.client asked g) k.journal l.journal
  pub denied : l.denied ≡ denied_as k.denied asked g
  pub denials : denied_as k.denials asked g ≤ l.denials
  pub faults : l.faults ≡ k.faults

-- who is greeted finds all as it was
steps-greeted : (k : Known) (g : Given) → Steps k k request.Hello g
steps-greeted k g = record {
  same = same-client k;
  told = WhereTold-refl (Adds k.trusted k.client request.Hello g) k.journal (λ journal.
      record { legal = legal-same k.trusted journal; own_is = sym (append-nil (map entry_of (own k.client journal))) });
  denied = refl;
  denials = omega arith;
  faults = refl;
}

-- a call that answers the request
steps-called : (k l : Known) (asked : Request) (answer : WireAnswer) (call : Call) → CanCall k call
    → IsSpelling asked call → is_fault (answered_by asked answer.seen answer.given) ≡ false → IsAnswered k call (answered_by asked answer.seen answer.given) l → Steps k l asked answer.given
steps-called k l asked answer call can spelled fine answered =
    let a = answered_by asked answer.seen answer.given in record {
      same = answered.client;
      told = WhereTold-map k.journal l.journal (λ old new says. record {
        legal = legal-called k l call a old new answered.client.trusted says;
        own_is = own-asked k l old new asked answer.seen answer.given call can spelled says;
      }) answered.told;
      denied = answered.goes_on.denied ∙ denied-asked k asked answer.seen answer.given call spelled;
      denials = denials-asked k l asked answer.seen answer.given call spelled answered.goes_on.denials;
      faults = subst (λ fault. IsCounted fault k.faults l.faults) fine answered.goes_on.faults;
    }

module _ {B : Type 0} (known : B → Known) (goes : B → Call → Answer → B → Type 0) where
  steps-by : (s t : Service) (b d : B) (asked : Request) (answer : WireAnswer) → service.ByCall known goes s b asked answer t d
      → Steps (known b) (known d) asked answer.given
  steps-by s t b d asked answer a =
      steps-called (known b) (known d) asked answer a.call a.served.can a.served.spelled a.served.told a.served.step.answered

  -- A REQUEST THAT IS ANSWERED does what its answer says.
  pub steps : (s t : Service) (b d : B) (asked : Request) (answer : WireAnswer) → service.IsAnswered known goes s b asked answer t d
      → Steps (known b) (known d) asked answer.given
  steps s t b d request.Hello answer a =
      subst (λ (l : Known). Steps (known b) l request.Hello answer.given) (sym (ap known a.backend)) (steps-greeted (known b) answer.given)
  steps s t b d asked answer a = steps-by s t b d asked answer a

-- ---- request after request

-- what requests come to in a journal
pub record AddAll (trusted client : ℕ) (es : List Exchange) (old new : Journal) : Type 0 where
  pub legal : StaysLegal trusted old new
  pub own_is : OwnsAppended client es old new

-- what requests come to
pub record HasTalked (k l : Known) (es : List Exchange) : Type 0 where
  pub same : IsSameClient k l
  pub told : WhereTold (AddAll k.trusted k.client es) k.journal l.journal
  pub denied : l.denied ≡ denied_by_all k.denied es
  pub denials : denied_by_all k.denials es ≤ l.denials
  pub faults : l.faults ≡ k.faults

talked-none : (k : Known) → HasTalked k k []
talked-none k = record {
  same = same-client k;
  told = WhereTold-refl (AddAll k.trusted k.client []) k.journal (λ journal.
      record { legal = legal-same k.trusted journal; own_is = sym (append-nil (map entry_of (own k.client journal))) });
  denied = refl;
  denials = omega arith;
  faults = refl;
}

-- one more in a journal
adds-more : (trusted client : ℕ) (es : List Exchange) (e : Exchange) (a b c : Journal) → AddAll trusted client es a b
    → Adds trusted client e.asked e.answer.given b c → AddAll trusted client (es ++ e ∷ []) a c
adds-more trusted client es e a b c past more =
    let added = appended_by e.asked e.answer.given in record {
      legal = legal-then trusted a b c past.legal more.legal;
      own_is =
          more.own_is
          ∙ ap (λ cs. cs ++ added) past.own_is
          ∙ append_assoc (map entry_of (own client a)) (appended es) added
          ∙ ap (λ xs. map entry_of (own client a) ++ xs) (sym (appended-more es e));
    }

talked-more : (k m l : Known) (es : List Exchange) (e : Exchange) → HasTalked k m es → Steps m l e.asked e.answer.given → HasTalked k l (es ++ e ∷ [])
talked-more k m l es e past step = record {
  same = same-then k m l past.same step.same;
  told = WhereTold-then k.journal m.journal l.journal (λ a b c first second. adds-more k.trusted k.client es e a b c first second) past.told
      (subst (λ (n : ℕ). WhereTold (Adds k.trusted n e.asked e.answer.given) m.journal l.journal) past.same.client
      (subst (λ (n : ℕ). WhereTold (Adds n m.client e.asked e.answer.given) m.journal l.journal) past.same.trusted step.told));
  denied = step.denied ∙ ap (λ (n : ℕ). denied_by n e) past.denied ∙ sym (denied-more k.denied es e);
  denials = (
      let up = denied-up (denied_by_all k.denials es) m.denials e.asked e.answer.given past.denials in
      let last = step.denials in let all = denied-more k.denials es e in omega arith
      );
  faults = step.faults ∙ past.faults;
}

module _ {B : Type 0} (known : B → Known) (goes : B → Call → Answer → B → Type 0) where
  pub talk-comes : (s : Service) (b : B) (t : Service) (d : B) (es : List Exchange) → Talks known goes s b es t d → HasTalked (known b) (known d) es
  talk-comes s b t d es Talks.silent = talked-none (known b)
  talk-comes s b t d es (Talks.says {before = before} {t = u} {mid = mid} e talks does is) =
      subst (HasTalked (known b) (known d)) (sym is)
      (talked-more (known b) (known mid) (known d) before e (talk-comes s b u mid before talks) (steps known goes u t mid d e.asked e.answer does.answered))

-- THE ACCOUNT of requests that were answered
pub accounted : (k l : Known) (es : List Exchange) → HasTalked k l es → IsAccounted k l es
accounted k l es h = record {
  own_commits = WhereTold-map k.journal l.journal (λ old new adds. adds.own_is) h.told;
  denied = h.denied;
  known_denied = h.denials;
  faults = h.faults;
}

-- and the journal
pub talk-safe : (k l : Known) (es : List Exchange) → HasTalked k l es → WhereTold (StaysLegal k.trusted) k.journal l.journal
talk-safe k l es h = WhereTold-map k.journal l.journal (λ old new adds. adds.legal) h.told

-- ---- a call that was made, of which nothing was told

-- it may add one commit
one-more : (client : ℕ) (es : List Exchange) (trusted : ℕ) (k l : Known) (a b c : Journal) → k.client ≡ client → AddAll trusted client es a b
    → AddsOne k l b c → OwnsOneMore client es a c
one-more client es trusted k l a b c mine past adds = record {
  more = adds.more;
  few = adds.few;
  own_commits =
      subst (λ (n : ℕ). map entry_of (own n c) ≡ map entry_of (own n b) ++ adds.more) mine adds.own_is ∙ ap (λ cs. cs ++ adds.more) past.own_is;
}

-- or none was made
pub none-more : (k l : Known) (es : List Exchange) → HasTalked k l es → WhereTold (OwnsOneMore k.client es) k.journal l.journal
none-more k l es h = WhereTold-map k.journal l.journal (λ old new adds. record {
  more = [];
  few = omega arith;
  own_commits = adds.own_is ∙ sym (append-nil (map entry_of (own k.client old) ++ appended es));
}) h.told

-- behind those that were answered
pub one-more-made : (k m l : Known) (es : List Exchange) (call : Call) (a : Answer) → HasTalked k m es → CanCall m call → IsAnswered m call a l
    → WhereTold (OwnsOneMore k.client es) k.journal l.journal
one-more-made k m l es call a past can answered = WhereTold-then k.journal m.journal l.journal
    (λ first mid last adds says. one-more k.client es k.trusted m l first mid last past.same.client adds (own-called m l mid last call a can says))
    past.told answered.told

-- one that failed adds none
fault-adds : (client : ℕ) (es : List Exchange) (trusted : ℕ) (k l : Known) (call : Call) (x : Answer) (a b c : Journal) → k.client ≡ client
    → is_fault x ≡ true → AddAll trusted client es a b → SaysOfJournal k l call x b c → OwnsAppended client es a c
fault-adds client es trusted k l call x a b c mine fault past says =
    let same = own-fault k l b c call x fault says ∙ append-nil (map entry_of (own k.client b)) in
    subst (λ (n : ℕ). map entry_of (own n c) ≡ map entry_of (own n b)) mine same ∙ past.own_is

pub fault-made : (k m l : Known) (es : List Exchange) (call : Call) (x : Answer) → HasTalked k m es → is_fault x ≡ true
    → IsAnswered m call x l → WhereTold (OwnsAppended k.client es) k.journal l.journal
fault-made k m l es call x past fault answered = WhereTold-then k.journal m.journal l.journal
    (λ first mid last adds says. fault-adds k.client es k.trusted m l call x first mid last past.same.client fault adds says) past.told answered.told

-- the journal stays legal behind it
pub made-safe : (k m l : Known) (es : List Exchange) (call : Call) (a : Answer) → HasTalked k m es → IsAnswered m call a l
    → WhereTold (StaysLegal k.trusted) k.journal l.journal
made-safe k m l es call a past answered = WhereTold-then k.journal m.journal l.journal
    (λ first mid last adds says. legal-then k.trusted first mid last adds.legal
    (subst (λ (n : ℕ). StaysLegal n mid last) past.same.trusted (legal-called m l call a mid last answered.client.trusted says)))
    past.told answered.told

-- ---- by what is known

module _ {B : Type 0} (known : B → Known) (goes : B → Call → Answer → B → Type 0) where
  called-known : (s t : Service) (b d : B) (asked : Request) (answer : WireAnswer) → service.ByCall known goes s b asked answer t d
      → service.ByCall (λ (n : Known). n) AnyStep s (known b) asked answer t (known d)
  called-known s t b d asked answer a = record {
    call = a.call;
    meant = a.meant;
    served = record {
      can = a.served.can;
      spelled = a.served.spelled;
      step = record { step = tt; answered = a.served.step.answered };
      fits = a.served.fits;
      counts = a.served.counts;
      seen = a.served.seen;
      told = a.served.told;
      kept = a.served.kept;
    };
  }

  answered-known : (s t : Service) (b d : B) (asked : Request) (answer : WireAnswer) → service.IsAnswered known goes s b asked answer t d
      → service.IsAnswered (λ (n : Known). n) AnyStep s (known b) asked answer t (known d)
  answered-known s t b d request.Hello answer a =
      record { says = a.says; fits = a.fits; service = a.service; backend = ap known a.backend }
  answered-known s t b d asked answer a = called-known s t b d asked answer a

  -- a talk over a backend is one by what is known
  pub talk-known : (s : Service) (b : B) (t : Service) (d : B) (es : List Exchange) → Talks known goes s b es t d → Talks (λ (n : Known). n) AnyStep s (known b) es t (known d)
  talk-known s b t d es Talks.silent = Talks.silent
  talk-known s b t d es (Talks.says {before = before} {t = u} {mid = mid} e talks does is) =
      Talks.says e (talk-known s b u mid before talks) (record {
        read = does.read;
        answered = answered-known u t mid d e.asked e.answer does.answered;
        again = does.again;
      }) is

  made-known : (by_fault : Bool) (s : Service) (b d : B) (bytes : Text) → MadeCall known goes by_fault s b bytes d
      → MadeCall (λ (n : Known). n) AnyStep by_fault s (known b) bytes (known d)
  made-known by_fault s b d bytes m = record {
    call = m.call;
    meant = m.meant;
    made = record { answer = m.made.answer; can = m.made.can; step = record { step = tt; answered = m.made.step.answered }; fault = m.made.fault };
  }

  -- so are the ends of one
  pub stalled-known : (s t : Service) (b d : B) (bytes : Text) → HasStalled known goes s b bytes t d
      → HasStalled (λ (n : Known). n) AnyStep s (known b) bytes t (known d)
  stalled-known s t b d bytes (inl same) = inl (record { service = same.service; backend = ap known same.backend })
  stalled-known s t b d bytes (inr made) = inr (made-known false s b d bytes made)

  pub failed-known : (s : Service) (b d : B) (bytes : Text) → HasFailed known goes s b bytes d
      → HasFailed (λ (n : Known). n) AnyStep s (known b) bytes (known d)
  failed-known s b d bytes failed = record { made = made-known true s b d bytes failed.made; counted = failed.counted }
