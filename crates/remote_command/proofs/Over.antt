-- Along a session over a link its bytes are the frames of requests, each with its answer.
use Rattle.std.proofs.Common.{◌≡◌, ◌⊎◌, ℕ, Bool, List, [], ◌∷◌, ◌++◌, inl, inr, refl, sym, ap, ◌∙◌, subst}
use Rattle.std.specs.Prelude.{Option, Some, None}
use Rattle.dio_core.specs.Links.{Both}
use Rattle.txn_grammar.specs.Characters.{Text}
use Rattle.docc_prepare.specs.Calls.{Known, Call, Answer}
use Rattle.docc_prepare.specs.Backends.{Goes}
use Rattle.call_programs.specs.Programs.{Program, Leads, Succeeds}
use Rattle.session_core.specs.declared.session.Session.{Session}
use Rattle.session_core.specs.declared.turn.Turn.{Turn}
use Rattle.diamond_server.specs.Talking.{Told, Answers, LineIsAnswered, Does, Talks, HasBegun, Begins, MayBegin}
use Rattle.remote_wire.specs.declared.request.Request.{Request}
use Rattle.remote_wire.specs.declared.request.Request.TheVariants as request
use Rattle.remote_wire.specs.declared.answer.WireAnswer.{WireAnswer}
use Rattle.remote_calls.specs.Spelled.{request_for}
use Rattle.remote_client.specs.Standing.{Standing, standing, stood_for, HasStepped, AskedInVain, Steps}
use Rattle.remote_client.specs.Opening as opening
use Rattle.remote_link.specs.Exchanging.{Exchanges}
use Rattle.remote_link.specs.Ends.{LinkEnd, new_end, by_link, does_over}
use Rattle.remote_link.specs.Talks.{Talk, HasTalked, HasTalkedShort}
use Rattle.remote_link.proofs.Parts.{failed-part}
use Rattle.remote_link.proofs.Talked.{talks-go_on}
use Rattle.remote_command.specs.Linked.{knows, nowhere}

module _ {K : Type 0} (side : K → Both) where
  -- what the code calls goes by
  abbrev pub Stepping : Standing (LinkEnd K) → Call → Answer → Standing (LinkEnd K) → Type 0
  Stepping = Steps (by_link side) (does_over side)

  -- the relation of a remote client's calls over this link
  abbrev pub ByLink : Standing (LinkEnd K) → Call → Answer → Standing (LinkEnd K) → Type 0
  ByLink = Goes (stood_for knows) Stepping

  -- a call that hasn't failed is a step of the caller
  stepped : (r : Standing (LinkEnd K)) (c : Call) (a : Answer) (s : Standing (LinkEnd K)) → Succeeds a → Stepping r c a s
      → HasStepped (by_link side) r c a s
  stepped r c (Answer.failed by_fault) s ok step = absurd ok
  stepped r c (Answer.number n) s ok step = step
  stepped r c (Answer.snap x) s ok step = step
  stepped r c (Answer.prepared x) s ok step = step
  stepped r c (Answer.value x) s ok step = step
  stepped r c (Answer.feed x) s ok step = step
  stepped r c Answer.done s ok step = step
  stepped r c (Answer.late n horizon) s ok step = step
  stepped r c (Answer.clash w) s ok step = step
  stepped r c (Answer.held client at) s ok step = step
  stepped r c (Answer.full limit) s ok step = step
  stepped r c Answer.disk s ok step = step

  -- what is kept along the talk: `first` is the greeting with its answer, and `old` the link as it was
  module _ (first : Request × WireAnswer) (old : Both) where
    -- the greeting went over the link, and then requests did, each with its answer
    pub record Went (r : Standing (LinkEnd K)) : Type 0 where
      pub talk : Talk
      pub talked : HasTalked (first ∷ talk) old (side r.caller.link)

    -- and then of one request more a part did, at most
    pub record WentShort (e : LinkEnd K) : Type 0 where
      pub talk : Talk
      pub next : Option Request
      pub talked : HasTalkedShort (first ∷ talk) next old (side e.link)

    -- ---- lines that are answered

    -- the request of a call went over the link, and was answered
    behind-call : (r s : Standing (LinkEnd K)) (c : Call) (a : Answer) → Succeeds a → ByLink r c a s → Went r → Went s
    behind-call r s c a ok goes went =
        let h = stepped r c a s ok goes.step in
        let from : r.caller.link ≡ r.stood.link = ap (λ (x : Standing (LinkEnd K)). x.caller.link) h.before in
        let to : s.caller.link ≡ s.stood.link = ap (λ (x : Standing (LinkEnd K)). x.caller.link) h.behind in
        record {
          talk = went.talk ++ (request_for c, h.step.said) ∷ [];
          talked = talks-go_on.more (first ∷ went.talk) (request_for c) h.step.said old (side r.caller.link) (side s.caller.link) went.talked
              (subst (λ k. Exchanges (request_for c) h.step.said (side k) (side s.caller.link)) (sym from)
              (subst (λ k. Exchanges (request_for c) h.step.said (side r.stood.link) (side k)) (sym to) h.step.exchanged));
        }

    -- call by call
    behind-calls : {A : Type 0} {p q : Program A} {r s : Standing (LinkEnd K)} → Leads ByLink r p s q → Went r → Went s
    behind-calls Leads.stays went = went
    behind-calls (Leads.by_call {s} {m} {t} {call} answer step ok rest) went = behind-calls rest (behind-call s m call answer ok step went)

    -- a line, which may wait
    behind-answer : (b : Standing (LinkEnd K)) (s : Session) (text : Text) (said : Turn) (d : Standing (LinkEnd K)) (t : Session)
        → Answers (stood_for knows) Stepping b s text said d t → Went b → Went d
    behind-answer b s text said d t (Answers.at_once not_waiting leads) went = behind-calls leads went
    behind-answer b s text said d t (Answers.woken there woke u leads waits rest) went =
        behind-calls rest (behind-call there woke Call.wait Answer.done tt waits (behind-calls leads went))

    -- what is told of a line
    behind-line : (b : Standing (LinkEnd K)) (s : Session) (told : Told) (d : Standing (LinkEnd K)) (o : Option Session)
        → Does (stood_for knows) Stepping b s told d o → Went b → Went d
    behind-line b s Told.long d o does went = subst Went (sym does.0) went
    behind-line b s (Told.answered text said) d o does went = behind-answer b s text said d does.after does.answers went

    -- line by line
    pub behind-talk : {b : Standing (LinkEnd K)} {s : Session} {tolds : List Told} {d : Standing (LinkEnd K)} {o : Option Session}
        → Talks (stood_for knows) Stepping b s tolds d o → Went b → Went d
    behind-talk Talks.silent went = went
    behind-talk (Talks.says {before} {tolds} {mid} {new} {t} {o} told talks does e) went =
        behind-line mid t told new o does (behind-talk talks went)

    -- ---- a line that is begun

    -- nothing more went over the link
    no-more : (r : Standing (LinkEnd K)) → Went r → WentShort r.caller
    no-more r went = record {
      talk = went.talk;
      next = None;
      talked = record { there = side r.caller.link; talked = went.talked; behind = refl };
    }

    -- of the request of a call that fails a part did
    behind-failed : (r s : Standing (LinkEnd K)) (c : Call) (by_fault : Bool) → ByLink r c (Answer.failed by_fault) s → Went r → WentShort s.caller
    behind-failed r s c by_fault goes went = by goes.step.asked
      where
        by : (s.caller ≡ r.caller) ⊎ AskedInVain (does_over side) r.caller c by_fault s.caller → WentShort s.caller
        by (inl same) = subst WentShort (sym same) (no-more r went)
        by (inr vain) = record {
          talk = went.talk;
          next = Some (request_for c);
          talked = record {
            there = side r.caller.link;
            talked = went.talked;
            behind = failed-part side (request_for c) vain.error r.caller s.caller vain.asked;
          };
        }

    -- some first calls of a program
    behind-first : {A : Type 0} {p : Program A} {r s : Standing (LinkEnd K)} → HasBegun ByLink r p s → Went r → WentShort s.caller
    behind-first (HasBegun.no_more {s}) went = no-more s went
    behind-first (HasBegun.last_failed {s} {t} {call} by_fault step) went = behind-failed s t call by_fault step went
    behind-first (HasBegun.then_more {s} {m} {t} {call} answer step ok rest) went = behind-first rest (behind-call s m call answer ok step went)

    -- a line, which may wait
    behind-begun : (b : Standing (LinkEnd K)) (s : Session) (text : Text) (d : Standing (LinkEnd K)) → Begins (stood_for knows) Stepping b s text d
        → Went b → WentShort d.caller
    behind-begun b s text d (Begins.at_once begun) went = behind-first begun went
    behind-begun b s text d (Begins.unwoken there u by_fault leads waits) went =
        behind-failed there d Call.wait by_fault waits (behind-calls leads went)
    behind-begun b s text d (Begins.woken there woke u leads waits begun) went =
        behind-first begun (behind-call there woke Call.wait Answer.done tt waits (behind-calls leads went))

    -- if one was
    pub behind-last : (b : Standing (LinkEnd K)) (o : Option Session) (begun : Option Text) (d : Standing (LinkEnd K))
        → MayBegin (stood_for knows) Stepping b o begun d → Went b → WentShort d.caller
    behind-last b o None d none went = subst (λ (r : Standing (LinkEnd K)). WentShort r.caller) (sym none) (no-more b went)
    behind-last b None (Some text) d begun went = absurd begun
    behind-last b (Some s) (Some text) d begun went = behind-begun b s text d begun.1 went

  -- ---- the greeting

  -- it went over the link, and was answered
  pub behind-greeting : (link : K) (opened : Standing (LinkEnd K)) (begins : opening.Begins knows nowhere (does_over side) (new_end link) opened)
      → Went (request.Hello, begins.answer) (side link) opened
  behind-greeting link opened begins =
      let to : opened.caller.link ≡ opened.stood.link = ap (λ (x : Standing (LinkEnd K)). x.caller.link) begins.well in
      record {
        talk = [];
        talked = talks-go_on.more [] request.Hello begins.answer (side link) (side link) (side opened.caller.link) (talks-go_on.none (side link))
            (subst (λ k. Exchanges request.Hello begins.answer (side link) (side k)) (sym to) begins.greeted.exchanged);
      }
