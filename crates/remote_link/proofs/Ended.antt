-- What a call over a link leaves of its end.
use Rattle.std.proofs.Common.{◌≡◌, ℕ, ◌≤◌, true, false, ap, sym, ◌∙◌, subst, inl, inr, arith, true≢false}
use Rattle.std.specs.Prelude.{Result, Ok, Err}
use Rattle.dio_core.specs.Counts.{Rose}
use Rattle.dio_core.specs.Links.{Both}
use Rattle.dio_core.proofs.Counts.{Rose-one_more}
use Rattle.docc_prepare.specs.declared.backend.StoreError.{StoreError}
use Rattle.docc_prepare.specs.declared.backend.StoreError.TheVariants as store_error
use Rattle.docc_prepare.specs.Backends.{IsAnswered as KeepsClause}
use Rattle.remote_wire.specs.declared.request.Request.{Request}
use Rattle.remote_wire.specs.declared.request.Request.TheVariants as request
use Rattle.remote_wire.specs.declared.answer.Given.{Given}
use Rattle.remote_wire.specs.declared.answer.Given.TheVariants as given
use Rattle.remote_wire.specs.declared.answer.WireAnswer.{WireAnswer}
use Rattle.remote_wire.specs.Answers.{IsAnswerTo}
use Rattle.remote_calls.specs.Spelled.{request_for, answered_by}
use Rattle.remote_calls.specs.Calling.{Answers, Replies, Greets, IsReplied}
use Rattle.remote_link.specs.Exchanging.{IsSound, TakesPart, Exchanges}
use Rattle.remote_link.specs.Linking.{Linked, known_at, linked_behind, IsNoLess}
use Rattle.remote_link.specs.Kept.{Kept, linked_of, one_fault_more}
use Rattle.remote_link.specs.Ends.{LinkEnd, stands, by_link, IsAnswered, Asks, KeepsAnswer, hands}
use Rattle.remote_link.specs.Table.{IsAnswer}
use Rattle.remote_link.proofs.Rows.{in_table}
use Rattle.remote_link.proofs.Linked.{links_answer}
use Rattle.remote_link.proofs.Parts.{all_taken}

-- what goes back behind nothing that was answered goes back behind nothing that is seen
less_yet : (asked : Request) (seen last now : ℕ) → seen ≤ last → IsNoLess asked last now → IsNoLess asked seen now
less_yet request.Wait seen last now up later = omega arith
less_yet asked seen last now up later = omega arith

-- ---- what is owed for a request

-- an answer that is kept answers each call that is spelled so
end_answers : {K : Type 0} (side : K → Both) (asked : Request) (said : WireAnswer) (old new : LinkEnd K) → old.kept.seen ≤ old.last
    → IsAnswered side asked said old new → Answers (λ (c : LinkEnd K). stands c.kept) (by_link side) old asked said new
end_answers side asked said old new up is = record {
  fits = is.exchanged.answers;
  steps = λ c can spelled. record {
    step = record {
      said = said;
      says = ap (λ (r : Request). answered_by r said.seen said.given) spelled;
      exchanged = subst (λ (r : Request). Exchanges r said (side old.link) (side new.link)) (sym spelled) is.exchanged;
    };
    answered = subst (λ (r : Request). KeepsClause (stands old.kept) c (answered_by r said.seen said.given) (stands new.kept)) spelled
        (subst (λ (u : Linked). KeepsClause (stands old.kept) c (answered_by (request_for c) said.seen said.given) (known_at u))
        (sym (is.kept ∙ ap (λ (r : Request). linked_behind (linked_of old.kept) r said) (sym spelled)))
        (links_answer (linked_of old.kept) c said (subst (λ (r : Request). IsAnswerTo r said) (sym spelled) is.exchanged.answers)
        (subst (λ (r : Request). IsNoLess r old.kept.seen said.seen) (sym spelled)
        (less_yet asked old.kept.seen old.last said.seen up is.later))));
  };
  seen = ap (λ (u : Linked). u.seen) is.kept;
  whole = tt;
}

-- a greeting says who the client is
greets : (old new : Kept) (seen : ℕ) (g : Given) → IsAnswer request.Hello seen g
    → linked_of new ≡ linked_behind (linked_of old) request.Hello (record { seen = seen; given = g }) → Greets (stands old) seen g (stands new)
greets old new seen (given.Hello client shards) is kept = (ap known_at kept, tt, tt)
greets old new seen g is kept = absurd is

end_replies : {K : Type 0} (side : K → Both) (asked : Request) (said : WireAnswer) (old new : LinkEnd K) → old.kept.seen ≤ old.last
    → IsAnswered side asked said old new → Replies (λ (c : LinkEnd K). stands c.kept) (by_link side) old asked said new
end_replies side request.Hello said old new up is =
    (is.exchanged.answers, greets old.kept new.kept said.seen said.given (in_table request.Hello said is.exchanged.answers) is.kept)
end_replies side asked said old new up is = end_answers side asked said old new up is

-- one fault more has risen
rose : (old new : Kept) → new ≡ one_fault_more old → Rose old.faults new.faults
rose old new is = subst (Rose old.faults) (sym (ap (λ (k : Kept). k.faults) is)) (Rose-one_more old.faults)

-- What a call over a link does is what is owed for its request.
pub asked_replied : {K : Type 0} (side : K → Both) (asked : Request) (result : Result WireAnswer StoreError) (old new : LinkEnd K)
    → old.kept.seen ≤ old.last → Asks side asked result old new
    → IsReplied (λ (c : LinkEnd K). stands c.kept) (by_link side) old asked result new
asked_replied side asked (Ok said) old new up is = end_replies side asked said old new up is
asked_replied side asked (Err store_error.Fault) old new up (inl stays) = rose old.kept new.kept (ap (λ (e : LinkEnd _). e.kept) stays.same)
asked_replied side asked (Err store_error.Fault) old new up (inr (inl fails)) = rose old.kept new.kept (ap (λ (e : LinkEnd _). e.kept) fails.same)
asked_replied side asked (Err store_error.Fault) old new up (inr (inr breaks)) = rose old.kept new.kept (ap (λ (e : LinkEnd _). e.kept) breaks.same)
asked_replied side asked (Err store_error.NoMemory) old new up is = ap (λ (k : Kept). k.faults) is.kept

-- ---- how a call goes

-- an answer came
asks_answer : {A K : Type 0} (side : K → Both) (asked : Request) (said : WireAnswer) (link : K) (kept : Result A StoreError)
    (old new : LinkEnd K) → old.broken ≡ false → old.lost ≡ false → Exchanges asked said (side old.link) (side link)
    → KeepsAnswer asked said (record old { link = link }) new kept → Asks side asked (hands said kept) old new
asks_answer {A} {K} side asked said link (Ok u) old new unbroken found exchanged keeps = record {
  exchanged = subst (λ (k : K). Exchanges asked said (side old.link) (side k)) (sym (ap (λ (e : LinkEnd K). e.link) keeps.2)) exchanged;
  later = keeps.0;
  kept = keeps.1;
  last = ap (λ (e : LinkEnd K). e.last) keeps.2;
  unbroken = (unbroken, ap (λ (e : LinkEnd K). e.broken) keeps.2 ∙ unbroken);
  found = (found, ap (λ (e : LinkEnd K). e.lost) keeps.2 ∙ found);
}
asks_answer {A} {K} side asked said link (Err store_error.Fault) old new unbroken found exchanged keeps =
    let same : new.link ≡ link = ap (λ (e : LinkEnd K). e.link) keeps.1 in inr (inr (record {
      why = inr (record {
        said = said;
        exchanged = subst (λ (k : K). Exchanges asked said (side old.link) (side k)) (sym same) exchanged;
        back = keeps.0;
      });
      broken = (unbroken, ap (λ (e : LinkEnd K). e.broken) keeps.1);
      same = keeps.1 ∙ ap (λ (k : K). record old { link = k; kept = one_fault_more old.kept; lost = true; broken = true }) (sym same);
    }))
asks_answer {A} {K} side asked said link (Err store_error.NoMemory) old new unbroken found exchanged keeps = record {
  sound = subst (λ (k : K). IsSound (side old.link) (side k)) (sym (ap (λ (e : LinkEnd K). e.link) keeps.2)) exchanged.sound;
  part = subst (λ (k : K). TakesPart asked (side old.link) (side k)) (sym (ap (λ (e : LinkEnd K). e.link) keeps.2))
      (all_taken _ _ _ exchanged.took.taken);
  unbroken = (unbroken, ap (λ (e : LinkEnd K). e.broken) keeps.2 ∙ unbroken);
  lost = ap (λ (e : LinkEnd K). e.lost) keeps.2;
  kept = ap (λ (e : LinkEnd K). e.kept) keeps.2;
  stays = λ lost. absurd (true≢false (sym lost ∙ found));
  why = inr (record {
    said = said;
    exchanged = subst (λ (k : K). Exchanges asked said (side old.link) (side k)) (sym (ap (λ (e : LinkEnd K). e.link) keeps.2)) exchanged;
    later = keeps.0;
    keeps = keeps.1;
  });
}

-- so it is handed on
pub asks_handed : {A K : Type 0} (side : K → Both) (asked : Request) (said : WireAnswer) (link : K) (kept : Result A StoreError)
    (result : Result WireAnswer StoreError) (old new : LinkEnd K) → old.broken ≡ false → old.lost ≡ false
    → Exchanges asked said (side old.link) (side link) → KeepsAnswer asked said (record old { link = link }) new kept
    → result ≡ hands said kept → Asks side asked result old new
asks_handed side asked said link kept result old new unbroken found exchanged keeps is =
    subst (λ r. Asks side asked r old new) (sym is) (asks_answer side asked said link kept old new unbroken found exchanged keeps)
