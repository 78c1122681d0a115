-- What a session over a link promises, from what it does over the link's caller.
use Rattle.std.proofs.Common.{◌≡◌, ◌==◌, ℕ, Bool, true, false, cond, List, [], ◌∷◌, inl, inr, refl, sym, ap, ◌∙◌, subst}
use Rattle.std.specs.Prelude.{IsTrue}
use Rattle.std.specs.List.{list_any}
use Rattle.std.specs.Bool.{OnTrue}
use Rattle.std.proofs.lemmas.Bool.{eqb-true, OnTrue_at}
use Rattle.dio_core.specs.Counts.{Rose, IsCounted}
use Rattle.dio_core.specs.Links.{Both, Outgoing}
use Rattle.txn_grammar.specs.Characters.{Text}
use Rattle.docc_prepare.specs.Calls.{Known}
use Rattle.script_runner.specs.declared.status.TheConstants.{WHOLE, READ_FAULT, WRITE_FAULT, NO_MEMORY, TOO_MANY_LINES}
use Rattle.diamond_server.specs.declared.status.TheConstants.{STORE_FAULT}
use Rattle.diamond_server.specs.Talking.{Told}
use Rattle.diamond_server.specs.Promises.{Promises}
use Rattle.remote_link.specs.Exchanging.{HasFailed}
use Rattle.remote_wire.specs.declared.request.Request.{Request}
use Rattle.remote_wire.specs.declared.request.Request.TheVariants as request
use Rattle.remote_wire.specs.declared.answer.WireAnswer.{WireAnswer}
use Rattle.remote_link.specs.Ends.{LinkEnd, new_end, by_link, does_over}
use Rattle.remote_link.specs.Talks.{HasTalked, HasTalkedShort}
use Rattle.remote_link.proofs.Parts.{failed-part}
use Rattle.remote_command.specs.declared.remote.TheConstants.{LINK_FAULT, BROKEN_LINK}
use Rattle.remote_command.specs.Running.{IsHeld, IsCutOver, KeepsOver}
use Rattle.remote_command.specs.Linked.{knows, nowhere, IsHeldOver, IsCutShortOver, plain, KeepsPromises, HasRisen, status_over}
use Rattle.remote_command.proofs.Over.{behind-talk, behind-last, behind-greeting}

-- what is promised by facts of what was held and what was cut short is so by others that follow from them
held-as : (Held As : (List Told → Text → Text → Type 0) → Type 0) (Cut CutAs : (List Told → Outgoing → Outgoing → Type 0) → Type 0) (k l : Known)
    (status : ℕ) (x y : Both) → ((Reads : List Told → Text → Text → Type 0) → Held Reads → As Reads)
    → ((Takes : List Told → Outgoing → Outgoing → Type 0) → Cut Takes → CutAs Takes) → Promises Held Cut k l status x y
    → Promises As CutAs k l status x y
held-as Held As Cut CutAs k l status x y f g p = record {
  statuses = p.statuses;
  whole = λ is. f _ (p.whole is);
  broken_off = λ is. f _ (p.broken_off is);
  too_many = λ is. f _ (p.too_many is);
  cut_off = λ is. g _ (p.cut_off is);
  stalled = λ is. g _ (p.stalled is);
  failed = λ is. g _ (p.failed is);
  reads = p.reads;
  writes = p.writes;
  store_failed = p.store_failed;
  completes = p.completes;
}

-- where a store has failed, memory may be wanting for all that is promised then
wanting : (Held : (List Told → Text → Text → Type 0) → Type 0) (Cut : (List Told → Outgoing → Outgoing → Type 0) → Type 0) (k l : Known)
    (x y : Both) → Promises Held Cut k l STORE_FAULT x y → Promises Held Cut k l NO_MEMORY x y
wanting Held Cut k l x y p = record {
  statuses = refl;
  whole = λ is. absurd (cc is);
  broken_off = λ is. absurd (cc is);
  too_many = λ is. absurd (cc is);
  cut_off = λ is. absurd (cc is);
  stalled = λ is. p.failed refl;
  failed = λ is. absurd (cc is);
  reads = p.reads;
  writes = p.writes;
  store_failed = λ is. absurd (cc is);
  completes = λ all left few reads writes faults. inr refl;
}

-- a session over a caller has none of the statuses of links
none-broken : (Held : (List Told → Text → Text → Type 0) → Type 0) (Cut : (List Told → Outgoing → Outgoing → Type 0) → Type 0) (k l : Known)
    (status : ℕ) (x y : Both) → Promises Held Cut k l status x y → (status == BROKEN_LINK) ≡ false
none-broken Held Cut k l status x y p = by (status == BROKEN_LINK) refl
  where
    by : (b : Bool) → (status == BROKEN_LINK) ≡ b → b ≡ false
    by false e = refl
    by true e =
        let is : status ≡ BROKEN_LINK = eqb-true status BROKEN_LINK e in
        let no : false ≡ true = subst
        (λ (n : ℕ). IsTrue (list_any (λ s. s == n) (WHOLE ∷ READ_FAULT ∷ WRITE_FAULT ∷ NO_MEMORY ∷ STORE_FAULT ∷ TOO_MANY_LINES ∷ []))) is p.statuses in
        absurd (cc no)

module _ {K : Type 0} (side : K → Both) (link : K) (ended : LinkEnd K) (x y : Both) where
  -- what a session over the link promises, at the status of the session in between
  abbrev pub Over : ℕ → Type 0
  Over status =
      Promises (IsHeldOver side link ended x y) (IsCutShortOver side link ended x y) (knows (new_end link)) (knows ended) status x y

  -- what a session over the link's caller promises
  abbrev pub Within : ℕ → Type 0
  Within status = KeepsOver knows nowhere (by_link side) (does_over side) (new_end link) ended status x y

  -- a session that was held over the caller was held over the link
  held-over : (Reads : List Told → Text → Text → Type 0) → IsHeld knows nowhere (by_link side) (does_over side) (new_end link) ended x y Reads
      → IsHeldOver side link ended x y Reads
  held-over Reads held =
      let first : Request × WireAnswer = (request.Hello, held.begins.answer) in
      let went = behind-talk side first (side link) held.served.talks (behind-greeting side link held.opened held.begins) in
      record {
        held = held;
        talk = went.talk;
        talked = subst (λ (e : LinkEnd K). HasTalked (first ∷ went.talk) (side link) (side e.link)) (sym held.back_is) went.talked;
      }

  -- so was one that was cut short
  short-over : (Takes : List Told → Outgoing → Outgoing → Type 0)
      → IsCutOver knows nowhere (by_link side) (does_over side) (new_end link) ended x y Takes → IsCutShortOver side link ended x y Takes
  short-over Takes (inl short) =
      let first : Request × WireAnswer = (request.Hello, short.begins.answer) in
      let cut = short.cut in
      let before = behind-talk side first (side link) cut.talks (behind-greeting side link short.opened short.begins) in
      let went = behind-last side first (side link) cut.there cut.session cut.begun short.ended cut.behind before in
      inl (record {
        held = short;
        talk = went.talk;
        next = went.next;
        talked = subst (λ (e : LinkEnd K). HasTalkedShort (first ∷ went.talk) went.next (side link) (side e.link)) (sym short.back_is) went.talked;
      })
  short-over Takes (inr failed) =
      inr (record { ungreeted = failed; part = failed-part side request.Hello failed.error (new_end link) ended failed.failed })

  -- so are its promises
  over : (status : ℕ) → Within status → Over status
  over status p =
      held-as (IsHeld knows nowhere (by_link side) (does_over side) (new_end link) ended x y) (IsHeldOver side link ended x y)
      (IsCutOver knows nowhere (by_link side) (does_over side) (new_end link) ended x y) (IsCutShortOver side link ended x y) (knows (new_end link))
      (knows ended) status x y held-over short-over p

  -- by whether the link is broken, and whether it has failed, where the session's calls failed by a fault
  faulted : (broken failed : Bool) → ended.broken ≡ broken → (failed ≡ true → HasFailed (side link) (side ended.link)) → Over STORE_FAULT
      → KeepsPromises side link ended.link (cond broken BROKEN_LINK (cond failed LINK_FAULT NO_MEMORY)) x y
  faulted true failed is rose p = record {
    ended = ended;
    given_back = refl;
    session = p;
    failed = λ no. absurd (cc no);
    broken = λ here. is;
  }
  faulted false true is rose p = record {
    ended = ended;
    given_back = refl;
    session = p;
    failed = λ here. rose refl;
    broken = λ no. absurd (cc no);
  }
  faulted false false is rose p = record {
    ended = ended;
    given_back = refl;
    session = wanting (IsHeldOver side link ended x y) (IsCutShortOver side link ended x y) (knows (new_end link)) (knows ended) x y p;
    failed = λ no. absurd (cc no);
    broken = λ no. absurd (cc no);
  }

  -- at any other status it is as the session has it
  unfaulted : (status : ℕ) → (status == STORE_FAULT) ≡ false → (status == BROKEN_LINK) ≡ false → Over status
      → KeepsPromises side link ended.link status x y
  unfaulted status plain_one unbroken p = record {
    ended = ended;
    given_back = refl;
    session = subst Over (sym (ap (λ b. cond b STORE_FAULT status) unbroken)) p;
    failed = λ is. let no : true ≡ false = sym (ap (λ n. n == STORE_FAULT) is) ∙ plain_one in absurd (cc no);
    broken = λ is. let no : true ≡ false = sym (ap (λ n. n == BROKEN_LINK) is) ∙ unbroken in absurd (cc no);
  }

  -- the status over the link
  pub keeps-promises : (status : ℕ) (failed : Bool) → Within status
      → (failed ≡ true → HasFailed (side link) (side ended.link))
      → KeepsPromises side link ended.link (status_over status ended.broken failed) x y
  keeps-promises status failed p rose = by (status == STORE_FAULT) refl
    where
      by : (b : Bool) → (status == STORE_FAULT) ≡ b
          → KeepsPromises side link ended.link (cond b (cond ended.broken BROKEN_LINK (cond failed LINK_FAULT NO_MEMORY)) status) x y
      by true e = faulted ended.broken failed refl rose (subst Over (eqb-true status STORE_FAULT e) (over status p))
      by false e = unfaulted status e (none-broken _ _ _ _ status x y p) (over status p)

  -- so it is of what the code has found
  pub run-over : (first : LinkEnd K) (back : K) (own status : ℕ) (broken failed : Bool) (reads writes : ℕ) → first ≡ new_end link → back ≡ ended.link
      → broken ≡ ended.broken → status ≡ status_over own broken failed → reads ≡ (side link).inwards.faults → writes ≡ (side link).outwards.faults
      → OnTrue failed (HasRisen reads writes (side back).inwards.faults (side back).outwards.faults)
      → KeepsOver knows nowhere (by_link side) (does_over side) first ended own x y → KeepsPromises side link back status x y
  run-over first back own status broken failed reads writes begins given is_broken is_status is_reads is_writes rose p =
      subst (λ (k : K). KeepsPromises side link k status x y) (sym given)
      (subst (λ (n : ℕ). KeepsPromises side link ended.link n x y) (sym (is_status ∙ ap (λ b. status_over own b failed) is_broken))
      (keeps-promises own failed (subst (λ (e : LinkEnd K). KeepsOver knows nowhere (by_link side) (does_over side) e ended own x y) begins p)
      (λ is. subst (λ (k : K). HasFailed (side link) (side k)) given
      (subst (λ (n : ℕ). HasRisen (side link).inwards.faults n (side back).inwards.faults (side back).outwards.faults) is_writes
      (subst (λ (n : ℕ). HasRisen n writes (side back).inwards.faults (side back).outwards.faults) is_reads (OnTrue_at is rose))))))
