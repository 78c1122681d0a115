-- What requests do to a remote client.
use Rattle.std.proofs.Common.{◌≡◌, ℕ, Bool, true, false, Option, Some, None, Result, Ok, Err, IfOk, inl, inr, refl, sym, ap, ◌∙◌, subst}
use Rattle.std.specs.Prelude.{IfSome}
use Rattle.std.proofs.Math.Nat.{le_refl}
use Rattle.std.proofs.Math.Seq.{take-length}
use Rattle.std.specs.declared.alloc.AllocError.{AllocError}
use Rattle.dio_core.specs.Counts.{IsCounted}
use Rattle.dio_core.specs.Told.{WhereTold}
use Rattle.txn_lang.specs.States.{Journal}
use Rattle.docc_prepare.specs.declared.backend.StoreError.{StoreError}
use Rattle.docc_prepare.specs.declared.backend.StoreError.TheVariants as store_error
use Rattle.docc_prepare.specs.Calls.{Known, Call, Answer, store_failed}
use Rattle.docc_prepare.specs.Readable.{IsReadOn, StaysReadable}
use Rattle.docc_prepare.specs.Backends.{CanCall, SaysOfJournal, KeepsGiven, Keeps, OwnRow, subscribed_after, taken_after, denied_after}
use Rattle.docc_prepare.specs.Backends.{Gives, KnowsDenials, IsAnswered, Goes}
use Rattle.rdt_types.specs.declared.address.Address.{Address}
use Rattle.call_programs.specs.Programs.{Succeeds}
use Rattle.remote_wire.specs.declared.request.Request.{Request}
use Rattle.remote_wire.specs.declared.request.Request.TheVariants as request
use Rattle.remote_wire.specs.declared.answer.Given.{Given}
use Rattle.remote_wire.specs.declared.answer.Given.TheVariants as given
use Rattle.remote_wire.specs.declared.answer.WireAnswer.{WireAnswer}
use Rattle.remote_wire.specs.Answers.{IsAnswerTo}
use Rattle.remote_calls.specs.Spelled.{request_for, answered_by, seen_behind}
use Rattle.remote_calls.specs.Calling.{IsWhole, Doing, Spells, is_fault_error, Answers, Greets, Replies}
use Rattle.remote_client.proofs.Answered.{greets-none, answer-succeeds}
use Rattle.remote_client.specs.Standing.{Standing, standing, IsStanding, stood_for, AskedInVain, HasFailed, Steps}
use Rattle.remote_client.specs.Asking.{outcome_of, done_outcome, done_given, Asks}
use Rattle.remote_client.specs.Opening.{Begins}

-- ---- requests that spell calls

-- a request that was made for a call spells it
pub spells-of : (k : Known) (c : Call) → CanCall k c → (asked : Result Request AllocError) → IfOk asked (λ q. q ≡ request_for c)
    → IfOk asked (Spells k)
spells-of k c can (Ok q) is = record { call = c; can = can; spelled = sym is }
spells-of k c can (Err e) is = tt

-- and is answered as calls are
answers-of : {C : Type 0} (known : C → Known) (goes : C → Call → Answer → C → Type 0) (k : Known) (x y : C) (asked : Request) (answer : WireAnswer)
    → Spells k asked → Replies known goes x asked answer y → Answers known goes x asked answer y
answers-of known goes k x y request.Hello answer spells h = absurd (greets-none spells.call spells.spelled)
answers-of known goes k x y asked answer spells h = h

-- ---- calls that have failed

-- what is kept, is kept
given-kept : (k l : Known) → l.gave ≡ k.gave → l.fronted ≡ k.fronted → KeepsGiven k l
given-kept k l gave fronted = record {
  bases = λ address base h. ap (λ f. f address base) gave ∙ h;
  fronts = λ shard based front h. ap (λ f. f shard based front) fronted ∙ h;
}

module _ (k : Known) (n : ℕ) (by_fault : Bool) where
  -- what is known, with so many faults
  abbrev counting : Known
  counting = record k { faults = n }

  failed-subscribed : (c : Call) (address : Address) → k.subscribed address ≡ subscribed_after k c (Answer.failed by_fault) address
  failed-subscribed (Call.subscribe x) address = refl
  failed-subscribed (Call.unsubscribe x) address = refl
  failed-subscribed c address = refl

  failed-taken : (c : Call) → k.taken ≡ taken_after k c (Answer.failed by_fault)
  failed-taken Call.take = refl
  failed-taken c = refl

  failed-denied : (c : Call) → k.denied ≡ denied_after k c (Answer.failed by_fault)
  failed-denied (Call.append ready) = refl
  failed-denied c = refl

  failed-denials : (c : Call) → KnowsDenials k counting c (Answer.failed by_fault)
  failed-denials (Call.append ready) = le_refl _
  failed-denials c = le_refl _

  failed-keeps : (c : Call) → Keeps c k counting
  failed-keeps (Call.append ready) = tt
  failed-keeps c = given-kept k counting refl refl

  failed-gives : (c : Call) → Gives c (Answer.failed by_fault) counting
  failed-gives (Call.read address) = tt
  failed-gives (Call.prepare shard based) = tt
  failed-gives c = tt

  failed-own : (c : Call) (journal : Journal) → OwnRow k.client journal journal c (Answer.failed by_fault)
  failed-own (Call.append ready) journal = refl
  failed-own c journal = refl

  failed-told : (c : Call) (o : Option Journal) → IfSome o (IsWhole k) → WhereTold (SaysOfJournal k counting c (Answer.failed by_fault)) o o
  failed-told c None whole = tt
  failed-told c (Some journal) whole = record {
    grows = take-length journal;
    legal = whole.legal;
    within = whole.readable.within;
    row = tt;
    same_own = failed-own c journal;
  }

  -- whatever call has failed, what is known is as it was, but for the count of faults
  pub failed-answered : (c : Call) → IfSome k.journal (IsWhole k) → IsCounted by_fault k.faults n → IsAnswered k c (Answer.failed by_fault) counting
  failed-answered c whole counted = record {
    client = record { client = refl; trusted = refl; shards = refl; window = refl; limit = refl };
    goes_on = record {
      seen = le_refl _;
      draws = le_refl _;
      looks = le_refl _;
      faults = counted;
      subscribed = failed-subscribed c;
      taken = failed-taken c;
      denied = failed-denied c;
      denials = failed-denials c;
    };
    keeps = failed-keeps c;
    gives = failed-gives c;
    shows = tt;
    told = failed-told c k.journal whole;
  }

-- ---- calls of a remote client

-- what answers that is no failure has stepped
steps-of : {C : Type 0} (goes : C → Call → Answer → C → Type 0) (does : Doing C) (x y : C) (c : Call) (a : Answer) → Succeeds a → goes x c a y
    → Steps goes does (standing x) c a (standing y)
steps-of goes does x y c (Answer.failed by_fault) ok step = absurd ok
steps-of goes does x y c a ok step = record { before = refl; step = step; behind = refl }

module _ {C : Type 0} (known : C → Known) (goes : C → Call → Answer → C → Type 0) (does : Doing C) where
  -- a step of the caller is one of the client over it
  over : (x y : C) (c : Call) (a : Answer) → Succeeds a → Goes known goes x c a y → Goes (stood_for known) (Steps goes does) (standing x) c a (standing y)
  over x y c a ok h = record { step = steps-of goes does x y c a ok h.step; answered = h.answered }

  answered-calls : (k : Known) (x y : C) (asked : Request) (answer : WireAnswer) → Spells k asked → Replies known goes x asked answer y
      → (c : Call) → CanCall (known x) c → asked ≡ request_for c
      → Goes (stood_for known) (Steps goes does) (standing x) c (outcome_of (request_for c) (Ok answer)) (standing y)
  answered-calls k x y asked answer spells h c can same =
      let answers = answers-of known goes k x y asked answer spells h in
      let fits = subst (λ (q : Request). IsAnswerTo q answer) same answers.fits in
      let step = subst (λ (q : Request). Goes known goes x c (answered_by q answer.seen answer.given) y) same (answers.steps c can (sym same)) in
      over x y c (answered_by (request_for c) answer.seen answer.given) (answer-succeeds (request_for c) answer (greets-none c) fits) step

  -- the client as its fields say
  abbrev at : C → C → Bool → Standing C
  at x p is_lost = record { caller = x; stood = p; lost = is_lost }

  -- where its caller was as it had last answered, and has answered again
  asked-well : (x y : C) (q : Request) (answer : WireAnswer) → Spells (known x) q → Replies known goes x q answer y
      → (asked : Result Request AllocError) → asked ≡ Ok q → Asks known goes does (at x x false) asked (Ok answer) (at y y false)
  asked-well x y q answer spells h asked is c can same =
      answered-calls (known x) x y q answer spells h c can (subst (λ (a : Result Request AllocError). IfOk a (λ q. q ≡ request_for c)) is same)

  -- what spells a call of such a client, spells one of its caller
  spells-at : (x p : C) (is_lost : Bool) (was : Standing C) (asked : Result Request AllocError) (q : Request) → p ≡ x → asked ≡ Ok q
      → at x p is_lost ≡ was → IfOk asked (Spells (stood_for known was)) → Spells (known x) q
  spells-at x p is_lost was asked q before is view spells =
      subst (λ (p : C). Spells (stood_for known (at x p is_lost)) q) before
      (subst (λ (w : Standing C). Spells (stood_for known w) q) (sym view)
      (subst (λ (a : Result Request AllocError). IfOk a (Spells (stood_for known was))) is spells))

  pub asked-answered : (x y p r : C) (is_lost : Bool) (was : Standing C) (asked : Result Request AllocError) (q : Request) (answer : WireAnswer)
      → p ≡ x → r ≡ y → is_lost ≡ false → asked ≡ Ok q → at x p is_lost ≡ was → IfOk asked (Spells (stood_for known was))
      → Replies known goes x q answer y → Asks known goes does (at x p is_lost) asked (Ok answer) (at y r is_lost)
  asked-answered x y p r is_lost was asked q answer before behind well is view spells h =
      subst (λ (l : Bool). Asks known goes does (at x p l) asked (Ok answer) (at y r l)) (sym well)
      (subst (λ (p : C). Asks known goes does (at x p false) asked (Ok answer) (at y r false)) (sym before)
      (subst (λ (r : C). Asks known goes does (at x x false) asked (Ok answer) (at y r false)) (sym behind)
      (asked-well x y q answer (spells-at x p is_lost was asked q before is view spells) h asked is)))

  -- what it stands for is as whole as what its caller stood for
  still-whole : (r : Standing C) → IfSome (known r.stood).journal (IsWhole (known r.stood)) → IfSome (stood_for known r).journal (IsWhole (stood_for known r))
  still-whole r = by (known r.stood).journal
    where
      by : (o : Option Journal) → IfSome o (IsWhole (known r.stood)) → IfSome o (IsWhole (stood_for known r))
      by None h = tt
      by (Some journal) h = let is = h.readable in record { legal = h.legal; readable = record { within = is.within; can = is.can; can_on = is.can_on } }

  -- so it can be read
  pub still-reads : (r : Standing C) → IfSome (known r.stood).journal (IsWhole (known r.stood)) → StaysReadable (stood_for known r)
  still-reads r whole = by (known r.stood).journal (still-whole r whole)
    where
      by : (o : Option Journal) → IfSome o (IsWhole (stood_for known r)) → IfSome o (IsReadOn (stood_for known r))
      by None h = tt
      by (Some journal) h = h.readable

  -- a request that has failed
  asked-failed : (r s : Standing C) (asked : Result Request AllocError) (e : StoreError) → IfSome (known r.stood).journal (IsWhole (known r.stood))
      → IsCounted (is_fault_error e) (known r.caller).faults (known s.caller).faults
      → ((c : Call) → IfOk asked (λ q. q ≡ request_for c) → HasFailed does r c (is_fault_error e) s) → Asks known goes does r asked (Err e) s
  asked-failed r s asked e whole counted failed c can spelled = subst (λ (a : Answer). Goes (stood_for known) (Steps goes does) r c a s) (named e)
      (record { step = failed c spelled; answered = answered })
    where
      named : (e : StoreError) → Answer.failed (is_fault_error e) ≡ store_failed e
      named store_error.Fault = refl
      named store_error.NoMemory = refl

      answered : IsAnswered (stood_for known r) c (Answer.failed (is_fault_error e)) (stood_for known s)
      answered = subst (λ (x : C). IsAnswered (stood_for known r) c (Answer.failed (is_fault_error e)) (record (known x) { faults = (known s.caller).faults }))
          (sym (failed c spelled).stood) (failed-answered (stood_for known r) (known s.caller).faults (is_fault_error e) c (still-whole r whole) counted)

  -- for which there was no memory
  pub asked-without : (x p : C) (is_lost : Bool) (asked : Result Request AllocError) → IfSome (known p).journal (IsWhole (known p))
      → Asks known goes does (at x p is_lost) asked (Err store_error.NoMemory) (at x p true)
  asked-without x p is_lost asked whole = asked-failed (at x p is_lost) (at x p true) asked store_error.NoMemory whole refl
      (λ c spelled. record { stood = refl; lost = refl; silent = λ was. (refl, ap (at x p) (sym was)); asked = inl refl })

  -- of a client that was lost before
  pub asked-lost : (x p : C) (is_lost : Bool) (asked : Result Request AllocError) → is_lost ≡ true → IfSome (known p).journal (IsWhole (known p))
      → Asks known goes does (at x p is_lost) asked (Err store_error.NoMemory) (at x p is_lost)
  asked-lost x p is_lost asked lost whole = asked-failed (at x p is_lost) (at x p is_lost) asked store_error.NoMemory whole refl
      (λ c spelled. record { stood = refl; lost = lost; silent = λ was. (refl, refl); asked = inl refl })

  -- and one that the caller has failed to answer
  pub asked-failing : (x y p : C) (is_lost : Bool) (asked : Result Request AllocError) (q : Request) (e : StoreError) → is_lost ≡ false → asked ≡ Ok q
      → IfSome (known p).journal (IsWhole (known p)) → IsCounted (is_fault_error e) (known x).faults (known y).faults → does x q (Err e) y
      → Asks known goes does (at x p is_lost) asked (Err e) (at y p true)
  asked-failing x y p is_lost asked q e well is whole counted did = asked-failed (at x p is_lost) (at y p true) asked e whole counted
      (λ c spelled. record {
        stood = refl;
        lost = refl;
        silent = λ was. absurd (let both : true ≡ false = sym was ∙ well in cc);
        asked = inr (in_vain c (subst (λ (a : Result Request AllocError). IfOk a (λ q. q ≡ request_for c)) is spelled));
      })
    where
      in_vain : (c : Call) → q ≡ request_for c → AskedInVain does x c (is_fault_error e) y
      in_vain c spelled = record { error = e; fault = refl; asked = subst (λ (q : Request). does x q (Err e) y) spelled did }

  -- ---- the greeting

  -- who is greeted stands for what it stood for, but for what the greeting has told
  greeted-as : (k l : Known) (seen : ℕ) (g : Given) → Greets k seen g l
      → (l ≡ record k { client = l.client; shards = l.shards; seen = l.seen }) × IfSome l.journal (IsWhole l) × IfSome k.journal (λ journal. l ≡ k)
  greeted-as k l seen (given.Hello client shards) h =
      (h.0 ∙ ap (λ (n : Known). record k { client = n.client; shards = n.shards; seen = n.seen }) (sym h.0), h.1, h.2)
  greeted-as k l seen g h = absurd h

  pub begins : (home : C → ℕ) (x y p : C) (answer : WireAnswer) → p ≡ y → home y ≡ home x → Replies known goes x request.Hello answer y
      → does x request.Hello (Ok answer) y → Begins known home does x (at y p false)
  begins home x y p answer stood at_home h did = subst (λ (p : C). Begins known home does x (at y p false)) (sym stood)
      (let told = greeted-as (known x) (known y) answer.seen answer.given h.1 in record {
        well = refl;
        answer = answer;
        greeted = did;
        known_is = told.0;
        whole = told.1;
        same = told.2;
        home_is = at_home;
      })

  -- what a client keeps that is well, behind an answer
  stands-well : (home : C → ℕ) (x y : C) (q : Request) (answer : WireAnswer) (is_lost : Bool) (client shards seen : ℕ)
      → IsStanding known home (at x x is_lost) client shards seen → Spells (known x) q → Replies known goes x q answer y
      → IsStanding known home (at y y is_lost) client shards (seen_behind q seen answer.seen)
  stands-well home x y q answer is_lost client shards seen kept spells h =
      let answers = answers-of known goes (known x) x y q answer spells h in
      let same = (answers.steps spells.call spells.can spells.spelled).answered.client in
      record {
        same = λ was. refl;
        client_is = kept.client_is ∙ sym same.client;
        shards_are = kept.shards_are ∙ sym same.shards;
        in_range = kept.in_range;
        seen_is = ap (λ (n : ℕ). seen_behind q n answer.seen) kept.seen_is ∙ sym answers.seen;
        whole = answers.whole;
        home_is = refl;
      }

  pub stands-on : (home : C → ℕ) (x y p r : C) (is_lost : Bool) (was : Standing C) (asked : Result Request AllocError) (q : Request)
      (answer : WireAnswer) (client shards seen : ℕ) → p ≡ x → r ≡ y → asked ≡ Ok q → at x p is_lost ≡ was
      → IfOk asked (Spells (stood_for known was)) → IsStanding known home (at x p is_lost) client shards seen → Replies known goes x q answer y
      → IsStanding known home (at y r is_lost) client shards (seen_behind q seen answer.seen)
  stands-on home x y p r is_lost was asked q answer client shards seen before behind is view spells kept h =
      subst (λ (r : C). IsStanding known home (at y r is_lost) client shards (seen_behind q seen answer.seen)) (sym behind)
      (stands-well home x y q answer is_lost client shards seen
      (subst (λ (p : C). IsStanding known home (at x p is_lost) client shards seen) before kept)
      (spells-at x p is_lost was asked q before is view spells) h)

  -- a call goes by its request
  pub goes-by : (r s : Standing C) (c : Call) (asked : Result Request AllocError) (result : Result WireAnswer StoreError) (a : Answer)
      → Asks known goes does r asked result s → CanCall (stood_for known r) c → IfOk asked (λ q. q ≡ request_for c)
      → a ≡ outcome_of (request_for c) result → Goes (stood_for known) (Steps goes does) r c a s
  goes-by r s c asked result a h can spelled is = subst (λ (x : Answer). Goes (stood_for known) (Steps goes does) r c x s) (sym is) (h c can spelled)

-- ---- what is only done

-- a subscription is done where that is given
pub subscribe-done : (address : Address) (result : Result WireAnswer StoreError)
    → done_outcome result ≡ outcome_of (request.Subscribe address) result
subscribe-done address (Err e) = refl
subscribe-done address (Ok answer) = by answer.given
  where
    by : (g : Given) → done_given g ≡ answered_by (request.Subscribe address) answer.seen g
    by given.Done = refl
    by g = refl

-- so is its end
pub unsubscribe-done : (address : Address) (result : Result WireAnswer StoreError)
    → done_outcome result ≡ outcome_of (request.Unsubscribe address) result
unsubscribe-done address (Err e) = refl
unsubscribe-done address (Ok answer) = by answer.given
  where
    by : (g : Given) → done_given g ≡ answered_by (request.Unsubscribe address) answer.seen g
    by given.Done = refl
    by g = refl

-- and a wait
pub wait-done : (result : Result WireAnswer StoreError) → done_outcome result ≡ outcome_of request.Wait result
wait-done (Err e) = refl
wait-done (Ok answer) = by answer.given
  where
    by : (g : Given) → done_given g ≡ answered_by request.Wait answer.seen g
    by given.Done = refl
    by g = refl
