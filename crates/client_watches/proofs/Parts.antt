-- What functions owe that perform parts of a line, and what these parts come to.
use Rattle.std.proofs.Common.{◌≡◌, ◌↔◌, ℕ, suc, ◌+◌, ◌-◌, ◌<◌, true, false, cond, List, [], ◌∷◌, length, get_or, drop, Option, Some, None, is_some}
use Rattle.std.proofs.Common.{Bool, Result, Ok, Err, refl, sym, ap, subst, ◌∙◌, arith, add-one}
use Rattle.std.proofs.lemmas.Result.{err_from_is_err_and}
use Rattle.std.specs.Prelude.{IsErrAnd}
use Rattle.std.proofs.Math.Seq.{drop-cons}
use Rattle.plain_data.specs.Texts.{Bytes}
use Rattle.rdt_types.specs.declared.address.Address.{Address}
use Rattle.rdt_types.specs.declared.value.Value.{Value}
use Rattle.session_text.specs.declared.reply.Reply.{Reply}
use Rattle.session_text.specs.declared.reply.Reply.TheVariants as reply
use Rattle.session_text.specs.declared.reply.Why.TheVariants as why
use Rattle.txn_lang.specs.declared.checked.Checked.{Checked}
use Rattle.txn_lang.specs.declared.limits.TheConstants.{TICK_LIMIT}
use Rattle.txn_lang.specs.Execution.{Ran, exec}
use Rattle.client_cache.specs.Cached.{held}
use Rattle.rerun_driver.specs.declared.rerun.Rerun.{Rerun}
use Rattle.rerun_driver.specs.Watches.{watch_of, next_rerun}
use Rattle.docc_prepare.specs.declared.backend.StoreError.{StoreError}
use Rattle.docc_prepare.specs.declared.backend.StoreError.TheVariants as store_error
use Rattle.docc_prepare.specs.declared.backend.ReadAtError.{ReadAtError}
use Rattle.docc_prepare.specs.declared.backend.ReadAtError.TheVariants as read_at_error
use Rattle.docc_prepare.specs.Backends.{Goes}
use Rattle.docc_prepare.specs.Calls.{Known, Call, Answer, store_failed, value_answered}
use Rattle.call_programs.specs.Programs.{Program, bind, Leads, Stops, Always, Succeeds}
use Rattle.call_programs.specs.Safe.{AsksAny}
use Rattle.call_programs.proofs.Programs.{call_failed, along}
use Rattle.client_watches.specs.declared.error.WatchError.{WatchError}
use Rattle.client_watches.specs.declared.error.WatchError.TheVariants as error
use Rattle.client_watches.specs.declared.watching.Watching.{Watching}
use Rattle.client_watches.specs.Errors.{error_of, reply_of}
use Rattle.client_watches.specs.Watching.{with_value, without}
use Rattle.client_watches.specs.Lines.{Told, GoesOn, rounds, catch_up, kept, read, fetch, rerun_by, rerun_one, run_by, run_body, take_feed, make, ending, watch, unwatch}

-- ---- what stops

-- memory is wanting somewhere, and that is no fault
pub wants : {S A : Type 0} {goes : S → Call → Answer → S → Type 0} {s t : S} {p q : Program A} → Leads goes s p t q
    → Stops goes s p (error.NoMemory ≡ error.StoreFault) t
wants led = Stops.wants led (λ is. cc)

-- a fault of the store is told as one, and nothing else is
told_fault : (x : StoreError) → (error_of x ≡ error.StoreFault) ↔ (x ≡ store_error.Fault)
told_fault store_error.Fault = (λ is. refl, λ is. refl)
told_fault store_error.NoMemory = (λ is. absurd (cc), λ is. absurd (cc))

-- a call has failed, and its error is handed on
pub failed : {S A : Type 0} {goes : S → Call → Answer → S → Type 0} {s t : S} {call : Call} {next : Answer → Program A} (x : StoreError)
    → goes s call (store_failed x) t → Stops goes s (Program.asks call next) (error_of x ≡ error.StoreFault) t
failed x step = call_failed x step (told_fault x)

-- so it is of a read at a number
pub read_broken : (x : ReadAtError) (e : WatchError) → Err e ≡ reply_of x → (e ≡ error.StoreFault) ↔ (value_answered (Err x) ≡ Answer.failed true)
read_broken (read_at_error.Late n horizon) e is = absurd (cc)
read_broken read_at_error.Fault e is = (λ h. refl, λ h. let same : e ≡ error.StoreFault = cc in same)
read_broken read_at_error.NoMemory e is = (λ h. absurd (let same : e ≡ error.NoMemory = cc in cc), λ h. absurd (cc))

-- what a function owes that does a part of a line's reruns and answers an error
pub goes_fail : {B : Type 0} {known : B → Known} {goes : B → Call → Answer → B → Type 0} {old new : B} {x : WatchError}
    (before after : Told) (r : Result (Option Bool) WatchError) → IsErrAnd r (λ e. e ≡ x)
    → Stops (Goes known goes) old (catch_up before.0 before.1) (x ≡ error.StoreFault) new → GoesOn known goes old before r new after
goes_fail {known} {goes} {old} {new} before after r is stop =
    let y = err_from_is_err_and r is in
    subst (λ r. GoesOn known goes old before r new after) (sym y.1)
    (subst (λ e. Stops (Goes known goes) old (catch_up before.0 before.1) (e ≡ error.StoreFault) new) (sym y.2) stop)

-- ---- items

-- an option in which nothing stands is none
pub none-else : {A : Type 0} (o : Option A) → ((x : A) → o ≡ Some x → ⊥) → o ≡ None
none-else None h = refl
none-else (Some x) h = absurd (h x refl)

-- the next of some items, and the rest
pub next-drop : {A : Type 0} (xs : List A) (i : ℕ) (x : A) → i < length xs → x ≡ get_or xs i x → drop i xs ≡ x ∷ drop (i + 1) xs
next-drop xs i x within e = drop-cons xs i x within ∙ (λ j. sym e j ∷ drop (sym (add-one i) j) xs)

-- ---- rounds

-- of those that are left this is one
one_round : (i : ℕ) → i < TICK_LIMIT + 1 → rounds - i ≡ suc (rounds - (i + 1))
unfolding rounds
one_round i within = omega arith

-- all are left at first
pub no_round_yet : rounds ≡ rounds - 0
no_round_yet = omega arith

-- a round of a rerun does what runs next
pub rerun_round : (i : ℕ) (said : List Reply) (w : Watching) (r : Rerun) → i < TICK_LIMIT + 1 → next_rerun (held w.cache) w.watches ≡ r
    → rerun_one (rounds - i) said w ≡ rerun_by (rerun_one (rounds - (i + 1)) said) w said r
rerun_round i said w r within next =
    ap (λ (n : ℕ). rerun_one n said w) (one_round i within) ∙ ap (rerun_by (rerun_one (rounds - (i + 1)) said) w said) next

-- a round of a first run does what its body comes to
pub run_round : (i : ℕ) (body : Checked) (said : List Reply) (w : Watching) (r : Ran) → i < TICK_LIMIT + 1 → exec body.body (held w.cache) ≡ r
    → run_body (rounds - i) body said w ≡ run_by (run_body (rounds - (i + 1)) body said) w said r
run_round i body said w r within next =
    ap (λ (n : ℕ). run_body n body said w) (one_round i within) ∙ ap (run_by (run_body (rounds - (i + 1)) body said) w said) next

-- ---- values

-- where a value was late, that is the reply
pub read_late : (w : Watching) (address : Address) (late : Reply) (x : ReadAtError) → Ok late ≡ reply_of x
    → read w address (value_answered (Err x)) ≡ Program.ends (Some late, w)
read_late w address late (read_at_error.Late n horizon) is =
    ap (λ (r : Reply). Program.ends (Some r, w)) (let same : reply.Late n horizon ≡ late = cc in same)
read_late w address late read_at_error.Fault is = absurd (cc)
read_late w address late read_at_error.NoMemory is = absurd (cc)

-- and its call hasn't failed
pub late_succeeds : (late : Reply) (x : ReadAtError) → Ok late ≡ reply_of x → Succeeds (value_answered (Err x))
late_succeeds late (read_at_error.Late n horizon) is = tt
late_succeeds late read_at_error.Fault is = absurd (cc)
late_succeeds late read_at_error.NoMemory is = absurd (cc)

-- what a value that was asked for comes to: it is held, or it was late and nothing is another
abbrev pub IsFetched : Watching → Address → Option Reply → Watching → Type 0
IsFetched w address None v = (value : Value) × (v ≡ with_value w address value)
IsFetched w address (Some late) v = v ≡ w

-- whatever is answered
fetches : {S : Type 0} (goes : S → Call → Answer → S → Type 0) (s : S) (w : Watching) (address : Address)
    → Always AsksAny goes (Unit {0}) s (fetch w address) (λ t (r : Option Reply × Watching). IsFetched w address r.0 r.1)
fetches {S} goes s w address = (tt, λ answer t step ok. by answer t)
  where
    told : (value : Value) (answer : Answer) (t : S)
        → Always AsksAny goes (Unit {0}) t (kept w address value answer) (λ t (r : Option Reply × Watching). IsFetched w address r.0 r.1)
    told value Answer.done t = (value, refl)
    told value answer t = tt

    by : (answer : Answer) (t : S)
        → Always AsksAny goes (Unit {0}) t (read w address answer) (λ t (r : Option Reply × Watching). IsFetched w address r.0 r.1)
    by (Answer.value value) t = (tt, λ answer u step ok. told value answer u)
    by (Answer.late n horizon) t = refl
    by answer t = tt

-- so it is where it was asked for
pub is_fetched : {S : Type 0} {goes : S → Call → Answer → S → Type 0} {s t : S} {w : Watching} {address : Address} {r : Option Reply × Watching}
    → Leads goes s (fetch w address) t (Program.ends r) → IsFetched w address r.0 r.1
is_fetched {goes} {s} {w} {address} led =
    along AsksAny (Unit {0}) (λ t (r : Option Reply × Watching). IsFetched w address r.0 r.1) led (fetches goes s w address)

-- ---- lines

-- what follows once what changed was told, where a new watch is to be made
abbrev pub made_after : Bytes → Checked → Watching → Program Told
made_after name body v = bind (make name body [] v) ending

-- a name that is in use is refused
pub watch_refused : (w : Watching) (name : Bytes) (body : Checked) → is_some (watch_of w.watches name) ≡ true
    → watch w name body ≡ Program.ends (w, reply.Refused why.Name ∷ [])
watch_refused w name body e = ap (λ b. cond b (Program.ends (w, reply.Refused why.Name ∷ [])) (bind (take_feed w) (made_after name body))) e

-- a name that is free is watched
pub watch_made : (w : Watching) (name : Bytes) (body : Checked) → is_some (watch_of w.watches name) ≡ false
    → watch w name body ≡ bind (take_feed w) (made_after name body)
watch_made w name body e = ap (λ b. cond b (Program.ends (w, reply.Refused why.Name ∷ [])) (bind (take_feed w) (made_after name body))) e

-- a name that no watch has is refused
pub unwatch_refused : (w : Watching) (name : Bytes) → is_some (watch_of w.watches name) ≡ false
    → unwatch w name ≡ Program.ends (w, reply.Refused why.NoAttempt ∷ [])
unwatch_refused w name e = ap (λ b. cond b (ending (without w name, reply.Dropped ∷ [])) (Program.ends (w, reply.Refused why.NoAttempt ∷ []))) e

-- the watch of a name is forgotten
pub unwatch_named : (w : Watching) (name : Bytes) → is_some (watch_of w.watches name) ≡ true
    → unwatch w name ≡ ending (without w name, reply.Dropped ∷ [])
unwatch_named w name e = ap (λ b. cond b (ending (without w name, reply.Dropped ∷ [])) (Program.ends (w, reply.Refused why.NoAttempt ∷ []))) e
