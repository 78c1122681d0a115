-- What functions do that bring an attempt up to its append and hand it to the journal, put together.
use Rattle.std.proofs.Common.{◌≡◌, ℕ, suc, ◌+◌, ◌-◌, ◌<◌, Bool, true, false, List, length, Option, Some, None, Result, Ok, Err, refl, sym, ap, subst, ◌∙◌, arith}
use Rattle.std.specs.Prelude.{nat_lt, IsErrAnd}
use Rattle.std.proofs.lemmas.Bool.Decides.{nat_tests}
use Rattle.std.proofs.lemmas.Result.{err_from_is_err_and}
use Rattle.session_text.specs.declared.reply.Reply.{Reply}
use Rattle.abort_witness.specs.declared.witness.Based.{Based}
use Rattle.txn_lang.specs.declared.run.Run.{Run}
use Rattle.docc_prepare.specs.declared.attempt.Attempt.{Attempt}
use Rattle.docc_prepare.specs.declared.attempt.Next.TheVariants as next
use Rattle.docc_prepare.specs.Attempts.{based, in_shard, next_event, with_front}
use Rattle.docc_prepare.specs.Calls.{Known, Call, Answer}
use Rattle.docc_prepare.specs.Backends.{Goes}
use Rattle.call_programs.specs.Programs.{Program, Leads}
use Rattle.call_programs.proofs.Programs.{to_same, and_then, bound}
use Rattle.session_core.specs.declared.approach.LastRun.{LastRun}
use Rattle.session_core.specs.declared.approach.Approach.{Approach}
use Rattle.session_core.specs.declared.approach.Approach.TheVariants as approach
use Rattle.session_core.specs.declared.error.SessionError.{SessionError}
use Rattle.session_core.specs.declared.error.SessionError.TheVariants as error
use Rattle.session_core.specs.declared.limits.TheConstants.{MOST_EVENTS}
use Rattle.session_core.specs.declared.moved.Moved.{Moved}
use Rattle.session_core.specs.declared.moved.Moved.TheVariants as moved
use Rattle.session_core.specs.declared.session.Session.{Session}
use Rattle.session_core.specs.Events.{closed, call_of}
use Rattle.session_core.specs.Holding.{Attends, Holds}
use Rattle.session_core.specs.Remembering.{AreAllOf}
use Rattle.session_core.specs.Stopping.{StopsShort, Does}
use Rattle.session_core.specs.Verbs.{event, unshown, event_on, or_on, drive_in, events, drive}
use Rattle.session_core.specs.code.Approaching.{OneAtMost, Nears, IsNext, Approaches}
use Rattle.session_core.proofs.Performing.{one_event, drive_round}
use Rattle.session_core.proofs.Safe.{event_goes_on, drives_enough}
use Rattle.session_core.proofs.Stopping.{short_in, short_behind}
use Rattle.session_core.proofs.Whole.{whole-shard, append-next}

-- an event isn't shown
abbrev pub quiet : Moved → Program (Attempt × Option Reply)
quiet m = Program.ends (unshown m)

module _ {B : Type 0} {known : B → Known} {goes : B → Call → Answer → B → Type 0} (s : Session) where
  -- an error behind the last event
  pub nears_fail : {b c : B} {x : SessionError} (a on : Attempt) (r : Result (Option Approach) SessionError) → IsErrAnd r (λ e. e ≡ x)
      → StopsShort (Goes known goes) b (event_on s a) (x ≡ error.StoreFault) c → Nears known goes s b a r c on
  nears_fail {b} {c} a on r is short =
      let y = err_from_is_err_and r is in
      subst (λ r. Nears known goes s b a r c on) (sym y.1)
      (subst (λ e. StopsShort (Goes known goes) b (event_on s a) (e ≡ error.StoreFault) c) (sym y.2) short)

  -- and behind all of them
  pub approaches_fail : {b c : B} {x : SessionError} (a on : Attempt) (r : Result Approach SessionError) → IsErrAnd r (λ e. e ≡ x)
      → StopsShort (Goes known goes) b (drive s a) (x ≡ error.StoreFault) c → Approaches known goes s b a r c on
  approaches_fail {b} {c} a on r is short =
      let y = err_from_is_err_and r is in
      subst (λ r. Approaches known goes s b a r c on) (sym y.1)
      (subst (λ e. StopsShort (Goes known goes) b (drive s a) (e ≡ error.StoreFault) c) (sym y.2) short)

  -- it has come to its append
  pub came_next : {b c : B} {a on : Attempt} {last : LastRun} {end : Approach} → end ≡ approach.Append last
      → Approaches known goes s b a (Ok end) c on → IsNext known goes s b a last c on
  came_next {b} {c} {a} {on} is comes = subst (λ (end : Approach). Approaches known goes s b a (Ok end) c on) is comes

  -- or to its end
  pub came_end : {b c : B} {end : Approach} {r : Reply} (a on : Attempt) → end ≡ approach.End r → Approaches known goes s b a (Ok end) c on
      → Leads (Goes known goes) b (drive s a) c (Program.ends (on, r))
  came_end {b} {c} a on is comes = subst (λ (end : Approach). Approaches known goes s b a (Ok end) c on) is comes

  -- behind the preparing of the shard that has all that was observed
  pub whole_near : {b c : B} {a on : Attempt} (shard front : ℕ) (run : Run) (all : List Based)
      → Leads (Goes known goes) b (event_on s a) c (Program.ends (on, None)) → next_event a ≡ next.Prepare shard run
      → all ≡ in_shard a.shards shard (based a.snaps run.observations) → on ≡ with_front a shard front → length all ≡ length run.observations
      → Nears known goes s b a (Ok (Some (approach.Append (record { run = run; based = Some all })))) c on
  whole_near {a} {on} shard front run all led prepares all_is on_is whole =
      let long : length (in_shard a.shards shard (based a.snaps run.observations)) ≡ length run.observations = ap length (sym all_is) ∙ whole in
      let follows : next_event on ≡ next.Append run = ap next_event on_is ∙ append-next a run shard front prepares long in
      let same : all ≡ based a.snaps run.observations = all_is ∙ whole-shard a.shards shard a.snaps run.observations long in
      (OneAtMost.one led, (follows, same ∙ ap (λ (x : Attempt). based x.snaps run.observations) (sym on_is)))

  -- where its append is next, an event is left
  at_append : {b c : B} {a on : Attempt} (i : ℕ) (last : LastRun) → Attends (known b) (closed s) → Holds (known b) a
      → Leads (Goes known goes) b (drive s a) c (drive_in (events - i) s on) → Attends (known c) (closed s) → Holds (known c) on
      → next_event on ≡ next.Append last.run → AreAllOf on last.run last.based → IsNext known goes s b a last c on
  at_append {b} {c} {a} {on} i last is holds led attends holds_on follows all = by (nat_lt i MOST_EVENTS) refl
    where
      by : (x : Bool) → nat_lt i MOST_EVENTS ≡ x → IsNext known goes s b a last c on
      by true e = record {
        left = events - (i + 1);
        led = to_same (ap (λ (n : ℕ). drive_in n s on) (one_event i (grind (arith, nat_tests)))) led;
        attends = attends;
        holds = holds_on;
        next = follows;
        all = all;
      }
      by false e = absurd (drives_enough s on i (grind (arith, nat_tests)) is holds led)

  -- behind one event more, or none
  comes_next : {b m c : B} {a x on : Attempt} (i : ℕ) (last : LastRun) → i < MOST_EVENTS → Attends (known b) (closed s)
      → Holds (known b) a → Leads (Goes known goes) b (drive s a) m (drive_in (events - i) s x) → Attends (known m) (closed s) → Holds (known m) x
      → OneAtMost known goes s m x c on → next_event on ≡ next.Append last.run → AreAllOf on last.run last.based → IsNext known goes s b a last c on
  comes_next i last within is holds first is_on holds_on OneAtMost.none_yet follows all =
      at_append i last is holds first is_on holds_on follows all
  comes_next i last within is holds first is_on holds_on (OneAtMost.one led) follows all =
      let on = event_goes_on s is_on holds_on refl led in
      at_append (i + 1) last is holds
      (and_then (to_same (drive_round i s _ within) first) (bound (or_on (drive_in (events - (i + 1)) s)) led Leads.stays)) on.0 on.1 follows all

  -- where the last of some events leads to
  pub comes_near : {b m : B} {a x : Attempt} (i : ℕ) (c : B) (on : Attempt) (near : Approach) → i < MOST_EVENTS → Attends (known b) (closed s) → Holds (known b) a
      → Leads (Goes known goes) b (drive s a) m (drive_in (events - i) s x) → Attends (known m) (closed s) → Holds (known m) x
      → Nears known goes s m x (Ok (Some near)) c on → Approaches known goes s b a (Ok near) c on
  comes_near i c on (approach.End r) within is holds first is_on holds_on led =
      and_then (to_same (drive_round i s _ within) first) (bound (or_on (drive_in (events - (i + 1)) s)) led Leads.stays)
  comes_near i c on (approach.Append last) within is holds first is_on holds_on near =
      comes_next i last within is holds first is_on holds_on near.0 near.1.0 near.1.1

  -- the append ends the attempt
  pub append_ends : {b c : B} (d : B) (a on : Attempt) (left : ℕ) (r : Result Reply SessionError)
      → Leads (Goes known goes) b (drive s a) c (drive_in (suc left) s on) → Does known goes c (event s on) r (moved.End on) d
      → Does known goes b (drive s a) r (λ reply. (on, reply)) d
  append_ends d a on left (Ok reply) first led =
      and_then first (bound (or_on (drive_in left s)) (bound quiet led Leads.stays) Leads.stays)
  append_ends d a on left (Err e) first short =
      short_behind first (record { call = call_of s on; next = _; is = refl }) (short_in (or_on (drive_in left s)) (short_in quiet short))
