-- What functions make of one answer, and of results.
use Rattle.std.specs.Prelude.{◌≡◌, ℕ, Bool, true, false, List, Option, Some, None, Result, Ok, Err}
use Rattle.std.specs.BTreeMap.{insert_entry}
use Rattle.rdt_types.specs.declared.address.Address.{Address}
use Rattle.rdt_types.specs.declared.outcome.Outcome.{Outcome}
use Rattle.rdt_types.specs.Addresses.{address_cmp}
use Rattle.session_text.specs.declared.reply.Reply.{Reply}
use Rattle.session_text.specs.declared.reply.Reply.TheVariants as reply
use Rattle.txn_lang.specs.declared.run.Run.{Run}
use Rattle.docc_prepare.specs.declared.attempt.Attempt.{Attempt}
use Rattle.docc_prepare.specs.declared.attempt.Next.TheVariants as next
use Rattle.docc_prepare.specs.Attempts.{SnapList, next_event}
use Rattle.docc_prepare.specs.Calls.{Answer}
use Rattle.session_core.specs.declared.moved.Moved.{Moved}
use Rattle.session_core.specs.declared.moved.Moved.TheVariants as moved
use Rattle.session_core.specs.declared.error.SessionError.{SessionError}
use Rattle.session_core.specs.declared.turn.Turn.{Turn}
use Rattle.session_core.specs.declared.turn.Turn.TheVariants as turn
use Rattle.client_watches.specs.declared.error.WatchError.{WatchError}
use Rattle.session_core.specs.Errors.{of_watch_error, LeavesError}
use Rattle.session_core.specs.Events.{is_kept, moved_by, said}

-- ---- one event

-- what an answered event comes to: what the answer makes of the attempt, or an error
abbrev pub Turned : Attempt → Answer → Result Moved SessionError → Type 0
Turned a answer (Ok m) = moved_by a answer ≡ Some m
Turned a answer (Err e) = LeavesError (is_kept (next_event a) answer) answer e

-- a result of one event as what it makes of the attempt: a read, which shows its base, a preparing, and an append
abbrev pub moved_on_read : Address → Attempt → Result ℕ SessionError → Result Moved SessionError
moved_on_read address a (Ok base) = Ok (moved.More a (reply.Read address base))
moved_on_read address a (Err e) = Err e

-- what an answered preparing comes to
abbrev pub moved_on_prepare : ℕ → Attempt → Result (Result ℕ Reply) SessionError → Result Moved SessionError
moved_on_prepare shard a (Ok (Ok front)) = Ok (moved.More a (reply.Prepared shard front))
moved_on_prepare shard a (Ok (Err r)) = Ok (moved.End a r)
moved_on_prepare shard a (Err e) = Err e

-- what an answered append comes to
abbrev pub moved_on_append : Attempt → Result Reply SessionError → Result Moved SessionError
moved_on_append a (Ok r) = Ok (moved.End a r)
moved_on_append a (Err e) = Err e

-- the next event is an append of a run with this outcome
pub record Appends (a : Attempt) (outcome : Outcome) : Type 0 where
  pub run : Run
  pub next : next_event a ≡ next.Append run
  pub outcome_is : run.outcome ≡ outcome

-- whether an attempt was aborted
abbrev pub is_abort : Reply → Bool
is_abort (reply.Abort w) = true
is_abort r = false

-- ---- looks

-- whether an answer is a value, which is to be kept
abbrev pub is_value : Answer → Bool
is_value (Answer.value v) = true
is_value answer = false

-- what an answered read at a number comes to: a value more, or a reply, or an error
abbrev pub Valued : SnapList → Address → ℕ → Answer → Result (Option Reply) SessionError → SnapList → Type 0
Valued old address n (Answer.value v) (Ok None) new = new ≡ insert_entry address_cmp old address (record { base = n; value = v })
Valued old address n (Answer.late m horizon) (Ok (Some r)) new = r ≡ reply.Late m horizon
Valued old address n answer (Ok o) new = ⊥
Valued old address n answer (Err e) new = LeavesError (is_value answer) answer e

-- ---- turns

-- the turn of a line of watches
abbrev pub watch_turn : Result (List Reply) WatchError → Result Turn SessionError
watch_turn (Ok replies) = Ok (turn.Replies replies)
watch_turn (Err e) = Err (of_watch_error e)

-- the turn of a line with one reply
abbrev pub turn_of : Result Reply SessionError → Result Turn SessionError
turn_of (Ok reply) = Ok (said reply)
turn_of (Err e) = Err e
