-- What a session's verbs work on: the session with its attempt, the call of an attempt's next event, and what an answer makes of that.
use Rattle.std.specs.Prelude.{ℕ, ◌+◌, Bool, true, false, [], ◌∷◌, Option, Some, None, min, max}
use Rattle.std.proofs.Common.{lit≤}
use Rattle.std.proofs.Math.Nat.{le-max_left, max-le, min-le_right}
use Rattle.rdt_types.specs.declared.limits.TheConstants.{LEAST_SHARDS, MOST_SHARDS}
use Rattle.session_text.specs.declared.reply.Reply.{Reply}
use Rattle.session_text.specs.declared.reply.Reply.TheVariants as reply
use Rattle.txn_lang.specs.declared.checked.Checked.{Checked}
use Rattle.docc_prepare.specs.declared.attempt.Attempt.{Attempt}
use Rattle.docc_prepare.specs.declared.attempt.Next.{Next}
use Rattle.docc_prepare.specs.declared.attempt.Next.TheVariants as next
use Rattle.docc_prepare.specs.Attempts.{in_shard, based, next_event, with_snap, with_front, ready_of}
use Rattle.docc_prepare.specs.Calls.{Call, Answer}
use Rattle.docc_prepare.specs.Calls.Call.{read, prepare, append}
use Rattle.docc_prepare.specs.Calls.Answer.{number, snap, prepared, late, clash, held, full, disk}
use Rattle.client_watches.specs.declared.watching.Watching.{Watching}
use Rattle.session_core.specs.declared.session.Session.{Session}
use Rattle.session_core.specs.declared.moved.Moved.{Moved}
use Rattle.session_core.specs.declared.moved.Moved.TheVariants as moved
use Rattle.session_core.specs.declared.turn.Turn.{Turn}
use Rattle.session_core.specs.declared.turn.Turn.TheVariants as turn

-- ---- sessions

-- the session with this attempt open, or none
abbrev pub with_attempt : Session → Option Attempt → Session
with_attempt s o = record s { attempt = o }

-- no attempt is open any more
abbrev pub closed : Session → Session
closed s = with_attempt s None

-- a commit takes a seq
abbrev pub seq_after : ℕ → Reply → ℕ
seq_after seq (reply.Commit n outcome) = seq + 1
seq_after seq r = seq

-- with other watches
abbrev pub with_watching : Session → Watching → Session
with_watching s w = record s { watching = w }

-- after an attempt's end
abbrev pub ended : Session → Reply → Session
ended s r = record s { seq = seq_after s.seq r; attempt = None }

-- ---- attempts

-- so many shards, of which there are one at least and sixteen at most
abbrev pub within_shards : ℕ → ℕ
within_shards shards = max LEAST_SHARDS (min shards MOST_SHARDS)

-- an attempt at a body, of which nothing is read
abbrev pub opened : ℕ → Checked → Attempt
opened shards body = record {
  body = body;
  shards = within_shards shards;
  snaps = [];
  fronts = [];
  shards_in_range = (le-max_left LEAST_SHARDS (min shards MOST_SHARDS), max-le (lit≤ tt) (min-le_right shards MOST_SHARDS));
}

-- the attempt, of which nothing is read any more
abbrev pub afresh : Attempt → Attempt
afresh a = record a { snaps = []; fronts = [] }

-- the call that an attempt's next event is
abbrev pub event_call : Session → Attempt → Next → Call
event_call s a (next.Read address) = read address
event_call s a (next.Prepare shard run) = prepare shard (in_shard a.shards shard (based a.snaps run.observations))
event_call s a (next.Append run) = append (ready_of a run s.client s.seq)

-- whether an answer to an event is to be kept with its attempt: a value, or a front
abbrev pub is_kept : Next → Answer → Bool
is_kept (next.Read address) (snap s) = true
is_kept (next.Prepare shard run) (prepared p) = true
is_kept n answer = false

-- the call of an attempt's next event
abbrev pub call_of : Session → Attempt → Call
call_of s a = event_call s a (next_event a)

-- What an answer makes of the attempt whose next event it answers: it goes on, or it has ended.
abbrev pub moved_at : Attempt → Next → Answer → Option Moved
moved_at a (next.Read address) (snap s) = Some (moved.More (with_snap a address s) (reply.Read address s.base))
moved_at a (next.Prepare shard run) (prepared p) = Some (moved.More (with_front a shard p.front) (reply.Prepared shard p.front))
moved_at a (next.Prepare shard run) (late base horizon) = Some (moved.End a (reply.Late base horizon))
moved_at a (next.Prepare shard run) (clash w) = Some (moved.End a (reply.Abort w))
moved_at a (next.Append run) (number n) = Some (moved.End a (reply.Commit n run.outcome))
moved_at a (next.Append run) (clash w) = Some (moved.End a (reply.Abort w))
moved_at a (next.Append run) (held client at) = Some (moved.End a (reply.Held client at))
moved_at a (next.Append run) (full limit) = Some (moved.End a (reply.Full limit))
moved_at a (next.Append run) disk = Some (moved.End a reply.Disk)
moved_at a n answer = None

-- what an answer to it makes of the attempt
abbrev pub moved_by : Attempt → Answer → Option Moved
moved_by a answer = moved_at a (next_event a) answer

-- ---- replies

-- one reply
abbrev pub said : Reply → Turn
said r = turn.Replies (r ∷ [])
