-- What a session goes on with behind a call, and what an event leaves of an attempt.
use Rattle.std.proofs.Common.{◌≡◌, Option, Some, refl, subst}
use Rattle.rdt_types.specs.declared.address.Address.{Address}
use Rattle.session_text.specs.declared.reply.Reply.{Reply}
use Rattle.session_text.specs.declared.reply.Reply.TheVariants as reply
use Rattle.docc_prepare.specs.declared.attempt.Attempt.{Attempt}
use Rattle.docc_prepare.specs.declared.attempt.Next.{Next}
use Rattle.docc_prepare.specs.declared.attempt.Next.TheVariants as next
use Rattle.docc_prepare.specs.Attempts.{next_event, with_snap, with_front, ready_of}
use Rattle.docc_prepare.specs.Calls.{Known, Call, Answer}
use Rattle.docc_prepare.specs.Calls.Call.{read}
use Rattle.docc_prepare.specs.Calls.Answer.{number, snap, prepared, late, clash, full, disk}
use Rattle.docc_prepare.specs.Backends.{IsAnswered, KeepsGiven}
use Rattle.session_core.specs.declared.session.Session.{Session}
use Rattle.session_core.specs.declared.moved.Moved.{Moved}
use Rattle.session_core.specs.declared.moved.Moved.TheVariants as moved
use Rattle.session_core.specs.Events.{closed, ended, afresh, event_call, call_of, moved_at, moved_by}
use Rattle.session_core.specs.Holding.{Holds, Attends}
use Rattle.session_core.proofs.Kept.{SameOwn, attends-on, closed-on, committed-on, anew-holds, read-holds, prepare-holds}
use Rattle.session_core.proofs.Minding.{watches-on}

-- what an event leaves
abbrev pub MovedHolds : Known → Session → Moved → Type 0
MovedHolds l s (moved.More a r) = Attends l (closed s) × Holds l a
MovedHolds l s (moved.End a r) = Attends l (ended s r) × Holds l (afresh a)

-- ---- one event

module _ (k l : Known) (s : Session) (a : Attempt) (is : Attends k (closed s)) (holds : Holds k a) where
  -- an event that goes on leaves the session without its attempt, and the attempt that goes on
  more : (b : Attempt) (r : Reply) (m : Moved) → Some (moved.More b r) ≡ Some m → Attends l (closed s) → Holds l b → MovedHolds l s m
  more b r m e on h = subst (MovedHolds l s) (let same : moved.More b r ≡ m = cc in same) (on, h)

  -- an event that ends the attempt leaves the session after the end, and the attempt may begin anew
  end : (c : Call) (answer : Answer) (r : Reply) (m : Moved) → Some (moved.End a r) ≡ Some m → Attends l (ended s r) → IsAnswered k c answer l
      → MovedHolds l s m
  end c answer r m e on event = subst (MovedHolds l s) (let same : moved.End a r ≡ m = cc in same) (on, anew-holds k l a c answer event holds)

  -- by event and answer: a read or a front goes on, any other answer ends it, and only a commit adds one of the client's
  pub held-by : (n : Next) (answer : Answer) (m : Moved) → next_event a ≡ n → IsAnswered k (event_call s a n) answer l → moved_at a n answer ≡ Some m
      → MovedHolds l s m
  held-by (next.Read address) (snap v) m e event h =
      more (with_snap a address v) (reply.Read address v.base) m h
      (closed-on k l (closed s) (read address) (snap v) event (λ old new own. own) event.goes_on.subscribed event.goes_on.taken is)
      (read-holds k l a holds address v e event)
  held-by (next.Prepare shard run) (prepared p) m e event h =
      more (with_front a shard p.front) (reply.Prepared shard p.front) m h (closed-on k l (closed s) (event_call s a (next.Prepare shard run))
      (prepared p) event (λ old new own. own) event.goes_on.subscribed event.goes_on.taken is)
      (prepare-holds k l a holds shard run p e event)
  held-by (next.Prepare shard run) (late base horizon) m e event h =
      end (event_call s a (next.Prepare shard run)) (late base horizon) (reply.Late base horizon) m h
      (closed-on k l (closed s) (event_call s a (next.Prepare shard run)) (late base horizon) event (λ old new own. own)
      event.goes_on.subscribed event.goes_on.taken is) event
  held-by (next.Prepare shard run) (clash w) m e event h =
      end (event_call s a (next.Prepare shard run)) (clash w) (reply.Abort w) m h
      (closed-on k l (closed s) (event_call s a (next.Prepare shard run)) (clash w) event (λ old new own. own)
      event.goes_on.subscribed event.goes_on.taken is) event
  held-by (next.Append run) (number n) m e event h =
      end (event_call s a (next.Append run)) (number n) (reply.Commit n run.outcome) m h
      (committed-on k l (closed s) (ready_of a run s.client s.seq) n refl event is) event
  held-by (next.Append run) (clash w) m e event h =
      end (event_call s a (next.Append run)) (clash w) (reply.Abort w) m h (closed-on k l (closed s) (event_call s a (next.Append run))
      (clash w) event (λ old new own. own) event.goes_on.subscribed event.goes_on.taken is) event
  held-by (next.Append run) (Answer.held client at) m e event h =
      end (event_call s a (next.Append run)) (Answer.held client at) (reply.Held client at) m h
      (closed-on k l (closed s) (event_call s a (next.Append run)) (Answer.held client at) event (λ old new own. own)
      event.goes_on.subscribed event.goes_on.taken is) event
  held-by (next.Append run) (full limit) m e event h =
      end (event_call s a (next.Append run)) (full limit) (reply.Full limit) m h
      (closed-on k l (closed s) (event_call s a (next.Append run)) (full limit) event (λ old new own. own)
      event.goes_on.subscribed event.goes_on.taken is) event
  held-by (next.Append run) disk m e event h =
      end (event_call s a (next.Append run)) disk reply.Disk m h (closed-on k l (closed s) (event_call s a (next.Append run)) disk event
      (λ old new own. own) event.goes_on.subscribed event.goes_on.taken is) event
  held-by n answer m e event h = absurd (cc)

  -- so it is with the event that comes next
  pub held : (answer : Answer) (m : Moved) → IsAnswered k (call_of s a) answer l → moved_by a answer ≡ Some m → MovedHolds l s m
  held answer m event e = held-by (next_event a) answer m refl event e

-- a session goes on after a call that adds none of its commits, and by which nothing is subscribed to or taken
pub plain-on : (k l : Known) (s : Session) (c : Call) (answer : Answer) → IsAnswered k c answer l → SameOwn k c answer → KeepsGiven k l
    → ((a : Address) → l.subscribed a ≡ k.subscribed a) → l.taken ≡ k.taken → Attends k s → Attends l s
plain-on k l s c answer event same keeps subscribed taken is =
    attends-on k l s c answer event same keeps (watches-on k l s.watching c answer event subscribed taken is.watches) is

-- a session without an attempt owes nothing of one, and the rest as before
pub closes : (k : Known) (s : Session) → Attends k s → Attends k (closed s)
closes k s is = record { on = is.on; shards = is.shards; client = is.client; begun = is.begun; counts = is.counts; attempt = tt; watches = is.watches }
