-- What a line of a session does, as a program of calls: a row a form of line. Those of watches stand on the programs of
-- client_watches, and the others on `specs/Verbs`.
use Rattle.std.specs.Prelude.{◌≡◌, ℕ, nat_lt, if◌then◌else◌, [], ◌∷◌, Option, Some, None, refl}
use Rattle.plain_data.specs.Texts.{Bytes}
use Rattle.session_text.specs.declared.reply.Reply.TheVariants as reply
use Rattle.txn_lang.specs.declared.checked.Checked.{Checked}
use Rattle.docc_prepare.specs.declared.attempt.Attempt.{Attempt}
use Rattle.docc_prepare.specs.Calls.{Known}
use Rattle.docc_prepare.specs.Stores.{first_store, saw}
use Rattle.call_programs.specs.Programs.{Program, bind}
use Rattle.call_programs.specs.Played.{play_program}
use Rattle.client_watches.specs.Lines.{Told}
use Rattle.client_watches.specs.Lines as watches
use Rattle.session_core.specs.declared.line.Line.{Line}
use Rattle.session_core.specs.declared.line.Line.TheVariants as asked
use Rattle.session_core.specs.declared.session.Session.{Session}
use Rattle.session_core.specs.declared.turn.Turn.TheVariants as turn
use Rattle.session_core.specs.Events.{with_attempt, closed, with_watching, said}
use Rattle.session_core.specs.Verbs.{LineEnd, says, refresh_then, begin, commit, step, go, give_up, look}

-- ---- lines of watches

-- what a line of watches has left is the session's, and its replies are answered
abbrev pub leaves : Session → Told → Program LineEnd
leaves s told = Program.ends (with_watching s told.0, turn.Replies told.1)

-- a line of watches, in a session
abbrev pub of_watches : Session → Program Told → Program LineEnd
of_watches s p = bind p (leaves s)

-- `WATCH`
abbrev pub watch : Session → Bytes → Checked → Program LineEnd
watch s name body = of_watches s (watches.watch s.watching name body)

-- `UNWATCH`
abbrev pub unwatch : Session → Bytes → Program LineEnd
unwatch s name = of_watches s (watches.unwatch s.watching name)

-- `SYNC`
abbrev pub sync : Session → Program LineEnd
sync s = of_watches s (watches.sync s.watching)

-- where there is a commit past so many that were seen, as `sync`; else there is to be one first
abbrev pub wait_for : Session → ℕ → ℕ → Program LineEnd
wait_for s seen n = if nat_lt seen n then sync s else Program.ends (s, turn.WaitWanted)

-- `WAIT`, where so many were seen
abbrev pub wait : ℕ → Session → Program LineEnd
wait seen s = refresh_then (wait_for s seen)

-- ---- all lines

-- THE PROGRAM OF A LINE, over so many shards, where so many commits are seen
abbrev pub line : ℕ → ℕ → Session → Line → Program LineEnd
-- nothing is asked, and nothing answered
line shards seen s asked.Quiet = Program.ends (s, turn.Quiet)
-- a refusal changes nothing
line shards seen s (asked.Refused reason) = says s (reply.Refused reason)
-- an attempt is opened, driven by an event or to its end, or given up
line shards seen s (asked.Begin body) = begin shards s body
line shards seen s asked.Step = step s
line shards seen s asked.Go = go s
line shards seen s asked.Drop = give_up s
-- attempts at a body; `do` is one try
line shards seen s (asked.Try tries body) = commit shards tries s body
-- a look leaves the session as it is
line shards seen s (asked.Look body) = bind (look None body) (says s)
line shards seen s (asked.At n body) = bind (look (Some n) body) (says s)
-- watches
line shards seen s (asked.Watch name body) = watch s name body
line shards seen s (asked.Unwatch name) = unwatch s name
line shards seen s asked.Sync = sync s
line shards seen s asked.Wait = wait seen s
-- how many commits are seen is known
line shards seen s asked.Seen = says s (reply.Seen seen)
-- an open attempt is given up, and the session has ended
line shards seen s asked.Quit = Program.ends (closed s, turn.Ended (reply.Dropped ∷ []))

-- over a backend of which this is known
abbrev pub line_over : Known → Session → Line → Program LineEnd
line_over k s asked = line k.shards k.seen s asked

-- ---- worked lines

-- `quit` asks nothing, and gives the open attempt up
quit-closes :
    (shards seen : ℕ) (s : Session) (a : Attempt)
    → line shards seen (with_attempt s (Some a)) asked.Quit ≡ Program.ends (closed s, turn.Ended (reply.Dropped ∷ []))
quit-closes shards seen s a = refl

-- over a store without commits there is nothing to tell of, and a line that waits is to wait
wait-waits : (s : Session) → play_program 5 (first_store 4 2 100) (wait 0 s) ≡ (Some (s, turn.WaitWanted), saw (first_store 4 2 100) 5 0)
wait-waits s = refl

-- `seen` asks nothing
seen-is-known : (s : Session) → line 4 3 s asked.Seen ≡ Program.ends (s, said (reply.Seen 3))
seen-is-known s = refl

-- a number that is ahead leaves the session as it is
at-leaves-the-session :
    (s : Session) (body : Checked)
    → play_program 5 (first_store 4 2 100) (line 4 0 s (asked.At 3 body)) ≡ (Some (s, said (reply.Ahead 3 0)), saw (first_store 4 2 100) 5 0)
at-leaves-the-session s body = refl
