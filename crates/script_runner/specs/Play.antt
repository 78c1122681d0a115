-- What a script does: the world that its lines make, and the bytes that answer them.
--
-- Each line is tested in this order: whether it is too long; whether it asks for nothing; whether its first word is a client who
-- hasn't quit; whether it lets a shard follow. The rest is a line of the client's session, over the client's view of the one store.
-- (Too long a line is told from all others where it is cut from the input.)
use Rattle.std.specs.Prelude.{◌≡◌, ℕ, zero, suc, if◌then◌else◌, List, [], ◌∷◌, ◌++◌, fold, length, set, get_or, Option, Some, None, codes, refl}
use Rattle.std.specs.Fmt.{decimal}
use Rattle.dio_core.specs.declared.line.TheConstants.{NEWLINE}
use Rattle.dio_core.specs.declared.line.Line.{Line}
use Rattle.dio_core.specs.declared.line.Line.TheVariants as line
use Rattle.dio_core.specs.Lines.{lines, line_of as cut_of}
use Rattle.rdt_types.specs.declared.settings.Settings.{Settings}
use Rattle.session_text.specs.declared.reply.Reply.{Reply}
use Rattle.session_text.specs.declared.reply.Reply.TheVariants as reply
use Rattle.session_text.specs.declared.reply.Why.{Why}
use Rattle.session_text.specs.declared.reply.Why.TheVariants as why
use Rattle.session_text.specs.Printing.{printed_reply}
use Rattle.txn_grammar.specs.Characters.{Text}
use Rattle.txn_lang.specs.declared.checked.Checked.{Checked}
use Rattle.docc_prepare.specs.declared.limits.TheConstants.{CLIENTS}
use Rattle.docc_prepare.specs.Stores.{Store, seen_by, first_store, saw, followed}
use Rattle.call_programs.specs.Played.{play_program}
use Rattle.client_watches.specs.Watching.{none_yet}
use Rattle.session_core.specs.declared.session.Session.{Session}
use Rattle.session_core.specs.declared.turn.Turn.{Turn}
use Rattle.session_core.specs.declared.turn.Turn.TheVariants as turn
use Rattle.session_core.specs.Lines.{line_of}
use Rattle.session_core.specs.declared.line.Line.{Line as Asked}
use Rattle.session_core.specs.declared.line.Line.TheVariants as asks
use Rattle.session_core.specs.LinePrograms.{line as program_of}
use Rattle.session_core.specs.Events.{said}
use Rattle.session_core.specs.Verbs.{LineEnd}
use Rattle.session_core.specs.Words.{trimmed_start, is_quiet}
use Rattle.script_runner.specs.Words.{first_word, after_word, client_named, is_follow, shard_named}

-- ---- worlds

-- What a script has: the store, and the session of each client, or None where the client has quit.
pub record ScriptWorld : Type 0 where
  pub store : Store
  pub sessions : List (Option Session)

-- a client's session, before its first line
abbrev pub first_session : ℕ → Session
first_session client = record { client = client; seq = 1; at = 0; attempt = None; watching = none_yet 0; over = None }

-- those of the first so many clients
abbrev pub first_sessions : ℕ → List (Option Session)
first_sessions zero = []
first_sessions (suc n) = first_sessions n ++ Some (first_session n) ∷ []

-- Nothing is committed, and nobody has quit.
abbrev pub first_world : Settings → ScriptWorld
first_world settings = record { store = first_store settings.shards settings.window settings.limit; sessions = first_sessions CLIENTS }

-- the session of a client, if it goes on
abbrev pub session_of : ScriptWorld → ℕ → Option Session
session_of world client = get_or world.sessions client None

-- ---- replies

-- whom a reply names: a client, or nobody
abbrev pub named : Option ℕ → Text
named None = codes "-"
named (Some client) = decimal client

-- a reply line: whom it names, a space, the words and a newline
abbrev pub reply_line : Option ℕ → Text → Text
reply_line client words = ((named client ++ 32 ∷ []) ++ words) ++ NEWLINE ∷ []

-- the lines of replies, in their order
abbrev pub reply_lines : Option ℕ → List Reply → Text
reply_lines client [] = []
reply_lines client (r ∷ rest) = reply_line client (printed_reply r) ++ reply_lines client rest

-- a refusal
abbrev pub refused_line : Option ℕ → Why → Text
refused_line client reason = reply_line client (printed_reply (reply.Refused reason))

-- The lines of a turn. In a script nobody commits while a client waits, so a client that would wait is told that it would.
abbrev pub turn_lines : ℕ → Turn → Text
turn_lines client turn.Quiet = []
turn_lines client (turn.Replies replies) = reply_lines (Some client) replies
turn_lines client turn.WaitWanted = reply_line (Some client) (printed_reply reply.Idle)
turn_lines client (turn.Ended replies) = reply_lines (Some client) replies

-- WHAT IS TOLD OF A LINE.
pub data Told : Type 0 where
  -- it asks for nothing
  nothing : Told
  -- it is no client's, and is refused
  nobody : Why → Told
  -- a client's session was asked for this, and answers this
  answered : ℕ → Asked → Turn → Told
  -- a client let a shard follow to a front
  follow : ℕ → ℕ → ℕ → Told

-- the bytes that answer it
abbrev pub printed : Told → Text
printed Told.nothing = []
printed (Told.nobody reason) = refused_line None reason
printed (Told.answered client asked t) = turn_lines client t
printed (Told.follow client shard front) = reply_line (Some client) (printed_reply (reply.Followed shard front))

-- ---- the line of a client

-- What it comes to: the store, the client's session, and what is told of it.
pub record Did : Type 0 where
  pub store : Store
  pub session : Option Session
  pub told : Told

-- what a line did: the store, the session and the answer behind it
abbrev pub did : Store → Option Session → Told → Did
did store session told = record { store = store; session = session; told = told }

-- a session goes on, unless its turn ended it
abbrev pub left : Session → Turn → Option Session
left session (turn.Ended replies) = None
left session t = Some session

-- A LINE OF A SESSION IS PLAYED: its program runs over the store, each call a step of that. It gives what the program ends with,
-- and the store then.
abbrev pub play_line : ℕ → Store → Session → Asked → Option LineEnd × Store
play_line client store session asked = play_program client store (program_of store.shards (seen_by store client) session asked)

-- The program's end is the session behind the line, and its answer. (By the law that lines are over, each program comes to an end.)
abbrev pub ended_line : ℕ → Session → Asked → Option LineEnd × Store → Did
ended_line client session asked (Some end, after) = did after (left end.0 end.1) (Told.answered client asked end.1)
ended_line client session asked (None, after) = did after (Some session) Told.nothing

-- what a line that was read does
abbrev pub asked_line : ℕ → Store → Session → Asked → Did
asked_line client store session asked = ended_line client session asked (play_line client store session asked)

-- what a session's line does
abbrev pub session_line : ℕ → Store → Session → Text → Did
session_line client store session text = asked_line client store session (line_of text)

-- `follow K`: the shard follows to the journal's end. Where it names no shard, it is of no verb's form.
abbrev pub follow_line : ℕ → Store → Session → Option ℕ → Did
follow_line client store session None = did store (Some session) (Told.answered client (asks.Refused why.Verb) (said (reply.Refused why.Verb)))
follow_line client store session (Some shard) =
    did (followed store client shard) (Some session) (Told.follow client shard (length store.journal))

-- a client who has quit is none
abbrev pub client_line : ℕ → Store → Option Session → Text → Did
client_line client store None text = did store None (Told.nobody why.Client)
client_line client store (Some session) text =
    if is_follow text then follow_line client store session (shard_named store.shards (after_word text)) else session_line client store session text

-- ---- one line

-- the world after a line, and what is told of it
pub record Done : Type 0 where
  pub world : ScriptWorld
  pub told : Told

-- what a line of a script did
abbrev pub done : ScriptWorld → Told → Done
done world told = record { world = world; told = told }

-- the client's line has changed the store and the client's session
abbrev pub placed : ScriptWorld → ℕ → Did → Done
placed world client d = done (record { store = d.store; sessions = set world.sessions client d.session }) d.told

-- what a line does whose first word names this client, or none
abbrev pub named_line : ScriptWorld → Option ℕ → Text → Done
named_line world None text = done world (Told.nobody why.Client)
named_line world (Some client) text = placed world client (client_line client world.store (session_of world client) text)

-- a line without the blanks at its beginning
abbrev pub text_line : ScriptWorld → Text → Done
text_line world text = if is_quiet text then done world Told.nothing else named_line world (client_named (first_word text)) (after_word text)

-- what a line of a script does, as it was cut
abbrev pub answer : ScriptWorld → Line → Done
answer world (line.Bytes bytes) = text_line world (trimmed_start bytes)
answer world line.TooLong = done world (Told.nobody why.Long)
answer world line.End = done world Told.nothing

-- ---- what a script does

-- What lines have made of the world that they began with, what was told of each, and the bytes of that.
pub record Played : Type 0 where
  pub world : ScriptWorld
  pub told : List Told
  pub output : Text

-- before the first line
abbrev pub nothing_played : Settings → Played
nothing_played settings = record { world = first_world settings; told = []; output = [] }

-- what a line does as it stands in the input
abbrev pub cut_line : ScriptWorld → Text → Done
cut_line world raw = answer world (cut_of raw)

-- the world after such a line
abbrev pub world_after : ScriptWorld → Text → ScriptWorld
world_after world raw = (cut_line world raw).world

-- the reply to it
abbrev pub reply_to : ScriptWorld → Text → Text
reply_to world raw = printed (cut_line world raw).told

-- and then one more line
abbrev pub one_more : Played → Text → Played
one_more played raw = record {
  world = world_after played.world raw;
  told = played.told ++ (cut_line played.world raw).told ∷ [];
  output = played.output ++ reply_to played.world raw;
}

-- lines in order
abbrev pub played : Settings → List Text → Played
played settings raws = fold one_more (nothing_played settings) raws

-- a whole input
abbrev pub play : Settings → Text → Played
play settings bytes = played settings (lines bytes)

-- how many commits it leaves
abbrev pub commits_left : Settings → Text → ℕ
commits_left settings bytes = length (play settings bytes).world.store.journal

-- ---- worked lines

-- a reply to nobody's line
nobody-line : reply_line None (codes "refused client") ≡ codes "- refused client" ++ NEWLINE ∷ []
nobody-line = refl

-- who has quit has no session, and neither has who is no client
nobody-there : session_of (record { store = first_store 4 2 100; sessions = None ∷ [] }) 0 ≡ None
nobody-there = refl

-- the client whose turn it is, before its first line, and the store where nothing was done
abbrev here : Store
here = first_store 4 2 100

-- what is seen is told, and asks nothing of the store
seen-is-told : asked_line 5 here (first_session 5) asks.Seen ≡ did here (Some (first_session 5)) (Told.answered 5 asks.Seen (said (reply.Seen 0)))
seen-is-told = refl

-- a number that is ahead: the program has learnt how many commits there are
ahead-is-told :
    (body : Checked)
    → asked_line 5 here (first_session 5) (asks.At 3 body)
    ≡ did (saw here 5 0) (Some (first_session 5)) (Told.answered 5 (asks.At 3 body) (said (reply.Ahead 3 0)))
ahead-is-told body = refl

-- there is nothing to wait for, and nobody commits meanwhile
nothing-to-wait-for :
    asked_line 5 here (first_session 5) asks.Wait ≡ did (saw here 5 0) (Some (first_session 5)) (Told.answered 5 asks.Wait turn.WaitWanted)
nothing-to-wait-for = refl

-- so the client is told that it would wait
idle-is-told : (client : ℕ) → printed (Told.answered client asks.Wait turn.WaitWanted) ≡ reply_line (Some client) (codes "idle")
idle-is-told client = refl

-- who quits has no session any more
quit-ends : (asked_line 5 here (first_session 5) asks.Quit).session ≡ None
quit-ends = refl

-- a script without lines leaves no commit
none-left : (settings : Settings) → commits_left settings [] ≡ 0
none-left settings = refl
