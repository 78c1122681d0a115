-- How many calls a line makes at most, whatever it is answered.
use Rattle.std.specs.Prelude.{◌≡◌, ℕ, ◌+◌, ◌*◌, ◌≤◌, ◌<◌, max, refl}
use Rattle.rdt_types.specs.declared.limits.TheConstants.{MOST_SHARDS}
use Rattle.session_text.specs.declared.limits.TheConstants.{MOST_ATTEMPTS}
use Rattle.txn_grammar.specs.Characters.{Text}
use Rattle.txn_lang.specs.declared.checked.Checked.{Checked}
use Rattle.txn_lang.specs.declared.limits.TheConstants.{TICK_LIMIT}
use Rattle.session_core.specs.declared.line.Line.{Line}
use Rattle.session_core.specs.declared.line.Line.TheVariants as asked
use Rattle.session_core.specs.declared.session.Session.{Session}
use Rattle.client_watches.specs.Bounds.{most_calls as watch_calls}
use Rattle.client_watches.specs.GoingOn.{WatchLine}
use Rattle.client_watches.specs.Watching.{none_yet}
use Rattle.session_core.specs.Lines.{line_of}
use Rattle.session_core.specs.Events.{with_watching}

-- ---- the bounds

-- An attempt makes a read for each value that its run needs, and each costs a tick of those that a run has. It prepares each
-- shard once at most, and then it appends.
abbrev pub attempt_calls : ℕ
attempt_calls = TICK_LIMIT + MOST_SHARDS + 1

-- attempts, each behind a refresh
abbrev pub calls_of_attempts : ℕ → ℕ
calls_of_attempts attempts = attempts * (attempt_calls + 1)

-- THE CALLS OF A LINE, AT MOST, a row a form of line: a look makes a refresh and then reads alone; the rows of watches are theirs, and
-- `wait` makes a refresh besides.
abbrev pub most_calls : Session → Line → ℕ
most_calls s (asked.Begin body) = 1
most_calls s (asked.Try tries body) = calls_of_attempts (max 1 tries)
most_calls s asked.Step = 1
most_calls s asked.Go = attempt_calls
most_calls s (asked.Look body) = TICK_LIMIT + 1
most_calls s (asked.At n body) = TICK_LIMIT + 1
most_calls s (asked.Watch name body) = watch_calls (WatchLine.watch name body) s.watching
most_calls s (asked.Unwatch name) = watch_calls (WatchLine.unwatch name) s.watching
most_calls s asked.Sync = watch_calls WatchLine.sync s.watching
most_calls s asked.Wait = 1 + watch_calls WatchLine.sync s.watching
most_calls s l = 0

-- ---- laws

-- A line that was read makes one try or more, and no more than the form of its verb allows.
abbrev pub TriesAreFew : Type 0
TriesAreFew = (text : Text) (tries : ℕ) (body : Checked) → line_of text ≡ asked.Try tries body → (0 < tries) × (tries ≤ MOST_ATTEMPTS)

-- lines that aren't of watches
abbrev pub IsPlain : Line → Type 0
IsPlain (asked.Watch name body) = ⊥
IsPlain (asked.Unwatch name) = ⊥
IsPlain asked.Sync = ⊥
IsPlain asked.Wait = ⊥
IsPlain l = Unit {0}

-- ---- worked lines

-- one attempt: 10,000 reads, 16 shards, an append
one-attempt : attempt_calls ≡ 10017
one-attempt = refl

-- and sixteen of them
sixteen-attempts : calls_of_attempts MOST_ATTEMPTS ≡ 160288
sixteen-attempts = refl

-- `begin` makes one call, and `seen` none
begin-refreshes : (s : Session) (body : Checked) → most_calls s (asked.Begin body) ≡ 1
begin-refreshes s body = refl

seen-asks-nothing : (s : Session) → most_calls s asked.Seen ≡ 0
seen-asks-nothing s = refl

-- without watches `wait` asks whether there is a commit, and for what changed
wait-of-none : (s : Session) → most_calls (with_watching s (none_yet 0)) asked.Wait ≡ 2
wait-of-none s = refl
