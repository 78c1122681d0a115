-- The session after a line that isn't of watches, as its answer shows it.
use Rattle.txn_lang.specs.States.{Journal}
use Rattle.session_core.specs.declared.line.Line.{Line}
use Rattle.session_core.specs.declared.session.Session.{Session}
use Rattle.session_core.specs.declared.turn.Turn.{Turn}
use Rattle.session_core.specs.Explained.{Setting, Attempting, attempting_of, attempting_after}

-- a session that has come so far with its attempts
abbrev pub with_attempting : Session → Attempting → Session
with_attempting s x = record s { client = x.client; seq = x.seq; attempt = x.attempt }

-- the session behind a line: it has come as far with its attempts as the answer shows, and its watches stay
abbrev pub session_after : Setting → Journal → Session → Line → Turn → Session
session_after set journal s l t = with_attempting s (attempting_after set journal (attempting_of s) l t)
