-- How a client's story goes on behind a line that passes.
use Rattle.std.proofs.Common.{◌≡◌}
use Rattle.txn_lang.specs.States.{Journal}
use Rattle.docc_prepare.specs.Calls.{Known}
use Rattle.docc_prepare.specs.Backends.{IsPrefix}
use Rattle.client_watches.specs.Explained.{ShownList, shown_of}
use Rattle.docc_prepare.specs.Readable.{CanRead}
use Rattle.session_core.specs.declared.line.Line.{Line}
use Rattle.session_core.specs.declared.session.Session.{Session}
use Rattle.session_core.specs.declared.turn.Turn.{Turn}
use Rattle.session_core.specs.Explained.{Setting, Story, Passes, story_after, setting_of, LinePasses, AreReported, MayBeTold}
use Rattle.session_core.proofs.Shown.{begun-below, from-on, reported-after}
use Rattle.session_core.proofs.Stays.{passes-stays, story-same}

-- a line that passes at a journal passes at every longer one, and leaves the same story there
pub record GoesOnBy (set : Setting) (there later : Journal) (y : Story) (line : Line) (turn : Turn) (watches : ShownList) : Type 0 where
  pub passes : Passes set later y line turn watches
  pub same : story_after set later y line turn watches ≡ story_after set there y line turn watches

-- What passes stays, and so does the story that it leaves.
pub story-stays : (set : Setting) (there later : Journal) (y : Story) (line : Line) (turn : Turn) (watches : ShownList) → CanRead there → CanRead later
    → AreReported y → IsPrefix there later → Passes set there y line turn watches → GoesOnBy set there later y line turn watches
story-stays set there later y line turn watches could can reported grows passes = record {
  passes = passes-stays set there later grows could can y line turn watches reported passes;
  same = story-same set there later grows could can y line turn watches passes;
}

-- Behind a line that passes the story is one that may be told: its numbers were seen, its attempt's bases aren't below what was
-- shown when it began, and no watch was reported past what is shown.
pub story-told : (k l : Known) (y : Story) (line : Line) (turn : Turn) (after : Session) (old new : Journal) → MayBeTold k y
    → LinePasses k l y line turn after old new
    → MayBeTold l (story_after (setting_of k) new y line turn (shown_of after.watching.watches))
story-told k l y line turn after old new may passes = record {
  seen = passes.shown;
  before = begun-below y line turn may.before;
  bases = from-on (setting_of k) new y may.before line turn (shown_of after.watching.watches) may.bases passes.passes;
  reported = reported-after (setting_of k) new y line turn (shown_of after.watching.watches) may.reported passes.passes;
}
