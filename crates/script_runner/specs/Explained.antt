-- WHICH ANSWERS OF A SCRIPT ITS JOURNAL EXPLAINS: for each client, its lines with what each was answered, in their order. What
-- explains an answer of a session is `Passes` of session_core; here a client may let shards follow besides.
use Rattle.std.specs.Prelude.{◌≡◌, ℕ, ◌==◌, max, Bool, false, List, [], ◌∷◌, filter, refl}
use Rattle.rdt_types.specs.declared.settings.Settings.{Settings}
use Rattle.session_text.specs.declared.reply.Why.TheVariants as why
use Rattle.txn_grammar.specs.Characters.{Text}
use Rattle.txn_lang.specs.States.{Journal}
use Rattle.session_core.specs.declared.line.Line.TheVariants as asks
use Rattle.session_core.specs.declared.turn.Turn.TheVariants as turn
use Rattle.session_core.specs.Explained.{Setting, Story, story_of, IsShown, IsPassed, story_after}
use Rattle.script_runner.specs.Play.{Told, first_session, play}

-- the settings of a script, as far as answers go by them: its store begins without commits, so each was run
abbrev pub setting_of : Settings → Setting
setting_of settings = record { trusted = 0; shards = settings.shards; window = settings.window; limit = settings.limit }

-- a client's story before its first line: nothing was shown
abbrev pub first_story : ℕ → Story
first_story client = story_of 0 0 (first_session client)

-- whether something is told to a client
abbrev pub is_to : ℕ → Told → Bool
is_to client (Told.answered c asked t) = c == client
is_to client (Told.follow c shard front) = c == client
is_to client told = false

-- what is told to a client, in its order
abbrev pub told_to : ℕ → List Told → List Told
told_to client tolds = filter (is_to client) tolds

-- Each answer passes behind those before it. A front that a shard followed to is a number that is shown, as others are: not below
-- the greatest that was, and within the journal.
abbrev pub ExplainsTold : Setting → Journal → Story → List Told → Type 0
ExplainsTold set journal y [] = Unit {0}
ExplainsTold set journal y (Told.answered client asked t ∷ rest) =
    IsPassed set journal y asked t (λ later. ExplainsTold set journal (story_after set journal y asked t later) rest)
ExplainsTold set journal y (Told.follow client shard front ∷ rest) =
    IsShown y.low journal front × ExplainsTold set journal (record y { low = max y.low front }) rest
ExplainsTold set journal y (told ∷ rest) = ExplainsTold set journal y rest

-- EVERY CLIENT'S ANSWERS ARE EXPLAINED by the journal that the script leaves.
abbrev pub ExplainsScript : Settings → Text → Type 0
ExplainsScript settings bytes =
    (client : ℕ) → ExplainsTold (setting_of settings) (play settings bytes).world.store.journal (first_story client)
    (told_to client (play settings bytes).told)

-- ---- worked lines

-- what is another's or nobody's is passed over
told_to-example :
    told_to 3 (Told.nobody why.Client ∷ Told.follow 5 0 7 ∷ Told.answered 3 asks.Quiet turn.Quiet ∷ []) ≡ Told.answered 3 asks.Quiet turn.Quiet ∷ []
told_to-example = refl
