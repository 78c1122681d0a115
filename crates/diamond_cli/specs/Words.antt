-- What the words of a command ask for. Their forms are those of cli_words.
use Rattle.std.specs.Prelude.{◌≡◌, ℕ, Bool, List, [], ◌∷◌, Option, Some, None, codes, refl}
use denote.Bor.{Bor}
use Rattle.rdt_types.specs.declared.settings.Settings.{Settings}
use Rattle.cli_words.specs.declared.name.CommandName.TheVariants as command
use Rattle.cli_words.specs.declared.plan.Plan.TheVariants as plan
use Rattle.cli_words.specs.declared.refusal.WordsError.{WordsError}
use Rattle.cli_words.specs.declared.refusal.WordsError.TheVariants as words_error
use Rattle.cli_words.specs.Forms.{Word, texts, HasSettings, nothing_given, Spells}
use Rattle.script_runner.specs.declared.status.TheConstants.{NO_MEMORY}
use Rattle.diamond_cli.specs.declared.top.TheConstants.{BAD_WORDS}

BAD_WORDS-is : BAD_WORDS ≡ 1
BAD_WORDS-is = refl

-- they ask to run a script over a store with these settings
abbrev pub AsksRunWith : List (Bor Word) → Settings → Type 0
AsksRunWith words settings = Spells (texts words) (plan.Run settings)

-- they ask to run a script
abbrev pub AsksRun : List (Bor Word) → Type 0
AsksRun words = (settings : Settings) × AsksRunWith words settings

-- they ask to serve over a store with these settings, in memory, at an address, at most so many sessions, over links that bring
-- requests of the wire or lines
abbrev pub AsksServeWith : List (Bor Word) → Settings → Word → ℕ → Bool → Type 0
AsksServeWith words settings address sessions wire = Spells (texts words) (plan.Serve settings address sessions None wire)

-- they ask to serve over a store in memory
abbrev pub AsksServe : List (Bor Word) → Type 0
AsksServe words = (settings : Settings) × (address : Word) × (sessions : ℕ) × (wire : Bool) × AsksServeWith words settings address sessions wire

-- they ask the same of a store whose commits are kept in the file at a path
abbrev pub AsksServeFileWith : List (Bor Word) → Settings → Word → ℕ → Word → Bool → Type 0
AsksServeFileWith words settings address sessions path wire = Spells (texts words) (plan.Serve settings address sessions (Some path) wire)

-- they ask to serve over a store whose commits are kept in a file
abbrev pub AsksServeFile : List (Bor Word) → Type 0
AsksServeFile words =
    (settings : Settings) × (address : Word) × (sessions : ℕ) × (path : Word) × (wire : Bool)
    × AsksServeFileWith words settings address sessions path wire

-- they ask to audit the journal in the file at a path, and for the state after so many commits, if after any
abbrev pub AsksAuditWith : List (Bor Word) → Word → Option ℕ → Type 0
AsksAuditWith words path at = Spells (texts words) (plan.Audit path at)

-- they ask to audit a journal
abbrev pub AsksAudit : List (Bor Word) → Type 0
AsksAudit words = (path : Word) × (at : Option ℕ) × AsksAuditWith words path at

-- they ask to run a session here, over a store that is served at an address
abbrev pub AsksRemoteWith : List (Bor Word) → Word → Type 0
AsksRemoteWith words address = Spells (texts words) (plan.Remote address)

-- they ask for a session over a store elsewhere
abbrev pub AsksRemote : List (Bor Word) → Type 0
AsksRemote words = (address : Word) × AsksRemoteWith words address

-- they ask to run the script that a number makes, of so many rounds, over a store with these settings
abbrev pub AsksLoadWith : List (Bor Word) → Settings → ℕ → ℕ → Type 0
AsksLoadWith words settings seed count = Spells (texts words) (plan.Load settings seed count)

-- they ask for a load
abbrev pub AsksLoad : List (Bor Word) → Type 0
AsksLoad words = (settings : Settings) × (seed : ℕ) × (count : ℕ) × AsksLoadWith words settings seed count

-- they ask for nothing
abbrev pub AsksNothing : List (Bor Word) → Type 0
AsksNothing words =
    (AsksRun words → ⊥) × (AsksServe words → ⊥) × (AsksServeFile words → ⊥) × (AsksAudit words → ⊥) × (AsksRemote words → ⊥)
    × (AsksLoad words → ⊥)

-- the status where no command was read from them
abbrev pub words_refusal : WordsError → ℕ
words_refusal (words_error.BadWords bad) = BAD_WORDS
words_refusal words_error.NoMemory = NO_MEMORY

words_refusal-example : words_refusal words_error.NoMemory ≡ 5
words_refusal-example = refl

-- `run` alone asks for a run, over a store with the standard settings
run-spells : (settings : Settings) → HasSettings nothing_given settings → Spells (codes "run" ∷ []) (plan.Run settings)
run-spells settings standard = record {
  name = command.Run;
  given = nothing_given;
  form = record { rest = []; count = 0; begins = refl; options = (refl, refl); whole = tt };
  plan = standard;
}
