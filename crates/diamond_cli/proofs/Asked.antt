-- Words that ask to run a script are of one form, and ask for nothing else.
use Rattle.std.proofs.Common.{◌≡◌, ◌⊎◌, ℕ, Bool, false, nat_eq, List, Option, Some, None, inl, inr, refl, sym, ap, ◌∙◌, subst}
use Rattle.std.proofs.lemmas.Bool.{eqb-false}
use denote.Bor.{Bor}
use Rattle.rdt_types.specs.declared.settings.Settings.{Settings}
use Rattle.cli_words.specs.declared.name.CommandName.{CommandName}
use Rattle.cli_words.specs.declared.name.CommandName.TheVariants as command
use Rattle.cli_words.specs.declared.plan.Plan.{Plan}
use Rattle.cli_words.specs.declared.plan.Plan.TheVariants as plan
use Rattle.cli_words.specs.declared.refusal.BadWords.{BadWords}
use Rattle.cli_words.specs.declared.refusal.BadWords.TheVariants as bad_words
use Rattle.cli_words.specs.declared.refusal.WordsError.{WordsError}
use Rattle.cli_words.specs.declared.refusal.WordsError.TheVariants as words_error
use Rattle.cli_words.specs.Forms.{Word, texts, Given, IsNoForm, IsPlan, Spells}
use Rattle.cli_words.specs.Refusals.{Refuses}
use Rattle.cli_words.proofs.Complete.{one_form}
use Rattle.script_runner.specs.declared.status.TheConstants.{NO_MEMORY}
use Rattle.diamond_cli.specs.declared.top.TheConstants.{BAD_WORDS}
use Rattle.diamond_cli.specs.Words.{AsksNothing, words_refusal}

-- words whose plan is another's by name spell that
pub plan-asks : (words : List Word) (p q : Plan) → Spells words p → p ≡ q → Spells words q
plan-asks words p q spells is = subst (Spells words) is spells

-- words that spell a plan to run, or one to serve, ask for something
pub runs-something : (words : List (Bor Word)) (p : Plan) (settings : Settings) → Spells (texts words) p → p ≡ plan.Run settings
    → AsksNothing words → ⊥
runs-something words p settings spells is nothing = nothing.0 (settings, plan-asks (texts words) p (plan.Run settings) spells is)

-- and so with a plan to serve in memory
pub serves-something : (words : List (Bor Word)) (p : Plan) (settings : Settings) (address : Word) (sessions : ℕ) (wire : Bool) → Spells (texts words) p
    → p ≡ plan.Serve settings address sessions None wire → AsksNothing words → ⊥
serves-something words p settings address sessions wire spells is nothing =
    nothing.1 (settings, address, sessions, wire, plan-asks (texts words) p (plan.Serve settings address sessions None wire) spells is)

-- or in a file
pub files-something : (words : List (Bor Word)) (p : Plan) (settings : Settings) (address : Word) (sessions : ℕ) (path : Word) (wire : Bool)
    → Spells (texts words) p → p ≡ plan.Serve settings address sessions (Some path) wire → AsksNothing words → ⊥
files-something words p settings address sessions path wire spells is nothing =
    nothing.2 (settings, address, sessions, path, wire, plan-asks (texts words) p (plan.Serve settings address sessions (Some path) wire) spells is)

-- or one to audit
pub audits-something : (words : List (Bor Word)) (p : Plan) (path : Word) (at : Option ℕ) → Spells (texts words) p → p ≡ plan.Audit path at
    → AsksNothing words → ⊥
audits-something words p path at spells is nothing = nothing.3 (path, at, plan-asks (texts words) p (plan.Audit path at) spells is)

-- or one for a session over a store elsewhere
pub remotes-something : (words : List (Bor Word)) (p : Plan) (address : Word) → Spells (texts words) p → p ≡ plan.Remote address
    → AsksNothing words → ⊥
remotes-something words p address spells is nothing = nothing.4 (address, plan-asks (texts words) p (plan.Remote address) spells is)

-- or one for a load
pub loads-something : (words : List (Bor Word)) (p : Plan) (settings : Settings) (seed count : ℕ) → Spells (texts words) p
    → p ≡ plan.Load settings seed count → AsksNothing words → ⊥
loads-something words p settings seed count spells is nothing =
    nothing.5 (settings, seed, count, plan-asks (texts words) p (plan.Load settings seed count) spells is)

-- a plan whose file is another's by name
pub with-file : (p : Plan) (settings : Settings) (address : Word) (sessions : ℕ) (file other : Option Word) (wire : Bool)
    → p ≡ plan.Serve settings address sessions file wire → file ≡ other → p ≡ plan.Serve settings address sessions other wire
with-file p settings address sessions file other wire is same = is ∙ ap (λ f. plan.Serve settings address sessions f wire) same

-- words that were refused are of no form
no-form : (words : List Word) (bad : BadWords) → Refuses words (words_error.BadWords bad) → IsNoForm words
no-form words (bad_words.Refused place word w) is = is.no_form
no-form words (bad_words.CutShort missing) is = is.no_form

-- so they spell no plan
pub refused-no-plan : (words : List Word) (error : WordsError) (bad : BadWords) (p : Plan) → Refuses words error → error ≡ words_error.BadWords bad
    → Spells words p → ⊥
refused-no-plan words error bad p refuses is spells =
    no-form words bad (subst (Refuses words) is refuses) spells.name spells.given spells.form

-- ---- words of which no command was read

-- where they spell one, memory was wanting
pub spelled-wanting : (words : List Word) (error : WordsError) (p : Plan) → Refuses words error → Spells words p
    → words_refusal error ≡ NO_MEMORY
spelled-wanting words (words_error.BadWords bad) p refuses spells =
    absurd (refused-no-plan words (words_error.BadWords bad) bad p refuses refl spells)
spelled-wanting words words_error.NoMemory p refuses spells = refl

-- where that is told by the status of bad words, they ask for nothing
pub unread-nothing : (words : List (Bor Word)) (error : WordsError) → Refuses (texts words) error → words_refusal error ≡ BAD_WORDS
    → AsksNothing words
unread-nothing words (words_error.BadWords bad) refuses is =
    let none : (p : Plan) → Spells (texts words) p → ⊥ =
    λ p spells. refused-no-plan (texts words) (words_error.BadWords bad) bad p refuses refl spells in (
      λ asks. none _ asks.1,
      λ asks. none _ asks.4,
      λ asks. none _ asks.5,
      λ asks. none _ asks.2,
      λ asks. none _ asks.1,
      λ asks. none _ asks.3,
    )
unread-nothing words words_error.NoMemory refuses is = absurd (cc is)

-- there are two such statuses
pub unread-statuses : (error : WordsError) → (words_refusal error ≡ BAD_WORDS) ⊎ (words_refusal error ≡ NO_MEMORY)
unread-statuses (words_error.BadWords bad) = inl refl
unread-statuses words_error.NoMemory = inr refl

-- ---- words ask for one thing

-- the commands by number
command_number : CommandName → ℕ
command_number command.Run = 0
command_number command.Serve = 1
command_number command.Audit = 2
command_number command.Remote = 3
command_number command.Load = 4

-- and so their plans
abbrev pub plan_number : Plan → ℕ
plan_number (plan.Run settings) = 0
plan_number (plan.Serve settings address sessions file wire) = 1
plan_number (plan.Audit path at) = 2
plan_number (plan.Remote address) = 3
plan_number (plan.Load settings seed count) = 4

-- a plan is that of its command
plan-number : (c : CommandName) (given : Given) (p : Plan) → IsPlan c given p → plan_number p ≡ command_number c
unfolding command_number
plan-number command.Run given (plan.Run settings) is = refl
plan-number command.Run given (plan.Serve settings address sessions file wire) is = absurd is
plan-number command.Run given (plan.Audit path at) is = absurd is
plan-number command.Run given (plan.Remote address) is = absurd is
plan-number command.Run given (plan.Load settings seed count) is = absurd is
plan-number command.Serve given (plan.Run settings) is = absurd is
plan-number command.Serve given (plan.Serve settings address sessions file wire) is = refl
plan-number command.Serve given (plan.Audit path at) is = absurd is
plan-number command.Serve given (plan.Remote address) is = absurd is
plan-number command.Serve given (plan.Load settings seed count) is = absurd is
plan-number command.Audit given (plan.Run settings) is = absurd is
plan-number command.Audit given (plan.Serve settings address sessions file wire) is = absurd is
plan-number command.Audit given (plan.Audit path at) is = refl
plan-number command.Audit given (plan.Remote address) is = absurd is
plan-number command.Audit given (plan.Load settings seed count) is = absurd is
plan-number command.Remote given (plan.Run settings) is = absurd is
plan-number command.Remote given (plan.Serve settings address sessions file wire) is = absurd is
plan-number command.Remote given (plan.Audit path at) is = absurd is
plan-number command.Remote given (plan.Remote address) is = refl
plan-number command.Remote given (plan.Load settings seed count) is = absurd is
plan-number command.Load given (plan.Run settings) is = absurd is
plan-number command.Load given (plan.Serve settings address sessions file wire) is = absurd is
plan-number command.Load given (plan.Audit path at) is = absurd is
plan-number command.Load given (plan.Remote address) is = absurd is
plan-number command.Load given (plan.Load settings seed count) is = refl

-- WORDS ARE OF ONE COMMAND: they don't spell the plans of two.
pub other-command : (words : List Word) (p q : Plan) → nat_eq (plan_number p) (plan_number q) ≡ false → Spells words p → Spells words q → ⊥
other-command words p q differ one two =
    eqb-false (plan_number p) (plan_number q) differ
    (plan-number one.name one.given p one.plan
    ∙ ap command_number (one_form words one.name two.name one.given two.given one.form two.form).0
    ∙ sym (plan-number two.name two.given q two.plan))

-- nor do words that ask to serve in memory ask to serve in a file
pub memory-no-file : (words : List Word) (settings own : Settings) (address there : Word) (sessions many : ℕ) (path : Word) (wire other : Bool)
    → Spells words (plan.Serve settings address sessions None wire) → Spells words (plan.Serve own there many (Some path) other) → ⊥
memory-no-file words settings own address there sessions many path wire other memory files =
    by memory.name files.name memory.given files.given memory.plan files.plan
    (one_form words memory.name files.name memory.given files.given memory.form files.form).1
  where
    by : (c d : CommandName) (g h : Given) → IsPlan c g (plan.Serve settings address sessions None wire)
        → IsPlan d h (plan.Serve own there many (Some path) other) → g ≡ h → ⊥
    by command.Run d g h one two e = one
    by command.Audit d g h one two e = one
    by command.Remote d g h one two e = one
    by command.Load d g h one two e = one
    by command.Serve command.Run g h one two e = two
    by command.Serve command.Audit g h one two e = two
    by command.Serve command.Remote g h one two e = two
    by command.Serve command.Load g h one two e = two
    by command.Serve command.Serve g h one two e =
        let no : ◌≡◌ {A = Option Word} None (Some path) = one.3 ∙ ap (λ (x : Given). x.file) e ∙ sym two.3 in absurd (cc no)
