-- The forms of a command line: a command, and then its options in any order, each at most once.
use Rattle.std.specs.Prelude.{◌≡◌, ◌≢◌, ◌≤◌, ◌⊎◌, ℕ, zero, suc, Bool, true, false, List, [], ◌∷◌, ◌++◌, map, codes}
use Rattle.std.specs.Prelude.{Option, Some, None, IsSome, unwrap_or, refl}
use Rattle.std.specs.Fmt.{decimal}
use Rattle.std.proofs.Common.{inl, inr}
use Rattle.std.proofs.lemmas.Bool.{eqb-false}
use denote.Bor.{Bor}
use Rattle.rdt_types.specs.declared.limits.TheConstants.{LEAST_SHARDS, MOST_SHARDS, STANDARD_SHARDS, LEAST_WINDOW, MOST_WINDOW}
use Rattle.rdt_types.specs.declared.limits.TheConstants.{STANDARD_WINDOW, LEAST_COMMITS, MOST_COMMITS, STANDARD_COMMITS}
use Rattle.rdt_types.specs.declared.settings.Settings.{Settings}
use Rattle.cli_words.specs.declared.limits.TheConstants.{LEAST_SESSIONS, MOST_SESSIONS, STANDARD_SESSIONS, MOST_AT, MOST_SEED, LEAST_COUNT, MOST_COUNT}
use Rattle.cli_words.specs.declared.name.CommandName.{CommandName}
use Rattle.cli_words.specs.declared.name.CommandName.TheVariants as command
use Rattle.cli_words.specs.declared.name.OptionName.{OptionName}
use Rattle.cli_words.specs.declared.name.OptionName.TheVariants as option
use Rattle.cli_words.specs.declared.plan.Plan.{Plan}
use Rattle.cli_words.specs.declared.plan.Plan.TheVariants as plan

-- a word, by its bytes
abbrev pub Word : Type 0
Word = List ℕ

-- the words of a list of texts
abbrev pub texts : List (Bor Word) → List Word
texts words = map (λ (word : Bor Word). word.now) words

-- `-`, with which no address and no path begins
abbrev pub HYPHEN : ℕ
HYPHEN = 45

-- `=`, which stands between a name and a value
abbrev pub EQUALS : ℕ
EQUALS = 61

signs-are : HYPHEN ∷ EQUALS ∷ [] ≡ codes "-="
signs-are = refl

-- ---- names

-- the word of a command
abbrev pub command_word : CommandName → Word
command_word command.Run = codes "run"
command_word command.Serve = codes "serve"
command_word command.Audit = codes "audit"
command_word command.Remote = codes "remote"
command_word command.Load = codes "load"

-- the word of an option
abbrev pub option_word : OptionName → Word
option_word option.Shards = codes "--shards"
option_word option.Window = codes "--window"
option_word option.Limit = codes "--limit"
option_word option.Sessions = codes "--sessions"
option_word option.Address = codes "--address"
option_word option.File = codes "--file"
option_word option.At = codes "--at"
option_word option.Form = codes "--form"
option_word option.Seed = codes "--seed"
option_word option.Count = codes "--count"

-- Which options a command takes: `run` takes the settings of a store alone, and `load` its seed and its count besides; `serve` takes
-- all but these two and `--at`, `audit` its file and `--at` alone, and `remote` the address alone.
abbrev pub Takes : CommandName → OptionName → Type 0
Takes command.Run option.Sessions = ⊥
Takes command.Run option.Address = ⊥
Takes command.Run option.File = ⊥
Takes command.Run option.At = ⊥
Takes command.Run option.Form = ⊥
Takes command.Run option.Seed = ⊥
Takes command.Run option.Count = ⊥
Takes command.Serve option.At = ⊥
Takes command.Serve option.Seed = ⊥
Takes command.Serve option.Count = ⊥
Takes command.Audit option.Shards = ⊥
Takes command.Audit option.Window = ⊥
Takes command.Audit option.Limit = ⊥
Takes command.Audit option.Sessions = ⊥
Takes command.Audit option.Address = ⊥
Takes command.Audit option.Form = ⊥
Takes command.Audit option.Seed = ⊥
Takes command.Audit option.Count = ⊥
Takes command.Remote option.Shards = ⊥
Takes command.Remote option.Window = ⊥
Takes command.Remote option.Limit = ⊥
Takes command.Remote option.Sessions = ⊥
Takes command.Remote option.File = ⊥
Takes command.Remote option.At = ⊥
Takes command.Remote option.Form = ⊥
Takes command.Remote option.Seed = ⊥
Takes command.Remote option.Count = ⊥
Takes command.Load option.Sessions = ⊥
Takes command.Load option.Address = ⊥
Takes command.Load option.File = ⊥
Takes command.Load option.At = ⊥
Takes command.Load option.Form = ⊥
Takes c o = Unit {0}

-- ---- values

-- A number within limits, by its decimal form: no sign, and no zero in front of other digits.
abbrev pub IsNumber : ℕ → ℕ → Word → ℕ → Type 0
IsNumber least most word n = (word ≡ decimal n) × (least ≤ n) × (n ≤ most)

-- an address or a path is not empty, and doesn't begin with `-`
abbrev pub IsPlace : Word → Type 0
IsPlace [] = ⊥
IsPlace (b ∷ word) = b ≢ HYPHEN

-- What the links of a server bring is named: lines of text, or requests of the wire.
abbrev pub form_word : Bool → Word
form_word false = codes "text"
form_word true = codes "wire"

-- ---- what options give

-- What has been given, and None for what has not.
pub record Given : Type 0 where
  pub shards : Option ℕ
  pub window : Option ℕ
  pub limit : Option ℕ
  pub sessions : Option ℕ
  pub address : Option Word
  pub file : Option Word
  pub at : Option ℕ
  pub wire : Option Bool
  pub seed : Option ℕ
  pub count : Option ℕ

-- no option is given
abbrev pub nothing_given : Given
nothing_given = record {
  shards = None;
  window = None;
  limit = None;
  sessions = None;
  address = None;
  file = None;
  at = None;
  wire = None;
  seed = None;
  count = None;
}

-- An option is given that had not been, and its value is of its form.
abbrev pub Gives : OptionName → Word → Given → Given → Type 0
Gives option.Shards word old new = (old.shards ≡ None) × (n : ℕ) × IsNumber LEAST_SHARDS MOST_SHARDS word n × (new ≡ record old { shards = Some n })
Gives option.Window word old new = (old.window ≡ None) × (n : ℕ) × IsNumber LEAST_WINDOW MOST_WINDOW word n × (new ≡ record old { window = Some n })
Gives option.Limit word old new = (old.limit ≡ None) × (n : ℕ) × IsNumber LEAST_COMMITS MOST_COMMITS word n × (new ≡ record old { limit = Some n })
Gives option.Sessions word old new = (old.sessions ≡ None) × (n : ℕ) × IsNumber LEAST_SESSIONS MOST_SESSIONS word n × (new ≡ record old { sessions = Some n })
Gives option.Address word old new = (old.address ≡ None) × IsPlace word × (new ≡ record old { address = Some word })
Gives option.File word old new = (old.file ≡ None) × IsPlace word × (new ≡ record old { file = Some word })
Gives option.At word old new = (old.at ≡ None) × (n : ℕ) × IsNumber 0 MOST_AT word n × (new ≡ record old { at = Some n })
Gives option.Form word old new = (old.wire ≡ None) × (wire : Bool) × (word ≡ form_word wire) × (new ≡ record old { wire = Some wire })
Gives option.Seed word old new = (old.seed ≡ None) × (n : ℕ) × IsNumber 0 MOST_SEED word n × (new ≡ record old { seed = Some n })
Gives option.Count word old new = (old.count ≡ None) × (n : ℕ) × IsNumber LEAST_COUNT MOST_COUNT word n × (new ≡ record old { count = Some n })

-- An option is spelled by two words, its name and its value, or by one, with `=` between them.
abbrev pub SpellsOption : OptionName → Word → List Word → List Word → Type 0
SpellsOption o value words rest = (words ≡ option_word o ∷ value ∷ rest) ⊎ (words ≡ (option_word o ++ EQUALS ∷ value) ∷ rest)

-- One option of a command, from the words that begin with it to those behind it.
pub record IsOption (c : CommandName) (words rest : List Word) (old new : Given) : Type 0 where
  pub option : OptionName
  pub value : Word
  pub taken : Takes c option
  pub spelled : SpellsOption option value words rest
  pub gives : Gives option value old new

-- So many options of a command, and nothing else.
abbrev pub AreOptions : CommandName → ℕ → List Word → Given → Given → Type 0
AreOptions c zero words old new = (words ≡ []) × (new ≡ old)
AreOptions c (suc n) words old new = (rest : List Word) × (next : Given) × IsOption c words rest old next × AreOptions c n rest next new

-- nothing is missing: who serves has to be told where, so does who goes there, who audits what, and who loads both numbers
abbrev pub IsWhole : CommandName → Given → Type 0
IsWhole command.Run given = Unit {0}
IsWhole command.Serve given = IsSome given.address
IsWhole command.Audit given = IsSome given.file
IsWhole command.Remote given = IsSome given.address
IsWhole command.Load given = IsSome given.seed × IsSome given.count

-- ---- forms

-- These words are a command and its options, which give this.
pub record IsForm (words : List Word) (c : CommandName) (given : Given) : Type 0 where
  pub rest : List Word
  pub count : ℕ
  pub begins : words ≡ command_word c ∷ rest
  pub options : AreOptions c count rest nothing_given given
  pub whole : IsWhole c given

-- these words are of no form
abbrev pub IsNoForm : List Word → Type 0
IsNoForm words = (c : CommandName) (given : Given) → IsForm words c given → ⊥

-- the settings are those that were given, and the standard ones where none were
pub record HasSettings (given : Given) (settings : Settings) : Type 0 where
  pub shards : settings.shards ≡ unwrap_or given.shards STANDARD_SHARDS
  pub window : settings.window ≡ unwrap_or given.window STANDARD_WINDOW
  pub limit : settings.limit ≡ unwrap_or given.limit STANDARD_COMMITS

-- what a command is to do, by what was given
abbrev pub IsPlan : CommandName → Given → Plan → Type 0
IsPlan command.Run given (plan.Run settings) = HasSettings given settings
IsPlan command.Serve given (plan.Serve settings address sessions file wire) =
    HasSettings given settings × (given.address ≡ Some address) × (sessions ≡ unwrap_or given.sessions STANDARD_SESSIONS) × (file ≡ given.file)
    × (wire ≡ unwrap_or given.wire false)
IsPlan command.Audit given (plan.Audit file at) = (given.file ≡ Some file) × (at ≡ given.at)
IsPlan command.Remote given (plan.Remote address) = given.address ≡ Some address
IsPlan command.Load given (plan.Load settings seed count) = HasSettings given settings × (given.seed ≡ Some seed) × (given.count ≡ Some count)
IsPlan c given p = ⊥

-- The plan that words spell.
pub record Spells (words : List Word) (p : Plan) : Type 0 where
  pub name : CommandName
  pub given : Given
  pub form : IsForm words name given
  pub plan : IsPlan name given p

-- ---- laws

-- words are of one form at most, and so a command line says one thing
abbrev pub OneForm : Type 0
OneForm = (words : List Word) (c d : CommandName) (g h : Given) → IsForm words c g → IsForm words d h → (c ≡ d) × (g ≡ h)

-- ---- worked lines

-- the two spellings of an option
two_words : SpellsOption option.Shards (codes "8") (codes "--shards" ∷ codes "8" ∷ codes "--window=1" ∷ []) (codes "--window=1" ∷ [])
two_words = inl refl

one_word : SpellsOption option.Shards (codes "8") (codes "--shards=8" ∷ codes "--window=1" ∷ []) (codes "--window=1" ∷ [])
one_word = inr refl

-- `run` alone, with nothing given
run-alone : IsForm (codes "run" ∷ []) command.Run nothing_given
run-alone = record { rest = []; count = 0; begins = refl; options = (refl, refl); whole = tt }

-- `serve` with an address, in one word
serve-there : IsForm (codes "serve" ∷ codes "--address=:4000" ∷ []) command.Serve (record nothing_given { address = Some (codes ":4000") })
serve-there = record {
  rest = codes "--address=:4000" ∷ [];
  count = 1;
  begins = refl;
  options = (
    [],
    record nothing_given { address = Some (codes ":4000") },
    record { option = option.Address; value = codes ":4000"; taken = tt; spelled = inr refl; gives = (refl, 58-is-no-hyphen, refl) },
    (refl, refl),
  );
  whole = refl;
}
  where
    58-is-no-hyphen : 58 ≢ HYPHEN
    58-is-no-hyphen = eqb-false 58 HYPHEN refl

-- the form that a server's links have
wire-form : Gives option.Form (codes "wire") nothing_given (record nothing_given { wire = Some true })
wire-form = (refl, true, refl, refl)
