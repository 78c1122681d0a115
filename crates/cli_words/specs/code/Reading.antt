-- How the words are read, one after another: what each makes of what stood before it. Judge by specs/Forms: the clauses of
-- `read_words` tie what is read here to the forms there.
use Rattle.std.specs.Prelude.{◌≡◌, ℕ, ◌==◌, ◌^◌, Bool, true, false, not, ◌&&◌, ◌||◌, nat_lt, nat_le, nat_eq, if◌then◌else◌, List, [], ◌∷◌, length, codes}
use Rattle.std.specs.Prelude.{Option, Some, None, is_some, Result, Ok, Err, refl}
use Rattle.std.specs.List.{find, position_or_len, before_first, after_first}
use Rattle.std.specs.Str.{bytes_eq, all_ascii_digits}
use Rattle.std.specs.Str.Parse.{digits_value}
use Rattle.rdt_types.specs.declared.limits.TheConstants.{LEAST_SHARDS, MOST_SHARDS, LEAST_WINDOW, MOST_WINDOW, LEAST_COMMITS, MOST_COMMITS}
use Rattle.cli_words.specs.declared.limits.TheConstants.{LEAST_SESSIONS, MOST_SESSIONS, MOST_AT, MOST_SEED, LEAST_COUNT, MOST_COUNT}
use Rattle.cli_words.specs.declared.name.CommandName.{CommandName}
use Rattle.cli_words.specs.declared.name.CommandName.TheVariants as command
use Rattle.cli_words.specs.declared.name.OptionName.{OptionName}
use Rattle.cli_words.specs.declared.name.OptionName.TheVariants as option
use Rattle.cli_words.specs.declared.refusal.Why.{Why}
use Rattle.cli_words.specs.declared.refusal.Why.TheVariants as why
use Rattle.cli_words.specs.declared.refusal.Missing.{Missing}
use Rattle.cli_words.specs.declared.refusal.Missing.TheVariants as missing
use Rattle.cli_words.specs.declared.reading.Reading.{Reading}
use Rattle.cli_words.specs.declared.reading.Reading.TheVariants as reading
use Rattle.cli_words.specs.declared.name.TheConstants.{COMMANDS, OPTIONS}
use Rattle.cli_words.specs.Forms.{Word, HYPHEN, EQUALS, command_word, option_word, Given, nothing_given}

-- ---- names

-- the command whose word this is, and the option
abbrev pub command_named : Word → Option CommandName
command_named word = find (λ c. bytes_eq (command_word c) word) COMMANDS

abbrev pub option_named : Word → Option OptionName
option_named word = find (λ o. bytes_eq (option_word o) word) OPTIONS

-- one of a store's settings
abbrev pub is_setting : OptionName → Bool
is_setting option.Shards = true
is_setting option.Window = true
is_setting option.Limit = true
is_setting o = false

-- one of those that say which load is made
abbrev pub is_of_load : OptionName → Bool
is_of_load option.Seed = true
is_of_load option.Count = true
is_of_load o = false

abbrev pub takes : CommandName → OptionName → Bool
takes command.Run o = is_setting o
takes command.Serve option.At = false
takes command.Serve o = not (is_of_load o)
takes command.Audit option.File = true
takes command.Audit option.At = true
takes command.Audit o = false
takes command.Remote option.Address = true
takes command.Remote o = false
takes command.Load o = is_setting o || is_of_load o

-- ---- numbers

-- a plus stands in front, or a zero in front of something else
abbrev pub is_led : Word → Bool
is_led [] = false
is_led (b ∷ []) = nat_eq b 43
is_led (b ∷ c ∷ word) = nat_eq b 43 || nat_eq b 48

-- digits, and nothing in front of them
abbrev pub is_plain : Word → Bool
is_plain word = not (is_led word) && nat_lt 0 (length word) && all_ascii_digits word

abbrev pub small_number : Word → Option ℕ
small_number word = if is_plain word && nat_lt (digits_value 10 word) (2 ^ 64) then Some (digits_value 10 word) else None

abbrev pub if_within : ℕ → ℕ → Option ℕ → Option ℕ
if_within least most None = None
if_within least most (Some n) = if nat_le least n && nat_le n most then Some n else None

abbrev pub number_within : ℕ → ℕ → Word → Option ℕ
number_within least most word = if_within least most (small_number word)

-- ---- values

abbrev pub is_given : OptionName → Given → Bool
is_given option.Shards given = is_some given.shards
is_given option.Window given = is_some given.window
is_given option.Limit given = is_some given.limit
is_given option.Sessions given = is_some given.sessions
is_given option.Address given = is_some given.address
is_given option.File given = is_some given.file
is_given option.At given = is_some given.at
is_given option.Form given = is_some given.wire
is_given option.Seed given = is_some given.seed
is_given option.Count given = is_some given.count

-- a number is put in its place, or is none within the limits
abbrev pub put_number : ℕ → ℕ → (ℕ → Given) → Option ℕ → Result Given Why
put_number least most put None = Err (why.NotANumber least most)
put_number least most put (Some n) = Ok (put n)

abbrev pub is_place : Word → Bool
is_place [] = false
is_place (b ∷ word) = not (nat_eq b HYPHEN)

-- a word is put in its place, or can be none
abbrev pub put_place : Why → Given → Bool → Result Given Why
put_place w given can = if can then Ok given else Err w

-- the form that a word names: of the wire, or not
abbrev pub wire_named : Word → Option Bool
wire_named word = if bytes_eq word (codes "text") then Some false else if bytes_eq word (codes "wire") then Some true else None

-- a form is put in its place, or a word names none
abbrev pub put_form : (Bool → Given) → Option Bool → Result Given Why
put_form put None = Err why.NotAForm
put_form put (Some wire) = Ok (put wire)

-- what is given with a value
abbrev pub with_value : OptionName → Word → Given → Result Given Why
with_value option.Shards word given =
    put_number LEAST_SHARDS MOST_SHARDS (λ n. record given { shards = Some n }) (number_within LEAST_SHARDS MOST_SHARDS word)
with_value option.Window word given =
    put_number LEAST_WINDOW MOST_WINDOW (λ n. record given { window = Some n }) (number_within LEAST_WINDOW MOST_WINDOW word)
with_value option.Limit word given =
    put_number LEAST_COMMITS MOST_COMMITS (λ n. record given { limit = Some n }) (number_within LEAST_COMMITS MOST_COMMITS word)
with_value option.Sessions word given =
    put_number LEAST_SESSIONS MOST_SESSIONS (λ n. record given { sessions = Some n }) (number_within LEAST_SESSIONS MOST_SESSIONS word)
with_value option.Address word given = put_place why.NotAnAddress (record given { address = Some word }) (is_place word)
with_value option.File word given = put_place why.NotAPath (record given { file = Some word }) (is_place word)
with_value option.At word given = put_number 0 MOST_AT (λ n. record given { at = Some n }) (number_within 0 MOST_AT word)
with_value option.Form word given = put_form (λ wire. record given { wire = Some wire }) (wire_named word)
with_value option.Seed word given = put_number 0 MOST_SEED (λ n. record given { seed = Some n }) (number_within 0 MOST_SEED word)
with_value option.Count word given =
    put_number LEAST_COUNT MOST_COUNT (λ n. record given { count = Some n }) (number_within LEAST_COUNT MOST_COUNT word)

-- ---- words

-- a command's options go on, or a value is refused
abbrev pub ready : CommandName → Result Given Why → Result Reading Why
ready c (Ok given) = Ok (reading.Ready c given)
ready c (Err w) = Err w

-- the name that a word begins with, and the value behind it where the word has one
abbrev pub name_part : Word → Word
name_part word = before_first (λ b. b == EQUALS) word

abbrev pub has_value : Word → Bool
has_value word = nat_lt (position_or_len (λ b. b == EQUALS) word) (length word)

abbrev pub value_part : Word → Word
value_part word = after_first (λ b. b == EQUALS) word

-- the option that a word names, if the command takes it and it is not given yet
abbrev pub free_option : CommandName → Given → Option OptionName → Result OptionName Why
free_option c given None = Err why.NoOption
free_option c given (Some o) =
    if not (takes c o) then Err why.NoOption
    else if is_given o given then Err why.GivenTwice
    else Ok o

-- it is given with the value behind its name, or waits for one
abbrev pub with_free : CommandName → Given → Word → Result OptionName Why → Result Reading Why
with_free c given word (Err w) = Err w
with_free c given word (Ok o) = if has_value word then ready c (with_value o (value_part word) given) else Ok (reading.Waiting c given o)

abbrev pub with_option : CommandName → Given → Word → Result Reading Why
with_option c given word = with_free c given word (free_option c given (option_named (name_part word)))

abbrev pub begun : Option CommandName → Result Reading Why
begun None = Err why.NoCommand
begun (Some c) = Ok (reading.Ready c nothing_given)

-- What a word makes of what stood before it.
unfoldable pub step : Reading → Word → Result Reading Why
step reading.Start word = begun (command_named word)
step (reading.Ready c given) word = with_option c given word
step (reading.Waiting c given o) word = ready c (with_value o word given)

abbrev pub on : (Reading → Result Reading Why) → Result Reading Why → Result Reading Why
on go (Ok r) = go r
on go (Err w) = Err w

-- what words make, one after another
abbrev pub after : List Word → Reading → Result Reading Why
after [] r = Ok r
after (word ∷ words) r = on (after words) (step r word)

-- what is missing where no more words come
abbrev pub missing_of : Reading → Option Missing
missing_of reading.Start = Some missing.Command
missing_of (reading.Waiting c given o) = Some (missing.Value o)
missing_of (reading.Ready command.Run given) = None
missing_of (reading.Ready command.Serve given) = if is_some given.address then None else Some (missing.Option option.Address)
missing_of (reading.Ready command.Audit given) = if is_some given.file then None else Some (missing.Option option.File)
missing_of (reading.Ready command.Remote given) = if is_some given.address then None else Some (missing.Option option.Address)
missing_of (reading.Ready command.Load given) =
    if is_some given.seed then (if is_some given.count then None else Some (missing.Option option.Count)) else Some (missing.Option option.Seed)

-- ---- worked lines

-- the settings of `run --shards=4`
reads-row : after (codes "run" ∷ codes "--shards=4" ∷ []) reading.Start ≡ Ok (reading.Ready command.Run (record nothing_given { shards = Some 4 }))
unfolding step
reads-row = refl

-- a server whose links bring requests of the wire
reads-form : after (codes "serve" ∷ codes "--form=wire" ∷ []) reading.Start ≡ Ok (reading.Ready command.Serve (record nothing_given { wire = Some true }))
unfolding step
reads-form = refl

-- no store has 0 shards, an option is given once, and `fly` is no command
refuses-zero : after (codes "run" ∷ codes "--shards" ∷ codes "0" ∷ []) reading.Start ≡ Err (why.NotANumber 1 16)
unfolding step
refuses-zero = refl

refuses-twice : after (codes "run" ∷ codes "--shards" ∷ codes "4" ∷ codes "--shards" ∷ codes "4" ∷ []) reading.Start ≡ Err why.GivenTwice
unfolding step
refuses-twice = refl

refuses-unknown : after (codes "fly" ∷ []) reading.Start ≡ Err why.NoCommand
unfolding step
refuses-unknown = refl
