-- Names: a word names an option exactly where it is that option's word, and a word with `=` in it is a name and a value.
use Rattle.std.proofs.Common.{◌≡◌, Bool, true, false, cond, ◌==◌, List, [], ◌∷◌, ◌++◌, length, refl, ap, sym, ◌∙◌, arith}
use Rattle.std.specs.Prelude.{Some}
use Rattle.std.specs.List.{find, position_or_len}
use Rattle.std.specs.Str.{bytes_eq}
use Rattle.std.proofs.lemmas.Bool.{ltb-true, ltb-false, lt-ltb, eqb-true}
use Rattle.std.proofs.lemmas.List.{take_all}
use Rattle.std.proofs.lemmas.List.Sums.{split_at_first, passes_at_first}
use Rattle.std.proofs.lemmas.Slice.Eq.{bytes_eq-Decides}
use Rattle.cli_words.specs.declared.name.CommandName.{CommandName}
use Rattle.cli_words.specs.declared.name.CommandName.TheVariants as command
use Rattle.cli_words.specs.declared.name.OptionName.{OptionName}
use Rattle.cli_words.specs.declared.name.OptionName.TheVariants as option
use Rattle.cli_words.specs.declared.name.TheConstants.{COMMANDS, OPTIONS}
use Rattle.cli_words.specs.Forms.{Word, EQUALS, Takes, command_word, option_word}
use Rattle.cli_words.specs.code.Reading.{command_named, option_named, takes, name_part, has_value, value_part}

-- what is found passes the test: the first that passes is, and where it is passed over the rest is looked through
found_passes : {N : Type 0} (p : N → Bool) (names : List N) (n : N) → find p names ≡ Some n → p n ≡ true
found_passes p [] n h = absurd (cc)
found_passes p (m ∷ names) n h = by (p m) refl h (found_passes p names n)
  where
    by : (b : Bool) → p m ≡ b → cond b (Some m) (find p names) ≡ Some n → (find p names ≡ Some n → p n ≡ true) → p n ≡ true
    by true e h rest = let k : m ≡ n = cc in ap p (sym k) ∙ e
    by false e h rest = rest h

-- equal bytes are one word, so what is named has the word
pub option_named-sound : (w : Word) (o : OptionName) → option_named w ≡ Some o → w ≡ option_word o
option_named-sound w o h = sym ((bytes_eq-Decides (option_word o) w).0 (found_passes (λ n. bytes_eq (option_word n) w) OPTIONS o h))

-- no word in front of an option's own in the table is the same, and its own is there
pub option_named-complete : (o : OptionName) → option_named (option_word o) ≡ Some o
option_named-complete option.Shards = refl
option_named-complete option.Window = refl
option_named-complete option.Limit = refl
option_named-complete option.Sessions = refl
option_named-complete option.Address = refl
option_named-complete option.File = refl
option_named-complete option.At = refl
option_named-complete option.Form = refl
option_named-complete option.Seed = refl
option_named-complete option.Count = refl

-- the same of commands
pub command_named-sound : (w : Word) (c : CommandName) → command_named w ≡ Some c → w ≡ command_word c
command_named-sound w c h = sym ((bytes_eq-Decides (command_word c) w).0 (found_passes (λ n. bytes_eq (command_word n) w) COMMANDS c h))

-- each is found by its own word
pub command_named-complete : (c : CommandName) → command_named (command_word c) ≡ Some c
command_named-complete command.Run = refl
command_named-complete command.Serve = refl
command_named-complete command.Audit = refl
command_named-complete command.Remote = refl
command_named-complete command.Load = refl

-- the test of which options a command takes
pub takes-sound : (c : CommandName) (o : OptionName) → takes c o ≡ true → Takes c o
takes-sound command.Run option.Shards h = tt
takes-sound command.Run option.Window h = tt
takes-sound command.Run option.Limit h = tt
takes-sound command.Run option.Sessions h = absurd (cc)
takes-sound command.Run option.Address h = absurd (cc)
takes-sound command.Run option.File h = absurd (cc)
takes-sound command.Run option.At h = absurd (cc)
takes-sound command.Run option.Form h = absurd (cc)
takes-sound command.Run option.Seed h = absurd (cc)
takes-sound command.Run option.Count h = absurd (cc)
takes-sound command.Serve option.Shards h = tt
takes-sound command.Serve option.Window h = tt
takes-sound command.Serve option.Limit h = tt
takes-sound command.Serve option.Sessions h = tt
takes-sound command.Serve option.Address h = tt
takes-sound command.Serve option.File h = tt
takes-sound command.Serve option.At h = absurd (cc)
takes-sound command.Serve option.Form h = tt
takes-sound command.Serve option.Seed h = absurd (cc)
takes-sound command.Serve option.Count h = absurd (cc)
takes-sound command.Audit option.Shards h = absurd (cc)
takes-sound command.Audit option.Window h = absurd (cc)
takes-sound command.Audit option.Limit h = absurd (cc)
takes-sound command.Audit option.Sessions h = absurd (cc)
takes-sound command.Audit option.Address h = absurd (cc)
takes-sound command.Audit option.File h = tt
takes-sound command.Audit option.At h = tt
takes-sound command.Audit option.Form h = absurd (cc)
takes-sound command.Audit option.Seed h = absurd (cc)
takes-sound command.Audit option.Count h = absurd (cc)
takes-sound command.Remote option.Shards h = absurd (cc)
takes-sound command.Remote option.Window h = absurd (cc)
takes-sound command.Remote option.Limit h = absurd (cc)
takes-sound command.Remote option.Sessions h = absurd (cc)
takes-sound command.Remote option.Address h = tt
takes-sound command.Remote option.File h = absurd (cc)
takes-sound command.Remote option.At h = absurd (cc)
takes-sound command.Remote option.Form h = absurd (cc)
takes-sound command.Remote option.Seed h = absurd (cc)
takes-sound command.Remote option.Count h = absurd (cc)
takes-sound command.Load option.Shards h = tt
takes-sound command.Load option.Window h = tt
takes-sound command.Load option.Limit h = tt
takes-sound command.Load option.Sessions h = absurd (cc)
takes-sound command.Load option.Address h = absurd (cc)
takes-sound command.Load option.File h = absurd (cc)
takes-sound command.Load option.At h = absurd (cc)
takes-sound command.Load option.Form h = absurd (cc)
takes-sound command.Load option.Seed h = tt
takes-sound command.Load option.Count h = tt

-- and what the form lets a command take passes the test
pub takes-complete : (c : CommandName) (o : OptionName) → Takes c o → takes c o ≡ true
takes-complete command.Run option.Shards h = refl
takes-complete command.Run option.Window h = refl
takes-complete command.Run option.Limit h = refl
takes-complete command.Run option.Sessions h = absurd h
takes-complete command.Run option.Address h = absurd h
takes-complete command.Run option.File h = absurd h
takes-complete command.Run option.At h = absurd h
takes-complete command.Run option.Form h = absurd h
takes-complete command.Run option.Seed h = absurd h
takes-complete command.Run option.Count h = absurd h
takes-complete command.Serve option.Shards h = refl
takes-complete command.Serve option.Window h = refl
takes-complete command.Serve option.Limit h = refl
takes-complete command.Serve option.Sessions h = refl
takes-complete command.Serve option.Address h = refl
takes-complete command.Serve option.File h = refl
takes-complete command.Serve option.At h = absurd h
takes-complete command.Serve option.Form h = refl
takes-complete command.Serve option.Seed h = absurd h
takes-complete command.Serve option.Count h = absurd h
takes-complete command.Audit option.Shards h = absurd h
takes-complete command.Audit option.Window h = absurd h
takes-complete command.Audit option.Limit h = absurd h
takes-complete command.Audit option.Sessions h = absurd h
takes-complete command.Audit option.Address h = absurd h
takes-complete command.Audit option.File h = refl
takes-complete command.Audit option.At h = refl
takes-complete command.Audit option.Form h = absurd h
takes-complete command.Audit option.Seed h = absurd h
takes-complete command.Audit option.Count h = absurd h
takes-complete command.Remote option.Shards h = absurd h
takes-complete command.Remote option.Window h = absurd h
takes-complete command.Remote option.Limit h = absurd h
takes-complete command.Remote option.Sessions h = absurd h
takes-complete command.Remote option.Address h = refl
takes-complete command.Remote option.File h = absurd h
takes-complete command.Remote option.At h = absurd h
takes-complete command.Remote option.Form h = absurd h
takes-complete command.Remote option.Seed h = absurd h
takes-complete command.Remote option.Count h = absurd h
takes-complete command.Load option.Shards h = refl
takes-complete command.Load option.Window h = refl
takes-complete command.Load option.Limit h = refl
takes-complete command.Load option.Sessions h = absurd h
takes-complete command.Load option.Address h = absurd h
takes-complete command.Load option.File h = absurd h
takes-complete command.Load option.At h = absurd h
takes-complete command.Load option.Form h = absurd h
takes-complete command.Load option.Seed h = refl
takes-complete command.Load option.Count h = refl

-- ---- a name and a value in one word

-- the first `=` is behind the name, and behind that is the value
pub split : (w : Word) → has_value w ≡ true → w ≡ name_part w ++ EQUALS ∷ value_part w
split w h =
    let l = ltb-true (position_or_len (λ b. b == EQUALS) w) (length w) h in
    split_at_first (λ b. b == EQUALS) w 0 l ∙ ap (λ b. name_part w ++ b ∷ value_part w) (eqb-true _ EQUALS (passes_at_first (λ b. b == EQUALS) w 0 l))

-- with no `=` the name goes to the end of the word
pub whole_name : (w : Word) → has_value w ≡ false → name_part w ≡ w
whole_name w h = take_all (position_or_len (λ b. b == EQUALS) w) w (ltb-false (position_or_len (λ b. b == EQUALS) w) (length w) h)

-- no option's word has `=` in it
pub name-alone : (o : OptionName) → name_part (option_word o) ≡ option_word o
name-alone option.Shards = refl
name-alone option.Window = refl
name-alone option.Limit = refl
name-alone option.Sessions = refl
name-alone option.Address = refl
name-alone option.File = refl
name-alone option.At = refl
name-alone option.Form = refl
name-alone option.Seed = refl
name-alone option.Count = refl

-- so none has a value
pub value-alone : (o : OptionName) → has_value (option_word o) ≡ false
value-alone option.Shards = refl
value-alone option.Window = refl
value-alone option.Limit = refl
value-alone option.Sessions = refl
value-alone option.Address = refl
value-alone option.File = refl
value-alone option.At = refl
value-alone option.Form = refl
value-alone option.Seed = refl
value-alone option.Count = refl

-- and where `=` stands behind it, that is the first
pub name-joined : (o : OptionName) (value : Word) → name_part (option_word o ++ EQUALS ∷ value) ≡ option_word o
name-joined option.Shards value = refl
name-joined option.Window value = refl
name-joined option.Limit value = refl
name-joined option.Sessions value = refl
name-joined option.Address value = refl
name-joined option.File value = refl
name-joined option.At value = refl
name-joined option.Form value = refl
name-joined option.Seed value = refl
name-joined option.Count value = refl

-- what stands behind is the value
pub value-joined : (o : OptionName) (value : Word) → value_part (option_word o ++ EQUALS ∷ value) ≡ value
value-joined option.Shards value = refl
value-joined option.Window value = refl
value-joined option.Limit value = refl
value-joined option.Sessions value = refl
value-joined option.Address value = refl
value-joined option.File value = refl
value-joined option.At value = refl
value-joined option.Form value = refl
value-joined option.Seed value = refl
value-joined option.Count value = refl

-- as the place of `=` is within the word
pub has_value-joined : (o : OptionName) (value : Word) → has_value (option_word o ++ EQUALS ∷ value) ≡ true
has_value-joined option.Shards value = lt-ltb 8 (length (option_word option.Shards ++ EQUALS ∷ value)) (omega arith)
has_value-joined option.Window value = lt-ltb 8 (length (option_word option.Window ++ EQUALS ∷ value)) (omega arith)
has_value-joined option.Limit value = lt-ltb 7 (length (option_word option.Limit ++ EQUALS ∷ value)) (omega arith)
has_value-joined option.Sessions value = lt-ltb 10 (length (option_word option.Sessions ++ EQUALS ∷ value)) (omega arith)
has_value-joined option.Address value = lt-ltb 9 (length (option_word option.Address ++ EQUALS ∷ value)) (omega arith)
has_value-joined option.File value = lt-ltb 6 (length (option_word option.File ++ EQUALS ∷ value)) (omega arith)
has_value-joined option.At value = lt-ltb 4 (length (option_word option.At ++ EQUALS ∷ value)) (omega arith)
has_value-joined option.Form value = lt-ltb 6 (length (option_word option.Form ++ EQUALS ∷ value)) (omega arith)
has_value-joined option.Seed value = lt-ltb 6 (length (option_word option.Seed ++ EQUALS ∷ value)) (omega arith)
has_value-joined option.Count value = lt-ltb 7 (length (option_word option.Count ++ EQUALS ∷ value)) (omega arith)
