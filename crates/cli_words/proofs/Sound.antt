-- Words that are read are of a form.
use Rattle.std.proofs.Common.{◌≡◌, ℕ, suc, Bool, true, false, not, cond, List, [], ◌∷◌, ◌++◌, inl, inr, refl, ap, sym, ◌∙◌, subst}
use Rattle.std.specs.Prelude.{Option, Some, None, Result, Ok, Err}
use Rattle.cli_words.specs.declared.name.CommandName.{CommandName}
use Rattle.cli_words.specs.declared.name.OptionName.{OptionName}
use Rattle.cli_words.specs.declared.refusal.Why.{Why}
use Rattle.cli_words.specs.declared.refusal.Why.TheVariants as why
use Rattle.cli_words.specs.declared.reading.Reading.TheVariants as reading
use Rattle.cli_words.specs.Forms.{Word, EQUALS, Takes, option_word, Given, nothing_given, IsOption, AreOptions, IsWhole, IsForm}
use Rattle.cli_words.specs.code.Reading.{command_named, option_named, takes, is_given, with_value, ready, name_part, has_value, value_part}
use Rattle.cli_words.specs.code.Reading.{free_option, with_free, begun, step, on, after}
use Rattle.cli_words.proofs.Names.{command_named-sound, option_named-sound, takes-sound, split, whole_name}
use Rattle.cli_words.proofs.Values.{value-sound}

-- ---- the option that a word names is free

-- the word names an option that the command takes, and that isn't given yet
record Free (c : CommandName) (given : Given) (x : Word) (o : OptionName) : Type 0 where
  named : x ≡ option_word o
  taken : Takes c o
  free : is_given o given ≡ false

-- an option that passes both tests is free, and is the one that was tested
free_tests : (t u : Bool) (p o : OptionName) → ◌≡◌ {A = Result OptionName Why} (cond (not t) (Err why.NoOption) (cond u (Err why.GivenTwice) (Ok p))) (Ok o)
    → (t ≡ true) × (u ≡ false) × (p ≡ o)
free_tests true false p o h = (refl, refl, cc)
free_tests true true p o h = absurd (cc)
free_tests false u p o h = absurd (cc)

-- what is found and free was named, is taken and isn't given
free_by : (c : CommandName) (given : Given) (x : Word) (found : Option OptionName) (o : OptionName)
    → option_named x ≡ found → free_option c given found ≡ Ok o → Free c given x o
free_by c given x None o e h = absurd (cc)
free_by c given x (Some p) o e h =
    let k = free_tests (takes c p) (is_given p given) p o h in
    subst (λ q. Free c given x q) k.2 (record { named = option_named-sound x p e; taken = takes-sound c p k.0; free = k.1 })

-- the same of what the word names
free-sound : (c : CommandName) (given : Given) (x : Word) (o : OptionName) → free_option c given (option_named x) ≡ Ok o → Free c given x o
free-sound c given x o h = free_by c given x (option_named x) o refl h

-- ---- options, and a value with options behind it

-- words behind a command that are its options
record Options (c : CommandName) (words : List Word) (given : Given) (d : CommandName) (end : Given) : Type 0 where
  same : d ≡ c
  count : ℕ
  are : AreOptions c count words given end

-- words behind an option's name that are its value and then options
record Valued (c : CommandName) (words : List Word) (given : Given) (o : OptionName) (d : CommandName) (end : Given) : Type 0 where
  value : Word
  rest : List Word
  next : Given
  begins : words ≡ value ∷ rest
  reads : with_value o value given ≡ Ok next
  behind : Options c rest next d end

-- of words that are read behind a command: they are its options
abbrev ReadsOptions : List Word → Type 0
ReadsOptions words = (c : CommandName) (given : Given) (d : CommandName) (end : Given)
    → after words (reading.Ready c given) ≡ Ok (reading.Ready d end) → Options c words given d end

-- of words that are read behind an option's name: they are its value and then options
abbrev ReadsValued : List Word → Type 0
ReadsValued words = (c : CommandName) (given : Given) (o : OptionName) (d : CommandName) (end : Given)
    → after words (reading.Waiting c given o) ≡ Ok (reading.Ready d end) → Valued c words given o d end

-- one option more stands in front of others
one_more : (c : CommandName) (words rest : List Word) (given next : Given) (d : CommandName) (end : Given)
    → IsOption c words rest given next → Options c rest next d end → Options c words given d end
one_more c words rest given next d end is others = record { same = others.same; count = suc others.count; are = (rest, next, is, others.are) }

-- a value that is read gives what the option is given, and the words behind it are options
valued_by : (word : Word) (words : List Word) → ReadsOptions words → (c : CommandName) (given : Given) (o : OptionName) (d : CommandName) (end : Given)
    (made : Result Given Why)
    → with_value o word given ≡ made → on (after words) (ready c made) ≡ Ok (reading.Ready d end) → Valued c (word ∷ words) given o d end
valued_by word words go c given o d end (Err w) e h = absurd (cc)
valued_by word words go c given o d end (Ok next) e h =
    record { value = word; rest = words; next = next; begins = refl; reads = e; behind = go c next d end h }

-- so the first of the words is the value
valued_step : (word : Word) (words : List Word) → ReadsOptions words → ReadsValued (word ∷ words)
unfolding step
valued_step word words go c given o d end h = valued_by word words go c given o d end (with_value o word given) refl h

-- a name with its value in one word
joined : (word : Word) (words : List Word) → ReadsOptions words → (c : CommandName) (given : Given) (o : OptionName) (d : CommandName) (end : Given)
    → Free c given (name_part word) o → has_value word ≡ true → (made : Result Given Why) → with_value o (value_part word) given ≡ made
    → on (after words) (ready c made) ≡ Ok (reading.Ready d end) → Options c (word ∷ words) given d end
joined word words go c given o d end free has (Err w) e h = absurd (cc)
joined word words go c given o d end free has (Ok next) e h =
    one_more c (word ∷ words) words given next d end
    (record {
      option = o;
      value = value_part word;
      taken = free.taken;
      spelled = inr (ap (λ w. w ∷ words) (split word has ∙ ap (λ n. n ++ EQUALS ∷ value_part word) free.named));
      gives = value-sound o (value_part word) given next free.free e;
    })
    (go c next d end h)

-- a name, and its value in the next word
apart : (word : Word) (words : List Word) (c : CommandName) (given : Given) (o : OptionName) (d : CommandName) (end : Given)
    → Free c given (name_part word) o → has_value word ≡ false → Valued c words given o d end → Options c (word ∷ words) given d end
apart word words c given o d end free has v =
    one_more c (word ∷ words) v.rest given v.next d end
    (record {
      option = o;
      value = v.value;
      taken = free.taken;
      spelled = inl (ap (λ w. w ∷ words) (sym (whole_name word has) ∙ free.named) ∙ ap (λ ws. option_word o ∷ ws) v.begins);
      gives = value-sound o v.value given v.next free.free v.reads;
    })
    v.behind

-- a name has its value in its own word, or in the next one
option_by : (word : Word) (words : List Word) → ReadsOptions words → ReadsValued words
    → (c : CommandName) (given : Given) (o : OptionName) (d : CommandName) (end : Given)
    → Free c given (name_part word) o → (has : Bool) → has_value word ≡ has
    → on (after words) (cond has (ready c (with_value o (value_part word) given)) (Ok (reading.Waiting c given o))) ≡ Ok (reading.Ready d end)
    → Options c (word ∷ words) given d end
option_by word words go wait c given o d end free true e h = joined word words go c given o d end free e (with_value o (value_part word) given) refl h
option_by word words go wait c given o d end free false e h = apart word words c given o d end free e (wait c given o d end h)

-- the word is read only where it names a free option
free_then : (word : Word) (words : List Word) → ReadsOptions words → ReadsValued words
    → (c : CommandName) (given : Given) (d : CommandName) (end : Given) (found : Result OptionName Why)
    → free_option c given (option_named (name_part word)) ≡ found
    → on (after words) (with_free c given word found) ≡ Ok (reading.Ready d end) → Options c (word ∷ words) given d end
free_then word words go wait c given d end (Err w) e h = absurd (cc)
free_then word words go wait c given d end (Ok o) e h =
    option_by word words go wait c given o d end (free-sound c given (name_part word) o e) (has_value word) refl h

-- so the first of the words is an option, or the name of one
option_step : (word : Word) (words : List Word) → ReadsOptions words → ReadsValued words → ReadsOptions (word ∷ words)
unfolding step
option_step word words go wait c given d end h =
    free_then word words go wait c given d end (free_option c given (option_named (name_part word))) refl h

-- word by word, both claims at once: each rests on the other for the words behind
sound : (words : List Word) → ReadsOptions words × ReadsValued words
sound [] = (λ c given d end h. record { same = cc; count = 0; are = (refl, cc) }, λ c given o d end h. absurd (cc))
sound (word ∷ words) = let k = sound words in (option_step word words k.0 k.1, valued_step word words k.0)

-- ---- a command and its options

-- the first word names a command, and those behind it are its options
begun_by : (word : Word) (words : List Word) (c : CommandName) (given : Given) → IsWhole c given → (found : Option CommandName) → command_named word ≡ found
    → on (after words) (begun found) ≡ Ok (reading.Ready c given) → IsForm (word ∷ words) c given
begun_by word words c given whole None e h = absurd (cc)
begun_by word words c given whole (Some b) e h =
    let k = (sound words).0 b nothing_given c given h in
    subst (λ x. IsWhole x given → IsForm (word ∷ words) x given) (sym k.same)
    (λ w. record { rest = words; count = k.count; begins = ap (λ x. x ∷ words) (command_named-sound word b e); options = k.are; whole = w })
    whole

-- so words that are read are of a form; of no words nothing is made
pub form-sound : (words : List Word) (c : CommandName) (given : Given) → IsWhole c given
    → after words reading.Start ≡ Ok (reading.Ready c given) → IsForm words c given
unfolding step
form-sound [] c given whole h = absurd (cc)
form-sound (word ∷ words) c given whole h = begun_by word words c given whole (command_named word) refl h
