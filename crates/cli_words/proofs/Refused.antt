-- Where words are refused: up to there they go on to a form, and no further.
use Rattle.std.proofs.Common.{◌≡◌, ℕ, ◌+◌, ◌<◌, ◌≤◌, Bool, true, false, cond, List, [], ◌∷◌, ◌++◌, inl, refl, ap, sym, ◌∙◌, subst, arith}
use Rattle.std.specs.Prelude.{codes, Option, Some, None, IsSome, is_some, Result, Ok, Err, take, drop, length, get_or}
use denote.Bor.{Bor}
use Rattle.std.proofs.lemmas.List.{take_more, take_all, take-append-drop, length-map, get_or-map}
use Rattle.std.proofs.lemmas.Option.{slice_get-get_or}
use Rattle.cli_words.specs.declared.name.CommandName.{CommandName}
use Rattle.cli_words.specs.declared.name.CommandName.TheVariants as command
use Rattle.cli_words.specs.declared.name.OptionName.{OptionName}
use Rattle.cli_words.specs.declared.name.OptionName.TheVariants as option
use Rattle.cli_words.specs.declared.plan.Plan.{Plan}
use Rattle.cli_words.specs.declared.plan.Plan.TheVariants as plan
use Rattle.plain_data.specs.declared.or_no_memory.OrNoMemory.{OrNoMemory}
use Rattle.plain_data.specs.declared.or_no_memory.OrNoMemory.TheVariants as or_no_memory
use Rattle.cli_words.specs.declared.refusal.Why.{Why}
use Rattle.cli_words.specs.declared.refusal.Missing.{Missing}
use Rattle.cli_words.specs.declared.refusal.Missing.TheVariants as missing
use Rattle.cli_words.specs.declared.reading.Reading.{Reading}
use Rattle.cli_words.specs.declared.reading.Reading.TheVariants as reading
use Rattle.cli_words.specs.Forms.{Word, texts, option_word, Takes, Given, IsWhole, IsNoForm, IsPlan, Spells}
use Rattle.cli_words.specs.Refusals.{GoesOn, IsCutShort, Refuses}
use Rattle.cli_words.specs.code.Reading.{is_given, with_value, ready, step, on, after, missing_of}
use Rattle.cli_words.specs.code.Answers.{Makes, Finishes, Explains, error_of}
use Rattle.cli_words.proofs.Sound.{form-sound}
use Rattle.cli_words.proofs.Complete.{option_read, form_read}
use Rattle.cli_words.proofs.Values.{value-sound}

-- what words make, and then others
on_by : (words more : List Word) (made : Result Reading Why) → ((r : Reading) → after (words ++ more) r ≡ on (after more) (after words r))
    → on (after (words ++ more)) made ≡ on (after more) (on (after words) made)
on_by words more (Ok r) again = again r
on_by words more (Err w) again = refl

-- words are read one after another, so others go on with what the first made
pub after-append : (words more : List Word) (r : Reading) → after (words ++ more) r ≡ on (after more) (after words r)
after-append [] more r = refl
after-append (word ∷ words) more r = on_by words more (step r word) (after-append words more)

-- ---- no further

-- a form is read whole, and what was refused is not, whatever comes behind
pub no_further : (words : List Word) (w : Why) → after words reading.Start ≡ Err w → (more : List Word) → IsNoForm (words ++ more)
no_further words w e more c given form =
    let read = form_read (words ++ more) c given form in
    let stuck = after-append words more reading.Start ∙ ap (on (after more)) e in
    let bad : ◌≡◌ {A = Result Reading Why} (Err w) (Ok (reading.Ready c given)) = sym stuck ∙ read in
    absurd (cc)

-- ---- on to a form

-- words that go on to a whole command line
record Completes (r : Reading) : Type 0 where
  more : List Word
  name : CommandName
  given : Given
  made : after more r ≡ Ok (reading.Ready name given)
  whole : IsWhole name given

-- where nothing is missing, nothing need follow
is_complete : (c : CommandName) (given : Given) → IsWhole c given → Completes (reading.Ready c given)
is_complete c given whole = record { more = []; name = c; given = given; made = refl; whole = whole }

-- an option that is not given yet can follow, and then what goes on from there
with_one : (c : CommandName) (o : OptionName) (value : Word) (given next : Given) → Takes c o → is_given o given ≡ false
    → with_value o value given ≡ Ok next → Completes (reading.Ready c next) → Completes (reading.Ready c given)
with_one c o value given next takes free e k = record {
  more = option_word o ∷ value ∷ k.more;
  name = k.name;
  given = k.given;
  made = option_read c (option_word o ∷ value ∷ k.more) k.more given next
      (record { option = o; value = value; taken = takes; spelled = inl refl; gives = value-sound o value given next free e }) ∙ k.made;
  whole = k.whole;
}

-- an address can follow where none is given, for a command that takes one and is whole with it
address_completes : (c : CommandName) → Takes c option.Address → ((a : Word) (given : Given) → given.address ≡ Some a → IsWhole c given)
    → (given : Given) (found : Option Word) → given.address ≡ found → Completes (reading.Ready c given)
address_completes c takes whole given None e =
    let next = record given { address = Some (codes "a") } in
    with_one c option.Address (codes "a") given next takes (ap is_some e) refl (is_complete c next (whole (codes "a") next refl))
address_completes c takes whole given (Some a) e = is_complete c given (whole a given e)

-- so can a file
audit_completes : (given : Given) (found : Option Word) → given.file ≡ found → Completes (reading.Ready command.Audit given)
audit_completes given None e =
    let next = record given { file = Some (codes "f") } in
    with_one command.Audit option.File (codes "f") given next tt (ap is_some e) refl (is_complete command.Audit next refl)
audit_completes given (Some f) e = is_complete command.Audit given (ap is_some e)

-- and the two numbers of a load: how many rounds, and before that the seed
count_completes : (given : Given) (found : Option ℕ) → IsSome given.seed → given.count ≡ found → Completes (reading.Ready command.Load given)
count_completes given None seed e =
    let next = record given { count = Some 1 } in
    with_one command.Load option.Count (codes "1") given next tt (ap is_some e) refl (is_complete command.Load next (seed, refl))
count_completes given (Some n) seed e = is_complete command.Load given (seed, ap is_some e)

load_completes : (given : Given) (found : Option ℕ) → given.seed ≡ found → Completes (reading.Ready command.Load given)
load_completes given None e =
    let next = record given { seed = Some 1 } in
    with_one command.Load option.Seed (codes "1") given next tt (ap is_some e) refl (count_completes next given.count refl refl)
load_completes given (Some n) e = count_completes given given.count (ap is_some e) refl

-- `run` wants nothing more
ready_completes : (c : CommandName) (given : Given) → Completes (reading.Ready c given)
ready_completes command.Run given = is_complete command.Run given tt
ready_completes command.Serve given = address_completes command.Serve tt (λ a g e. ap is_some e) given given.address refl
ready_completes command.Audit given = audit_completes given given.file refl
ready_completes command.Remote given = address_completes command.Remote tt (λ a g e. ap is_some e) given given.address refl
ready_completes command.Load given = load_completes given given.seed refl

-- a value that any option takes can follow its name
value_completes : (c : CommandName) (given next : Given) (o : OptionName) (value : Word)
    → with_value o value given ≡ Ok next → Completes (reading.Waiting c given o)
unfolding step
value_completes c given next o value e =
    let k = ready_completes c next in
    record { more = value ∷ k.more; name = k.name; given = k.given; made = ap (λ made. on (after k.more) (ready c made)) e ∙ k.made; whole = k.whole }

-- whatever was read goes on to a whole command line: with `run`, with what is missing, or with a value first
completes : (r : Reading) → Completes r
unfolding step
completes reading.Start = record { more = codes "run" ∷ []; name = command.Run; given = _; made = refl; whole = tt }
completes (reading.Ready c given) = ready_completes c given
completes (reading.Waiting c given option.Shards) = value_completes c given (record given { shards = Some 1 }) option.Shards (codes "1") refl
completes (reading.Waiting c given option.Window) = value_completes c given (record given { window = Some 1 }) option.Window (codes "1") refl
completes (reading.Waiting c given option.Limit) = value_completes c given (record given { limit = Some 1 }) option.Limit (codes "1") refl
completes (reading.Waiting c given option.Sessions) = value_completes c given (record given { sessions = Some 1 }) option.Sessions (codes "1") refl
completes (reading.Waiting c given option.Address) = value_completes c given (record given { address = Some (codes "a") }) option.Address (codes "a") refl
completes (reading.Waiting c given option.File) = value_completes c given (record given { file = Some (codes "f") }) option.File (codes "f") refl
completes (reading.Waiting c given option.At) = value_completes c given (record given { at = Some 1 }) option.At (codes "1") refl
completes (reading.Waiting c given option.Form) = value_completes c given (record given { wire = Some true }) option.Form (codes "wire") refl
completes (reading.Waiting c given option.Seed) = value_completes c given (record given { seed = Some 1 }) option.Seed (codes "1") refl
completes (reading.Waiting c given option.Count) = value_completes c given (record given { count = Some 1 }) option.Count (codes "1") refl

-- so the words that were read do, and what is read is of a form
pub goes_on : (words : List Word) (r : Reading) → after words reading.Start ≡ Ok r → GoesOn words
goes_on words r e =
    let k = completes r in
    record {
      more = k.more;
      name = k.name;
      given = k.given;
      form = form-sound (words ++ k.more) k.name k.given k.whole (after-append words k.more reading.Start ∙ ap (on (after k.more)) e ∙ k.made);
    }

-- ---- at the end

-- nothing is missing of a whole command line
whole-not_missing : (c : CommandName) (given : Given) (m : Missing) → IsWhole c given → missing_of (reading.Ready c given) ≡ Some m → ⊥
whole-not_missing command.Run given m whole e = absurd (cc)
whole-not_missing command.Serve given m whole e = by (is_some given.address) whole e
  where
    by : (there : Bool) → there ≡ true → cond there None (Some (missing.Option option.Address)) ≡ Some m → ⊥
    by true h e = absurd (cc)
    by false h e = absurd (cc)
whole-not_missing command.Remote given m whole e = by (is_some given.address) whole e
  where
    by : (there : Bool) → there ≡ true → cond there None (Some (missing.Option option.Address)) ≡ Some m → ⊥
    by true h e = absurd (cc)
    by false h e = absurd (cc)
whole-not_missing command.Audit given m whole e = by (is_some given.file) whole e
  where
    by : (there : Bool) → there ≡ true → cond there None (Some (missing.Option option.File)) ≡ Some m → ⊥
    by true h e = absurd (cc)
    by false h e = absurd (cc)
whole-not_missing command.Load given m whole e = by (is_some given.seed) (is_some given.count) whole.0 whole.1 e
  where
    by : (seed count : Bool) → seed ≡ true → count ≡ true
        → cond seed (cond count None (Some (missing.Option option.Count))) (Some (missing.Option option.Seed)) ≡ Some m → ⊥
    by true true h k e = absurd (cc)
    by true false h k e = absurd (cc)
    by false count h k e = absurd (cc)

-- they are of no form themselves, since something is missing of what they make
pub cut_short : (words : List Word) (r : Reading) (m : Missing) → after words reading.Start ≡ Ok r → missing_of r ≡ Some m → IsCutShort words
cut_short words r m e missing = record {
  goes_on = goes_on words r e;
  no_form = λ c given form.
      let same : ◌≡◌ {A = Result Reading Why} (Ok r) (Ok (reading.Ready c given)) = sym e ∙ form_read words c given form in
      let there : r ≡ reading.Ready c given = cc in
      whole-not_missing c given m form.whole (ap missing_of (sym there) ∙ missing);
}

-- what is asked for is whole
plan-whole : (c : CommandName) (given : Given) (p : Plan) → IsPlan c given p → IsWhole c given
plan-whole command.Run given (plan.Run settings) h = tt
plan-whole command.Run given (plan.Serve settings address sessions file wire) h = absurd h
plan-whole command.Run given (plan.Audit file at) h = absurd h
plan-whole command.Run given (plan.Remote address) h = absurd h
plan-whole command.Run given (plan.Load settings seed count) h = absurd h
plan-whole command.Serve given (plan.Run settings) h = absurd h
plan-whole command.Serve given (plan.Serve settings address sessions file wire) h = ap is_some h.1
plan-whole command.Serve given (plan.Audit file at) h = absurd h
plan-whole command.Serve given (plan.Remote address) h = absurd h
plan-whole command.Serve given (plan.Load settings seed count) h = absurd h
plan-whole command.Audit given (plan.Run settings) h = absurd h
plan-whole command.Audit given (plan.Serve settings address sessions file wire) h = absurd h
plan-whole command.Audit given (plan.Audit file at) h = ap is_some h.0
plan-whole command.Audit given (plan.Remote address) h = absurd h
plan-whole command.Audit given (plan.Load settings seed count) h = absurd h
plan-whole command.Remote given (plan.Run settings) h = absurd h
plan-whole command.Remote given (plan.Serve settings address sessions file wire) h = absurd h
plan-whole command.Remote given (plan.Audit file at) h = absurd h
plan-whole command.Remote given (plan.Remote address) h = ap is_some h
plan-whole command.Remote given (plan.Load settings seed count) h = absurd h
plan-whole command.Load given (plan.Run settings) h = absurd h
plan-whole command.Load given (plan.Serve settings address sessions file wire) h = absurd h
plan-whole command.Load given (plan.Audit file at) h = absurd h
plan-whole command.Load given (plan.Remote address) h = absurd h
plan-whole command.Load given (plan.Load settings seed count) h = (ap is_some h.1, ap is_some h.2)

-- at the end a plan is made of a command and its options alone, which are of a form
pub spelled : (words : List Word) (r : Reading) (p : Plan) → after words reading.Start ≡ Ok r → Finishes r (Ok p) → Spells words p
spelled words reading.Start p e h = absurd h
spelled words (reading.Waiting c given o) p e h = absurd h
spelled words (reading.Ready c given) p e h = record { name = c; given = given; form = form-sound words c given (plan-whole c given p h) e; plan = h }

-- ---- word by word

-- the first words, and the next one
texts_more : (words : List (Bor Word)) (i : ℕ) (d : Bor Word) → i < length words
    → take (i + 1) (texts words) ≡ take i (texts words) ++ (get_or words i d).now ∷ []
texts_more words i d l =
    take_more (texts words) i [] (omega (arith, length-map words (λ (word : Bor Word). word.now), l))
    ∙ ap (λ w. take i (texts words) ++ w ∷ []) (get_or-map (λ (word : Bor Word). word.now) words i d [] l)

-- what the next word makes of what stood before it
pub after_next : (words : List (Bor Word)) (i : ℕ) (d : Bor Word) (r : Reading) (made : Result Reading Why) → i < length words
    → after (take i (texts words)) reading.Start ≡ Ok r → step r (get_or words i d).now ≡ made → after (take (i + 1) (texts words)) reading.Start ≡ made
after_next words i d r made l e h =
    ap (λ ws. after ws reading.Start) (texts_more words i d l)
    ∙ after-append (take i (texts words)) ((get_or words i d).now ∷ []) reading.Start
    ∙ ap (on (after ((get_or words i d).now ∷ []))) e
    ∙ on_nothing (step r (get_or words i d).now)
    ∙ h
  where
    on_nothing : (made : Result Reading Why) → on (after []) made ≡ made
    on_nothing (Ok r) = refl
    on_nothing (Err w) = refl

-- a word is refused where reading stops
pub stops : (words : List (Bor Word)) (i : ℕ) (d : Bor Word) (r : Reading) (stop : OrNoMemory Why) → i < length words
    → after (take i (texts words)) reading.Start ≡ Ok r → Makes {A = Reading} (Err stop) (step r (get_or words i d).now)
    → Refuses (texts words) (error_of i (get_or words i d) stop) × Explains (texts words) (error_of i (get_or words i d) stop)
stops words i d r or_no_memory.NoMemory l e h = (tt, tt)
stops words i d r (or_no_memory.Cause w) l e h =
    let stuck = after_next words i d r (Err w) l e h in (
      record {
        there = slice_get-get_or (texts words) i [] (omega (arith, length-map words (λ (word : Bor Word). word.now), l))
            ∙ ap Some (get_or-map (λ (word : Bor Word). word.now) words i d [] l);
        goes_on = goes_on (take i (texts words)) r e;
        no_further = no_further (take (i + 1) (texts words)) w stuck;
        no_form = subst IsNoForm (take-append-drop (i + 1) (texts words)) (no_further (take (i + 1) (texts words)) w stuck (drop (i + 1) (texts words)));
      },
      stuck,
    )

-- at the end all words have been read
pub all_read : (words : List (Bor Word)) (i : ℕ) (r : Reading) → length words ≤ i
    → after (take i (texts words)) reading.Start ≡ Ok r → after (texts words) reading.Start ≡ Ok r
all_read words i r l e =
    ap (λ ws. after ws reading.Start) (sym (take_all i (texts words) (omega (arith, length-map words (λ (word : Bor Word). word.now), l)))) ∙ e

-- what is missing at the end
pub missing-is : (r : Reading) (m : Missing) → Finishes r (Err m) → missing_of r ≡ Some m
missing-is reading.Start m h = h
missing-is (reading.Ready c given) m h = h
missing-is (reading.Waiting c given o) m h = h

-- so words at whose end something is missing are cut short
pub unfinished : (words : List (Bor Word)) (i : ℕ) (r : Reading) (m : Missing) → length words ≤ i
    → after (take i (texts words)) reading.Start ≡ Ok r → Finishes r (Err m)
    → IsCutShort (texts words)
unfinished words i r m l e h = cut_short (texts words) r m (all_read words i r l e) (missing-is r m h)
