-- What a value gives, as it is read, is what the forms say.
use Rattle.std.proofs.Common.{◌≡◌, ◌<◌, ◌^◌, ℕ, Bool, true, false, not, cond, nat_eq, [], ◌∷◌, refl, ap, sym, ◌∙◌, arith}
use Rattle.std.specs.Prelude.{codes, Option, Some, None, is_some, Ok}
use Rattle.std.specs.Str.{bytes_eq}
use Rattle.std.proofs.lemmas.Bool.{eqb-false, ne_eqb, not-true}
use Rattle.std.proofs.lemmas.Slice.Eq.{bytes_eq-Decides}
use Rattle.rdt_types.specs.declared.limits.TheConstants.{LEAST_SHARDS, MOST_SHARDS, LEAST_WINDOW, MOST_WINDOW, LEAST_COMMITS, MOST_COMMITS}
use Rattle.cli_words.specs.declared.limits.TheConstants.{LEAST_SESSIONS, MOST_SESSIONS, MOST_AT, MOST_SEED, LEAST_COUNT, MOST_COUNT}
use Rattle.cli_words.specs.declared.name.OptionName.{OptionName}
use Rattle.cli_words.specs.declared.name.OptionName.TheVariants as option
use Rattle.cli_words.specs.declared.refusal.Why.{Why}
use Rattle.cli_words.specs.declared.refusal.Why.TheVariants as why
use Rattle.cli_words.specs.Forms.{Word, HYPHEN, IsNumber, IsPlace, form_word, Given, Gives}
use Rattle.cli_words.specs.code.Reading.{number_within, is_given, put_number, is_place, put_place, wire_named, put_form, with_value}
use Rattle.cli_words.proofs.Numbers.{number-sound, number-complete}

-- nothing is there
pub not_there : {A : Type 0} (o : Option A) → is_some o ≡ false → o ≡ None
not_there None h = refl
not_there (Some x) h = absurd (cc)

-- a number that was put is one within the limits
record Put (least most : ℕ) (word : Word) (put : ℕ → Given) (next : Given) : Type 0 where
  number : ℕ
  is : IsNumber least most word number
  puts : next ≡ put number

-- what was found is put, and is of its form
put_by : (least most : ℕ) (word : Word) (put : ℕ → Given) (next : Given) (found : Option ℕ)
    → number_within least most word ≡ found → put_number least most put found ≡ Ok next → Put least most word put next
put_by least most word put next None e h = absurd (cc)
put_by least most word put next (Some n) e h = record { number = n; is = number-sound least most word n e; puts = cc }

-- the same of the number that the word is
put-sound : (least most : ℕ) (word : Word) (put : ℕ → Given) (next : Given)
    → put_number least most put (number_within least most word) ≡ Ok next → Put least most word put next
put-sound least most word put next h = put_by least most word put next (number_within least most word) refl h

-- a number of its form is found, and then put
put-complete : (least most : ℕ) (word : Word) (put : ℕ → Given) (next : Given) (n : ℕ) → most < 2 ^ 64 → IsNumber least most word n → next ≡ put n
    → put_number least most put (number_within least most word) ≡ Ok next
put-complete least most word put next n small is e =
    ap (put_number least most put) (number-complete least most word n small is) ∙ ap Ok (sym e)

-- the test of an address or a path is that it doesn't begin with `-`
place-sound : (word : Word) → is_place word ≡ true → IsPlace word
place-sound [] h = absurd (cc)
place-sound (b ∷ word) h = eqb-false b HYPHEN (not-true (nat_eq b HYPHEN) h)

-- and so the other way round
place-complete : (word : Word) → IsPlace word → is_place word ≡ true
place-complete [] h = absurd h
place-complete (b ∷ word) h = ap not (ne_eqb b HYPHEN h)

-- it is given only where the test is passed
place_by : (w : Why) (t : Bool) (x next : Given) → put_place w x t ≡ Ok next → (t ≡ true) × (next ≡ x)
place_by w true x next h = (refl, cc)
place_by w false x next h = absurd (cc)

-- a word names a form only where it is the form's word
wire-named : (word : Word) (wire : Bool) → wire_named word ≡ Some wire → word ≡ form_word wire
wire-named word wire h = by (bytes_eq word (codes "text")) (bytes_eq word (codes "wire")) refl refl h
  where
    by : (t w : Bool) → bytes_eq word (codes "text") ≡ t → bytes_eq word (codes "wire") ≡ w
        → cond t (Some false) (cond w (Some true) None) ≡ Some wire → word ≡ form_word wire
    by true w e f h = let k : false ≡ wire = cc in (bytes_eq-Decides word (codes "text")).0 e ∙ ap form_word k
    by false true e f h = let k : true ≡ wire = cc in (bytes_eq-Decides word (codes "wire")).0 f ∙ ap form_word k
    by false false e f h = absurd (cc)

-- a form that was put was named
form_by : (put : Bool → Given) (next : Given) (found : Option Bool) → put_form put found ≡ Ok next
    → (wire : Bool) × (found ≡ Some wire) × (next ≡ put wire)
form_by put next None h = absurd (cc)
form_by put next (Some wire) h = (wire, refl, cc)

-- each form is named by its word
wire-complete : (wire : Bool) → wire_named (form_word wire) ≡ Some wire
wire-complete false = refl
wire-complete true = refl

-- option by option: what is read is what the form gives
pub value-sound : (o : OptionName) (word : Word) (given next : Given) → is_given o given ≡ false → with_value o word given ≡ Ok next → Gives o word given next
value-sound option.Shards word given next free h =
    let k = put-sound LEAST_SHARDS MOST_SHARDS word (λ n. record given { shards = Some n }) next h in
    (not_there given.shards free, k.number, k.is, k.puts)
value-sound option.Window word given next free h =
    let k = put-sound LEAST_WINDOW MOST_WINDOW word (λ n. record given { window = Some n }) next h in
    (not_there given.window free, k.number, k.is, k.puts)
value-sound option.Limit word given next free h =
    let k = put-sound LEAST_COMMITS MOST_COMMITS word (λ n. record given { limit = Some n }) next h in
    (not_there given.limit free, k.number, k.is, k.puts)
value-sound option.Sessions word given next free h =
    let k = put-sound LEAST_SESSIONS MOST_SESSIONS word (λ n. record given { sessions = Some n }) next h in
    (not_there given.sessions free, k.number, k.is, k.puts)
value-sound option.Address word given next free h =
    let k = place_by why.NotAnAddress (is_place word) (record given { address = Some word }) next h in
    (not_there given.address free, place-sound word k.0, k.1)
value-sound option.File word given next free h =
    let k = place_by why.NotAPath (is_place word) (record given { file = Some word }) next h in
    (not_there given.file free, place-sound word k.0, k.1)
value-sound option.At word given next free h =
    let k = put-sound 0 MOST_AT word (λ n. record given { at = Some n }) next h in
    (not_there given.at free, k.number, k.is, k.puts)
value-sound option.Form word given next free h =
    let k = form_by (λ wire. record given { wire = Some wire }) next (wire_named word) h in
    (not_there given.wire free, k.0, wire-named word k.0 k.1, k.2)
value-sound option.Seed word given next free h =
    let k = put-sound 0 MOST_SEED word (λ n. record given { seed = Some n }) next h in
    (not_there given.seed free, k.number, k.is, k.puts)
value-sound option.Count word given next free h =
    let k = put-sound LEAST_COUNT MOST_COUNT word (λ n. record given { count = Some n }) next h in
    (not_there given.count free, k.number, k.is, k.puts)

-- an option that is given had not been, and its value is read
pub free-complete : (o : OptionName) (word : Word) (given next : Given) → Gives o word given next → is_given o given ≡ false
free-complete option.Shards word given next h = ap is_some h.0
free-complete option.Window word given next h = ap is_some h.0
free-complete option.Limit word given next h = ap is_some h.0
free-complete option.Sessions word given next h = ap is_some h.0
free-complete option.Address word given next h = ap is_some h.0
free-complete option.File word given next h = ap is_some h.0
free-complete option.At word given next h = ap is_some h.0
free-complete option.Form word given next h = ap is_some h.0
free-complete option.Seed word given next h = ap is_some h.0
free-complete option.Count word given next h = ap is_some h.0

-- and what the form gives is read
pub value-complete : (o : OptionName) (word : Word) (given next : Given) → Gives o word given next → with_value o word given ≡ Ok next
value-complete option.Shards word given next h =
    put-complete LEAST_SHARDS MOST_SHARDS word (λ n. record given { shards = Some n }) next h.1 (omega arith) h.2 h.3
value-complete option.Window word given next h =
    put-complete LEAST_WINDOW MOST_WINDOW word (λ n. record given { window = Some n }) next h.1 (omega arith) h.2 h.3
value-complete option.Limit word given next h =
    put-complete LEAST_COMMITS MOST_COMMITS word (λ n. record given { limit = Some n }) next h.1 (omega arith) h.2 h.3
value-complete option.Sessions word given next h =
    put-complete LEAST_SESSIONS MOST_SESSIONS word (λ n. record given { sessions = Some n }) next h.1 (omega arith) h.2 h.3
value-complete option.Address word given next h =
    ap (put_place why.NotAnAddress (record given { address = Some word })) (place-complete word h.1) ∙ ap Ok (sym h.2)
value-complete option.File word given next h =
    ap (put_place why.NotAPath (record given { file = Some word })) (place-complete word h.1) ∙ ap Ok (sym h.2)
value-complete option.At word given next h =
    put-complete 0 MOST_AT word (λ n. record given { at = Some n }) next h.1 (omega arith) h.2 h.3
value-complete option.Form word given next h =
    let put : Bool → Given = λ wire. record given { wire = Some wire } in
    ap (λ w. put_form put (wire_named w)) h.2 ∙ ap (put_form put) (wire-complete h.1) ∙ ap Ok (sym h.3)
value-complete option.Seed word given next h =
    put-complete 0 MOST_SEED word (λ n. record given { seed = Some n }) next h.1 (omega arith) h.2 h.3
value-complete option.Count word given next h =
    put-complete LEAST_COUNT MOST_COUNT word (λ n. record given { count = Some n }) next h.1 (omega arith) h.2 h.3
