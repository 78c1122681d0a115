-- The readers of values, addresses and outcomes read what their rules derive.
use Rattle.std.proofs.Common.{◌≡◌, ℕ, Bool, true, false, not, List, [], Option, Some, None, refl, ap, ◌∙◌, arith, inl, inr, codes}
use Rattle.std.proofs.lemmas.Bool.Decides.{nat_tests}
use Rattle.predictive_parsing.specs.Reading.{next, pure, either, of}
use Rattle.predictive_parsing.specs.Rules.{Rule, Then, Pure, Or, Many, ListOf, Word, SpelledBy, Of, Behind}
use Rattle.predictive_parsing.specs.Fits.{Fits, any, unless}
use Rattle.predictive_parsing.specs.Bytes.{IsByte, Byte, sees, word}
use Rattle.predictive_parsing.specs.Choices.{are_bytes}
use Rattle.predictive_parsing.proofs.Basic.{both, not_true}
use Rattle.predictive_parsing.proofs.Combined.{fits_as, guided_fits, spelled_to, spelled_from, pure_fits, onwards, followed, either_fits, seen, narrowed}
use Rattle.predictive_parsing.proofs.Lists.{many_fits, list_fits}
use Rattle.predictive_parsing.proofs.Words.{byte_fits, byte_next, byte_begins, behind_fits, named_fits}
use Rattle.plain_data.specs.Texts.{Bytes}
use Rattle.rdt_types.specs.declared.address.Kind.{Kind}
use Rattle.rdt_types.specs.declared.address.Kind.TheVariants as kinds
use Rattle.rdt_types.specs.declared.outcome.Item.{Item}
use Rattle.rdt_types.specs.declared.outcome.Item.TheVariants as items
use Rattle.rdt_types.specs.declared.outcome.Outcome.{Outcome}
use Rattle.rdt_types.specs.declared.outcome.Outcome.TheVariants as outcomes
use Rattle.rdt_types.specs.Printed.{word_of}
use Rattle.dtext.specs.Printing.{printed_bool}
use Rattle.dtext.specs.Follows.{no_digit, no_more}
use Rattle.dtext.specs.Spellings.{TextRule, NumberRule, BoolRule, AfterComma, first_and, Separated, TextsRule, AddressRule, ItemRule, AfterSpace, OutcomeRule}
use Rattle.dtext.specs.code.Reading.{text, number, begins_number, bool, after_comma, some_texts, texts, kind_ahead}
use Rattle.dtext.specs.code.Reading.{kind, address, item, after_space, emitted, ran, failed, outcome}
use Rattle.dtext.proofs.TextFits.{text_fits, text_next}
use Rattle.dtext.proofs.NumberFits.{number_fits, number_begins}

-- ---- truth values and kinds

-- both words are bytes
bool_bytes : (b : Bool) → are_bytes (printed_bool b) ≡ true
bool_bytes true = refl
bool_bytes false = refl

-- `t` tells which truth value it is
bool_told : (b c : Bool) (ts us : Bytes) → Of (λ _. b) (Word (printed_bool b)) ts c us → sees 116 (next ts) ≡ b
bool_told true c ts us r = ap (λ xs. sees 116 (next xs)) r.first
bool_told false c ts us r = ap (λ xs. sees 116 (next xs)) r.first

-- truth values, by their words
pub bool_fits : Fits IsByte bool BoolRule any
unfolding bool
bool_fits = fits_as IsByte (spelled_to IsByte printed_bool) (spelled_from IsByte printed_bool)
    (guided_fits IsByte (sees 116) (λ b. of (λ _. b) (word (printed_bool b))) (λ b. Of (λ _. b) (Word (printed_bool b))) any
    (λ b. named_fits (printed_bool b) b (bool_bytes b)) (λ b ts us c r h. bool_told b c ts us r) true)

-- each word is bytes
kind_bytes : (k : Kind) → are_bytes (word_of k) ≡ true
kind_bytes kinds.Bool = refl
kind_bytes kinds.Counter = refl
kind_bytes kinds.Text = refl
kind_bytes kinds.Set = refl
kind_bytes kinds.Hash = refl
kind_bytes kinds.List = refl
kind_bytes kinds.Peak = refl

-- the first byte tells which kind it is
kind_told : (k c : Kind) (ts us : Bytes) → Of (λ _. k) (Word (word_of k)) ts c us → kind_ahead (next ts) ≡ k
kind_told kinds.Bool c ts us r = ap (λ xs. kind_ahead (next xs)) r.first
kind_told kinds.Counter c ts us r = ap (λ xs. kind_ahead (next xs)) r.first
kind_told kinds.Text c ts us r = ap (λ xs. kind_ahead (next xs)) r.first
kind_told kinds.Set c ts us r = ap (λ xs. kind_ahead (next xs)) r.first
kind_told kinds.Hash c ts us r = ap (λ xs. kind_ahead (next xs)) r.first
kind_told kinds.List c ts us r = ap (λ xs. kind_ahead (next xs)) r.first
kind_told kinds.Peak c ts us r = ap (λ xs. kind_ahead (next xs)) r.first

-- kinds, by their words
pub kind_fits : Fits IsByte kind (SpelledBy word_of) any
unfolding kind
kind_fits = fits_as IsByte (spelled_to IsByte word_of) (spelled_from IsByte word_of)
    (guided_fits IsByte kind_ahead (λ k. of (λ _. k) (word (word_of k))) (λ k. Of (λ _. k) (Word (word_of k))) any
    (λ k. named_fits (word_of k) k (kind_bytes k)) (λ k ts us c r h. kind_told k c ts us r) kinds.Bool)

-- a kind, and a key in parentheses
pub address_fits : Fits IsByte address AddressRule any
unfolding address
address_fits = onwards IsByte kind_fits (λ k. onwards IsByte (byte_fits 40 (omega arith)) (λ _. onwards IsByte text_fits (λ key.
    seen IsByte (λ _. record { kind = k; key = key }) (byte_fits 41 (omega arith)))))

-- ---- the byte with which a form begins

-- texts begin with a bracket
pub texts_next : (ts us : Bytes) (a : List Bytes) → TextsRule ts a us → next ts ≡ Some 91
texts_next ts us a r = byte_next 91 ts r.middle r.value r.first

-- no truth value begins as another value does
pub bool_apart : (test : Option ℕ → Bool) → test (Some 116) ≡ false → test (Some 102) ≡ false → (ts us : Bytes) (b : Bool)
    → BoolRule ts b us → test (next ts) ≡ false
bool_apart test t f ts us true r = ap (λ xs. test (next xs)) r ∙ t
bool_apart test t f ts us false r = ap (λ xs. test (next xs)) r ∙ f

-- ---- texts in brackets

-- a text behind a comma
after_comma_fits : Fits IsByte after_comma AfterComma any
unfolding after_comma
after_comma_fits = onwards IsByte (byte_fits 44 (omega arith)) (λ _. text_fits)

-- it begins with the comma
after_comma_begins : (ts us a : Bytes) → AfterComma ts a us → sees 44 (next ts) ≡ true
after_comma_begins ts us a r = byte_begins 44 ts r.middle r.value r.first

-- one text, and others behind commas
some_texts_fits : Fits IsByte some_texts (Of first_and (ListOf TextRule AfterComma)) (unless (sees 44) any)
unfolding some_texts
some_texts_fits =
    seen IsByte first_and (list_fits IsByte (sees 44) after_comma AfterComma any after_comma_fits after_comma_begins refl
    (λ h e. refl) text TextRule text_fits)

-- neither a text nor one more follows
abbrev closed : Option ℕ → Bool
closed = unless (sees 34) (unless (sees 44) any)

-- texts or none, which a quote tells apart
separated_fits : Fits IsByte (either (sees 34) some_texts (pure [])) Separated closed
separated_fits = either_fits IsByte (sees 34) some_texts (pure []) (Of first_and (ListOf TextRule AfterComma)) (Pure []) closed
    (narrowed IsByte closed (λ h e. (both (unless (sees 44) any h) (not (sees 34 h)) e).0) some_texts_fits)
    (narrowed IsByte closed (λ h e. refl) (pure_fits IsByte []))
    (λ ts us a r. let q = r.first.first in byte_begins 34 ts q.middle q.value q.first)
    (λ ts us a r e. ap (λ xs. sees 34 (next xs)) r.here ∙ not_true (sees 34 (next us)) (both (unless (sees 44) any (next us)) (not (sees 34 (next us))) e).1)

-- a closing bracket follows neither a text nor a comma
bracket_ends : (us vs : Bytes) (found a : List Bytes) → Then (Byte 93) (λ _. Pure found) us a vs → closed (next us) ≡ true
bracket_ends us vs found a r = ap closed (byte_next 93 us r.middle r.value r.first)

-- texts in brackets
pub texts_fits : Fits IsByte texts TextsRule any
unfolding texts
texts_fits = onwards IsByte (byte_fits 91 (omega arith)) (λ _. followed IsByte separated_fits
    (λ found. seen IsByte (λ _. found) (byte_fits 93 (omega arith)))
    (λ found us vs a r e. bracket_ends us vs found a r))

-- ---- values

-- texts or a truth value
abbrev TextsOrBool : Rule ℕ Item
TextsOrBool = Or (Of items.Texts TextsRule) (Of items.Bool BoolRule)

-- a bracket tells texts from truth values
texts_or_bool_fits : Fits IsByte (either (sees 91) (of items.Texts texts) (of items.Bool bool)) TextsOrBool any
texts_or_bool_fits =
    either_fits IsByte (sees 91) (of items.Texts texts) (of items.Bool bool) (Of items.Texts TextsRule) (Of items.Bool BoolRule)
    any (seen IsByte items.Texts texts_fits) (seen IsByte items.Bool bool_fits)
    (λ ts us a r. ap (sees 91) (texts_next ts r.middle r.value r.first))
    (λ ts us a r e. bool_apart (sees 91) refl refl ts r.middle r.value r.first)

-- a value that is no number
abbrev NoNumber : Rule ℕ Item
NoNumber = Or (Of items.Text TextRule) TextsOrBool

-- neither begins as another value does
texts_or_bool_apart : (test : Option ℕ → Bool) → test (Some 91) ≡ false → test (Some 116) ≡ false → test (Some 102) ≡ false
    → (ts us : Bytes) (a : Item) → TextsOrBool ts a us → test (next ts) ≡ false
texts_or_bool_apart test o t f ts us a (inl r) = ap test (texts_next ts r.middle r.value r.first) ∙ o
texts_or_bool_apart test o t f ts us a (inr r) = bool_apart test t f ts r.middle r.value r.first

-- a quote tells texts from these
no_number_fits : Fits IsByte (either (sees 34) (of items.Text text) (either (sees 91) (of items.Texts texts) (of items.Bool bool))) NoNumber any
no_number_fits =
    either_fits IsByte (sees 34) (of items.Text text) _ (Of items.Text TextRule) TextsOrBool any
    (seen IsByte items.Text text_fits) texts_or_bool_fits
    (λ ts us a r. ap (sees 34) (text_next ts r.middle r.value r.first))
    (λ ts us a r e. texts_or_bool_apart (sees 34) refl refl refl ts us a r)

-- no other value begins as a number does
no_number_apart : (ts us : Bytes) (a : Item) → NoNumber ts a us → begins_number (next ts) ≡ false
no_number_apart ts us a (inl r) = ap begins_number (text_next ts r.middle r.value r.first)
no_number_apart ts us a (inr r) = texts_or_bool_apart begins_number refl refl refl ts us a r

-- values of any type
pub item_fits : Fits IsByte item ItemRule no_digit
unfolding item
item_fits =
    either_fits IsByte begins_number (of items.Int number) _ (Of items.Int NumberRule) NoNumber no_digit
    (seen IsByte items.Int number_fits) (narrowed IsByte no_digit (λ h e. refl) no_number_fits)
    (λ ts us a r. number_begins ts r.middle r.value r.first)
    (λ ts us a r e. no_number_apart ts us a r)

-- ---- outcomes

-- a value behind a space
after_space_fits : Fits IsByte after_space AfterSpace no_digit
unfolding after_space
after_space_fits = onwards IsByte (byte_fits 32 (omega arith)) (λ _. item_fits)

-- it begins with the space
after_space_begins : (ts us : Bytes) (a : Item) → AfterSpace ts a us → sees 32 (next ts) ≡ true
after_space_begins ts us a r = byte_begins 32 ts r.middle r.value r.first

-- a space is no digit
space_no_digit : (h : Option ℕ) → sees 32 h ≡ true → no_digit h ≡ true
space_no_digit None e = absurd (cc)
space_no_digit (Some b) e = let k : b ≡ 32 = grind (arith, nat_tests, e) in ap (λ x. no_digit (Some x)) k

-- any number of values behind spaces
emitted_fits : Fits IsByte emitted (Many AfterSpace) no_more
unfolding emitted
emitted_fits = many_fits IsByte (sees 32) after_space AfterSpace no_digit after_space_fits after_space_begins refl space_no_digit

-- `ok` and values
abbrev Ran : Rule ℕ Outcome
Ran = Behind (codes "ok") (Of outcomes.Ok (Many AfterSpace))

-- it is read as its rule says
ran_fits : Fits IsByte ran Ran no_more
unfolding ran
ran_fits = behind_fits (codes "ok") refl (seen IsByte outcomes.Ok emitted_fits)

-- `fail` and a text
abbrev Failed : Rule ℕ Outcome
Failed = Behind (codes "fail ") (Of outcomes.Fail TextRule)

-- it is read as its rule says
failed_fits : Fits IsByte failed Failed any
unfolding failed
failed_fits = behind_fits (codes "fail ") refl (seen IsByte outcomes.Fail text_fits)

-- the word alone
abbrev Spent : Rule ℕ Outcome
Spent = Of (λ _. outcomes.Spent) (Word (codes "spent"))

-- the word alone
abbrev Big : Rule ℕ Outcome
Big = Of (λ _. outcomes.Big) (Word (codes "big"))

-- the first byte tells the two words apart
spent_or_big_fits : Fits IsByte (either (sees 115) (of (λ _. outcomes.Spent) (word (codes "spent")))
    (of (λ _. outcomes.Big) (word (codes "big")))) (Or Spent Big) any
spent_or_big_fits =
    either_fits IsByte (sees 115) _ _ Spent Big any (named_fits (codes "spent") outcomes.Spent refl)
    (named_fits (codes "big") outcomes.Big refl)
    (λ ts us a r. ap (λ xs. sees 115 (next xs)) r.first)
    (λ ts us a r e. ap (λ xs. sees 115 (next xs)) r.first)

-- neither begins as another outcome does
spent_or_big_apart : (test : Option ℕ → Bool) → test (Some 115) ≡ false → test (Some 98) ≡ false → (ts us : Bytes) (a : Outcome)
    → Or Spent Big ts a us → test (next ts) ≡ false
spent_or_big_apart test s b ts us a (inl r) = ap (λ xs. test (next xs)) r.first ∙ s
spent_or_big_apart test s b ts us a (inr r) = ap (λ xs. test (next xs)) r.first ∙ b

-- `f` tells a failure from the words alone
no_run_fits : Fits IsByte (either (sees 102) failed
    (either (sees 115) (of (λ _. outcomes.Spent) (word (codes "spent"))) (of (λ _. outcomes.Big) (word (codes "big")))))
    (Or Failed (Or Spent Big)) any
no_run_fits = either_fits IsByte (sees 102) failed _ Failed (Or Spent Big) any failed_fits spent_or_big_fits
    (λ ts us a r. ap (λ xs. sees 102 (next xs)) r.first)
    (λ ts us a r e. spent_or_big_apart (sees 102) refl refl ts us a r)

-- none of these begins with `o`
no_run_apart : (ts us : Bytes) (a : Outcome) → Or Failed (Or Spent Big) ts a us → sees 111 (next ts) ≡ false
no_run_apart ts us a (inl r) = ap (λ xs. sees 111 (next xs)) r.first
no_run_apart ts us a (inr r) = spent_or_big_apart (sees 111) refl refl ts us a r

-- outcomes of any form
pub outcome_fits : Fits IsByte outcome OutcomeRule no_more
unfolding outcome
outcome_fits = either_fits IsByte (sees 111) ran _ Ran (Or Failed (Or Spent Big)) no_more ran_fits (narrowed IsByte no_more (λ h e. refl) no_run_fits)
    (λ ts us a r. ap (λ xs. sees 111 (next xs)) r.first)
    (λ ts us a r e. no_run_apart ts us a r)
