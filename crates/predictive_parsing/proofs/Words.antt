-- Bytes and words are read as their rules say.
use Rattle.std.proofs.Common.{◌≡◌, ◌<◌, ℕ, Bool, true, false, [], ◌∷◌, ◌++◌, Option, Some, None, refl, ap, ◌∙◌, arith, cond, nat_eq, nat_lt}
use Rattle.std.proofs.lemmas.Bool.Decides.{nat_tests}
use Rattle.plain_data.specs.Texts.{Bytes}
use Rattle.predictive_parsing.specs.Reading.{Reader, next, of}
use Rattle.predictive_parsing.specs.Rules.{Rule, Then, Of, Word, Behind}
use Rattle.predictive_parsing.specs.Fits.{Fits, any}
use Rattle.predictive_parsing.specs.Bytes.{IsByte, exactly, Byte, byte, sees, word, behind}
use Rattle.predictive_parsing.specs.Choices.{are_bytes}
use Rattle.predictive_parsing.proofs.Basic.{both}
use Rattle.predictive_parsing.proofs.Combined.{fits_as, pure_fits, one_fits, onwards, seen}

-- ---- one byte

-- by whether it is the byte
exactly_by : (b c : ℕ) (t : Bool) (a : Unit {0}) → nat_eq c b ≡ t → cond t (Some tt) None ≡ Some a → c ≡ b
exactly_by b c true a e h = grind (arith, nat_tests, e)
exactly_by b c false a e h = absurd (cc)

-- the byte that a byte's rule takes
pub byte_is : (b c : ℕ) (a : Unit {0}) → exactly b c ≡ Some a → c ≡ b
byte_is b c a e = exactly_by b c (nat_eq c b) a refl e

-- a byte is equal to itself
pub same_byte : (b : ℕ) → nat_eq b b ≡ true
same_byte b = grind (arith, nat_tests)

-- so it is taken
pub exactly_made : (b : ℕ) → exactly b b ≡ Some tt
exactly_made b = ap (λ t. cond t (Some tt) None) (same_byte b)

-- a byte's rule takes it off the front
pub byte_taken : (b : ℕ) (ts us : Bytes) (a : Unit {0}) → Byte b ts a us → ts ≡ b ∷ us
byte_taken b ts us a r = r.first ∙ ap (λ c. c ∷ us) (byte_is b r.item a r.made)

-- and derives it at the front
pub byte_made : (b : ℕ) (us : Bytes) → Byte b (b ∷ us) tt us
byte_made b us = record { item = b; first = refl; made = exactly_made b }

-- one byte is read as its rule says
pub byte_fits : (b : ℕ) → b < 256 → Fits IsByte (byte b) (Byte b) any
unfolding byte
byte_fits b h = one_fits IsByte (exactly b) b tt (exactly_made b) h

-- ---- words

-- a byte and the rest of a word are the word
word_whole : (b : ℕ) (w : Bytes) (ts us : Bytes) (a : Unit {0}) → Then (Byte b) (λ _. Word w) ts a us → Word (b ∷ w) ts a us
word_whole b w ts us a r = byte_taken b ts r.middle r.value r.first ∙ ap (λ xs. b ∷ xs) r.second

-- and a word is its first byte and the rest
word_parts : (b : ℕ) (w : Bytes) (ts us : Bytes) (a : Unit {0}) → Word (b ∷ w) ts a us → Then (Byte b) (λ _. Word w) ts a us
word_parts b w ts us a r = record { value = tt; middle = w ++ us; first = record { item = b; first = r; made = exactly_made b }; second = refl }

-- a byte is below 256
below : (b : ℕ) → nat_lt b 256 ≡ true → b < 256
below b e = grind (arith, nat_tests, e)

-- words are read as their rule says
pub word_fits : (w : Bytes) → are_bytes w ≡ true → Fits IsByte (word w) (Word w) any
unfolding word
word_fits [] h = fits_as IsByte (λ ts us a r. r.here) (λ ts us a r. record { is = refl; here = r }) (pure_fits IsByte tt)
word_fits (b ∷ w) h =
    fits_as IsByte (word_whole b w) (word_parts b w)
    (let k = both (nat_lt b 256) (are_bytes w) h in onwards IsByte (byte_fits b (below b k.0)) (λ _. word_fits w k.1))

-- a byte's rule takes the byte that is ahead
pub byte_begins : (b : ℕ) (ts us : Bytes) (a : Unit {0}) → Byte b ts a us → sees b (next ts) ≡ true
byte_begins b ts us a r = ap (λ xs. sees b (next xs)) (byte_taken b ts us a r) ∙ same_byte b

-- a word, and then what fits
pub behind_fits : {A : Type 0} {p : Reader ℕ A} {P : Rule ℕ A} {follows : Option ℕ → Bool} (w : Bytes) → are_bytes w ≡ true
    → Fits IsByte p P follows → Fits IsByte (behind w p) (Behind w P) follows
behind_fits w h fp = onwards IsByte (word_fits w h) (λ _. fp)

-- a word that stands for a value
pub named_fits : {A : Type 0} (w : Bytes) (a : A) → are_bytes w ≡ true → Fits IsByte (of (λ _. a) (word w)) (Of (λ _. a) (Word w)) any
named_fits w a h = seen IsByte (λ _. a) (word_fits w h)

-- a byte is ahead where its rule takes it
pub byte_next : (b : ℕ) (ts us : Bytes) (a : Unit {0}) → Byte b ts a us → next ts ≡ Some b
byte_next b ts us a r = ap next (byte_taken b ts us a r)
