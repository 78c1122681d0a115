-- One of several words, none of which begins another: the rule is `SpelledBy`, and this is its reader.
use Rattle.std.specs.Prelude.{◌≡◌, ◌⊎◌, ℕ, Bool, true, false, not, ◌&&◌, nat_eq, nat_lt, if◌then◌else◌, List, [], ◌∷◌, length, codes, Ok, Err, refl}
use Rattle.std.specs.List.{common_prefix_len}
use Rattle.plain_data.specs.Texts.{Bytes}
use Rattle.predictive_parsing.specs.Reading.{Reader, of, one}
use Rattle.predictive_parsing.specs.Bytes.{byte, word}

-- how many bytes at the front a word has in common with what is ahead
abbrev pub shared : Bytes → Bytes → ℕ
shared word ts = common_prefix_len nat_eq word ts

-- of two words that which has more in common with what is ahead, and the first where both have as much
abbrev pub closer : {W : Type 0} → (W → Bytes) → Bytes → W → W → W
closer spelled ts v w = if nat_lt (shared (spelled v) ts) (shared (spelled w) ts) then w else v

-- of some words that which has most in common
unfoldable pub closest : {W : Type 0} → (W → Bytes) → Bytes → W → List W → W
closest spelled ts best [] = best
closest spelled ts best (w ∷ others) = closest spelled ts (closer spelled ts best w) others

-- one of the words: that which has most in common with what is ahead is read
unfoldable pub one_of : {W : Type 0} → (W → Bytes) → W → List W → Reader ℕ W
one_of spelled first others = λ ts. let w = closest spelled ts first others in of (λ _. w) (word (spelled w)) ts

-- ---- what a table of words has to be

-- among these words
abbrev pub In : {W : Type 0} → List W → W → Type 0
In [] w = ⊥
In (v ∷ words) w = (v ≡ w) ⊎ In words w

-- whether a word begins another
abbrev pub begins_word : Bytes → Bytes → Bool
begins_word v w = nat_eq (shared v w) (length v)

-- whether a word and others don't begin each other
abbrev pub is_free : {W : Type 0} → (W → Bytes) → W → List W → Bool
is_free spelled v [] = true
is_free spelled v (w ∷ words) = not (begins_word (spelled v) (spelled w)) && not (begins_word (spelled w) (spelled v)) && is_free spelled v words

-- whether none begins another
abbrev pub are_apart : {W : Type 0} → (W → Bytes) → List W → Bool
are_apart spelled [] = true
are_apart spelled (v ∷ words) = is_free spelled v words && are_apart spelled words

-- whether a word is made of bytes
abbrev pub are_bytes : Bytes → Bool
are_bytes [] = true
are_bytes (b ∷ w) = nat_lt b 256 && are_bytes w

-- Words of which each is spelled in bytes and none begins another.
pub record AreWords {W : Type 0} (spelled : W → Bytes) (first : W) (others : List W) : Type 0 where
  pub all : (w : W) → In (first ∷ others) w
  pub bytes : (w : W) → are_bytes (spelled w) ≡ true
  pub apart : are_apart spelled (first ∷ others) ≡ true

-- ---- worked rows

-- two words that begin alike, told apart at the third byte
abbrev pub alike : Bool → Bytes
alike true = codes "see"
alike false = codes "set"

pub alike_bytes : (word : Bool) → are_bytes (alike word) ≡ true
alike_bytes true = refl
alike_bytes false = refl

reads_one : one_of alike true (false ∷ []) (codes "set!") ≡ Ok (false, codes "!")
unfolding one_of closest word byte one
reads_one = refl

refuses_others : one_of alike true (false ∷ []) (codes "sew") ≡ Err (codes "w")
unfolding one_of closest word byte one
refuses_others = refl
