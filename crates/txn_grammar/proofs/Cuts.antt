-- A text is cut token by token.
use Rattle.std.proofs.Common.{◌≡◌, ℕ, zero, suc, ◌+◌, ◌-◌, ◌<◌, ◌≤◌, ◌==◌, Bool, true, false, cond, List, [], ◌∷◌, ◌++◌}
use Rattle.std.proofs.Common.{length, take, drop, slice_index, Option, Some, None, Ok, Err, nat_lt, refl, ap, sym, ◌∙◌}
use Rattle.std.proofs.Common.{inl, inr, arith, append_assoc, length-drop, get_or-drop, drop-drop}
use Rattle.std.specs.List.{prefix_len}
use Rattle.std.proofs.lemmas.Bool.Decides.{nat_tests}
use Rattle.std.proofs.lemmas.List.Sums.{prefix_len-le-length}
use Rattle.predictive_parsing.specs.Reading.{Outcome}
use Rattle.predictive_parsing.proofs.Basic.{bool_cases}
use Rattle.txn_grammar.specs.declared.symbol.Symbol.{Symbol}
use Rattle.txn_grammar.specs.declared.token.Spot.{Spot}
use Rattle.txn_grammar.specs.declared.token.Lexeme.{Lexeme}
use Rattle.dtext.specs.Characters.{is_letter, is_digit, is_word, is_blank}
use Rattle.dtext.specs.code.Reading.{text}
use Rattle.dtext.specs.Spellings.{TextRule}
use Rattle.dtext.proofs.TextFits.{text_fits, text_begins}
use Rattle.predictive_parsing.specs.Fits.{any}
use Rattle.predictive_parsing.specs.Bytes.{IsByte, sees}
use Rattle.predictive_parsing.proofs.Lists.{shrinks}
use Rattle.txn_grammar.specs.Characters.{Text}
use Rattle.txn_grammar.specs.Spellings.{mark}
use Rattle.txn_grammar.specs.Lexer.{spot, word_at, number_at, text_at, quoted_lexeme, mark_at, mark_lexeme, short_lexeme, is_malformed, token_at, lex_from}

-- ---- a token takes a byte at least, and no more than there are

-- a token takes a byte at least, and none past the end
pub record Moves (len : ℕ) (z : Text) : Type 0 where
  pub some : 1 ≤ len
  pub within : len ≤ length z

-- a run whose first byte passes has that byte at least, and no run is longer than the text
run_moves : (test : ℕ → Bool) (z : Text) → 0 < length z → test (slice_index z 0) ≡ true → Moves (prefix_len test z) z
run_moves test [] l e = absurd (omega arith)
run_moves test (b ∷ z) l e = record { some = rw e (omega arith); within = prefix_len-le-length test (b ∷ z) }

-- a letter may stand in a word
letter_word : (b : ℕ) → is_letter b ≡ true → is_word b ≡ true
letter_word b e = rw e refl

-- a text in quotes takes a byte at least
pub text_shrinks : (z rest bytes : Text) → text z ≡ Ok (bytes, rest) → length rest < length z
text_shrinks = shrinks IsByte (sees 34) text TextRule any text_fits text_begins refl

-- a text in quotes leaves fewer bytes than there were, and one byte is malformed where none is read
quoted_moves : (z : Text) (r : Outcome ℕ Text) → 0 < length z → text z ≡ r → Moves (quoted_lexeme z r).len z
quoted_moves z (Ok (bytes, rest)) l e = let k = text_shrinks z rest bytes e in record { some = omega arith; within = omega arith }
quoted_moves z (Err rest) l e = record { some = omega arith; within = omega arith }

-- a mark of one byte, or a malformed byte: one byte in either case
short_moves : (z : Text) (short : Option Symbol) → 0 < length z → Moves (short_lexeme short).len z
short_moves z (Some symbol) l = record { some = omega arith; within = omega arith }
short_moves z None l = record { some = omega arith; within = omega arith }

-- a mark of two bytes is made only where there are two; else there is one byte
mark_moves : (z : Text) (b : Bool) (long short : Option Symbol) → 0 < length z → nat_lt (length z) 2 ≡ b → Moves (mark_lexeme (cond b None long) short).len z
mark_moves z true long short l e = short_moves z short l
mark_moves z false None short l e = short_moves z short l
mark_moves z false (Some symbol) short l e = record { some = omega arith; within = grind (arith, nat_tests) }

-- by the byte ahead: a letter or digit begins a run that has it, and a quote or a mark takes a byte at least
pub token_moves : (z : Text) → 0 < length z → Moves (token_at z).len z
unfolding token_at word_at number_at text_at mark_at
token_moves z l = elim (bool_cases (is_letter (slice_index z 0))) [
  | inl e ↦ rw e (run_moves is_word z l (letter_word (slice_index z 0) e))
  | inr e ↦ elim (bool_cases (is_digit (slice_index z 0))) [
    | inl f ↦ rw (e, f) (run_moves is_digit z l f)
    | inr f ↦ elim (bool_cases (slice_index z 0 == 34)) [
      | inl g ↦ rw (e, f, g) (quoted_moves z (text z) l refl)
      | inr g ↦ rw (e, f, g) (mark_moves z (nat_lt (length z) 2) (mark (take 2 z)) (mark (take 1 z)) l refl)
    ]
  ]
]

-- ---- blanks and tokens, one by one

-- what is left of the token before is skipped
skips : (c n : ℕ) (z : Text) → lex_from c n z ≡ lex_from (c + n) 0 (drop n z)
skips c zero z = ap (λ k. lex_from k 0 z) (omega arith)
skips c (suc n) [] = refl
skips c (suc n) (b ∷ z) = skips (c + 1) n z ∙ ap (λ k. lex_from k 0 (drop n z)) (omega arith)

-- behind the first byte there is one byte less to be dropped
drop_less : (n b : ℕ) (z : Text) → 1 ≤ n → drop (n - 1) z ≡ drop n (b ∷ z)
drop_less zero b z h = absurd (omega arith)
drop_less (suc n) b z h = let e : suc n - 1 ≡ n = omega arith in ap (λ k. drop k z) e

-- what is behind a token: nothing where it is malformed
abbrev pub behind : Lexeme → List Spot → List Spot
behind found rest = cond (is_malformed found.token) [] rest

-- the equation of the lexer where nothing is left of a token before, by the test for a blank
pub at_blank : (c b : ℕ) (z : Text) (t : Bool) → is_blank b ≡ t
    → lex_from c 0 (b ∷ z) ≡ cond t (lex_from (c + 1) 0 z)
    (spot c (token_at (b ∷ z)).token ∷ behind (token_at (b ∷ z)) (lex_from (c + 1) ((token_at (b ∷ z)).len - 1) z))
at_blank c b z t e =
    ap (λ x. cond x (lex_from (c + 1) zero z)
    (spot c (token_at (b ∷ z)).token ∷ behind (token_at (b ∷ z)) (lex_from (c + 1) ((token_at (b ∷ z)).len - 1) z))) e

-- the tokens from a column on, which begins with a token
cuts : (c : ℕ) (z : Text) → 0 < length z → is_blank (slice_index z 0) ≡ false
    → lex_from c 0 z ≡ spot c (token_at z).token ∷ behind (token_at z)
    (lex_from (c + (token_at z).len) 0 (drop (token_at z).len z))
cuts c [] l e = absurd (omega arith)
cuts c (b ∷ z) l e =
    let n = (token_at (b ∷ z)).len in
    let some = (token_moves (b ∷ z) l).some in
    let k : (c + 1) + (n - 1) ≡ c + n = omega arith in
    at_blank c b z false e
    ∙ ap (λ xs. spot c (token_at (b ∷ z)).token ∷ behind (token_at (b ∷ z)) xs)
    (skips (c + 1) (n - 1) z ∙ ap (λ m. lex_from m 0 (drop (n - 1) z)) k ∙ ap (λ xs. lex_from (c + n) 0 xs) (drop_less n b z some))

-- a blank is passed over, and the next byte stands one column further
blanks : (c : ℕ) (z : Text) → 0 < length z → is_blank (slice_index z 0) ≡ true → lex_from c 0 z ≡ lex_from (c + 1) 0 (drop 1 z)
blanks c [] l e = absurd (omega arith)
blanks c (b ∷ z) l e = at_blank c b z true e

-- ---- at a place of the text

module _ (z : Text) (at : ℕ) (below : at < length z) where
  -- at a place below the length something is left
  some_left : 0 < length (drop at z)
  some_left = simp length-drop (omega arith)

  -- the first of what is left is the byte at that place
  first_at : slice_index (drop at z) 0 ≡ slice_index z at
  first_at = get_or-drop at z 0 0 ∙ ap (λ i. slice_index z i) (omega arith)

  -- at a blank the tokens are those from the next place on
  pub blank_at : is_blank (slice_index z at) ≡ true → lex_from (at + 1) 0 (drop at z) ≡ lex_from ((at + 1) + 1) 0 (drop (at + 1) z)
  blank_at e = blanks (at + 1) (drop at z) some_left (ap is_blank first_at ∙ e) ∙ ap (λ xs. lex_from ((at + 1) + 1) 0 xs) (drop-drop 1 at z)

  -- where no blank is, the token there stands first, and those behind it are cut where it ends
  lexeme_at : (found : Lexeme) → found ≡ token_at (drop at z) → is_blank (slice_index z at) ≡ false
      → lex_from (at + 1) 0 (drop at z) ≡ spot (at + 1) found.token ∷ behind found (lex_from ((at + found.len) + 1) 0 (drop (at + found.len) z))
  lexeme_at found e h =
      let w = drop at z in
      let n = found.len in
      let k : (at + 1) + n ≡ (at + n) + 1 = omega arith in
      cuts (at + 1) w some_left (ap is_blank first_at ∙ h)
      ∙ ap (λ x. spot (at + 1) x.token ∷ behind x (lex_from ((at + 1) + x.len) 0 (drop x.len w))) (sym e)
      ∙ ap (λ xs. spot (at + 1) found.token ∷ behind found xs)
      (ap (λ m. lex_from m 0 (drop n w)) k ∙ ap (λ xs. lex_from ((at + n) + 1) 0 xs) (drop-drop n at z))

  -- a token goes on to those behind it
  pub lexeme_goes : (found : Lexeme) → found ≡ token_at (drop at z) → is_blank (slice_index z at) ≡ false → is_malformed found.token ≡ false
      → lex_from (at + 1) 0 (drop at z) ≡ spot (at + 1) found.token ∷ lex_from ((at + found.len) + 1) 0 (drop (at + found.len) z)
  lexeme_goes found e h k =
      lexeme_at found e h ∙ ap (λ b. spot (at + 1) found.token ∷ cond b [] (lex_from ((at + found.len) + 1) 0 (drop (at + found.len) z))) k

  -- and a malformed one is the last
  pub lexeme_ends : (found : Lexeme) → found ≡ token_at (drop at z) → is_blank (slice_index z at) ≡ false → is_malformed found.token ≡ true
      → lex_from (at + 1) 0 (drop at z) ≡ spot (at + 1) found.token ∷ []
  lexeme_ends found e h k =
      lexeme_at found e h ∙ ap (λ b. spot (at + 1) found.token ∷ cond b [] (lex_from ((at + found.len) + 1) 0 (drop (at + found.len) z))) k

-- the token at a place takes a byte at least, and no more than are left
pub moves_at : (z : Text) (at : ℕ) (found : Lexeme) → at < length z → found ≡ token_at (drop at z) → (1 ≤ found.len) × (at + found.len ≤ length z)
moves_at z at found below e =
    let m = token_moves (drop at z) (some_left z at below) in
    let k = ap (λ x. x.len) e in
    let l = length-drop at z in
    (omega (arith, m.some, k), omega (arith, m.within, k, l))

-- one more token is known
pub one_more : (items spots rest before whole : List Spot) (s : Spot) → items ≡ spots ++ s ∷ [] → before ≡ s ∷ rest
    → spots ++ before ≡ whole → items ++ rest ≡ whole
one_more items spots rest before whole s e h k = ap (λ xs. xs ++ rest) e ∙ append_assoc spots (s ∷ []) rest ∙ ap (λ xs. spots ++ xs) (sym h) ∙ k

-- the last token is known
pub last_one : (items spots before whole : List Spot) (s : Spot) → items ≡ spots ++ s ∷ [] → before ≡ s ∷ [] → spots ++ before ≡ whole → items ≡ whole
last_one items spots before whole s e h k = e ∙ ap (λ xs. spots ++ xs) (sym h) ∙ k
