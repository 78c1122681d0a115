-- Each token that a text can have is printed as it is cut.
use Rattle.std.proofs.Common.{◌≡◌, ℕ, zero, suc, ◌+◌, ◌-◌, ◌*◌, ◌≤◌, ◌<◌, Bool, true, false, ◌&&◌, ◌||◌, ◌==◌, nat_lt}
use Rattle.std.proofs.Common.{nat_le, cond, [], ◌∷◌, ◌++◌, take, drop, length, fold, ℤ, pos, Option, Some, None, Ok}
use Rattle.std.proofs.Common.{Err, refl, ap, sym, ◌∙◌, subst, slice_index, arith}
use Rattle.std.specs.List.{list_all, prefix_len, AllPass}
use Rattle.std.specs.Fmt.{decimal}
use Rattle.std.specs.Char.{digit_value}
use Rattle.std.specs.Str.Parse.{AllDigits, digits_value_after}
use Rattle.std.proofs.Math.Seq.{take-append_seam}
use Rattle.std.proofs.lemmas.Bool.{le-ltb}
use Rattle.std.proofs.lemmas.Bool.Decides.{nat_tests}
use Rattle.std.proofs.lemmas.List.{length-append}
use Rattle.std.proofs.lemmas.List.Elements.{All-nil, All-head, All-cons}
use Rattle.plain_data.specs.Texts.{Bytes}
use Rattle.rdt_types.specs.Printed.{printed_text}
use Rattle.predictive_parsing.specs.Reading.{next, ahead, Outcome}
use Rattle.predictive_parsing.proofs.Basic.{both}
use Rattle.predictive_parsing.proofs.Prefixes.{prefix_len-front, prefix-passes, prefix_len-some}
use Rattle.dtext.specs.code.Reading.{text}
use Rattle.dtext.proofs.TextFits.{text_fits}
use Rattle.dtext.proofs.PrintedBack.{text_made}
use Rattle.dtext.proofs.Digits.{digit_of, digit_worth, decimal_parts, decimal_zero}
use Rattle.txn_trees.specs.declared.word.ReadWord.{ReadWord}
use Rattle.txn_trees.specs.declared.word.ReadWord.TheVariants as read
use Rattle.txn_trees.specs.declared.word.WriteWord.{WriteWord}
use Rattle.txn_trees.specs.declared.word.WriteWord.TheVariants as write
use Rattle.dtext.specs.declared.number.TheConstants.{MOST}
use Rattle.txn_grammar.specs.declared.limit.TheConstants.{LONGEST_NAME}
use Rattle.txn_grammar.specs.declared.symbol.Symbol.{Symbol}
use Rattle.txn_grammar.specs.declared.symbol.Symbol.TheVariants as s
use Rattle.txn_grammar.specs.declared.token.Token.{Token}
use Rattle.txn_grammar.specs.declared.token.Token.TheVariants as t
use Rattle.txn_grammar.specs.declared.token.Spot.{Spot}
use Rattle.txn_grammar.specs.declared.token.Lexeme.{Lexeme}
use Rattle.dtext.specs.Characters.{is_letter, is_digit, is_word, is_blank}
use Rattle.txn_grammar.specs.Spellings.{spelling, same_symbol, reserved_word, mark}
use Rattle.txn_grammar.specs.Numbers.{with_digit, digits_value, small_value, number_value}
use Rattle.txn_grammar.specs.Lexer.{lexeme, reserved_or_name, word_token, word_at, number_token, number_at}
use Rattle.txn_grammar.specs.Lexer.{quoted_lexeme, text_at, mark_lexeme, mark_at, token_at, spot, is_malformed}
use Rattle.txn_grammar.specs.Lexer.{lex_from, lex}
use Rattle.txn_print.specs.Pieces.{spaced, word, printed}
use Rattle.txn_print.specs.Canonical.{read_name, write_name}
use Rattle.txn_print.proofs.Back.{Each}
use Rattle.txn_print.proofs.Lexing.{is_gap, gap_begins, by_gap, Good}
use Rattle.txn_print.proofs.Productions.{Goods}

-- ---- what follows a word or a number isn't part of it

-- of the seven bytes that are gaps none may stand in a word
gap_no_word : (b : ℕ) → is_gap b ≡ true → is_word b ≡ false
gap_no_word = by_gap (λ b. is_word b ≡ false) refl refl refl refl refl refl refl

-- of the seven bytes that are gaps none is a digit
gap_no_digit : (b : ℕ) → is_gap b ≡ true → is_digit b ≡ false
gap_no_digit = by_gap (λ b. is_digit b ≡ false) refl refl refl refl refl refl refl

-- at the end, or at a gap, no byte of a word is ahead
word_ends : (z : Bytes) → gap_begins z ≡ true → ahead is_word (next z) ≡ false
word_ends [] e = refl
word_ends (b ∷ z) e = gap_no_word b e

-- at the end, or at a gap, no digit is ahead
digits_end : (z : Bytes) → gap_begins z ≡ true → ahead is_digit (next z) ≡ false
digits_end [] e = refl
digits_end (b ∷ z) e = gap_no_digit b e

-- ---- words

-- blanks have lower codes than all letters
letter_no_blank : (b : ℕ) → is_letter b ≡ true → is_blank b ≡ false
letter_no_blank b e = grind (arith, nat_tests, both (nat_le 97 b) (nat_le b 122) e)

-- the test of a whole list is the test of each of its bytes
all_pass : (p : ℕ → Bool) (xs : Bytes) → list_all p xs ≡ true → AllPass p xs
all_pass p [] e = All-nil (λ x. p x ≡ true)
all_pass p (x ∷ xs) e = let k = both (p x) (list_all p xs) e in All-cons (λ y. p y ≡ true) x xs k.0 (all_pass p xs k.1)

-- a word and what isn't part of it
word_cut : (b : ℕ) (w z : Bytes) → is_letter b ≡ true → AllPass is_word (b ∷ w) → gap_begins z ≡ true
    → token_at (b ∷ (w ++ z)) ≡ lexeme (word_token (b ∷ w)) (suc (length w))
unfolding token_at word_at
word_cut b w z e all h =
    let len = prefix_len-front is_word (b ∷ w) z all (word_ends z h) in
    ap (λ t. cond t (word_at (b ∷ (w ++ z)))
    (cond (is_digit b) (number_at (b ∷ (w ++ z))) (cond (b == 34) (text_at (b ∷ (w ++ z))) (mark_at (b ∷ (w ++ z)))))) e
    ∙ ap (λ n. lexeme (word_token (take n (b ∷ (w ++ z)))) n) len
    ∙ ap (λ xs. lexeme (word_token xs) (suc (length w))) (take-append_seam (b ∷ w) z)

-- a token that is a word
word_good : (token : Token) (b : ℕ) (w : Bytes) → printed token ≡ b ∷ w → is_letter b ≡ true → AllPass is_word (b ∷ w)
    → word_token (b ∷ w) ≡ token → is_malformed token ≡ false → Good (spaced token)
word_good token b w e l all is h = record {
  first = b;
  rest = w;
  whole = e;
  no_blank = letter_no_blank b l;
  touches = λ k. absurd (cc);
  formed = h;
  cut = λ z k. word_cut b w z l all (k refl) ∙ ap (λ x. lexeme x (suc (length w))) is;
}

-- a word that is written out
written_word : (token : Token) (b : ℕ) (w : Bytes) → printed token ≡ b ∷ w → is_letter b ≡ true → list_all is_word (b ∷ w) ≡ true
    → word_token (b ∷ w) ≡ token → is_malformed token ≡ false → Good (spaced token)
written_word token b w e l all is h = word_good token b w e l (all_pass is_word (b ∷ w) all) is h

-- ---- marks

-- a mark of one byte, whatever makes no longer mark with it behind it
one_byte : (symbol : Symbol) (before after : Bool) (c : ℕ) → spelling symbol ≡ c ∷ [] → is_blank c ≡ false
    → (before ≡ false → is_gap c ≡ true)
    → ((z : Bytes) → token_at (c ∷ z) ≡ mark_at (c ∷ z)) → mark (c ∷ []) ≡ Some symbol
    → ((d : ℕ) → (after ≡ true → is_gap d ≡ true) → mark (c ∷ d ∷ []) ≡ None)
    → Good (record { token = t.Symbol symbol; before = before; after = after })
unfolding mark_at
one_byte symbol before after c e b k m alone longer = record {
  first = c;
  rest = [];
  whole = e;
  no_blank = b;
  touches = k;
  formed = refl;
  cut = λ z follows. m z ∙ by z follows;
}
  where
    by : (z : Bytes) → (after ≡ true → gap_begins z ≡ true) → mark_at (c ∷ z) ≡ lexeme (t.Symbol symbol) 1
    by [] follows = ap (λ o. mark_lexeme None o) alone
    by (d ∷ z) follows =
        ap (λ t. mark_lexeme (cond t None (mark (c ∷ d ∷ []))) (mark (c ∷ []))) (le-ltb (length (c ∷ d ∷ z)) 2 (omega arith))
        ∙ ap (λ o. mark_lexeme o (mark (c ∷ []))) (longer d follows)
        ∙ ap (λ o. mark_lexeme None o) alone

-- a mark of two bytes, whatever follows
two_bytes : (symbol : Symbol) (c d : ℕ) → spelling symbol ≡ c ∷ d ∷ [] → is_blank c ≡ false
    → ((z : Bytes) → token_at (c ∷ z) ≡ mark_at (c ∷ z)) → mark (c ∷ d ∷ []) ≡ Some symbol → Good (word symbol)
unfolding mark_at
two_bytes symbol c d e b m is = record {
  first = c;
  rest = d ∷ [];
  whole = e;
  no_blank = b;
  touches = λ k. absurd (cc);
  formed = refl;
  cut = λ z follows.
      m (d ∷ z)
      ∙ ap (λ t. mark_lexeme (cond t None (mark (c ∷ d ∷ []))) (mark (c ∷ []))) (le-ltb (length (c ∷ d ∷ z)) 2 (omega arith))
      ∙ ap (λ o. mark_lexeme o (mark (c ∷ []))) is;
}

-- ---- the words and marks of the language

-- between spaces
word_symbol : (symbol : Symbol) → Good (word symbol)
unfolding spelling same_symbol word_token reserved_word mark token_at
word_symbol s.Equal = two_bytes s.Equal 61 61 refl refl (λ z. refl) refl
word_symbol s.Unequal = two_bytes s.Unequal 33 61 refl refl (λ z. refl) refl
word_symbol s.AtMost = two_bytes s.AtMost 60 61 refl refl (λ z. refl) refl
word_symbol s.AtLeast = two_bytes s.AtLeast 62 61 refl refl (λ z. refl) refl
word_symbol s.Less =
    one_byte s.Less true true 60 refl refl (λ e. absurd (cc)) (λ z. refl) refl
    (λ d h. by_gap (λ x. mark (60 ∷ x ∷ []) ≡ None) refl refl refl refl refl refl refl d (h refl))
word_symbol s.Greater =
    one_byte s.Greater true true 62 refl refl (λ e. absurd (cc)) (λ z. refl) refl
    (λ d h. by_gap (λ x. mark (62 ∷ x ∷ []) ≡ None) refl refl refl refl refl refl refl d (h refl))
word_symbol s.Assign =
    one_byte s.Assign true true 61 refl refl (λ e. absurd (cc)) (λ z. refl) refl
    (λ d h. by_gap (λ x. mark (61 ∷ x ∷ []) ≡ None) refl refl refl refl refl refl refl d (h refl))
word_symbol s.Plus = one_byte s.Plus true true 43 refl refl (λ e. absurd (cc)) (λ z. refl) refl (λ d h. refl)
word_symbol s.Minus = one_byte s.Minus true true 45 refl refl (λ e. absurd (cc)) (λ z. refl) refl (λ d h. refl)
word_symbol s.Times = one_byte s.Times true true 42 refl refl (λ e. absurd (cc)) (λ z. refl) refl (λ d h. refl)
word_symbol s.OpenParen = one_byte s.OpenParen true true 40 refl refl (λ e. absurd (cc)) (λ z. refl) refl (λ d h. refl)
word_symbol s.CloseParen = one_byte s.CloseParen true true 41 refl refl (λ e. absurd (cc)) (λ z. refl) refl (λ d h. refl)
word_symbol s.OpenBracket = one_byte s.OpenBracket true true 91 refl refl (λ e. absurd (cc)) (λ z. refl) refl (λ d h. refl)
word_symbol s.CloseBracket = one_byte s.CloseBracket true true 93 refl refl (λ e. absurd (cc)) (λ z. refl) refl (λ d h. refl)
word_symbol s.OpenBrace = one_byte s.OpenBrace true true 123 refl refl (λ e. absurd (cc)) (λ z. refl) refl (λ d h. refl)
word_symbol s.CloseBrace = one_byte s.CloseBrace true true 125 refl refl (λ e. absurd (cc)) (λ z. refl) refl (λ d h. refl)
word_symbol s.Comma = one_byte s.Comma true true 44 refl refl (λ e. absurd (cc)) (λ z. refl) refl (λ d h. refl)
word_symbol s.Semicolon = one_byte s.Semicolon true true 59 refl refl (λ e. absurd (cc)) (λ z. refl) refl (λ d h. refl)
word_symbol s.Dot = one_byte s.Dot true true 46 refl refl (λ e. absurd (cc)) (λ z. refl) refl (λ d h. refl)
word_symbol symbol = written_word (t.Symbol symbol) (slice_index (spelling symbol) 0) (drop 1 (spelling symbol)) refl refl refl refl refl

-- the words of operations
read_word : (w : ReadWord) → Good (spaced (t.Name (read_name w)))
unfolding word_token reserved_word
read_word read.Get =
    written_word (t.Name (read_name read.Get)) (slice_index (read_name read.Get) 0) (drop 1 (read_name read.Get)) refl refl refl refl refl
read_word read.Has =
    written_word (t.Name (read_name read.Has)) (slice_index (read_name read.Has) 0) (drop 1 (read_name read.Has)) refl refl refl refl refl
read_word read.All =
    written_word (t.Name (read_name read.All)) (slice_index (read_name read.All) 0) (drop 1 (read_name read.All)) refl refl refl refl refl
read_word read.Fields =
    written_word (t.Name (read_name read.Fields)) (slice_index (read_name read.Fields) 0) (drop 1 (read_name read.Fields)) refl refl refl refl refl
read_word read.At =
    written_word (t.Name (read_name read.At)) (slice_index (read_name read.At) 0) (drop 1 (read_name read.At)) refl refl refl refl refl
read_word read.Over =
    written_word (t.Name (read_name read.Over)) (slice_index (read_name read.Over) 0) (drop 1 (read_name read.Over)) refl refl refl refl refl

-- the words of writes are letters too, and none is reserved
write_word : (w : WriteWord) → Good (spaced (t.Name (write_name w)))
unfolding word_token reserved_word
write_word write.Put =
    written_word (t.Name (write_name write.Put)) (slice_index (write_name write.Put) 0) (drop 1 (write_name write.Put)) refl refl refl refl refl
write_word write.Add =
    written_word (t.Name (write_name write.Add)) (slice_index (write_name write.Add) 0) (drop 1 (write_name write.Add)) refl refl refl refl refl
write_word write.Remove =
    written_word (t.Name (write_name write.Remove)) (slice_index (write_name write.Remove) 0) (drop 1 (write_name write.Remove)) refl refl refl refl refl
write_word write.Clear =
    written_word (t.Name (write_name write.Clear)) (slice_index (write_name write.Clear) 0) (drop 1 (write_name write.Clear)) refl refl refl refl refl
write_word write.Push =
    written_word (t.Name (write_name write.Push)) (slice_index (write_name write.Push) 0) (drop 1 (write_name write.Push)) refl refl refl refl refl
write_word write.Raise =
    written_word (t.Name (write_name write.Raise)) (slice_index (write_name write.Raise) 0) (drop 1 (write_name write.Raise)) refl refl refl refl refl

-- the marks that stand without a space before or behind them begin no longer mark, whatever byte follows
pub goods : Goods Good
unfolding spelling same_symbol mark token_at
goods = record {
  words = word_symbol;
  open_paren = one_byte s.OpenParen true false 40 refl refl (λ e. absurd (cc)) (λ z. refl) refl (λ d h. refl);
  open_bracket = one_byte s.OpenBracket true false 91 refl refl (λ e. absurd (cc)) (λ z. refl) refl (λ d h. refl);
  minus = one_byte s.Minus true false 45 refl refl (λ e. absurd (cc)) (λ z. refl) refl (λ d h. refl);
  close_paren = one_byte s.CloseParen false true 41 refl refl (λ e. refl) (λ z. refl) refl (λ d h. refl);
  close_bracket = one_byte s.CloseBracket false true 93 refl refl (λ e. refl) (λ z. refl) refl (λ d h. refl);
  comma = one_byte s.Comma false true 44 refl refl (λ e. refl) (λ z. refl) refl (λ d h. refl);
  semicolon = one_byte s.Semicolon false true 59 refl refl (λ e. refl) (λ z. refl) refl (λ d h. refl);
  call = one_byte s.OpenParen false false 40 refl refl (λ e. refl) (λ z. refl) refl (λ d h. refl);
  dot = one_byte s.Dot false false 46 refl refl (λ e. refl) (λ z. refl) refl (λ d h. refl);
  reads = read_word;
  writes = write_word;
}

-- ---- names

-- a word that isn't reserved
name_good : (w : Bytes) (b : ℕ) (rest : Bytes) → w ≡ b ∷ rest → is_letter b ≡ true → AllPass is_word w → word_token w ≡ t.Name w
    → Good (spaced (t.Name w))
name_good w b rest e l all is =
    word_good (t.Name w) b rest e l (subst (λ x. AllPass is_word x) e all) (ap word_token (sym e) ∙ is) refl

-- ---- texts

-- a text in quotes
pub text_good : (bytes : Bytes) → Good (spaced (t.Text bytes))
unfolding token_at text_at
text_good bytes =
    let inner = drop 1 (printed_text bytes) in
    record {
      first = 34;
      rest = inner;
      whole = refl;
      no_blank = refl;
      touches = λ k. absurd (cc);
      formed = refl;
      cut = λ z k.
          let read : text (34 ∷ (inner ++ z)) ≡ Ok (bytes, z) = text_fits.reads (printed_text bytes ++ z) z bytes (text_made bytes z) refl in
          let len : length (34 ∷ (inner ++ z)) - length z ≡ suc (length inner) = let l = length-append inner z in omega arith in
          ap (λ o. quoted_lexeme (34 ∷ (inner ++ z)) o) read ∙ ap (λ n. lexeme (t.Text bytes) n) len;
    }

-- ---- numbers

-- what digits are worth, counted either way
worth : (ds : Bytes) (value : ℕ) → AllDigits 10 ds → fold with_digit value ds ≡ digits_value_after 10 value ds
worth [] value h = refl
worth (d ∷ ds) value h =
    let is = digit_of d h.0 in
    let same : with_digit value d ≡ value * 10 + digit_value d = let k = digit_worth d is in omega arith in
    ap (λ v. fold with_digit v ds) same ∙ worth ds (value * 10 + digit_value d) h.1

-- what is a digit in base ten is a digit of a number's token
digits_pass : (ds : Bytes) → AllDigits 10 ds → AllPass is_digit ds
digits_pass [] h = All-nil (λ x. is_digit x ≡ true)
digits_pass (d ∷ ds) h = All-cons (λ x. is_digit x ≡ true) d ds (digit_of d h.0) (digits_pass ds h.1)

-- digits and what isn't one
digits_cut : (b : ℕ) (ds z : Bytes) → AllPass is_digit (b ∷ ds) → gap_begins z ≡ true
    → token_at (b ∷ (ds ++ z)) ≡ lexeme (number_token (number_value (b ∷ ds))) (suc (length ds))
unfolding token_at number_at
digits_cut b ds z all h =
    let d = All-head (λ x. is_digit x ≡ true) b ds all in
    let y = b ∷ (ds ++ z) in
    let no_letter : is_letter b ≡ false = grind (arith, nat_tests, both (nat_le 48 b) (nat_le b 57) d) in
    let len = prefix_len-front is_digit (b ∷ ds) z all (digits_end z h) in
    ap (λ t. cond t (word_at y) (cond (is_digit b) (number_at y) (cond (b == 34) (text_at y) (mark_at y)))) no_letter
    ∙ ap (λ t. cond t (number_at y) (cond (b == 34) (text_at y) (mark_at y))) d
    ∙ ap (λ n. lexeme (number_token (number_value (take n y))) n) len
    ∙ ap (λ xs. lexeme (number_token (number_value xs)) (suc (length ds))) (take-append_seam (b ∷ ds) z)

-- a number's digits aren't blank, begin no word, and are cut off where no digit follows
digits_good : (k b : ℕ) (ds : Bytes) → decimal k ≡ b ∷ ds → AllPass is_digit (b ∷ ds) → number_value (b ∷ ds) ≡ Some (pos k)
    → Good (spaced (t.Number (pos k)))
digits_good k b ds e all is = record {
  first = b;
  rest = ds;
  whole = e;
  no_blank = let d = All-head (λ x. is_digit x ≡ true) b ds all in grind (arith, nat_tests, both (nat_le 48 b) (nat_le b 57) d);
  touches = λ h. absurd (cc);
  formed = refl;
  cut = λ z h. digits_cut b ds z all (h refl) ∙ ap (λ o. lexeme (number_token o) (suc (length ds))) is;
}

-- a first digit above `0` is no needless zero
no_needless_zero : (t : Bool) (b : ℕ) → 48 < b → t && b == 48 ≡ false
no_needless_zero true b h = grind (arith, nat_tests)
no_needless_zero false b h = refl

-- what is no more passes the test
within : (k m : ℕ) → k ≤ m → nat_le k m ≡ true
within k m h = grind (arith, nat_tests)

-- a number above 0
positive_good : (k : ℕ) → 0 < k → k ≤ MOST → Good (spaced (t.Number (pos k)))
unfolding number_value small_value
positive_good k some small =
    let d = decimal_parts k some (omega arith) in
    let is : is_digit d.first ≡ true = digit_of d.first d.digit in
    let all = All-cons (λ x. is_digit x ≡ true) d.first d.rest is (digits_pass d.rest d.others) in
    let front : with_digit 0 d.first ≡ digit_value d.first = let h = digit_worth d.first is in omega arith in
    let value : digits_value (d.first ∷ d.rest) ≡ k = ap (λ v. fold with_digit v d.rest) front ∙ worth d.rest (digit_value d.first) d.others ∙ d.value in
    digits_good k d.first d.rest d.whole all
    (ap (λ t. cond t None (small_value (d.first ∷ d.rest))) (no_needless_zero (nat_lt 1 (length (d.first ∷ d.rest))) d.first d.not_zero)
    ∙ ap (λ v. cond (nat_le v MOST) (Some (pos v)) None) value
    ∙ ap (λ t. cond t (Some (pos k)) None) (within k MOST small))

-- 0 is printed as one digit, and all others begin with one above `0`
number_good : (k : ℕ) → k ≤ MOST → Good (spaced (t.Number (pos k)))
unfolding number_value small_value
number_good zero h = digits_good 0 48 [] decimal_zero (all_pass is_digit (48 ∷ []) refl) refl
number_good (suc k) h = positive_good (suc k) (omega arith) h

-- ---- what a text is cut into is good, unless it is malformed

-- a name or a reserved word
reserved_good : (w : Bytes) (b : ℕ) (rest : Bytes) → w ≡ b ∷ rest → is_letter b ≡ true → AllPass is_word w
    → (long : Bool) → nat_lt LONGEST_NAME (length w) ≡ long → (o : Option Symbol) → reserved_word w ≡ o
    → is_malformed (cond long t.Malformed (reserved_or_name w o)) ≡ false → Good (spaced (cond long t.Malformed (reserved_or_name w o)))
unfolding word_token
reserved_good w b rest e l all true i o r h = absurd (cc)
reserved_good w b rest e l all false i (Some symbol) r h = word_symbol symbol
reserved_good w b rest e l all false i None r h =
    name_good w b rest e l all (ap (λ long. cond long t.Malformed (reserved_or_name w (reserved_word w))) i ∙ ap (λ o. reserved_or_name w o) r)

-- by whether the word is too long, which is malformed, and whether it is reserved
word_token_good : (w : Bytes) (b : ℕ) (rest : Bytes) → w ≡ b ∷ rest → is_letter b ≡ true → AllPass is_word w
    → is_malformed (word_token w) ≡ false → Good (spaced (word_token w))
unfolding word_token
word_token_good w b rest e l all h = reserved_good w b rest e l all (nat_lt LONGEST_NAME (length w)) refl (reserved_word w) refl h

-- where at least one byte is taken, the first one is
take_some : (n b : ℕ) (z : Bytes) → 1 ≤ n → take n (b ∷ z) ≡ b ∷ take (n - 1) z
take_some zero b z h = absurd (omega arith)
take_some (suc n) b z h = ap (λ m. b ∷ take m z) (omega arith)

-- what is taken are all bytes of a word ahead, the first of them a letter
word_at_good : (b : ℕ) (z : Bytes) → is_letter b ≡ true → is_malformed (word_at (b ∷ z)).token ≡ false
    → Good (spaced (word_at (b ∷ z)).token)
unfolding word_at
word_at_good b z l h =
    let n = prefix_len is_word (b ∷ z) in
    let some = prefix_len-some is_word (b ∷ z) (ap (λ t. t || is_digit b || b == 95) l) in
    word_token_good (take n (b ∷ z)) b (take (n - 1) z) (take_some n b z some) l (prefix-passes is_word (b ∷ z)) h

-- a number
small_good : (k : ℕ) (v : ℤ) (needless small : Bool) → nat_le k MOST ≡ small
    → cond needless None (cond small (Some (pos k)) None) ≡ Some v → Good (spaced (t.Number v))
small_good k v true u e h = absurd (cc)
small_good k v false false e h = absurd (cc)
small_good k v false true e h =
    let is : pos k ≡ v = cc in
    subst (λ x. Good (spaced (t.Number x))) is (number_good k (grind (arith, nat_tests, e)))

-- digits that are worth a number are worth one that isn't too large, and each such is good
number_token_good : (ds : Bytes) (o : Option ℤ) → number_value ds ≡ o → is_malformed (number_token o) ≡ false
    → Good (spaced (number_token o))
unfolding number_value small_value
number_token_good ds None e h = absurd (cc)
number_token_good ds (Some v) e h =
    small_good (digits_value ds) v (nat_lt 1 (length ds) && slice_index ds 0 == 48) (nat_le (digits_value ds) MOST) refl e

-- a text in quotes
quoted_good : (z : Bytes) (o : Outcome ℕ Bytes) → is_malformed (quoted_lexeme z o).token ≡ false → Good (spaced (quoted_lexeme z o).token)
quoted_good z (Ok read) h = text_good read.0
quoted_good z (Err rest) h = absurd (cc)

-- a mark
mark_good : (long short : Option Symbol) → is_malformed (mark_lexeme long short).token ≡ false
    → Good (spaced (mark_lexeme long short).token)
mark_good (Some symbol) short h = word_symbol symbol
mark_good None (Some symbol) h = word_symbol symbol
mark_good None None h = absurd (cc)

-- by what the byte ahead is
by_front : (b : ℕ) (z : Bytes) (letter digit quote : Bool) → is_letter b ≡ letter
    → let x : Lexeme = cond letter (word_at (b ∷ z)) (cond digit (number_at (b ∷ z)) (cond quote (text_at (b ∷ z)) (mark_at (b ∷ z)))) in
    is_malformed x.token ≡ false → Good (spaced x.token)
unfolding number_at text_at mark_at
by_front b z true digit quote l h = word_at_good b z l h
by_front b z false true quote l h =
    number_token_good (take (prefix_len is_digit (b ∷ z)) (b ∷ z)) (number_value (take (prefix_len is_digit (b ∷ z)) (b ∷ z))) refl h
by_front b z false false true l h = quoted_good (b ∷ z) (text (b ∷ z)) h
by_front b z false false false l h = mark_good (cond (nat_lt (length (b ∷ z)) 2) None (mark (take 2 (b ∷ z)))) (mark (take 1 (b ∷ z))) h

-- each token is cut by the kind of its first byte: a letter, a digit, a quote, or else
token_good : (b : ℕ) (z : Bytes) → is_malformed (token_at (b ∷ z)).token ≡ false → Good (spaced (token_at (b ∷ z)).token)
unfolding token_at
token_good b z h = by_front b z (is_letter b) (is_digit b) (b == 34) refl h

-- a token as it would stand between spaces
abbrev pub Source : Spot → Type 0
Source spot = is_malformed spot.token ≡ false → Good (spaced spot.token)

-- a blank is passed over; else there is one token, and others behind it unless it is malformed
lex_step : (column b : ℕ) (z : Bytes) (blank bad : Bool) → ((left c : ℕ) → Each Source (lex_from c left z))
    → Each Source (cond blank (lex_from (column + 1) 0 z)
    (spot column (token_at (b ∷ z)).token ∷ cond bad [] (lex_from (column + 1) ((token_at (b ∷ z)).len - 1) z)))
lex_step column b z true bad h = h 0 (column + 1)
lex_step column b z false true h = (token_good b z, tt)
lex_step column b z false false h = (token_good b z, h ((token_at (b ∷ z)).len - 1) (column + 1))

-- byte by byte: the bytes that are left of a token before are passed over
lex_from_good : (z : Bytes) (left column : ℕ) → Each Source (lex_from column left z)
lex_from_good [] left column = tt
lex_from_good (b ∷ z) (suc left) column = lex_from_good z left (column + 1)
lex_from_good (b ∷ z) zero column = lex_step column b z (is_blank b) (is_malformed (token_at (b ∷ z)).token) (lex_from_good z)

-- the tokens of every text
pub lex_good : (z : Bytes) → Each Source (lex z)
unfolding lex
lex_good z = lex_from_good z 0 1
