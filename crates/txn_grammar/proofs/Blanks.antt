-- Blanks at the end of a text mean nothing.
use Rattle.std.proofs.Common.{◌≡◌, ℕ, zero, suc, ◌+◌, ◌-◌, ◌<◌, ◌≤◌, ◌==◌, Bool, true, false, ◌&&◌, ◌||◌, cond, nat_eq}
use Rattle.std.proofs.Common.{nat_lt, nat_le, List, [], ◌∷◌, ◌++◌, length, take, drop, Option, None, Result, Ok, Err}
use Rattle.std.proofs.Common.{refl, ap, sym, ◌∙◌, subst, inl, inr, arith, append_assoc, append-nil, length-append}
use Rattle.std.specs.List.{All, prefix_len, list_any}
use Rattle.std.specs.Str.{bytes_eq}
use Rattle.std.proofs.lemmas.Bool.Decides.{nat_tests}
use Rattle.std.proofs.lemmas.List.{take-append-le}
use Rattle.std.proofs.lemmas.List.Elements.{All-nil, All-cons, All-head, All-tail}
use Rattle.std.proofs.lemmas.List.Sums.{prefix_len-le-length}
use Rattle.std.specs.Result.{result_ok}
use Rattle.predictive_parsing.specs.Reading.{Outcome, next, ahead, whole}
use Rattle.predictive_parsing.specs.Rules.{One, Many}
use Rattle.predictive_parsing.specs.Bytes.{Byte}
use Rattle.predictive_parsing.proofs.Basic.{bool_cases}
use Rattle.predictive_parsing.proofs.Prefixes.{prefix_len-none}
use Rattle.predictive_parsing.proofs.Words.{byte_taken}
use Rattle.dtext.specs.code.Reading.{text}
use Rattle.dtext.specs.Spellings.{Hexadecimal, Escape, Piece, TextRule}
use Rattle.dtext.proofs.TextFits.{text_fits}
use Rattle.txn_trees.specs.declared.statement.Body.{Body}
use Rattle.txn_grammar.specs.declared.symbol.Symbol.{Symbol}
use Rattle.txn_grammar.specs.declared.token.Token.TheVariants as t
use Rattle.txn_grammar.specs.declared.token.Spot.{Spot}
use Rattle.txn_grammar.specs.declared.token.Lexeme.{Lexeme}
use Rattle.txn_grammar.specs.Characters.{Text, is_letter, is_digit, is_word, is_blank}
use Rattle.txn_grammar.specs.Spellings.{marks, spelled_in, mark}
use Rattle.txn_grammar.specs.Lexer.{lexeme, word_token, word_at, number_token, number_at, quoted_lexeme, text_at}
use Rattle.txn_grammar.specs.Lexer.{mark_lexeme, mark_at, token_at, spot, is_malformed, lex_from, lex}
use Rattle.txn_grammar.specs.Numbers.{number_value}
use Rattle.txn_grammar.specs.Parsed.{parsed, first_column, refused, syntax_column}
use Rattle.txn_grammar.specs.Blanks.{AreBlank, KeepTokens, KeepBody, KeepColumn, EndBehind}
use Rattle.txn_grammar.specs.code.Reader.{body}
use Rattle.txn_grammar.proofs.Cuts.{at_blank}
use Rattle.txn_grammar.proofs.Parses.{refused_stops}

-- ---- what a blank is, and isn't

-- bytes that pass the test of numbers are one
same_byte : (b n : ℕ) → nat_eq b n ≡ true → b ≡ n
same_byte b n e = grind (arith, nat_tests)

-- what holds of the three blanks holds of each
by_blank : (P : ℕ → Type 0) → P 32 → P 9 → P 13 → (b : ℕ) → is_blank b ≡ true → P b
by_blank P space tab return b e = by (nat_eq b 32) (nat_eq b 9) (nat_eq b 13) refl refl refl e
  where
    by : (s t r : Bool) → nat_eq b 32 ≡ s → nat_eq b 9 ≡ t → nat_eq b 13 ≡ r → s || t || r ≡ true → P b
    by true t r e1 e2 e3 h = subst P (sym (same_byte b 32 e1)) space
    by false true r e1 e2 e3 h = subst P (sym (same_byte b 9 e2)) tab
    by false false true e1 e2 e3 h = subst P (sym (same_byte b 13 e3)) return
    by false false false e1 e2 e3 h = absurd (cc)

-- of the three blanks none may stand in a word
blank_no_word : (b : ℕ) → is_blank b ≡ true → is_word b ≡ false
blank_no_word = by_blank (λ b. is_word b ≡ false) refl refl refl

-- of the three blanks none is a digit
blank_no_digit : (b : ℕ) → is_blank b ≡ true → is_digit b ≡ false
blank_no_digit = by_blank (λ b. is_digit b ≡ false) refl refl refl

-- of the three blanks none is a quote
blank_no_quote : (b : ℕ) → is_blank b ≡ true → nat_eq 34 b ≡ false
blank_no_quote = by_blank (λ b. nat_eq 34 b ≡ false) refl refl refl

-- of bytes that are all blank the first one is
first_blank : (b : ℕ) (w : Text) → AreBlank (b ∷ w) → is_blank b ≡ true
first_blank b w all = All-head (λ x. is_blank x ≡ true) b w all

-- of bytes that are all blank those behind the first are
other_blanks : (b : ℕ) (w : Text) → AreBlank (b ∷ w) → AreBlank w
other_blanks b w all = All-tail (λ x. is_blank x ≡ true) b w all

-- a test that no blank passes ends there
ends_there : (test : ℕ → Bool) (w : Text) → ((b : ℕ) → is_blank b ≡ true → test b ≡ false) → AreBlank w → ahead test (next w) ≡ false
ends_there test [] none all = refl
ends_there test (b ∷ w) none all = none b (first_blank b w all)

-- ---- words and numbers

-- a run of bytes that ends before the blanks counts none of them: byte by byte
run_same : (test : ℕ → Bool) (z w : Text) → ahead test (next w) ≡ false → prefix_len test (z ++ w) ≡ prefix_len test z
run_same test [] w e = prefix_len-none test w e
run_same test (b ∷ z) w e = ap (λ n. cond (test b) (1 + n) 0) (run_same test z w e)

-- a run of bytes is the same, and so long
run_taken : (test : ℕ → Bool) (z w : Text) → ahead test (next w) ≡ false → take (prefix_len test (z ++ w)) (z ++ w) ≡ take (prefix_len test z) z
run_taken test z w e =
    ap (λ n. take n (z ++ w)) (run_same test z w e) ∙ take-append-le (prefix_len test z) z w (prefix_len-le-length test z)

-- no blank is part of a word, so the run of its bytes is the same, and so is its token
word_same : (z w : Text) → AreBlank w → word_at (z ++ w) ≡ word_at z
unfolding word_at
word_same z w all =
    let e = ends_there is_word w blank_no_word all in
    ap (λ run. lexeme (word_token run) (prefix_len is_word (z ++ w))) (run_taken is_word z w e)
    ∙ ap (λ n. lexeme (word_token (take (prefix_len is_word z) z)) n) (run_same is_word z w e)

-- no blank is a digit, so the run of digits is the same, and so is its token
number_same : (z w : Text) → AreBlank w → number_at (z ++ w) ≡ number_at z
unfolding number_at
number_same z w all =
    let e = ends_there is_digit w blank_no_digit all in
    ap (λ run. lexeme (number_token (number_value run)) (prefix_len is_digit (z ++ w))) (run_taken is_digit z w e)
    ∙ ap (λ n. lexeme (number_token (number_value (take (prefix_len is_digit z) z))) n) (run_same is_digit z w e)

-- ---- marks

-- the row's spelling goes on with this byte alone
abbrev goes_on : ℕ → Text → Bool
goes_on x row = bytes_eq (drop 1 row) (x ∷ [])

-- what fails in its second part fails
and_false : (a : Bool) → a && false ≡ false
and_false true = refl
and_false false = refl

-- a spelling that doesn't go on with this byte alone isn't the two bytes, whatever its first one is
other_row : (b x : ℕ) (row : Text) → goes_on x row ≡ false → bytes_eq row (b ∷ x ∷ []) ≡ false
other_row b x [] e = refl
other_row b x (c ∷ row) e = ap (λ t. nat_eq c b && t) e ∙ and_false (nat_eq c b)

-- row by row of the table: none goes on with this byte
no_row : (b x : ℕ) (rows : List (Text × Symbol)) → list_any (λ row. goes_on x row.0) rows ≡ false → spelled_in rows (b ∷ x ∷ []) ≡ None
no_row b x [] e = refl
no_row b x (row ∷ rows) e = by (goes_on x row.0) refl e (no_row b x rows)
  where
    by : (t : Bool) → goes_on x row.0 ≡ t → t || list_any (λ r. goes_on x r.0) rows ≡ false
        → (list_any (λ r. goes_on x r.0) rows ≡ false → spelled_in rows (b ∷ x ∷ []) ≡ None) → spelled_in (row ∷ rows) (b ∷ x ∷ []) ≡ None
    by true k h others = absurd (cc)
    by false k h others = rw (other_row b x row.0 k) (others h)

-- no mark ends in a blank
no_mark : (b x : ℕ) → is_blank x ≡ true → mark (b ∷ x ∷ []) ≡ None
unfolding mark
no_mark b x e = no_row b x marks (by_blank (λ y. list_any (λ row. goes_on y row.0) marks ≡ false) refl refl refl x e)

-- the two bytes ahead are the same, or the second is a blank, which no mark ends in
mark_same : (z w : Text) → 0 < length z → AreBlank w → mark_at (z ++ w) ≡ mark_at z
unfolding mark_at
mark_same [] w some all = absurd (omega arith)
mark_same (b ∷ []) [] some all = refl
mark_same (b ∷ []) (x ∷ w) some all = ap (λ long. mark_lexeme long (mark (b ∷ []))) (by (nat_lt (length (b ∷ x ∷ w)) 2) refl)
  where
    by : (t : Bool) → nat_lt (length (b ∷ x ∷ w)) 2 ≡ t → cond t None (mark (b ∷ x ∷ [])) ≡ None
    by true k = refl
    by false k = no_mark b x (first_blank x w all)
mark_same (b ∷ c ∷ z) w some all =
    let e : nat_lt (length (b ∷ c ∷ (z ++ w))) 2 ≡ false = grind (arith, nat_tests) in
    let f : nat_lt (length (b ∷ c ∷ z)) 2 ≡ false = grind (arith, nat_tests) in
    ap (λ t. mark_lexeme (cond t None (mark (b ∷ c ∷ []))) (mark (b ∷ []))) (e ∙ sym f)

-- ---- texts in quotes

-- the items are a front, and then these
abbrev Front : Text → Text → Type 0
Front ts us = (front : Text) × (ts ≡ front ++ us)

-- one byte is taken, and it is the front
one_front : (f : ℕ → Option ℕ) (ts us : Text) (a : ℕ) → One f ts a us → Front ts us
one_front f ts us a r = (r.item ∷ [], r.first)

-- this byte is taken, and it is the front
byte_front : (b : ℕ) (ts us : Text) (a : Unit {0}) → Byte b ts a us → Front ts us
byte_front b ts us a r = (r.item ∷ [], r.first)

-- two fronts, one after the other, are a front
joined : (ts us vs : Text) → Front ts us → Front us vs → Front ts vs
joined ts us vs x y = (x.0 ++ y.0, x.1 ∙ ap (λ xs. x.0 ++ xs) y.1 ∙ sym (append_assoc x.0 y.0 vs))

-- where nothing is taken the front has nothing in it
here : (ts us : Text) → ts ≡ us → Front ts us
here ts us e = ([], e)

-- an `x` and two digits are taken, one after another
hexadecimal_front : (ts us : Text) (a : ℕ) → Hexadecimal ts a us → Front ts us
hexadecimal_front ts us a r =
    joined ts r.middle us (byte_front 120 ts r.middle r.value r.first)
    (joined r.middle r.second.middle us (one_front _ r.middle r.second.middle r.second.value r.second.first)
    (joined r.second.middle r.second.second.middle us (one_front _ r.second.middle r.second.second.middle r.second.second.value r.second.second.first)
    (here r.second.second.middle us r.second.second.second.here)))

-- a backslash is taken, and then two digits behind an `x` or one byte
escape_front : (ts us : Text) (a : ℕ) → Escape ts a us → Front ts us
escape_front ts us a r = joined ts r.middle us (byte_front 92 ts r.middle r.value r.first) (elim r.second [
  | inl h ↦ hexadecimal_front r.middle us a h
  | inr h ↦ one_front _ r.middle us a h
])

-- a piece of a text is an escape or one byte
piece_front : (ts us : Text) (a : ℕ) → Piece ts a us → Front ts us
piece_front ts us a (inl r) = escape_front ts us a r
piece_front ts us a (inr r) = one_front _ ts us a r

-- any number of pieces, one after another
pieces_front : (ts us : Text) (a : Text) → Many Piece ts a us → Front ts us
pieces_front ts _ _ (Many.none _) = here ts ts refl
pieces_front ts _ _ (Many.more _ us vs a rest r others) = joined ts us vs (piece_front ts us a r) (pieces_front us vs rest others)

-- a text in quotes ends in a quote
text_front : (ts us a : Text) → TextRule ts a us → Front ts (34 ∷ us)
text_front ts us a r =
    let close = r.second.second in
    let last = byte_taken 34 r.second.middle close.middle close.value close.first ∙ ap (λ xs. 34 ∷ xs) close.second.here in
    joined ts r.middle (34 ∷ us) (byte_front 34 ts r.middle r.value r.first)
    (joined r.middle r.second.middle (34 ∷ us) (pieces_front r.middle r.second.middle r.second.value r.second.first)
    (here r.second.middle (34 ∷ us) last))

-- a text in quotes, with more behind it
longer : (z w us a : Text) → text z ≡ Ok (a, us) → text (z ++ w) ≡ Ok (a, us ++ w)
longer z w us a e =
    let x = text_fits.takes z us a e in
    let cut : x.prefix ++ (us ++ w) ≡ z ++ w = sym (append_assoc x.prefix us w) ∙ ap (λ ts. ts ++ w) (sym x.cut) in
    text_fits.reads (z ++ w) (us ++ w) a (subst (λ ts. TextRule ts a (us ++ w)) cut (x.derives (us ++ w))) refl

-- blanks have no quote among them, so no quote ends a front of theirs
no_quote : (w front us : Text) → AreBlank w → w ≡ front ++ 34 ∷ us → ⊥
no_quote [] [] us all e = cc
no_quote [] (x ∷ front) us all e = cc
no_quote (b ∷ w) [] us all e = let k : b ≡ 34 = cc in let h = blank_no_quote b (first_blank b w all) in let g = ap (nat_eq 34) k in cc
no_quote (b ∷ w) (x ∷ front) us all e = let k : w ≡ front ++ 34 ∷ us = cc in no_quote w front us (other_blanks b w all) k

-- the blanks at the end are behind each quote
behind_quote : (z w front us : Text) → AreBlank w → z ++ w ≡ front ++ 34 ∷ us → (rest : Text) × (z ≡ front ++ 34 ∷ rest) × (us ≡ rest ++ w)
behind_quote [] w front us all e = absurd (no_quote w front us all e)
behind_quote (b ∷ z) w [] us all e = let k : b ≡ 34 = cc in let h : z ++ w ≡ us = cc in (z, ap (λ x. x ∷ z) k, sym h)
behind_quote (b ∷ z) w (x ∷ front) us all e =
    let k : b ≡ x = cc in
    let h : z ++ w ≡ front ++ 34 ∷ us = cc in
    let r = behind_quote z w front us all h in
    (r.0, ap (λ y. y ∷ z) k ∙ ap (λ ys. x ∷ ys) r.1, r.2)

-- a text in quotes, without the blanks at the end
shorter : (z w us a : Text) → AreBlank w → text (z ++ w) ≡ Ok (a, us) → (rest : Text) × (text z ≡ Ok (a, rest))
shorter z w us a all e =
    let x = text_fits.takes (z ++ w) us a e in
    let f = text_front (x.prefix ++ []) [] a (x.derives []) in
    let whole : x.prefix ≡ f.0 ++ 34 ∷ [] = sym (append-nil x.prefix) ∙ f.1 in
    let b = behind_quote z w f.0 us all (x.cut ∙ ap (λ ts. ts ++ us) whole ∙ append_assoc f.0 (34 ∷ []) us) in
    let cut : z ≡ x.prefix ++ b.0 = b.1 ∙ sym (append_assoc f.0 (34 ∷ []) b.0) ∙ ap (λ ts. ts ++ b.0) (sym whole) in
    (b.0, text_fits.reads z b.0 a (subst (λ ts. TextRule ts a b.0) (sym cut) (x.derives b.0)) refl)

-- it is read with blanks behind it exactly where it is read without them, and is as long; else one byte is taken
quoted_same : (z w : Text) (r s : Outcome ℕ Text) → AreBlank w → text z ≡ r → text (z ++ w) ≡ s → quoted_lexeme (z ++ w) s ≡ quoted_lexeme z r
quoted_same z w (Ok (a, us)) s all e h =
    let k : s ≡ Ok (a, us ++ w) = sym h ∙ longer z w us a e in
    ap (quoted_lexeme (z ++ w)) k ∙ ap (λ n. lexeme (t.Text a) n) (omega (arith, length-append z w, length-append us w))
quoted_same z w (Err rest) (Err other) all e h = refl
quoted_same z w (Err rest) (Ok (a, us)) all e h = absurd (let k = (shorter z w us a all h).1 in cc)

-- so a text in quotes is the same token, whether it is read or refused
text_same : (z w : Text) → AreBlank w → text_at (z ++ w) ≡ text_at z
unfolding text_at
text_same z w all = quoted_same z w (text z) (text (z ++ w)) all refl refl

-- ---- tokens

-- which token is there, by the byte ahead
abbrev by_byte : ℕ → Lexeme → Lexeme → Lexeme → Lexeme → Lexeme
by_byte b word number text mark = cond (is_letter b) word (cond (is_digit b) number (cond (b == 34) text mark))

-- each of the four tokens that may stand there is the same, so the one that does is
token_same : (b : ℕ) (z w : Text) → AreBlank w → token_at (b ∷ (z ++ w)) ≡ token_at (b ∷ z)
unfolding token_at
token_same b z w all =
    let y = b ∷ (z ++ w) in
    let x = b ∷ z in
    ap (λ r. by_byte b r (number_at y) (text_at y) (mark_at y)) (word_same x w all)
    ∙ ap (λ r. by_byte b (word_at x) r (text_at y) (mark_at y)) (number_same x w all)
    ∙ ap (λ r. by_byte b (word_at x) (number_at x) r (mark_at y)) (text_same x w all)
    ∙ ap (λ r. by_byte b (word_at x) (number_at x) (text_at x) r) (mark_same x w (omega arith) all)

-- of blanks no tokens are cut: each is passed over, or is left of the token before
no_tokens : (c n : ℕ) (w : Text) → AreBlank w → lex_from c n w ≡ []
no_tokens c n [] all = refl
no_tokens c (suc n) (b ∷ w) all = no_tokens (c + 1) n w (other_blanks b w all)
no_tokens c zero (b ∷ w) all = at_blank c b w true (first_blank b w all) ∙ no_tokens (c + 1) zero w (other_blanks b w all)

-- the tokens from a column on, by what the byte ahead is
abbrev step : ℕ → ℕ → List Spot → Lexeme → List Spot → List Spot
step c b others found rest = cond (is_blank b) others (spot c found.token ∷ cond (is_malformed found.token) [] rest)

-- byte by byte: a blank is passed over as before, a token is the same, and at the end there are blanks alone
same_from : (c n : ℕ) (z w : Text) → AreBlank w → lex_from c n (z ++ w) ≡ lex_from c n z
same_from c n [] w all = no_tokens c n w all
same_from c (suc n) (b ∷ z) w all = same_from (c + 1) n z w all
same_from c zero (b ∷ z) w all =
    let others = lex_from (c + 1) zero z in
    let x = token_at (b ∷ (z ++ w)) in
    ap (λ xs. step c b xs x (lex_from (c + 1) (x.len - 1) (z ++ w))) (same_from (c + 1) zero z w all)
    ∙ ap (λ (found : Lexeme). step c b others found (lex_from (c + 1) (found.len - 1) (z ++ w))) (token_same b z w all)
    ∙ ap (λ xs. step c b others (token_at (b ∷ z)) xs) (same_from (c + 1) ((token_at (b ∷ z)).len - 1) z w all)

-- from the first column on, with nothing left of a token before
pub keep_tokens : KeepTokens
unfolding lex
keep_tokens z w all = same_from 1 0 z w all

-- the reader sees the tokens alone, and these are the same
pub keep_body : KeepBody
unfolding parsed
keep_body z w all = ap (λ ts. result_ok (whole body ts)) (keep_tokens z w all)

-- ---- columns

-- the token begins before this column
abbrev Before : ℕ → Spot → Type 0
Before end s = s.column < end

-- nothing stands behind a malformed token, and elsewhere the others do
unless_last : (end : ℕ) (t : Bool) (rest : List Spot) → All (Before end) rest → All (Before end) (cond t [] rest)
unless_last end true rest all = All-nil (Before end)
unless_last end false rest all = all

-- each token begins before the end
all_before : (end c n : ℕ) (z : Text) → c + length z ≤ end → All (Before end) (lex_from c n z)
all_before end c n [] l = All-nil (Before end)
all_before end c (suc n) (b ∷ z) l = all_before end (c + 1) n z (omega arith)
all_before end c zero (b ∷ z) l =
    let x = token_at (b ∷ z) in
    let rest = lex_from (c + 1) (x.len - 1) z in
    let others = all_before end (c + 1) zero z (omega arith) in
    let behind = unless_last end (is_malformed x.token) rest (all_before end (c + 1) (x.len - 1) z (omega arith)) in
    elim (bool_cases (is_blank b)) [
      | inl e ↦ subst (All (Before end)) (sym (at_blank c b z true e)) others
      | inr e ↦ subst (All (Before end)) (sym (at_blank c b z false e))
          (All-cons (Before end) (spot c x.token) (cond (is_malformed x.token) [] rest) (omega arith) behind)
    ]

-- what holds of all tokens holds of those behind a front: token by token of the front
behind_front : (end : ℕ) (front rest : List Spot) → All (Before end) (front ++ rest) → All (Before end) rest
behind_front end [] rest all = all
behind_front end (s ∷ front) rest all = behind_front end front rest (All-tail (Before end) s (front ++ rest) all)

-- so does the one that a body can't have there
refused_before : (z : Text) (s : Spot) (rest : List Spot) → whole body (lex z) ≡ Err (s ∷ rest) → s.column ≤ length z
unfolding lex
refused_before z s rest e =
    let x = refused_stops (lex z) (s ∷ rest) e in
    let all = subst (All (Before (1 + length z))) x.cut (all_before (1 + length z) 1 0 z (omega arith)) in
    let k = All-head (Before (1 + length z)) s rest (behind_front (1 + length z) x.before (s ∷ rest) all) in
    omega (arith, k)

-- the column, where the tokens are those of another text
column_of : (z w : Text) → AreBlank w → syntax_column (z ++ w) ≡ first_column (length (z ++ w) + 1) (refused (whole body (lex z)))
unfolding syntax_column
column_of z w all = ap (λ ts. first_column (length (z ++ w) + 1) (refused (whole body ts))) (keep_tokens z w all)

-- the reader stops at a token of the text, whose column is the same; it isn't the end, which lies behind
pub keep_column : KeepColumn
unfolding syntax_column
keep_column z w all l = column_of z w all ∙ at (whole body (lex z)) l
  where
    at : (r : Result Body (List Spot)) → first_column (length z + 1) (refused r) ≤ length z
        → first_column (length (z ++ w) + 1) (refused r) ≡ first_column (length z + 1) (refused r)
    at (Ok b) h = absurd (omega arith)
    at (Err []) h = absurd (omega arith)
    at (Err (s ∷ rest)) h = refl

-- a refused token would stand in the text, so none is left, and the column is that of the end with the blanks
pub end_behind : EndBehind
unfolding syntax_column
end_behind z w all l = column_of z w all ∙ at (whole body (lex z)) refl l
  where
    at : (r : Result Body (List Spot)) → whole body (lex z) ≡ r → length z < first_column (length z + 1) (refused r)
        → first_column (length (z ++ w) + 1) (refused r) ≡ length (z ++ w) + 1
    at (Ok b) e h = refl
    at (Err []) e h = refl
    at (Err (s ∷ rest)) e h = absurd (let k = refused_before z s rest e in omega (arith, k))

-- ---- both cases at once, for those who cut blanks off

-- by the test on the column: it is one in the text, which stays, or that of the end, which moves
pub column_with : (z w : Text) → AreBlank w
    → syntax_column (z ++ w) ≡ cond (nat_le (syntax_column z) (length z)) (syntax_column z) (length (z ++ w) + 1)
column_with z w all = by (nat_le (syntax_column z) (length z)) refl
  where
    by : (t : Bool) → nat_le (syntax_column z) (length z) ≡ t → syntax_column (z ++ w) ≡ cond t (syntax_column z) (length (z ++ w) + 1)
    by true e = keep_column z w all (grind (arith, nat_tests))
    by false e = end_behind z w all (grind (arith, nat_tests))
