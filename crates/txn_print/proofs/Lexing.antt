-- The text of good tokens is cut into these tokens.
use Rattle.std.proofs.Common.{◌≡◌, ℕ, suc, ◌+◌, ◌-◌, Bool, true, false, ◌&&◌, ◌||◌, ◌==◌, cond, List, [], ◌∷◌, ◌++◌}
use Rattle.std.proofs.Common.{length, refl, ap, sym, ◌∙◌, subst, append_assoc, append-nil, arith}
use Rattle.std.specs.List.{list_any}
use Rattle.std.proofs.lemmas.Bool.{eqb-true}
use Rattle.plain_data.specs.Texts.{Bytes}
use Rattle.txn_grammar.specs.declared.token.Token.{Token}
use Rattle.txn_grammar.specs.declared.token.Spot.{Spot}
use Rattle.txn_grammar.specs.declared.token.Lexeme.{Lexeme}
use Rattle.dtext.specs.Characters.{is_blank}
use Rattle.txn_grammar.specs.Lexer.{lexeme, token_at, spot, is_malformed, lex_from, lex}
use Rattle.txn_print.specs.declared.line.Line.{Line}
use Rattle.txn_print.specs.Pieces.{Piece, printed, space_if, write, written, empty, text}
use Rattle.txn_print.specs.ReadBack.{tokens}
use Rattle.txn_print.proofs.Back.{Each, tokens_of}

-- ---- what may follow a token that lets a space follow

-- a space, or what no space stands before
abbrev pub gaps : Bytes
gaps = 32 ∷ 40 ∷ 41 ∷ 44 ∷ 46 ∷ 59 ∷ 93 ∷ []

-- whether a byte is one of these
abbrev pub is_gap : ℕ → Bool
is_gap b = list_any (λ x. b == x) gaps

-- such a byte, or the end
abbrev pub gap_begins : Bytes → Bool
gap_begins [] = true
gap_begins (b ∷ z) = is_gap b

-- a byte is the first of a list, of which it holds, or it is one of the others
by_first : (P : ℕ → Type 0) (b x : ℕ) (others : Bool) (t : Bool) → (b == x) ≡ t → P x → (others ≡ true → P b) → t || others ≡ true → P b
by_first P b x others true k h rest e = subst P (sym (eqb-true b x k)) h
by_first P b x others false k h rest e = rest e

-- a byte that is one of a list is the first or one behind it, element by element
by_each : (P : ℕ → Type 0) (b : ℕ) (xs : Bytes) → Each P xs → list_any (λ x. b == x) xs ≡ true → P b
by_each P b [] h e = absurd (cc)
by_each P b (x ∷ xs) h e = by_first P b x (list_any (λ y. b == y) xs) (b == x) refl h.0 (λ k. by_each P b xs h.1 k) e

-- what holds of each of them holds of what is one
pub by_gap : (P : ℕ → Type 0) → P 32 → P 40 → P 41 → P 44 → P 46 → P 59 → P 93 → (b : ℕ) → is_gap b ≡ true → P b
by_gap P h1 h2 h3 h4 h5 h6 h7 b e = by_each P b gaps (h1, (h2, (h3, (h4, (h5, (h6, (h7, tt))))))) e

-- ---- good tokens

-- The bytes of the token aren't blank in front, stand behind a space or need none, and are cut off as this token, whatever
-- follows where no space may, and else where a space or the like follows.
pub record Good (piece : Piece) : Type 0 where
  pub first : ℕ
  pub rest : Bytes
  pub whole : printed piece.token ≡ first ∷ rest
  pub no_blank : is_blank first ≡ false
  pub touches : piece.before ≡ false → is_gap first ≡ true
  pub formed : is_malformed piece.token ≡ false
  pub cut : (z : Bytes) → (piece.after ≡ true → gap_begins z ≡ true)
      → token_at (first ∷ (rest ++ z)) ≡ lexeme piece.token (suc (length rest))

-- ---- the text, from its front

-- the bytes of pieces from left to right, by whether what stands before them lets a space follow
spelled : Bool → List Piece → Bytes
spelled s [] = []
spelled s (p ∷ ps) = space_if (s && p.before) ++ (printed p.token ++ spelled p.after ps)

-- writing appends to the text, so it puts the bytes of each piece behind those before it
written-text : (l : Line) (ps : List Piece) → (written l ps).text ≡ l.text ++ spelled l.space ps
unfolding spelled
written-text l [] = sym (append-nil l.text)
written-text l (p ∷ ps) =
    let a = space_if (l.space && p.before) in
    let b = printed p.token in
    let c = spelled p.after ps in
    written-text (write l p) ps ∙ append_assoc l.text (a ++ b) c ∙ ap (λ xs. l.text ++ xs) (append_assoc a b c)

-- behind what lets a space follow
gap_front : (p : Piece) (z : Bytes) (t : Bool) → p.before ≡ t → Good p → gap_begins (space_if t ++ (printed p.token ++ z)) ≡ true
gap_front p z true e g = refl
gap_front p z false e g = ap (λ xs. gap_begins (xs ++ z)) g.whole ∙ g.touches e

-- nothing follows, or a good piece does: behind a space, or one that needs none
gap_spelled : (ps : List Piece) → Each Good ps → gap_begins (spelled true ps) ≡ true
unfolding spelled
gap_spelled [] h = refl
gap_spelled (p ∷ ps) h = gap_front p (spelled p.after ps) p.before refl h.0

-- ---- token by token

module _ (z : Bytes) (ts : List Token) (others : (c : ℕ) → tokens (lex_from c 0 z) ≡ ts) where
  -- the bytes of a token are passed over
  passed : (xs : Bytes) (c : ℕ) → tokens (lex_from c (length xs) (xs ++ z)) ≡ ts
  passed [] c = others c
  passed (x ∷ xs) c = passed xs (c + 1)

  -- what is made of the byte ahead, by whether it is blank and by the token there
  abbrev step : ℕ → ℕ → Bytes → Bool → Lexeme → List Spot
  step c b y blank found =
      cond blank (lex_from (c + 1) 0 y) (spot c found.token ∷ cond (is_malformed found.token) [] (lex_from (c + 1) (found.len - 1) y))

  -- its first byte is no blank, so it is cut off there as itself; then its other bytes are passed over
  one_token : (p : Piece) → Good p → (p.after ≡ true → gap_begins z ≡ true) → (c : ℕ)
      → tokens (lex_from c 0 (printed p.token ++ z)) ≡ p.token ∷ ts
  one_token p g follows c =
      let y = g.rest ++ z in
      let x = token_at (g.first ∷ y) in
      let m = length g.rest in
      ap (λ xs. tokens (lex_from c 0 (xs ++ z))) g.whole
      ∙ ap (λ b. tokens (step c g.first y b x)) g.no_blank
      ∙ ap (λ (f : Lexeme). tokens (step c g.first y false f)) (g.cut z follows)
      ∙ ap (λ b. p.token ∷ tokens (cond b [] (lex_from (c + 1) (suc m - 1) y))) g.formed
      ∙ ap (λ n. p.token ∷ tokens (lex_from (c + 1) n y)) (omega arith)
      ∙ ap (λ xs. p.token ∷ xs) (passed g.rest (c + 1))

-- behind a space or not
spaced_token : (p : Piece) (z : Bytes) (ts : List Token) (t : Bool) → ((c : ℕ) → tokens (lex_from c 0 (printed p.token ++ z)) ≡ ts)
    → (c : ℕ) → tokens (lex_from c 0 (space_if t ++ (printed p.token ++ z))) ≡ ts
spaced_token p z ts true h c = h (c + 1)
spaced_token p z ts false h c = h c

-- token by token, from the front; what stands behind a token that lets a space follow begins with a gap
all_tokens : (s : Bool) (ps : List Piece) → Each Good ps → (c : ℕ) → tokens (lex_from c 0 (spelled s ps)) ≡ tokens_of ps
unfolding spelled
all_tokens s [] h c = refl
all_tokens s (p ∷ ps) h c =
    spaced_token p (spelled p.after ps) (p.token ∷ tokens_of ps) (s && p.before)
    (one_token (spelled p.after ps) (tokens_of ps) (all_tokens p.after ps h.1) p h.0
    (λ e. ap (λ a. gap_begins (spelled a ps)) e ∙ gap_spelled ps h.1)) c

-- the text of good tokens has these tokens
pub text-tokens : (ps : List Piece) → Each Good ps → tokens (lex (text ps)) ≡ tokens_of ps
unfolding lex
text-tokens ps h = ap (λ z. tokens (lex_from 1 0 z)) (written-text empty ps) ∙ all_tokens false ps h 1
