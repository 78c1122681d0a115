-- Whole texts.
use Rattle.std.proofs.Common.{◌≡◌, ℕ, ◌+◌, true, length, List, ◌∷◌, [], ◌++◌, Option, Some, None, Result, Ok, Err, refl}
use Rattle.std.proofs.Common.{ap, sym, ◌∙◌, subst, drop, arith, append_assoc, append-nil}
use Rattle.std.proofs.Math.Seq.{drop-append_seam}
use Rattle.std.specs.Result.{result_ok}
use Rattle.txn_trees.specs.declared.statement.Body.{Body}
use Rattle.predictive_parsing.specs.Reading.{whole}
use Rattle.predictive_parsing.specs.Fits.{unless}
use Rattle.predictive_parsing.specs.Stops.{StopsAt, NoFurther}
use Rattle.predictive_parsing.proofs.Columns.{one_column}
use Rattle.predictive_parsing.proofs.Wholes.{whole_sound, whole_complete, whole_unique, whole_stops}
use Rattle.txn_grammar.specs.declared.limit.TheConstants.{DEEPEST}
use Rattle.txn_grammar.specs.declared.token.Spot.{Spot}
use Rattle.txn_grammar.specs.Characters.{Text}
use Rattle.txn_grammar.specs.Spellings.{same_symbol}
use Rattle.txn_grammar.specs.Lexer.{lex, Spelled}
use Rattle.txn_grammar.specs.Grammar.{BodyRule, IsBody}
use Rattle.txn_grammar.specs.Parsed.{parsed, first_column, IsSyntaxColumn, refused, syntax_column}
use Rattle.txn_grammar.specs.code.Reader.{body, begins_statement}
use Rattle.txn_grammar.proofs.Ends.{statement_end}
use Rattle.txn_grammar.proofs.StatementFits.{body_fits}

-- a body may end where the text does
ends : unless (begins_statement DEEPEST) statement_end None ≡ true
unfolding same_symbol begins_statement
ends = refl

-- a body is given only where the reader found it
read_by : (r : Result Body (List Spot)) (b : Body) → result_ok r ≡ Some b → r ≡ Ok b
read_by (Ok c) b e = let k : c ≡ b = cc in ap (λ x. Ok x) k
read_by (Err rest) b e = absurd (cc)

-- what is read is derived
pub parsed_sound : (z : Text) (b : Body) → parsed z ≡ Some b → IsBody (lex z) b
unfolding parsed
parsed_sound z b e = whole_sound Spelled body BodyRule _ body_fits ends (lex z) b (read_by (whole body (lex z)) b e)

-- what is derived is read
pub parsed_complete : (z : Text) (b : Body) → IsBody (lex z) b → parsed z ≡ Some b
unfolding parsed
parsed_complete z b r = ap result_ok (whole_complete Spelled body BodyRule _ body_fits ends (lex z) b r)

-- tokens are those of one body at most
pub body_unique : (ts : List Spot) (a b : Body) → IsBody ts a → IsBody ts b → a ≡ b
body_unique ts a b r s = whole_unique Spelled body BodyRule _ body_fits ends ts a b r s

-- ---- columns

-- where the reader refuses, the text stops being a body
pub refused_stops : (ts rest : List Spot) → whole body ts ≡ Err rest → StopsAt Spelled BodyRule ts rest
refused_stops ts rest e = whole_stops Spelled body BodyRule _ body_fits ends ts rest e

-- the text stops being a body where the reader refuses, and the column is that of what is left there
pub refused_column : (z : Text) (rest : List Spot) → whole body (lex z) ≡ Err rest → IsSyntaxColumn z (first_column (length z + 1) rest)
refused_column z rest e = record { rest = rest; stops = refused_stops (lex z) rest e; place = refl }

-- a text that is no body has a column
pub column_there : (z : Text) → parsed z ≡ None → (column : ℕ) × IsSyntaxColumn z column
unfolding parsed
column_there z e = there (whole body (lex z)) refl e
  where
    there : (r : Result Body (List Spot)) → whole body (lex z) ≡ r → result_ok r ≡ None → (column : ℕ) × IsSyntaxColumn z column
    there (Ok b) k h = absurd (cc)
    there (Err rest) k h = (first_column (length z + 1) rest, refused_column z rest k)

-- the one that is computed
pub column_computed : (z : Text) → parsed z ≡ None → IsSyntaxColumn z (syntax_column z)
unfolding parsed syntax_column
column_computed z e = at (whole body (lex z)) refl e
  where
    at : (r : Result Body (List Spot)) → whole body (lex z) ≡ r → result_ok r ≡ None → IsSyntaxColumn z (first_column (length z + 1) (refused r))
    at (Ok b) k h = absurd (cc)
    at (Err rest) k h = refused_column z rest k

-- the tokens up to the one at which it stops go on to no body, so neither do all of them
no_body : (ts before rest : List Spot) → ts ≡ before ++ rest → NoFurther BodyRule before rest → (b : Body) → IsBody ts b → ⊥
no_body ts before [] e none b r = none b (subst (λ xs. IsBody xs b) (e ∙ append-nil before) r)
no_body ts before (s ∷ rest) e none b r = none rest b (subst (λ xs. IsBody xs b) (e ∙ sym (append_assoc before (s ∷ []) rest)) r)

-- and a body has none
pub column_no_body : (z : Text) (column : ℕ) (b : Body) → IsSyntaxColumn z column → IsBody (lex z) b → ⊥
column_no_body z column b x r = no_body (lex z) x.stops.before x.rest x.stops.cut x.stops.no_further b r

-- what is left where a text stops is what its tokens have there
rest_is : (ts before rest : List Spot) → ts ≡ before ++ rest → rest ≡ drop (length before) ts
rest_is ts before rest e = sym (ap (drop (length before)) e ∙ drop-append_seam before rest)

-- so the column is the only one
pub column_unique : (z : Text) (c d : ℕ) → IsSyntaxColumn z c → IsSyntaxColumn z d → c ≡ d
column_unique z c d x y =
    let k = one_column Spelled BodyRule (lex z) (length x.stops.before + 1) (length y.stops.before + 1)
    (record { rest = x.rest; stops = x.stops; place = refl }) (record { rest = y.rest; stops = y.stops; place = refl }) in
    let l : length x.stops.before ≡ length y.stops.before = omega arith in
    let m = rest_is (lex z) x.stops.before x.rest x.stops.cut ∙ ap (λ n. drop n (lex z)) l ∙ sym (rest_is (lex z) y.stops.before y.rest y.stops.cut) in
    x.place ∙ ap (first_column (length z + 1)) m ∙ sym y.place

-- and it is the only one
pub column_is_computed : (z : Text) (column : ℕ) → IsSyntaxColumn z column → column ≡ syntax_column z
column_is_computed z column x = by (parsed z) refl
  where
    by : (o : Option Body) → parsed z ≡ o → column ≡ syntax_column z
    by (Some b) e = absurd (column_no_body z column b x (parsed_sound z b e))
    by None e = column_unique z column (syntax_column z) x (column_computed z e)

-- a text that has a column is no body
pub column_of_none : (z : Text) (column : ℕ) → IsSyntaxColumn z column → parsed z ≡ None
column_of_none z column x = by (parsed z) refl
  where
    by : (o : Option Body) → parsed z ≡ o → o ≡ None
    by (Some b) e = absurd (column_no_body z column b x (parsed_sound z b e))
    by None e = refl
