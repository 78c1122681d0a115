-- Whole texts, by what the reader of bodies leaves.
use Rattle.std.proofs.Common.{◌≡◌, ℕ, ◌+◌, ◌==◌, Bool, true, false, cond, List, [], ◌∷◌, length, Some, Result, Ok, Err, IfOk, refl, ap, sym, ◌∙◌, subst, arith}
use Rattle.std.proofs.lemmas.Bool.Decides.{nat_tests}
use Rattle.std.specs.Result.{result_ok}
use Rattle.plain_data.specs.declared.or_no_memory.OrNoMemory.{OrNoMemory}
use Rattle.plain_data.specs.declared.or_no_memory.OrNoMemory.TheVariants as stop
use Rattle.predictive_parsing.specs.declared.refused.Refused.{Refused}
use Rattle.predictive_parsing.specs.Reads.{Reads}
use Rattle.txn_trees.specs.declared.statement.Body.{Body}
use Rattle.predictive_parsing.specs.Reading.{whole, whole_of}
use Rattle.txn_grammar.specs.declared.token.Spot.{Spot}
use Rattle.txn_grammar.specs.Characters.{Text}
use Rattle.txn_grammar.specs.Lexer.{lex}
use Rattle.txn_grammar.specs.Grammar.{IsBody}
use Rattle.txn_grammar.specs.Parsed.{parsed, first_column, IsSyntaxColumn}
use Rattle.txn_grammar.specs.code.Reader.{body}
use Rattle.txn_parse.specs.declared.whole.ParseError.{ParseError}
use Rattle.txn_parse.specs.declared.whole.ParseError.TheVariants as error
use Rattle.txn_parse.specs.code.Ended.{ended}
use Rattle.txn_grammar.proofs.Parses.{parsed_sound, body_unique, refused_column, column_no_body}

module _ (z : Text) (ts us : List Spot) (cut : ts ≡ lex z) where
  -- a body with nothing behind it is the text's
  whole_tree : (b : Body) → body ts ≡ Ok (b, us) → length us ≡ 0 → parsed z ≡ Some b
  unfolding parsed whole
  whole_tree b e none = by us e none
    where
      by : (vs : List Spot) → body ts ≡ Ok (b, vs) → length vs ≡ 0 → result_ok (whole_of (body (lex z))) ≡ Some b
      by [] k l = ap (λ xs. result_ok (whole_of (body xs))) (sym cut) ∙ ap (λ o. result_ok (whole_of o)) k
      by (s ∷ vs) k l = absurd (omega arith)

  -- what is the text's body is derived by the grammar, since the reader is sound
  whole_body : (b : Body) → body ts ≡ Ok (b, us) → length us ≡ 0 → IsBody (lex z) b
  whole_body b e none = parsed_sound z b (whole_tree b e none)

  -- and no other is
  whole_only : (b c : Body) → body ts ≡ Ok (b, us) → length us ≡ 0 → IsBody (lex z) c → b ≡ c
  whole_only b c e none r = body_unique (lex z) b c (whole_body b e none) r

  -- where something is left, it is refused there
  left : (b : Body) → body ts ≡ Ok (b, us) → (length us ≡ 0 → ⊥) → whole body (lex z) ≡ Err us
  unfolding whole
  left b e some = by us e some
    where
      by : (vs : List Spot) → body ts ≡ Ok (b, vs) → (length vs ≡ 0 → ⊥) → whole_of (body (lex z)) ≡ Err vs
      by [] k l = absurd (l refl)
      by (s ∷ vs) k l = ap (λ xs. whole_of (body xs)) (sym cut) ∙ ap whole_of k

  -- the tokens are the text's, so what the reader refuses of them the whole text refuses
  refused : body ts ≡ Err us → whole body (lex z) ≡ Err us
  unfolding whole
  refused e = ap (λ xs. whole_of (body xs)) (sym cut) ∙ ap whole_of e

  -- the text stops being a body where the reader refuses, and this is the column of what is left
  column_is : (column : ℕ) → whole body (lex z) ≡ Err us → column ≡ first_column (length z + 1) us → IsSyntaxColumn z column
  column_is column e k = subst (λ c. IsSyntaxColumn z c) (sym k) (refused_column z us e)

  -- the column where something is left, and where a token is refused
  left_column : (b : Body) (column : ℕ) → body ts ≡ Ok (b, us) → (length us ≡ 0 → ⊥) → column ≡ first_column (length z + 1) us → IsSyntaxColumn z column
  left_column b column e some k = column_is column (left b e some) k

  -- a token is refused, so the column is that of what is left there
  stopped_column : (column : ℕ) → body ts ≡ Err us → column ≡ first_column (length z + 1) us → IsSyntaxColumn z column
  stopped_column column e k = column_is column (refused e) k

  -- neither text is a body
  left_no_body : (b c : Body) → body ts ≡ Ok (b, us) → (length us ≡ 0 → ⊥) → IsBody (lex z) c → ⊥
  left_no_body b c e some r = column_no_body z (first_column (length z + 1) us) c (left_column b (first_column (length z + 1) us) e some refl) r

  -- a text that has such a column is no body
  stopped_no_body : (c : Body) → body ts ≡ Err us → IsBody (lex z) c → ⊥
  stopped_no_body c e r = column_no_body z (first_column (length z + 1) us) c (stopped_column (first_column (length z + 1) us) e refl) r

  -- ---- how the call ends

  -- a length that passes the test is zero
  none_left : (length us == 0) ≡ true → length us ≡ 0
  none_left e = grind (arith, nat_tests)

  -- a length that fails the test isn't zero
  some_left : (length us == 0) ≡ false → length us ≡ 0 → ⊥
  some_left e h = let k = ap (λ n. n == 0) h in cc

  -- the body that was read, or the column of what is left
  abbrev done : Body → Bool → Result Body ParseError
  done b t = cond t (Ok b) (Err (error.Syntax (first_column (length z + 1) us)))

  -- where nothing is left the body is the text's, and else none is answered
  done_tree : (b : Body) → body ts ≡ Ok (b, us) → (t : Bool) → (length us == 0) ≡ t → IfOk (done b t) (λ c. parsed z ≡ Some c)
  done_tree b h true k = whole_tree b h (none_left k)
  done_tree b h false k = tt

  -- a body that is answered is the text's
  pub ended_tree : (r : Result Body (OrNoMemory Refused)) → Reads (body ts) r us
      → IfOk (ended (length z + 1) r us) (λ c. parsed z ≡ Some c)
  ended_tree (Ok b) h = done_tree b h (length us == 0) refl
  ended_tree (Err stop.NoMemory) h = tt
  ended_tree (Err (stop.Cause x)) h = tt

  -- where nothing is left the grammar derives the body, and else none is answered
  done_body : (b : Body) → body ts ≡ Ok (b, us) → (t : Bool) → (length us == 0) ≡ t → IfOk (done b t) (λ c. IsBody (lex z) c)
  done_body b h true k = whole_body b h (none_left k)
  done_body b h false k = tt

  -- a body is answered only where it was read with nothing left, and then the grammar derives it
  pub ended_body : (r : Result Body (OrNoMemory Refused)) → Reads (body ts) r us
      → IfOk (ended (length z + 1) r us) (λ c. IsBody (lex z) c)
  ended_body (Ok b) h = done_body b h (length us == 0) refl
  ended_body (Err stop.NoMemory) h = tt
  ended_body (Err (stop.Cause x)) h = tt

  -- a refusal isn't a want of memory
  no_want : (x : Refused) → ◌≡◌ {A = OrNoMemory Refused} (stop.Cause x) stop.NoMemory → ⊥
  no_want x e = cc

  -- where nothing is left the body is the only one, and where something is left there is none
  done_all : (b c : Body) → body ts ≡ Ok (b, us) → IsBody (lex z) c → (t : Bool) → (length us == 0) ≡ t → done b t ≡ Ok c
  done_all b c h r true k = ap (λ x. Ok x) (whole_only b c h (none_left k) r)
  done_all b c h r false k = absurd (left_no_body b c h (some_left k) r)

  -- each body is answered
  pub ended_all : (r : Result Body (OrNoMemory Refused)) → Reads (body ts) r us → (c : Body) → IsBody (lex z) c
      → (ended (length z + 1) r us ≡ Err error.NoMemory → ⊥) → ended (length z + 1) r us ≡ Ok c
  ended_all (Ok b) h c r n = done_all b c h r (length us == 0) refl
  ended_all (Err stop.NoMemory) h c r n = absurd (n refl)
  ended_all (Err (stop.Cause x)) h c r n = absurd (stopped_no_body c (h (no_want x)) r)

  -- a column is answered only where something is left, and it is the column of that
  done_column : (b : Body) (column : ℕ) → body ts ≡ Ok (b, us) → (t : Bool) → (length us == 0) ≡ t
      → done b t ≡ Err (error.Syntax column) → IsSyntaxColumn z column
  done_column b column h true k e = absurd (cc)
  done_column b column h false k e = let c : first_column (length z + 1) us ≡ column = cc in left_column b column h (some_left k) (sym c)

  -- and any other text at its column
  pub ended_column : (r : Result Body (OrNoMemory Refused)) → Reads (body ts) r us → (column : ℕ)
      → ended (length z + 1) r us ≡ Err (error.Syntax column) → IsSyntaxColumn z column
  ended_column (Ok b) h column e = done_column b column h (length us == 0) refl e
  ended_column (Err stop.NoMemory) h column e = absurd (cc)
  ended_column (Err (stop.Cause x)) h column e =
      let c : first_column (length z + 1) us ≡ column = cc in stopped_column column (h (no_want x)) (sym c)
