-- Which texts have a tree: what the parser and the checker answer.
use Rattle.std.proofs.Common.{◌≡◌, ℕ, suc, ◌-◌, Bool, true, false, List, [], ◌∷◌, length, slice_get, Option, Some, None, Err}
use Rattle.std.proofs.Common.{refl, sym, ap, subst, ◌∙◌, arith}
use Rattle.std.specs.Prelude.{is_some}
use Rattle.txn_trees.specs.declared.statement.Body.{Body}
use Rattle.txn_grammar.specs.Parsed.{parsed, IsSyntaxColumn}
use Rattle.txn_grammar.proofs.Parses.{column_of_none}
use Rattle.txn_lang.specs.Typing.{judge, IsTyped}
use Rattle.txn_lang.specs.Tree.{tree, if_typed, if_accepted}
use Rattle.txn_lang.specs.code.Checking.{WritesAt}
use Rattle.txn_grammar.specs.Characters.{is_blank}
use Rattle.journal_core.specs.Bodies.{ends_in_blank}
use Rattle.txn_lang.proofs.Trees.{tree_of_typed}
use Rattle.txn_parse.specs.declared.whole.ParseError.{ParseError}
use Rattle.txn_parse.specs.declared.whole.ParseError.TheVariants as parse_errors
use Rattle.txn_lang.specs.declared.checking.CheckError.{CheckError}
use Rattle.txn_lang.specs.declared.checking.CheckError.TheVariants as check_errors
use Rattle.record_code.specs.declared.field_error.FieldError.{FieldError}
use Rattle.record_code.specs.code.Faults.{of_parse, of_check}
use Rattle.record_code.specs.code.Reads.{Tells}

-- a text that isn't parsed has no tree
pub unparsed : (text : List ℕ) (column : ℕ) → IsSyntaxColumn text column → is_some (tree text) ≡ false
unfolding tree
unparsed text column x = ap (λ (o : Option Body). is_some (if_typed o)) (column_of_none text column x)

-- and neither has one that is ill typed
pub ill_typed : (text : List ℕ) (body : Body) (column : ℕ) → parsed text ≡ Some body → judge body ≡ Err column
    → is_some (tree text) ≡ false
unfolding tree
ill_typed text body column read fails =
    ap (λ (o : Option Body). is_some (if_typed o)) read ∙ ap (λ r. is_some (if_accepted body r)) fails

pub well_typed : (text : List ℕ) (body : Body) → parsed text ≡ Some body → IsTyped body → is_some (tree text) ≡ true
well_typed text body read typed = ap is_some (tree_of_typed text body read typed)

-- what may write is not refused for writing
pub reads_only : (body : Body) (column : ℕ) → WritesAt body false column → ⊥
reads_only body column writes = let h : false ≡ true = writes.only_reads in absurd cc

-- what is told of a text that isn't parsed or accepted, where it then has no tree
module _ {A : Type 0} (seen : A → List ℕ) (text : List ℕ) (passes : Bool) where
  pub parse_told : (error : ParseError) (told : FieldError) → told ≡ of_parse error
      → ((column : ℕ) → error ≡ parse_errors.Syntax column → passes ≡ false)
      → Tells seen (Err told) text passes
  parse_told (parse_errors.Syntax column) told e fails =
      subst (λ (f : FieldError). Tells seen (Err f) text passes) (sym e) (fails column refl)
  parse_told parse_errors.NoMemory told e fails =
      subst (λ (f : FieldError). Tells seen (Err f) text passes) (sym e) tt

  pub check_told : (error : CheckError) (told : FieldError) → told ≡ of_check error
      → ((column : ℕ) → error ≡ check_errors.BadType column → passes ≡ false)
      → ((column : ℕ) → error ≡ check_errors.Writes column → ⊥)
      → Tells seen (Err told) text passes
  check_told (check_errors.BadType column) told e fails reads =
      subst (λ (f : FieldError). Tells seen (Err f) text passes) (sym e) (fails column refl)
  check_told (check_errors.Writes column) told e fails reads = absurd (reads column refl)
  check_told check_errors.NoMemory told e fails reads =
      subst (λ (f : FieldError). Tells seen (Err f) text passes) (sym e) tt

-- whether the last byte is a blank, by that byte
pub last_blank : (text : List ℕ) (last : ℕ) → slice_get text (length text - 1) ≡ Some last
    → ends_in_blank text ≡ is_blank last
last_blank [] last e = absurd cc
last_blank (b ∷ []) last e = let same : b ≡ last = cc in ap is_blank same
last_blank (b ∷ c ∷ text) last e =
    let k : length (b ∷ c ∷ text) - 1 ≡ suc (length (c ∷ text) - 1) = omega arith in
    last_blank (c ∷ text) last (ap (slice_get (b ∷ c ∷ text)) (sym k) ∙ e)

-- a text without a last byte has none
pub no_last : (text : List ℕ) → slice_get text (length text - 1) ≡ None → ends_in_blank text ≡ false
no_last [] e = refl
no_last (b ∷ []) e = absurd cc
no_last (b ∷ c ∷ text) e =
    let k : length (b ∷ c ∷ text) - 1 ≡ suc (length (c ∷ text) - 1) = omega arith in
    no_last (c ∷ text) (ap (slice_get (b ∷ c ∷ text)) (sym k) ∙ e)
