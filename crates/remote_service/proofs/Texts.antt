-- Texts that are a body's.
use Rattle.std.proofs.Common.{◌≡◌, ℕ, Bool, true, false, cond, List, Option, Some, None, Err, refl, ap, sym, subst, ◌∙◌}
use Rattle.std.specs.Option.{is_some}
use Rattle.txn_trees.specs.declared.statement.Body.{Body}
use Rattle.txn_lang.specs.declared.checking.CheckError.{CheckError}
use Rattle.txn_lang.specs.declared.checking.CheckError.TheVariants as check_errors
use Rattle.txn_lang.specs.Tree.{tree}
use Rattle.txn_lang.specs.Typing.{IsTyped}
use Rattle.txn_lang.proofs.Trees.{tree_of_typed}
use Rattle.txn_grammar.specs.Parsed.{parsed}
use Rattle.txn_parse.specs.declared.whole.ParseError.{ParseError}
use Rattle.txn_parse.specs.declared.whole.ParseError.TheVariants as parse_errors
use Rattle.remote_service.specs.declared.error.ServiceError.{ServiceError}
use Rattle.remote_service.specs.Anew.{is_body_text, body_of}
use Rattle.remote_service.specs.code.Finds.{Finds}
use Rattle.remote_service.specs.code.Refusing.{of_parse, of_check}

-- a text without a tree is no body's
pub no-tree : (text : List ℕ) → is_some (tree text) ≡ false → body_of text ≡ None
no-tree text e = by (is_body_text text)
  where
    none : (o : Option Body) → is_some o ≡ false → o ≡ None
    none None h = refl
    none (Some body) h = absurd (cc)

    by : (b : Bool) → cond b (tree text) None ≡ None
    by true = none (tree text) e
    by false = refl

-- a text that is read as a body, which is well typed, is that body's
pub the-body : (text : List ℕ) (body : Body) → is_body_text text ≡ true → parsed text ≡ Some body → IsTyped body → body_of text ≡ Some body
the-body text body is read typed = ap (λ b. cond b (tree text) None) is ∙ tree_of_typed text body read typed

-- what is told of a text that isn't parsed or accepted, where it then is no body's
module _ {A : Type 0} (seen : A → Body) (text : List ℕ) where
  pub parse-told : (error : ParseError) (told : ServiceError) → told ≡ of_parse error
      → ((column : ℕ) → error ≡ parse_errors.Syntax column → body_of text ≡ None)
      → Finds seen (Err told) (body_of text)
  parse-told (parse_errors.Syntax column) told e fails =
      subst (λ (f : ServiceError). Finds seen (Err f) (body_of text)) (sym e) (fails column refl)
  parse-told parse_errors.NoMemory told e fails = subst (λ (f : ServiceError). Finds seen (Err f) (body_of text)) (sym e) tt

  pub check-told : (error : CheckError) (told : ServiceError) → told ≡ of_check error
      → ((column : ℕ) → error ≡ check_errors.BadType column → body_of text ≡ None)
      → ((column : ℕ) → error ≡ check_errors.Writes column → ⊥)
      → Finds seen (Err told) (body_of text)
  check-told (check_errors.BadType column) told e fails reads =
      subst (λ (f : ServiceError). Finds seen (Err f) (body_of text)) (sym e) (fails column refl)
  check-told (check_errors.Writes column) told e fails reads = absurd (reads column refl)
  check-told check_errors.NoMemory told e fails reads =
      subst (λ (f : ServiceError). Finds seen (Err f) (body_of text)) (sym e) tt
