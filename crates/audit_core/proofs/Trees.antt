-- Which texts are bodies: what the parser and the checker answer.
use Rattle.std.proofs.Common.{◌≡◌, ℕ, true, false, List, Option, Some, None, Result, Err, refl, sym, ap, subst, ◌∙◌}
use Rattle.txn_trees.specs.declared.statement.Body.{Body}
use Rattle.txn_grammar.specs.Parsed.{parsed, IsSyntaxColumn}
use Rattle.txn_grammar.proofs.Parses.{column_of_none}
use Rattle.txn_lang.specs.Typing.{judge}
use Rattle.txn_lang.specs.Tree.{tree, if_typed, if_accepted}
use Rattle.txn_lang.specs.code.Checking.{WritesAt}
use Rattle.std.specs.Prelude.{IfOk}
use Rattle.std.specs.declared.alloc.AllocError.{AllocError}
use Rattle.txn_parse.specs.declared.whole.ParseError.{ParseError}
use Rattle.txn_parse.specs.declared.whole.ParseError.TheVariants as parse_errors
use Rattle.txn_lang.specs.declared.checked.Checked.{Checked}
use Rattle.txn_lang.specs.declared.checking.CheckError.{CheckError}
use Rattle.txn_lang.specs.declared.checking.CheckError.TheVariants as check_errors
use Rattle.audit_core.specs.code.Running.{IsReadOrNone}
use Rattle.audit_core.specs.code.Faults.{not_parsed, not_accepted}

-- a text that isn't parsed is none
pub unparsed : (text : List ℕ) (column : ℕ) → IsSyntaxColumn text column → tree text ≡ None
unfolding tree
unparsed text column x = ap if_typed (column_of_none text column x)

-- nor is one that is ill typed
pub ill_typed : (text : List ℕ) (body : Body) (column : ℕ) → parsed text ≡ Some body → judge body ≡ Err column → tree text ≡ None
unfolding tree
ill_typed text body column read fails = ap if_typed read ∙ ap (if_accepted body) fails

-- what may write is not refused for writing
pub reads_only : (body : Body) (column : ℕ) → WritesAt body false column → ⊥
reads_only body column writes = let h : false ≡ true = writes.only_reads in absurd cc

-- what is answered of a text that isn't parsed or accepted, where it then has no tree
module _ (text : List ℕ) where
  pub parse_answered : (error : ParseError) (answer : Result (Option Checked) AllocError) → answer ≡ not_parsed error
      → ((column : ℕ) → error ≡ parse_errors.Syntax column → tree text ≡ None)
      → IfOk answer (IsReadOrNone text)
  parse_answered (parse_errors.Syntax column) answer e none =
      subst (λ (a : Result (Option Checked) AllocError). IfOk a (IsReadOrNone text)) (sym e) (none column refl)
  parse_answered parse_errors.NoMemory answer e none =
      subst (λ (a : Result (Option Checked) AllocError). IfOk a (IsReadOrNone text)) (sym e) tt

  pub check_answered : (error : CheckError) (answer : Result (Option Checked) AllocError) → answer ≡ not_accepted error
      → ((column : ℕ) → error ≡ check_errors.BadType column → tree text ≡ None)
      → ((column : ℕ) → error ≡ check_errors.Writes column → ⊥)
      → IfOk answer (IsReadOrNone text)
  check_answered (check_errors.BadType column) answer e none reads =
      subst (λ (a : Result (Option Checked) AllocError). IfOk a (IsReadOrNone text)) (sym e) (none column refl)
  check_answered (check_errors.Writes column) answer e none reads = absurd (reads column refl)
  check_answered check_errors.NoMemory answer e none reads =
      subst (λ (a : Result (Option Checked) AllocError). IfOk a (IsReadOrNone text)) (sym e) tt
