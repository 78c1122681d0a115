-- The body of a verb.
use Rattle.std.proofs.Common.{◌≡◌, ℕ, Bool, true, false, Option, Some, None, Result, Ok, Err, refl, ap, sym, ◌∙◌, subst, ◌≤◌, length}
use Rattle.std.specs.Prelude.{IsTrue, IfOk}
use Rattle.std.specs.Option.{unwrap_or}
use Rattle.session_text.specs.declared.reply.Why.{Why}
use Rattle.session_text.specs.declared.reply.Why.TheVariants as why
use Rattle.plain_data.specs.declared.or_no_memory.OrNoMemory.{OrNoMemory}
use Rattle.plain_data.specs.declared.or_no_memory.OrNoMemory.TheVariants.{Cause, NoMemory}
use Rattle.txn_trees.specs.declared.statement.Body.{Body}
use Rattle.txn_grammar.specs.Characters.{Text}
use Rattle.txn_grammar.specs.Parsed.{parsed, IsSyntaxColumn}
use Rattle.txn_grammar.proofs.Parses.{column_is_computed, column_of_none}
use Rattle.txn_parse.specs.declared.whole.ParseError.{ParseError}
use Rattle.txn_parse.specs.declared.whole.ParseError.TheVariants as parse
use Rattle.txn_lang.specs.declared.checking.CheckError.{CheckError}
use Rattle.txn_lang.specs.declared.checking.CheckError.TheVariants as check
use Rattle.txn_lang.specs.declared.checked.Checked.{Checked}
use Rattle.txn_lang.specs.Typing.{judge, IsTyped}
use Rattle.txn_lang.specs.Tree.{tree}
use Rattle.txn_lang.specs.Writes.{first_write}
use Rattle.txn_lang.specs.code.Checking.{WritesAt}
use Rattle.txn_lang.proofs.Typing.{bodies_are_judged}
use Rattle.txn_lang.proofs.Trees.{tree_of_typed, tree_read}
use Rattle.session_core.specs.Words.{trimmed_end}
use Rattle.session_core.specs.Bodies.{if_pure, if_tree, checked_of, ill_typed, unread, refusal_of, or_refused, body_of}
use Rattle.session_core.specs.code.Reading.{ReadsBody, of_parse, of_check, split}
use Rattle.journal_core.specs.declared.limits.TheConstants.{LONGEST_BODY}
use Rattle.journal_core.specs.Bodies.{ends_in_blank}
use Rattle.session_core.specs.Holding.{IsReady}
use Rattle.session_core.proofs.Same.{checked_same}
use Rattle.session_core.proofs.Trims.{parsed_trimmed, trimmed_end-trimmed}

-- the text that is kept is read as the text that came
pub kept_reads : (text source : Text) (body : Body) → source ≡ trimmed_end text → parsed text ≡ Some body → parsed source ≡ Some body
kept_reads text source body trimmed read = ap parsed trimmed ∙ parsed_trimmed text ∙ read

-- ---- what may run

-- a checked body is the one that is read from its text
module _ (read_only : Bool) (text : Text) (c : Checked) (only : c.read_only ≡ read_only) (trimmed : c.source ≡ trimmed_end text) where
  -- by whether the tree writes: it is taken unless it writes where it may only read, with the checked body's own parts
  pure_is : (body : Body) (e : tree (trimmed_end text) ≡ Some body) (o : Option ℕ) (w : first_write body ≡ o) → c.body ≡ body →
      (IsTrue read_only → first_write body ≡ None)
      → if_pure read_only (trimmed_end text) body e o w ≡ Some c
  pure_is body e None w b pure = ap (λ x. Some x) (checked_same _ c (sym b) (sym trimmed) (sym only))
  pure_is body e (Some column) w b pure = by read_only refl only pure
    where
      by : (ro : Bool) → read_only ≡ ro → c.read_only ≡ ro → (IsTrue ro → first_write body ≡ None)
          → if_pure ro (trimmed_end text) body e (Some column) w ≡ Some c
      by true is only pure = absurd (let h : Some column ≡ None = sym w ∙ pure refl in cc)
      by false is only pure = ap (λ x. Some x) (checked_same _ c (sym b) (sym trimmed) (sym only))

  -- the tree that the text has is the checked body's, so it is taken
  tree_is : (o : Option Body) (e : tree (trimmed_end text) ≡ o) → o ≡ Some c.body →
      (IsTrue read_only → first_write c.body ≡ None) → if_tree read_only (trimmed_end text) o e ≡ Some c
  tree_is None e is pure = absurd (cc)
  tree_is (Some body) e is pure =
      let same : body ≡ c.body = cc in pure_is body e (first_write body) refl (sym same) (λ h. ap first_write same ∙ pure h)

  -- what was parsed, judged and found not to write where it may not is read
  pub accepts : parsed text ≡ Some c.body → IsTyped c.body → (IsTrue read_only → first_write c.body ≡ None) → body_of read_only text ≡ Ok c
  unfolding checked_of
  accepts read typed pure = ap (or_refused text)
      (tree_is (tree (trimmed_end text)) refl (tree_of_typed (trimmed_end text) c.body (parsed_trimmed text ∙ read) typed) pure)

-- ---- why it may not

-- where there is no tree, or the tree writes, nothing is read
none_of_tree : (read_only : Bool) (source : Text) (o : Option Body) (e : tree source ≡ o) → o ≡ None → if_tree read_only source o e ≡ None
none_of_tree read_only source None e h = refl
none_of_tree read_only source (Some body) e h = absurd (cc)

-- where a tree may only read, a first write is enough to refuse it
none_writes : (source : Text) (body : Body) (e : tree source ≡ Some body) (o : Option ℕ) (w : first_write body ≡ o) (column : ℕ) → o ≡ Some column
    → if_pure true source body e o w ≡ None
none_writes source body e None w column h = absurd (cc)
none_writes source body e (Some other) w column h = refl

-- the tree that the text has is the body, and writes as that does
writes_none : (source : Text) (body : Body) (column : ℕ) (o : Option Body) (e : tree source ≡ o) → o ≡ Some body → first_write body ≡ Some column
    → if_tree true source o e ≡ None
writes_none source body column None e h w = refl
writes_none source body column (Some other) e h w = let same : other ≡ body = cc in none_writes source other e (first_write other) refl column
    (ap first_write same ∙ w)

-- where no body is the text's tree, there is none: by cases on the tree
no_tree : (text : Text) → ((b : Body) → tree (trimmed_end text) ≡ Some b → ⊥) → tree (trimmed_end text) ≡ None
no_tree text none = by (tree (trimmed_end text)) refl
  where
    by : (o : Option Body) → tree (trimmed_end text) ≡ o → o ≡ None
    by (Some b) e = absurd (none b e)
    by None e = refl

-- where nothing is read, the answer is the text's refusal
refused_by : (read_only : Bool) (text : Text) (reason : Why) → checked_of read_only text ≡ None → refusal_of text ≡ reason → body_of read_only text ≡ Err reason
refused_by read_only text reason none is = ap (or_refused text) none ∙ ap (λ r. Err r) is

-- it isn't read where it isn't parsed as a body that is well typed
unread_none : (read_only : Bool) (text : Text) → ((b : Body) → parsed text ≡ Some b → IsTyped b → ⊥) → checked_of read_only text ≡ None
unfolding checked_of
unread_none read_only text none = none_of_tree read_only (trimmed_end text) (tree (trimmed_end text)) refl
    (no_tree text (λ b e. let r = tree_read (trimmed_end text) b e in none b (sym (parsed_trimmed text) ∙ r.0) r.1))

-- a text that stops being a body at a column isn't parsed, and that column is the one that is computed
pub refuses_syntax : (read_only : Bool) (text : Text) (column : ℕ) → IsSyntaxColumn text column → body_of read_only text ≡ Err (why.Syntax column)
unfolding refusal_of
refuses_syntax read_only text column x =
    let missing = column_of_none text column x in
    refused_by read_only text (why.Syntax column) (unread_none read_only text (λ b e typed. let h : Some b ≡ None = sym e ∙ missing in cc))
    (ap (unread text) missing ∙ ap (λ n. why.Syntax n) (sym (column_is_computed text column x)))

-- a body for which the judge names a column isn't well typed, so nothing is read, and that column is told
pub refuses_type : (read_only : Bool) (text : Text) (body : Body) (column : ℕ) → parsed text ≡ Some body → judge body ≡ Err column
    → body_of read_only text ≡ Err (why.BadType column)
unfolding refusal_of
refuses_type read_only text body column read fails =
    refused_by read_only text (why.BadType column)
    (unread_none read_only text (λ b e typed.
    let same : b ≡ body = (let s : Some b ≡ Some body = sym e ∙ read in cc) in
    let found = (bodies_are_judged b).1 typed in
    let h : Ok found.0 ≡ Err column = sym found.1 ∙ (ap judge same ∙ fails) in cc))
    (ap (unread text) read ∙ ap (ill_typed body) fails)

-- a well typed body is its text's tree, and a tree that writes isn't taken where it may only read
writes_unread : (text : Text) (body : Body) (column : ℕ) → parsed text ≡ Some body → IsTyped body → first_write body ≡ Some column → checked_of true text ≡ None
unfolding checked_of
writes_unread text body column read typed writes =
    writes_none (trimmed_end text) body column (tree (trimmed_end text)) refl (tree_of_typed (trimmed_end text) body (parsed_trimmed text ∙ read) typed) writes

-- it is parsed and well typed, so what is left to tell is its first write
pub refuses_writes : (text : Text) (body : Body) (column : ℕ) → parsed text ≡ Some body → IsTyped body → first_write body ≡ Some column
    → body_of true text ≡ Err (why.Writes column)
unfolding refusal_of
refuses_writes text body column read typed writes =
    refused_by true text (why.Writes column) (writes_unread text body column read typed writes)
    (ap (unread text) read ∙ (ap (ill_typed body) ((bodies_are_judged body).1 typed).1 ∙ ap (λ o. why.Writes (unwrap_or o 0)) writes))

-- ---- what the reader answers

-- a fault of the parser, by the column that it tells
pub parse-reads : (read_only : Bool) (text : Text) (error : ParseError) (told : OrNoMemory Why) → told ≡ of_parse error
    → ((column : ℕ) → error ≡ parse.Syntax column → IsSyntaxColumn text column) → ReadsBody (Err told) (body_of read_only text)
parse-reads read_only text (parse.Syntax column) told is found reason e =
    let k : why.Syntax column ≡ reason = cc in refuses_syntax read_only text column (found column refl) ∙ ap (λ r. Err r) k
parse-reads read_only text parse.NoMemory told is found reason e = absurd (cc)

-- a fault of the checker, by the column that it tells: a write is told only where the body may only read
pub check-reads : (read_only : Bool) (text : Text) (body : Body) (error : CheckError) (told : OrNoMemory Why) → told ≡ of_check error
    → parsed text ≡ Some body → ((column : ℕ) → error ≡ check.BadType column → judge body ≡ Err column)
    → ((column : ℕ) → error ≡ check.Writes column → WritesAt body read_only column) → ReadsBody (Err told) (body_of read_only text)
check-reads read_only text body (check.BadType column) told is read ill writes reason e =
    let k : why.BadType column ≡ reason = cc in refuses_type read_only text body column read (ill column refl) ∙ ap (λ r. Err r) k
check-reads read_only text body (check.Writes column) told is read ill writes reason e =
    let k : why.Writes column ≡ reason = cc in let w = writes column refl in
    ap (λ o. body_of o text) w.only_reads ∙ refuses_writes text body column read w.typed w.first ∙ ap (λ r. Err r) k
check-reads read_only text body check.NoMemory told is read ill writes reason e = absurd (cc)

-- apart from want of memory, what was read is the text's body, or why it is refused
pub split-reads : (r : Result Checked (OrNoMemory Why)) (read : Result Checked Why) → ReadsBody r read → IfOk (split r) (λ x. read ≡ x)
split-reads (Ok checked) read h = h
split-reads (Err (Cause reason)) read h = h reason refl
split-reads (Err NoMemory) read h = tt

-- and may run
pub split-ready : (r : Result Checked (OrNoMemory Why)) → IfOk r (λ c. IsReady c) → IfOk (split r) (λ x. IfOk x (λ c. IsReady c))
split-ready (Ok checked) h = h
split-ready (Err (Cause reason)) h = tt
split-ready (Err NoMemory) h = tt

-- what was read, by its parts
module _ (read_only : Bool) (text : Text) (body : Body) (c : Checked) (b : c.body ≡ body) (trimmed : c.source ≡ trimmed_end text)
    (read : parsed text ≡ Some body) (typed : IsTyped body) where
  -- the checked body has the parts that the text is read as, and doesn't write where it may only read
  pub reads-checked : c.read_only ≡ read_only → (IsTrue read_only → first_write body ≡ None) → body_of read_only text ≡ Ok c
  reads-checked only pure = accepts read_only text c only trimmed (read ∙ ap (λ x. Some x) (sym b)) (subst IsTyped (sym b) typed)
      (λ h. ap first_write b ∙ pure h)

  -- without the blanks at its end the text still has that tree, and so a short one may be committed
  pub is-ready : length c.source ≤ LONGEST_BODY → IsReady c
  is-ready short = record {
    text = tree_of_typed c.source c.body (ap parsed trimmed ∙ (parsed_trimmed text ∙ (read ∙ ap (λ x. Some x) (sym b)))) (subst IsTyped (sym b) typed);
    body_text = record { short = short; trimmed = ap ends_in_blank trimmed ∙ trimmed_end-trimmed text };
  }
