-- The bodies of verbs: the one body that a text is and that may run, or why it is refused.
use Rattle.std.specs.Prelude.{◌≡◌, ℕ, Bool, true, false, Option, Some, None, Result, Ok, Err, refl}
use Rattle.std.specs.Option.{unwrap_or}
use Rattle.std.proofs.Common.{subst}
use Rattle.session_text.specs.declared.reply.Why.{Why}
use Rattle.session_text.specs.declared.reply.Why.TheVariants as why
use Rattle.txn_trees.specs.declared.statement.Body.{Body}
use Rattle.txn_grammar.specs.Characters.{Text}
use Rattle.txn_grammar.specs.Parsed.{parsed, syntax_column}
use Rattle.txn_lang.specs.declared.checked.Checked.{Checked}
use Rattle.txn_lang.specs.Tree.{tree}
use Rattle.txn_lang.specs.Types.{Names}
use Rattle.txn_lang.specs.Typing.{Judged, judge}
use Rattle.txn_lang.specs.Writes.{first_write}
use Rattle.txn_lang.proofs.Trees.{tree_read}
use Rattle.session_core.specs.Words.{trimmed_end}

-- ---- what may run

-- nothing follows from false where it is said to be true
abbrev pub Fails : Bool → Type 0
Fails true = ⊥
Fails false = Unit {0}

-- false is not true
abbrev pub not_so : (P : Type 0) → false ≡ true → P
not_so P h = absurd (subst Fails h tt)

-- a tree whose first write is known: what may only read has none
abbrev pub if_pure : (read_only : Bool) (source : Text) (body : Body) → tree source ≡ Some body → (o : Option ℕ) → first_write body ≡ o → Option Checked
if_pure read_only source body read None e = Some (record {
  body = body;
  source = source;
  read_only = read_only;
  read = ∣ read ∣₁;
  typed = ∣ (tree_read source body read).1 ∣₁;
  writes_none = ∣ (λ h. e) ∣₁;
})
if_pure true source body read (Some column) e = None
if_pure false source body read (Some column) e = Some (record {
  body = body;
  source = source;
  read_only = false;
  read = ∣ read ∣₁;
  typed = ∣ (tree_read source body read).1 ∣₁;
  writes_none = ∣ (λ h. not_so (first_write body ≡ None) h) ∣₁;
})

-- a text that is a body, checked
abbrev pub if_tree : (read_only : Bool) (source : Text) (o : Option Body) → tree source ≡ o → Option Checked
if_tree read_only source None e = None
if_tree read_only source (Some body) e = if_pure read_only source body e (first_write body) refl

-- The body that a text is and that may run: the tree of the text without the blanks at its end, and where it may only read,
-- one that has no write.
unfoldable pub checked_of : Bool → Text → Option Checked
checked_of read_only text = if_tree read_only (trimmed_end text) (tree (trimmed_end text)) refl

-- ---- why it may not

-- why a body is refused that isn't well typed, or else writes
abbrev pub ill_typed : Body → Judged Names → Why
ill_typed body (Err column) = why.BadType column
ill_typed body (Ok names) = why.Writes (unwrap_or (first_write body) 0)

-- why a text is refused: it is no body, or the body is refused
abbrev pub unread : Text → Option Body → Why
unread text None = why.Syntax (syntax_column text)
unread text (Some body) = ill_typed body (judge body)

-- Why it is refused, in this order: where the text stops being a body, blanks at its end counted; else where a rule of typing
-- fails; else where it writes.
unfoldable pub refusal_of : Text → Why
refusal_of text = unread text (parsed text)

-- ---- both

-- the body of a text, or why it is refused
abbrev pub or_refused : Text → Option Checked → Result Checked Why
or_refused text (Some checked) = Ok checked
or_refused text None = Err (refusal_of text)

-- the body of a verb, or why the verb is refused
abbrev pub body_of : Bool → Text → Result Checked Why
body_of read_only text = or_refused text (checked_of read_only text)
