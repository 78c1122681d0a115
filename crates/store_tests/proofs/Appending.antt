-- What the tests of appends rest on: bodies that were read, and a client's commits, counted one by one.
use Rattle.std.proofs.Common.{◌≡◌, ℕ, ◌+◌, ◌<◌, ◌≤◌, ◌==◌, cond, List, [], take, length, get_or, slice_get, refl, ap, sym, ◌∙◌, subst, arith}
use Rattle.std.proofs.Common.{Option, Some, None, unwrap_or, Result, Ok, Err, IfOk, IfSome}
use Rattle.std.proofs.lemmas.List.Filters.{length-filter_more}
use Rattle.plain_data.specs.Texts.{Bytes}
use Rattle.plain_data.proofs.Entries.{get-within}
use Rattle.txn_trees.specs.declared.statement.Body.{Body}
use Rattle.txn_grammar.specs.Parsed.{parsed}
use Rattle.txn_lang.specs.declared.checking.CheckError.{CheckError}
use Rattle.txn_lang.specs.declared.checked.Checked.{Checked}
use Rattle.txn_lang.specs.declared.commit.Commit.{Commit}
use Rattle.txn_lang.specs.Tree.{tree}
use Rattle.txn_lang.specs.Typing.{IsTyped}
use Rattle.txn_lang.proofs.Trees.{tree_of_typed}
use Rattle.txn_lang.specs.States.{Journal}
use Rattle.txn_lang.specs.Journals.{own}
use Rattle.journal_core.specs.declared.ready.Ready.{Ready}
use Rattle.journal_core.specs.declared.slot.Slot.{Slot}
use Rattle.journal_core.specs.Bodies.{IsBodyText}
use Rattle.journal_core.specs.Journals.{Standing, IsSlot, CanAppend, commit_at}
use Rattle.journal_core.specs.Readies.{IsRunOf, made_of}
use Rattle.journal_core.proofs.Witnessed.{commit-there}
use Rattle.store_tests.specs.Plain.{plain}

-- ---- what is appended

-- a body that was read from its text and accepted is the text's tree
pub checked-tree : (result : Result Checked CheckError) (source text : Bytes) (body : Body) → parsed source ≡ Some body → text ≡ source
    → IfOk result (λ c. c.body ≡ body) → IfOk result (λ c. c.source ≡ text) → IfOk result (λ _. IsTyped body)
    → IfOk result (λ c. tree c.source ≡ Some c.body)
checked-tree (Ok c) source text body read same body_is source_is typed =
    tree_of_typed c.source c.body (ap parsed (source_is ∙ same) ∙ read ∙ ap (λ b. Some b) (sym body_is)) (subst IsTyped (sym body_is) typed)
checked-tree (Err e) source text body read same body_is source_is typed = tt

-- ---- a client's commits

-- what is found within a list is what is read there
found-read : {A : Type 0} (xs : List A) (i : ℕ) (x : A) → i < length xs → slice_get xs i ≡ Some x → get_or xs i x ≡ x
found-read xs i x within e = ap (λ o. unwrap_or o x) (sym (get-within xs i x within) ∙ e)

-- the commit at the next place counts where it is the client's
pub own-next : (client n m : ℕ) (journal : Journal) (c : Commit) → n < length journal → commit_at journal (n + 1) ≡ Some c
    → m ≡ cond (c.client == client) 1 0 → length (own client (take (n + 1) journal)) ≡ length (own client (take n journal)) + m
own-next client n m journal c within at is =
    let there : slice_get journal n ≡ Some c = sym (commit-there journal n (n + 1) refl) ∙ at in
    length-filter_more (λ commit. commit.client == client) journal n c within
    ∙ ap (λ k. length (own client (take n journal)) + k) (ap (λ d. cond (d.client == client) 1 0) (found-read journal n c within there) ∙ sym is)

-- so does what is found at the next place, where a commit is
pub own-counted : (client n m : ℕ) (journal : Journal) (found : Option Commit) → n < length journal → found ≡ commit_at journal (n + 1)
    → IfSome found (λ c. m ≡ cond (c.client == client) 1 0) → length (own client (take (n + 1) journal)) ≡ length (own client (take n journal)) + m
own-counted client n m journal (Some c) within at is = own-next client n m journal c within (sym at) is
own-counted client n m journal None within at is =
    let there : slice_get journal n ≡ Some (get_or journal n (plain 0 0 0 [])) = get-within journal n (plain 0 0 0 []) within in
    absurd (let none = at ∙ commit-there journal n (n + 1) refl ∙ there in cc)

-- ---- slots

-- a slot that was reserved serves though another is reserved behind it: the commits are the same, and there is as much memory
pub slot-stays : (stands_for : List ℕ → Commit → Type 0) (ready : Ready) (slot : Slot) (first second third : Standing)
    → second ≡ record first { room = second.room } → third ≡ record second { room = third.room } → second.room ≤ third.room
    → IsSlot stands_for ready second slot → IsRunOf ready.body ready.run → IsBodyText ready.body
    → ready.seq ≡ length (own ready.client first.commits) + 1 → CanAppend stands_for ready slot third
slot-stays stands_for ready slot first second third once twice more is run kept next =
    let same : third.commits ≡ second.commits = ap (λ s. s.commits) twice in
    let before : third.commits ≡ first.commits = same ∙ ap (λ s. s.commits) once in
    record {
      slot_is = record {
        made = is.made ∙ ap (λ commits. made_of commits ready) (sym same);
        bytes = is.bytes;
        room = omega (arith, is.room, more);
      };
      run = run;
      body_text = kept;
      next = next ∙ ap (λ commits. length (own ready.client commits) + 1) (sym before);
    }
