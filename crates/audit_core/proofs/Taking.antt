-- One commit more is taken.
use Rattle.std.proofs.Common.{◌≡◌, ℕ, ◌+◌, Bool, true, false, cond, List, [], ◌∷◌, ◌++◌, length, Some, refl, ap, sym, ◌∙◌, arith}
use Rattle.std.specs.Prelude.{◌==◌, unwrap_or}
use Rattle.std.specs.List.Sorted.{IsStrictlySortedBy}
use Rattle.std.specs.Map.{lookup, keys_of}
use Rattle.std.specs.BTreeMap.{is_at}
use Rattle.std.specs.Ordering.{nat_cmp, is_eq}
use Rattle.std.specs.Cmp.{eq_by_cmp_equiv}
use Rattle.std.proofs.lemmas.Cmp.{nat_cmp_total}
use Rattle.std.proofs.lemmas.Map.Lookups.{exact_unsigned}
use Rattle.std.proofs.lemmas.Bool.{eqb-true}
use Rattle.std.proofs.lemmas.Bool.Decides.{nat_tests}
use Rattle.std.proofs.lemmas.List.{length-append}
use Rattle.std.proofs.lemmas.List.Elements.{filter-append}
use Rattle.plain_data.proofs.Entries.{equal}
use Rattle.rdt_types.specs.Addresses.{address_cmp}
use Rattle.txn_lang.specs.declared.commit.Commit.{Commit}
use Rattle.txn_lang.specs.States.{Journal, after, left_by}
use Rattle.txn_lang.specs.Journals.{own}
use Rattle.txn_lang.proofs.Journals.{left_by-push}
use Rattle.audit_core.specs.Dumps.{Values, state_of, with_deltas}
use Rattle.audit_core.specs.code.Running.{counted}
use Rattle.audit_core.proofs.Changing.{state-with_deltas}

-- ---- the state

-- the deltas of one more commit make of the state what one more commit leaves
pub state-more : (before : Journal) (commit : Commit) (values : Values) → state_of values ≡ left_by before
    → IsStrictlySortedBy address_cmp (keys_of commit.deltas) → state_of (with_deltas values commit.deltas) ≡ left_by (before ++ commit ∷ [])
state-more before commit values same rising = λ i a. (
    state-with_deltas commit.deltas values a rising
    ∙ ap (λ m. after commit.deltas a (m a)) same
    ∙ sym (left_by-push before commit a)) i

-- ---- how many each client has

-- the two ways to compare numbers agree
same_test : (m n : ℕ) → is_eq (nat_cmp m n) ≡ (m == n)
same_test m n = by (is_eq (nat_cmp m n)) (m == n) refl refl
  where
    by : (b d : Bool) → is_eq (nat_cmp m n) ≡ b → (m == n) ≡ d → b ≡ d
    by true true e h = refl
    by false false e h = refl
    by true false e h = absurd (let same : m ≡ n = exact_unsigned m n (equal (nat_cmp m n) e) in grind (arith, nat_tests))
    by false true e h =
        let same : m ≡ n = eqb-true m n h in
        let not : true ≡ false = sym ((eq_by_cmp_equiv nat_cmp_total).refl m) ∙ ap (λ k. is_eq (nat_cmp m k)) same ∙ e in cc

-- one commit more of a client is one more of its own, and none of another's
length-own : (commits : Journal) (commit : Commit) (client : ℕ) → length (own client (commits ++ commit ∷ []))
    ≡ cond (commit.client == client) (length (own client commits) + 1) (length (own client commits))
length-own commits commit client =
    ap length (filter-append (λ (c : Commit). c.client == client) commits (commit ∷ []))
    ∙ length-append (own client commits) (own client (commit ∷ []))
    ∙ by (commit.client == client)
  where
    by : (b : Bool) → length (own client commits) + length (cond b (commit ∷ []) [])
        ≡ cond b (length (own client commits) + 1) (length (own client commits))
    by true = refl
    by false = omega arith

-- the counts with one more
pub counts-more : (before : Journal) (commit : Commit) (old new : List (ℕ × ℕ))
    → ((client : ℕ) → counted old client ≡ length (own client before))
    → ((q : ℕ) → lookup (is_at (nat_cmp q)) new ≡ cond (is_at (nat_cmp commit.client) q) (Some commit.seq) (lookup (is_at (nat_cmp q)) old))
    → commit.seq ≡ length (own commit.client before) + 1
    → (client : ℕ) → counted new client ≡ length (own client (before ++ commit ∷ []))
counts-more before commit old new counts puts next client =
    ap (λ o. unwrap_or o 0) (puts client)
    ∙ ap (λ b. unwrap_or (cond b (Some commit.seq) (lookup (is_at (nat_cmp client)) old)) 0) (same_test commit.client client)
    ∙ by (commit.client == client) refl
    ∙ sym (length-own before commit client)
  where
    by : (b : Bool) → (commit.client == client) ≡ b → unwrap_or (cond b (Some commit.seq) (lookup (is_at (nat_cmp client)) old)) 0
        ≡ cond b (length (own client before) + 1) (length (own client before))
    by true e = next ∙ ap (λ k. length (own k before) + 1) (eqb-true commit.client client e)
    by false e = counts client
