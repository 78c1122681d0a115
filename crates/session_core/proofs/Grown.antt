-- What holds of a journal and of every longer one.
use Rattle.std.proofs.Common.{◌≡◌, ℕ, zero, suc, ◌-◌, ◌≤◌, Bool, true, false, cond, List, [], ◌∷◌, ◌++◌, append_assoc, length, take, drop}
use Rattle.std.proofs.Common.{Option, Some, None, refl, sym, ap, ◌∙◌, subst}
use Rattle.std.specs.Prelude.{◌==◌, slice_get}
use Rattle.std.specs.Option.{option_and_then}
use Rattle.std.proofs.lemmas.List.{take-append-drop, take-append-le}
use Rattle.std.proofs.Math.Seq.{take-length}
use Rattle.rdt_types.specs.declared.address.Address.{Address}
use Rattle.abort_witness.specs.declared.witness.Based.{Based}
use Rattle.abort_witness.specs.declared.witness.Found.{Found}
use Rattle.abort_witness.specs.declared.witness.Witness.{Witness}
use Rattle.txn_lang.specs.declared.commit.Commit.{Commit}
use Rattle.txn_lang.specs.States.{Journal, left_by, state}
use Rattle.journal_core.specs.Changes.{changes_of}
use Rattle.journal_core.specs.Journals.{commit_at}
use Rattle.journal_core.specs.Pairs.{hits_from, pairs, least_pair}
use Rattle.docc_prepare.specs.Backends.{IsPrefix}
use Rattle.docc_prepare.specs.Witnesses.{witness_in, witness_of, least_witness}
pub use Rattle.docc_prepare.proofs.Prefixes.{prefix-shorter, prefix-again, longer-is}

-- ---- prefixes

-- all of it is its own front
pub prefix-whole : (journal : Journal) → IsPrefix journal journal
prefix-whole journal = take-length journal

-- the first commits are the same
pub prefix-take : (old new : Journal) (n : ℕ) → IsPrefix old new → n ≤ length old → take n new ≡ take n old
prefix-take old new n p within = ap (take n) (longer-is old new p) ∙ take-append-le n old (drop (length old) new) within

-- so is the state that they leave
pub prefix-state : (old new : Journal) (n : ℕ) (a : Address) → IsPrefix old new → n ≤ length old → state new n a ≡ state old n a
prefix-state old new n a p within = ap (λ (first : Journal). left_by first a) (prefix-take old new n p within)

-- a journal that ends in a commit has itself as a prefix
pub prefix-of : (journal first : Journal) → journal ≡ first → IsPrefix first journal
prefix-of journal first e = subst (λ (all : Journal). IsPrefix first all) (sym e) (take-length first)

-- ---- commits

-- what stands at a place stands there with more behind
there-longer : {A : Type 0} (xs ys : List A) (i : ℕ) (x : A) → slice_get xs i ≡ Some x → slice_get (xs ++ ys) i ≡ Some x
there-longer [] ys i x e = absurd (cc)
there-longer (z ∷ xs) ys zero x e = e
there-longer (z ∷ xs) ys (suc i) x e = there-longer xs ys i x e

-- its commits stand at their numbers
pub commit-stays : (old new : Journal) (n : ℕ) (c : Commit) → IsPrefix old new → commit_at old n ≡ Some c → commit_at new n ≡ Some c
commit-stays old new n c p e = subst (λ (all : Journal). commit_at all n ≡ Some c) (sym (longer-is old new p)) (by (n == 0) e)
  where
    by : (x : Bool) → cond x None (slice_get old (n - 1)) ≡ Some c → cond x None (slice_get (old ++ drop (length old) new) (n - 1)) ≡ Some c
    by true h = h
    by false h = there-longer old (drop (length old) new) (n - 1) c h

-- ---- pairs

-- pairs go commit by commit
pairs-append : (bs : List Based) (xs ys : Journal) → pairs bs (xs ++ ys) ≡ pairs bs xs ++ pairs bs ys
pairs-append bs [] ys = refl
pairs-append bs (x ∷ xs) ys = ap (λ found. hits_from 0 bs x ++ found) (pairs-append bs xs ys) ∙ sym
    (append_assoc (hits_from 0 bs x) (pairs bs xs) (pairs bs ys))

-- what is nothing with more behind is nothing
front-none : {A : Type 0} (xs ys : List A) → xs ++ ys ≡ [] → xs ≡ []
front-none [] ys e = refl
front-none (x ∷ xs) ys e = absurd (cc)

-- where no commit clashes, none of the first ones does
pub none-in-front : (bs : List Based) (journal : Journal) (n : ℕ) → pairs bs journal ≡ [] → pairs bs (take n journal) ≡ []
none-in-front bs journal n e = front-none (pairs bs (take n journal)) (pairs bs (drop n journal))
    (sym (pairs-append bs (take n journal) (drop n journal)) ∙ (ap (λ (all : Journal). pairs bs all) (take-append-drop n journal) ∙ e))

-- the least pair stays so, and so does its witness
least-stays : (bs : List Based) (old new : Journal) (found : Found) → IsPrefix old new → least_pair bs old ≡ Some found
    → least_pair bs new ≡ Some found
least-stays bs old new found p e = ap (λ (all : Journal). slice_get (pairs bs all) 0) (longer-is old new p)
    ∙ (ap (λ all. slice_get all 0) (pairs-append bs old (drop (length old) new)) ∙ there-longer (pairs bs old)
    (pairs bs (drop (length old) new)) 0 found e)

-- the witness is made of the commit alone
witness-found : (b : Based) (o q : Option Commit) (w : Witness) → ((c : Commit) → o ≡ Some c → q ≡ Some c)
    → option_and_then (λ commit. witness_in b (changes_of commit)) o ≡ Some w
    → option_and_then (λ commit. witness_in b (changes_of commit)) q ≡ Some w
witness-found b None q w same e = absurd (cc)
witness-found b (Some c) q w same e = ap (option_and_then (λ commit. witness_in b (changes_of commit))) (same c refl) ∙ e

-- the commit of the pair's number stays
witness-at : (o : Option Based) (old new : Journal) (n : ℕ) (w : Witness) → IsPrefix old new
    → option_and_then (λ b. option_and_then (λ commit. witness_in b (changes_of commit)) (commit_at old n)) o ≡ Some w
    → option_and_then (λ b. option_and_then (λ commit. witness_in b (changes_of commit)) (commit_at new n)) o ≡ Some w
witness-at None old new n w p e = absurd (cc)
witness-at (Some b) old new n w p e = witness-found b (commit_at old n) (commit_at new n) w (λ c h. commit-stays old new n c p h) e

-- the least pair stays first, and its commit stays at its number
pub witness-stays : (bs : List Based) (old new : Journal) (w : Witness) → IsPrefix old new → least_witness bs old ≡ Some w
    → least_witness bs new ≡ Some w
witness-stays bs old new w p e = by (least_pair bs old) refl e
  where
    by : (o : Option Found) → least_pair bs old ≡ o → option_and_then (witness_of bs old) o ≡ Some w → least_witness bs new ≡ Some w
    by None is h = absurd (cc)
    by (Some found) is h = ap (option_and_then (witness_of bs new)) (least-stays bs old new found p is) ∙ witness-at (slice_get bs found.place)
        old new found.number w p h
