-- A commit more in a chain.
use Rattle.std.proofs.Common.{◌≡◌, ℕ, suc, ◌+◌, ◌<◌, Bool, true, false, cond, List, [], ◌∷◌, ◌++◌, length, map, get_or, Some, Result, Ok, Err, IfOk, refl, ap, sym, subst, ◌∙◌, arith}
use Rattle.std.specs.Prelude.{◌==◌, Option, IfSome}
use Rattle.std.specs.declared.alloc.AllocError.{AllocError}
use Rattle.std.specs.Map.{lookup}
use Rattle.std.specs.BTreeMap.{insert_entry, is_at}
use Rattle.std.specs.Ordering.{nat_cmp, is_eq}
use Rattle.std.proofs.lemmas.Cmp.{nat_cmp_total, eq_by_cmp_equiv}
use Rattle.std.proofs.lemmas.Map.Lookups.{exact_unsigned}
use Rattle.std.proofs.lemmas.Bool.Decides.{nat_tests}
use Rattle.std.specs.List.{AllByRecursion}
use Rattle.std.proofs.lemmas.List.{length-append, map-append}
use Rattle.std.proofs.lemmas.List.Elements.{filter-append}
use Rattle.plain_data.specs.Histories.{IsLawfulAfter}
use Rattle.plain_data.proofs.Entries.{equal, lookup-insert_entry}
use Rattle.plain_data.proofs.Histories.{IsLawful-push}
use Rattle.commit_file.specs.Recovering.{Takes}
use Rattle.txn_lang.specs.declared.commit.Commit.{Commit}
use Rattle.txn_lang.specs.States.{Journal}
use Rattle.txn_lang.specs.Journals.{own}
use Rattle.journal_core.specs.Keeping.{IsNext}
use Rattle.commit_file.specs.declared.version.Version.TheVariants.{Two}
use Rattle.record_code.specs.Payloads.{payload, IsRecorded}
use Rattle.journal_file.specs.declared.counts.Counts.{Counts}
use Rattle.journal_file.specs.Chains.{Continues, AreContinued, or_zero, counted, AreCounted, IsChain, Follows}
use Rattle.journal_file.specs.Commits.{in_front, commits_of}
use Rattle.journal_file.proofs.Following.{passes-next}
use Rattle.journal_file.proofs.Recorded.{recorded-read}

-- ---- how many each client has

-- the two ways to compare numbers agree
same_test : (m n : ℕ) → is_eq (nat_cmp m n) ≡ (n == m)
same_test m n = by (is_eq (nat_cmp m n)) (n == m) refl refl
  where
    by : (b d : Bool) → is_eq (nat_cmp m n) ≡ b → (n == m) ≡ d → b ≡ d
    by true true e h = refl
    by false false e h = refl
    by true false e h = absurd (let same : m ≡ n = exact_unsigned m n (equal (nat_cmp m n) e) in grind (arith, nat_tests))
    by false true e h =
        let same : n ≡ m = grind (arith, nat_tests) in
        let not : true ≡ false = sym ((eq_by_cmp_equiv nat_cmp_total).refl m) ∙ ap (λ k. is_eq (nat_cmp m k)) (sym same) ∙ e in cc

-- one commit more of a client is one more of its own, and none of another's
length-own : (commits : Journal) (commit : Commit) (client : ℕ) → length (own client (commits ++ commit ∷ []))
    ≡ cond (commit.client == client) (length (own client commits) + 1) (length (own client commits))
length-own commits commit client =
    ap length (filter-append (λ (c : Commit). c.client == client) commits (commit ∷ []))
    ∙ length-append (own client commits) (own client (commit ∷ []))
    ∙ by (commit.client == client)
  where
    by : (b : Bool) → length (own client commits) + length (cond b (commit ∷ []) [])
        ≡ cond b (length (own client commits) + 1) (length (own client commits))
    by true = refl
    by false = omega arith

-- the counts with one more
counts-more : (seqs : List (ℕ × ℕ)) (commits : Journal) (commit : Commit) → ((client : ℕ) → counted seqs client ≡ length (own client commits))
    → commit.seq ≡ length (own commit.client commits) + 1
    → (client : ℕ) → counted (insert_entry nat_cmp seqs commit.client commit.seq) client ≡ length (own client (commits ++ commit ∷ []))
counts-more seqs commits commit counts next client =
    ap or_zero (lookup-insert_entry nat_cmp nat_cmp_total client commit.client commit.seq seqs)
    ∙ ap (λ b. or_zero (cond b (Some commit.seq) (lookup (is_at (nat_cmp client)) seqs))) (same_test client commit.client)
    ∙ by (commit.client == client) refl
    ∙ sym (length-own commits commit client)
  where
    by : (b : Bool) → (commit.client == client) ≡ b → or_zero (cond b (Some commit.seq) (lookup (is_at (nat_cmp client)) seqs))
        ≡ cond b (length (own client commits) + 1) (length (own client commits))
    by true e =
        let same : commit.client ≡ client = grind (arith, nat_tests) in
        next ∙ ap (λ k. length (own k commits) + 1) same
    by false e = counts client

-- one commit more is counted
pub AreCounted-more : (before : Journal) (commit : Commit) (old new : Counts) → AreCounted before old → IsNext before commit
    → new.seqs ≡ insert_entry nat_cmp old.seqs commit.client commit.seq → new.all ≡ commit.number → AreCounted (before ++ commit ∷ []) new
AreCounted-more before commit old new are next seqs all = record {
  all = all ∙ next.number ∙ sym (length-append before (commit ∷ []));
  own = λ client. ap (λ s. counted s client) seqs ∙ counts-more old.seqs before commit are.own next.seq client;
}

-- and commits that are continued are so with it
pub continued-more : (commits : Journal) (commit : Commit) → AreContinued commits → IsRecorded Two commit → IsNext commits commit
    → AreContinued (commits ++ commit ∷ [])
continued-more commits commit continued recorded next =
    IsLawful-push (λ base before c. Continues before c) 0 commits commit continued (record { recorded = recorded; next = next })

-- whether a commit was taken, where memory wasn't wanting
abbrev taken : Bool → Result Bool AllocError
taken took = Ok took

-- a chain behind a commit, which was taken where it is the next
pub IsChain-behind : (held told : Option Counts) (counts counts_then : Counts) (before after : Journal) (commit : Commit)
    → (took : Bool) → IsChain held before → told ≡ held → told ≡ Some counts → IsRecorded Two commit
    → ((j : Journal) → AreCounted j counts → Follows j commit (taken took) counts_then)
    → after ≡ cond took (before ++ commit ∷ []) before → IsChain (Some counts_then) after
IsChain-behind held told counts counts_then before after commit true chain same is recorded follows took =
    let are : AreCounted before counts = subst (λ o. IfSome o (AreCounted before)) (sym same ∙ is) chain.counted in
    let next : IsNext before commit = passes-next before commit (follows before are).0 in
    subst (IsChain (Some counts_then)) (sym took)
    (record { continued = continued-more before commit chain.continued recorded next; counted = (follows before are).1 })
IsChain-behind held told counts counts_then before after commit false chain same is recorded follows took =
    let are : AreCounted before counts = subst (λ o. IfSome o (AreCounted before)) (sym same ∙ is) chain.counted in
    subst (IsChain (Some counts_then)) (sym took)
    (record { continued = chain.continued; counted = (follows before are).1 })

-- ---- what the payloads say

read-after : (before commits : Journal) → IsLawfulAfter (λ base before c. Continues before c) 0 before commits
    → commits_of (map payload commits) ≡ Some commits
read-after before [] continued = refl
read-after before (commit ∷ commits) continued =
    ap (λ o. in_front o (commits_of (map payload commits))) (recorded-read commit continued.0.recorded)
    ∙ ap (in_front (Some commit)) (read-after (before ++ commit ∷ []) commits continued.1)

-- the payloads of commits that continue one another are read as these
pub continued-read : (commits : Journal) → AreContinued commits → commits_of (map payload commits) ≡ Some commits
continued-read commits continued = read-after [] commits continued

-- where a commit was taken, so was its payload
pub takes-payload : {E : Type 0} (r : Result Bool E) (p : List ℕ) (commit : Commit) (old new : Journal) → p ≡ payload commit
    → IfOk r (λ took. new ≡ cond took (old ++ commit ∷ []) old) → IfOk r (λ took. Takes took p (map payload old) (map payload new))
takes-payload (Ok true) p commit old new is takes =
    ap (map payload) takes ∙ map-append payload old (commit ∷ []) ∙ ap (λ q. map payload old ++ q ∷ []) (sym is)
takes-payload (Ok false) p commit old new is takes = ap (map payload) takes
takes-payload (Err e) p commit old new is takes = tt

-- bytes of eight bits each
pub all_small : (bytes : List ℕ) → ((k : ℕ) → get_or bytes k 0 < 256) → AllByRecursion (λ byte. byte < 256) bytes
all_small [] small = tt
all_small (b ∷ bytes) small = (small 0, all_small bytes (λ k. small (suc k)))
