-- One commit more behind others of which something was found.
use Rattle.std.proofs.Common.{◌≡◌, ℕ, zero, suc, ◌+◌, ◌<◌, ◌≤◌, ◌^◌, Bool, true, false, cond, List, [], ◌∷◌, ◌++◌, length, take, Option, Some, None, refl, sym, ap, subst, ◌∙◌, arith}
use Rattle.std.specs.Prelude.{nat_lt, SomeIff, Result, Ok, Err, IfOk}
use Rattle.std.specs.declared.alloc.AllocError.{AllocError}
use Rattle.std.specs.List.{slice_get}
use Rattle.std.proofs.Math.Seq.{take-append_seam}
use Rattle.std.proofs.lemmas.Bool.{ltb-true, ltb-false}
use Rattle.std.proofs.lemmas.List.{length-append, take-append-le, take_all}
use Rattle.std.proofs.lemmas.List.Sums.{fold-append}
use Rattle.std.proofs.lemmas.Option.{slice_get_within}
use Rattle.plain_data.proofs.Overlays.{Some_is}
use Rattle.txn_lang.specs.declared.commit.Commit.{Commit}
use Rattle.txn_lang.specs.States.{Journal}
use Rattle.txn_lang.specs.Journals.{MayFollow, IsLegal}
use Rattle.txn_lang.proofs.Journals.{legal-push}
use Rattle.audit_core.specs.declared.auditing.Auditor.{Auditor}
use Rattle.audit_core.specs.declared.verdict.Flaw.{Flaw}
use Rattle.audit_core.specs.declared.verdict.Verdict.{Verdict}
use Rattle.audit_core.specs.declared.verdict.Verdict.TheVariants as verdict
use Rattle.audit_core.specs.Dumps.{Values, with_deltas, dump_of}
use Rattle.audit_core.specs.Verdicts.{IsFlaw, IsBroken, IsVerdict}
use Rattle.audit_core.specs.code.Growing.{is_asked, KeepsAsked, HasFound, HasGrown}
use Rattle.audit_core.proofs.Verdicts.{broken-breaks}

-- ---- lists

-- behind the others stands the last
slice_get-last : {A : Type 0} (xs : List A) (x : A) → slice_get (xs ++ x ∷ []) (length xs) ≡ Some x
slice_get-last [] x = refl
slice_get-last (y ∷ xs) x = slice_get-last xs x

-- the others are where they were
slice_get-others : {A : Type 0} (xs ys : List A) (i : ℕ) → i < length xs → slice_get (xs ++ ys) i ≡ slice_get xs i
slice_get-others [] ys i within = absurd (omega arith)
slice_get-others (x ∷ xs) ys zero within = refl
slice_get-others (x ∷ xs) ys (suc i) within = slice_get-others xs ys i (omega arith)

-- the place behind so many
pub place-next : (count place : ℕ) (o : Option ℕ) → o ≡ Some place → SomeIff o (count + 1 < 2 ^ 64) (count + 1) → count + 1 ≡ place
place-next count place None is told = absurd (cc)
place-next count place (Some next) is told = sym told.1 ∙ Some_is next place is

-- ---- what was found

module _ (before : Journal) (commit : Commit) where
  abbrev more : Journal
  more = before ++ commit ∷ []

  -- they stay legal by one that may follow
  pub legal-more : (n : ℕ) → IsVerdict before (verdict.Legal n) → MayFollow 0 before commit → IsVerdict more (verdict.Legal (n + 1))
  legal-more n is follows =
      (ap (λ k. k + 1) is.0 ∙ sym (length-append before (commit ∷ [])), legal-push 0 before commit is.1 follows)

  -- the first flaw is that of the one behind them
  pub broken-here : (n : ℕ) (f : Flaw) → IsVerdict before (verdict.Legal n) → IsFlaw before commit f → IsVerdict more (verdict.Broken (n + 1) f)
  broken-here n f is flawed = record {
    before = length before;
    place_is = ap (λ k. k + 1) is.0;
    commit = commit;
    there = slice_get-last before commit;
    legal = subst (IsLegal 0) (sym (take-append_seam before (commit ∷ []))) is.1;
    flawed = subst (λ j. IsFlaw j commit f) (sym (take-append_seam before (commit ∷ []))) flawed;
  }

  -- or it is the one that was found before
  pub broken-more : (place : ℕ) (f : Flaw) → IsBroken before place f → IsBroken more place f
  broken-more place f is =
      let within = slice_get_within before is.before is.commit is.there in
      let same : take is.before more ≡ take is.before before = take-append-le is.before before (commit ∷ []) (omega arith) in
      record {
        before = is.before;
        place_is = is.place_is;
        commit = is.commit;
        there = slice_get-others before (commit ∷ []) is.before within ∙ is.there;
        legal = subst (IsLegal 0) (sym same) is.legal;
        flawed = subst (λ j. IsFlaw j is.commit f) (sym same) is.flawed;
      }

  -- ---- the state that is asked for

  -- it goes on while there are fewer commits
  dump-more : (n : ℕ) (b : Bool) → nat_lt (length before) n ≡ b
      → cond b (with_deltas (dump_of (take n before)) commit.deltas) (dump_of (take n before)) ≡ dump_of (take n more)
  dump-more n true e =
      let fewer : length before < n = ltb-true (length before) n e in
      let all : take n more ≡ more = take_all n more (omega (arith, length-append before (commit ∷ []))) in
      ap (λ j. with_deltas (dump_of j) commit.deltas) (take_all n before (omega arith))
      ∙ sym (fold-append (λ values (c : Commit). with_deltas values c.deltas) [] before (commit ∷ []))
      ∙ ap dump_of (sym all)
  dump-more n false e =
      let enough : n ≤ length before = ltb-false (length before) n e in ap dump_of (sym (take-append-le n before (commit ∷ []) enough))

  -- so it does by what was found
  pub asked-more : (at : Option ℕ) (so_far v : Verdict) (old new : Values) → IsVerdict before so_far → IsVerdict more v
      → KeepsAsked at before so_far old → new ≡ cond (is_asked at so_far) (with_deltas old commit.deltas) old → KeepsAsked at more v new
  asked-more at so_far (verdict.Broken place f) old new was is kept went = tt
  asked-more at (verdict.Broken place f) (verdict.Legal m) old new was is kept went =
      absurd (broken-breaks more place f (broken-more place f was) is.1)
  asked-more None (verdict.Legal n) (verdict.Legal m) old new was is kept went = went ∙ kept
  asked-more (Some k) (verdict.Legal n) (verdict.Legal m) old new was is kept went =
      went
      ∙ ap (λ values. cond (nat_lt n k) (with_deltas values commit.deltas) values) kept
      ∙ ap (λ count. cond (nat_lt count k) (with_deltas (dump_of (take k before)) commit.deltas) (dump_of (take k before))) was.0
      ∙ dump-more k (nat_lt (length before) k) refl

-- ---- by what was found of the others

-- nothing is looked at behind the first with a flaw
pub found-broken : (before : Journal) (commit : Commit) (v : Verdict) (place : ℕ) (f : Flaw) → v ≡ verdict.Broken place f
    → (old new : Auditor) → HasFound before v old → HasFound (before ++ commit ∷ []) v new
found-broken before commit v place f is old new was =
    subst (λ w. HasFound (before ++ commit ∷ []) w new) (sym is)
    (record { holds = broken-more before commit place f (subst (IsVerdict before) is was.holds); kept = tt })

-- with the state that is asked for
pub grown-more : (before : Journal) (commit : Commit) (at : Option ℕ) (so_far : Verdict) (old new : Auditor) (asked went : Values)
    → (r : Result Verdict AllocError) → HasGrown at before so_far old asked
    → went ≡ cond (is_asked at so_far) (with_deltas asked commit.deltas) asked
    → IfOk r (λ v. HasFound (before ++ commit ∷ []) v new) → IfOk r (λ v. HasGrown at (before ++ commit ∷ []) v new went)
grown-more before commit at so_far old new asked went (Ok v) was goes found =
    record { found = found; asked = asked-more before commit at so_far v asked went was.found.holds found.holds was.asked goes }
grown-more before commit at so_far old new asked went (Err e) was goes found = tt
