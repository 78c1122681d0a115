-- What is found of a commit, by what its body comes to.
use Rattle.std.proofs.Common.{◌≡◌, refl, subst}
use Rattle.std.specs.Prelude.{Option, Some, None, Result, Ok, Err, IfOk}
use Rattle.txn_lang.specs.declared.commit.Commit.{Commit}
use Rattle.txn_lang.specs.declared.run.Run.{Run}
use Rattle.txn_lang.specs.States.{Journal, State, known, left_by}
use Rattle.audit_core.specs.declared.verdict.Flaw.{Flaw}
use Rattle.audit_core.specs.declared.verdict.Flaw.TheVariants as flaw
use Rattle.audit_core.specs.Dumps.{Values, state_of}
use Rattle.audit_core.specs.Verdicts.{IsInOrder, IsRunOf, IsFound}
use Rattle.audit_core.specs.code.Running.{IsRunOrNone, Differs}

-- what isn't there is nothing
pub none-else : {A : Type 0} (o : Option A) → ((x : A) → o ≡ Some x → ⊥) → o ≡ None
none-else None not = refl
none-else (Some x) not = absurd (not x refl)

-- whatever is told of what a call gives, so is what follows from it
pub ok-map : {A E : Type 0} (r : Result A E) (P Q : A → Type 0) → ((x : A) → P x → Q x) → IfOk r P → IfOk r Q
ok-map (Ok x) P Q f told = f x told
ok-map (Err e) P Q f told = tt

module _ (before : Journal) (commit : Commit) (values : Values) where
  -- a text that is no body is a flaw
  pub found-none : IsInOrder before commit → IsRunOrNone (known (state_of values)) commit.body None → IsFound before commit (Some flaw.Body)
  found-none order none = (order, none)

  -- by what the commit says otherwise than its body's run
  pub found-some : (run : Run) (found : Option Flaw) → state_of values ≡ left_by before → IsInOrder before commit
      → IsRunOf (known (state_of values)) commit.body run → Differs commit run found → IsFound before commit found
  found-some run None same order is differs =
      let runs : IsRunOf (known (left_by before)) commit.body run = subst (λ (m : State). IsRunOf (known m) commit.body run) same is in
      record {
        number = order.number;
        seq = order.seq;
        runs = λ any. record { body = runs.body; run = run; read = runs.read; ran = runs.ran; outcome = differs.0; deltas = differs.1 };
      }
  found-some run (Some flaw.Number) same order is differs = absurd differs
  found-some run (Some flaw.Seq) same order is differs = absurd differs
  found-some run (Some flaw.Body) same order is differs = absurd differs
  found-some run (Some flaw.Outcome) same order is differs =
      (order, run, subst (λ (m : State). IsRunOf (known m) commit.body run) same is, differs)
  found-some run (Some flaw.Deltas) same order is differs =
      (order, run, subst (λ (m : State). IsRunOf (known m) commit.body run) same is, differs.0, differs.1)
