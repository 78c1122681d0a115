-- An audit to which one commit is handed after another.
use Rattle.std.specs.Prelude.{◌≡◌, ℕ, [], ◌∷◌, ◌++◌, Option, None, refl}
use Rattle.std.specs.Coded.{Coded, code_by, coded×, coded_ℕ, coded_list, coded_option}
use Rattle.txn_lang.specs.declared.commit.Commit.{Commit}
use Rattle.txn_lang.specs.contracts.commit.Commit as commit
use Rattle.txn_lang.specs.States.{Journal}
use Rattle.audit_core.specs.Verdicts.{second_alone}

-- behind how many commits the state is asked for, if it is, and the commits that were taken
pub record Growing : Type 0 where
  pub at : Option ℕ
  pub commits : Journal

abbrev pub growing_code : Coded Growing
growing_code =
    code_by (Option ℕ × Journal) (coded× (coded_option coded_ℕ) (coded_list commit.the_row.coded))
    (λ g. (g.at, g.commits)) (λ p. record { at = p.0; commits = p.1 }) (λ _. refl)

-- with a commit more
abbrev pub with_commit : Growing → Commit → Growing
with_commit g commit = record { at = g.at; commits = g.commits ++ commit ∷ [] }

with_commit-example : with_commit (record { at = None; commits = [] }) second_alone ≡ record { at = None; commits = second_alone ∷ [] }
with_commit-example = refl
