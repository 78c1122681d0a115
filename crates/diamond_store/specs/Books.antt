-- What lies under the journal's lock, as contracts see it.
use Rattle.std.specs.Prelude.{◌≡◌, ◌⊎◌, ℕ, ◌+◌, ◌≤◌, List, refl}
use Rattle.std.specs.Coded.{Coded, code_by, coded×, coded_ℕ}
use Rattle.dio_core.specs.Counts.{one_more, last_count}
use Rattle.journal_core.specs.Journals.{Standing}
use Rattle.diamond_store.specs.declared.decision.Decision.{Decision}
use Rattle.diamond_store.specs.declared.decision.Decision.TheVariants as decision
use Rattle.diamond_store.specs.Numbers.{numbers_of}

-- the journal, the window of its store, with how many commits it was made, how many appends were denied, and the keeper's count
-- of faults when it was made
pub record Booked : Type 0 where
  pub journal : Standing
  pub window : ℕ
  pub from : ℕ
  pub denials : ℕ
  pub first : ℕ

-- it is stored as the tuple of its fields
abbrev pub booked_code : Coded Standing → Coded Booked
booked_code standing =
    code_by (Standing × (ℕ × (ℕ × (ℕ × ℕ)))) (coded× standing (coded× coded_ℕ (coded× coded_ℕ (coded× coded_ℕ coded_ℕ))))
    (λ b. (b.journal, (b.window, (b.from, (b.denials, b.first)))))
    (λ p. record { journal = p.0; window = p.1.0; from = p.1.1.0; denials = p.1.1.1.0; first = p.1.1.1.1 }) (λ _. refl)

-- the numbers that it keeps for good
abbrev pub numbers : Booked → List ℕ
numbers b = numbers_of b.first b.journal.shards b.window b.journal.limit b.from b.journal.home

-- No more was denied than the keeper's count rose by, unless that has come to its last value.
abbrev pub IsAtMostRise : ℕ → ℕ → ℕ → Type 0
IsAtMostRise first denials faults = (first + denials ≤ faults) ⊎ (last_count ≤ faults)

-- the count of denials after a decision
abbrev pub denials_after : ℕ → Decision → ℕ
denials_after denials decision.Denied = one_more denials
denials_after denials other = denials

-- only a denial is counted
denials_after-example : denials_after 2 (decision.Number 7) ≡ 2
denials_after-example = refl
