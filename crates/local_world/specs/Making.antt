-- What is there before anything was done.
use Rattle.std.specs.Prelude.{◌≡◌, ℕ, nat_lt, if◌then◌else◌, Some, None}
use Rattle.reactive_registry.specs.Registered.{Registered, kept_of, entered}

-- The first so many clients are entered at the journal's beginning, and nobody else.
pub record IsEntered (count : ℕ) (registry : Registered) : Type 0 where
  pub front : registry.front ≡ 0
  pub kept : (client : ℕ) → kept_of registry client ≡ (if nat_lt client count then Some (entered 0) else None)
