-- The least base of some observations, where it is too far back.
use Rattle.std.specs.Prelude.{◌≡◌, ℕ, nat_lt, min, if◌then◌else◌, List, [], ◌∷◌, Option, Some, None, codes, refl}
use Rattle.rdt_types.specs.declared.address.Kind.TheVariants as kind
use Rattle.conflict_table.specs.declared.observation.Obs.TheVariants as obs
use Rattle.abort_witness.specs.declared.witness.Based.{Based}

-- the least base, if there is one
abbrev pub least_base : List Based → Option ℕ
least_base [] = None
least_base (b ∷ rest) = elim (least_base rest) as (λ _. Option ℕ) [ None ↦ Some b.base | Some other ↦ Some (min b.base other) ]

-- the least base, where it is below the horizon
abbrev pub late_base : ℕ → Option ℕ → Option ℕ
late_base horizon None = None
late_base horizon (Some base) = if nat_lt base horizon then Some base else None

-- a counter that was read at a number
abbrev read_at : ℕ → Based
read_at base = record { address = record { kind = kind.Counter; key = codes "x" }; obs = obs.CounterIs; base = base }

-- of bases 4 and 2 the horizon 3 makes the lesser late, and the horizon 2 none
late-example : late_base 3 (least_base (read_at 4 ∷ read_at 2 ∷ [])) ≡ Some 2
late-example = refl

in_time-example : late_base 2 (least_base (read_at 4 ∷ read_at 2 ∷ [])) ≡ None
in_time-example = refl
