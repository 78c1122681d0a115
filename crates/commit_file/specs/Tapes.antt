-- A disk in memory: all its moments, and the images that a crash may leave at each.
use Rattle.std.specs.Prelude.{◌≡◌, ℕ, ◌<◌, ◌≤◌, List, [], ◌∷◌, length, slice_index, slice_index_or, refl}
use Rattle.std.specs.Coded.{Coded, code_by, coded×, coded_ℕ, coded_list}
use Rattle.dio_core.specs.Disks.{Durable, DiskState, MayLeave, IsUntouched}
use Rattle.dio_core.specs.Memory.{Plan, plan_of}
use Rattle.commit_file.specs.Through.{resting}
use Rattle.commit_file.specs.declared.moment.Torn.{Torn}
use Rattle.commit_file.specs.declared.moment.Torn.TheVariants.{Old, New, Ones}

-- a crash may leave the file as it reads, and as it was synced
pub record IsCoherent (s : DiskState) : Type 0 where
  pub reads : MayLeave s.durable s.file
  pub no_shorter : s.durable.least ≤ length s.durable.synced
  pub no_longer : length s.durable.synced ≤ s.durable.greatest

-- but in these ranges, the bytes are the same
abbrev pub IsSpoilt : List (ℕ × ℕ) → List ℕ → List ℕ → Type 0
IsSpoilt ranges old new = (at : ℕ) → IsUntouched ranges at → slice_index new at ≡ slice_index old at

-- The image that is torn so: the file as it was synced, as it reads, or as it reads with other bytes in the ranges that
-- were written since, where the code puts ones.
abbrev pub IsImage : Torn → DiskState → List ℕ → Type 0
IsImage Old s image = image ≡ s.durable.synced
IsImage New s image = image ≡ s.file
IsImage Ones s image = (length image ≡ length s.file) × IsSpoilt s.durable.loose s.file image

abbrev pub durable_code : Coded Durable
durable_code =
    code_by (List ℕ × (List (ℕ × ℕ) × (ℕ × ℕ)))
    (coded× (coded_list coded_ℕ) (coded× (coded_list (coded× coded_ℕ coded_ℕ)) (coded× coded_ℕ coded_ℕ)))
    (λ d. (d.synced, (d.loose, (d.least, d.greatest))))
    (λ p. record { synced = p.0; loose = p.1.0; least = p.1.1.0; greatest = p.1.1.1 }) (λ _. refl)

abbrev pub state_code : Coded DiskState
state_code =
    code_by (List ℕ × Durable) (coded× (coded_list coded_ℕ) durable_code)
    (λ s. (s.file, s.durable)) (λ p. record { file = p.0; durable = p.1 }) (λ _. refl)

-- A disk in memory: each moment that it has had, what it is now, for each call how many moments were past as it began,
-- and which calls fail.
pub record Tape : Type 0 where
  pub past : List DiskState
  pub present : DiskState
  pub marks : List ℕ
  pub plan : Plan

abbrev pub plan_code : Coded Plan
plan_code =
    code_by (List ℕ × (ℕ × ℕ)) (coded× (coded_list coded_ℕ) (coded× coded_ℕ coded_ℕ))
    (λ p. (p.fails, (p.next, p.faults))) (λ p. record { fails = p.0; next = p.1.0; faults = p.1.1 }) (λ _. refl)

abbrev pub tape_code : Coded Tape
tape_code =
    code_by (List DiskState × (DiskState × (List ℕ × Plan)))
    (coded× (coded_list state_code) (coded× state_code (coded× (coded_list coded_ℕ) plan_code)))
    (λ t. (t.past, (t.present, (t.marks, t.plan))))
    (λ p. record { past = p.0; present = p.1.0; marks = p.1.1.0; plan = p.1.1.1 }) (λ _. refl)

-- a disk with these bytes, on which nothing is pending, before its first call
abbrev pub fresh : List ℕ → List ℕ → Tape
fresh bytes fails = record { past = []; present = resting bytes; marks = []; plan = plan_of fails }

abbrev pub durable_of : DiskState → Durable
durable_of s = s.durable

-- the moment at a mark: one that is past, or the present one
abbrev pub moment_after : List DiskState → DiskState → ℕ → DiskState
moment_after past present mark = slice_index_or past mark present

-- the mark behind some calls: that of the next, or the last
abbrev pub mark_after : List ℕ → ℕ → ℕ → ℕ
mark_after marks calls last = slice_index_or marks calls last

-- what the disk was after so many calls
abbrev pub after_calls : Tape → ℕ → DiskState
after_calls t calls = moment_after t.past t.present (mark_after t.marks calls (length t.past))
