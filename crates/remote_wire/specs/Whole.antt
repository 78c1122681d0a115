-- The whole of bytes: what is read from them, with nothing behind it, where they aren't too many.
use Rattle.std.specs.Prelude.{◌≡◌, ℕ, List, [], ◌∷◌, length, nat_lt, Option, Some, None, if◌then◌else◌, refl}
use Rattle.record_code.specs.Fields.{Reader, ◌>>=◌}
use Rattle.remote_wire.specs.declared.limits.TheConstants.{LONGEST_REQUEST}

-- what was read, where nothing is left behind it
abbrev pub with_none_behind : {A : Type 0} → A → List ℕ → Option A
with_none_behind x [] = Some x
with_none_behind x (byte ∷ rest) = None

abbrev pub ended : {A : Type 0} → A × List ℕ → Option A
ended read = with_none_behind read.0 read.1

-- what at most so many bytes are, all of them
abbrev pub whole : {A : Type 0} → ℕ → Reader A → List ℕ → Option A
whole most reader bytes = if nat_lt most (length bytes) then None else (reader bytes >>= ended)

-- 32 MiB
longest_request : LONGEST_REQUEST ≡ 33554432
longest_request = refl
