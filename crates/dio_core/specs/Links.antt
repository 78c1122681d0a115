-- What an object tells that may be a source and a sink at once. No read changes what it tells as a sink, and no write
-- changes what it tells as a source.
use Rattle.std.specs.Prelude.{ℕ, List, Option, None}

-- An object as a sink.
pub record Outgoing : Type 0 where
  pub taken : Option (List ℕ)  -- the bytes taken, or None where they aren't told
  pub passed : Option (List ℕ)  -- of these the bytes passed on, or None
  pub faults : ℕ  -- how many writes and flushes have failed

-- a sink that tells this
abbrev pub outgoing : Option (List ℕ) → Option (List ℕ) → ℕ → Outgoing
outgoing taken passed faults = record { taken = taken; passed = passed; faults = faults }

-- an object that is no sink
abbrev pub no_sink : Outgoing
no_sink = outgoing None None 0

-- An object as a source.
pub record Incoming : Type 0 where
  pub left : Option (List ℕ)  -- the bytes left, or None where they aren't told
  pub faults : ℕ  -- how many reads have failed

-- a source that tells this
abbrev pub incoming : Option (List ℕ) → ℕ → Incoming
incoming left faults = record { left = left; faults = faults }

-- an object that is no source
abbrev pub no_source : Incoming
no_source = incoming None 0

-- An object that is both.
pub record Both : Type 0 where
  pub inwards : Incoming
  pub outwards : Outgoing
