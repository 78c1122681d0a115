-- What a connection does to the bytes that are to come and to those that were sent, or None where it doesn't tell.
use Rattle.std.specs.Prelude.{◌≡◌, ℕ, ◌≤◌, Bool, true, false, List, [], length, take, Option, Some, IfSome, IsTrue, Result, Ok, Err, refl}
use Rattle.dio_core.specs.Sources.{with_prefix}
use Rattle.dio_core.specs.Sinks.{with_more}
use Rattle.dio_core.specs.Links.{Incoming, Outgoing}

-- So many bytes are received, the next that were to come, or none since none was; a fault changes nothing.
abbrev pub Receives : {E : Type 0} → Result ℕ E → List ℕ → Option (List ℕ) → Option (List ℕ) → Type 0
Receives (Ok n) buffer old new = (n ≤ length buffer) × (old ≡ with_prefix (take n buffer) new) × (n ≡ 0 → IfSome old (λ bytes. bytes ≡ []))
Receives (Err e) buffer old new = new ≡ old

-- So many bytes are sent, from the first on; a fault changes nothing.
abbrev pub Sends : {E : Type 0} → Result ℕ E → List ℕ → Option (List ℕ) → Option (List ℕ) → Type 0
Sends (Ok n) bytes old new = (n ≤ length bytes) × (new ≡ with_more old (take n bytes))
Sends (Err e) bytes old new = new ≡ old

-- a connection, or what it was when it was closed
abbrev pub last_of : {C S : Type 0} → (S → C) → Result C S → C
last_of value (Ok connection) = connection
last_of value (Err closed) = value closed

-- there is no connection any more
abbrev pub has_ended : {C S : Type 0} → Result C S → Bool
has_ended (Ok connection) = false
has_ended (Err closed) = true

-- A connection that is let go of has ended its sending, where it tells.
abbrev pub ShutAtEnd : Bool → Option Bool → Type 0
ShutAtEnd true is_shut = IfSome is_shut IsTrue
ShutAtEnd false is_shut = Unit {0}

-- a connection that was let go of after it was shut
ShutAtEnd-example : ShutAtEnd true (Some true)
ShutAtEnd-example = refl

-- A link over a connection.
pub record Linked : Type 0 where
  pub inwards : Incoming
  pub outwards : Outgoing
  pub passed : Option (List ℕ)  -- of the bytes sent those that the connection keeps back no more, or None where it doesn't tell
  pub is_shut : Option Bool  -- whether its sending has ended, or None
  pub ended : Bool  -- whether the connection is closed
