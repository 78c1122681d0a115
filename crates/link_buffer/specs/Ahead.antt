-- A link that reads ahead, and the listener that hands such links out.
use Rattle.std.specs.Prelude.{◌≡◌, ◌<◌, ◌+◌, ℕ, List, [], ◌∷◌, ◌++◌, length, take, drop, min, Option, Some, refl}
use Rattle.std.proofs.Common.{lit<}
use Rattle.dio_core.specs.declared.source.Got.{Got}
use Rattle.dio_core.specs.declared.source.Got.TheVariants as got
use Rattle.dio_core.specs.declared.line.TheConstants.{NEWLINE}
use Rattle.dio_core.specs.declared.listener.Accepted.{Accepted}
use Rattle.dio_core.specs.declared.listener.Accepted.TheVariants as accepted
use Rattle.dio_core.specs.Sources.{with_prefix, Gives}
use Rattle.dio_core.specs.Sinks.{PassesOn}
use Rattle.dio_core.specs.Listeners.{Accepts}
use Rattle.link_buffer.specs.declared.link.TheConstants.{READ_AHEAD}

READ_AHEAD-is : READ_AHEAD ≡ 4096
READ_AHEAD-is = refl

-- The bytes that were read ahead and not given yet, and the link that they were read from.
pub record Ahead (K : Type 0) : Type 0 where
  pub held : List ℕ
  pub link : K

-- What is left, where `left` is what the link below has left: what is held, and then that.
abbrev pub left_of : {K : Type 0} → (K → Option (List ℕ)) → Ahead K → Option (List ℕ)
left_of left link = with_prefix link.held (left link.link)

-- 7 is held, and the link below, here the number 8, has itself left
left_of-example : left_of (λ k. Some (k ∷ [])) (record { held = 7 ∷ []; link = 8 }) ≡ Some (7 ∷ 8 ∷ [])
left_of-example = refl

-- One read ahead, which found nothing held: what is held after it, and what the link below had left before and has after.
abbrev pub Fills : Got → List ℕ → Option (List ℕ) → Option (List ℕ) → Type 0
Fills (got.Bytes n) held old new = (0 < length held) × (old ≡ with_prefix held new)
Fills got.End held old new = (held ≡ []) × Gives got.End held old new
Fills got.Failed held old new = (held ≡ []) × (new ≡ old)

-- two bytes are read ahead
Fills-example : Fills (got.Bytes 2) (7 ∷ 8 ∷ []) (Some (7 ∷ 8 ∷ 9 ∷ [])) (Some (9 ∷ []))
Fills-example = (lit< tt, refl)

-- bytes that end in a newline, so many before it
abbrev pub EndsInNewline : List ℕ → ℕ → Type 0
EndsInNewline bytes n = (length bytes ≡ n + 1) × (bytes ≡ take n bytes ++ NEWLINE ∷ [])

-- One read of a link that holds some bytes: it gives as many of them as fit, from the first on, and doesn't ask the link below.
pub record GivesHeld {K : Type 0} (result : Got) (buffer filled : List ℕ) (old new : Ahead K) : Type 0 where
  pub n : ℕ
  pub many : n ≡ min (length old.held) (length buffer)
  pub answers : result ≡ got.Bytes n
  pub fills : filled ≡ take n old.held ++ drop n buffer
  pub rest : new ≡ record old { held = drop n old.held }

-- of two bytes held the first is given
GivesHeld-example : GivesHeld {K = ℕ} (got.Bytes 1) (0 ∷ []) (7 ∷ []) (record { held = 7 ∷ 8 ∷ []; link = 9 }) (record { held = 8 ∷ []; link = 9 })
GivesHeld-example = record { n = 1; many = refl; answers = refl; fills = refl; rest = refl }

-- the link below passes on as much as before of what it has taken, or more, where it tells that
abbrev pub PassesOnBelow : {K : Type 0} → (K → Option (List ℕ)) → (K → Option (List ℕ)) → K → K → Type 0
PassesOnBelow taken passed old new = PassesOn (taken new) (passed old) (passed new)

-- One accept, from the links that the listener below has left before it to those after it: a link that is handed out holds
-- nothing, and is over the first of them.
abbrev pub AcceptsAhead : {K : Type 0} → Accepted (Ahead K) → Option (List K) → Option (List K) → Type 0
AcceptsAhead (accepted.Link link) old new = (link.held ≡ []) × Accepts (accepted.Link link.link) old new
AcceptsAhead {K} accepted.NoMore old new = Accepts {K = K} accepted.NoMore old new
AcceptsAhead {K} accepted.Failed old new = Accepts {K = K} accepted.Failed old new

-- of two links the first is handed out, and nothing of it is read yet
AcceptsAhead-example : AcceptsAhead {K = ℕ} (accepted.Link (record { held = []; link = 7 })) (Some (7 ∷ 8 ∷ [])) (Some (8 ∷ []))
AcceptsAhead-example = (refl, refl)
