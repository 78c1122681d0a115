-- Whom the registry looks at next.
use Rattle.std.specs.Prelude.{◌≡◌, ℕ, ◌+◌, min, max, nat_le, nat_lt, ◌&&◌, if◌then◌else◌, refl}
use Rattle.std.specs.Coded.{Coded, code_by, coded×, coded_ℕ}
use Rattle.diamond_store.specs.declared.hand.Hand.{Hand}

-- the next client from the least to the greatest, and the least behind the greatest
abbrev pub next_of : ℕ → ℕ → ℕ → ℕ
next_of least greatest at = if nat_le least at && nat_lt at greatest then at + 1 else least

-- Where a client has taken, the hand moves on by one.
abbrev pub turned : Hand → ℕ → Hand
turned hand client = record {
  at = next_of (min hand.least client) (max hand.greatest client) hand.at;
  least = min hand.least client;
  greatest = max hand.greatest client;
}

-- a hand is stored as the tuple of its fields
abbrev pub hand_code : Coded Hand
hand_code =
    code_by (ℕ × (ℕ × ℕ)) (coded× coded_ℕ (coded× coded_ℕ coded_ℕ)) (λ h. (h.at, (h.least, h.greatest)))
    (λ t. record { at = t.0; least = t.1.0; greatest = t.1.1 }) (λ _. refl)

-- ---- worked lines

-- of the clients 2 to 4, behind 3 comes 4
next_of-example : next_of 2 4 3 ≡ 4
next_of-example = refl

-- and behind 4 comes 2
next_of-last : next_of 2 4 4 ≡ 2
next_of-last = refl
