-- The numbers that a store keeps for good: its keeper's count of faults when it was made, its settings, with how many commits it
-- was made, which nobody ran again, and its keeper's home.
use Rattle.std.specs.Prelude.{◌≡◌, ℕ, List, [], ◌∷◌, get_or, refl}
use Rattle.rdt_types.specs.declared.settings.Settings.{Settings}

-- these numbers, as the value under a lock keeps them
abbrev pub numbers_of : ℕ → ℕ → ℕ → ℕ → ℕ → ℕ → List ℕ
numbers_of faults shards window limit from home = faults ∷ shards ∷ window ∷ limit ∷ from ∷ home ∷ []

-- those of a store with these settings, when its keeper's count of faults is this
abbrev pub numbers_with : Settings → ℕ → ℕ → ℕ → List ℕ
numbers_with settings faults from home = numbers_of faults settings.shards settings.window settings.limit from home

-- the keeper's faults as the store was made
abbrev pub faults_in : List ℕ → ℕ
faults_in numbers = get_or numbers 0 0

-- how many shards it has
abbrev pub shards_in : List ℕ → ℕ
shards_in numbers = get_or numbers 1 0

-- its window
abbrev pub window_in : List ℕ → ℕ
window_in numbers = get_or numbers 2 0

-- the limit of its journal
abbrev pub limit_in : List ℕ → ℕ
limit_in numbers = get_or numbers 3 0

-- with how many commits it was made
abbrev pub from_in : List ℕ → ℕ
from_in numbers = get_or numbers 4 0

-- where what its keeper borrows is lent from
abbrev pub home_in : List ℕ → ℕ
home_in numbers = get_or numbers 5 0

-- these are the settings among the numbers
pub record HasSettings (numbers : List ℕ) (settings : Settings) : Type 0 where
  pub shards : settings.shards ≡ shards_in numbers
  pub window : settings.window ≡ window_in numbers
  pub limit : settings.limit ≡ limit_in numbers

-- of a store of 4 shards, a window of 2 and a limit of 9 the limit is 9
limit_in-example : limit_in (numbers_of 0 4 2 9 3 7) ≡ 9
limit_in-example = refl

-- of one that was made with 3 commits these are the first 3
from_in-example : from_in (numbers_of 0 4 2 9 3 7) ≡ 3
from_in-example = refl

-- and of one whose keeper borrows from 7 the home is 7
home_in-example : home_in (numbers_of 0 4 2 9 3 7) ≡ 7
home_in-example = refl
