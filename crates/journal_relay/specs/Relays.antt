-- What a relay has of a journal.
use Rattle.std.specs.Prelude.{◌≡◌, ℕ, ◌≤◌, List, [], ◌∷◌, ◌++◌, length, codes, refl}
use Rattle.std.specs.Coded.{Coded, code_by, coded×, coded_list, coded_ℕ}
use mathlib.Core.List.{IsPrefix}
use Rattle.change_feed.specs.declared.change.Change.{Change}
use Rattle.change_feed.specs.declared.tail.Tail.{Tail}
use Rattle.txn_lang.specs.States.{Journal}
use Rattle.journal_core.specs.Changes.{changes, up_to, between, adding}
use Rattle.journal_core.specs.Pairs.{AreNumbered}
use Rattle.journal_core.specs.Tails.{HasAll}

-- of how many commits it has the changes, and these
pub record Relayed : Type 0 where
  pub to : ℕ
  pub changes : List Change

-- it is stored as the pair of its fields
abbrev pub relayed_code : Coded Change → Coded Relayed
relayed_code change =
    code_by (ℕ × List Change) (coded× coded_ℕ (coded_list change)) (λ r. (r.to, r.changes)) (λ p. record { to = p.0; changes = p.1 }) (λ _. refl)

-- The relay stands for a journal: its changes are those of the journal's first commits, as many as its number says.
pub record Relays (journal : Journal) (relay : Relayed) : Type 0 where
  pub reached : relay.to ≤ length journal
  pub exact : relay.changes ≡ up_to relay.to (changes journal)

-- one that has followed nothing
abbrev pub begun : Relayed
begun = record { to = 0; changes = [] }

-- one that has followed a tail besides
abbrev pub followed : Relayed → Tail → Relayed
followed relay tail = record { to = tail.to; changes = relay.changes ++ tail.changes }

-- The tail is what comes next of a journal for a relay.
pub record IsNextOf (journal : Journal) (relay : Relayed) (tail : Tail) : Type 0 where
  pub reached : tail.to ≤ length journal
  pub next : HasAll relay.to tail.to (between relay.to tail.to (changes journal)) tail

-- What a relay stands for stays: a journal's first commits are those of each journal that it begins.
abbrev pub RelaysStay : Type 0
RelaysStay = (journal later : Journal) (relay : Relayed) → AreNumbered later → IsPrefix journal later → Relays journal relay → Relays later relay

-- Who follows what comes next of a journal stands for it.
abbrev pub RelaysFollow : Type 0
RelaysFollow =
    (journal : Journal) (relay : Relayed) (tail : Tail) → AreNumbered journal → Relays journal relay → IsNextOf journal relay tail
    → Relays journal (followed relay tail)

-- ---- worked lines

-- of three commits, what a relay has that reached the second
relays-example : up_to 2 (changes (adding 1 (codes "x") ∷ adding 2 (codes "y") ∷ adding 3 (codes "x") ∷ []))
    ≡ changes (adding 1 (codes "x") ∷ adding 2 (codes "y") ∷ [])
relays-example = refl
