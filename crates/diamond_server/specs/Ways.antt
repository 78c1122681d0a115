-- Ways to serve the link of a new client: what is promised of the link, that this stays so where the client learns more, and that it
-- tells a fault of the store.
use Rattle.std.specs.Prelude.{◌≡◌, ℕ, ◌≤◌}
use mathlib.Core.List.{IsPrefix}
use Rattle.dio_core.specs.Links.{Both}
use Rattle.txn_lang.specs.Journals.{IsLegal, own}
use Rattle.docc_prepare.specs.Calls.{Known, Call, Answer}
use Rattle.diamond_store.specs.Passes.{Passed, known_of}
use Rattle.diamond_server.specs.Promises.{TellsStoreFault}

-- WHAT IS PROMISED OF A LINK THAT IS SERVED, in whatever way: by what its client knew as it joined, at its session's end, and later;
-- by the status; and from both sides of the link as they were to both as they are.
abbrev pub Promising : Type 1
Promising = Known → Known → Known → ℕ → Both → Both → Type 0

-- Any call and answer at all. What is said of steps over what a client knows, in place of a backend, asks no more than the clause of
-- every backend.
abbrev pub AnyStep : Known → Call → Answer → Known → Type 0
AnyStep k c a l = Unit {0}

-- a client that has met what another knows
abbrev pub having_met : Passed → Passed → Passed
having_met other p = record p { journal = other.journal; denials = other.denials }

-- Another knows all that a client knows, and of no commits of the client's besides.
pub record KnowsMore (p other : Passed) : Type 0 where
  pub grows : IsPrefix p.journal other.journal
  pub legal : IsLegal p.trusted other.journal
  pub same_own : own p.client other.journal ≡ own p.client p.journal
  pub denials : p.denials ≤ other.denials

-- A law of a way to serve links: what is promised by what the client knew at its session's end is so by what it knows once it has
-- met another.
abbrev pub StaysPromised : Promising → Type 0
StaysPromised Promised = (first last other : Passed) (status : ℕ) (x y : Both)
    → Promised (known_of first) (known_of last) (known_of last) status x y → KnowsMore last other
    → Promised (known_of first) (known_of last) (known_of (having_met other last)) status x y

-- Another law: whatever is promised, a fault of the store is told.
abbrev pub TellsFaults : Promising → Type 0
TellsFaults Promised = (k l m : Known) (status : ℕ) (x y : Both) → Promised k l m status x y → TellsStoreFault k l status
