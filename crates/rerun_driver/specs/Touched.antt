-- Which watches are touched by commits, and the law that these are the stale ones.
use Rattle.std.specs.Prelude.{◌≡◌, ℕ, ◌≤◌, Bool, true, false, ◌&&◌, List, [], ◌∷◌, fold, codes, refl}
use Rattle.std.specs.List.{list_any, AllByRecursion}
use Rattle.std.specs.BTreeMap.{is_at}
use Rattle.rdt_types.specs.declared.address.Kind.TheVariants as kind
use Rattle.rdt_types.specs.Addresses.{address_cmp}
use Rattle.rdt_types.specs.DeltaMaps.{delta_at}
use Rattle.conflict_table.specs.declared.observation.Obs.TheVariants as obs
use Rattle.conflict_table.specs.Clashes.{clash}
use Rattle.change_feed.specs.declared.change.Change.{Change}
use Rattle.change_feed.specs.Pending.{pending}
use Rattle.change_feed.specs.Feeds.{Fed, AreOfTheirKinds}
use Rattle.txn_lang.specs.declared.run.Seen.{Seen}
use Rattle.journal_core.specs.Changes.{changes, between, adding}
use Rattle.rerun_driver.specs.declared.watch.Watch.{Watch}
use Rattle.rerun_driver.specs.Watches.{told}

-- a change is at the observed address and clashes with the observation
abbrev pub meets : Seen → Change → Bool
meets seen change = is_at (address_cmp seen.address) change.address && clash seen.obs change.delta

-- Observations are touched where some commit past a number and up to another has a delta that clashes with one of them, at
-- its address.
abbrev pub is_touched : List Change → ℕ → ℕ → List Seen → Bool
is_touched all from to observations = list_any (λ seen. list_any (meets seen) (between from to all)) observations

-- ---- feeds that follow one another

-- a feed from a number on: at each observed address it has what is pending of the changes past that number up to where it goes
pub record Feeds (all : List Change) (observations : List Seen) (from : ℕ) (feed : Fed) : Type 0 where
  pub forward : from ≤ feed.to
  pub pending : AllByRecursion (λ seen. delta_at feed.changes seen.address ≡ pending seen.address (between from feed.to all)) observations

-- each feed begins where the one before it went to
abbrev pub Follow : List Change → List Seen → ℕ → List Fed → Type 0
Follow all observations from [] = Unit {0}
Follow all observations from (feed ∷ feeds) = Feeds all observations from feed × Follow all observations feed.to feeds

-- where the last of them goes to
abbrev pub reached : ℕ → List Fed → ℕ
reached from [] = from
reached from (feed ∷ feeds) = reached feed.to feeds

-- a watch after feeds, one by one
abbrev pub told_each : List Fed → Watch → Watch
told_each feeds watch = fold (λ w feed. told feed.changes w) watch feeds

-- Once a run was reported and feeds that follow one another from its number were told, a watch is stale exactly where what the
-- run observed is touched past that number, up to where the feeds went.
abbrev pub StaleIsTouched : Type 0
StaleIsTouched =
    (all : List Change) (watch : Watch) (feeds : List Fed) → AreOfTheirKinds all → watch.stale ≡ false
    → Follow all watch.observations watch.number feeds
    → (told_each feeds watch).stale ≡ is_touched all watch.number (reached watch.number feeds) watch.observations

-- ---- worked

-- who observed the counter `x` at 0 is touched by the commit that adds to it, and who observed it at 1 isn't
abbrev counter_seen : List ℕ → Seen
counter_seen key = record { address = record { kind = kind.Counter; key = key }; obs = obs.CounterIs }

touched-example : is_touched (changes (adding 1 (codes "x") ∷ adding 2 (codes "y") ∷ [])) 0 2 (counter_seen (codes "x") ∷ []) ≡ true
touched-example = refl

-- by the commit after it nobody is touched who observed it at 1
untouched-example : is_touched (changes (adding 1 (codes "x") ∷ adding 2 (codes "y") ∷ [])) 1 2 (counter_seen (codes "x") ∷ []) ≡ false
untouched-example = refl
