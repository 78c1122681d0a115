-- Watches: bodies that are run anew once a change touches what their last run observed.
use Rattle.std.specs.Prelude.{◌≡◌, ℕ, Bool, true, false, ◌||◌, List, [], ◌∷◌, ◌++◌, map, Option, if◌then◌else◌, codes, pos, refl}
use Rattle.std.specs.List.{list_any, find}
use Rattle.std.specs.Map.{lookup, remove_entry, set_value}
use Rattle.std.specs.Option.{option_map_or}
use Rattle.std.specs.BTreeMap.{is_at}
use Rattle.std.specs.Str.{bytes_eq}
use Rattle.plain_data.specs.Texts.{Bytes}
use Rattle.rdt_types.specs.declared.address.Kind.TheVariants as kind
use Rattle.rdt_types.specs.declared.address.Address.{Address}
use Rattle.rdt_types.specs.declared.delta.Delta.TheVariants as delta
use Rattle.rdt_types.specs.Addresses.{address_cmp}
use Rattle.rdt_types.specs.DeltaMaps.{Deltas, delta_at}
use Rattle.conflict_table.specs.declared.observation.Obs.TheVariants as obs
use Rattle.conflict_table.specs.Clashes.{clash}
use Rattle.txn_lang.specs.declared.checked.Checked.{Checked}
use Rattle.txn_lang.specs.declared.run.Run.{Run}
use Rattle.txn_lang.specs.declared.run.Seen.{Seen}
use Rattle.txn_lang.specs.States.{PartialState}
use Rattle.txn_lang.specs.Execution.{Ran, need, done, exec}
use Rattle.rerun_driver.specs.declared.watch.StaleWatch.{StaleWatch}
use Rattle.rerun_driver.specs.declared.watch.Watch.{Watch}
use Rattle.rerun_driver.specs.declared.rerun.Rerun.{Rerun}
use Rattle.rerun_driver.specs.declared.rerun.Rerun.TheVariants as rerun

-- the watches of a client by their names, in the order of their making
abbrev pub Watches : Type 0
Watches = List (Bytes × Watch)

-- the watch of a name, if there is one
abbrev pub watch_of : Watches → Bytes → Option Watch
watch_of watches name = lookup (bytes_eq name) watches

-- a new watch is the last
abbrev pub with_watch : Watches → Bytes → Watch → Watches
with_watch watches name watch = watches ++ (name, watch) ∷ []

-- a watch is forgotten, and the others stay in their order
abbrev pub without_watch : Watches → Bytes → Watches
without_watch watches name = remove_entry (bytes_eq name) watches

-- ---- reports

-- a watch whose first run is reported at a number
abbrev pub reported : Checked → ℕ → Run → Watch
reported body number run = record { body = body; number = number; observations = run.observations; stale = false }

-- a watch takes the report of a run: it isn't stale then
abbrev pub settled : ℕ → Run → Watch → Watch
settled number run watch = record watch { number = number; observations = run.observations; stale = false }

-- the watch of a name takes it
abbrev pub with_report : Watches → Bytes → ℕ → Run → Watches
with_report watches name number run = option_map_or (λ watch. set_value (bytes_eq name) watches (settled number run watch)) (watch_of watches name) watches

-- ---- changes

-- the change at the observed address, if there is one, clashes with the observation
abbrev pub clashes : Deltas → Seen → Bool
clashes changes seen = option_map_or (λ delta. clash seen.obs delta) (delta_at changes seen.address) false

-- changes touch what was observed where one of them clashes
abbrev pub touches : Deltas → List Seen → Bool
touches changes observations = list_any (clashes changes) observations

-- a watch is stale after changes where it was, or where they touch what its last run observed
abbrev pub told : Deltas → Watch → Watch
told changes watch = record watch { stale = watch.stale || touches changes watch.observations }

-- all watches are told
abbrev pub all_told : Deltas → Watches → Watches
all_told changes watches = map (λ entry. (entry.0, told changes entry.1)) watches

-- ---- reruns

-- the first watch that is stale
abbrev pub first_stale : Watches → Option (Bytes × Watch)
first_stale watches = find (λ entry. entry.1.stale) watches

-- names of watches, each with its body
abbrev pub Bodies : Type 0
Bodies = List (Bytes × Checked)

-- those of stale watches, as a list of these has them
abbrev pub bodies_of : List StaleWatch → Bodies
bodies_of stale = map (λ watch. (watch.name.now, watch.body.now)) stale

-- THE STALE WATCHES, in the order of their making
abbrev pub stale_of : Watches → Bodies
stale_of [] = []
stale_of (entry ∷ watches) = if entry.1.stale then (entry.0, entry.1.body) ∷ stale_of watches else stale_of watches

-- what the run of a watch comes to
abbrev pub rerun_of : Bytes → Ran → Rerun
rerun_of name (need address) = rerun.Need address
rerun_of name (done run) = rerun.Ran name run

-- the run of the first stale watch on the values of a state, or nothing where none is stale
abbrev pub next_rerun : PartialState → Watches → Rerun
next_rerun state watches = option_map_or (λ entry. rerun_of entry.0 (exec entry.1.body.body state)) (first_stale watches) rerun.NoneLeft

-- ---- addresses

-- a last run observed something at an address
abbrev pub is_observed_by : Address → List Seen → Bool
is_observed_by address observations = list_any (λ seen. is_at (address_cmp address) seen.address) observations

-- that of a watch did
abbrev pub has_observed : Address → Watch → Bool
has_observed address watch = is_observed_by address watch.observations

-- one of the last runs did
abbrev pub is_observed : Watches → Address → Bool
is_observed watches address = list_any (λ entry. has_observed address entry.1) watches

-- observations are at the addresses where others are
abbrev pub AreWhere : List Seen → List Seen → Type 0
AreWhere observations others = (address : Address) → is_observed_by address observations ≡ is_observed_by address others

-- ---- worked

-- of two watches the second alone is stale, and is listed
stale-second : (one two : Bytes) (body : Checked) (n : ℕ)
    → stale_of ((one, record { body = body; number = n; observations = []; stale = false })
    ∷ (two, record { body = body; number = n; observations = []; stale = true }) ∷ []) ≡ (two, body) ∷ []
stale-second one two body n = refl

-- the counter of a key
abbrev counter : List ℕ → Address
counter key = record { kind = kind.Counter; key = key }

-- an addition of 0 touches who observed that counter, and nobody else
touches-example : touches ((counter (codes "x"), delta.AddCounter (pos 0)) ∷ []) (record { address = counter (codes "x"); obs = obs.CounterIs } ∷ []) ≡ true
touches-example = refl

-- who observed another counter
touches-elsewhere : touches ((counter (codes "x"), delta.AddCounter (pos 0)) ∷ []) (record { address = counter (codes "y"); obs = obs.CounterIs } ∷ []) ≡ false
touches-elsewhere = refl

-- the peak of a key
abbrev peak : List ℕ → Address
peak key = record { kind = kind.Peak; key = key }

-- a raise touches who was told that the peak isn't above a number that the raise passes, and never who was told that it is
touches-below : touches ((peak (codes "x"), delta.Raise (pos 50)) ∷ []) (record { address = peak (codes "x"); obs = obs.PeakOver (pos 10) false } ∷ []) ≡ true
touches-below = refl

touches-above : touches ((peak (codes "x"), delta.Raise (pos 50)) ∷ []) (record { address = peak (codes "x"); obs = obs.PeakOver (pos 10) true } ∷ []) ≡ false
touches-above = refl

-- a run that observed nothing is never touched
touches-nothing : (changes : Deltas) → touches changes [] ≡ false
touches-nothing changes = refl
