-- By what the evaluator finds an observation among those that are listed: a key, which says as much and has an order. The
-- clauses of `Observed` in src/observed.rt, by the lemmas of proofs/FoundKept, tie it to `with_seen` of `txn_lang`.
use Rattle.std.specs.Prelude.{◌≡◌, ◌≤◌, ℕ, Bool, true, false, List, [], Option, Some, None, slice_get, codes, refl}
use Rattle.std.specs.List.{list_any}
use Rattle.std.specs.BTreeMap.{BTreeMap, get}
use Rattle.rdt_types.specs.declared.address.Kind.TheVariants as kind
use Rattle.conflict_table.specs.declared.observation.Obs.{Obs}
use Rattle.conflict_table.specs.declared.observation.Obs.TheVariants as obs
use Rattle.conflict_table.specs.Observing.{kind_observed}
use Rattle.txn_lang.specs.declared.run.Seen.{Seen}
use Rattle.txn_lang.specs.contracts.run.SeenPartialEq.TheImpl as seen_eq
use Rattle.txn_eval.specs.declared.seen_key.Part.{Part}
use Rattle.txn_eval.specs.declared.seen_key.Part.TheVariants as part
use Rattle.txn_eval.specs.declared.seen_key.SeenKey.{SeenKey}
use Rattle.txn_eval.specs.contracts.seen_key.SeenKeyOrd.TheImpl as order

-- of what in a value an observation is: what is at an element or a field, the item at a place, how high a peak is or
-- whether it is above a number, each with its answer, or all of it
abbrev pub part_of : Obs → Part
part_of (obs.SetHas x) = part.At x
part_of (obs.HashAt f) = part.At f
part_of (obs.ListAt i) = part.Place i
part_of (obs.PeakIs n) = part.Peak n
part_of (obs.PeakOver n r) = part.Over n r
part_of obs.BoolIs = part.Whole
part_of obs.CounterIs = part.Whole
part_of obs.TextIs = part.Whole
part_of obs.SetAll = part.Whole
part_of obs.HashAll = part.Whole
part_of obs.ListAll = part.Whole

-- the kind of the value is that of the observation, and so nothing of it is left out
abbrev pub key_of : Seen → SeenKey
key_of seen = record { address = seen.address; kind = kind_observed seen.obs; part = part_of seen.obs }

-- whether an observation is listed
abbrev pub is_listed : Seen → List Seen → Bool
is_listed s xs = list_any (λ t. seen_eq.ghosts.eq t s) xs

-- the place that is kept with a key
abbrev pub place_kept : BTreeMap SeenKey ℕ → SeenKey → Option ℕ
place_kept places key = get order.ghosts.cmp places key

-- whether this stands at a place: nothing does past the end
abbrev pub is_it : Option Seen → Seen → Bool
is_it None s = false
is_it (Some t) s = seen_eq.ghosts.eq t s

abbrev pub stands : Option ℕ → List Seen → Seen → Bool
stands None xs s = false
stands (Some i) xs s = is_it (slice_get xs i) s

-- Of each observation from a place on, that place is kept. What is kept besides is of no observation that is listed.
abbrev pub AreFound : ℕ → BTreeMap SeenKey ℕ → List Seen → Type 0
AreFound from places seen = (i : ℕ) (t s : Seen) → from ≤ i → slice_get seen i ≡ Some t → seen_eq.ghosts.eq t s ≡ true → place_kept places (key_of s) ≡ Some i

-- where fewer are listed nothing is kept
AreFound-example : (places : BTreeMap SeenKey ℕ) → AreFound 0 places []
AreFound-example places i t s from is same = absurd (cc)

-- whether the element `x` is in the set `k`
key_of-example : key_of (record { address = record { kind = kind.Set; key = codes "k" }; obs = obs.SetHas (codes "x") })
    ≡ record { address = record { kind = kind.Set; key = codes "k" }; kind = kind.Set; part = part.At (codes "x") }
key_of-example = refl
