-- How many calls a line makes at most: each value that is read goes to the run that needs it, and each run is of one stale watch.
use Rattle.std.proofs.Common.{◌≡◌, ℕ, suc, ◌+◌, ◌*◌, ◌≤◌, ◌<◌, Bool, true, false, cond, List, [], ◌∷◌, ◌++◌, length, Option, Some, None}
use Rattle.std.proofs.Common.{refl, sym, ap, ◌∙◌, subst, arith}
use Rattle.std.specs.Map.{set_value}
use Rattle.std.specs.Ordering.{is_eq}
use Rattle.std.specs.Str.{bytes_eq}
use Rattle.plain_data.specs.Texts.{Bytes}
use Rattle.rdt_types.specs.declared.address.Address.{Address}
use Rattle.rdt_types.specs.declared.value.Value.{Value}
use Rattle.rdt_types.specs.Addresses.{address_cmp}
use Rattle.rdt_types.specs.Values.{default_of}
use Rattle.rdt_types.specs.DeltaMaps.{Deltas}
use Rattle.txn_trees.specs.declared.statement.Body.{Body}
use Rattle.txn_lang.specs.declared.limits.TheConstants.{TICK_LIMIT}
use Rattle.txn_lang.specs.declared.run.Seen.{Seen}
use Rattle.txn_lang.specs.States.{PartialState}
use Rattle.txn_lang.specs.Execution.{need, exec}
use Rattle.txn_lang.specs.Few.{AreReadInTurn, IsReadNext}
use Rattle.txn_lang.proofs.Few.{reads_are_few, same-itself, no_value}
use Rattle.txn_lang.proofs.Observed.{needs_are_missing}
use Rattle.client_cache.specs.Cached.{Cached, held, filled}
use Rattle.rerun_driver.specs.declared.watch.Watch.{Watch}
use Rattle.rerun_driver.specs.declared.rerun.Rerun.TheVariants as rerun
use Rattle.rerun_driver.specs.Watches.{Watches, watch_of, all_told, first_stale, next_rerun}
use Rattle.client_watches.specs.declared.watching.Watching.{Watching}
use Rattle.client_watches.specs.Watching.{addresses_of, observed_by}
use Rattle.client_watches.specs.Keeping.{AreDistinct}
use Rattle.client_watches.specs.Bounds.{run_calls, all_observed}
use Rattle.client_watches.proofs.Names.{same_name, name_itself}
use Rattle.client_watches.proofs.Stale.{first-among, it-needs}
use Rattle.client_watches.proofs.Values.{held-filled, at-same}

-- ---- lengths

-- one list behind another is as long as both
pub length-behind : {A : Type 0} (xs ys : List A) → length (xs ++ ys) ≡ length xs + length ys
length-behind [] ys = omega arith
length-behind (x ∷ xs) ys = let rest = length-behind xs ys in omega arith

-- each observation has one address
pub as-many : (seen : List Seen) → length (addresses_of seen) ≡ length seen
as-many [] = refl
as-many (z ∷ seen) = ap suc (as-many seen)

-- ---- what the stale watches may cost

-- a run, and what the run before it observed
abbrev pub cost_of : Watch → ℕ
cost_of watch = run_calls + length watch.observations

-- so much where a watch is stale, and else nothing
abbrev pub if_stale : Bool → ℕ → ℕ
if_stale true n = n
if_stale false n = 0

-- THE COST OF ALL THAT ARE STALE
abbrev pub cost : Watches → ℕ
cost [] = 0
cost (x ∷ ws) = if_stale x.1.stale (cost_of x.1) + cost ws

-- one is among them, and without it they cost so much less
pub record CostsLess (ws : Watches) (e : Bytes × Watch) : Type 0 where
  pub less : (v : Watch) → v.stale ≡ false → cost ws ≡ cost_of e.1 + cost (set_value (bytes_eq e.0) ws v)

-- it is the first, so its cost falls away from the front
cost-here : (x : Bytes × Watch) (ws : Watches) → x.1.stale ≡ true → CostsLess (x ∷ ws) x
cost-here x ws stale = record {
  less = λ v fresh.
      let before : cost (x ∷ ws) ≡ cost_of x.1 + cost ws = ap (λ b. if_stale b (cost_of x.1) + cost ws) stale in
      let found : cost (set_value (bytes_eq x.0) (x ∷ ws) v) ≡ cost ((x.0, v) ∷ ws) =
      ap (λ b. cost (cond b ((x.0, v) ∷ ws) (x ∷ set_value (bytes_eq x.0) ws v))) (name_itself x.0) in
      let later : cost ((x.0, v) ∷ ws) ≡ 0 + cost ws = ap (λ b. if_stale b (cost_of v) + cost ws) fresh in omega arith;
}

-- the first costs nothing, since it isn't stale, and stays where another is set
cost-behind : (x : Bytes × Watch) (ws : Watches) (e : Bytes × Watch) → x.1.stale ≡ false → bytes_eq e.0 x.0 ≡ false → CostsLess ws e
    → CostsLess (x ∷ ws) e
cost-behind x ws e fresh other is = record {
  less = λ v f.
      let before : cost (x ∷ ws) ≡ 0 + cost ws = ap (λ b. if_stale b (cost_of x.1) + cost ws) fresh in
      let less = is.less v f in
      let found : cost (set_value (bytes_eq e.0) (x ∷ ws) v) ≡ cost (x ∷ set_value (bytes_eq e.0) ws v) =
      ap (λ b. cost (cond b ((x.0, v) ∷ ws) (x ∷ set_value (bytes_eq e.0) ws v))) other in
      let later : cost (x ∷ set_value (bytes_eq e.0) ws v) ≡ 0 + cost (set_value (bytes_eq e.0) ws v) =
      ap (λ b. if_stale b (cost_of x.1) + cost (set_value (bytes_eq e.0) ws v)) fresh in omega arith;
}

-- so it is of the first of them, where names differ
pub first-costs : (ws : Watches) (e : Bytes × Watch) → AreDistinct ws → first_stale ws ≡ Some e → CostsLess ws e
first-costs [] e all h = absurd (cc)
first-costs (x ∷ ws) e all h = by x.1.stale refl h (first-costs ws e all.1)
  where
    apart : first_stale ws ≡ Some e → (b : Bool) → bytes_eq e.0 x.0 ≡ b → bytes_eq e.0 x.0 ≡ false
    apart f false is = is
    apart f true is = absurd (
        let same = same_name e.0 x.0 is in
        let none : watch_of ws e.0 ≡ None = ap (watch_of ws) same ∙ all.0 in
        let found = (first-among ws e all.1 f).found in cc)

    by : (b : Bool) → x.1.stale ≡ b → cond b (Some x) (first_stale ws) ≡ Some e → (first_stale ws ≡ Some e → CostsLess ws e) → CostsLess (x ∷ ws) e
    by true stale f rest = let same : x ≡ e = cc in subst (CostsLess (x ∷ ws)) same (cost-here x ws stale)
    by false fresh f rest = cost-behind x ws e fresh (apart f (bytes_eq e.0 x.0) refl) (rest f)

-- after a feed each is stale at most
pub told-costs : (changes : Deltas) (ws : Watches) → cost (all_told changes ws) ≤ length ws * run_calls + all_observed ws
told-costs changes [] = omega arith
told-costs changes (x ∷ ws) = by _ (told-costs changes ws)
  where
    by : (b : Bool) → cost (all_told changes ws) ≤ length ws * run_calls + all_observed ws
        → if_stale b (cost_of x.1) + cost (all_told changes ws) ≤ suc (length ws) * run_calls + (length x.1.observations + all_observed ws)
    by true rest = omega arith
    by false rest = omega arith

-- a watch's observations are some of all
pub observed-within : (ws : Watches) (name : Bytes) → length (observed_by (watch_of ws name)) ≤ all_observed ws
observed-within [] name = omega arith
observed-within (x ∷ ws) name = by (bytes_eq name x.0) (observed-within ws name)
  where
    by : (b : Bool) → length (observed_by (watch_of ws name)) ≤ all_observed ws
        → length (observed_by (cond b (Some x.1) (watch_of ws name))) ≤ length x.1.observations + all_observed ws
    by true rest = let same = as-many x.1.observations in omega arith
    by false rest = omega arith

-- ---- a run that has read so many values

-- what is needed and filled in is the next read
pub filled-next : (b : Body) (cache : Cached) (a : Address) (value : Value) → exec b (held cache) ≡ need a
    → IsReadNext b (held cache) (held (filled cache a value))
filled-next b cache a value needed = record {
  address = a;
  value = value;
  needed = needed;
  there = held-filled cache a value a ∙ ap (λ c. cond c (Some value) (held cache a)) (same-itself a);
  others = λ q v is. held-filled cache a value q ∙ by q v is (is_eq (address_cmp q a)) refl;
}
  where
    by : (q : Address) (v : Value) → held cache q ≡ Some v → (c : Bool) → is_eq (address_cmp q a) ≡ c → cond c (Some value) (held cache q) ≡ Some v
    by q v is false e = is
    by q v is true e = absurd (no_value (needs_are_missing b (held cache) a needed) (subst (λ x. held cache x ≡ Some v) (at-same q a e) is))

-- where one more is needed, they are fewer than the ticks
pub reads-left : (b : Body) (cache : Cached) (a : Address) (reads : ℕ) → exec b (held cache) ≡ need a → AreReadInTurn b reads (held cache) → reads < TICK_LIMIT
reads-left b cache a reads needed turn =
    let value = default_of a.kind in
    let few = reads_are_few b (suc reads) (held (filled cache a value)) (held cache, turn, filled-next b cache a value needed) in omega arith

-- the first stale watch has read so many values; where none is stale, none was read
abbrev pub HasRead : Option (Bytes × Watch) → ℕ → PartialState → Type 0
HasRead None reads state = reads ≡ 0
HasRead (Some e) reads state = AreReadInTurn e.1.body.body reads state

-- no value was read yet, by whichever watch is the first
pub none-read : (o : Option (Bytes × Watch)) (state : PartialState) → HasRead o 0 state
none-read None state = refl
none-read (Some e) state = tt

-- they are no more than the ticks
pub reads-few : (o : Option (Bytes × Watch)) (reads : ℕ) (state : PartialState) → HasRead o reads state → reads ≤ TICK_LIMIT
reads-few None reads state read = omega arith
reads-few (Some e) reads state read = reads_are_few e.1.body.body reads state read

-- and fewer, where one is needed still
pub rerun-reads-left : (w : Watching) (a : Address) (reads : ℕ) → next_rerun (held w.cache) w.watches ≡ rerun.Need a
    → HasRead (first_stale w.watches) reads (held w.cache) → reads < TICK_LIMIT
rerun-reads-left w a reads e read =
    let needs = it-needs (held w.cache) w.watches a e in
    reads-left needs.entry.1.body.body w.cache a reads needs.needed (subst (λ o. HasRead o reads (held w.cache)) needs.first read)

-- what is needed and filled in is the next read of that watch
pub rerun-reads-more : (w : Watching) (a : Address) (value : Value) (reads : ℕ) → next_rerun (held w.cache) w.watches ≡ rerun.Need a
    → HasRead (first_stale w.watches) reads (held w.cache) → HasRead (first_stale w.watches) (suc reads) (held (filled w.cache a value))
rerun-reads-more w a value reads e read =
    let needs = it-needs (held w.cache) w.watches a e in
    subst (λ o. HasRead o (suc reads) (held (filled w.cache a value))) (sym needs.first)
    (held w.cache, subst (λ o. HasRead o reads (held w.cache)) needs.first read, filled-next needs.entry.1.body.body w.cache a value needs.needed)

-- what was read is paid for by the cost of that watch
pub read-paid : (ws : Watches) (reads : ℕ) (state : PartialState) → AreDistinct ws → HasRead (first_stale ws) reads state → 3 * reads ≤ cost ws
read-paid ws reads state all read = by (first_stale ws) refl read
  where
    by : (o : Option (Bytes × Watch)) → first_stale ws ≡ o → HasRead o reads state → 3 * reads ≤ cost ws
    by None e h = omega arith
    by (Some e) f h =
        let few = reads_are_few e.1.body.body reads state h in
        let less = (first-costs ws e all f).less (record e.1 { stale = false }) refl in omega arith
