-- A read in a body that may have written to the same address before.
use Rattle.std.specs.Prelude.{◌≡◌, Bool, true, false, not, ◌&&◌, ◌||◌, if◌then◌else◌, nat_lt, List, [], ◌∷◌, fold, length, slice_get, ℤ, pos}
use Rattle.std.specs.Prelude.{negsuc, codes, refl}
use Rattle.std.specs.Option.{unwrap_or}
use Rattle.std.specs.List.{list_any}
use Rattle.std.specs.Ordering.{eq_by_cmp}
use Rattle.std.specs.FinMap as map
use Rattle.plain_data.specs.Texts.{Bytes, text_cmp, has_text}
use Rattle.rdt_types.specs.declared.value.Value.{Value}
use Rattle.rdt_types.specs.declared.value.Value.TheVariants as value
use Rattle.rdt_types.specs.declared.operation.WriteOp.{WriteOp}
use Rattle.rdt_types.specs.declared.operation.WriteOp.TheVariants as op
use Rattle.rdt_types.specs.declared.outcome.Item.{Item}
use Rattle.rdt_types.specs.declared.outcome.Item.TheVariants as item
use Rattle.rdt_types.specs.Values.{write, set_in, hash_in, list_in, peak_in}
use Rattle.conflict_table.specs.declared.observation.Obs.{Obs}
use Rattle.conflict_table.specs.declared.observation.Obs.TheVariants as obs
use Rattle.conflict_table.specs.declared.read.ReadOp.{ReadOp}
use Rattle.conflict_table.specs.declared.read.ReadOp.TheVariants as read
use Rattle.conflict_table.specs.Observing.{is_over}

-- the value after operations in order
abbrev pub replay : List WriteOp → Value → Value
replay own v = fold (λ v w. write w v) v own

-- whether an operation puts a whole value
abbrev pub is_put : WriteOp → Bool
is_put (op.PutBool b) = true
is_put (op.PutCounter n) = true
is_put (op.PutText t) = true
is_put _ = false

-- whether an operation clears
abbrev pub is_clear : WriteOp → Bool
is_clear op.SetClear = true
is_clear op.HashClear = true
is_clear op.ListClear = true
is_clear _ = false

-- whether an operation has a text as its element or field
abbrev pub names : Bytes → WriteOp → Bool
names x (op.SetAdd y) = eq_by_cmp text_cmp x y
names x (op.SetRemove y) = eq_by_cmp text_cmp x y
names f (op.HashPut g t) = eq_by_cmp text_cmp f g
names f (op.HashRemove g) = eq_by_cmp text_cmp f g
names _ _ = false

-- whether an operation takes items out of a list
abbrev pub is_list_remove : WriteOp → Bool
is_list_remove (op.ListRemove x) = true
is_list_remove _ = false

-- whether an operation raises a peak above a number
abbrev pub raises_above : ℤ → WriteOp → Bool
raises_above n (op.Raise m) = is_over n m
raises_above _ _ = false

-- the item at a place, or an empty one outside the list, a negative place included
abbrev pub item_at : ℤ → List Bytes → Bytes
item_at (pos i) items = unwrap_or (slice_get items i) []
item_at (negsuc i) items = []

-- the whole of a bool, a counter, a text or a peak; of a collection, which no `get` meets, an empty text
abbrev pub whole : Value → Item
whole (value.Bool b) = item.Bool b
whole (value.Counter n) = item.Int n
whole (value.Text t) = item.Text t
whole (value.Set s) = item.Text []
whole (value.Hash m) = item.Text []
whole (value.List items) = item.Text []
whole (value.Peak n) = item.Int n

-- what a read answers of a value
abbrev pub answer : ReadOp → Value → Item
answer read.Get v = whole v
answer (read.SetHas x) v = item.Bool (has_text (set_in v) x)
answer read.SetAll v = item.Texts (map.keys (set_in v))
answer (read.HashHas f) v = item.Bool (map.contains_key (hash_in v) f)
answer (read.HashGet f) v = item.Text (unwrap_or (map.get (hash_in v) f) [])
answer read.HashFields v = item.Texts (map.keys (hash_in v))
answer (read.ListAt i) v = item.Text (item_at i (list_in v))
answer read.ListAll v = item.Texts (list_in v)
answer (read.PeakOver n) v = item.Bool (is_over n (peak_in v))

-- whether a place is before the first
abbrev pub is_negative : ℤ → Bool
is_negative (pos i) = false
is_negative (negsuc i) = true

-- Whether the body's own operations at the address decide the read, so that no value is needed and nothing is observed: a
-- put decides a `get`; a clear decides every other read of a collection; an operation that names an element or field
-- decides the reads of it; there is nothing at a negative place; and a raise above a number decides that a peak is above it.
abbrev pub is_decided : ReadOp → List WriteOp → Bool
is_decided read.Get own = list_any is_put own
is_decided (read.SetHas x) own = list_any is_clear own || list_any (names x) own
is_decided read.SetAll own = list_any is_clear own
is_decided (read.HashHas f) own = list_any is_clear own || list_any (names f) own
is_decided (read.HashGet f) own = list_any is_clear own || list_any (names f) own
is_decided read.HashFields own = list_any is_clear own
is_decided (read.ListAt i) own = is_negative i || list_any is_clear own
is_decided read.ListAll own = list_any is_clear own
is_decided (read.PeakOver n) own = list_any (raises_above n) own

-- the whole of a bool, a counter, a text or a peak, as it is observed; of a collection, which no `get` meets, a counter
abbrev pub whole_observed : Value → Obs
whole_observed (value.Bool b) = obs.BoolIs
whole_observed (value.Counter n) = obs.CounterIs
whole_observed (value.Text t) = obs.TextIs
whole_observed (value.Set s) = obs.CounterIs
whole_observed (value.Hash m) = obs.CounterIs
whole_observed (value.List items) = obs.CounterIs
whole_observed (value.Peak n) = obs.PeakIs n

-- A place of a list that is observed: the place alone where no own operation takes items out and the place is within the
-- value, and else the whole list, since its length counts.
abbrev pub place_observed : ℤ → Bool → List Bytes → Obs
place_observed (pos i) takes_out items = if not takes_out && nat_lt i (length items) then obs.ListAt i else obs.ListAll
place_observed (negsuc i) takes_out items = obs.ListAll

-- what a read observes of the value, where own operations take items out of a list or don't
abbrev pub observed_where : ReadOp → Bool → Value → Obs
observed_where read.Get takes_out v = whole_observed v
observed_where (read.SetHas x) takes_out v = obs.SetHas x
observed_where read.SetAll takes_out v = obs.SetAll
observed_where (read.HashHas f) takes_out v = obs.HashAt f
observed_where (read.HashGet f) takes_out v = obs.HashAt f
observed_where read.HashFields takes_out v = obs.HashAll
observed_where (read.ListAt i) takes_out v = place_observed i takes_out (list_in v)
observed_where read.ListAll takes_out v = obs.ListAll
observed_where (read.PeakOver n) takes_out v = obs.PeakOver n (is_over n (peak_in v))

-- what a read that own operations don't decide observes of the value
abbrev pub observed : ReadOp → List WriteOp → Value → Obs
observed r own v = observed_where r (list_any is_list_remove own) v

-- a put decides a `get`, and an addition doesn't
put-decides : is_decided read.Get (op.AddCounter (pos 1) ∷ op.PutCounter (pos 2) ∷ []) ≡ true
put-decides = refl

addition-doesnt-decide : is_decided read.Get (op.AddCounter (pos 1) ∷ []) ≡ false
addition-doesnt-decide = refl

-- an addition of an element decides whether it is there, and no other element
addition-names : is_decided (read.SetHas (codes "a")) (op.SetAdd (codes "a") ∷ []) ≡ true
addition-names = refl

addition-names-no-other : is_decided (read.SetHas (codes "b")) (op.SetAdd (codes "a") ∷ []) ≡ false
addition-names-no-other = refl

-- past the end of the value a place observes the whole list
past-the-end : observed (read.ListAt (pos 1)) [] (value.List (codes "a" ∷ [])) ≡ obs.ListAll
past-the-end = refl

-- a raise doesn't decide a `get`, which observes the peak without it
raise-doesnt-decide : is_decided read.Get (op.Raise (pos 9) ∷ []) ≡ false
raise-doesnt-decide = refl

peak-without-own : observed read.Get (op.Raise (pos 9) ∷ []) (value.Peak (pos 3)) ≡ obs.PeakIs (pos 3)
peak-without-own = refl

-- a raise above a number decides that a peak is above it, and one to that number doesn't
raise-decides : is_decided (read.PeakOver (pos 8)) (op.Raise (pos 7) ∷ op.Raise (pos 9) ∷ []) ≡ true
raise-decides = refl

raise-to-it-doesnt-decide : is_decided (read.PeakOver (pos 9)) (op.Raise (pos 9) ∷ []) ≡ false
raise-to-it-doesnt-decide = refl

-- else what is observed carries the answer
over-observed : observed (read.PeakOver (pos 2)) [] (value.Peak (pos 3)) ≡ obs.PeakOver (pos 2) true
over-observed = refl

not-over-observed : observed (read.PeakOver (pos 3)) [] (value.Peak (pos 3)) ≡ obs.PeakOver (pos 3) false
not-over-observed = refl
