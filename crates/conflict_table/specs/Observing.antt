-- Observations: what a read has seen of a value.
use Rattle.std.specs.Prelude.{◌≡◌, ◌<◌, ℤ, pos, negsuc, Bool, true, false, [], ◌∷◌, length, slice_get, int_lt, Some, None, is_some, codes, refl}
use Rattle.std.proofs.Common.{ap, ◌∙◌}
use Rattle.std.specs.FinMap as map
use Rattle.std.specs.Cmp.Lexicographic.{nat_list_cmp_total}
use Rattle.plain_data.specs.Texts.{text_cmp, has_text}
use Rattle.rdt_types.specs.declared.address.Kind.{Kind}
use Rattle.rdt_types.specs.declared.address.Kind.TheVariants as kind
use Rattle.rdt_types.specs.declared.value.Value.{Value}
use Rattle.rdt_types.specs.declared.value.Value.TheVariants as value
use Rattle.rdt_types.specs.declared.operation.WriteOp.TheVariants as op
use Rattle.rdt_types.specs.declared.delta.Delta.TheVariants as delta
use Rattle.rdt_types.specs.Values.{bool_in, counter_in, text_in, set_in, hash_in, list_in, peak_in, default_of, write}
use Rattle.rdt_types.specs.Deltas.{apply}
use Rattle.conflict_table.specs.declared.observation.Obs.{Obs}
use Rattle.conflict_table.specs.declared.observation.Obs.TheVariants as obs
use Rattle.conflict_table.specs.declared.answer.Answer.{Answer}
use Rattle.conflict_table.specs.declared.answer.Answer.TheVariants as answer

-- the kind of the values that an observation is made of
abbrev pub kind_observed : Obs → Kind
kind_observed obs.BoolIs = kind.Bool
kind_observed obs.CounterIs = kind.Counter
kind_observed obs.TextIs = kind.Text
kind_observed (obs.SetHas x) = kind.Set
kind_observed obs.SetAll = kind.Set
kind_observed (obs.HashAt f) = kind.Hash
kind_observed obs.HashAll = kind.Hash
kind_observed (obs.ListAt i) = kind.List
kind_observed obs.ListAll = kind.List
kind_observed (obs.PeakIs n) = kind.Peak
kind_observed (obs.PeakOver n r) = kind.Peak

-- whether the second of two numbers is above the first
abbrev pub is_over : ℤ → ℤ → Bool
is_over n v = int_lt n v

-- What an observation answers of a value: of an element whether it is in the set, of a field the text that stands there,
-- if any, of a place the item, if any, of a number whether the peak is above it, and else the whole value.
abbrev pub observe : Obs → Value → Answer
observe obs.BoolIs v = answer.Bool (bool_in v)
observe obs.CounterIs v = answer.Counter (counter_in v)
observe obs.TextIs v = answer.Text (text_in v)
observe (obs.SetHas x) v = answer.Bool (has_text (set_in v) x)
observe obs.SetAll v = answer.Set (set_in v)
observe (obs.HashAt f) v = answer.Maybe (map.get (hash_in v) f)
observe obs.HashAll v = answer.Hash (hash_in v)
observe (obs.ListAt i) v = answer.Maybe (slice_get (list_in v) i)
observe obs.ListAll v = answer.List (list_in v)
observe (obs.PeakIs n) v = answer.Peak (peak_in v)
observe (obs.PeakOver n r) v = answer.Bool (is_over n (peak_in v))

-- Whether a value fits an observation. A place is observed only within the list, and an observation of a peak carries its
-- answer, so that only a peak which answers this fits; all else can be observed of every value of its kind.
abbrev pub IsWithin : Obs → Value → Type 0
IsWithin (obs.ListAt i) v = i < length (list_in v)
IsWithin (obs.PeakIs n) v = peak_in v ≡ n
IsWithin (obs.PeakOver n r) v = is_over n (peak_in v) ≡ r
IsWithin _ v = Unit {0}

-- the first of two items, and nothing behind them
first-item : observe (obs.ListAt 0) (value.List (codes "p" ∷ codes "q" ∷ [])) ≡ answer.Maybe (Some (codes "p"))
first-item = refl

no-third-item : observe (obs.ListAt 2) (value.List (codes "p" ∷ codes "q" ∷ [])) ≡ answer.Maybe None
no-third-item = refl

-- a peak is above what is less than it, and not above its own height
peak-over-less : observe (obs.PeakOver (negsuc 0) true) (value.Peak (pos 0)) ≡ answer.Bool true
peak-over-less = refl

peak-not-over-itself : observe (obs.PeakOver (pos 7) false) (value.Peak (pos 7)) ≡ answer.Bool false
peak-not-over-itself = refl

-- a peak of 7 fits that it is 7, that it isn't above 7, and that it is above 6
peak-fits : IsWithin (obs.PeakIs (pos 7)) (value.Peak (pos 7))
peak-fits = refl

peak-fits-not-over : IsWithin (obs.PeakOver (pos 7) false) (value.Peak (pos 7))
peak-fits-not-over = refl

peak-fits-over : IsWithin (obs.PeakOver (pos 6) true) (value.Peak (pos 7))
peak-fits-over = refl

-- ---- after one operation on what an address that was never written holds

bool-put : observe obs.BoolIs (write (op.PutBool true) (default_of kind.Bool)) ≡ answer.Bool true
bool-put = refl

-- an element that was added is there, and no other
element-added : observe (obs.SetHas (codes "a")) (write (op.SetAdd (codes "a")) (default_of kind.Set)) ≡ answer.Bool true
element-added = ap (λ o. answer.Bool (is_some o)) (map.get-insert nat_list_cmp_total map.empty (codes "a") tt (codes "a"))

other-added : observe (obs.SetHas (codes "a")) (write (op.SetAdd (codes "b")) (default_of kind.Set)) ≡ answer.Bool false
other-added = ap (λ o. answer.Bool (is_some o)) (map.get-insert nat_list_cmp_total map.empty (codes "b") tt (codes "a") ∙ map.get-empty text_cmp (codes "a"))

-- a field that was put has its text, and no other has any
field-put : observe (obs.HashAt (codes "f")) (write (op.HashPut (codes "f") []) (default_of kind.Hash)) ≡ answer.Maybe (Some [])
field-put = ap answer.Maybe (map.get-insert nat_list_cmp_total map.empty (codes "f") [] (codes "f"))

other-put : observe (obs.HashAt (codes "f")) (write (op.HashPut (codes "g") []) (default_of kind.Hash)) ≡ answer.Maybe None
other-put = ap answer.Maybe (map.get-insert nat_list_cmp_total map.empty (codes "g") [] (codes "f") ∙ map.get-empty text_cmp (codes "f"))

list-cleared : observe obs.ListAll (write op.ListClear (default_of kind.List)) ≡ answer.List []
list-cleared = refl

-- an addition of 0 leaves a counter as it was
addition-of-0 : observe obs.CounterIs (apply (delta.AddCounter (pos 0)) (value.Counter (pos 7))) ≡ answer.Counter (pos 7)
addition-of-0 = refl

-- a raise lifts a peak, and one that is lower leaves it as it was
raise-lifts : observe (obs.PeakIs (pos 0)) (write (op.Raise (pos 5)) (default_of kind.Peak)) ≡ answer.Peak (pos 5)
raise-lifts = refl

lower-raise : observe (obs.PeakIs (pos 0)) (write (op.Raise (negsuc 4)) (default_of kind.Peak)) ≡ answer.Peak (pos 0)
lower-raise = refl
