-- The own operations at an address as the one delta that they compose to.
use Rattle.std.specs.Prelude.{◌≡◌, Bool, true, false, ◌||◌, pos, List, [], ◌∷◌, fold, Option, Some, None, refl}
use Rattle.plain_data.specs.Texts.{Bytes}
use Rattle.rdt_types.specs.declared.value.Value.{Value}
use Rattle.rdt_types.specs.declared.operation.WriteOp.{WriteOp}
use Rattle.rdt_types.specs.declared.operation.WriteOp.TheVariants as op
use Rattle.rdt_types.specs.declared.delta.Delta.{Delta}
use Rattle.rdt_types.specs.declared.delta.Delta.TheVariants as delta
use Rattle.rdt_types.specs.Deltas.{delta_of, apply}
use Rattle.rdt_types.specs.DeltaMaps.{after_maybe}
use Rattle.conflict_table.specs.declared.observation.Obs.{Obs}
use Rattle.conflict_table.specs.declared.read.ReadOp.{ReadOp}
use Rattle.conflict_table.specs.declared.read.ReadOp.TheVariants as read
use Rattle.conflict_table.specs.Clashes.{clears, names, removes, raises_above}
use Rattle.conflict_table.specs.Reads.{is_negative, observed_where}

-- operations after a delta that may stand before them
abbrev pub composed_after : Option Delta → List WriteOp → Option Delta
composed_after first own = fold (λ d o. Some (after_maybe d (delta_of o))) first own

-- the delta that operations compose to, in order, or nothing where there are none
abbrev pub composed_of : List WriteOp → Option Delta
composed_of own = composed_after None own

-- the value after a delta, if there is one
abbrev pub left_by : Option Delta → Value → Value
left_by None v = v
left_by (Some d) v = apply d v

-- a test of a delta, which fails where there is none
abbrev pub if_any : (Delta → Bool) → Option Delta → Bool
if_any test None = false
if_any test (Some d) = test d

-- whether a delta puts a whole value
abbrev pub puts : Delta → Bool
puts (delta.PutBool b) = true
puts (delta.PutCounter n) = true
puts (delta.PutText t) = true
puts _ = false

-- whether a delta says all of an element or field: it clears all, or marks it
abbrev pub settles : Bytes → Delta → Bool
settles key d = clears d || names key d

-- Whether an own delta decides a read: a put decides a `get`; a clear every other read of a collection; a mark at an element
-- or field the reads of it; there is nothing at a negative place; and a raise above a number decides that a peak is above it.
abbrev pub is_decided_by : ReadOp → Option Delta → Bool
is_decided_by read.Get own = if_any puts own
is_decided_by (read.SetHas x) own = if_any (settles x) own
is_decided_by read.SetAll own = if_any clears own
is_decided_by (read.HashHas f) own = if_any (settles f) own
is_decided_by (read.HashGet f) own = if_any (settles f) own
is_decided_by read.HashFields own = if_any clears own
is_decided_by (read.ListAt i) own = is_negative i || if_any clears own
is_decided_by read.ListAll own = if_any clears own
is_decided_by (read.PeakOver n) own = if_any (raises_above n) own

-- what a read that it doesn't decide observes of the value
abbrev pub observed_by : ReadOp → Option Delta → Value → Obs
observed_by r own v = observed_where r (if_any removes own) v

-- a put and then an addition are a put, which decides a `get`
put-then-add : is_decided_by read.Get (composed_of (op.PutCounter (pos 1) ∷ op.AddCounter (pos 2) ∷ [])) ≡ true
put-then-add = refl

-- a raise above a number and then a lower one still decide that a peak is above it
raise-then-lower : is_decided_by (read.PeakOver (pos 8)) (composed_of (op.Raise (pos 9) ∷ op.Raise (pos 7) ∷ [])) ≡ true
raise-then-lower = refl
