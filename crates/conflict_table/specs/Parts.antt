-- The part of a delta that is named where it clashes with an observation.
use Rattle.std.specs.Prelude.{◌≡◌, ℤ, pos, Bool, true, false, if◌then◌else◌, [], slice_get, Option, Some, None, option_map, codes, refl}
use Rattle.std.proofs.Common.{ap}
use Rattle.std.specs.Option.{option_copied, option_or}
use denote.Bor.{Bor}
use Rattle.std.specs.Bool.{then_some}
use Rattle.std.specs.FinMap as map
use Rattle.std.specs.Cmp.Lexicographic.{nat_list_cmp_total}
use Rattle.plain_data.specs.Texts.{Bytes}
use Rattle.plain_data.proofs.Overlays.{entries-empty, entries-one}
use Rattle.rdt_types.specs.declared.mark.Mark.{Mark}
use Rattle.rdt_types.specs.declared.mark.Mark.TheVariants as mark
use Rattle.rdt_types.specs.declared.operation.WriteOp.{WriteOp}
use Rattle.rdt_types.specs.declared.operation.WriteOp.TheVariants as op
use Rattle.rdt_types.specs.declared.delta.Delta.{Delta}
use Rattle.rdt_types.specs.declared.delta.Delta.TheVariants as delta
use Rattle.rdt_types.specs.Deltas.{delta_of, compose}
use Rattle.conflict_table.specs.declared.observation.Obs.{Obs}
use Rattle.conflict_table.specs.declared.observation.Obs.TheVariants as obs
use Rattle.conflict_table.specs.declared.lent.Part.{Part}
use Rattle.conflict_table.specs.declared.lent.Part.TheVariants as part
use Rattle.conflict_table.specs.Observing.{is_over}

-- a mark at an element of a set, as the operation that makes it
abbrev pub set_part : Bytes → Bool → WriteOp
set_part x true = op.SetAdd x
set_part x false = op.SetRemove x

-- a mark at a field of a hash
abbrev pub hash_part : Bytes → Mark → WriteOp
hash_part f (mark.Put text) = op.HashPut f text
hash_part f mark.Removed = op.HashRemove f

-- the put or addition of a delta that is one
abbrev pub whole_part : Delta → Option WriteOp
whole_part (delta.PutBool b) = Some (op.PutBool b)
whole_part (delta.PutCounter n) = Some (op.PutCounter n)
whole_part (delta.AddCounter n) = Some (op.AddCounter n)
whole_part (delta.PutText text) = Some (op.PutText text)
whole_part _ = None

-- the clear of a delta that clears
abbrev pub clear_part : Delta → Option WriteOp
clear_part (delta.Set d) = then_some d.cleared op.SetClear
clear_part (delta.Hash d) = then_some d.cleared op.HashClear
clear_part (delta.List d) = then_some d.cleared op.ListClear
clear_part _ = None

-- the mark at an element or a field
abbrev pub mark_part : Bytes → Delta → Option WriteOp
mark_part x (delta.Set d) = option_map (set_part x) (map.get d.marks x)
mark_part f (delta.Hash d) = option_map (hash_part f) (map.get d.marks f)
mark_part _ _ = None

-- the first mark
abbrev pub first_mark : Delta → Option WriteOp
first_mark (delta.Set d) = option_map (λ e. set_part e.0 e.1) (slice_get (map.entries d.marks) 0)
first_mark (delta.Hash d) = option_map (λ e. hash_part e.0 e.1) (slice_get (map.entries d.marks) 0)
first_mark _ = None

-- the first text that is taken out
abbrev pub first_removed : Delta → Option WriteOp
first_removed (delta.List d) = option_map (λ e. op.ListRemove e.0) (slice_get (map.entries d.removed) 0)
first_removed _ = None

-- the first item that is pushed
abbrev pub first_pushed : Delta → Option WriteOp
first_pushed (delta.List d) = option_map (λ item. op.ListPush item) (slice_get d.pushed 0)
first_pushed _ = None

-- the raise of a delta that raises a peak above a number
abbrev pub raise_part : ℤ → Delta → Option WriteOp
raise_part n (delta.Raise m) = then_some (is_over n m) (op.Raise m)
raise_part _ _ = None

-- The part of a delta that an observation of its kind clashes with, if there is one: the put or addition; the clear; else
-- the mark at the observed element or field; the first mark; the first text that is taken out; the first item pushed; the
-- raise. There is none for a peak that was above a number.
abbrev pub named : Obs → Delta → Option WriteOp
named obs.BoolIs d = whole_part d
named obs.CounterIs d = whole_part d
named obs.TextIs d = whole_part d
named (obs.SetHas x) d = option_or (clear_part d) (mark_part x d)
named obs.SetAll d = option_or (clear_part d) (first_mark d)
named (obs.HashAt f) d = option_or (clear_part d) (mark_part f d)
named obs.HashAll d = option_or (clear_part d) (first_mark d)
named (obs.ListAt i) d = option_or (clear_part d) (first_removed d)
named obs.ListAll d = option_or (option_or (clear_part d) (first_removed d)) (first_pushed d)
named (obs.PeakIs n) d = raise_part n d
named (obs.PeakOver n r) d = if r then None else raise_part n d

-- a part that is lent, as the operation that it shows
abbrev pub shown : Part → WriteOp
shown (part.PutBool b) = op.PutBool b
shown (part.PutCounter n) = op.PutCounter n
shown (part.AddCounter n) = op.AddCounter n
shown (part.PutText text) = op.PutText text.now
shown (part.SetAdd x) = op.SetAdd x.now
shown (part.SetRemove x) = op.SetRemove x.now
shown part.SetClear = op.SetClear
shown (part.HashPut f text) = op.HashPut f.now text.now
shown (part.HashRemove f) = op.HashRemove f.now
shown part.HashClear = op.HashClear
shown (part.ListPush x) = op.ListPush x.now
shown (part.ListRemove x) = op.ListRemove x.now
shown part.ListClear = op.ListClear
shown (part.Raise n) = op.Raise n

-- a clear is named before any mark
clear-before-marks : named (obs.HashAt (codes "f")) (compose (delta_of op.HashClear) (delta_of (op.HashPut (codes "f") (codes "v"))))
    ≡ Some op.HashClear
clear-before-marks = refl

-- ---- One operation: it is the part that is named, and so, by the law `clashes_have_parts`, it clashes. The operations
-- that clash with no observation of their kind are in Clashes.

-- the whole of a bool, a counter or a text
bool-put : named obs.BoolIs (delta_of (op.PutBool true)) ≡ Some (op.PutBool true)
bool-put = refl

counter-put : named obs.CounterIs (delta_of (op.PutCounter (pos 1))) ≡ Some (op.PutCounter (pos 1))
counter-put = refl

counter-added : named obs.CounterIs (delta_of (op.AddCounter (pos 0))) ≡ Some (op.AddCounter (pos 0))
counter-added = refl

text-put : named obs.TextIs (delta_of (op.PutText [])) ≡ Some (op.PutText [])
text-put = refl

-- an element
element-added : named (obs.SetHas (codes "a")) (delta_of (op.SetAdd (codes "a"))) ≡ Some (op.SetAdd (codes "a"))
element-added = ap (option_map (set_part (codes "a"))) (map.get-insert nat_list_cmp_total map.empty (codes "a") true (codes "a"))

element-removed : named (obs.SetHas (codes "a")) (delta_of (op.SetRemove (codes "a"))) ≡ Some (op.SetRemove (codes "a"))
element-removed = ap (option_map (set_part (codes "a"))) (map.get-insert nat_list_cmp_total map.empty (codes "a") false (codes "a"))

element-cleared : named (obs.SetHas (codes "a")) (delta_of op.SetClear) ≡ Some op.SetClear
element-cleared = refl

-- a set
set-added : named obs.SetAll (delta_of (op.SetAdd (codes "a"))) ≡ Some (op.SetAdd (codes "a"))
set-added = ap (λ es. option_map (λ e. set_part e.0 e.1) (slice_get es 0)) (entries-one (codes "a") true)

set-removed : named obs.SetAll (delta_of (op.SetRemove (codes "a"))) ≡ Some (op.SetRemove (codes "a"))
set-removed = ap (λ es. option_map (λ e. set_part e.0 e.1) (slice_get es 0)) (entries-one (codes "a") false)

set-cleared : named obs.SetAll (delta_of op.SetClear) ≡ Some op.SetClear
set-cleared = refl

-- a field
field-put : named (obs.HashAt (codes "f")) (delta_of (op.HashPut (codes "f") [])) ≡ Some (op.HashPut (codes "f") [])
field-put = ap (option_map (hash_part (codes "f"))) (map.get-insert nat_list_cmp_total map.empty (codes "f") (mark.Put []) (codes "f"))

field-removed : named (obs.HashAt (codes "f")) (delta_of (op.HashRemove (codes "f"))) ≡ Some (op.HashRemove (codes "f"))
field-removed = ap (option_map (hash_part (codes "f"))) (map.get-insert nat_list_cmp_total map.empty (codes "f") mark.Removed (codes "f"))

field-cleared : named (obs.HashAt (codes "f")) (delta_of op.HashClear) ≡ Some op.HashClear
field-cleared = refl

-- a hash
hash-put : named obs.HashAll (delta_of (op.HashPut (codes "f") [])) ≡ Some (op.HashPut (codes "f") [])
hash-put = ap (λ es. option_map (λ e. hash_part e.0 e.1) (slice_get es 0)) (entries-one (codes "f") (mark.Put []))

hash-removed : named obs.HashAll (delta_of (op.HashRemove (codes "f"))) ≡ Some (op.HashRemove (codes "f"))
hash-removed = ap (λ es. option_map (λ e. hash_part e.0 e.1) (slice_get es 0)) (entries-one (codes "f") mark.Removed)

hash-cleared : named obs.HashAll (delta_of op.HashClear) ≡ Some op.HashClear
hash-cleared = refl

-- a place of a list
place-removed : named (obs.ListAt 0) (delta_of (op.ListRemove (codes "p"))) ≡ Some (op.ListRemove (codes "p"))
place-removed = ap (λ es. option_map (λ e. op.ListRemove e.0) (slice_get es 0)) (entries-one (codes "p") tt)

place-cleared : named (obs.ListAt 0) (delta_of op.ListClear) ≡ Some op.ListClear
place-cleared = refl

-- a list
list-pushed : named obs.ListAll (delta_of (op.ListPush (codes "p"))) ≡ Some (op.ListPush (codes "p"))
list-pushed = ap (λ es. option_or (option_map (λ e. op.ListRemove e.0) (slice_get es 0)) (Some (op.ListPush (codes "p")))) entries-empty

list-removed : named obs.ListAll (delta_of (op.ListRemove (codes "p"))) ≡ Some (op.ListRemove (codes "p"))
list-removed = ap (λ es. option_or (option_map (λ e. op.ListRemove e.0) (slice_get es 0)) None) (entries-one (codes "p") tt)

list-cleared : named obs.ListAll (delta_of op.ListClear) ≡ Some op.ListClear
list-cleared = refl

-- a peak, and whether it is above a number
peak-raised : named (obs.PeakIs (pos 7)) (delta_of (op.Raise (pos 8))) ≡ Some (op.Raise (pos 8))
peak-raised = refl

raised-above : named (obs.PeakOver (pos 7) false) (delta_of (op.Raise (pos 8))) ≡ Some (op.Raise (pos 8))
raised-above = refl

-- of two raises the greater one is named
greater-raise : named (obs.PeakIs (pos 7)) (compose (delta_of (op.Raise (pos 9))) (delta_of (op.Raise (pos 8)))) ≡ Some (op.Raise (pos 9))
greater-raise = refl

-- the part that a mark is at its key, if there is one, which is lent
abbrev pub part_by : {K M A : Type 0} → (K → M → A) → Option (Bor (K × M)) → Option A
part_by part mark = option_map (λ e. part e.0 e.1) (option_copied mark)
