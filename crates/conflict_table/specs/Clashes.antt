-- The table of clashes: which deltas may change what an observation answers.
use Rattle.std.specs.Prelude.{◌≡◌, ℤ, pos, negsuc, Bool, true, false, not, ◌&&◌, ◌||◌, [], length, nat_eq, is_some, codes, refl}
use Rattle.std.proofs.Common.{ap, ◌∙◌}
use Rattle.std.specs.FinMap as map
use Rattle.std.specs.Cmp.Lexicographic.{nat_list_cmp_total}
use Rattle.plain_data.specs.Texts.{Bytes, MapOf, text_cmp}
use Rattle.rdt_types.specs.declared.operation.WriteOp.TheVariants as op
use Rattle.rdt_types.specs.declared.delta.Delta.{Delta}
use Rattle.rdt_types.specs.declared.delta.Delta.TheVariants as delta
use Rattle.rdt_types.specs.declared.mark.Mark.TheVariants as mark
use Rattle.rdt_types.specs.Deltas.{delta_of}
use Rattle.conflict_table.specs.declared.observation.Obs.{Obs}
use Rattle.conflict_table.specs.declared.observation.Obs.TheVariants as obs
use Rattle.conflict_table.specs.Observing.{is_over}

-- whether a map has a key at all
abbrev pub has_some : {V : Type 0} → MapOf V → Bool
has_some m = not (nat_eq (map.len m) 0)

-- whether a delta clears
abbrev pub clears : Delta → Bool
clears (delta.Set d) = d.cleared
clears (delta.Hash d) = d.cleared
clears (delta.List d) = d.cleared
clears _ = false

-- whether it has a mark at an element or a field
abbrev pub names : Bytes → Delta → Bool
names x (delta.Set d) = map.contains_key d.marks x
names f (delta.Hash d) = map.contains_key d.marks f
names _ _ = false

-- whether it has a mark at all
abbrev pub names_some : Delta → Bool
names_some (delta.Set d) = has_some d.marks
names_some (delta.Hash d) = has_some d.marks
names_some _ = false

-- whether it takes items out
abbrev pub removes : Delta → Bool
removes (delta.List d) = has_some d.removed
removes _ = false

-- whether it pushes items
abbrev pub pushes : Delta → Bool
pushes (delta.List d) = not (nat_eq (length d.pushed) 0)
pushes _ = false

-- whether it raises a peak above a number
abbrev pub raises_above : ℤ → Delta → Bool
raises_above n (delta.Raise m) = is_over n m
raises_above _ _ = false

-- The table, of an observation and a delta of one kind, with one line a row. The whole of a bool, a counter or a text
-- clashes with every delta. What is done at other elements or fields is no clash beside one, and what is pushed at the end
-- is none beside a place within the list. A raise is a clash only where it goes above what was observed, and nothing
-- clashes with a peak that was above a number: no raise makes it less.
abbrev pub clash : Obs → Delta → Bool
clash obs.BoolIs d = true
clash obs.CounterIs d = true
clash obs.TextIs d = true
clash (obs.SetHas x) d = clears d || names x d
clash obs.SetAll d = clears d || names_some d
clash (obs.HashAt f) d = clears d || names f d
clash obs.HashAll d = clears d || names_some d
clash (obs.ListAt i) d = clears d || removes d
clash obs.ListAll d = clears d || removes d || pushes d
clash (obs.PeakIs n) d = raises_above n d
clash (obs.PeakOver n r) d = not r && raises_above n d

-- another's element is added beside an observed one, and a clear takes both
other-element : clash (obs.SetHas (codes "a")) (delta_of (op.SetAdd (codes "b"))) ≡ false
other-element = ap is_some (map.get-insert nat_list_cmp_total map.empty (codes "b") true (codes "a") ∙ map.get-empty text_cmp (codes "a"))

other-element-removed : clash (obs.SetHas (codes "a")) (delta_of (op.SetRemove (codes "b"))) ≡ false
other-element-removed = ap is_some (map.get-insert nat_list_cmp_total map.empty (codes "b") false (codes "a") ∙ map.get-empty text_cmp (codes "a"))

cleared-element : clash (obs.SetHas (codes "a")) (delta_of op.SetClear) ≡ true
cleared-element = refl

-- so it is with fields
other-field : clash (obs.HashAt (codes "f")) (delta_of (op.HashPut (codes "g") [])) ≡ false
other-field = ap is_some (map.get-insert nat_list_cmp_total map.empty (codes "g") (mark.Put []) (codes "f") ∙ map.get-empty text_cmp (codes "f"))

other-field-removed : clash (obs.HashAt (codes "f")) (delta_of (op.HashRemove (codes "g"))) ≡ false
other-field-removed = ap is_some (map.get-insert nat_list_cmp_total map.empty (codes "g") mark.Removed (codes "f") ∙ map.get-empty text_cmp (codes "f"))

-- a push leaves the items before it where they are
push-behind-a-place : clash (obs.ListAt 0) (delta_of (op.ListPush (codes "p"))) ≡ false
push-behind-a-place = ap (λ n. not (nat_eq n 0)) (map.len-empty text_cmp (Unit {0}))

-- an addition of 0 is a change of the counter too
addition-of-nothing : clash obs.CounterIs (delta_of (op.AddCounter (pos 0))) ≡ true
addition-of-nothing = refl

-- a raise above the observed height is a clash, and one to the same height or a lower one is none
higher-raise : clash (obs.PeakIs (pos 7)) (delta_of (op.Raise (pos 8))) ≡ true
higher-raise = refl

raise-to-the-same : clash (obs.PeakIs (pos 7)) (delta_of (op.Raise (pos 7))) ≡ false
raise-to-the-same = refl

lower-raise : clash (obs.PeakIs (pos 7)) (delta_of (op.Raise (negsuc 8))) ≡ false
lower-raise = refl

-- so it is beside a peak that wasn't above a number
raise-above-it : clash (obs.PeakOver (pos 7) false) (delta_of (op.Raise (pos 8))) ≡ true
raise-above-it = refl

raise-to-it : clash (obs.PeakOver (pos 7) false) (delta_of (op.Raise (pos 7))) ≡ false
raise-to-it = refl

-- and one that was above it is above it for good
over-for-good : clash (obs.PeakOver (pos 7) true) (delta_of (op.Raise (pos 8))) ≡ false
over-for-good = refl
