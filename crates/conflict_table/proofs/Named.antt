-- The named part is there exactly where a delta clashes, and clashes alone.
use Rattle.std.proofs.Common.{◌≡◌, ℤ, Bool, true, false, cond, ◌||◌, slice_get, option_map, is_some, Option, Some, None, refl, sym, ap, ◌∙◌}
use Rattle.std.specs.Option.{option_or}
use Rattle.std.specs.Bool.{then_some}
use Rattle.std.proofs.lemmas.Bool.{or_left, or_right}
use Rattle.std.specs.Cmp.Lexicographic.{nat_list_cmp_total}
use Rattle.std.specs.FinMap as map
use Rattle.plain_data.specs.Texts.{Bytes, text_cmp}
use Rattle.rdt_types.specs.declared.mark.Mark.{Mark}
use Rattle.rdt_types.specs.declared.mark.Mark.TheVariants as mark
use Rattle.rdt_types.specs.declared.operation.WriteOp.{WriteOp}
use Rattle.rdt_types.specs.declared.operation.WriteOp.TheVariants as op
use Rattle.rdt_types.specs.declared.delta.Delta.{Delta}
use Rattle.rdt_types.specs.declared.delta.Delta.TheVariants as delta
use Rattle.rdt_types.specs.Deltas.{delta_of}
use Rattle.conflict_table.specs.declared.observation.Obs.TheVariants as obs
use Rattle.conflict_table.specs.Observing.{is_over}
use Rattle.conflict_table.specs.Clashes.{clears, names, names_some, removes, pushes, raises_above}
use Rattle.conflict_table.specs.Parts.{set_part, hash_part, clear_part, mark_part, first_mark, first_removed, first_pushed, raise_part}
use Rattle.conflict_table.specs.Laws.{ClashesHaveParts, PartsClashAlone}
use Rattle.conflict_table.proofs.Keys.{tied, first_item, first-has_some, has_some-key}

-- ---- each part is there exactly where its test holds

-- a function makes something of just what is there
pub is_some-map : {A B : Type 0} (f : A → B) (o : Option A) → is_some (option_map f o) ≡ is_some o
is_some-map f None = refl
is_some-map f (Some x) = refl

-- the first or else the second is there where one of them is
is_some-or : {A : Type 0} (o p : Option A) (a b : Bool) → is_some o ≡ a → is_some p ≡ b → is_some (option_or o p) ≡ (a || b)
is_some-or None p a b e f = ap (λ c. c || is_some p) e ∙ ap (λ c. a || c) f
is_some-or (Some x) p a b e f = ap (λ c. c || b) e

-- what stands under a test is there where the test holds
is_some-then : {A : Type 0} (b : Bool) (x : A) → is_some (then_some b x) ≡ b
is_some-then true x = refl
is_some-then false x = refl

-- a clear is named where the delta clears
some_clear : (d : Delta) → is_some (clear_part d) ≡ clears d
some_clear (delta.Set d) = is_some-then d.cleared op.SetClear
some_clear (delta.Hash d) = is_some-then d.cleared op.HashClear
some_clear (delta.List d) = is_some-then d.cleared op.ListClear
some_clear d = refl

-- a mark at a text is named where the delta has one there
some_mark : (x : Bytes) (d : Delta) → is_some (mark_part x d) ≡ names x d
some_mark x (delta.Set d) = is_some-map (set_part x) (map.get d.marks x)
some_mark x (delta.Hash d) = is_some-map (hash_part x) (map.get d.marks x)
some_mark x d = refl

-- a first mark is named where the delta has any, since pairs have a first one
some_first_mark : (d : Delta) → is_some (first_mark d) ≡ names_some d
some_first_mark (delta.Set d) = is_some-map (λ e. set_part e.0 e.1) (slice_get (map.entries d.marks) 0) ∙ first-has_some d.marks
some_first_mark (delta.Hash d) = is_some-map (λ e. hash_part e.0 e.1) (slice_get (map.entries d.marks) 0) ∙ first-has_some d.marks
some_first_mark d = refl

-- a first removed text is named where the delta takes any out
some_removed : (d : Delta) → is_some (first_removed d) ≡ removes d
some_removed (delta.List d) = is_some-map (λ e. op.ListRemove e.0) (slice_get (map.entries d.removed) 0) ∙ first-has_some d.removed
some_removed d = refl

-- a first pushed item is named where the delta pushes any
some_pushed : (d : Delta) → is_some (first_pushed d) ≡ pushes d
some_pushed (delta.List d) = is_some-map (λ item. op.ListPush item) (slice_get d.pushed 0) ∙ first_item d.pushed
some_pushed d = refl

-- a raise is named where the delta raises above the number
some_raise : (n : ℤ) (d : Delta) → is_some (raise_part n d) ≡ raises_above n d
some_raise n (delta.Raise m) = is_some-then (is_over n m) (op.Raise m)
some_raise n d = refl

-- each row of the table has the parts of its tests
pub clashes_have_parts : ClashesHaveParts
clashes_have_parts obs.BoolIs (delta.PutBool b) kinds = refl
clashes_have_parts obs.CounterIs (delta.PutCounter n) kinds = refl
clashes_have_parts obs.CounterIs (delta.AddCounter n) kinds = refl
clashes_have_parts obs.TextIs (delta.PutText x) kinds = refl
clashes_have_parts (obs.SetHas x) d kinds = is_some-or _ _ _ _ (some_clear d) (some_mark x d)
clashes_have_parts obs.SetAll d kinds = is_some-or _ _ _ _ (some_clear d) (some_first_mark d)
clashes_have_parts (obs.HashAt f) d kinds = is_some-or _ _ _ _ (some_clear d) (some_mark f d)
clashes_have_parts obs.HashAll d kinds = is_some-or _ _ _ _ (some_clear d) (some_first_mark d)
clashes_have_parts (obs.ListAt i) d kinds = is_some-or _ _ _ _ (some_clear d) (some_removed d)
clashes_have_parts obs.ListAll d kinds = is_some-or _ _ _ _ (is_some-or _ _ _ _ (some_clear d) (some_removed d)) (some_pushed d)
clashes_have_parts (obs.PeakIs n) d kinds = some_raise n d
clashes_have_parts (obs.PeakOver n true) d kinds = refl
clashes_have_parts (obs.PeakOver n false) d kinds = some_raise n d
clashes_have_parts o d kinds = absurd (cc)

-- ---- each part passes its test alone

-- what is there under a test is what stands there
then_is : {A : Type 0} (b : Bool) (x y : A) → then_some b x ≡ Some y → x ≡ y
then_is true x y e = cc
then_is false x y e = absurd (cc)

-- and it is there under a test that holds
then_holds : {A : Type 0} (b : Bool) (x y : A) → then_some b x ≡ Some y → b ≡ true
then_holds true x y e = refl
then_holds false x y e = absurd (cc)

-- what a function made is made of something that was there
map_is : {A B : Type 0} (f : A → B) (o : Option A) (y : B) → option_map f o ≡ Some y → (x : A) × (f x ≡ y)
map_is f None y e = absurd (cc)
map_is f (Some x) y e = (x, cc)

-- the first of two parts passes its test, and so the two
alone : (o p : Option WriteOp) (w : WriteOp) (a b : Bool) → option_or o p ≡ Some w → (o ≡ Some w → a ≡ true) → (p ≡ Some w → b ≡ true)
    → (a || b) ≡ true
alone None p w a b e f g = or_right a b (g e)
alone (Some x) p w a b e f g = or_left a b (f e)

-- one mark is a mark at its key
marks_itself : {M : Type 0} (x : Bytes) (mark : M) → map.contains_key (map.insert {R = text_cmp} map.empty x mark) x ≡ true
marks_itself x mark =
    ap is_some (map.get-insert nat_list_cmp_total map.empty x mark x)
    ∙ ap (λ b. is_some (cond b (Some mark) (map.get (map.empty {R = text_cmp}) x))) (tied x)

-- what is named for a clear is the clear of that kind, whose delta clears
clear_alone : (d : Delta) (w : WriteOp) → clear_part d ≡ Some w → clears (delta_of w) ≡ true
clear_alone (delta.Set d) w e = ap (λ w. clears (delta_of w)) (sym (then_is d.cleared op.SetClear w e))
clear_alone (delta.Hash d) w e = ap (λ w. clears (delta_of w)) (sym (then_is d.cleared op.HashClear w e))
clear_alone (delta.List d) w e = ap (λ w. clears (delta_of w)) (sym (then_is d.cleared op.ListClear w e))
clear_alone d w e = absurd (cc)

-- the delta of an element's part has its mark at that element
set_names : (x : Bytes) (b : Bool) → names x (delta_of (set_part x b)) ≡ true
set_names x true = marks_itself x true
set_names x false = marks_itself x false

-- and the delta of a field's part has its mark at that field
hash_names : (f : Bytes) (m : Mark) → names f (delta_of (hash_part f m)) ≡ true
hash_names f (mark.Put text) = marks_itself f (mark.Put text)
hash_names f mark.Removed = marks_itself f mark.Removed

-- so the part at a text has a delta that marks this text
mark_alone : (x : Bytes) (d : Delta) (w : WriteOp) → mark_part x d ≡ Some w → names x (delta_of w) ≡ true
mark_alone x (delta.Set d) w e = let m = map_is (set_part x) (map.get d.marks x) w e in ap (λ w. names x (delta_of w)) (sym m.1) ∙ set_names x m.0
mark_alone x (delta.Hash d) w e = let m = map_is (hash_part x) (map.get d.marks x) w e in ap (λ w. names x (delta_of w)) (sym m.1) ∙ hash_names x m.0
mark_alone x d w e = absurd (cc)

-- the delta of an element's part has a mark at all
set_names_some : (x : Bytes) (b : Bool) → names_some (delta_of (set_part x b)) ≡ true
set_names_some x true = has_some-key _ x (marks_itself x true)
set_names_some x false = has_some-key _ x (marks_itself x false)

-- and so has the delta of a field's part
hash_names_some : (f : Bytes) (m : Mark) → names_some (delta_of (hash_part f m)) ≡ true
hash_names_some f (mark.Put text) = has_some-key _ f (marks_itself f (mark.Put text))
hash_names_some f mark.Removed = has_some-key _ f (marks_itself f mark.Removed)

-- so the part of the first mark has a delta with a mark
first_mark_alone : (d : Delta) (w : WriteOp) → first_mark d ≡ Some w → names_some (delta_of w) ≡ true
first_mark_alone (delta.Set d) w e = let m = map_is (λ e. set_part e.0 e.1) (slice_get (map.entries d.marks) 0) w e
    in ap (λ w. names_some (delta_of w)) (sym m.1) ∙ set_names_some m.0.0 m.0.1
first_mark_alone (delta.Hash d) w e = let m = map_is (λ e. hash_part e.0 e.1) (slice_get (map.entries d.marks) 0) w e
    in ap (λ w. names_some (delta_of w)) (sym m.1) ∙ hash_names_some m.0.0 m.0.1
first_mark_alone d w e = absurd (cc)

-- the part of a removed text has a delta that takes this text out
removed_alone : (d : Delta) (w : WriteOp) → first_removed d ≡ Some w → removes (delta_of w) ≡ true
removed_alone (delta.List d) w e = let m = map_is (λ e. op.ListRemove e.0) (slice_get (map.entries d.removed) 0) w e
    in ap (λ w. removes (delta_of w)) (sym m.1) ∙ has_some-key _ m.0.0 (marks_itself m.0.0 tt)
removed_alone d w e = absurd (cc)

-- the part of a pushed item has a delta that pushes this item
pushed_alone : (d : Delta) (w : WriteOp) → first_pushed d ≡ Some w → pushes (delta_of w) ≡ true
pushed_alone (delta.List d) w e = let m = map_is (λ item. op.ListPush item) (slice_get d.pushed 0) w e in ap (λ w. pushes (delta_of w)) (sym m.1)
pushed_alone d w e = absurd (cc)

-- the part of a raise above a number has a delta that raises above it
raise_alone : (n : ℤ) (d : Delta) (w : WriteOp) → raise_part n d ≡ Some w → raises_above n (delta_of w) ≡ true
raise_alone n (delta.Raise m) w e =
    ap (λ w. raises_above n (delta_of w)) (sym (then_is (is_over n m) (op.Raise m) w e))
    ∙ then_holds (is_over n m) (op.Raise m) w e
raise_alone n d w e = absurd (cc)

-- so a part that a row names passes one of the row's tests
pub parts_clash_alone : PartsClashAlone
parts_clash_alone obs.BoolIs d w e = refl
parts_clash_alone obs.CounterIs d w e = refl
parts_clash_alone obs.TextIs d w e = refl
parts_clash_alone (obs.SetHas x) d w e = alone _ _ w _ _ e (clear_alone d w) (mark_alone x d w)
parts_clash_alone obs.SetAll d w e = alone _ _ w _ _ e (clear_alone d w) (first_mark_alone d w)
parts_clash_alone (obs.HashAt f) d w e = alone _ _ w _ _ e (clear_alone d w) (mark_alone f d w)
parts_clash_alone obs.HashAll d w e = alone _ _ w _ _ e (clear_alone d w) (first_mark_alone d w)
parts_clash_alone (obs.ListAt i) d w e = alone _ _ w _ _ e (clear_alone d w) (removed_alone d w)
parts_clash_alone obs.ListAll d w e =
    alone _ _ w _ _ e (λ f. alone _ _ w (clears (delta_of w)) (removes (delta_of w)) f (clear_alone d w) (removed_alone d w)) (pushed_alone d w)
parts_clash_alone (obs.PeakIs n) d w e = raise_alone n d w e
parts_clash_alone (obs.PeakOver n true) d w e = absurd (cc)
parts_clash_alone (obs.PeakOver n false) d w e = raise_alone n d w e
