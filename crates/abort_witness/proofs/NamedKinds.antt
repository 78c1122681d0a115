-- The part that a witness names is of the kind of the delta.
use Rattle.std.proofs.Common.{◌≡◌, ℤ, Bool, true, false, Option, Some, None, refl, sym, ap, ◌∙◌, subst}
use Rattle.std.specs.Prelude.{option_map}
use Rattle.std.specs.Option.{option_or}
use Rattle.std.specs.Bool.{then_some}
use Rattle.std.specs.FinMap as map
use Rattle.plain_data.specs.Texts.{Bytes}
use Rattle.rdt_types.specs.declared.address.Kind.{Kind}
use Rattle.rdt_types.specs.declared.mark.Mark.{Mark}
use Rattle.rdt_types.specs.declared.mark.Mark.TheVariants as mark
use Rattle.rdt_types.specs.declared.operation.WriteOp.{WriteOp}
use Rattle.rdt_types.specs.declared.delta.Delta.{Delta}
use Rattle.rdt_types.specs.declared.delta.Delta.TheVariants as delta
use Rattle.rdt_types.specs.Values.{kind_written}
use Rattle.rdt_types.specs.Deltas.{kind_changed}
use Rattle.conflict_table.specs.declared.observation.Obs.{Obs}
use Rattle.conflict_table.specs.declared.observation.Obs.TheVariants as obs
use Rattle.conflict_table.specs.Observing.{kind_observed, is_over}
use Rattle.conflict_table.specs.Parts.{set_part, hash_part, whole_part, clear_part, mark_part, first_mark, first_removed, first_pushed, raise_part, named}
use Rattle.change_feed.specs.declared.change.Change.{Change}
use Rattle.abort_witness.specs.declared.witness.Based.{Based}
use Rattle.abort_witness.specs.declared.witness.Witness.{Witness}
use Rattle.abort_witness.specs.Kinds.{IsBasedOfOneKind, IsOfOneKind}
use Rattle.abort_witness.specs.Naming.{Names}

-- a part that may be there is of a kind
abbrev IsOf : Kind → Option WriteOp → Type 0
IsOf kind None = Unit {0}
IsOf kind (Some part) = kind_written part ≡ kind

-- either of two
either : (kind : Kind) (first second : Option WriteOp) → IsOf kind first → IsOf kind second → IsOf kind (option_or first second)
either kind None second is other = other
either kind (Some part) second is other = is

-- one that is there under a condition
under : (kind : Kind) (b : Bool) (part : WriteOp) → kind_written part ≡ kind → IsOf kind (then_some b part)
under kind true part is = is
under kind false part is = tt

-- one that is made of what may be there
made : {A : Type 0} (kind : Kind) (f : A → WriteOp) (o : Option A) → ((a : A) → kind_written (f a) ≡ kind) → IsOf kind (option_map f o)
made kind f None is = tt
made kind f (Some a) is = is a

-- a mark of a set is done by an operation on sets, whether it adds or removes
set-part : (x : Bytes) (b : Bool) (d : Delta) → kind_changed d ≡ kind_written (set_part x true) → kind_written (set_part x b) ≡ kind_changed d
set-part x true d is = sym is
set-part x false d is = sym is

-- a mark of a hash is done by an operation on hashes, whether it puts or removes
hash-part : (f : Bytes) (m : Mark) (d : Delta) → kind_changed d ≡ kind_written (hash_part f mark.Removed) → kind_written (hash_part f m) ≡ kind_changed d
hash-part f (mark.Put text) d is = sym is
hash-part f mark.Removed d is = sym is

-- a put and an addition write the kind that they change
whole-is : (d : Delta) → IsOf (kind_changed d) (whole_part d)
whole-is (delta.PutBool b) = refl
whole-is (delta.PutCounter n) = refl
whole-is (delta.AddCounter n) = refl
whole-is (delta.PutText text) = refl
whole-is (delta.Set d) = tt
whole-is (delta.Hash d) = tt
whole-is (delta.List d) = tt
whole-is (delta.Raise n) = tt

-- the clear that is named is that of the delta's own kind
clear-is : (d : Delta) → IsOf (kind_changed d) (clear_part d)
clear-is (delta.PutBool b) = tt
clear-is (delta.PutCounter n) = tt
clear-is (delta.AddCounter n) = tt
clear-is (delta.PutText text) = tt
clear-is (delta.Set d) = under _ d.cleared _ refl
clear-is (delta.Hash d) = under _ d.cleared _ refl
clear-is (delta.List d) = under _ d.cleared _ refl
clear-is (delta.Raise n) = tt

-- a mark that is named is of an element where the delta is a set's, and of a field where it is a hash's
mark-is : (x : Bytes) (d : Delta) → IsOf (kind_changed d) (mark_part x d)
mark-is x (delta.PutBool b) = tt
mark-is x (delta.PutCounter n) = tt
mark-is x (delta.AddCounter n) = tt
mark-is x (delta.PutText text) = tt
mark-is x (delta.Set d) = made _ (set_part x) (map.get d.marks x) (λ b. set-part x b (delta.Set d) refl)
mark-is x (delta.Hash d) = made _ (hash_part x) (map.get d.marks x) (λ m. hash-part x m (delta.Hash d) refl)
mark-is x (delta.List d) = tt
mark-is x (delta.Raise n) = tt

-- and so is the first mark
first-mark-is : (d : Delta) → IsOf (kind_changed d) (first_mark d)
first-mark-is (delta.PutBool b) = tt
first-mark-is (delta.PutCounter n) = tt
first-mark-is (delta.AddCounter n) = tt
first-mark-is (delta.PutText text) = tt
first-mark-is (delta.Set d) = made _ _ _ (λ e. set-part e.0 e.1 (delta.Set d) refl)
first-mark-is (delta.Hash d) = made _ _ _ (λ e. hash-part e.0 e.1 (delta.Hash d) refl)
first-mark-is (delta.List d) = tt
first-mark-is (delta.Raise n) = tt

-- a text is taken out by a delta of a list alone
first-removed-is : (d : Delta) → IsOf (kind_changed d) (first_removed d)
first-removed-is (delta.PutBool b) = tt
first-removed-is (delta.PutCounter n) = tt
first-removed-is (delta.AddCounter n) = tt
first-removed-is (delta.PutText text) = tt
first-removed-is (delta.Set d) = tt
first-removed-is (delta.Hash d) = tt
first-removed-is (delta.List d) = made _ _ _ (λ e. refl)
first-removed-is (delta.Raise n) = tt

-- and an item is pushed by one alone
first-pushed-is : (d : Delta) → IsOf (kind_changed d) (first_pushed d)
first-pushed-is (delta.PutBool b) = tt
first-pushed-is (delta.PutCounter n) = tt
first-pushed-is (delta.AddCounter n) = tt
first-pushed-is (delta.PutText text) = tt
first-pushed-is (delta.Set d) = tt
first-pushed-is (delta.Hash d) = tt
first-pushed-is (delta.List d) = made _ _ _ (λ item. refl)
first-pushed-is (delta.Raise n) = tt

-- a raise is that of a peak, whichever number it is above
raise-is : (n : ℤ) (d : Delta) → IsOf (kind_changed d) (raise_part n d)
raise-is n (delta.PutBool b) = tt
raise-is n (delta.PutCounter m) = tt
raise-is n (delta.AddCounter m) = tt
raise-is n (delta.PutText text) = tt
raise-is n (delta.Set d) = tt
raise-is n (delta.Hash d) = tt
raise-is n (delta.List d) = tt
raise-is n (delta.Raise m) = under _ (is_over n m) _ refl

-- row by row: each names some of these parts
named-is : (o : Obs) (d : Delta) → IsOf (kind_changed d) (named o d)
named-is obs.BoolIs d = whole-is d
named-is obs.CounterIs d = whole-is d
named-is obs.TextIs d = whole-is d
named-is (obs.SetHas x) d = either _ (clear_part d) (mark_part x d) (clear-is d) (mark-is x d)
named-is obs.SetAll d = either _ (clear_part d) (first_mark d) (clear-is d) (first-mark-is d)
named-is (obs.HashAt f) d = either _ (clear_part d) (mark_part f d) (clear-is d) (mark-is f d)
named-is obs.HashAll d = either _ (clear_part d) (first_mark d) (clear-is d) (first-mark-is d)
named-is (obs.ListAt i) d = either _ (clear_part d) (first_removed d) (clear-is d) (first-removed-is d)
named-is obs.ListAll d =
    either _ (option_or (clear_part d) (first_removed d)) (first_pushed d) (either _ (clear_part d) (first_removed d) (clear-is d)
    (first-removed-is d)) (first-pushed-is d)
named-is (obs.PeakIs n) d = raise-is n d
named-is (obs.PeakOver n true) d = tt
named-is (obs.PeakOver n false) d = raise-is n d

-- the part that is named is of the kind of the delta
pub kind-named : (o : Obs) (d : Delta) (part : WriteOp) → named o d ≡ Some part → kind_written part ≡ kind_changed d
kind-named o d part e = subst (IsOf (kind_changed d)) e (named-is o d)

-- what names an observation of its address' kind, and a change of that kind, is of one kind
pub names-one-kind : (based : Based) (change : Change) (witness : Witness) → IsBasedOfOneKind based → kind_changed change.delta ≡ based.address.kind
    → Names based change witness → IsOfOneKind witness
names-one-kind based change witness observed changed names = record {
  observed = ap kind_observed names.observed ∙ observed.observed ∙ sym (ap (λ a. a.kind) names.address);
  written = kind-named based.obs change.delta witness.part names.part ∙ changed ∙ sym (ap (λ a. a.kind) names.address);
}
