-- How a `Boxed` stores its value, so that a recursive type may lead back to itself through one. What contracts see is
-- the value alone, and the only field is the `Box` that stores it: a pointer and the value behind it.
use mathlib.Core.Path.{refl}
use mathlib.Core.Former.{Former, this, const, pair, via}
use base.Stored.{gnil}
use base.Fml.{ftrue}
use denote.RattleType.{RattleType}
use denote.Memory.{part_of}
use denote.RawPtr.{Ptr}
use denote.Sharing.{nothing}
use denote.HoleLaws.{Alike}
use denote.HolePlaces.{Recodes, struct_places, laid, one_value}
use denote.Hole.Fix.{over}
use denote.Param.Weighed.{Weighed}
use denote.Model.Placed.{view_places}
use Rattle.std.specs.declared.boxed.Box.{Box}
use Rattle.std.specs.contracts.boxed.Box as std_box
use Rattle.std.specs.declared.alloc.Global.{Global}
use Rattle.std.specs.contracts.alloc.Global as global
use Rattle.std.specs.contracts.impls.GlobalAllocator.TheImpl as allocator
use Rattle.plain_data.specs.declared.boxed.Boxed.TheInside.{Inside}
use Rattle.plain_data.specs.declared.boxed.Boxed.TheView as seen
use Rattle.plain_data.specs.contracts.boxed.Boxed as boxed
use Rattle.plain_data.specs.contracts.boxed.Boxed.TheInside as inside

-- a value is the value in the box
abbrev pub the_former : Former {0} → Former {0}
the_former g = g

abbrev pub the_weighed : {g : Former {0}} → Weighed g → Weighed (the_former g)
the_weighed weighed = weighed

-- the row of a std box
abbrev row_of : RattleType → RattleType
row_of R = std_box.the_row R global.the_row allocator.ghosts

-- the same block, with another value in it
abbrev holding : {X Y : Type 0} → Box X Global → Y → Box Y Global
holding b y = record { ptr = b.ptr; alloc = b.alloc; value = y }

-- the fields are those of the std box: its block, and the value
abbrev the_fields : Former {0}
the_fields = via (pair (const (Ptr × Global)) this) Inside
    (λ X b. ((b.owner.ptr, b.owner.alloc), b.owner.value))
    (λ X v. record { owner = record { ptr = v.0.0; alloc = v.0.1; value = v.1 } })
    (λ X b. refl) (λ X v. refl)

module _ (R S : RattleType) (h : R.Denot → S.Denot) where
  -- a std box owns and lends its block and what its value does
  std_box_places : Alike R S h → Alike (row_of R) (row_of S) (λ b. holding b (h b.value))
  unfolding part_of
  std_box_places a = record {
    mir_same = λ i. (row_of (one_value R (a.mir_same i) (λ _. ftrue) (λ _ _. nothing) gnil)).mir;
    own_same = λ b i. (row_of (one_value R (a.mir_same i) (a.own_same b.value i) (a.shr_same b.value i) gnil)).own_val (holding b tt);
    shr_same = λ b i. (row_of (one_value R (a.mir_same i) (a.own_same b.value i) (a.shr_same b.value i) gnil)).shr_at (holding b tt);
  }

  pub the_places : Alike R S h → Alike (boxed.the_row R) (boxed.the_row S) ((the_former this).map R.Denot S.Denot h)
  the_places alike =
      let stored = laid _ _ _ (std_box_places alike) in
      view_places the_fields this seen.view (λ X Y k b. refl) (λ X b. refl) R.Denot S.Denot h
      (boxed.the_row R).coded (boxed.the_row S).coded (seen.invariant R.Denot) (seen.invariant S.Denot)
      (λ b p q. refl) (λ b p q. refl) (λ b e. tt) (λ b e. tt) (over (inside.the_row R)) (over (inside.the_row S))
      (struct_places (inside.the_type R) (inside.the_type S) ((λ b. holding b (h b.value)), tt) _ (λ b. refl) refl (stored, tt))

  pub the_codes_placed : Recodes R S h → Recodes (boxed.the_row R) (boxed.the_row S) ((the_former this).map R.Denot S.Denot h)
  the_codes_placed recodes value = recodes value
