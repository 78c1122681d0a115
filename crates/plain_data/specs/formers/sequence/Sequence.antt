-- How a `Sequence` stores its items, so that a recursive type may lead back to itself through one. Its value is the
-- list of its items, and its only field is the `Vec` that stores them.
use mathlib.Core.Path.{◌≡◌, refl, sym}
use mathlib.Core.List.{List, []}
use mathlib.Core.Former.{Former, this, list, via, children}
use base.Stored.{code_map}
use denote.RattleType.{RattleType}
use denote.HoleLaws.{Alike}
use denote.HolePlaces.{Recodes, struct_places, laid}
use denote.Hole.Carrier.{listed, list-listed}
use denote.Hole.Fix.{over}
use denote.Param.Weighed.{Weighed, w_list}
use denote.Model.Placed.{view_places}
use Rattle.std.specs.formers.vec.Vec as vec
use Rattle.std.specs.declared.alloc.Global.{Global}
use Rattle.std.specs.contracts.alloc.Global as global
use Rattle.std.specs.contracts.impls.GlobalAllocator.TheImpl as allocator
use Rattle.plain_data.specs.declared.sequence.Sequence.TheInside.{Inside}
use Rattle.plain_data.specs.declared.sequence.Sequence.TheView as seen
use Rattle.plain_data.specs.contracts.sequence.Sequence as sequence
use Rattle.plain_data.specs.contracts.sequence.Sequence.TheInside as inside

-- a value is a list
abbrev pub the_former : Former {0} → Former {0}
the_former g = list g

abbrev pub the_weighed : {g : Former {0}} → Weighed g → Weighed (the_former g)
the_weighed weighed = w_list weighed

-- the list that holds no item
abbrev pub the_empty : List ⊥
the_empty = []

-- the items are the list itself
abbrev pub the_items : (X : Type 0) → List X → List X
the_items X xs = xs

pub the_items_listed : (X : Type 0) (xs : List X) → listed _ (children (the_former this) X xs) ≡ the_items X xs
the_items_listed X xs = list-listed X xs

-- the fields are those of the `Vec`
abbrev the_fields : Former {0}
the_fields = via (vec.the_former this Global) Inside (λ X s. s.items) (λ X v. record { items = v }) (λ X s. refl) (λ X v. refl)

module _ (R S : RattleType) (h : R.Denot → S.Denot) where
  -- the `Vec` is placed as its items are, and the view shows all of them in order
  pub the_places : Alike R S h → Alike (sequence.the_row R) (sequence.the_row S) ((the_former this).map R.Denot S.Denot h)
  the_places alike =
      let stored = laid _ _ _ (vec.the_places global.the_row allocator.ghosts R S h alike) in
      view_places the_fields (list this) seen.view (λ X Y k s. refl) (λ X s. refl) R.Denot S.Denot h
      (sequence.the_row R).coded (sequence.the_row S).coded (seen.invariant R.Denot) (seen.invariant S.Denot)
      (λ s p q. refl) (λ s p q. refl) (λ s e. tt) (λ s e. tt) (over (inside.the_row R)) (over (inside.the_row S))
      (struct_places (inside.the_type R) (inside.the_type S) (vec.mapped h, tt) _ (λ s. refl) refl (stored, tt))

  pub the_codes_placed : Recodes R S h → Recodes (sequence.the_row R) (sequence.the_row S) ((the_former this).map R.Denot S.Denot h)
  the_codes_placed recodes xs = sym (code_map R.coded.code S.coded.code h (λ x. sym (recodes x)) xs)
