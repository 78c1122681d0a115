-- Changes that come in pieces.
use Rattle.std.proofs.Common.{◌≡◌, ℕ, Bool, true, false, List, [], ◌∷◌, ◌++◌, take, length, Option, refl, sym, ap, subst, ◌||◌, ◌∙◌}
use Rattle.std.proofs.lemmas.List.{append_assoc}
use Rattle.std.proofs.lemmas.List.Elements.{filter-append}
use Rattle.std.proofs.lemmas.List.Folds.{list_any-append}
use Rattle.std.proofs.lemmas.List.Sums.{fold-append}
use Rattle.std.specs.BTreeMap.{is_at}
use Rattle.rdt_types.specs.declared.address.Address.{Address}
use Rattle.rdt_types.specs.Addresses.{address_cmp}
use Rattle.change_feed.specs.declared.change.Change.{Change}
use Rattle.change_feed.specs.Changes.{of_address}
use Rattle.reactive_registry.specs.declared.places.Places.{Places}
use Rattle.reactive_registry.specs.Registered.{Kept}
use Rattle.reactive_registry.specs.Places.{links}
use Rattle.reactive_registry.specs.code.Telling.{done_where, pushed, cut, told_along, cut_along, is_linked, ArePast}

-- where neither of two holds, each doesn't
neither : (b c : Bool) → (b || c) ≡ false → (b ≡ false) × (c ≡ false)
neither true c e = absurd (cc)
neither false c e = (refl, e)

-- what is past a front is so in each of two pieces
past-pieces : (front : ℕ) (piece rest : List Change) → ArePast front (piece ++ rest) → ArePast front piece × ArePast front rest
past-pieces front [] rest all = (tt, all)
past-pieces front (change ∷ piece) rest all = let both = past-pieces front piece rest all.1 in ((all.0, both.0), both.1)

-- a beginning of a beginning is a beginning
pub begun-along : (first second third : List Change) → take (length first) second ≡ first → take (length second) third ≡ second
    → take (length first) third ≡ first
begun-along [] second third e f = refl
begun-along (x ∷ first) [] third e f = absurd (cc)
begun-along (x ∷ first) (y ∷ second) [] e f = absurd (cc)
begun-along (x ∷ first) (y ∷ second) (z ∷ third) e f =
    let here : take (length first) second ≡ first = cc in
    let there : take (length second) third ≡ second = cc in
    let rest = begun-along first second third here there in
    cc

-- all changes are those of the first piece and then those of the rest
module _ (all piece rest : List Change) (split : all ≡ piece ++ rest) where
  -- one is told of a piece and then of the rest as it is told of all
  pub told-pieces : (places : Places) (q : ℕ) (o o' : Option Kept) → o' ≡ told_along places q piece o
      → told_along places q rest o' ≡ told_along places q all o
  told-pieces places q o o' is =
      ap (told_along places q rest) is
      ∙ sym (ap (λ l. told_along places q l o) split ∙ fold-append (λ k change. done_where (links places change.address q) (pushed change) k) o piece rest)

  -- and the way back is the same
  pub cut-pieces : (places : Places) (q front : ℕ) (o o' : Option Kept) → o' ≡ cut_along places q front piece o
      → cut_along places q front rest o' ≡ cut_along places q front all o
  cut-pieces places q front o o' is =
      ap (cut_along places q front rest) is
      ∙ sym (ap (λ l. cut_along places q front l o) split ∙ fold-append (λ k change. done_where (links places change.address q) (cut front) k) o piece rest)

  -- where all are past a front, so are those of both
  pub past-both : (front : ℕ) → ArePast front all → ArePast front piece × ArePast front rest
  past-both front past = past-pieces front piece rest (subst (ArePast front) split past)

  -- where one stands at no address of all, it stands at none of either
  pub linked-neither : (places : Places) (q : ℕ) → is_linked places q all ≡ false → (is_linked places q piece ≡ false) × (is_linked places q rest ≡ false)
  linked-neither places q none =
      neither (is_linked places q piece) (is_linked places q rest)
      (sym (ap (is_linked places q) split ∙ list_any-append (λ change. links places change.address q) piece rest) ∙ none)

  -- what is added of a piece and then of the rest is what is added of all
  pub added-pieces : (address : Address) (old new : List Change) → new ≡ old ++ of_address address piece
      → new ++ of_address address rest ≡ old ++ of_address address all
  added-pieces address old new is =
      ap (λ l. l ++ of_address address rest) is
      ∙ append_assoc old (of_address address piece) (of_address address rest)
      ∙ sym (ap (λ l. old ++ of_address address l) split ∙ ap (λ l. old ++ l) (filter-append (λ change. is_at (address_cmp address) change.address) piece rest))
