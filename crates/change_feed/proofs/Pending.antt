-- What is pending after changes and then others.
use Rattle.std.proofs.Common.{◌≡◌, Bool, true, false, cond, List, [], ◌∷◌, ◌++◌, map, Option, Some, None, refl, sym, ap, ◌∙◌}
use Rattle.std.specs.List.{AllByRecursion}
use Rattle.std.specs.BTreeMap.{is_at}
use Rattle.plain_data.proofs.Entries.{equal}
use Rattle.rdt_types.specs.declared.address.Kind.{Kind}
use Rattle.rdt_types.specs.declared.address.Address.{Address}
use Rattle.rdt_types.specs.declared.delta.Delta.{Delta}
use Rattle.rdt_types.specs.Addresses.{address_cmp}
use Rattle.rdt_types.specs.Deltas.{kind_changed, compose}
use Rattle.rdt_types.proofs.Addresses.{address_cmp-equal}
use Rattle.rdt_types.proofs.OneKind.{kind-compose}
use Rattle.rdt_types.proofs.Laws.{compositions_associate}
use Rattle.change_feed.specs.declared.change.Change.{Change}
use Rattle.change_feed.specs.Changes.{of_address}
use Rattle.change_feed.specs.Pending.{deltas_at, composed_after, pending}
use Rattle.change_feed.specs.Feeds.{after_both, AreOfTheirKinds, PendingJoins}

-- ---- deltas of one kind

module _ (k : Kind) where
  -- deltas of one kind
  abbrev pub AreOfKind : List Delta → Type 0
  AreOfKind deltas = AllByRecursion (λ d. kind_changed d ≡ k) deltas

  -- a delta of this kind, or none
  abbrev IsOfKind : Option Delta → Type 0
  IsOfKind None = Unit {0}
  IsOfKind (Some d) = kind_changed d ≡ k

  -- deltas of one kind compose to one of that kind
  of_kind : (before : Option Delta) (deltas : List Delta) → IsOfKind before → AreOfKind deltas → IsOfKind (composed_after before deltas)
  of_kind before [] is all = is
  of_kind None (d ∷ deltas) is all = of_kind (Some d) deltas all.0 all.1
  of_kind (Some b) (d ∷ deltas) is all = of_kind (Some (compose b d)) deltas (kind-compose b d ∙ all.0) all.1

  -- it is one which two of three are composed first
  two_first : (a b : Delta) (o : Option Delta) → kind_changed a ≡ k → kind_changed b ≡ k → IsOfKind o
      → after_both (Some (compose a b)) o ≡ after_both (Some a) (after_both (Some b) o)
  two_first a b None p q r = refl
  two_first a b (Some c) p q r = ap (λ d. Some d) (compositions_associate a b c (p ∙ sym q) (q ∙ sym r))

  -- so what deltas come to after one is the composition of that one and of what they come to
  after_one : (a : Delta) (deltas : List Delta) → kind_changed a ≡ k → AreOfKind deltas
      → composed_after (Some a) deltas ≡ after_both (Some a) (composed_after None deltas)
  after_one a [] is all = refl
  after_one a (d ∷ deltas) is all =
      after_one (compose a d) deltas (kind-compose a d ∙ all.0) all.1
      ∙ two_first a d (composed_after None deltas) is all.0 (of_kind None deltas tt all.1)
      ∙ ap (after_both (Some a)) (sym (after_one d deltas all.0 all.1))

  -- after nothing there is what comes next
  nothing_before : (o : Option Delta) → o ≡ after_both None o
  nothing_before None = refl
  nothing_before (Some d) = refl

  -- with one before them or none, deltas come to what is composed of that and of what they come to alone
  after_any : (before : Option Delta) (deltas : List Delta) → IsOfKind before → AreOfKind deltas
      → composed_after before deltas ≡ after_both before (composed_after None deltas)
  after_any None deltas is all = nothing_before (composed_after None deltas)
  after_any (Some a) deltas is all = after_one a deltas is all

-- ---- deltas at an address

-- the deltas of changes, in order
abbrev deltas_of : List Change → List Delta
deltas_of changes = map (λ c. c.delta) changes

-- those of changes and then of others
deltas_at-append : (address : Address) (before : Option Delta) (changes later : List Change)
    → composed_after before (deltas_at address (changes ++ later))
    ≡ composed_after (composed_after before (deltas_at address changes)) (deltas_at address later)
deltas_at-append address before [] later = refl
deltas_at-append address before (change ∷ changes) later =
    by before (is_at (address_cmp address) change.address) (λ b. deltas_at-append address b changes later)
  where
    by : (before : Option Delta) (b : Bool)
        → ((o : Option Delta) → composed_after o (deltas_of (of_address address (changes ++ later)))
        ≡ composed_after (composed_after o (deltas_of (of_address address changes))) (deltas_of (of_address address later)))
        → composed_after before (deltas_of (cond b (change ∷ of_address address (changes ++ later)) (of_address address (changes ++ later))))
        ≡ composed_after (composed_after before (deltas_of (cond b (change ∷ of_address address changes) (of_address address changes))))
        (deltas_of (of_address address later))
    by None true rest = rest (Some change.delta)
    by (Some d) true rest = rest (Some (compose d change.delta))
    by before false rest = rest before

-- they are of the address's kind
pub at-of_kind : (address : Address) (changes : List Change) → AreOfTheirKinds changes → AreOfKind address.kind (deltas_at address changes)
at-of_kind address [] all = tt
at-of_kind address (change ∷ changes) all = by (is_at (address_cmp address) change.address) refl (at-of_kind address changes all.1)
  where
    by : (b : Bool) → is_at (address_cmp address) change.address ≡ b → AreOfKind address.kind (deltas_at address changes)
        → AreOfKind address.kind (deltas_of (cond b (change ∷ of_address address changes) (of_address address changes)))
    by true here rest = (all.0 ∙ ap (λ (a : Address). a.kind) (sym (address_cmp-equal address change.address (equal _ here))), rest)
    by false there rest = rest

-- the deltas at the address are all of its kind, so those of the later changes may be composed first
pub pending_joins : PendingJoins
pending_joins changes later address first second =
    deltas_at-append address None changes later
    ∙ after_any address.kind (pending address changes) (deltas_at address later)
    (of_kind address.kind None (deltas_at address changes) tt (at-of_kind address changes first)) (at-of_kind address later second)
