-- What is kept goes on standing for changes.
use Rattle.std.proofs.Common.{◌≡◌, ℕ, ◌≤◌, ◌<◌, Bool, true, false, cond, List, [], ◌∷◌, ◌++◌, map, filter, None, nat_lt, refl, sym, ap, ◌∙◌, arith}
use Rattle.std.specs.List.{AllByRecursion}
use Rattle.std.specs.BTreeMap.{is_at}
use Rattle.rdt_types.specs.declared.address.Address.{Address}
use Rattle.rdt_types.specs.declared.delta.Delta.{Delta}
use Rattle.rdt_types.specs.Addresses.{address_cmp}
use Rattle.change_feed.specs.declared.change.Change.{Change}
use Rattle.change_feed.specs.Changes.{past}
use Rattle.change_feed.specs.Pending.{deltas_at, composed_after}
use Rattle.reactive_registry.specs.Registered.{is_address}
use Rattle.reactive_registry.specs.Laws.{PendingIsSince, EntriesStand, TakesStand, FollowsStand}
use Rattle.reactive_registry.proofs.Pairs.{same_address}

-- at an address of its own the untaken deltas are those past the number taken last, and so their composition is the same
pub pending_is_since : PendingIsSince
pending_is_since changes front kept address stands is =
    ap (composed_after None) (stands.deltas address ∙ ap (λ b. cond b (deltas_at address (past kept.taken changes)) []) is)

-- nothing of changes up to a front is past it
pub past-front : (changes : List Change) (front : ℕ) → AllByRecursion (λ c. c.number ≤ front) changes → past front changes ≡ []
past-front [] front all = refl
past-front (c ∷ changes) front all = by (nat_lt front c.number) refl (past-front changes front all.1)
  where
    by : (b : Bool) → nat_lt front c.number ≡ b → past front changes ≡ [] → cond b (c ∷ past front changes) (past front changes) ≡ []
    by true e rest = absurd (grind (arith, all.0))
    by false e rest = rest

-- no deltas are left, whether the address is its own or not
either_nothing : (b : Bool) (deltas : List Delta) → deltas ≡ [] → [] ≡ cond b deltas []
either_nothing true deltas e = sym e
either_nothing false deltas e = refl

-- it has no address and no change, so nothing is to be taken anywhere
pub entries_stand : EntriesStand
entries_stand changes front all = record { taken = omega arith; deltas = λ a. refl }

-- nothing up to the front is past the number taken last, which is now the front
pub takes_stand : TakesStand
takes_stand changes front kept all = record {
  taken = omega arith;
  deltas = λ a. either_nothing (is_address kept a) (deltas_at a (past front changes)) (ap (deltas_at a) (past-front changes front all));
}

-- the deltas of changes and then of others
pub deltas-append : (a : Address) (changes later : List Change) → deltas_at a (changes ++ later) ≡ deltas_at a changes ++ deltas_at a later
deltas-append a [] later = refl
deltas-append a (c ∷ changes) later = by (is_at (address_cmp a) c.address) (deltas-append a changes later)
  where
    rest : List Change → List Change
    rest all = filter (λ change. is_at (address_cmp a) change.address) all

    by : (b : Bool) → deltas_at a (changes ++ later) ≡ deltas_at a changes ++ deltas_at a later
        → map (λ d. d.delta) (cond b (c ∷ rest (changes ++ later)) (rest (changes ++ later)))
        ≡ map (λ d. d.delta) (cond b (c ∷ rest changes) (rest changes)) ++ deltas_at a later
    by true e = ap (λ ds. c.delta ∷ ds) e
    by false e = e

-- all later changes are past a number that isn't past the front
pub past-append : (changes later : List Change) (n front : ℕ) → n ≤ front → AllByRecursion (λ c. front < c.number) later
    → past n (changes ++ later) ≡ past n changes ++ later
past-append [] [] n front le all = refl
past-append [] (c ∷ later) n front le all = by (nat_lt n c.number) refl (past-append [] later n front le all.1)
  where
    by : (b : Bool) → nat_lt n c.number ≡ b → past n later ≡ later → cond b (c ∷ past n later) (past n later) ≡ c ∷ later
    by true e rest = ap (λ all. c ∷ all) rest
    by false e rest = absurd (grind (arith, all.0))
past-append (c ∷ changes) later n front le all = by (nat_lt n c.number) (past-append changes later n front le all)
  where
    by : (b : Bool) → past n (changes ++ later) ≡ past n changes ++ later
        → cond b (c ∷ past n (changes ++ later)) (past n (changes ++ later)) ≡ cond b (c ∷ past n changes) (past n changes) ++ later
    by true e = ap (λ all. c ∷ all) e
    by false e = e

-- of the changes at some addresses those at one address are all there, or none
pub deltas-chosen : (a : Address) (chosen : Address → Bool) (later : List Change)
    → deltas_at a (filter (λ c. chosen c.address) later) ≡ cond (chosen a) (deltas_at a later) []
deltas-chosen a chosen [] = nothing (chosen a)
  where
    nothing : (b : Bool) → [] ≡ cond b (deltas_at a []) []
    nothing true = refl
    nothing false = refl
deltas-chosen a chosen (c ∷ later) = by (chosen c.address) (is_at (address_cmp a) c.address) refl refl (deltas-chosen a chosen later)
  where
    its : List Change → List Change
    its all = filter (λ change. chosen change.address) all

    at : List Change → List Change
    at all = filter (λ change. is_at (address_cmp a) change.address) all

    of : List Change → List Delta
    of all = map (λ d. d.delta) all

    there : (x : Bool) → x ≡ true → deltas_at a (its later) ≡ cond x (deltas_at a later) []
        → c.delta ∷ deltas_at a (its later) ≡ cond x (c.delta ∷ deltas_at a later) []
    there true p e = ap (λ ds. c.delta ∷ ds) e
    there false p e = absurd (cc)

    gone : (x : Bool) → x ≡ false → deltas_at a (its later) ≡ cond x (deltas_at a later) []
        → deltas_at a (its later) ≡ cond x (c.delta ∷ deltas_at a later) []
    gone true p e = absurd (cc)
    gone false p e = e

    by : (b d : Bool) → chosen c.address ≡ b → is_at (address_cmp a) c.address ≡ d
        → deltas_at a (its later) ≡ cond (chosen a) (deltas_at a later) []
        → of (at (cond b (c ∷ its later) (its later))) ≡ cond (chosen a) (of (cond d (c ∷ at later) (at later))) []
    by true true p q e =
        ap (λ x. of (cond x (c ∷ at (its later)) (at (its later)))) q
        ∙ there (chosen a) (ap chosen (same_address a c.address q) ∙ p) e
    by true false p q e = ap (λ x. of (cond x (c ∷ at (its later)) (at (its later)))) q ∙ e
    by false true p q e = gone (chosen a) (ap chosen (same_address a c.address q) ∙ p) e
    by false false p q e = e

-- at each of its addresses the later deltas come behind the kept ones, and all later changes are past what it took
pub follows_stand : FollowsStand
follows_stand changes later front to kept le stands behind = record {
  taken = omega (arith, stands.taken);
  deltas = λ a.
      deltas-append a kept.changes (filter (λ c. is_address kept c.address) later)
      ∙ ap (λ ds. ds ++ deltas_at a (filter (λ c. is_address kept c.address) later)) (stands.deltas a)
      ∙ ap (λ ds. cond (is_address kept a) (deltas_at a (past kept.taken changes)) [] ++ ds) (deltas-chosen a (is_address kept) later)
      ∙ both (is_address kept a) a
      ∙ ap (λ all. cond (is_address kept a) (deltas_at a all) []) (sym (past-append changes later kept.taken front stands.taken behind));
}
  where
    both : (b : Bool) (a : Address) → cond b (deltas_at a (past kept.taken changes)) [] ++ cond b (deltas_at a later) []
        ≡ cond b (deltas_at a (past kept.taken changes ++ later)) []
    both true a = sym (deltas-append a (past kept.taken changes) later)
    both false a = refl
