-- A watch is stale exactly where commits since its report touch what its run observed.
use Rattle.std.proofs.Common.{◌≡◌, ℕ, ◌≤◌, nat_lt, nat_le, Bool, true, false, cond, ◌&&◌}
use Rattle.std.proofs.Common.{◌||◌, List, [], ◌∷◌, map, filter, Some, None, refl, sym, ap, ◌∙◌, arith}
use Rattle.std.proofs.Math.Bool.{or_assoc}
use Rattle.std.proofs.Math.Nat.{le_refl, le_trans}
use Rattle.std.proofs.lemmas.Bool.Decides.{leb_tells}
use Rattle.std.specs.List.{list_any, AllByRecursion}
use Rattle.std.specs.BTreeMap.{is_at}
use Rattle.std.specs.Option.{option_map_or}
use Rattle.rdt_types.specs.declared.address.Kind.{Kind}
use Rattle.rdt_types.specs.declared.address.Address.{Address}
use Rattle.rdt_types.specs.declared.delta.Delta.{Delta}
use Rattle.rdt_types.specs.Addresses.{address_cmp}
use Rattle.rdt_types.specs.Deltas.{kind_changed, compose}
use Rattle.rdt_types.specs.DeltaMaps.{delta_at}
use Rattle.rdt_types.proofs.OneKind.{kind-compose}
use Rattle.conflict_table.specs.declared.observation.Obs.{Obs}
use Rattle.conflict_table.specs.Clashes.{clash}
use Rattle.conflict_table.proofs.Keys.{or_none}
use Rattle.conflict_table.proofs.Rows.{compositions_clash_by_parts}
use Rattle.change_feed.specs.declared.change.Change.{Change}
use Rattle.change_feed.specs.Changes.{of_address, deltas_of}
use Rattle.change_feed.specs.Pending.{deltas_at, composed_after, pending}
use Rattle.change_feed.specs.Feeds.{Fed, AreOfTheirKinds}
use Rattle.change_feed.proofs.Pending.{AreOfKind, at-of_kind}
use Rattle.journal_core.specs.Changes.{between, up_to}
use Rattle.txn_lang.specs.declared.run.Seen.{Seen}
use Rattle.rerun_driver.specs.declared.watch.Watch.{Watch}
use Rattle.rerun_driver.specs.Watches.{clashes, touches, told}
use Rattle.rerun_driver.specs.Touched.{meets, is_touched, Follow, reached, told_each, StaleIsTouched}

-- ---- what is pending clashes where one of its deltas does

module _ (o : Obs) (k : Kind) where
  -- of deltas of one kind, composed after a first
  clash-composed_after : (first : Delta) (deltas : List Delta) → kind_changed first ≡ k → AreOfKind k deltas
      → option_map_or (clash o) (composed_after (Some first) deltas) false ≡ (clash o first || list_any (clash o) deltas)
  clash-composed_after first [] is all = sym (or_none (clash o first))
  clash-composed_after first (d ∷ deltas) is all =
      clash-composed_after (compose first d) deltas (kind-compose first d ∙ all.0) all.1
      ∙ ap (λ b. b || list_any (clash o) deltas) (compositions_clash_by_parts o first d (is ∙ sym all.0))
      ∙ or_assoc (clash o first) (clash o d) (list_any (clash o) deltas)

  -- and with nothing before
  clash-composed : (deltas : List Delta) → AreOfKind k deltas
      → option_map_or (clash o) (composed_after None deltas) false ≡ list_any (clash o) deltas
  clash-composed [] all = refl
  clash-composed (d ∷ deltas) all = clash-composed_after d deltas all.0 all.1

-- ---- the deltas at the observed address

-- one of them clashes where a change meets the observation
clash-deltas_at : (seen : Seen) (changes : List Change) → list_any (clash seen.obs) (deltas_at seen.address changes) ≡ list_any (meets seen) changes
clash-deltas_at seen [] = refl
clash-deltas_at seen (change ∷ changes) = by (is_at (address_cmp seen.address) change.address) (clash-deltas_at seen changes)
  where
    by : (b : Bool) → list_any (clash seen.obs) (deltas_of (of_address seen.address changes)) ≡ list_any (meets seen) changes
        → list_any (clash seen.obs) (deltas_of (cond b (change ∷ of_address seen.address changes) (of_address seen.address changes)))
        ≡ ((b && clash seen.obs change.delta) || list_any (meets seen) changes)
    by true rest = ap (λ x. clash seen.obs change.delta || x) rest
    by false rest = rest

-- fewer changes are of their kinds too
of_kinds-filter : (test : Change → Bool) (changes : List Change) → AreOfTheirKinds changes → AreOfTheirKinds (filter test changes)
of_kinds-filter test [] all = tt
of_kinds-filter test (change ∷ changes) all = by (test change) (of_kinds-filter test changes all.1)
  where
    by : (b : Bool) → AreOfTheirKinds (filter test changes) → AreOfTheirKinds (cond b (change ∷ filter test changes) (filter test changes))
    by true rest = (all.0, rest)
    by false rest = rest

-- so are those between two numbers, which two tests choose
of_kinds-between : (from to : ℕ) (changes : List Change) → AreOfTheirKinds changes → AreOfTheirKinds (between from to changes)
of_kinds-between from to changes all =
    of_kinds-filter (λ c. nat_lt from c.number) (up_to to changes) (of_kinds-filter (λ c. nat_le c.number to) changes all)

-- what is pending at the observed address clashes where a change meets the observation
clash-pending : (seen : Seen) (changes : List Change) → AreOfTheirKinds changes
    → option_map_or (clash seen.obs) (pending seen.address changes) false ≡ list_any (meets seen) changes
clash-pending seen changes all =
    clash-composed seen.obs seen.address.kind (deltas_at seen.address changes) (at-of_kind seen.address changes all) ∙ clash-deltas_at seen changes

-- ---- one feed

-- it touches what the changes do of which it has what is pending
pub touches-pending : (changes : List Change) (from : ℕ) (feed : Fed) (observations : List Seen) → AreOfTheirKinds changes
    → AllByRecursion (λ seen. delta_at feed.changes seen.address ≡ pending seen.address (between from feed.to changes)) observations
    → touches feed.changes observations ≡ is_touched changes from feed.to observations
touches-pending changes from feed [] kinds all = refl
touches-pending changes from feed (seen ∷ observations) kinds all =
    let here : clashes feed.changes seen ≡ list_any (meets seen) (between from feed.to changes) =
    ap (λ o. option_map_or (clash seen.obs) o false) all.0
    ∙ clash-pending seen (between from feed.to changes) (of_kinds-between from feed.to changes kinds) in
    let rest = touches-pending changes from feed observations kinds all.1 in
    λ i. here i || rest i

-- ---- one span of numbers after another

-- a test of the items that pass another
any-filter : {X : Type 0} (test chosen : X → Bool) (xs : List X) → list_any test (filter chosen xs) ≡ list_any (λ x. chosen x && test x) xs
any-filter test chosen [] = refl
any-filter test chosen (x ∷ xs) = by (chosen x) (any-filter test chosen xs)
  where
    by : (b : Bool) → list_any test (filter chosen xs) ≡ list_any (λ y. chosen y && test y) xs
        → list_any test (cond b (x ∷ filter chosen xs) (filter chosen xs)) ≡ ((b && test x) || list_any (λ y. chosen y && test y) xs)
    by true rest = ap (λ t. test x || t) rest
    by false rest = rest

-- a change of a commit past a number and up to another passes a test
abbrev within : (Change → Bool) → ℕ → ℕ → Change → Bool
within test from to change = nat_le change.number to && (nat_lt from change.number && test change)

-- a change between two numbers passes two tests, which are one
any-between : (test : Change → Bool) (from to : ℕ) (changes : List Change) → list_any test (between from to changes) ≡ list_any (within test from to) changes
any-between test from to changes =
    any-filter test (λ c. nat_lt from c.number) (up_to to changes) ∙ any-filter (λ c. nat_lt from c.number && test c) (λ c. nat_le c.number to) changes

-- a number is in one of two spans that follow one another where it is in both together
within_or : (a b c n : ℕ) (t : Bool) → a ≤ b → b ≤ c
    → ((nat_le n b && (nat_lt a n && t)) || (nat_le n c && (nat_lt b n && t))) ≡ (nat_le n c && (nat_lt a n && t))
within_or a b c n true first second = grind (arith, leb_tells)
within_or a b c n false first second = grind (arith, leb_tells)

-- none is past a number and up to it
within_none : (n m : ℕ) (t : Bool) → (nat_le m n && (nat_lt n m && t)) ≡ false
within_none n m true = grind (arith, leb_tells)
within_none n m false = grind (arith, leb_tells)

-- of four tests two pairs pass in any order
shuffled : (p q r s : Bool) → ((p || q) || (r || s)) ≡ ((p || r) || (q || s))
shuffled true q r s = refl
shuffled false true true s = refl
shuffled false true false s = refl
shuffled false false r s = refl

module _ (a b c : ℕ) (first : a ≤ b) (second : b ≤ c) where
  -- so a change in one of them passes a test
  any-joined : (test : Change → Bool) (changes : List Change)
      → (list_any (within test a b) changes || list_any (within test b c) changes) ≡ list_any (within test a c) changes
  any-joined test [] = refl
  any-joined test (change ∷ changes) =
      shuffled (within test a b change) _ (within test b c change) _
      ∙ (λ i. within_or a b c change.number (test change) first second i || any-joined test changes i)

  -- so observations are touched in one of two spans where they are in both together; by induction, an observation at a time
  pub touched-joined : (changes : List Change) (observations : List Seen)
      → (is_touched changes a b observations || is_touched changes b c observations) ≡ is_touched changes a c observations
  touched-joined changes [] = refl
  touched-joined changes (seen ∷ observations) =
      let test = meets seen in
      shuffled (list_any test (between a b changes)) _ (list_any test (between b c changes)) _
      ∙ ap (λ t. t || (is_touched changes a b observations || is_touched changes b c observations))
      ((λ i. any-between test a b changes i || any-between test b c changes i) ∙ any-joined test changes ∙ sym (any-between test a c changes))
      ∙ ap (λ t. list_any test (between a c changes) || t) (touched-joined changes observations)

-- no change is past a number and up to it
untouched_by : (test : Change → Bool) (n : ℕ) (changes : List Change) → list_any (within test n n) changes ≡ false
untouched_by test n [] = refl
untouched_by test n (change ∷ changes) = λ i. within_none n change.number (test change) i || untouched_by test n changes i

-- so nothing is touched from a number up to the same
pub untouched : (changes : List Change) (n : ℕ) (observations : List Seen) → is_touched changes n n observations ≡ false
untouched changes n [] = refl
untouched changes n (seen ∷ observations) =
    λ i. (any-between (meets seen) n n changes ∙ untouched_by (meets seen) n changes) i || untouched changes n observations i

-- ---- feeds, one after another

-- feeds that follow one another go forward, each from where the one before it went
reached-forward : (changes : List Change) (observations : List Seen) (from : ℕ) (feeds : List Fed) → Follow changes observations from feeds
    → from ≤ reached from feeds
reached-forward changes observations from [] follow = le_refl from
reached-forward changes observations from (feed ∷ feeds) follow =
    le_trans follow.0.forward (reached-forward changes observations feed.to feeds follow.1)

-- by induction over the feeds: one touches what is touched up to where it goes, and the rest what is touched from there on
stale-told_each : (changes : List Change) (watch : Watch) (from : ℕ) (feeds : List Fed) → AreOfTheirKinds changes → Follow changes watch.observations from feeds
    → (told_each feeds watch).stale ≡ (watch.stale || is_touched changes from (reached from feeds) watch.observations)
stale-told_each changes watch from [] kinds follow = sym (ap (λ b. watch.stale || b) (untouched changes from watch.observations) ∙ or_none watch.stale)
stale-told_each changes watch from (feed ∷ feeds) kinds follow =
    let seen = watch.observations in
    let to = reached feed.to feeds in
    stale-told_each changes (told feed.changes watch) feed.to feeds kinds follow.1
    ∙ ap (λ b. (watch.stale || b) || is_touched changes feed.to to seen) (touches-pending changes from feed seen kinds follow.0.pending)
    ∙ or_assoc watch.stale (is_touched changes from feed.to seen) (is_touched changes feed.to to seen)
    ∙ ap (λ b. watch.stale || b) (touched-joined from feed.to to follow.0.forward (reached-forward changes seen feed.to feeds follow.1) changes seen)

-- a watch that was just reported is not stale, so only the touched ones are
pub stale_is_touched : StaleIsTouched
stale_is_touched changes watch feeds kinds fresh follow =
    stale-told_each changes watch watch.number feeds kinds follow
    ∙ ap (λ b. b || is_touched changes watch.number (reached watch.number feeds) watch.observations) fresh
