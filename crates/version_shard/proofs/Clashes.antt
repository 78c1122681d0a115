-- The least hit among a shard's versions is the least pair of a journal for which the shard holds.
use Rattle.std.proofs.Common.{◌≡◌, ℕ, ◌+◌, ◌-◌, ◌≤◌, suc, Bool, true, false, cond, ◌&&◌, nat_lt, List, [], ◌∷◌, filter, length, slice_get, Option}
use Rattle.std.proofs.Common.{Some, None, option_map, refl, sym, ap, ◌∙◌, subst, arith}
use Rattle.std.proofs.lemmas.List.{length-map}
use Rattle.std.specs.List.{AllByRecursion}
use Rattle.std.specs.BTreeMap.{is_at}
use Rattle.std.specs.Cmp.{eq_by_cmp_equiv}
use Rattle.rdt_types.specs.contracts.address.AddressOrd.TheImpl.Laws as order
use Rattle.rdt_types.specs.Addresses.{address_cmp}
use Rattle.rdt_types.specs.Deltas.{kind_changed}
use Rattle.conflict_table.specs.Clashes.{clash}
use Rattle.change_feed.specs.declared.change.Change.{Change}
use Rattle.abort_witness.specs.declared.witness.Based.{Based}
use Rattle.abort_witness.specs.declared.witness.Found.{Found}
use Rattle.abort_witness.specs.Kinds.{IsBasedOfOneKind}
use Rattle.abort_witness.specs.Pairs as pairs
use Rattle.abort_witness.specs.Pairs.{meets, clashes, first_clash, found_at, least_from, least, IsPair}
use Rattle.txn_lang.specs.States.{Journal}
use Rattle.journal_core.specs.Changes as journals
use Rattle.journal_core.specs.Changes.{changes, of_address}
use Rattle.journal_core.specs.Pairs as counted
use Rattle.journal_core.proofs.Each.{each-more, each-filter}
use Rattle.version_shard.specs.declared.version.Version.{Version}
use Rattle.version_shard.specs.Versions.{past, as_change, as_changes}
use Rattle.version_shard.specs.Shards.{Kept, Sharded, horizon, IsIn, versions_of, AreKept}
use Rattle.version_shard.specs.Standing.{Holds}
use Rattle.version_shard.specs.code.Clashing.{first_clashing, clashing_in, Hit, hit_by, IsClash, lesser, least_hit, steps_at, most_steps}

-- ---- the first change that clashes

-- the first change that clashes with an observation, if there is one
abbrev pub first_change : Based → List Change → Option Change
first_change based [] = None
first_change based (c ∷ rest) = cond (clashes based c) (Some c) (first_change based rest)

-- it has the number of the first clash
number-first : (based : Based) (all : List Change) → option_map (λ c. c.number) (first_change based all) ≡ first_clash based all
number-first based [] = refl
number-first based (c ∷ rest) = by (clashes based c) (number-first based rest)
  where
    by : (b : Bool) → option_map (λ c. c.number) (first_change based rest) ≡ first_clash based rest
        → option_map (λ c. c.number) (cond b (Some c) (first_change based rest)) ≡ cond b (Some c.number) (first_clash based rest)
    by true e = refl
    by false e = e

-- a change that clashes stands at a place
pub record Stands (based : Based) (all : List Change) (c : Change) : Type 0 where
  pub index : ℕ
  pub at : slice_get all index ≡ Some c
  pub clashing : clashes based c ≡ true

-- the first change that clashes stands where the search stopped
pub first-stands : (based : Based) (all : List Change) (c : Change) → first_change based all ≡ Some c → Stands based all c
first-stands based [] c e = absurd (cc)
first-stands based (d ∷ rest) c e = by (clashes based d) refl (λ f. first-stands based rest c f) e
  where
    by : (b : Bool) → clashes based d ≡ b → (first_change based rest ≡ Some c → Stands based rest c)
        → cond b (Some d) (first_change based rest) ≡ Some c → Stands based (d ∷ rest) c
    by true here again e = let is : d ≡ c = cc in record { index = 0; at = e; clashing = subst (λ (x : Change). clashes based x ≡ true) is here }
    by false here again e = let found = again e in record { index = suc found.index; at = found.at; clashing = found.clashing }

-- only what is past its base and at its address matters
first-own : (based : Based) (all : List Change) → first_change based (of_address based.address (journals.past based.base all)) ≡ first_change based all
first-own based [] = refl
first-own based (c ∷ rest) = by (nat_lt based.base c.number) refl (is_at (address_cmp based.address) c.address) refl (first-own based rest)
  where
    kept : List Change
    kept = of_address based.address (journals.past based.base rest)

    by : (p : Bool) → nat_lt based.base c.number ≡ p → (q : Bool) → is_at (address_cmp based.address) c.address ≡ q
        → first_change based kept ≡ first_change based rest
        → first_change based (of_address based.address (cond p (c ∷ journals.past based.base rest) (journals.past based.base rest)))
        ≡ cond ((p && q) && clash based.obs c.delta) (Some c) (first_change based rest)
    by true e true f again = rw f (rw e (rw f (ap (cond (clash based.obs c.delta) (Some c)) again)))
    by true e false f again = rw f again
    by false e q f again = again

-- and as many may be met
meets-own : (based : Based) (all : List Change) → of_address based.address (journals.past based.base all) ≡ filter (meets based) all
meets-own based [] = refl
meets-own based (c ∷ rest) = by (nat_lt based.base c.number) (is_at (address_cmp based.address) c.address) refl (meets-own based rest)
  where
    by : (p q : Bool) → is_at (address_cmp based.address) c.address ≡ q
        → of_address based.address (journals.past based.base rest) ≡ filter (meets based) rest
        → of_address based.address (cond p (c ∷ journals.past based.base rest) (journals.past based.base rest))
        ≡ cond (p && q) (c ∷ filter (meets based) rest) (filter (meets based) rest)
    by true true f again = rw f (ap (λ l. c ∷ l) again)
    by true false f again = rw f again
    by false q f again = again

-- ---- versions as changes

-- past the base every version of the address meets the observation, so only whether it clashes decides
first-versions : (based : Based) (later : List Version)
    → first_change based (as_changes based.address (past based.base later))
    ≡ option_map (as_change based.address) (first_clashing based.obs (past based.base later))
first-versions based [] = refl
first-versions based (x ∷ rest) = by (nat_lt based.base x.number) refl (first-versions based rest)
  where
    fits : (b : Bool) → first_change based (as_changes based.address (past based.base rest))
        ≡ option_map (as_change based.address) (first_clashing based.obs (past based.base rest))
        → cond b (Some (as_change based.address x)) (first_change based (as_changes based.address (past based.base rest)))
        ≡ option_map (as_change based.address) (cond b (Some x) (first_clashing based.obs (past based.base rest)))
    fits true e = refl
    fits false e = e

    by : (p : Bool) → nat_lt based.base x.number ≡ p
        → first_change based (as_changes based.address (past based.base rest))
        ≡ option_map (as_change based.address) (first_clashing based.obs (past based.base rest))
        → first_change based (as_changes based.address (cond p (x ∷ past based.base rest) (past based.base rest)))
        ≡ option_map (as_change based.address) (first_clashing based.obs (cond p (x ∷ past based.base rest) (past based.base rest)))
    by true e again =
        let at_itself : is_at (address_cmp based.address) based.address ≡ true = (eq_by_cmp_equiv order.total-law).refl based.address in
        rw (e, at_itself) (fits (clash based.obs x.delta) again)
    by false e again = again

-- ---- all observations

-- what a shard finds for an observation is the first change of the journal that clashes with it
abbrev pub Finds : Kept → List Change → Based → Type 0
Finds kept all b = option_map (as_change b.address) (clashing_in kept b) ≡ first_change b all

module _ (journal : Journal) (shard : Sharded) (holds : Holds journal shard) where
  -- the shard's changes past the base are the journal's at the address, and no others can clash
  finds : (b : Based) → IsIn shard b.address → horizon shard ≤ b.base → Finds shard.kept (changes journal) b
  finds b here low =
      sym (first-versions b (versions_of shard.kept b.address).later)
      ∙ ap (first_change b) (holds.changes b.address b.base here low)
      ∙ first-own b (changes journal)

  -- so for all observations that are in the shard and none of which is late
  pub all-found : (based : List Based) → AllByRecursion (λ b. IsIn shard b.address) based → AllByRecursion (λ b. horizon shard ≤ b.base) based
      → AllByRecursion (Finds shard.kept (changes journal)) based
  all-found [] here low = tt
  all-found (b ∷ rest) here low = (finds b here.0 low.0, all-found rest here.1 low.1)

  -- and as many versions may be met as changes
  pub steps-same : (based : List Based) → AllByRecursion (λ b. IsIn shard b.address) based → AllByRecursion (λ b. horizon shard ≤ b.base) based
      → most_steps shard.kept based ≡ counted.most_steps based (changes journal)
  steps-same [] here low = refl
  steps-same (b ∷ rest) here low =
      let later = past b.base (versions_of shard.kept b.address).later in
      let one : steps_at shard.kept b ≡ length (filter (meets b) (changes journal)) =
      sym (length-map later (as_change b.address)) ∙ ap length (holds.changes b.address b.base here.0 low.0 ∙ meets-own b (changes journal)) in
      ap (λ n. n + most_steps shard.kept rest) one ∙ ap (λ n. length (filter (meets b) (changes journal)) + n) (steps-same rest here.1 low.1)

-- a hit and a find are one
abbrev pub Agree : ℕ → List Based → Option Hit → Option Found → Type 0
Agree place based None None = Unit {0}
Agree place based None (Some found) = ⊥
Agree place based (Some hit) None = ⊥
Agree place based (Some hit) (Some found) = (found.number ≡ hit.1.number) × (place ≤ found.place) × (slice_get based (found.place - place) ≡ Some hit.0)

-- the least hit and the least pair are chosen alike: for each observation the shard and the journal find one number
pub agree : (place : ℕ) (kept : Kept) (all : List Change) (based : List Based) → AllByRecursion (Finds kept all) based
    → Agree place based (least_hit kept based) (least_from place based all)
agree place kept all [] finds = tt
agree place kept all (b ∷ rest) finds =
    by (clashing_in kept b) (first_clash b all) (numbered (clashing_in kept b) ∙ ap (option_map (λ c. c.number)) finds.0 ∙ number-first b all)
    (least_hit kept rest) (least_from (place + 1) rest all) (agree (place + 1) kept all rest finds.1)
  where
    numbered : (p : Option Version) → option_map (λ v. v.number) p ≡ option_map (λ c. c.number) (option_map (as_change b.address) p)
    numbered None = refl
    numbered (Some v) = refl

    behind : (h : Hit) (f : Found) → Agree (place + 1) rest (Some h) (Some f) → Agree place (b ∷ rest) (Some h) (Some f)
    behind h f a =
        let low = a.1 in
        let next : f.place - place ≡ suc (f.place - (place + 1)) = omega (arith, low) in
        (a.0, omega (arith, low), ap (slice_get (b ∷ rest)) next ∙ a.2)

    first : (v : Version) (n : ℕ) → v.number ≡ n → Agree place (b ∷ rest) (Some (b, v)) (Some (record { place = place; number = n }))
    first v n e = let zeroth : place - place ≡ 0 = omega arith in (sym e, omega arith, ap (slice_get (b ∷ rest)) zeroth)

    by : (p : Option Version) (n : Option ℕ) → option_map (λ v. v.number) p ≡ n → (h : Option Hit) (f : Option Found) → Agree (place + 1) rest h f
        → Agree place (b ∷ rest) (lesser (hit_by b p) h) (pairs.lesser (found_at place n) f)
    by None (Some n) e h f a = absurd (cc)
    by (Some v) None e h f a = absurd (cc)
    by None None e None None a = tt
    by None None e None (Some f) a = absurd a
    by None None e (Some h) None a = absurd a
    by None None e (Some h) (Some f) a = behind h f a
    by (Some v) (Some n) e None (Some f) a = absurd a
    by (Some v) (Some n) e (Some h) None a = absurd a
    by (Some v) (Some n) e None None a = first v n (cc)
    by (Some v) (Some n) e (Some h) (Some f) a =
        let is : v.number ≡ n = cc in
        let same : nat_lt h.1.number v.number ≡ nat_lt f.number n = ap (λ m. nat_lt m v.number) (sym a.0) ∙ ap (nat_lt f.number) is in
        subst (λ (c : Bool). Agree place (b ∷ rest) (cond (nat_lt h.1.number v.number) (Some h) (Some (b, v)))
        (cond c (Some f) (Some (record { place = place; number = n }))))
        same (choose is (nat_lt h.1.number v.number))
      where
        choose : v.number ≡ n → (c : Bool) → Agree place (b ∷ rest) (cond c (Some h) (Some (b, v)))
            (cond c (Some f) (Some (record { place = place; number = n })))
        choose is true = behind h f a
        choose is false = first v n is

-- ---- what is said of a hit

-- what is said of a hit, if there is one
abbrev pub IfHit : (Hit → Type 0) → Option Hit → Type 0
IfHit Q None = Unit {0}
IfHit Q (Some hit) = Q hit

-- what holds of both hits holds of the lesser, which is one of them
if-lesser : (Q : Hit → Type 0) (first second : Option Hit) → IfHit Q first → IfHit Q second → IfHit Q (lesser first second)
if-lesser Q None second p q = q
if-lesser Q (Some h) None p q = p
if-lesser Q (Some h) (Some k) p q = by (nat_lt k.1.number h.1.number)
  where
    by : (b : Bool) → IfHit Q (cond b (Some k) (Some h))
    by true = q
    by false = p

-- a version that is found clashes, and is of the kind of its address, as the observation is
first-clashes : (b : Based) (later : List Version) → AllByRecursion (λ v. kind_changed v.delta ≡ b.address.kind) later → IsBasedOfOneKind b
    → IfHit IsClash (hit_by b (first_clashing b.obs later))
first-clashes b [] kinds one = tt
first-clashes b (x ∷ rest) kinds one = by (clash b.obs x.delta) refl (first-clashes b rest kinds.1 one)
  where
    by : (c : Bool) → clash b.obs x.delta ≡ c → IfHit IsClash (hit_by b (first_clashing b.obs rest))
        → IfHit IsClash (hit_by b (cond c (Some x) (first_clashing b.obs rest)))
    by true e again = record { kind = one.observed ∙ sym kinds.0; clash = e }
    by false e again = again

-- so the least hit is a clash, since each version that is kept is of its address' kind
pub hits-clash : (front : ℕ) (kept : Kept) (based : List Based) → AreKept front kept → AllByRecursion IsBasedOfOneKind based
    → IfHit IsClash (least_hit kept based)
hits-clash front kept [] are ones = tt
hits-clash front kept (b ∷ rest) are ones =
    if-lesser IsClash (hit_by b (clashing_in kept b)) (least_hit kept rest)
    (first-clashes b (past b.base (versions_of kept b.address).later)
    (each-filter _ _ (versions_of kept b.address).later (each-more _ _ (versions_of kept b.address).later (λ v s. s.of_kind) (are b.address))) ones.0)
    (hits-clash front kept rest are ones.1)

-- it is the first change of the journal that clashes
abbrev pub IsFirst : List Change → Hit → Type 0
IsFirst all hit = first_change hit.0 all ≡ Some (as_change hit.0.address hit.1)

-- the least hit is found for some observation, and what a shard finds is the first change of the journal
pub hits-first : (kept : Kept) (all : List Change) (based : List Based) → AllByRecursion (Finds kept all) based → IfHit (IsFirst all) (least_hit kept based)
hits-first kept all [] finds = tt
hits-first kept all (b ∷ rest) finds =
    if-lesser (IsFirst all) (hit_by b (clashing_in kept b)) (least_hit kept rest) (by (clashing_in kept b) finds.0) (hits-first kept all rest finds.1)
  where
    by : (p : Option Version) → option_map (as_change b.address) p ≡ first_change b all → IfHit (IsFirst all) (hit_by b p)
    by None e = tt
    by (Some v) e = sym e
