-- What is found among what is kept, and what is put together of it.
use Rattle.std.proofs.Common.{◌≡◌, ℕ, suc, ◌+◌, ◌<◌, length, drop, get_or, Err, Bool, true, false, cond, ◌||◌, List, [], ◌∷◌, Option, Some, None, option_map, refl, sym, ap, ◌∙◌, subst, arith}
use Rattle.std.specs.Prelude.{◌==◌}
use Rattle.std.specs.List.{AllByRecursion}
use Rattle.std.specs.List.Sorted.{IsStrictlySortedBy}
use Rattle.std.specs.Map.{keys_of}
use Rattle.std.specs.BTreeMap.{is_at}
use Rattle.std.specs.Ordering.{is_eq}
use Rattle.std.proofs.lemmas.Bool.{eqb-true}
use Rattle.std.proofs.lemmas.Bool.Decides.{nat_tests}
use Rattle.std.proofs.lemmas.List.Folds.{list_any-append}
use Rattle.std.proofs.Math.Seq.{drop-cons}
use Rattle.std.proofs.lemmas.Option.{same_Some}
use Rattle.plain_data.proofs.Entries.{equal, lookup-insert_entry, sorted-insert_entry}
use Rattle.rdt_types.specs.contracts.address.AddressOrd.TheImpl.Laws as order
use Rattle.rdt_types.specs.declared.address.Address.{Address}
use Rattle.rdt_types.specs.declared.value.Value.{Value}
use Rattle.rdt_types.specs.Addresses.{address_cmp}
use Rattle.rdt_types.proofs.Addresses.{address_cmp-equal}
use Rattle.rdt_types.specs.Shards.{shard_of}
use Rattle.abort_witness.specs.declared.witness.Based.{Based}
use Rattle.txn_lang.specs.declared.run.Seen.{Seen}
use Rattle.txn_lang.specs.declared.snaps.Snap.{Snap}
use Rattle.journal_core.specs.declared.ready.PreparedFront.{PreparedFront}
use Rattle.record_code.specs.Fields.{◌>>=◌}
use Rattle.docc_prepare.specs.Attempts.{SnapList, has_front, least_unprepared, lesser}
use Rattle.docc_prepare.proofs.EachRead.{each-inserted}
use Rattle.docc_prepare.proofs.Each.{each-push}
use Rattle.remote_wire.specs.declared.request.Base.{Base}
use Rattle.remote_service.specs.declared.kept.KeptSnap.{KeptSnap}
use Rattle.remote_service.specs.declared.kept.KeptFront.{KeptFront}
use Rattle.remote_service.specs.declared.error.ServiceError.{ServiceError}
use Rattle.remote_service.specs.declared.error.ServiceError.TheVariants as error
use Rattle.remote_service.specs.code.Finds.{Finds}
use Rattle.remote_service.specs.Keeping.{is_at_base, value_kept, was_given, are_same, is_front_of, later_front, last_front, front_kept}
use Rattle.remote_service.specs.Anew.{unless_read, named_value, with_value, values_on, front_in, and_front, with_shard, fronts_on}
use Rattle.remote_service.proofs.Alike.{and_parts, based_list_same}
use Rattle.remote_service.proofs.Reasked.{at, at-itself}

-- what was found where something was found before
pub bound : {A C : Type 0} (o : Option A) (f : A → Option C) (y : C) → (o >>= f) ≡ Some y → (x : A) × (o ≡ Some x) × (f x ≡ Some y)
bound None f y e = absurd (cc)
bound (Some x) f y e = (x, refl, e)

-- ---- values

module _ (P : KeptSnap → Type 0) where
  -- what holds of a value holds of it at the address and the base that it passes for
  at-base : (x : KeptSnap) (a : Address) (base : ℕ) (v : Value) → is_at_base a base x ≡ true → x.value ≡ v → P x
      → P (record { address = a; base = base; value = v })
  at-base x a base v e same p =
      let parts = and_parts (is_at (address_cmp a) x.address) (x.base == base) e in
      let here : a ≡ x.address = address_cmp-equal a x.address (equal (address_cmp a x.address) parts.0) in
      let there : x.base ≡ base = eqb-true x.base base parts.1 in
      subst P (λ i. record { address = sym here i; base = there i; value = same i }) p

  -- what holds of all that is kept holds of what is found there
  pub value-found : (kept : List KeptSnap) (a : Address) (base : ℕ) (v : Value) → AllByRecursion P kept → value_kept kept a base ≡ Some v
      → P (record { address = a; base = base; value = v })
  value-found [] a base v all e = absurd (cc)
  value-found (x ∷ kept) a base v all e = by (is_at_base a base x) refl e (λ f. value-found kept a base v all.1 f)
    where
      by : (b : Bool) → is_at_base a base x ≡ b → cond b (Some x.value) (value_kept kept a base) ≡ Some v
          → (value_kept kept a base ≡ Some v → P (record { address = a; base = base; value = v }))
          → P (record { address = a; base = base; value = v })
      by true h f rest = at-base x a base v h (same_Some x.value v f) all.0
      by false h f rest = rest f

-- what holds of each base that is kept holds of one that was given
pub given-found : (Q : Address → ℕ → Type 0) (kept : List KeptSnap) (a : Address) (base : ℕ) → AllByRecursion (λ x. Q x.address x.base) kept
    → was_given kept a base ≡ true → Q a base
given-found Q [] a base all e = absurd (cc)
given-found Q (x ∷ kept) a base all e = by (is_at_base a base x) refl e (λ f. given-found Q kept a base all.1 f)
  where
    by : (b : Bool) → is_at_base a base x ≡ b → (b || was_given kept a base) ≡ true → (was_given kept a base ≡ true → Q a base) → Q a base
    by true h f rest = at-base (λ y. Q y.address y.base) x a base x.value h refl all.0
    by false h f rest = rest f

-- what is found at a named base was not read before, and is kept
named-parts : (o : Option Snap) (p : Option Value) (v : Value) → unless_read o p ≡ Some v → (o ≡ None) × (p ≡ Some v)
named-parts None p v e = (refl, e)
named-parts (Some x) p v e = absurd (cc)

module _ (kept : List KeptSnap) where
  -- a step on the way to the values
  record OneMore (b : Base) (rest : List Base) (snaps all : SnapList) : Type 0 where
    value : Value
    missing : at snaps b.address ≡ None
    there : value_kept kept b.address b.base ≡ Some value
    others : values_on kept rest (with_value snaps b value) ≡ Some all

  one-more : (b : Base) (rest : List Base) (snaps all : SnapList) → values_on kept (b ∷ rest) snaps ≡ Some all → OneMore b rest snaps all
  one-more b rest snaps all e =
      let x = bound (named_value kept snaps b) (λ v. values_on kept rest (with_value snaps b v)) all e in
      let parts = named-parts (at snaps b.address) (value_kept kept b.address b.base) x.0 x.1 in
      record { value = x.0; missing = parts.0; there = parts.1; others = x.2 }

  -- what holds of each value that is kept holds of each that is read
  pub each-value : (P : Address × Snap → Type 0) → ((a : Address) (base : ℕ) (v : Value) → value_kept kept a base ≡ Some v → P (a, record { base = base; value = v }))
      → (named : List Base) (snaps all : SnapList) → values_on kept named snaps ≡ Some all → AllByRecursion P snaps → AllByRecursion P all
  each-value P holds [] snaps all e each = subst (AllByRecursion P) (same_Some snaps all e) each
  each-value P holds (b ∷ rest) snaps all e each = let m = one-more b rest snaps all e in
      each-value P holds rest (with_value snaps b m.value) all m.others
      (each-inserted P snaps b.address (record { base = b.base; value = m.value }) (holds b.address b.base m.value m.there) each)

  -- addresses rise
  pub values-rise : (named : List Base) (snaps all : SnapList) → values_on kept named snaps ≡ Some all → IsStrictlySortedBy address_cmp (keys_of snaps)
      → IsStrictlySortedBy address_cmp (keys_of all)
  values-rise [] snaps all e rising = subst (λ (xs : SnapList). IsStrictlySortedBy address_cmp (keys_of xs)) (same_Some snaps all e) rising
  values-rise (b ∷ rest) snaps all e rising = let m = one-more b rest snaps all e in
      values-rise rest (with_value snaps b m.value) all m.others
      (sorted-insert_entry address_cmp order.total-law b.address (record { base = b.base; value = m.value }) snaps rising)

  -- what is read stays so
  stays-read : (named : List Base) (snaps all : SnapList) (a : Address) (x : Snap) → values_on kept named snaps ≡ Some all → at snaps a ≡ Some x
      → at all a ≡ Some x
  stays-read [] snaps all a x e there = subst (λ (xs : SnapList). at xs a ≡ Some x) (same_Some snaps all e) there
  stays-read (b ∷ rest) snaps all a x e there = let m = one-more b rest snaps all e in
      stays-read rest (with_value snaps b m.value) all a x m.others
      (lookup-insert_entry address_cmp order.total-law a b.address (record { base = b.base; value = m.value }) snaps
      ∙ by m.value (is_eq (address_cmp a b.address)) refl m.missing)
    where
      by : (v : Value) (c : Bool) → is_eq (address_cmp a b.address) ≡ c → at snaps b.address ≡ None
          → cond c (Some (record { base = b.base; value = v })) (at snaps a) ≡ Some x
      by v false h none = there
      by v true h none =
          let same : a ≡ b.address = address_cmp-equal a b.address (equal (address_cmp a b.address) h) in
          let clash : None ≡ Some x = sym none ∙ (ap (at snaps) (sym same) ∙ there) in absurd (cc)

  -- a value is read at a base
  pub record ReadsAt (snaps : SnapList) (b : Base) : Type 0 where
    pub value : Value
    pub there : at snaps b.address ≡ Some (record { base = b.base; value = value })

  -- at each named base a value is read
  pub names-read : (named : List Base) (snaps all : SnapList) → values_on kept named snaps ≡ Some all → AllByRecursion (ReadsAt all) named
  names-read [] snaps all e = tt
  names-read (b ∷ rest) snaps all e = let m = one-more b rest snaps all e in (
    record {
      value = m.value;
      there = stays-read rest (with_value snaps b m.value) all b.address (record { base = b.base; value = m.value }) m.others
          (lookup-insert_entry address_cmp order.total-law b.address b.address (record { base = b.base; value = m.value }) snaps
          ∙ ap (λ c. cond c (Some (record { base = b.base; value = m.value })) (at snaps b.address)) (at-itself b.address));
    },
    names-read rest (with_value snaps b m.value) all m.others,
  )

  -- and only there: what is read was read before, or at a named base
  pub only-named : (Q : Base → Type 0) (named : List Base) (snaps all : SnapList) → values_on kept named snaps ≡ Some all → AllByRecursion Q named
      → ((a : Address) (x : Snap) → at snaps a ≡ Some x → Q (record { address = a; base = x.base }))
      → (a : Address) (x : Snap) → at all a ≡ Some x → Q (record { address = a; base = x.base })
  only-named Q [] snaps all e each before a x there = before a x (subst (λ (xs : SnapList). at xs a ≡ Some x) (sym (same_Some snaps all e)) there)
  only-named Q (b ∷ rest) snaps all e each before a x there = let m = one-more b rest snaps all e in
      only-named Q rest (with_value snaps b m.value) all m.others each.1 (λ c y found. by c y m.value (is_eq (address_cmp c b.address)) refl
      (sym (lookup-insert_entry address_cmp order.total-law c b.address (record { base = b.base; value = m.value }) snaps) ∙ found)) a x there
    where
      by : (c : Address) (y : Snap) (v : Value) (t : Bool) → is_eq (address_cmp c b.address) ≡ t
          → cond t (Some (record { base = b.base; value = v })) (at snaps c) ≡ Some y → Q (record { address = c; base = y.base })
      by c y v false h found = before c y found
      by c y v true h found =
          let same : c ≡ b.address = address_cmp-equal c b.address (equal (address_cmp c b.address) h) in
          let is : b.base ≡ y.base = ap (λ (s : Snap). s.base) (same_Some _ y found) in
          subst Q (λ i. record { address = sym same i; base = is i }) each.0

-- ---- fronts

-- what is asked for at the front of these observations holds of the last that was given
last-found : (Q : ℕ → Type 0) (shard : ℕ) (observed : List Based) (found : Option ℕ) (kept : List KeptFront) (front : ℕ)
    → ((n : ℕ) → found ≡ Some n → Q n) → AllByRecursion (λ x. is_front_of shard observed x ≡ true → Q x.front) kept
    → last_front shard observed found kept ≡ Some front → Q front
last-found Q shard observed found [] front before all e = before front e
last-found Q shard observed found (x ∷ kept) front before all e =
    last-found Q shard observed (later_front shard observed x found) kept front (λ n h. by (is_front_of shard observed x) refl n h) all.1 e
  where
    by : (b : Bool) → is_front_of shard observed x ≡ b → (n : ℕ) → cond b (Some x.front) found ≡ Some n → Q n
    by true h n f = subst Q (same_Some x.front n f) (all.0 h)
    by false h n f = before n f

-- what holds of all fronts that are kept holds of the one that is found
pub front-found : (P : KeptFront → Type 0) (kept : List KeptFront) (shard : ℕ) (observed : List Based) (front : ℕ) → AllByRecursion P kept
    → front_kept kept shard observed ≡ Some front → P (record { shard = shard; based = observed; front = front })
front-found P kept shard observed front all e =
    last-found (λ n. P (record { shard = shard; based = observed; front = n })) shard observed None kept front (λ n h. absurd (cc)) (passing kept all) e
  where
    passing : (xs : List KeptFront) → AllByRecursion P xs
        → AllByRecursion (λ x. is_front_of shard observed x ≡ true → P (record { shard = shard; based = observed; front = x.front })) xs
    passing [] all = tt
    passing (x ∷ xs) all = (
      λ h. (let parts = and_parts (x.shard == shard) (are_same x.based observed) h in
          let k : x.shard ≡ shard = eqb-true x.shard shard parts.0 in let o : x.based ≡ observed = based_list_same x.based observed parts.1 in
          subst P (λ i. record { shard = k i; based = o i; front = x.front }) all.0),
      passing xs all.1,
    )

module _ (kept : List KeptFront) (shards : ℕ) (observed : List Based) where
  -- a shard has a front, or gets the one that was given
  data OneFront (shard : ℕ) (fronts : List PreparedFront) : List PreparedFront → Type 0 where
    had : has_front fronts shard ≡ true → OneFront shard fronts fronts
    got : (front : ℕ) → front_in kept shards observed shard ≡ Some front → OneFront shard fronts (and_front fronts shard front)

  one-front : (shard : ℕ) (fronts more : List PreparedFront) → with_shard kept shards observed shard fronts ≡ Some more → OneFront shard fronts more
  one-front shard fronts more e = by (has_front fronts shard) refl e
    where
      new : (o : Option ℕ) → front_in kept shards observed shard ≡ o → option_map (and_front fronts shard) o ≡ Some more → OneFront shard fronts more
      new None h e = absurd (cc)
      new (Some front) h e = subst (OneFront shard fronts) (same_Some _ more e) (OneFront.got front h)

      by : (b : Bool) → has_front fronts shard ≡ b
          → cond b (Some fronts) (option_map (and_front fronts shard) (front_in kept shards observed shard)) ≡ Some more → OneFront shard fronts more
      by true h e = subst (OneFront shard fronts) (same_Some fronts more e) (OneFront.had h)
      by false h e = new (front_in kept shards observed shard) refl e

  -- so it has one then
  has-one : (shard : ℕ) (fronts more : List PreparedFront) → OneFront shard fronts more → has_front more shard ≡ true
  has-one shard fronts more (OneFront.had h) = h
  has-one shard fronts more (OneFront.got front h) =
      list_any-append (λ (p : PreparedFront). p.shard == shard) fronts (record { shard = shard; front = front } ∷ [])
      ∙ last (has_front fronts shard)
    where
      same : (shard == shard) ≡ true
      same = grind (arith, nat_tests)

      last : (b : Bool) → (b || ((shard == shard) || false)) ≡ true
      last true = refl
      last false = ap (λ c. c || false) same

  -- and whatever had one has it
  keeps-one : (k shard : ℕ) (fronts more : List PreparedFront) → OneFront shard fronts more → has_front fronts k ≡ true → has_front more k ≡ true
  keeps-one k shard fronts more (OneFront.had h) has = has
  keeps-one k shard fronts more (OneFront.got front h) has =
      list_any-append (λ (p : PreparedFront). p.shard == k) fronts (record { shard = shard; front = front } ∷ [])
      ∙ ap (λ b. b || ((shard == k) || false)) has

  -- what holds of each front that is found holds of all
  each-one : (P : PreparedFront → Type 0)
      → ((k front : ℕ) → front_in kept shards observed k ≡ Some front → P (record { shard = k; front = front }))
      → (shard : ℕ) (fronts more : List PreparedFront) → OneFront shard fronts more → AllByRecursion P fronts → AllByRecursion P more
  each-one P holds shard fronts more (OneFront.had h) all = all
  each-one P holds shard fronts more (OneFront.got front h) all = each-push P fronts (record { shard = shard; front = front }) all (holds shard front h)

  pub each-front : (P : PreparedFront → Type 0)
      → ((k front : ℕ) → front_in kept shards observed k ≡ Some front → P (record { shard = k; front = front }))
      → (rest : List Seen) (fronts all : List PreparedFront) → fronts_on kept shards observed rest fronts ≡ Some all
      → AllByRecursion P fronts → AllByRecursion P all
  each-front P holds [] fronts all e each = subst (AllByRecursion P) (same_Some fronts all e) each
  each-front P holds (z ∷ rest) fronts all e each =
      let x = bound (with_shard kept shards observed (shard_of z.address shards) fronts) (λ more. fronts_on kept shards observed rest more) all e in
      each-front P holds rest x.0 all x.2
      (each-one P holds (shard_of z.address shards) fronts x.0 (one-front (shard_of z.address shards) fronts x.0 x.1) each)

  -- what has a front keeps it
  fronts-stay : (rest : List Seen) (fronts all : List PreparedFront) (k : ℕ) → fronts_on kept shards observed rest fronts ≡ Some all
      → has_front fronts k ≡ true → has_front all k ≡ true
  fronts-stay [] fronts all k e has = subst (λ (xs : List PreparedFront). has_front xs k ≡ true) (same_Some fronts all e) has
  fronts-stay (z ∷ rest) fronts all k e has =
      let x = bound (with_shard kept shards observed (shard_of z.address shards) fronts) (λ more. fronts_on kept shards observed rest more) all e in
      fronts-stay rest x.0 all k x.2
      (keeps-one k (shard_of z.address shards) fronts x.0 (one-front (shard_of z.address shards) fronts x.0 x.1) has)

  -- each shard in which something was observed has a front
  pub fronts-cover : (rest : List Seen) (fronts all : List PreparedFront) → fronts_on kept shards observed rest fronts ≡ Some all
      → AllByRecursion (λ z. has_front all (shard_of z.address shards) ≡ true) rest
  fronts-cover [] fronts all e = tt
  fronts-cover (z ∷ rest) fronts all e =
      let x = bound (with_shard kept shards observed (shard_of z.address shards) fronts) (λ more. fronts_on kept shards observed rest more) all e in (
        fronts-stay rest x.0 all (shard_of z.address shards) x.2
            (has-one (shard_of z.address shards) fronts x.0 (one-front (shard_of z.address shards) fronts x.0 x.1)),
        fronts-cover rest x.0 all x.2,
      )

  -- ---- in the code

  -- a shard that has a front needs none
  pub shard_had : (shard : ℕ) (fronts : List PreparedFront) → has_front fronts shard ≡ true → with_shard kept shards observed shard fronts ≡ Some fronts
  shard_had shard fronts h = ap (λ b. cond b (Some fronts) (option_map (and_front fronts shard) (front_in kept shards observed shard))) h

  -- another gets the one that was given
  pub shard_got : (shard : ℕ) (fronts : List PreparedFront) (o : Option ℕ) → has_front fronts shard ≡ false → front_in kept shards observed shard ≡ o
      → with_shard kept shards observed shard fronts ≡ option_map (and_front fronts shard) o
  shard_got shard fronts o h e = ap (λ b. cond b (Some fronts) (option_map (and_front fronts shard) (front_in kept shards observed shard))) h
      ∙ ap (option_map (and_front fronts shard)) e

  -- what is left before an observation is that one, and what is left behind it
  left : (seen : List Seen) (i : ℕ) (z : Seen) → i < length seen → z ≡ get_or seen i z → drop i seen ≡ z ∷ drop (i + 1) seen
  left seen i z within is =
      let next : suc i ≡ i + 1 = omega arith in
      drop-cons seen i z within ∙ ap (λ n. get_or seen i z ∷ drop n seen) next ∙ ap (λ x. x ∷ drop (i + 1) seen) (sym is)

  -- one observation more
  pub fronts_next : (seen : List Seen) (i : ℕ) (z : Seen) (fronts more : List PreparedFront) → i < length seen → z ≡ get_or seen i z
      → with_shard kept shards observed (shard_of z.address shards) fronts ≡ Some more
      → fronts_on kept shards observed (drop i seen) fronts ≡ fronts_on kept shards observed (drop (i + 1) seen) more
  fronts_next seen i z fronts more within is e =
      ap (λ rest. fronts_on kept shards observed rest fronts) (left seen i z within is)
      ∙ ap (λ o. o >>= λ more. fronts_on kept shards observed (drop (i + 1) seen) more) e

  -- a shard without a front ends it
  pub fronts_lack : (seen : List Seen) (i : ℕ) (z : Seen) (fronts : List PreparedFront) (whole : Option (List PreparedFront)) (e : ServiceError)
      → whole ≡ fronts_on kept shards observed (drop i seen) fronts → i < length seen → z ≡ get_or seen i z
      → has_front fronts (shard_of z.address shards) ≡ false
      → Finds (λ (n : ℕ). n) (Err e) (front_in kept shards observed (shard_of z.address shards))
      → Finds (λ (xs : List PreparedFront). xs) (Err e) whole
  fronts_lack seen i z fronts whole error.Malformed so within is h found =
      so ∙ ap (λ rest. fronts_on kept shards observed rest fronts) (left seen i z within is)
      ∙ ap (λ o. o >>= λ more. fronts_on kept shards observed (drop (i + 1) seen) more) (shard_got (shard_of z.address shards) fronts None h found)
  fronts_lack seen i z fronts whole error.NoMemory so within is h found = tt
  fronts_lack seen i z fronts whole error.StoreFault so within is h found = absurd found

-- so none is left to prepare
pub none-left : (shards : ℕ) (fronts : List PreparedFront) (seen : List Seen)
    → AllByRecursion (λ z. has_front fronts (shard_of z.address shards) ≡ true) seen → least_unprepared shards fronts seen ≡ None
none-left shards fronts [] all = refl
none-left shards fronts (z ∷ seen) all =
    ap (λ b. cond b (least_unprepared shards fronts seen)
    (Some (lesser (shard_of z.address shards) (least_unprepared shards fronts seen)))) all.0
    ∙ none-left shards fronts seen all.1
