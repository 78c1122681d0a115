-- What is named of what a service keeps is found there.
use Rattle.std.proofs.Common.{◌≡◌, ℕ, Bool, true, false, cond, ◌||◌, ◌&&◌, List, [], ◌∷◌, ◌++◌, Option, Some, None, refl, sym, ap, ◌∙◌, subst}
use Rattle.std.specs.Prelude.{◌==◌}
use Rattle.std.specs.List.{AllByRecursion, list_any}
use Rattle.std.specs.Ordering.{is_eq}
use Rattle.std.proofs.lemmas.Bool.{eqb-true, or_parts}
use Rattle.std.proofs.lemmas.Cmp.{lists_equiv}
use Rattle.std.proofs.lemmas.List.Folds.{list_any-append}
use Rattle.plain_data.proofs.Entries.{lookup-insert_entry}
use Rattle.rdt_types.specs.contracts.address.AddressOrd.TheImpl.Laws as order
use Rattle.rdt_types.specs.declared.address.Address.{Address}
use Rattle.rdt_types.specs.declared.value.Value.{Value}
use Rattle.rdt_types.specs.Addresses.{address_cmp}
use Rattle.rdt_types.specs.Shards.{shard_of}
use Rattle.abort_witness.specs.declared.witness.Based.{Based}
use Rattle.abort_witness.specs.contracts.witness.BasedEq.TheImpl.Laws.{laws-law}
use Rattle.txn_lang.specs.declared.run.Seen.{Seen}
use Rattle.journal_core.specs.declared.ready.PreparedFront.{PreparedFront}
use Rattle.record_code.specs.Fields.{◌>>=◌}
use Rattle.docc_prepare.specs.Attempts.{SnapList, in_shard, has_front}
use Rattle.remote_wire.specs.declared.request.Base.{Base}
use Rattle.remote_calls.specs.Spelled.{is_among, naming}
use Rattle.remote_service.specs.declared.kept.KeptSnap.{KeptSnap}
use Rattle.remote_service.specs.declared.kept.KeptFront.{KeptFront}
use Rattle.remote_service.specs.Keeping.{is_at_base, value_kept, was_given, are_same, is_front_of, last_front}
use Rattle.remote_service.specs.Anew.{unless_read, with_value, values_on, front_in, and_front, fronts_on}
use Rattle.remote_service.proofs.Found.{shard_had, shard_got}
use Rattle.remote_service.proofs.Named.{entry}
use Rattle.remote_service.proofs.Reasked.{at}
use Rattle.remote_direct.specs.Directing.{was_prepared}

-- ---- what is kept behind more

pub or-true : (b : Bool) → (b || true) ≡ true
or-true true = refl
or-true false = refl

module _ {A : Type 0} (test : A → Bool) where
  -- what passes a test among some does so among more
  pub any-more : (xs ys : List A) → list_any test xs ≡ true → list_any test (xs ++ ys) ≡ true
  any-more xs ys e = list_any-append test xs ys ∙ ap (λ b. b || list_any test ys) e

  -- and the last one does, if it passes
  pub any-last : (xs : List A) (x : A) → test x ≡ true → list_any test (xs ++ x ∷ []) ≡ true
  any-last xs x e = list_any-append test xs (x ∷ []) ∙ (ap (λ b. list_any test xs || (b || false)) e ∙ or-true (list_any test xs))

-- observations are the same as themselves
pub same-itself : (observed : List Based) → are_same observed observed ≡ true
same-itself observed = (lists_equiv laws-law).refl observed

-- ---- values

-- where a base was given there is a value
pub value-there : (kept : List KeptSnap) (a : Address) (base : ℕ) → was_given kept a base ≡ true → (v : Value) × (value_kept kept a base ≡ Some v)
value-there [] a base e = absurd (cc)
value-there (x ∷ kept) a base e = by (is_at_base a base x) refl e (value-there kept a base)
  where
    by : (b : Bool) → is_at_base a base x ≡ b → (b || was_given kept a base) ≡ true
        → (was_given kept a base ≡ true → (v : Value) × (value_kept kept a base ≡ Some v))
        → (v : Value) × (value_kept (x ∷ kept) a base ≡ Some v)
    by true h e rest = (x.value, ap (λ b. cond b (Some x.value) (value_kept kept a base)) h)
    by false h e rest = let r = rest e in (r.0, ap (λ b. cond b (Some x.value) (value_kept kept a base)) h ∙ r.1)

-- each isn't among those before it
abbrev pub AreApart : List Base → List Base → Type 0
AreApart before [] = Unit {0}
AreApart before (n ∷ rest) = (is_among before n.address ≡ false) × AreApart (before ++ n ∷ []) rest

-- what isn't among some, nor is one more, isn't among these
among-push : (before : List Base) (n : Base) (a : Address) → is_among before a ≡ false → is_eq (address_cmp a n.address) ≡ false
    → is_among (before ++ n ∷ []) a ≡ false
among-push before n a e f = list_any-append (λ (b : Base). is_eq (address_cmp a b.address)) before (n ∷ [])
    ∙ (ap (λ p. p || (is_eq (address_cmp a n.address) || false)) e ∙ ap (λ p. p || false) f)

among-parts : (before : List Base) (n : Base) (a : Address) → is_among (before ++ n ∷ []) a ≡ false
    → (is_among before a ≡ false) × (is_eq (address_cmp a n.address) ≡ false)
among-parts before n a e =
    let outer = or_parts (is_among before a) (is_eq (address_cmp a n.address) || false)
    (sym (list_any-append (λ (b : Base). is_eq (address_cmp a b.address)) before (n ∷ [])) ∙ e) in
    (outer.0, (or_parts (is_eq (address_cmp a n.address)) false outer.1).0)

-- one more that isn't among them is apart from them
apart-push : (before xs : List Base) (n : Base) → AreApart before xs → is_among before n.address ≡ false → is_among xs n.address ≡ false
    → AreApart before (xs ++ n ∷ [])
apart-push before [] n apart e f = (e, tt)
apart-push before (x ∷ xs) n apart e f =
    let parts = or_parts (is_eq (address_cmp n.address x.address)) (is_among xs n.address) f in
    (apart.0, apart-push (before ++ x ∷ []) xs n apart.1 (among-push before x n.address e parts.0) parts.1)

-- what observations name is apart
pub naming-apart : (named : List Base) (rest : List Based) → AreApart [] named → AreApart [] (naming named rest)
naming-apart named [] apart = apart
naming-apart named (b ∷ rest) apart =
    by (is_among named b.address) refl (naming-apart named rest apart) (λ more. naming-apart (named ++ entry b ∷ []) rest more)
  where
    by : (x : Bool) → is_among named b.address ≡ x → AreApart [] (naming named rest)
        → (AreApart [] (named ++ entry b ∷ []) → AreApart [] (naming (named ++ entry b ∷ []) rest))
        → AreApart [] (naming (cond x named (named ++ entry b ∷ [])) rest)
    by true e same more = same
    by false e same more = more (apart-push [] named (entry b) apart refl e)

module _ (kept : List KeptSnap) where
  -- what is named apart, each at a base that was given, is read
  pub values-there : (named before : List Base) (snaps : SnapList) → AreApart before named
      → AllByRecursion (λ n. was_given kept n.address n.base ≡ true) named → ((a : Address) → is_among before a ≡ false → at snaps a ≡ None)
      → (all : SnapList) × (values_on kept named snaps ≡ Some all)
  values-there [] before snaps apart given none = (snaps, refl)
  values-there (n ∷ rest) before snaps apart given none =
      let v = value-there kept n.address n.base given.0 in
      let found = ap (λ o. unless_read o (value_kept kept n.address n.base)) (none n.address apart.0) ∙ v.1 in
      let more = values-there rest (before ++ n ∷ []) (with_value snaps n v.0) apart.1 given.1
      (λ a e. let parts = among-parts before n a e in
      lookup-insert_entry address_cmp order.total-law a n.address (record { base = n.base; value = v.0 }) snaps
      ∙ (ap (λ c. cond c (Some (record { base = n.base; value = v.0 })) (at snaps a)) parts.1 ∙ none a parts.0)) in
      (more.0, ap (λ o. o >>= λ v. values_on kept rest (with_value snaps n v)) found ∙ more.1)

-- ---- fronts

module _ (shard : ℕ) (observed : List Based) where
  -- where a front was found one is found in the end
  still-there : (n : ℕ) (kept : List KeptFront) → (m : ℕ) × (last_front shard observed (Some n) kept ≡ Some m)
  still-there n [] = (n, refl)
  still-there n (x ∷ kept) = by (is_front_of shard observed x) refl (still-there x.front kept) (still-there n kept)
    where
      by : (b : Bool) → is_front_of shard observed x ≡ b → (m : ℕ) × (last_front shard observed (Some x.front) kept ≡ Some m)
          → (m : ℕ) × (last_front shard observed (Some n) kept ≡ Some m) → (m : ℕ) × (last_front shard observed (Some n) (x ∷ kept) ≡ Some m)
      by true e new old = (new.0, ap (λ b. last_front shard observed (cond b (Some x.front) (Some n)) kept) e ∙ new.1)
      by false e new old = (old.0, ap (λ b. last_front shard observed (cond b (Some x.front) (Some n)) kept) e ∙ old.1)

  -- where a front was given for these observations one is found
  pub prepared-there : (front : ℕ) (found : Option ℕ) (kept : List KeptFront) → was_prepared kept shard observed front ≡ true
      → (m : ℕ) × (last_front shard observed found kept ≡ Some m)
  prepared-there front found [] e = absurd (cc)
  prepared-there front found (x ∷ kept) e = by (is_front_of shard observed x) refl e (prepared-there front found kept)
    where
      by : (b : Bool) → is_front_of shard observed x ≡ b → ((b && (x.front == front)) || was_prepared kept shard observed front) ≡ true
          → (was_prepared kept shard observed front ≡ true → (m : ℕ) × (last_front shard observed found kept ≡ Some m))
          → (m : ℕ) × (last_front shard observed found (x ∷ kept) ≡ Some m)
      by true h e rest = let new = still-there x.front kept in
          (new.0, ap (λ b. last_front shard observed (cond b (Some x.front) found) kept) h ∙ new.1)
      by false h e rest = let old = rest e in (old.0, ap (λ b. last_front shard observed (cond b (Some x.front) found) kept) h ∙ old.1)

module _ (kept : List KeptFront) (shards : ℕ) (observed : List Based) where
  -- a front is kept for what was observed in a shard
  abbrev pub HasOne : ℕ → Type 0
  HasOne shard = (m : ℕ) × (front_in kept shards observed shard ≡ Some m)

  -- each shard that has a front which was given has one that is kept
  pub front-there : (fronts : List PreparedFront) (shard : ℕ)
      → AllByRecursion (λ p. was_prepared kept p.shard (in_shard shards p.shard observed) p.front ≡ true) fronts → has_front fronts shard ≡ true
      → HasOne shard
  front-there [] shard given e = absurd (cc)
  front-there (p ∷ fronts) shard given e = by (p.shard == shard) refl e (front-there fronts shard given.1)
    where
      by : (b : Bool) → (p.shard == shard) ≡ b → (b || has_front fronts shard) ≡ true → (has_front fronts shard ≡ true → HasOne shard) → HasOne shard
      by true h e rest = subst HasOne (eqb-true p.shard shard h) (prepared-there p.shard (in_shard shards p.shard observed) p.front None kept given.0)
      by false h e rest = rest e

  -- so all are found
  pub fronts-there : (rest : List Seen) (fronts : List PreparedFront) → AllByRecursion (λ z. HasOne (shard_of z.address shards)) rest
      → (all : List PreparedFront) × (fronts_on kept shards observed rest fronts ≡ Some all)
  fronts-there [] fronts each = (fronts, refl)
  fronts-there (z ∷ rest) fronts each =
      by (has_front fronts (shard_of z.address shards)) refl (fronts-there rest fronts each.1)
      (fronts-there rest (and_front fronts (shard_of z.address shards) each.0.0) each.1)
    where
      by : (b : Bool) → has_front fronts (shard_of z.address shards) ≡ b
          → (all : List PreparedFront) × (fronts_on kept shards observed rest fronts ≡ Some all)
          → (all : List PreparedFront) × (fronts_on kept shards observed rest (and_front fronts (shard_of z.address shards) each.0.0) ≡ Some all)
          → (all : List PreparedFront) × (fronts_on kept shards observed (z ∷ rest) fronts ≡ Some all)
      by true h had got =
          (had.0, ap (λ o. o >>= λ more. fronts_on kept shards observed rest more) (shard_had kept shards observed (shard_of z.address shards) fronts h) ∙ had.1)
      by false h had got = (
        got.0,
        ap (λ o. o >>= λ more. fronts_on kept shards observed rest more)
            (shard_got kept shards observed (shard_of z.address shards) fronts (Some each.0.0) h each.0.1)
            ∙ got.1,
      )
