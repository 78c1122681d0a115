-- The pair that an append answers is of an observation and a commit that clash, by the one delta at that address.
use Rattle.std.proofs.Common.{◌≡◌, ℕ, ◌+◌, ◌-◌, ◌<◌, ◌≤◌, ◌==◌, zero, suc, max, Bool, true, false, ◌&&◌, ◌||◌, nat_lt, cond, List, [], ◌∷◌, ◌++◌}
use Rattle.std.proofs.Common.{length, get_or, Option, Some, None, slice_get, Bor, refl, sym, ap, subst, ◌∙◌, arith}
use Rattle.std.specs.Prelude.{IsSome, option_copied}
use Rattle.std.specs.List.{list_any, AllByRecursion}
use Rattle.std.specs.List.Sorted.{IsStrictlySortedBy}
use Rattle.std.specs.Map.{keys_of}
use Rattle.std.specs.BTreeMap.{is_at}
use Rattle.std.specs.Ordering.{is_eq}
use Rattle.std.specs.declared.cmp.Ordering.TheVariants.{Less}
use Rattle.std.proofs.lemmas.Map.Keys.{sorted_head, sorted_tail}
use Rattle.std.proofs.lemmas.Option.{slice_get_within, get_or_from_slice_get}
use Rattle.plain_data.proofs.Entries.{equal}
use Rattle.rdt_types.specs.declared.delta.Delta.{Delta}
use Rattle.rdt_types.specs.Addresses.{address_cmp}
use Rattle.rdt_types.specs.Deltas.{kind_changed}
use Rattle.rdt_types.specs.Shards.{shard_of}
use Rattle.rdt_types.specs.DeltaMaps.{Deltas, delta_at}
use Rattle.rdt_types.proofs.Addresses.{address_cmp-equal}
use Rattle.conflict_table.specs.Clashes.{clash}
use Rattle.change_feed.specs.declared.change.Change.{Change}
use Rattle.abort_witness.specs.declared.witness.Based.{Based}
use Rattle.abort_witness.specs.declared.witness.Found.{Found}
use Rattle.abort_witness.specs.declared.witness.Witness.{Witness}
use Rattle.abort_witness.specs.Pairs.{clashes}
use Rattle.abort_witness.specs.Kinds.{IsBasedOfOneKind, IsOfOneKind}
use Rattle.abort_witness.specs.Naming.{Names}
use Rattle.abort_witness.proofs.NamedKinds.{names-one-kind}
use Rattle.txn_lang.specs.declared.commit.Commit.{Commit}
use Rattle.txn_lang.specs.States.{Journal}
use Rattle.journal_core.specs.declared.ready.PreparedFront.{PreparedFront}
use Rattle.journal_core.specs.Changes.{changes_of, changes_by}
use Rattle.journal_core.specs.Pairs.{hits_from, pairs, least_pair, AreNumberedFrom, AreNumbered, front_at, past_front, past_fronts}
use Rattle.journal_core.specs.Journals.{commit_at}
use Rattle.journal_core.specs.Kinds.{AreOfTheirKinds, HasKinds}
use Rattle.journal_core.specs.Witnesses.{AreBasedOfOneKind, IsHit, IsWitnessOf}
use Rattle.journal_core.proofs.Each.{each-at}
use Rattle.journal_core.proofs.OfRuns.{kind-at}
use Rattle.journal_core.proofs.Passing.{moved, lower, fails-middle}

-- ---- the one delta at an address

-- a change at an address behind that of the observation is no clash
no-clash-behind : (based : Based) (n : ℕ) (deltas : Deltas) → AllByRecursion (λ key. address_cmp based.address key ≡ Less) (keys_of deltas)
    → list_any (clashes based) (changes_by n deltas) ≡ false
no-clash-behind based n [] behind = refl
no-clash-behind based n (pair ∷ rest) behind = by (no-clash-behind based n rest behind.1) (nat_lt based.base n)
  where
    by : list_any (clashes based) (changes_by n rest) ≡ false → (b : Bool)
        → (((b && is_eq (address_cmp based.address pair.0)) && clash based.obs pair.1) || list_any (clashes based) (changes_by n rest)) ≡ false
    by later true = rw behind.0 later
    by later false = later

-- of two of which one holds the other does where the first doesn't
either : (a b : Bool) → a ≡ false → (a || b) ≡ true → b ≡ true
either true b fails holds = absurd (cc)
either false b fails holds = holds

-- a test that fails within fails as a whole
fails-last : (a b : Bool) → ((a && b) && false) ≡ false
fails-last true true = refl
fails-last true false = refl
fails-last false b = refl

-- where a change of a commit clashes, its delta at the observation's address does
pub alone : (based : Based) (n : ℕ) (deltas : Deltas) (d : Delta) → IsStrictlySortedBy address_cmp (keys_of deltas)
    → list_any (clashes based) (changes_by n deltas) ≡ true → delta_at deltas based.address ≡ Some d → clash based.obs d ≡ true
alone based n [] d rising some at = absurd (cc)
alone based n (pair ∷ rest) d rising some at =
    by (alone based n rest d (sorted_tail address_cmp pair.0 (keys_of rest) rising)) (is_eq (address_cmp based.address pair.0)) refl at
  where
    here : is_eq (address_cmp based.address pair.0) ≡ true → (b : Bool) → clash based.obs pair.1 ≡ b → clash based.obs pair.1 ≡ true
    here is true e = e
    here is false e =
        let same : based.address ≡ pair.0 = address_cmp-equal based.address pair.0 (equal (address_cmp based.address pair.0) is) in
        let behind = subst (λ a. AllByRecursion (λ key. address_cmp a key ≡ Less) (keys_of rest)) (sym same)
        (sorted_head address_cmp pair.0 (keys_of rest) rising) in
        let none = no-clash-behind based n rest behind in
        let not_first : clashes based (record { number = n; address = pair.0; delta = pair.1 })
        ≡ false = rw e (fails-last (nat_lt based.base n) (is_eq (address_cmp based.address pair.0))) in
        let one = either (clashes based (record { number = n; address = pair.0; delta = pair.1 }))
        (list_any (clashes based) (changes_by n rest)) not_first some in
        absurd (cc)

    by : (list_any (clashes based) (changes_by n rest) ≡ true → delta_at rest based.address ≡ Some d → clash based.obs d ≡ true) → (b : Bool)
        → is_eq (address_cmp based.address pair.0) ≡ b → cond b (Some pair.1) (delta_at rest based.address) ≡ Some d → clash based.obs d ≡ true
    by later true is e = let same : pair.1 ≡ d = cc in subst (λ x. clash based.obs x ≡ true) same (here is (clash based.obs pair.1) refl)
    by later false is e =
        let not_first : clashes based (record { number = n; address = pair.0; delta = pair.1 })
        ≡ false = rw is (fails-middle (nat_lt based.base n) (clash based.obs pair.1)) in
        later (either (clashes based (record { number = n; address = pair.0; delta = pair.1 })) (list_any (clashes based) (changes_by n rest)) not_first some) e

-- and there is one
pub there : (based : Based) (n : ℕ) (deltas : Deltas) → list_any (clashes based) (changes_by n deltas) ≡ true → IsSome (delta_at deltas based.address)
there based n [] some = absurd (cc)
there based n (pair ∷ rest) some = by (there based n rest) (is_eq (address_cmp based.address pair.0)) refl
  where
    by : (list_any (clashes based) (changes_by n rest) ≡ true → IsSome (delta_at rest based.address)) → (b : Bool)
        → is_eq (address_cmp based.address pair.0) ≡ b → IsSome (cond b (Some pair.1) (delta_at rest based.address))
    by later true is = refl
    by later false is =
        let not_first : clashes based (record { number = n; address = pair.0; delta = pair.1 })
        ≡ false = rw is (fails-middle (nat_lt based.base n) (clash based.obs pair.1)) in
        later (either (clashes based (record { number = n; address = pair.0; delta = pair.1 })) (list_any (clashes based) (changes_by n rest)) not_first some)

-- ---- the first pair

-- a commit has this hit, of observations from a place on
record HitOf (place : ℕ) (based : List Based) (commit : Commit) (found : Found) : Type 0 where
  ahead : ℕ
  observation : Based
  at : found.place ≡ place + ahead
  placed : slice_get based ahead ≡ Some observation
  number : found.number ≡ commit.number
  clashing : list_any (clashes observation) (changes_of commit) ≡ true

-- the first hit of a commit is the first observation with which a change of it clashes; its place is counted from the first
first-hit : (place : ℕ) (based : List Based) (commit : Commit) (found : Found) → slice_get (hits_from place based commit) 0 ≡ Some found
    → HitOf place based commit found
first-hit place [] commit found e = absurd (cc)
first-hit place (first ∷ rest) commit found e = by (first-hit (place + 1) rest commit found) (list_any (clashes first) (changes_of commit)) refl e
  where
    by : (slice_get (hits_from (place + 1) rest commit) 0 ≡ Some found → HitOf (place + 1) rest commit found) → (b : Bool)
        → list_any (clashes first) (changes_of commit) ≡ b
        → slice_get (cond b (record { place = place; number = commit.number } ∷ hits_from (place + 1) rest commit)
        (hits_from (place + 1) rest commit)) 0 ≡ Some found
        → HitOf place (first ∷ rest) commit found
    by behind true hit e =
        let first_found : Found = record { place = place; number = commit.number } in
        let same : first_found ≡ found = cc in
        let at : place ≡ found.place = ap (λ f. f.place) same in
        record { ahead = zero; observation = first; at = omega (arith, at); placed = refl; number = sym (ap (λ f. f.number) same); clashing = hit }
    by behind false hit e =
        let later = behind e in
        let at = later.at in
        record {
          ahead = suc later.ahead;
          observation = later.observation;
          at = omega (arith, at);
          placed = later.placed;
          number = later.number;
          clashing = later.clashing;
        }

-- a journal has this pair, of commits behind a number
pub record PairIn (n : ℕ) (based : List Based) (journal : Journal) (found : Found) : Type 0 where
  pub ahead : ℕ
  pub observation : Based
  pub commit : Commit
  pub number : found.number ≡ n + ahead + 1
  pub own : found.number ≡ commit.number
  pub is : slice_get journal ahead ≡ Some commit
  pub placed : slice_get based found.place ≡ Some observation
  pub clashing : list_any (clashes observation) (changes_of commit) ≡ true

-- the first pair of a journal is the first hit of the first commit that has one
pub first-pair : (n : ℕ) (based : List Based) (journal : Journal) (found : Found) → AreNumberedFrom n journal → slice_get (pairs based journal) 0 ≡ Some found
    → PairIn n based journal found
first-pair n based [] found numbered e = absurd (cc)
first-pair n based (commit ∷ rest) found numbered e = by (first-pair (n + 1) based rest found numbered.1) (hits_from 0 based commit) refl e
  where
    of_commit : HitOf 0 based commit found → PairIn n based (commit ∷ rest) found
    of_commit hit =
        let at = hit.at in let number = hit.number in let own = numbered.0 in
        let place : hit.ahead ≡ found.place = omega (arith, at) in record {
          ahead = zero;
          observation = hit.observation;
          commit = commit;
          number = omega (arith, number, own);
          own = hit.number;
          is = refl;
          placed = subst (λ p. slice_get based p ≡ Some hit.observation) place hit.placed;
          clashing = hit.clashing;
        }

    of_rest : PairIn (n + 1) based rest found → PairIn n based (commit ∷ rest) found
    of_rest pair = let number = pair.number in record {
      ahead = suc pair.ahead;
      observation = pair.observation;
      commit = pair.commit;
      number = omega (arith, number);
      own = pair.own;
      is = pair.is;
      placed = pair.placed;
      clashing = pair.clashing;
    }

    by : (slice_get (pairs based rest) 0 ≡ Some found → PairIn (n + 1) based rest found) → (hits : List Found) → hits_from 0 based commit ≡ hits
        → slice_get (hits ++ pairs based rest) 0 ≡ Some found → PairIn n based (commit ∷ rest) found
    by behind [] same e = of_rest (behind e)
    by behind (hit ∷ others) same e = of_commit (first-hit 0 based commit found (ap (λ hits. slice_get hits 0) same ∙ e))

-- the commit of a number stands at the place before it
pub commit-there : (journal : Journal) (place number : ℕ) → number ≡ place + 1 → commit_at journal number ≡ slice_get journal place
commit-there journal place number is = by (number == 0) refl
  where
    by : (b : Bool) → (number == 0) ≡ b → cond b None (slice_get journal (number - 1)) ≡ slice_get journal place
    by true none = absurd (grind (arith, is, none))
    by false some = ap (slice_get journal) (let same : number - 1 ≡ place = omega (arith, is) in same)

-- ---- past the fronts

-- what clashes with an observation as if it was made later clashes with it
any-moved : (based : Based) (from : ℕ) (all : List Change) → based.base ≤ from → list_any (clashes (moved based from)) all ≡ true
    → list_any (clashes based) all ≡ true
any-moved based from [] within some = absurd (cc)
any-moved based from (change ∷ rest) within some =
    by (nat_lt from change.number) refl (is_at (address_cmp based.address) change.address && clash based.obs change.delta)
    (any-moved based from rest within) some
  where
    by : (b : Bool) → nat_lt from change.number ≡ b → Bool → (list_any (clashes (moved based from)) rest ≡ true → list_any (clashes based) rest ≡ true)
        → (((b && is_at (address_cmp based.address) change.address) && clash based.obs change.delta) || list_any (clashes (moved based from)) rest) ≡ true
        → list_any (clashes based) (change ∷ rest) ≡ true
    by true is t later some = let base = lower based.base from change.number within is
        in rw base (or-later (is_at (address_cmp based.address) change.address && clash based.obs change.delta) later some)
      where
        or-later : (x : Bool) → (list_any (clashes (moved based from)) rest ≡ true → list_any (clashes based) rest ≡ true)
            → (x || list_any (clashes (moved based from)) rest) ≡ true → (x || list_any (clashes based) rest) ≡ true
        or-later true later some = refl
        or-later false later some = later some
    by false is t later some = or-true (clashes based change) (later some)
      where
        or-true : (x : Bool) → list_any (clashes based) rest ≡ true → (x || list_any (clashes based) rest) ≡ true
        or-true true some = refl
        or-true false some = some

-- an observation, as it stands before the fronts
record Before (shards : ℕ) (fronts : List PreparedFront) (based : List Based) (place : ℕ) (seen : Based) : Type 0 where
  observation : Based
  placed : slice_get based place ≡ Some observation
  same : past_front shards fronts observation ≡ seen

-- the observation at a place past the fronts is the one at that place before them, moved
before : (shards : ℕ) (fronts : List PreparedFront) (based : List Based) (place : ℕ) (seen : Based)
    → slice_get (past_fronts shards fronts based) place ≡ Some seen
    → Before shards fronts based place seen
before shards fronts [] place seen e = absurd (cc)
before shards fronts (first ∷ rest) zero seen e = record { observation = first; placed = refl; same = cc }
before shards fronts (first ∷ rest) (suc place) seen e =
    let later = before shards fronts rest place seen e in record { observation = later.observation; placed = later.placed; same = later.same }

-- the least pair past the fronts is of an observation and a commit that clash
pub least-hits : (shards : ℕ) (fronts : List PreparedFront) (based : List Based) (journal : Journal) (found : Found) → AreNumbered journal
    → least_pair (past_fronts shards fronts based) journal ≡ Some found → IsHit based journal found
least-hits shards fronts based journal found numbered e =
    let pair = first-pair 0 (past_fronts shards fronts based) journal found numbered e in
    let seen = before shards fronts based found.place pair.observation pair.placed in
    let from = max seen.observation.base (front_at fronts (shard_of seen.observation.address shards)) in record {
      observation = seen.observation;
      commit = pair.commit;
      placed = seen.placed;
      numbered = commit-there journal pair.ahead found.number (omega (arith, pair.number)) ∙ pair.is;
      clashing =
          any-moved seen.observation from (changes_of pair.commit) (omega arith)
          (subst (λ b. list_any (clashes b) (changes_of pair.commit) ≡ true) (sym seen.same) pair.clashing);
    }

-- ---- places within their lists

-- a number that a commit has is behind 0 and within the journal
pub number-within : (journal : Journal) (number : ℕ) (commit : Commit) → commit_at journal number ≡ Some commit
    → (0 < number) × (number - 1 < length journal) × (slice_get journal (number - 1) ≡ Some commit)
number-within journal number commit e = by (number == 0) refl e
  where
    by : (b : Bool) → (number == 0) ≡ b → cond b None (slice_get journal (number - 1)) ≡ Some commit
        → (0 < number) × (number - 1 < length journal) × (slice_get journal (number - 1) ≡ Some commit)
    by true none e = absurd (cc)
    by false some e = (grind (arith, some), slice_get_within journal (number - 1) commit e, e)

-- what an index reads where an item stands is the item, so it stands there
stands-at : {A : Type 0} (xs : List A) (i : ℕ) (x r : A) → slice_get xs i ≡ Some x → r ≡ get_or xs i r → slice_get xs i ≡ Some r
stands-at xs i x r e is = e ∙ ap Some (sym (is ∙ get_or_from_slice_get xs i x r e))

-- ---- the witness

-- what is borrowed of what may be there is there with it
pub borrowed : {A : Type 0} (o : Option (Bor A)) → IsSome (option_copied o) → IsSome o
borrowed None is = is
borrowed (Some x) is = refl

module _ (based : List Based) (commits : Journal) (found : Found) (hit : IsHit based commits found) (observation : Based) (commit : Commit) (d : Delta)
    (placed : observation ≡ get_or based found.place observation) (numbered : commit ≡ get_or commits (found.number - 1) commit)
    (changed : delta_at commit.deltas observation.address ≡ Some d) where
  -- the commit of the hit stands at the place before its number
  abbrev its_place : slice_get commits (found.number - 1) ≡ Some hit.commit
  its_place = (number-within commits found.number hit.commit hit.numbered).2

  -- the delta that is named is of the kind of its address
  pub changed-kind : HasKinds commits → kind_changed d ≡ observation.address.kind
  changed-kind kinds =
      kind-at commit.deltas observation.address d
      (each-at (λ c. AreOfTheirKinds c.deltas) commits (found.number - 1) commit kinds
      (stands-at commits (found.number - 1) hit.commit commit its_place numbered)) changed

  -- and so is the observation
  pub observed-kind : AreBasedOfOneKind based → IsBasedOfOneKind observation
  observed-kind all = each-at IsBasedOfOneKind based found.place observation all (stands-at based found.place hit.observation observation hit.placed placed)

  -- what names the pair is its witness: the observation and the commit that were read at their places are those of the hit
  pub witnessed : (witness : Witness) → Names observation (record { number = found.number; address = observation.address; delta = d }) witness
      → IsWitnessOf based commits found witness
  witnessed witness names = record {
    observation = observation;
    commit = commit;
    delta = d;
    placed = stands-at based found.place hit.observation observation hit.placed placed;
    numbered = hit.numbered ∙ ap Some (sym (numbered ∙ get_or_from_slice_get commits (found.number - 1) hit.commit commit its_place));
    changed = changed;
    names = names;
  }

  -- the witness is of one kind, since the observation that it names and the delta both are of the kind of the address
  pub of-one-kind : AreBasedOfOneKind based → HasKinds commits → (witness : Witness)
      → Names observation (record { number = found.number; address = observation.address; delta = d }) witness → IsOfOneKind witness
  of-one-kind all kinds witness names =
      names-one-kind observation (record { number = found.number; address = observation.address; delta = d }) witness (observed-kind all)
      (changed-kind kinds) names
