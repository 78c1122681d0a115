-- The least pair of a journal has a witness, which names both.
use Rattle.std.proofs.Common.{◌≡◌, ℕ, ℤ, zero, suc, ◌-◌, Bool, true, false, cond, ◌&&◌, ◌||◌, ◌≤◌, List, [], ◌∷◌, ◌++◌, length, take, drop, Option}
use Rattle.std.proofs.Common.{Some, None, refl, sym, ap, ◌∙◌, subst, arith, append_assoc}
use Rattle.std.specs.Prelude.{nat_lt, ◌==◌, slice_get, is_some}
use Rattle.std.specs.List.{list_any, AllByRecursion}
use Rattle.std.specs.Option.{option_map, option_or, option_and_then}
use Rattle.std.specs.Bool.{then_some}
use Rattle.std.specs.BTreeMap.{is_at}
use Rattle.std.specs.FinMap as map
use Rattle.std.proofs.lemmas.Bool.{and_parts}
use Rattle.std.proofs.lemmas.List.{take-append-drop}
use Rattle.plain_data.specs.Texts.{Bytes}
use Rattle.plain_data.proofs.Entries.{equal}
use Rattle.rdt_types.specs.declared.address.Kind.{Kind}
use Rattle.rdt_types.specs.declared.address.Kind.TheVariants as kinds
use Rattle.rdt_types.specs.declared.address.Address.{Address}
use Rattle.rdt_types.specs.declared.mark.Mark.{Mark}
use Rattle.rdt_types.specs.declared.mark.Mark.TheVariants as mark
use Rattle.rdt_types.specs.declared.operation.WriteOp.{WriteOp}
use Rattle.rdt_types.specs.declared.operation.WriteOp.TheVariants as op
use Rattle.rdt_types.specs.declared.delta.Delta.{Delta}
use Rattle.rdt_types.specs.declared.delta.Delta.TheVariants as delta
use Rattle.rdt_types.specs.Addresses.{address_cmp}
use Rattle.rdt_types.specs.Values.{kind_written}
use Rattle.rdt_types.specs.Deltas.{kind_changed}
use Rattle.rdt_types.specs.DeltaMaps.{Deltas}
use Rattle.rdt_types.proofs.Addresses.{address_cmp-equal}
use Rattle.conflict_table.specs.declared.observation.Obs.{Obs}
use Rattle.conflict_table.specs.declared.observation.Obs.TheVariants as obs
use Rattle.conflict_table.specs.Observing.{kind_observed, is_over}
use Rattle.conflict_table.specs.Clashes.{clash}
use Rattle.conflict_table.specs.Parts.{set_part, hash_part, whole_part, clear_part, mark_part, first_mark, first_removed, first_pushed, raise_part, named}
use Rattle.conflict_table.proofs.Named.{clashes_have_parts}
use Rattle.change_feed.specs.declared.change.Change.{Change}
use Rattle.abort_witness.specs.declared.witness.Based.{Based}
use Rattle.abort_witness.specs.declared.witness.Found.{Found}
use Rattle.abort_witness.specs.declared.witness.Witness.{Witness}
use Rattle.abort_witness.specs.Pairs.{clashes}
use Rattle.abort_witness.specs.Naming.{Names}
use Rattle.abort_witness.specs.Kinds.{IsBasedOfOneKind, IsOfOneKind}
use Rattle.txn_lang.specs.declared.commit.Commit.{Commit}
use Rattle.txn_lang.specs.States.{Journal}
use Rattle.journal_core.specs.Changes.{changes_by, changes_of}
use Rattle.journal_core.specs.Journals.{commit_at}
use Rattle.journal_core.specs.Pairs.{hits_from, pairs, least_pair}
use Rattle.journal_core.proofs.ByShard.{numbered-take}
use Rattle.journal_core.proofs.Witnessed.{first-pair, commit-there, number-within}
use Rattle.docc_prepare.specs.Serial.{AreOfTheirKinds, IsOrderly}
use Rattle.docc_prepare.specs.Witnesses.{witness_by, witness_in, witness_of, least_witness, IsNamed}
use Rattle.docc_prepare.proofs.Each.{each-at, each-take}

-- ---- the named part is of the kind of the delta

-- an operation that may be there is of a kind
abbrev OfKind : Kind → Option WriteOp → Type 0
OfKind k None = Unit {0}
OfKind k (Some o) = kind_written o ≡ k

-- the first that is there is of the kind, if both are that may be
of-either : (k : Kind) (a b : Option WriteOp) → OfKind k a → OfKind k b → OfKind k (option_or a b)
of-either k None b first second = second
of-either k (Some o) b first second = first

-- an operation that stands only under a test is of its kind where the test holds
of-tested : (k : Kind) (test : Bool) (o : WriteOp) → kind_written o ≡ k → OfKind k (then_some test o)
of-tested k true o is = is
of-tested k false o is = tt

-- an operation that is made of an item is of the kind that each such operation has
of-mapped : {A : Type 0} (k : Kind) (f : A → WriteOp) (o : Option A) → ((x : A) → kind_written (f x) ≡ k) → OfKind k (option_map f o)
of-mapped k f None is = tt
of-mapped k f (Some x) is = is x

-- the part of a mark in a set is one of sets, whether the element is there or not
set-kind : (x : Bytes) (there : Bool) → kind_written (set_part x there) ≡ kinds.Set
set-kind x true = refl
set-kind x false = refl

-- the part of a mark in a hash is one of hashes, whether it puts or removes
hash-kind : (f : Bytes) (m : Mark) → kind_written (hash_part f m) ≡ kinds.Hash
hash-kind f (mark.Put text) = refl
hash-kind f mark.Removed = refl

-- the whole delta of a bool, counter or text is an operation of that kind; the others have no such part
of-whole : (d : Delta) → OfKind (kind_changed d) (whole_part d)
of-whole (delta.PutBool b) = refl
of-whole (delta.PutCounter n) = refl
of-whole (delta.AddCounter n) = refl
of-whole (delta.PutText text) = refl
of-whole d = tt

-- the clear of a set, hash or list is an operation of that kind
of-clear : (d : Delta) → OfKind (kind_changed d) (clear_part d)
of-clear (delta.Set d) = of-tested kinds.Set d.cleared op.SetClear refl
of-clear (delta.Hash d) = of-tested kinds.Hash d.cleared op.HashClear refl
of-clear (delta.List d) = of-tested kinds.List d.cleared op.ListClear refl
of-clear d = tt

-- the mark at an element or field is an operation on a set or hash, as the delta is
of-mark : (x : Bytes) (d : Delta) → OfKind (kind_changed d) (mark_part x d)
of-mark x (delta.Set d) = of-mapped kinds.Set (set_part x) (map.get d.marks x) (set-kind x)
of-mark x (delta.Hash d) = of-mapped kinds.Hash (hash_part x) (map.get d.marks x) (hash-kind x)
of-mark x d = tt

-- so is the first mark of all
of-first : (d : Delta) → OfKind (kind_changed d) (first_mark d)
of-first (delta.Set d) = of-mapped kinds.Set (λ e. set_part e.0 e.1) (slice_get (map.entries d.marks) 0) (λ e. set-kind e.0 e.1)
of-first (delta.Hash d) = of-mapped kinds.Hash (λ e. hash_part e.0 e.1) (slice_get (map.entries d.marks) 0) (λ e. hash-kind e.0 e.1)
of-first d = tt

-- the first removal is an operation on a list, as the delta is
of-removed : (d : Delta) → OfKind (kind_changed d) (first_removed d)
of-removed (delta.List d) = of-mapped kinds.List (λ e. op.ListRemove e.0) (slice_get (map.entries d.removed) 0) (λ e. refl)
of-removed d = tt

-- so is the first push
of-pushed : (d : Delta) → OfKind (kind_changed d) (first_pushed d)
of-pushed (delta.List d) = of-mapped kinds.List (λ item. op.ListPush item) (slice_get d.pushed 0) (λ item. refl)
of-pushed d = tt

-- a raise above a number is an operation on a peak, as the delta is
of-raise : (n : ℤ) (d : Delta) → OfKind (kind_changed d) (raise_part n d)
of-raise n (delta.Raise m) = of-tested kinds.Peak (is_over n m) (op.Raise m) refl
of-raise n d = tt

-- by the observation: the part that is named for it is one of those above
of-named : (o : Obs) (d : Delta) → OfKind (kind_changed d) (named o d)
of-named obs.BoolIs d = of-whole d
of-named obs.CounterIs d = of-whole d
of-named obs.TextIs d = of-whole d
of-named (obs.SetHas x) d = of-either (kind_changed d) (clear_part d) (mark_part x d) (of-clear d) (of-mark x d)
of-named obs.SetAll d = of-either (kind_changed d) (clear_part d) (first_mark d) (of-clear d) (of-first d)
of-named (obs.HashAt f) d = of-either (kind_changed d) (clear_part d) (mark_part f d) (of-clear d) (of-mark f d)
of-named obs.HashAll d = of-either (kind_changed d) (clear_part d) (first_mark d) (of-clear d) (of-first d)
of-named (obs.ListAt i) d = of-either (kind_changed d) (clear_part d) (first_removed d) (of-clear d) (of-removed d)
of-named obs.ListAll d =
    of-either (kind_changed d) (option_or (clear_part d) (first_removed d)) (first_pushed d)
    (of-either (kind_changed d) (clear_part d) (first_removed d) (of-clear d) (of-removed d)) (of-pushed d)
of-named (obs.PeakIs n) d = of-raise n d
of-named (obs.PeakOver n true) d = tt
of-named (obs.PeakOver n false) d = of-raise n d

-- a clash of one kind has a part of that kind
clashing-part : (o : Obs) (d : Delta) → kind_observed o ≡ kind_changed d → clash o d ≡ true
    → (part : WriteOp) × (named o d ≡ Some part) × (kind_written part ≡ kind_changed d)
clashing-part o d same clashing = by (named o d) refl
  where
    by : (p : Option WriteOp) → named o d ≡ p → (part : WriteOp) × (named o d ≡ Some part) × (kind_written part ≡ kind_changed d)
    by None e =
        let none : is_some (named o d) ≡ false = ap (λ p. is_some p) e in
        let there : is_some (named o d) ≡ true = clashes_have_parts o d same ∙ clashing in
        absurd (let no : true ≡ false = sym there ∙ none in cc)
    by (Some part) e = (part, e, subst (OfKind (kind_changed d)) e (of-named o d))

-- ---- the witness in the changes of a commit

-- a delta at an address, as a change of the commit of a number
abbrev change_of : ℕ → Address × Delta → Change
change_of n pair = record { number = n; address = pair.0; delta = pair.1 }

-- the witness that is found in changes, and what it names
record Within (b : Based) (all : List Change) : Type 0 where
  witness : Witness
  is : witness_in b all ≡ Some witness
  change : Change
  index : ℕ
  among : slice_get all index ≡ Some change
  clashing : clashes b change ≡ true
  names : Names b change witness
  one_kind : IsOfOneKind witness
  numbered : (n : ℕ) → AllByRecursion (λ c. c.number ≡ n) all → change.number ≡ n

-- a change that clashes is at the observation's address, so both are of one kind, and a part of it clashes
witnessed-here : (b : Based) (n : ℕ) (pair : Address × Delta) (ds : Deltas) → kind_observed b.obs ≡ b.address.kind → kind_changed pair.1 ≡ pair.0.kind
    → clashes b (change_of n pair) ≡ true → Within b (change_of n pair ∷ changes_by n ds)
witnessed-here b n pair ds observed kind clashing =
    let parts = and_parts (nat_lt b.base n && is_at (address_cmp b.address) pair.0) (clash b.obs pair.1) clashing in
    let here = (and_parts (nat_lt b.base n) (is_at (address_cmp b.address) pair.0) parts.0).1 in
    let same = address_cmp-equal b.address pair.0 (equal (address_cmp b.address pair.0) here) in
    let one = observed ∙ ap (λ (a : Address). a.kind) same ∙ sym kind in
    let part = clashing-part b.obs pair.1 one parts.1 in record {
      witness = record { address = b.address; obs = b.obs; base = b.base; part = part.0; number = n };
      is = ap (λ t. cond t (witness_by b (change_of n pair) (named b.obs pair.1)) (witness_in b (changes_by n ds))) clashing
          ∙ ap (witness_by b (change_of n pair)) part.1;
      change = change_of n pair;
      index = zero;
      among = refl;
      clashing = clashing;
      names = record { address = refl; observed = refl; base = refl; part = part.1; number = refl };
      one_kind = record { observed = observed; written = part.2 ∙ sym one ∙ observed };
      numbered = λ m all. all.0;
    }

-- by whether the first change clashes, else it is one of the others
witnessed-in : (b : Based) (n : ℕ) (ds : Deltas) → kind_observed b.obs ≡ b.address.kind → AreOfTheirKinds ds
    → list_any (clashes b) (changes_by n ds) ≡ true → Within b (changes_by n ds)
witnessed-in b n [] observed kinds hits = absurd (cc)
witnessed-in b n (pair ∷ ds) observed kinds hits =
    by (witnessed-in b n ds observed kinds.1) (clashes b (change_of n pair)) refl hits
  where
    by : (list_any (clashes b) (changes_by n ds) ≡ true → Within b (changes_by n ds)) → (x : Bool) → clashes b (change_of n pair) ≡ x
        → (x || list_any (clashes b) (changes_by n ds)) ≡ true → Within b (change_of n pair ∷ changes_by n ds)
    by rest true e h = witnessed-here b n pair ds observed kinds.0 e
    by rest false e h = let r = rest h in record {
      witness = r.witness;
      is = ap (λ t. cond t (witness_by b (change_of n pair) (named b.obs pair.1)) (witness_in b (changes_by n ds))) e ∙ r.is;
      change = r.change;
      index = suc r.index;
      among = r.among;
      clashing = r.clashing;
      names = r.names;
      one_kind = r.one_kind;
      numbered = λ m all. r.numbered m all.1;
    }

-- each change of a commit has its number
numbers-of : (n : ℕ) (ds : Deltas) → AllByRecursion (λ (c : Change). c.number ≡ n) (changes_by n ds)
numbers-of n [] = tt
numbers-of n (pair ∷ ds) = (refl, numbers-of n ds)

-- ---- the witness of the first pair

-- the least pair has a witness
pub witness-there : (bs : List Based) (journal : Journal) (found : Found) → IsOrderly journal → AllByRecursion IsBasedOfOneKind bs
    → least_pair bs journal ≡ Some found
    → (witness : Witness) × (witness_of bs journal found ≡ Some witness) × IsNamed bs journal found witness
witness-there bs journal found orderly each is =
    let s = first-pair 0 bs journal found orderly.numbered is in
    let there = commit-there journal s.ahead found.number (omega (arith, s.number)) ∙ s.is in
    let kinds = each-at (λ (commit : Commit). AreOfTheirKinds commit.deltas) journal s.ahead s.commit orderly.kinds s.is in
    let one = each-at IsBasedOfOneKind bs found.place s.observation each s.placed in
    let w = witnessed-in s.observation s.commit.number s.commit.deltas one.observed kinds s.clashing in
    let in_commit = ap (option_and_then (λ commit. witness_in s.observation (changes_of commit))) there ∙ w.is in
    let changed = w.numbered s.commit.number (numbers-of s.commit.number s.commit.deltas) in (
      w.witness,
      ap (option_and_then (λ b. option_and_then (λ commit. witness_in b (changes_of commit)) (commit_at journal found.number))) s.placed ∙ in_commit,
      record {
        observation = s.observation;
        commit = s.commit;
        change = w.change;
        index = w.index;
        placed = s.placed;
        there = there;
        among = w.among;
        clashing = w.clashing;
        names = w.names;
        number = w.names.number ∙ changed ∙ sym s.own;
        one_kind = w.one_kind;
      },
    )

-- what has no witness has no pair
pub none-of-witness : (bs : List Based) (journal : Journal) → IsOrderly journal → AllByRecursion IsBasedOfOneKind bs
    → least_witness bs journal ≡ None → least_pair bs journal ≡ None
none-of-witness bs journal orderly each none = by (least_pair bs journal) refl
  where
    by : (o : Option Found) → least_pair bs journal ≡ o → least_pair bs journal ≡ None
    by None e = e
    by (Some found) e =
        let w = witness-there bs journal found orderly each e in
        absurd (let same : None ≡ Some w.0 = sym none ∙ (ap (option_and_then (witness_of bs journal)) e ∙ w.1) in cc)

-- what has a witness has a pair, which it names
pub pair-of-witness : (bs : List Based) (journal : Journal) (witness : Witness) → IsOrderly journal → AllByRecursion IsBasedOfOneKind bs
    → least_witness bs journal ≡ Some witness
    → (found : Found) × (least_pair bs journal ≡ Some found) × IsNamed bs journal found witness
pair-of-witness bs journal witness orderly each is = by (least_pair bs journal) refl
  where
    by : (o : Option Found) → least_pair bs journal ≡ o → (found : Found) × (least_pair bs journal ≡ Some found) × IsNamed bs journal found witness
    by None e = absurd (let no : None ≡ Some witness = sym (ap (option_and_then (witness_of bs journal)) e) ∙ is in cc)
    by (Some found) e =
        let w = witness-there bs journal found orderly each e in
        let all : Some w.0 ≡ Some witness = sym (ap (option_and_then (witness_of bs journal)) e ∙ w.1) ∙ is in
        let same : w.0 ≡ witness = cc in
        (found, e, subst (IsNamed bs journal found) same w.2)

-- ---- fronts of a journal

-- the pairs of some commits and then others are theirs in turn
pairs-append : (bs : List Based) (xs ys : Journal) → pairs bs (xs ++ ys) ≡ pairs bs xs ++ pairs bs ys
pairs-append bs [] ys = refl
pairs-append bs (x ∷ xs) ys = ap (λ found. hits_from 0 bs x ++ found) (pairs-append bs xs ys)
    ∙ sym (append_assoc (hits_from 0 bs x) (pairs bs xs) (pairs bs ys))

-- what stands first stays first where more comes behind
first-append : {A : Type 0} (xs ys : List A) (x : A) → slice_get xs 0 ≡ Some x → slice_get (xs ++ ys) 0 ≡ Some x
first-append [] ys x e = absurd (cc)
first-append (y ∷ xs) ys x e = e

-- what stands in the front of a list stands in the list at the same place
front-item : {A : Type 0} (xs : List A) (n i : ℕ) (x : A) → slice_get (take n xs) i ≡ Some x → slice_get xs i ≡ Some x
front-item [] zero i x e = absurd (cc)
front-item [] (suc n) i x e = absurd (cc)
front-item (y ∷ ys) zero i x e = absurd (cc)
front-item (y ∷ ys) (suc n) zero x e = e
front-item (y ∷ ys) (suc n) (suc i) x e = front-item ys n i x e

-- so the commit of a number in a journal's front is the journal's
front-commit : (journal : Journal) (f n : ℕ) (commit : Commit) → commit_at (take f journal) n ≡ Some commit → commit_at journal n ≡ Some commit
front-commit journal f n commit e = by (n == 0) e
  where
    by : (t : Bool) → cond t None (slice_get (take f journal) (n - 1)) ≡ Some commit → cond t None (slice_get journal (n - 1)) ≡ Some commit
    by true e = absurd (cc)
    by false e = front-item journal f (n - 1) commit e

-- a witness is numbered within the journal, and of one kind
pub witness-within : (bs : List Based) (journal : Journal) (witness : Witness) → IsOrderly journal → AllByRecursion IsBasedOfOneKind bs
    → least_witness bs journal ≡ Some witness → (witness.number ≤ length journal) × IsOfOneKind witness
witness-within bs journal witness orderly each is =
    let p = pair-of-witness bs journal witness orderly each is in
    let within = (number-within journal p.0.number p.2.commit p.2.there).1 in
    let number = p.2.number in (omega arith, p.2.one_kind)

-- so the front of an orderly journal is orderly
pub orderly-front : (f : ℕ) (journal : Journal) → IsOrderly journal → IsOrderly (take f journal)
orderly-front f journal orderly = record {
  numbered = numbered-take 0 f journal orderly.numbered;
  kinds = each-take (λ commit. AreOfTheirKinds commit.deltas) f journal orderly.kinds;
}

-- the witness up to a front is that of the whole journal
pub witness-of-front : (bs : List Based) (journal : Journal) (f : ℕ) (witness : Witness) → IsOrderly journal → AllByRecursion IsBasedOfOneKind bs
    → least_witness bs (take f journal) ≡ Some witness → least_witness bs journal ≡ Some witness
witness-of-front bs journal f witness orderly each is =
    let p = pair-of-witness bs (take f journal) witness (orderly-front f journal orderly) each is in
    let found = p.0 in
    let first = first-append (pairs bs (take f journal)) (pairs bs (drop f journal)) found p.1 in
    let least = ap (λ (xs : Journal). least_pair bs xs) (sym (take-append-drop f journal))
    ∙ ap (λ (all : List Found). slice_get all 0) (pairs-append bs (take f journal) (drop f journal)) ∙ first in
    let commit = front-commit journal f found.number p.2.commit p.2.there ∙ sym p.2.there in
    ap (option_and_then (witness_of bs journal)) least
    ∙ ap (λ o. option_and_then (λ b. option_and_then (λ commit. witness_in b (changes_of commit)) o) (slice_get bs found.place)) commit
    ∙ sym (ap (option_and_then (witness_of bs (take f journal))) p.1) ∙ is
