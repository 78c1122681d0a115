-- Changes kept by shard.
use Rattle.std.proofs.Common.{◌≡◌, ℕ, ◌+◌, ◌≤◌, ◌==◌, Bool, true, false, nat_lt, nat_le, List, [], ◌∷◌, ◌++◌, filter, length, take, drop}
use Rattle.std.proofs.Common.{max, refl, sym, ap, ◌∙◌, subst, arith, cond, Some}
use Rattle.std.specs.BTreeMap.{is_at}
use Rattle.std.proofs.Common.{zero, suc}
use Rattle.std.proofs.Math.Bool.{and-false}
use Rattle.std.proofs.Math.Nat.{le-max_left}
use Rattle.std.proofs.lemmas.Bool.{eq-eqb, le-leb, lt-leb, le-ltb, lt-ltb}
use Rattle.std.proofs.lemmas.List.Elements.{filter-append}
use Rattle.rdt_types.specs.declared.address.Address.{Address}
use Rattle.rdt_types.specs.Addresses.{address_cmp}
use Rattle.plain_data.proofs.Entries.{equal}
use Rattle.rdt_types.proofs.Addresses.{address_cmp-equal}
use Rattle.rdt_types.specs.Shards.{shard_of}
use Rattle.rdt_types.specs.DeltaMaps.{Deltas}
use Rattle.conflict_table.specs.Clashes.{clash}
use Rattle.change_feed.specs.declared.change.Change.{Change}
use Rattle.abort_witness.specs.declared.witness.Based.{Based}
use Rattle.abort_witness.specs.Pairs.{meets, clashes, first_clash}
use Rattle.txn_lang.specs.declared.commit.Commit.{Commit}
use Rattle.txn_lang.specs.States.{Journal}
use Rattle.journal_core.specs.Changes.{changes, changes_of, changes_by, past, up_to, between, of_shard, of_address}
use Rattle.journal_core.specs.declared.ready.PreparedFront.{PreparedFront}
use Rattle.journal_core.specs.Pairs.{AreNumberedFrom, front_at, past_front}
use Rattle.journal_core.specs.code.Logs.{Keeps}
use Rattle.journal_core.specs.code.Parts.{MeetsAlike}
use Rattle.journal_core.proofs.Passing.{moved, fails-middle, past-same}
use Rattle.journal_core.specs.Kinds.{AreOfTheirKinds}
use Rattle.journal_core.proofs.Rising.{changes-more, numbered-more}
use Rattle.journal_core.proofs.OfRuns.{kinds-more}
use Rattle.journal_core.specs.code.ByShard.{HasAdded}

-- what is at an address is in its shard
at_address : (address other : Address) (shards : ℕ) → is_at (address_cmp address) other ≡ true → (shard_of other shards == shard_of address shards) ≡ true
at_address address other shards here =
    rw (sym (address_cmp-equal address other (equal (address_cmp address other) here))) (eq-eqb (shard_of address shards) (shard_of address shards) refl)

-- what is in another shard is at another address
elsewhere : (address other : Address) (shards : ℕ) → (shard_of other shards == shard_of address shards) ≡ false → is_at (address_cmp address) other ≡ false
elsewhere address other shards apart = by (is_at (address_cmp address) other) refl
  where
    by : (b : Bool) → is_at (address_cmp address) other ≡ b → is_at (address_cmp address) other ≡ false
    by false here = here
    by true here = absurd (let also = at_address address other shards here in cc)

-- the first clash is among the changes of its shard
pub first_clash-in_shard : (based : Based) (shards : ℕ) (all : List Change)
    → first_clash based (of_shard shards (shard_of based.address shards) all) ≡ first_clash based all
first_clash-in_shard based shards [] = refl
first_clash-in_shard based shards (change ∷ rest) =
    by (first_clash-in_shard based shards rest) (shard_of change.address shards == shard_of based.address shards) refl
  where
    by : first_clash based (of_shard shards (shard_of based.address shards) rest) ≡ first_clash based rest → (b : Bool)
        → (shard_of change.address shards == shard_of based.address shards) ≡ b
        → first_clash based (of_shard shards (shard_of based.address shards) (change ∷ rest)) ≡ first_clash based (change ∷ rest)
    by later true here = rw here (ap (λ o. cond (clashes based change) (Some change.number) o) later)
    by later false here =
        rw here (rw (elsewhere based.address change.address shards here)
        (rw (fails-middle (nat_lt based.base change.number) (clash based.obs change.delta)) later))

-- and so is all that it may meet
pub meets-in_shard : (based : Based) (shards : ℕ) (all : List Change)
    → filter (meets based) (of_shard shards (shard_of based.address shards) all) ≡ filter (meets based) all
meets-in_shard based shards [] = refl
meets-in_shard based shards (change ∷ rest) =
    by (meets-in_shard based shards rest) (shard_of change.address shards == shard_of based.address shards) refl
  where
    by : filter (meets based) (of_shard shards (shard_of based.address shards) rest) ≡ filter (meets based) rest → (b : Bool)
        → (shard_of change.address shards == shard_of based.address shards) ≡ b
        → filter (meets based) (of_shard shards (shard_of based.address shards) (change ∷ rest)) ≡ filter (meets based) (change ∷ rest)
    by later true here = rw here (ap (λ o. cond (meets based change) (change ∷ o) o) later)
    by later false here =
        rw here (rw (elsewhere based.address change.address shards here) (rw (and-false (nat_lt based.base change.number)) later))

-- past a number, an observation meets in the list of its shard what it does in all as if it was made there
pub past-alike : (based : Based) (from shards : ℕ) (here all : List Change) → based.base ≤ from
    → here ≡ of_shard shards (shard_of based.address shards) all → MeetsAlike based (past from here) (moved based from) all
past-alike based from shards here all within same =
    let later = past-same based from here within in
    record {
      first = later.first ∙ ap (first_clash (moved based from)) same ∙ first_clash-in_shard (moved based from) shards all;
      met = later.met ∙ ap (filter (meets (moved based from))) same ∙ meets-in_shard (moved based from) shards all;
    }

-- what is ahead of an observation, in its shard past its base and its front, it meets as past its front of all
pub ahead-alike : (based : Based) (fronts : List PreparedFront) (shards shard from : ℕ) (here ahead all : List Change)
    → shard ≡ shard_of based.address shards → from ≡ max based.base (front_at fronts shard) → here ≡ of_shard shards shard all → ahead ≡ past from here
    → MeetsAlike based ahead (past_front shards fronts based) all
ahead-alike based fronts shards shard from here ahead all shard_is from_is same past_is =
    let from_front : from ≡ max based.base (front_at fronts (shard_of based.address shards)) = from_is ∙ ap (λ k. max based.base (front_at fronts k)) shard_is in
    let in_shard : here ≡ of_shard shards (shard_of based.address shards) all = same ∙ ap (λ k. of_shard shards k all) shard_is in
    let within : based.base ≤ from = subst (λ n. based.base ≤ n) (sym from_is) (le-max_left based.base _) in
    rw past_is (subst (λ n. MeetsAlike based (past from here) (moved based n) all) from_front (past-alike based from shards here all within in_shard))

-- and all that is at an address
pub of_address-in_shard : (address : Address) (shards : ℕ) (all : List Change)
    → of_address address (of_shard shards (shard_of address shards) all) ≡ of_address address all
of_address-in_shard address shards [] = refl
of_address-in_shard address shards (change ∷ rest) =
    by (of_address-in_shard address shards rest) (shard_of change.address shards == shard_of address shards) refl
  where
    by : of_address address (of_shard shards (shard_of address shards) rest) ≡ of_address address rest → (b : Bool)
        → (shard_of change.address shards == shard_of address shards) ≡ b
        → of_address address (of_shard shards (shard_of address shards) (change ∷ rest)) ≡ of_address address (change ∷ rest)
    by later true here = rw here (ap (λ o. cond (is_at (address_cmp address) change.address) (change ∷ o) o) later)
    by later false here = rw here (rw (elsewhere address change.address shards here) later)

-- two tests may change places
pub swapped : {X : Type 0} (p q : X → Bool) (xs : List X) → filter p (filter q xs) ≡ filter q (filter p xs)
swapped p q [] = refl
swapped p q (x ∷ xs) = by (p x) refl (q x) refl (swapped p q xs)
  where
    by : (a : Bool) → p x ≡ a → (b : Bool) → q x ≡ b → filter p (filter q xs) ≡ filter q (filter p xs)
        → filter p (filter q (x ∷ xs)) ≡ filter q (filter p (x ∷ xs))
    by true s true t later = rw t (rw s (rw t (ap (λ o. x ∷ o) later)))
    by true s false t later = rw t (rw s (rw t later))
    by false s true t later = rw t (rw s later)
    by false s false t later = rw t (rw s later)

-- between two numbers of a shard is what is in the shard between them
pub between-in_shard : (first last shards shard : ℕ) (all : List Change)
    → between first last (of_shard shards shard all) ≡ of_shard shards shard (between first last all)
between-in_shard first last shards shard all =
    let here : Change → Bool = λ change. shard_of change.address shards == shard in
    ap (past first) (swapped (λ change. nat_le change.number last) here all)
    ∙ swapped (λ change. nat_lt first change.number) here (up_to last all)

-- ---- the changes of commits are found by their places

-- the changes of one commit pass a test of its number together
all_of : (p : ℕ → Bool) (n : ℕ) (deltas : Deltas) → p n ≡ true → filter (λ change. p change.number) (changes_by n deltas) ≡ changes_by n deltas
all_of p n [] here = refl
all_of p n (pair ∷ deltas) here = rw here (ap (λ more. record { number = n; address = pair.0; delta = pair.1 } ∷ more) (all_of p n deltas here))

-- and fail it together, since all have the commit's number
none_of : (p : ℕ → Bool) (n : ℕ) (deltas : Deltas) → p n ≡ false → filter (λ change. p change.number) (changes_by n deltas) ≡ []
none_of p n [] here = refl
none_of p n (pair ∷ deltas) here = rw here (none_of p n deltas here)

-- the commit passes, and then what passes of the rest
passing : (p : ℕ → Bool) (commit : Commit) (rest : Journal) (more : List Change) → p commit.number ≡ true
    → filter (λ change. p change.number) (changes rest) ≡ more → filter (λ change. p change.number) (changes (commit ∷ rest)) ≡ changes_of commit ++ more
passing p commit rest more here later =
    filter-append (λ change. p change.number) (changes_of commit) (changes rest)
    ∙ ap (λ front. front ++ filter (λ change. p change.number) (changes rest)) (all_of p commit.number commit.deltas here)
    ∙ ap (λ back. changes_of commit ++ back) later

-- the commit doesn't pass
failing : (p : ℕ → Bool) (commit : Commit) (rest : Journal) (more : List Change) → p commit.number ≡ false
    → filter (λ change. p change.number) (changes rest) ≡ more → filter (λ change. p change.number) (changes (commit ∷ rest)) ≡ more
failing p commit rest more here later =
    filter-append (λ change. p change.number) (changes_of commit) (changes rest)
    ∙ ap (λ front. front ++ filter (λ change. p change.number) (changes rest)) (none_of p commit.number commit.deltas here)
    ∙ later

-- none of the commits past a number is up to it
none_up_to : (m n : ℕ) (journal : Journal) → m ≤ n → AreNumberedFrom n journal → up_to m (changes journal) ≡ []
none_up_to m n [] order numbered = refl
none_up_to m n (commit ∷ rest) order numbered =
    failing (λ k. nat_le k m) commit rest [] (lt-leb commit.number m (omega (arith, order, numbered.0)))
    (none_up_to m (n + 1) rest (omega (arith, order)) numbered.1)

-- all of them are past it
all_past : (m n : ℕ) (journal : Journal) → m ≤ n → AreNumberedFrom n journal → past m (changes journal) ≡ changes journal
all_past m n [] order numbered = refl
all_past m n (commit ∷ rest) order numbered =
    passing (λ k. nat_lt m k) commit rest (changes rest) (lt-ltb m commit.number (omega (arith, order, numbered.0)))
    (all_past m (n + 1) rest (omega (arith, order)) numbered.1)

-- none is past a number that they don't reach beyond
pub none_past : (m n : ℕ) (journal : Journal) → n + length journal ≤ m → AreNumberedFrom n journal → past m (changes journal) ≡ []
none_past m n [] order numbered = refl
none_past m n (commit ∷ rest) order numbered =
    failing (λ k. nat_lt m k) commit rest [] (le-ltb m commit.number (omega (arith, order, numbered.0)))
    (none_past m (n + 1) rest (omega (arith, order)) numbered.1)

-- the changes up to a number are those of so many commits
pub changes-up_to : (m n t : ℕ) (journal : Journal) → m ≡ n + t → AreNumberedFrom n journal → up_to m (changes journal) ≡ changes (take t journal)
changes-up_to m n zero [] is numbered = refl
changes-up_to m n (suc t) [] is numbered = refl
changes-up_to m n zero (commit ∷ rest) is numbered = none_up_to m n (commit ∷ rest) (omega (arith, is)) numbered
changes-up_to m n (suc t) (commit ∷ rest) is numbered =
    passing (λ k. nat_le k m) commit rest (changes (take t rest)) (le-leb commit.number m (omega (arith, is, numbered.0)))
    (changes-up_to m (n + 1) t rest (omega (arith, is)) numbered.1)

-- the changes past a number are those of the others
changes-past : (m n t : ℕ) (journal : Journal) → m ≡ n + t → AreNumberedFrom n journal → past m (changes journal) ≡ changes (drop t journal)
changes-past m n zero [] is numbered = refl
changes-past m n (suc t) [] is numbered = refl
changes-past m n zero (commit ∷ rest) is numbered = all_past m n (commit ∷ rest) (omega (arith, is)) numbered
changes-past m n (suc t) (commit ∷ rest) is numbered =
    failing (λ k. nat_lt m k) commit rest (changes (drop t rest)) (le-ltb m commit.number (omega (arith, is, numbered.0)))
    (changes-past m (n + 1) t rest (omega (arith, is)) numbered.1)

-- the first commits are numbered too
pub numbered-take : (n t : ℕ) (journal : Journal) → AreNumberedFrom n journal → AreNumberedFrom n (take t journal)
numbered-take n zero [] numbered = tt
numbered-take n (suc t) [] numbered = tt
numbered-take n zero (commit ∷ rest) numbered = tt
numbered-take n (suc t) (commit ∷ rest) numbered = (numbered.0, numbered-take (n + 1) t rest numbered.1)

-- the changes between two numbers are those of the commits between them
pub changes-between : (first last : ℕ) (journal : Journal) → AreNumberedFrom 0 journal
    → changes (drop first (take last journal)) ≡ between first last (changes journal)
changes-between first last journal numbered =
    sym (ap (past first) (changes-up_to last 0 last journal (omega arith) numbered)
    ∙ changes-past first 0 first (take last journal) (omega arith) (numbered-take 0 last journal numbered))

-- ---- one commit more

-- one commit more, with its changes, keeps all in order; the memory for it is used up
pub keeps-more : (old : Journal) (shards : ℕ) (lists : List (List Change × ℕ)) (commit : Commit) (new : Journal) (after : List (List Change × ℕ)) (m n room : ℕ)
    → Keeps old shards lists m room → commit.number ≡ length old + 1 → AreOfTheirKinds commit.deltas
    → new ≡ old ++ commit ∷ [] → HasAdded shards (changes_of commit) lists after → Keeps new shards after n 0
keeps-more old shards lists commit new after m n room kept number own added more = record {
  numbered = rw added (numbered-more 0 old commit kept.numbered (omega (arith, number)));
  kinds = rw added (kinds-more old commit kept.kinds own);
  few = kept.few;
  theirs = record {
    as_many = more.as_many ∙ kept.theirs.as_many;
    theirs = λ shard.
        more.added shard ∙ ap (λ list. list ++ of_shard shards shard (changes_of commit)) (kept.theirs.theirs shard)
        ∙ sym (filter-append (λ change. shard_of change.address shards == shard) (changes old) (changes_of commit))
        ∙ ap (of_shard shards shard) (sym (changes-more old commit) ∙ ap changes (sym added));
  };
  one_more = omega arith;
  some_more = λ place within. omega arith;
}
