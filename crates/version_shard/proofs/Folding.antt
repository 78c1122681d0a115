-- The values that a journal leaves are those that its changes leave, one by one.
use Rattle.std.proofs.Common.{◌≡◌, ℕ, ◌≤◌, zero, suc, Bool, true, false, cond, nat_le, nat_lt, List, [], ◌∷◌, ◌++◌, fold, take, Some, None, refl, sym}
use Rattle.std.proofs.Common.{ap, ◌∙◌, subst, arith}
use Rattle.std.specs.List.{AllByRecursion}
use Rattle.std.specs.List.Sorted.{IsStrictlySortedBy}
use Rattle.std.specs.Map.{keys_of}
use Rattle.std.specs.BTreeMap.{is_at}
use Rattle.std.specs.declared.cmp.Ordering.TheVariants.{Less}
use Rattle.std.proofs.lemmas.List.Elements.{filter-append}
use Rattle.plain_data.proofs.Entries.{equal}
use Rattle.rdt_types.specs.declared.address.Address.{Address}
use Rattle.rdt_types.specs.declared.value.Value.{Value}
use Rattle.rdt_types.specs.Addresses.{address_cmp}
use Rattle.rdt_types.specs.Deltas.{apply}
use Rattle.rdt_types.specs.DeltaMaps.{Deltas, delta_at}
use Rattle.rdt_types.specs.Shards.{shard_of}
use Rattle.rdt_types.specs.Values.{default_of}
use Rattle.rdt_types.proofs.Addresses.{address_cmp-equal}
use Rattle.change_feed.specs.declared.change.Change.{Change}
use Rattle.txn_lang.specs.States.{Journal, apply_maybe, after, state}
use Rattle.journal_core.specs.Changes.{changes_by, changes_of, changes, past, up_to, between, of_shard, of_address}
use Rattle.journal_core.specs.Pairs.{AreNumbered}
use Rattle.journal_core.specs.code.Rising.{Rises}
use Rattle.journal_core.proofs.ByShard.{changes-up_to, numbered-take, swapped, of_address-in_shard}
use Rattle.journal_core.proofs.Rising.{changes-rise}
use Rattle.version_shard.specs.Standing.{IsReadable}
use Rattle.version_shard.proofs.Numbered.{below-lesser, below-greater}
use Rattle.version_shard.proofs.Stepping.{left, left-append}

-- ---- one commit

-- what stands behind an address in order isn't at it
none_there : (a : Address) (n : ℕ) (deltas : Deltas) → AllByRecursion (λ y. address_cmp a y ≡ Less) (keys_of deltas)
    → of_address a (changes_by n deltas) ≡ []
none_there a n [] less = refl
none_there a n (pair ∷ deltas) less = rw less.0 (none_there a n deltas less.1)

-- so no delta is there
none_found : (a : Address) (deltas : Deltas) → AllByRecursion (λ y. address_cmp a y ≡ Less) (keys_of deltas) → delta_at deltas a ≡ None
none_found a [] less = refl
none_found a (pair ∷ deltas) less = rw less.0 (none_found a deltas less.1)

-- the changes of a commit at an address leave what its delta there does
commit-left : (a : Address) (n : ℕ) (deltas : Deltas) (value : Value) → IsStrictlySortedBy address_cmp (keys_of deltas)
    → left value (of_address a (changes_by n deltas)) ≡ after deltas a value
unfolding IsStrictlySortedBy
commit-left a n [] value rising = refl
commit-left a n (pair ∷ deltas) value rising = by (is_at (address_cmp a) pair.0) refl (commit-left a n deltas value rising.1)
  where
    by : (b : Bool) → is_at (address_cmp a) pair.0 ≡ b → left value (of_address a (changes_by n deltas)) ≡ apply_maybe (delta_at deltas a) value
        → left value (cond b (record { number = n; address = pair.0; delta = pair.1 } ∷ of_address a (changes_by n deltas))
        (of_address a (changes_by n deltas)))
        ≡ apply_maybe (cond b (Some pair.1) (delta_at deltas a)) value
    by true e again =
        let is : a ≡ pair.0 = address_cmp-equal a pair.0 (equal _ e) in
        let less : AllByRecursion (λ y. address_cmp a y ≡ Less) (keys_of deltas) =
        subst (λ (b : Address). AllByRecursion (λ y. address_cmp b y ≡ Less) (keys_of deltas)) (sym is) rising.0 in
        ap (left (apply pair.1 value)) (none_there a n deltas less)
    by false e again = again

-- ---- a journal

-- the deltas of each commit stand by rising address
abbrev pub AreRising : Journal → Type 0
AreRising journal = AllByRecursion (λ commit. IsStrictlySortedBy address_cmp (keys_of commit.deltas)) journal

-- the changes of each commit at an address leave what its delta there does, one commit after another
pub journal-left : (a : Address) (journal : Journal) (value : Value) → AreRising journal
    → left value (of_address a (changes journal)) ≡ fold (λ v commit. after commit.deltas a v) value journal
journal-left a [] value rising = refl
journal-left a (commit ∷ rest) value rising =
    ap (left value) (filter-append (λ change. is_at (address_cmp a) change.address) (changes_of commit) (changes rest))
    ∙ left-append value (of_address a (changes_of commit)) (of_address a (changes rest))
    ∙ ap (λ v. left v (of_address a (changes rest))) (commit-left a commit.number commit.deltas value rising.0)
    ∙ journal-left a rest (after commit.deltas a value) rising.1

-- the deltas of the first commits rise as all do
pub rising-take : (n : ℕ) (journal : Journal) → AreRising journal → AreRising (take n journal)
rising-take zero [] rising = tt
rising-take (suc n) [] rising = tt
rising-take zero (commit ∷ rest) rising = tt
rising-take (suc n) (commit ∷ rest) rising = (rising.0, rising-take n rest rising.1)

-- the first commits of a readable journal are readable
pub readable-take : (n : ℕ) (journal : Journal) → IsReadable journal → IsReadable (take n journal)
readable-take n journal is = record { numbered = numbered-take 0 n journal is.numbered; rising = rising-take n journal is.rising }

-- the changes up to a number are those of so many commits, since these are numbered from 1
pub up_to-is : (n : ℕ) (journal : Journal) → AreNumbered journal → up_to n (changes journal) ≡ changes (take n journal)
up_to-is n journal numbered = changes-up_to n 0 n journal (omega arith) numbered

-- the state at a number is what the changes up to it leave
pub state-left : (journal : Journal) (n : ℕ) (a : Address) → IsReadable journal
    → state journal n a ≡ left (default_of a.kind) (up_to n (of_address a (changes journal)))
state-left journal n a is =
    sym (journal-left a (take n journal) (default_of a.kind) (rising-take n journal is.rising))
    ∙ ap (λ l. left (default_of a.kind) (of_address a l)) (sym (up_to-is n journal is.numbered))
    ∙ ap (left (default_of a.kind)) (swapped (λ change. is_at (address_cmp a) change.address) (λ change. nat_le change.number n) (changes journal))

-- ---- what a tail adds

-- of changes in order behind a number that is past another none is up to that one, and all are past it
none-up_to : (k n : ℕ) (rest : List Change) → Rises k rest → nat_le k n ≡ false → up_to n rest ≡ []
none-up_to k n [] rises e = refl
none-up_to k n (c ∷ rest) rises e =
    let r = rises.0 in
    let out : nat_le c.number n ≡ false = grind (arith, r, e) in
    rw out (none-up_to c.number n rest rises.1 out)

-- in a list that rises from past a number, all is past that number
all-past : (k n : ℕ) (rest : List Change) → Rises k rest → nat_le k n ≡ false → past n rest ≡ rest
all-past k n [] rises e = refl
all-past k n (c ∷ rest) rises e =
    let r = rises.0 in
    let out : nat_le c.number n ≡ false = grind (arith, r, e) in
    let in_it : nat_lt n c.number ≡ true = grind (arith, out) in
    rw in_it (ap (λ l. c ∷ l) (all-past c.number n rest rises.1 out))

-- changes in order are those up to a number and then those past it
parted : (m n : ℕ) (all : List Change) → Rises m all → up_to n all ++ past n all ≡ all
parted m n [] rises = refl
parted m n (change ∷ rest) rises = by (nat_le change.number n) refl (parted change.number n rest rises.1)
  where
    by : (b : Bool) → nat_le change.number n ≡ b → up_to n rest ++ past n rest ≡ rest
        → cond b (change ∷ up_to n rest) (up_to n rest) ++ past n (change ∷ rest) ≡ change ∷ rest
    by true e again = let out : nat_lt n change.number ≡ false = grind (arith, e) in rw out (ap (λ l. change ∷ l) again)
    by false e again =
        let in_it : nat_lt n change.number ≡ true = grind (arith, e) in
        rw in_it (rw (none-up_to change.number n rest rises.1 e) (ap (λ l. change ∷ l) (all-past change.number n rest rises.1 e)))

-- At an address in the shard, the changes up to a front and then those of the tail from there are, up to a number between,
-- those of so many commits.
pub followed-part : (journal : Journal) (shards : ℕ) (a : Address) (front r to : ℕ) → AreNumbered journal → front ≤ r → r ≤ to
    → up_to r (of_address a (changes (take front journal)) ++ of_address a (of_shard shards (shard_of a shards) (between front to (changes journal))))
    ≡ of_address a (changes (take r journal))
followed-part journal shards a front r to numbered low high =
    filter-append (λ change. nat_le change.number r) (of_address a (changes (take front journal)))
    (of_address a (of_shard shards (shard_of a shards) (between front to all)))
    ∙ ap (λ l. l ++ up_to r (of_address a (of_shard shards (shard_of a shards) (between front to all)))) first
    ∙ ap (λ l. of_address a (up_to front all) ++ l) second
    ∙ sym (filter-append (λ change. is_at (address_cmp a) change.address) (up_to front all) (past front (up_to r all)))
    ∙ ap (of_address a) whole
  where
    all : List Change
    all = changes journal

    first : up_to r (of_address a (changes (take front journal))) ≡ of_address a (up_to front all)
    first =
        ap (λ l. up_to r (of_address a l)) (sym (up_to-is front journal numbered))
        ∙ swapped (λ change. nat_le change.number r) (λ change. is_at (address_cmp a) change.address) (up_to front all)
        ∙ ap (of_address a) (below-greater (λ (c : Change). c.number) front r all low)

    second : up_to r (of_address a (of_shard shards (shard_of a shards) (between front to all))) ≡ of_address a (past front (up_to r all))
    second =
        ap (up_to r) (of_address-in_shard a shards (between front to all))
        ∙ swapped (λ change. nat_le change.number r) (λ change. is_at (address_cmp a) change.address) (between front to all)
        ∙ ap (of_address a)
        (swapped (λ change. nat_le change.number r) (λ change. nat_lt front change.number) (up_to to all)
        ∙ ap (past front) (below-lesser (λ (c : Change). c.number) r to all high))

    whole : up_to front all ++ past front (up_to r all) ≡ changes (take r journal)
    whole =
        ap (λ l. l ++ past front (up_to r all)) (sym (below-lesser (λ (c : Change). c.number) front r all low))
        ∙ ap (λ l. up_to front l ++ past front l) (up_to-is r journal numbered)
        ∙ parted 0 front (changes (take r journal)) (changes-rise 0 (take r journal) (numbered-take 0 r journal numbered))
