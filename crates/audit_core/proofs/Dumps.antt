-- The dump of commits is the state that they leave, at each address that one of them wrote.
use Rattle.std.proofs.Common.{◌≡◌, Bool, true, false, ◌||◌, cond, [], ◌∷◌, fold, Option, Some, None, is_some, refl, ap, ◌∙◌}
use Rattle.std.specs.Prelude.{unwrap_or}
use Rattle.std.specs.List.Sorted.{IsStrictlySortedBy}
use Rattle.std.specs.Map.{keys_of}
use Rattle.plain_data.proofs.Entries.{sorted-insert_entry}
use Rattle.rdt_types.specs.declared.address.Address.{Address}
use Rattle.rdt_types.specs.declared.delta.Delta.{Delta}
use Rattle.rdt_types.specs.declared.value.Value.{Value}
use Rattle.rdt_types.specs.Addresses.{address_cmp}
use Rattle.rdt_types.specs.Values.{default_of}
use Rattle.rdt_types.specs.Deltas.{apply}
use Rattle.rdt_types.specs.DeltaMaps.{Deltas, delta_at}
use Rattle.rdt_types.specs.contracts.address.AddressOrd.TheImpl.Laws as order
use Rattle.txn_lang.specs.declared.commit.Commit.{Commit}
use Rattle.txn_lang.specs.States.{Journal, after, left_by}
use Rattle.audit_core.specs.Dumps.{Values, state_of, changed, with_change, with_deltas, dump_of, wrote, AreRising, OneDump}
use Rattle.audit_core.proofs.Lending.{value_at}
use Rattle.audit_core.proofs.Changing.{found_after, found-with_deltas, state-with_deltas}

-- ---- by rising address

rising-with_deltas : (deltas : Deltas) (values : Values) → IsStrictlySortedBy address_cmp (keys_of values)
    → IsStrictlySortedBy address_cmp (keys_of (with_deltas values deltas))
rising-with_deltas [] values rising = rising
rising-with_deltas (d ∷ ds) values rising =
    rising-with_deltas ds (with_change values d) (sorted-insert_entry address_cmp order.total-law d.0 (changed values d.0 d.1) values rising)

rising-after : (journal : Journal) (values : Values) → IsStrictlySortedBy address_cmp (keys_of values)
    → IsStrictlySortedBy address_cmp (keys_of (fold (λ all (commit : Commit). with_deltas all commit.deltas) values journal))
rising-after [] values rising = rising
rising-after (commit ∷ journal) values rising =
    rising-after journal (with_deltas values commit.deltas) (rising-with_deltas commit.deltas values rising)

-- ---- the values

-- values after commits
abbrev dumped : Values → Journal → Values
dumped values journal = fold (λ all (commit : Commit). with_deltas all commit.deltas) values journal

-- a value at an address after the deltas of commits
abbrev left_from : Address → Value → Journal → Value
left_from a v journal = fold (λ value (commit : Commit). after commit.deltas a value) v journal

-- commit by commit: the state after each is the one before with its deltas applied
state-dumped : (journal : Journal) (values : Values) (a : Address) → AreRising journal
    → state_of (dumped values journal) a ≡ left_from a (state_of values a) journal
state-dumped [] values a rising = refl
state-dumped (commit ∷ journal) values a rising =
    state-dumped journal (with_deltas values commit.deltas) a rising.1
    ∙ ap (λ v. left_from a v journal) (state-with_deltas commit.deltas values a rising.0)

-- what is found after one commit more, by its delta there
found-next : (commit : Commit) (values : Values) (a : Address) (o : Option Delta) → IsStrictlySortedBy address_cmp (keys_of commit.deltas)
    → delta_at commit.deltas a ≡ o → value_at (with_deltas values commit.deltas) a ≡ found_after values a o
found-next commit values a o rising e = found-with_deltas commit.deltas values a rising ∙ ap (found_after values a) e

-- what none of them wrote at is as it was
found-unwritten : (journal : Journal) (values : Values) (a : Address) → AreRising journal → wrote journal a ≡ false
    → value_at (dumped values journal) a ≡ value_at values a
found-unwritten [] values a rising none = refl
found-unwritten (commit ∷ journal) values a rising none =
    by (delta_at commit.deltas a) refl none (λ later. found-unwritten journal (with_deltas values commit.deltas) a rising.1 later)
  where
    by : (o : Option Delta) → delta_at commit.deltas a ≡ o → is_some o || wrote journal a ≡ false
        → (wrote journal a ≡ false → value_at (dumped values (commit ∷ journal)) a ≡ value_at (with_deltas values commit.deltas) a)
        → value_at (dumped values (commit ∷ journal)) a ≡ value_at values a
    by (Some d) e none rest = absurd (cc)
    by None e none rest = rest none ∙ found-next commit values a None rising.0 e

-- what is there stays there
found-stays : (journal : Journal) (values : Values) (a : Address) (v : Value) → AreRising journal → value_at values a ≡ Some v
    → is_some (value_at (dumped values journal) a) ≡ true
found-stays [] values a v rising there = ap is_some there
found-stays (commit ∷ journal) values a v rising there =
    by (delta_at commit.deltas a) refl (λ w later. found-stays journal (with_deltas values commit.deltas) a w rising.1 later)
  where
    by : (o : Option Delta) → delta_at commit.deltas a ≡ o
        → ((w : Value) → value_at (with_deltas values commit.deltas) a ≡ Some w → is_some (value_at (dumped values (commit ∷ journal)) a) ≡ true)
        → is_some (value_at (dumped values (commit ∷ journal)) a) ≡ true
    by None e rest = rest v (found-next commit values a None rising.0 e ∙ there)
    by (Some d) e rest = rest (apply d (state_of values a)) (found-next commit values a (Some d) rising.0 e)

-- what one of them wrote at is there
found-written : (journal : Journal) (values : Values) (a : Address) → AreRising journal → wrote journal a ≡ true
    → is_some (value_at (dumped values journal) a) ≡ true
found-written [] values a rising some = absurd (cc)
found-written (commit ∷ journal) values a rising some =
    by (delta_at commit.deltas a) refl some (λ later. found-written journal (with_deltas values commit.deltas) a rising.1 later)
  where
    by : (o : Option Delta) → delta_at commit.deltas a ≡ o → is_some o || wrote journal a ≡ true
        → (wrote journal a ≡ true → is_some (value_at (dumped values (commit ∷ journal)) a) ≡ true)
        → is_some (value_at (dumped values (commit ∷ journal)) a) ≡ true
    by None e some rest = rest some
    by (Some d) e some rest =
        found-stays journal (with_deltas values commit.deltas) a (apply d (state_of values a)) rising.1 (found-next commit values a (Some d) rising.0 e)

-- a value that is there is the one that is found with a default
as_found : (o : Option Value) (default : Value) → is_some o ≡ true → o ≡ Some (unwrap_or o default)
as_found (Some v) default e = refl
as_found None default e = absurd (cc)

-- so an address has the state's value where it was written, and none else
found-dump : (journal : Journal) (a : Address) → AreRising journal
    → value_at (dump_of journal) a ≡ cond (wrote journal a) (Some (left_by journal a)) None
found-dump journal a rising = by (wrote journal a) refl
  where
    by : (b : Bool) → wrote journal a ≡ b → value_at (dump_of journal) a ≡ cond b (Some (left_by journal a)) None
    by false e = found-unwritten journal [] a rising e
    by true e =
        as_found (value_at (dump_of journal) a) (default_of a.kind) (found-written journal [] a rising e)
        ∙ ap Some (state-dumped journal [] a rising)

pub one_dump : OneDump
unfolding IsStrictlySortedBy
one_dump journal rising = record {
  rising = rising-after journal [] tt;
  values = λ a. found-dump journal a rising;
  others = λ i a. state-dumped journal [] a rising i;
}
