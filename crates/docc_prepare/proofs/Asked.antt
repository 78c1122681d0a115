-- What was asked for, and what a run observes of it.
use Rattle.std.proofs.Common.{◌≡◌, Bool, true, false, cond, List, [], ◌∷◌, Some, None, refl, sym, ap, ◌∙◌}
use Rattle.std.specs.List.{AllByRecursion}
use Rattle.std.specs.BTreeMap.{insert_entry, is_at}
use Rattle.std.specs.Cmp.{tied_itself}
use Rattle.std.specs.Ordering.{is_eq}
use Rattle.std.proofs.lemmas.Bool.{or_parts}
use Rattle.std.proofs.lemmas.Option.{same_Some}
use Rattle.plain_data.proofs.Entries.{equal}
use Rattle.rdt_types.specs.contracts.address.AddressOrd.TheImpl.Laws as order
use Rattle.rdt_types.specs.declared.address.Address.{Address}
use Rattle.rdt_types.specs.Addresses.{address_cmp}
use Rattle.rdt_types.specs.Values.{kind_of}
use Rattle.rdt_types.proofs.Addresses.{address_cmp-equal}
use Rattle.conflict_table.specs.Observing.{observe}
use Rattle.txn_trees.specs.declared.statement.Body.{Body}
use Rattle.txn_lang.specs.declared.run.Run.{Run}
use Rattle.txn_lang.specs.declared.run.Seen.{Seen}
use Rattle.txn_lang.specs.declared.snaps.Snap.{Snap}
use Rattle.txn_lang.specs.States.{PartialState}
use Rattle.txn_lang.specs.Execution.{need, done, exec}
use Rattle.txn_lang.specs.Determinacy.{AgreesOn, Agree}
use Rattle.txn_lang.specs.Observed.{IsThere, Extends}
use Rattle.txn_lang.proofs.Determinacy.{runs_are_determined}
use Rattle.txn_lang.proofs.Observed.{needs_are_missing, needs_stay, observed_is_there}
use Rattle.txn_eval.specs.Running.{values_of}
use Rattle.docc_prepare.specs.Attempts.{SnapList, AreAsked}
use Rattle.docc_prepare.specs.Serial.{is_observed, ReadsAreObserved}
use Rattle.docc_prepare.proofs.Each.{each-more}
use Rattle.docc_prepare.proofs.EachRead.{each-inserted}
use Rattle.docc_prepare.proofs.Pauses.{extends-missing}

-- ---- each value was asked for

-- a run on fewer of the values needs the address
record WasAsked (body : Body) (snaps : SnapList) (a : Address) : Type 0 where
  before : SnapList
  needed : exec body (values_of before) ≡ need a
  others : Extends (values_of before) (values_of snaps)

-- the same of an address with its value
abbrev ReadWasAsked : Body → SnapList → Address × Snap → Type 0
ReadWasAsked body snaps read = WasAsked body snaps read.0

-- the last one by the run before it, and the others as before
each-asked : (body : Body) (snaps : SnapList) → AreAsked body snaps → AllByRecursion (ReadWasAsked body snaps) snaps
each-asked body _ AreAsked.none_yet = tt
each-asked body _ (AreAsked.one_more {snaps = before} a snap asked needed) =
    let more = extends-missing before a snap (needs_are_missing body (values_of before) a needed) in
    let after = insert_entry address_cmp before a snap in
    each-inserted (ReadWasAsked body after) before a snap (record { before = before; needed = needed; others = more })
    (each-more (ReadWasAsked body before) (ReadWasAsked body after) before
    (λ read was. record { before = was.before; needed = was.needed; others = λ b v there. more b v (was.others b v there) })
    (each-asked body before asked))

-- ---- a run that is done has observed it

module _ (body : Body) (snaps : SnapList) (run : Run) (is : exec body (values_of snaps) ≡ done run) where
  -- the values, but none at one address
  abbrev without : Address → PartialState
  without a q = cond (is_at (address_cmp a) q) None (values_of snaps q)

  -- there is none
  without-itself : (a : Address) → without a a ≡ None
  without-itself a = ap (λ b. cond b None (values_of snaps a)) (ap is_eq (tied_itself order.total-law a))

  -- what lacks the address has its values from elsewhere, and there nothing is left out
  extends-without : (a : Address) (before : SnapList) → exec body (values_of before) ≡ need a → Extends (values_of before) (values_of snaps)
      → Extends (values_of before) (without a)
  extends-without a before needed others q v there = by (is_at (address_cmp a) q) refl
    where
      by : (b : Bool) → is_at (address_cmp a) q ≡ b → cond b None (values_of snaps q) ≡ Some v
      by true e =
          let here : a ≡ q = address_cmp-equal a q (equal (address_cmp a q) e) in
          let clash : None ≡ Some v = sym (needs_are_missing body (values_of before) a needed) ∙ (ap (values_of before) here ∙ there) in
          absurd (cc)
      by false e = others q v there

  -- what was observed elsewhere is there still
  agrees-without : (a : Address) (z : Seen) → is_at (address_cmp a) z.address ≡ false → IsThere (values_of snaps) z → AgreesOn (values_of snaps) (without a) z
  agrees-without a z apart there = record {
    there = there.value;
    is = ap (λ b. cond b None (values_of snaps z.address)) apart ∙ there.is;
    same = λ v e. let same : v ≡ there.value = same_Some v there.value (sym e ∙ there.is) in (ap kind_of same, ap (observe z.obs) same);
  }

  -- so the two agree on what a run observed that has not observed the address
  agree-without : (a : Address) (seen : List Seen) → is_observed seen a ≡ false → AllByRecursion (IsThere (values_of snaps)) seen
      → Agree (values_of snaps) (without a) seen
  agree-without a [] apart there = tt
  agree-without a (z ∷ seen) apart there =
      let parts = or_parts (is_at (address_cmp a) z.address) (is_observed seen a) apart in
      (agrees-without a z parts.0 there.0, agree-without a seen parts.1 there.1)

  -- what was asked for is observed, since without it the run would need it
  asked-is-observed : (a : Address) → WasAsked body snaps a → is_observed run.observations a ≡ true
  asked-is-observed a was = by (is_observed run.observations a) refl
    where
      by : (b : Bool) → is_observed run.observations a ≡ b → is_observed run.observations a ≡ true
      by true e = e
      by false e =
          let there = observed_is_there body (values_of snaps) run is in
          let same = runs_are_determined body (values_of snaps) (without a) run is (agree-without a run.observations e there) in
          let needs = needs_stay body (values_of was.before) (without a) a (extends-without a was.before was.needed was.others) was.needed (without-itself a) in
          let twice : need a ≡ done run = sym needs ∙ same in absurd (cc)

-- each value that was read was asked for, and so its address is observed
pub reads_are_observed : ReadsAreObserved
reads_are_observed journal attempt run fits is =
    each-more (ReadWasAsked attempt.body.body attempt.snaps) (λ read. is_observed run.observations read.0 ≡ true) attempt.snaps
    (λ read was. asked-is-observed attempt.body.body attempt.snaps run is read.0 was)
    (each-asked attempt.body.body attempt.snaps fits.asked)
