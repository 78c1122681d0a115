-- The heart: what no commit disturbs is observed on the whole journal as it was at its base, and so the run is the same.
use Rattle.std.proofs.Common.{◌≡◌, ℕ, ◌+◌, ◌≤◌, ◌<◌, zero, suc, Bool, true, false, cond, ◌&&◌, List, [], ◌∷◌, fold, take, Option}
use Rattle.std.proofs.Common.{Some, None, refl, sym, ap, ◌∙◌, subst, arith}
use Rattle.std.specs.Prelude.{nat_lt}
use Rattle.std.specs.List.{list_any, AllByRecursion}
use Rattle.std.specs.Option.{option_map}
use Rattle.std.specs.Map.{lookup}
use Rattle.std.specs.BTreeMap.{is_at}
use Rattle.std.specs.Ordering.{is_eq}
use Rattle.std.proofs.lemmas.Bool.{or_parts}
use Rattle.std.proofs.lemmas.Bool.Decides.{nat_tests}
use Rattle.std.proofs.lemmas.Option.{same_Some}
use Rattle.plain_data.proofs.Entries.{equal}
use Rattle.rdt_types.specs.declared.address.Address.{Address}
use Rattle.rdt_types.specs.declared.value.Value.{Value}
use Rattle.rdt_types.specs.declared.delta.Delta.{Delta}
use Rattle.rdt_types.specs.Addresses.{address_cmp}
use Rattle.rdt_types.specs.Values.{kind_of, default_of}
use Rattle.rdt_types.specs.DeltaMaps.{Deltas, delta_at}
use Rattle.rdt_types.proofs.Addresses.{address_cmp-equal}
use Rattle.conflict_table.specs.Observing.{kind_observed, observe, IsWithin}
use Rattle.conflict_table.specs.Clashes.{clash}
use Rattle.conflict_table.proofs.Rows.{no_clash_no_change, fits_again}
use Rattle.abort_witness.specs.declared.witness.Based.{Based}
use Rattle.abort_witness.specs.Pairs.{clashes}
use Rattle.abort_witness.specs.Kinds.{IsBasedOfOneKind}
use Rattle.txn_lang.specs.declared.commit.Commit.{Commit}
use Rattle.txn_lang.specs.declared.run.Run.{Run}
use Rattle.txn_lang.specs.declared.run.Seen.{Seen}
use Rattle.txn_lang.specs.declared.snaps.Snap.{Snap}
use Rattle.txn_lang.specs.States.{Journal, after, apply_maybe, known, left_by, state}
use Rattle.txn_lang.specs.Execution.{done}
use Rattle.txn_lang.specs.Determinacy.{AgreesOn, Agree}
use Rattle.txn_lang.specs.Observed.{IsThere}
use Rattle.txn_lang.specs.Journals.{commit_of}
use Rattle.txn_lang.proofs.Determinacy.{runs_are_determined}
use Rattle.txn_lang.proofs.Observed.{observed_is_there}
use Rattle.txn_lang.proofs.Journals.{legal-push}
use Rattle.txn_eval.specs.Running.{values_of}
use Rattle.journal_core.specs.Changes.{changes_by}
use Rattle.journal_core.specs.Pairs.{AreNumberedFrom}
use Rattle.docc_prepare.specs.declared.attempt.Attempt.{Attempt}
use Rattle.docc_prepare.specs.Attempts.{SnapList, ran, base_in, with_base, based, SnapFits, Fits}
use Rattle.docc_prepare.specs.Serial.{AreOfTheirKinds, IsOrderly, RunsAsItRan, AppendingStaysLegal}
use Rattle.docc_prepare.proofs.Each.{each-take, each-column}
use Rattle.journal_core.proofs.OfRuns.{kind-at}
use Rattle.docc_prepare.proofs.OfOneKind.{kind-left}
use Rattle.docc_prepare.proofs.Missing.{Misses, misses-of-pairs}

-- ---- one commit

-- of three that don't all hold the last fails where the first two hold
past_test : (b c d : Bool) → b ≡ true → c ≡ true → ((b && c) && d) ≡ false → d ≡ false
past_test true true d p q e = e
past_test true false d p q e = absurd (cc)
past_test false c d p q e = absurd (cc)

-- the delta at the address of an observation that a commit past its base misses is no clash
unclashed : (b : Based) (n : ℕ) (ds : Deltas) (d : Delta) → b.base < n → list_any (clashes b) (changes_by n ds) ≡ false → delta_at ds b.address ≡ Some d
    → clash b.obs d ≡ false
unclashed b n [] d past misses e = absurd (cc)
unclashed b n (pair ∷ ds) d past misses e =
    let parts = or_parts (clashes b (record { number = n; address = pair.0; delta = pair.1 })) (list_any (clashes b) (changes_by n ds)) misses in
    by (unclashed b n ds d past parts.1) parts.0 (is_eq (address_cmp b.address pair.0)) refl e
  where
    by : (delta_at ds b.address ≡ Some d → clash b.obs d ≡ false) → clashes b (record { number = n; address = pair.0; delta = pair.1 }) ≡ false
        → (x : Bool) → is_eq (address_cmp b.address pair.0) ≡ x → cond x (Some pair.1) (delta_at ds b.address) ≡ Some d → clash b.obs d ≡ false
    by rest misses true is e =
        let same : pair.1 ≡ d = cc in
        let past_base : nat_lt b.base n ≡ true = grind (arith, nat_tests) in
        ap (clash b.obs) (sym same) ∙ past_test (nat_lt b.base n) (is_eq (address_cmp b.address pair.0)) (clash b.obs pair.1) past_base is misses
    by rest misses false is e = rest e

-- a commit past the base that misses an observation leaves it as it was, and what fitted it fits it again
missed : (b : Based) (commit : Commit) (v : Value) → kind_observed b.obs ≡ b.address.kind → AreOfTheirKinds commit.deltas → b.base < commit.number
    → Misses b commit → IsWithin b.obs v
    → (observe b.obs (after commit.deltas b.address v) ≡ observe b.obs v) × IsWithin b.obs (after commit.deltas b.address v)
missed b commit v kind kinds past misses within = by (delta_at commit.deltas b.address) refl
  where
    by : (o : Option Delta) → delta_at commit.deltas b.address ≡ o → (observe b.obs (apply_maybe o v) ≡ observe b.obs v) × IsWithin b.obs (apply_maybe o v)
    by None e = (refl, within)
    by (Some d) e =
        let one = kind ∙ sym (kind-at commit.deltas b.address d kinds e) in
        let none = unclashed b commit.number commit.deltas d past misses e in
        (no_clash_no_change b.obs d v one within none, fits_again b.obs d v one within none)

-- ---- a journal

module _ (b : Based) (kind : kind_observed b.obs ≡ b.address.kind) where
  -- a value at the observation's address, through some commits
  abbrev carried : Value → Journal → Value
  carried v journal = fold (λ value (commit : Commit). after commit.deltas b.address value) v journal

  -- past the base nothing changes
  past-base : (journal : Journal) (n : ℕ) (v : Value) → b.base ≤ n → AreNumberedFrom n journal
      → AllByRecursion (λ commit. AreOfTheirKinds commit.deltas) journal
      → AllByRecursion (Misses b) journal → IsWithin b.obs v → observe b.obs (carried v journal) ≡ observe b.obs v
  past-base [] n v past numbers kinds misses within = refl
  past-base (commit ∷ journal) n v past numbers kinds misses within =
      let number = numbers.0 in
      let step = missed b commit v kind kinds.0 (omega arith) misses.0 within in
      past-base journal (n + 1) (after commit.deltas b.address v) (omega arith) numbers.1 kinds.1 misses.1 step.1 ∙ step.0

  -- up to the base the commits count on both sides, and past it none changes what was observed
  from-base : (journal : Journal) (n k : ℕ) (v : Value) → n + k ≡ b.base → AreNumberedFrom n journal
      → AllByRecursion (λ commit. AreOfTheirKinds commit.deltas) journal
      → AllByRecursion (Misses b) journal → IsWithin b.obs (carried v (take k journal))
      → observe b.obs (carried v journal) ≡ observe b.obs (carried v (take k journal))
  from-base [] n zero v is numbers kinds misses within = refl
  from-base [] n (suc k) v is numbers kinds misses within = refl
  from-base (commit ∷ journal) n zero v is numbers kinds misses within = past-base (commit ∷ journal) n v (omega arith) numbers kinds misses within
  from-base (commit ∷ journal) n (suc k) v is numbers kinds misses within =
      from-base journal (n + 1) k (after commit.deltas b.address v) (omega arith) numbers.1 kinds.1 misses.1 within

  -- what was observed at its base is as the whole journal leaves it
  observed-as-left : (journal : Journal) → IsOrderly journal → AllByRecursion (Misses b) journal → IsWithin b.obs (state journal b.base b.address)
      → observe b.obs (left_by journal b.address) ≡ observe b.obs (state journal b.base b.address)
  observed-as-left journal orderly misses within =
      from-base journal 0 b.base (default_of b.address.kind) (omega arith) orderly.numbered orderly.kinds misses within

-- ---- an attempt

-- the snap of an address is what the journal leaves there at its base
pub snap-at : (journal : Journal) (snaps : SnapList) (a : Address) (snap : Snap) → AllByRecursion (SnapFits journal) snaps
    → lookup (is_at (address_cmp a)) snaps ≡ Some snap
    → snap.value ≡ state journal snap.base a
snap-at journal [] a snap all e = absurd (cc)
snap-at journal (pair ∷ snaps) a snap all e = by (snap-at journal snaps a snap all.1) (is_eq (address_cmp a pair.0)) refl e
  where
    by : (lookup (is_at (address_cmp a)) snaps ≡ Some snap → snap.value ≡ state journal snap.base a) → (x : Bool) → is_eq (address_cmp a pair.0) ≡ x
        → cond x (Some pair.1) (lookup (is_at (address_cmp a)) snaps) ≡ Some snap → snap.value ≡ state journal snap.base a
    by rest true is e =
        let same : pair.1 ≡ snap = cc in
        let here : a ≡ pair.0 = address_cmp-equal a pair.0 (equal (address_cmp a pair.0) is) in
        subst (λ b. snap.value ≡ state journal snap.base b) (sym here) (subst (λ (s : Snap). s.value ≡ state journal s.base pair.0) same all.0.value)
    by rest false is e = rest e

-- what a run observed is of the kind of its address
observed-kind : (journal : Journal) (snaps : SnapList) (z : Seen) → IsOrderly journal → AllByRecursion (SnapFits journal) snaps → IsThere (values_of snaps) z
    → IsBasedOfOneKind (with_base snaps z)
observed-kind journal snaps z orderly fit there = record { observed = by (lookup (is_at (address_cmp z.address)) snaps) refl there.is }
  where
    by : (o : Option Snap) → lookup (is_at (address_cmp z.address)) snaps ≡ o → option_map (λ snap. snap.value) o ≡ Some there.value
        → kind_observed z.obs ≡ z.address.kind
    by None e is = absurd (cc)
    by (Some snap) e is =
        let same = same_Some snap.value there.value is in
        let value_is = snap-at journal snaps z.address snap fit e in
        there.kind (ap kind_of (sym same ∙ value_is)
        ∙ kind-left (take snap.base journal) z.address (each-take (λ (commit : Commit). AreOfTheirKinds commit.deltas) snap.base journal orderly.kinds))

-- so is each of its observations
observed-kinds : (journal : Journal) (snaps : SnapList) (seen : List Seen) → IsOrderly journal → AllByRecursion (SnapFits journal) snaps
    → AllByRecursion (IsThere (values_of snaps)) seen → AllByRecursion IsBasedOfOneKind (based snaps seen)
observed-kinds journal snaps [] orderly fit there = tt
observed-kinds journal snaps (z ∷ seen) orderly fit there =
    (observed-kind journal snaps z orderly fit there.0, observed-kinds journal snaps seen orderly fit there.1)

-- so each observation of an attempt that fits is
pub observed_of_one_kind : (journal : Journal) (attempt : Attempt) (run : Run) → IsOrderly journal → Fits journal attempt → ran attempt ≡ done run
    → AllByRecursion IsBasedOfOneKind (based attempt.snaps run.observations)
observed_of_one_kind journal attempt run orderly fits is =
    observed-kinds journal attempt.snaps run.observations orderly fits.snaps (observed_is_there attempt.body.body (values_of attempt.snaps) run is)

-- what was read and no commit disturbed agrees with what the journal leaves
agrees : (journal : Journal) (snaps : SnapList) (z : Seen) → IsOrderly journal → AllByRecursion (SnapFits journal) snaps → IsThere (values_of snaps) z
    → AllByRecursion (Misses (with_base snaps z)) journal → AgreesOn (values_of snaps) (known (left_by journal)) z
agrees journal snaps z orderly fit there misses = record {
  there = left_by journal z.address;
  is = refl;
  same = λ v is. by v (lookup (is_at (address_cmp z.address)) snaps) refl is misses;
}
  where
    by : (v : Value) (o : Option Snap) → lookup (is_at (address_cmp z.address)) snaps ≡ o → option_map (λ snap. snap.value) o ≡ Some v
        → AllByRecursion (Misses (record { address = z.address; obs = z.obs; base = base_in o })) journal
        → (kind_of v ≡ kind_of (left_by journal z.address)) × (observe z.obs v ≡ observe z.obs (left_by journal z.address))
    by v None e is misses = absurd (cc)
    by v (Some snap) e is misses =
        let read : snap.value ≡ v = same_Some snap.value v is in
        let value_is : v ≡ state journal snap.base z.address = sym read ∙ snap-at journal snaps z.address snap fit e in
        let found : Some v ≡ Some there.value = sym is ∙ (ap (option_map (λ s. s.value)) (sym e) ∙ there.is) in
        let same : there.value ≡ v = sym (same_Some v there.value found) in
        let kind_read : kind_of v ≡ z.address.kind = ap kind_of value_is ∙ kind-left (take snap.base journal) z.address
        (each-take (λ commit. AreOfTheirKinds commit.deltas) snap.base journal orderly.kinds) in
        let within = subst (IsWithin z.obs) (same ∙ value_is) there.within in (
          kind_read ∙ sym (kind-left journal z.address orderly.kinds),
          ap (observe z.obs) value_is
              ∙ sym (observed-as-left (record { address = z.address; obs = z.obs; base = snap.base })
              (there.kind (ap kind_of same ∙ kind_read)) journal orderly misses within),
        )

-- so does each observation of the run
pub agree : (journal : Journal) (snaps : SnapList) (seen : List Seen) → IsOrderly journal → AllByRecursion (SnapFits journal) snaps
    → AllByRecursion (IsThere (values_of snaps)) seen
    → AllByRecursion (λ b. AllByRecursion (Misses b) journal) (based snaps seen) → Agree (values_of snaps) (known (left_by journal)) seen
agree journal snaps [] orderly fit there misses = tt
agree journal snaps (z ∷ seen) orderly fit there misses = (
  agrees journal snaps z orderly fit there.0 misses.0,
  agree journal snaps seen orderly fit there.1 misses.1,
)

-- a run is determined by what it observed, and the journal leaves all of that as it was read
pub runs_as_it_ran : RunsAsItRan
runs_as_it_ran journal attempt run orderly undisturbed =
    let there = observed_is_there attempt.body.body (values_of attempt.snaps) run undisturbed.runs in
    let observed = based attempt.snaps run.observations in
    let misses = each-column Misses observed journal (misses-of-pairs observed journal undisturbed.undisturbed) in
    runs_are_determined attempt.body.body (values_of attempt.snaps) (known (left_by journal)) run undisturbed.runs
    (agree journal attempt.snaps run.observations orderly undisturbed.fits.snaps there misses)

-- the run is the same on what the journal leaves, so its commit is what its body does there
pub appending_stays_legal : AppendingStaysLegal
appending_stays_legal m client journal attempt run read orderly legal undisturbed =
    legal-push m journal (commit_of journal client attempt.body.source run) legal (record {
      number = refl;
      seq = refl;
      runs = λ _. record {
        body = attempt.body.body;
        run = run;
        read = read;
        ran = runs_as_it_ran journal attempt run orderly undisturbed;
        outcome = refl;
        deltas = refl;
      };
    })
