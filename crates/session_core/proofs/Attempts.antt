-- Attempts: which shards they name, and what is read and observed.
use Rattle.std.proofs.Common.{◌≡◌, ℕ, ◌≤◌, ◌<◌, Bool, true, false, cond, List, [], ◌∷◌, length, Option, Some, None, refl, sym, ap, ◌∙◌, subst, arith}
use Rattle.std.specs.Prelude.{IfSome, ◌==◌}
use Rattle.std.specs.List.{AllByRecursion}
use Rattle.std.specs.Map.{lookup}
use Rattle.std.specs.Option.{option_map}
use Rattle.std.specs.BTreeMap.{is_at}
use Rattle.std.proofs.lemmas.Bool.Decides.{nat_tests}
use Rattle.rdt_types.specs.declared.address.Address.{Address}
use Rattle.rdt_types.specs.Addresses.{address_cmp}
use Rattle.rdt_types.specs.Shards.{shard_of}
use Rattle.rdt_types.specs.Values.{kind_of}
use Rattle.abort_witness.specs.declared.witness.Based.{Based}
use Rattle.abort_witness.specs.Kinds.{IsBasedOfOneKind}
use Rattle.txn_lang.specs.declared.run.Run.{Run}
use Rattle.txn_lang.specs.declared.run.Seen.{Seen}
use Rattle.txn_lang.specs.declared.snaps.Snap.{Snap}
use Rattle.txn_lang.specs.Execution.{done}
use Rattle.txn_lang.specs.Observed.{IsThere}
use Rattle.txn_lang.specs.Short.{IsShortAddress, IsShortObservation}
use Rattle.txn_lang.proofs.Observed.{observed_is_there}
use Rattle.txn_eval.specs.Running.{values_of}
use Rattle.journal_core.specs.declared.ready.PreparedFront.{PreparedFront}
use Rattle.docc_prepare.specs.declared.attempt.Attempt.{Attempt}
use Rattle.docc_prepare.specs.declared.attempt.Next.TheVariants as next
use Rattle.docc_prepare.specs.Attempts.{SnapList, ran, base_in, with_base, based, in_shard, has_front, lesser, least_unprepared, next_event}
use Rattle.docc_prepare.specs.Calls.{Known}
use Rattle.docc_prepare.specs.Backends.{IsGiven, CanValidate}
use Rattle.docc_prepare.proofs.Nexts.{needs}
use Rattle.docc_prepare.proofs.EachRead.{found}
use Rattle.session_core.specs.Holding.{IsRead}
use Rattle.txn_lang.proofs.Observed.{runs_ask_short}

-- ---- shards

-- an address' shard is a remainder by the number of shards, so it is below that
in_range : (address : Address) (shards : ℕ) → 0 < shards → shard_of address shards < shards
in_range address shards some = omega arith

-- the least unprepared shard is one of the store's
pub least-below : (shards : ℕ) (fronts : List PreparedFront) (seen : List Seen) (shard : ℕ) → 0 < shards
    → least_unprepared shards fronts seen ≡ Some shard → shard < shards
least-below shards fronts seen shard some e = subst (λ o. IfSome o (λ k. k < shards)) e (all seen)
  where
    one : (k : ℕ) (o : Option ℕ) → k < shards → IfSome o (λ l. l < shards) → lesser k o < shards
    one k None h all = h
    one k (Some l) h all = omega arith

    by : (x : Bool) (k : ℕ) (o : Option ℕ) → k < shards → IfSome o (λ l. l < shards) → IfSome (cond x o (Some (lesser k o))) (λ l. l < shards)
    by true k o h all = all
    by false k o h all = one k o h all

    all : (seen : List Seen) → IfSome (least_unprepared shards fronts seen) (λ k. k < shards)
    all [] = tt
    all (z ∷ seen) = by (has_front fronts (shard_of z.address shards)) (shard_of z.address shards) (least_unprepared shards fronts seen)
        (in_range z.address shards some) (all seen)

-- ---- what is read

-- ---- what is observed

-- an observation of an address that was read
pub record IsBasedRight (k : Known) (b : Based) : Type 0 where
  pub given : IsGiven k b.address b.base
  pub one_kind : IsBasedOfOneKind b

-- two values are the same where their options are
some-same : {A : Type 0} (x y : A) → Some x ≡ Some y → x ≡ y
some-same x y e = cc

-- what was observed was read: its base was given, and the observation is of its value's kind, which is the address'
observed_right : (k : Known) (snaps : SnapList) (z : Seen) → AllByRecursion (IsRead k) snaps → IsThere (values_of snaps) z → IsBasedRight k (with_base snaps z)
observed_right k snaps z all there = by (lookup (is_at (address_cmp z.address)) snaps) refl there.is
  where
    by : (o : Option Snap) → lookup (is_at (address_cmp z.address)) snaps ≡ o → option_map (λ snap. snap.value) o ≡ Some there.value
        → IsBasedRight k (with_base snaps z)
    by None e is = absurd (cc)
    by (Some snap) e is =
        let read = found (IsRead k) snaps z.address snap all e in
        let same = some-same snap.value there.value is in record {
          given = subst (λ (n : ℕ). IsGiven k z.address n) (sym (ap base_in e)) read.given;
          one_kind = record { observed = there.kind (ap kind_of (sym same) ∙ read.kind) };
        }

-- observation by observation: each was read and is short, and its shard is that of its address
observed_each : (k : Known) (shards : ℕ) (snaps : SnapList) (seen : List Seen) → shards ≡ k.shards → AllByRecursion (IsRead k) snaps
    → AllByRecursion (IsThere (values_of snaps)) seen
    → AllByRecursion (λ z. IsShortObservation z.address z.obs) seen → AllByRecursion (λ b. CanValidate k (shard_of b.address shards) b) (based snaps seen)
observed_each k shards snaps [] e all there short = tt
observed_each k shards snaps (z ∷ seen) e all there short = let right = observed_right k snaps z all there.0 in (
  record { here = ap (shard_of z.address) (sym e); given = right.given; one_kind = right.one_kind; short = short.0 },
  observed_each k shards snaps seen e all there.1 short.1,
)

-- each observation of a run may be handed on for validation
pub may-validate : (k : Known) (a : Attempt) (run : Run) → a.shards ≡ k.shards → AllByRecursion (IsRead k) a.snaps → ran a ≡ done run
    → AllByRecursion (λ b. CanValidate k (shard_of b.address a.shards) b) (based a.snaps run.observations)
may-validate k a run e all is = observed_each k a.shards a.snaps run.observations e all (observed_is_there a.body.body (values_of a.snaps) run is)
    (runs_ask_short.observed a.body.body (values_of a.snaps) run is)

-- the test decides whether shards are equal
same_shard : (k l : ℕ) → (k == l) ≡ true → k ≡ l
same_shard k l e = grind (arith, nat_tests)

-- those in one shard are of that shard
pub validate-here : (k : Known) (shards shard : ℕ) (bs : List Based) → AllByRecursion (λ b. CanValidate k (shard_of b.address shards) b) bs
    → AllByRecursion (CanValidate k shard) (in_shard shards shard bs)
validate-here k shards shard [] all = tt
validate-here k shards shard (b ∷ bs) all = by (validate-here k shards shard bs all.1) (shard_of b.address shards == shard) refl
  where
    by : AllByRecursion (CanValidate k shard) (in_shard shards shard bs) → (x : Bool) → (shard_of b.address shards == shard) ≡ x
        → AllByRecursion (CanValidate k shard) (cond x (b ∷ in_shard shards shard bs) (in_shard shards shard bs))
    by rest true e = (subst (λ (n : ℕ). CanValidate k n b) (same_shard (shard_of b.address shards) shard e) all.0, rest)
    by rest false e = rest

-- no more than all
pub few-here : (shards shard : ℕ) (bs : List Based) → length (in_shard shards shard bs) ≤ length bs
few-here shards shard [] = omega arith
few-here shards shard (b ∷ bs) = by (shard_of b.address shards == shard) (few-here shards shard bs)
  where
    by : (x : Bool) → length (in_shard shards shard bs) ≤ length bs → length
        (cond x (b ∷ in_shard shards shard bs) (in_shard shards shard bs)) ≤ length (b ∷ bs)
    by true h = omega arith
    by false h = omega arith

-- what is asked for is short
pub short-need : (a : Attempt) (address : Address) → next_event a ≡ next.Read address → IsShortAddress address
short-need a address e = runs_ask_short.needed a.body.body (values_of a.snaps) address (needs a address e)
