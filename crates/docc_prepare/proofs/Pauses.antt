-- An attempt that has read a value more comes to the same pauses.
use Rattle.std.proofs.Common.{◌≡◌, ℕ, Bool, true, false, cond, List, Option, Some, None, option_map, Result, Ok, Err, OnOk, refl, sym, ap, subst, ◌∙◌}
use Rattle.std.specs.Map.{lookup}
use Rattle.std.specs.BTreeMap.{insert_entry, is_at}
use Rattle.std.specs.Ordering.{is_eq}
use Rattle.plain_data.proofs.Entries.{equal, lookup-insert_entry}
use Rattle.rdt_types.specs.contracts.address.AddressOrd.TheImpl.Laws as order
use Rattle.rdt_types.specs.declared.address.Address.{Address}
use Rattle.rdt_types.specs.Addresses.{address_cmp}
use Rattle.rdt_types.proofs.Addresses.{address_cmp-equal}
use Rattle.txn_lang.specs.declared.snaps.Snap.{Snap}
use Rattle.txn_lang.specs.Observed.{Extends}
use Rattle.txn_lang.specs.Execution.{Ran, need, done}
use Rattle.txn_lang.proofs.Observed.{needs_are_missing}
use Rattle.txn_eval.specs.declared.pause.Pause.{Pause}
use Rattle.txn_eval.specs.Running.{values_of}
use Rattle.txn_eval.specs.Pausing.{IsPauseOf}
use Rattle.txn_eval.proofs.MoreKnown.{pauses_stay}
use Rattle.docc_prepare.specs.declared.attempt.Attempt.{Attempt}
use Rattle.docc_prepare.specs.declared.attempt.Next.TheVariants as next
use Rattle.docc_prepare.specs.Attempts.{ran, next_of, next_of_run, next_event, least_unprepared, PausesAt}

-- a value more, at an address that had none
pub extends-missing : (snaps : List (Address × Snap)) (address : Address) (snap : Snap) → values_of snaps address ≡ None
    → Extends (values_of snaps) (values_of (insert_entry address_cmp snaps address snap))
extends-missing snaps address snap missing a v found =
    ap (option_map (λ (s : Snap). s.value)) (lookup-insert_entry address_cmp order.total-law a address snap snaps)
    ∙ by (is_eq (address_cmp a address)) refl
  where
    by : (b : Bool) → is_eq (address_cmp a address) ≡ b
        → option_map (λ (s : Snap). s.value) (cond b (Some snap) (lookup (is_at (address_cmp a)) snaps)) ≡ Some v
    by true e =
        let same = address_cmp-equal a address (equal (address_cmp a address) e) in
        let clash : Some v ≡ None = sym found ∙ (ap (values_of snaps) same ∙ missing) in absurd (cc)
    by false e = found

-- only a run that needs an address reads it next
needed : (attempt : Attempt) (address : Address) → next_event attempt ≡ next.Read address → ran attempt ≡ need address
needed attempt address e = by (ran attempt) e
  where
    by : (r : Ran) → next_of attempt.shards attempt.fronts r ≡ next.Read address → r ≡ need address
    by (need a) e = let same : next.Read a ≡ next.Read address = e in cc
    by (done run) e = by_run (least_unprepared attempt.shards attempt.fronts run.observations) e
      where
        by_run : (shard : Option ℕ) → next_of_run run shard ≡ next.Read address → done run ≡ need address
        by_run None e = absurd (cc)
        by_run (Some shard) e = absurd (cc)

-- what it needs is missing, so its run comes to the same pauses with one value more
pub snaps_keep : {E : Type 0} (r : Result (Unit {0}) E) (old : Attempt) (snaps : List (Address × Snap)) (address : Address) (snap : Snap)
    → next_event old ≡ next.Read address → OnOk r (snaps ≡ insert_entry address_cmp old.snaps address snap)
    → OnOk r ((pause : Pause) → PausesAt old pause → IsPauseOf old.body.body.stmts snaps pause)
snaps_keep (Ok x) old snaps address snap e is = λ pause pauses.
    subst (λ ss. IsPauseOf old.body.body.stmts ss pause) (sym is)
    (pauses_stay old.body.body.stmts old.snaps (insert_entry address_cmp old.snaps address snap) pause
    (extends-missing old.snaps address snap (needs_are_missing old.body.body (values_of old.snaps) address (needed old address e))) pauses)
snaps_keep (Err f) old snaps address snap e is = tt
