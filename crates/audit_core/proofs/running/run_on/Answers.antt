use Rattle.std.proofs.Common.{List, ap, subst, sym, ◌∙◌}
use Rattle.std.specs.List.Sorted.{IsStrictlySortedBy}
use Rattle.std.specs.Map.{keys_of}
use Rattle.rdt_types.specs.declared.address.Address.{Address}
use Rattle.rdt_types.specs.Addresses.{address_cmp}
use Rattle.txn_lang.specs.declared.snaps.Snap.{Snap}
use Rattle.audit_core.specs.Dumps.{Values, state_of}
use Rattle.audit_core.specs.code.Running.{IsLent, with_snaps}
use Rattle.audit_core.proofs.Finding.{ok-map}
use Rattle.audit_core.proofs.Lending.{lent-none, taken_back}
use Rattle.audit_core.proofs.running.run_on.Goals as goal

pub returns-clause-ran : goal.returns-clause-ran
returns-clause-ran c =
    let values = c.args.state.now in
    ok-map c.run_lent-run.result _ _ (λ run told. told (state_of values)
    (subst (λ (snaps : List (Address × Snap)). IsLent (state_of values) values snaps) (sym c.new-snaps.ensures) (lent-none values)))
    c.run_lent-run.ensures.ran

pub returns-clause-same : goal.returns-clause-same
returns-clause-same c =
    let values = c.args.state.now in
    let snaps = c.run_lent-run.new.snaps in
    let during = c.run_lent-run.new.state in
    ok-map c.run_lent-run.result _ _ (λ run told i a.
    (ap (λ (v : Values). state_of v a) (c.take_back.ensures ∙ ap (with_snaps during) c.into_vec.ensures.pairs)
    ∙ taken_back (state_of values) snaps during
    (told (state_of values)
    (subst (λ (snaps : List (Address × Snap)). IsLent (state_of values) values snaps) (sym c.new-snaps.ensures) (lent-none values)))
    (subst (λ (pairs : List (Address × Snap)). IsStrictlySortedBy address_cmp (keys_of pairs)) c.into_vec.ensures.pairs c.into_vec.ensures.rising) a) i)
    c.run_lent-run.ensures.lent
