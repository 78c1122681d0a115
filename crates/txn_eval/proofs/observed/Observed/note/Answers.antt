use Rattle.std.proofs.Common.{◌≡◌, ◌<◌, length, OnOk, sym, ap, ◌∙◌, subst, arith}
use Rattle.txn_eval.specs.declared.observed.TheConstants.{LOOKED_THROUGH}
use Rattle.txn_lang.specs.Own.{with_seen}
use Rattle.txn_eval.specs.code.Found.{is_listed}
use Rattle.txn_eval.proofs.FoundKept.{seen_again, seen_few, found-few}
use Rattle.txn_eval.proofs.observed.Observed.note.Goals as goal

pub returns-then-contains-clause-ok : goal.returns-then-contains-clause-ok
returns-then-contains-clause-ok c =
    seen_again LOOKED_THROUGH c.args.self.now c.args.seen
    (ap (is_listed c.args.seen) (sym c.self.view_is) ∙ ap (is_listed c.args.seen) (sym c.as_slice.ensures) ∙ sym c.contains.ensures.value ∙ c.if-contains.true)

pub invariant_of-self : goal.invariant_of-self
invariant_of-self c =
    let few : length c.self.inside.list < 8 = omega (arith, c.if-len-ge-LOOKED_THROUGH.false, c.len.ensures) in
    found-few c.push.result LOOKED_THROUGH c.self.inside.places c.self.inside.list c.push.new.self c.args.seen few c.self.invariant c.push.ensures.ok
    c.push.ensures.err

pub returns-clause-ok : goal.returns-clause-ok
returns-clause-ok c =
    subst (λ zs. OnOk c.push.result (c.push.new.self ≡ with_seen zs c.args.seen)) c.self.view_is
    (seen_few LOOKED_THROUGH c.self.inside.list c.args.seen c.push.result c.push.new.self
    (ap (is_listed c.args.seen) (sym c.as_slice.ensures) ∙ sym c.contains.ensures.value ∙ c.if-contains.false) c.push.ensures.ok)
