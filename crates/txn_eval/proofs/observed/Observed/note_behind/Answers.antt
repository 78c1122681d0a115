use Rattle.std.proofs.Common.{◌≡◌, take, refl, ap, sym, ◌∙◌, subst}
use Rattle.std.specs.Option.{option_copied}
use Rattle.txn_lang.specs.Own.{with_seen}
use Rattle.txn_eval.specs.declared.observed.TheConstants.{LOOKED_THROUGH}
use Rattle.txn_eval.specs.code.Found.{is_listed, stands}
use Rattle.txn_eval.proofs.FoundKept.{found-push, found-back, taken_back, seen_first, seen_new, seen_there}
use Rattle.txn_eval.proofs.observed.Observed.note_behind.Goals as goal

pub returns-then-contains-clause-ok : goal.returns-then-contains-clause-ok
returns-then-contains-clause-ok c =
    seen_first LOOKED_THROUGH c.args.self.now c.args.seen
    (ap (λ zs. is_listed c.args.seen (take LOOKED_THROUGH zs)) (sym c.self.view_is ∙ sym c.as_slice.ensures)
    ∙ sym c.contains.ensures.value
    ∙ c.if-contains.true)

pub returns-then-stands_at-clause-ok : goal.returns-then-stands_at-clause-ok
returns-then-stands_at-clause-ok c =
    seen_there LOOKED_THROUGH c.args.self.now c.args.seen (option_copied c.get.result)
    (ap (λ zs. stands (option_copied c.get.result) zs c.args.seen) (sym c.self.view_is ∙ sym c.as_slice-2.ensures) ∙ sym c.stands_at.ensures ∙ c.if-stands_at.true)

pub invariant_of-self : goal.invariant_of-self
invariant_of-self c =
    found-back LOOKED_THROUGH c.self.inside.places c.self.inside.places c.self.inside.list c.push.new.self c.self.invariant refl c.in_err-push.ensures.err

pub invariant_of-self-in-Ok : goal.invariant_of-self-in-Ok
invariant_of-self-in-Ok c =
    found-push LOOKED_THROUGH c.self.inside.places c.keep.new.keys c.self.inside.list c.push.new.self c.args.seen c.in_ok-key.key c.len-count.result
    c.self.invariant c.in_ok-key.ensures c.in_ok-push.ensures.ok c.len-count.ensures
    (ap (λ o. stands o c.self.inside.list c.args.seen) (sym c.get.ensures.value)
    ∙ ap (λ zs. stands (option_copied c.get.result) zs c.args.seen) (sym c.as_slice-2.ensures)
    ∙ sym c.stands_at.ensures
    ∙ c.if-stands_at.false)
    c.in-Ok.ensures.ok

pub invariant_of-self-in-Err : goal.invariant_of-self-in-Err
invariant_of-self-in-Err c =
    found-back LOOKED_THROUGH c.self.inside.places c.keep.new.keys c.self.inside.list c.truncate.new.self c.self.invariant c.in-Err.ensures.err
    (c.truncate.ensures ∙ taken_back c.self.inside.list c.push.new.self c.args.seen c.len-count.result c.len-count.ensures c.in_ok-push.ensures.ok)

pub returns-in-Ok-clause-ok : goal.returns-in-Ok-clause-ok
returns-in-Ok-clause-ok c =
    subst (λ zs. c.push.new.self ≡ with_seen zs c.args.seen) c.self.view_is
    (seen_new LOOKED_THROUGH c.self.inside.list c.args.seen c.self.inside.places c.in_ok-key.key c.self.invariant c.in_ok-key.ensures c.push.new.self
    (ap (λ zs. is_listed c.args.seen (take LOOKED_THROUGH zs)) (sym c.as_slice.ensures) ∙ sym c.contains.ensures.value ∙ c.if-contains.false)
    (ap (λ o. stands o c.self.inside.list c.args.seen) (sym c.get.ensures.value)
    ∙ ap (λ zs. stands (option_copied c.get.result) zs c.args.seen) (sym c.as_slice-2.ensures)
    ∙ sym c.stands_at.ensures
    ∙ c.if-stands_at.false)
    c.in_ok-push.ensures.ok)
