use Rattle.std.proofs.Common.{◌+◌, length, sym, ap, ◌∙◌}
use Rattle.txn_lang.specs.Journals.{own}
use Rattle.journal_core.specs.Journals.{Standing}
use Rattle.journal_core.proofs.Holding.{can-add-of}
use Rattle.diamond_store.proofs.Decided.{held-alone}
use Rattle.diamond_store.proofs.book.decide.Goals as goal

pub extend-requires-clause-can : goal.extend-requires-clause-can
extend-requires-clause-can g c =
    can-add-of g.K.Keep.stands_for c.args.ready.now c.in_ok-slot.slot c.reserve.new.self (record {
      slot_is = c.in_ok-slot.ensures.slot;
      run = c.requires.can.run;
      body_text = c.requires.can.body_text;
      next = c.requires.can.next ∙ ap (λ (s : Standing). length (own c.args.ready.now.client s.commits) + 1) (sym c.reserve.ensures.same);
    })

pub extend-requires-clause-observed : goal.extend-requires-clause-observed
extend-requires-clause-observed g c =
    held-alone c.args.holds.now c.args.ready.now c.args.journal.now c.reserve.new.self c.in_ok-observations.observations c.in_ok-slot.slot.commit
    c.reserve.ensures.same c.requires.can c.in_ok-slot.ensures.slot.made (sym c.in_default.is ∙ c.clashes.ensures.least) c.in_ok-observations.ensures
