use Rattle.std.proofs.Common.{ℕ, List, ap, sym, subst, ◌∙◌}
use Rattle.rerun_driver.specs.code.Numbers.{IsRising, is_among}
use Rattle.rerun_driver.proofs.Rising.{rising-without, gone-without}
use Rattle.rerun_driver.proofs.numbers.Numbers.take_out.Goals as goal

pub invariant_of-self : goal.invariant_of-self
invariant_of-self c = subst IsRising (sym c.take_out.ensures.gone) (rising-without c.self.inside.items.items c.args.number c.self.invariant)

pub returns-clause-gone : goal.returns-clause-gone
returns-clause-gone c =
    ap (λ (xs : List ℕ). is_among xs c.args.number) c.take_out.ensures.gone ∙ gone-without c.self.inside.items.items c.args.number c.self.invariant
