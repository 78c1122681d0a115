use Rattle.std.proofs.Common.{◌-◌, length, arith, rules}
use Rattle.journal_core.proofs.Segmented.{ends-before}
use Rattle.journal_core.proofs.walk.near_end_sealed.Goals as goal

-- the segment at the place ends by the number, and so do those before it
pub returns-then-end_of-number : goal.returns-then-end_of-number
returns-then-end_of-number c =
    let all = c.args.sealed.now in
    let some = c.loop-step.invariant in
    let within = c.loop-step-test.true in
    ends-before c.args.number all (length all - c.loop-step.step) c.index-sealed-sealed.result c.requires (omega (arith, some, within)) (search rules)
