use Rattle.std.proofs.Common.{◌-◌, ◌+◌, ◌++◌, arith, sym, ap, ◌∙◌}
use Rattle.load_script.specs.LoadText.{round_behind, rounds}
use Rattle.load_script.proofs.Rounds.{one_made, none_left}
use Rattle.load_script.proofs.text.load_text.Goals as goal

-- one more round was made
pub loop-preserved : goal.loop-preserved
loop-preserved c =
    let left = c.args.count - (c.loop.counter + 1) in
    ap (λ text. text ++ rounds c.in_ok-number.number left) c.in_ok-number.ensures.text
    ∙ ap (λ x. (c.loop.text ++ round_behind c.loop.number) ++ rounds x left) c.in_ok-number.ensures.last
    ∙ one_made c.loop.text c.loop.number c.args.count c.loop.counter (omega (arith, c.loop-test.true)) ∙ c.loop.invariant

-- none is left
pub returns : goal.returns
returns c = sym (none_left c.loop.text c.loop.number c.args.count c.loop.counter (omega (arith, c.loop-test.false))) ∙ c.loop.invariant
