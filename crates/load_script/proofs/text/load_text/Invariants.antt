use Rattle.std.proofs.Common.{◌≡◌, ◌-◌, ◌++◌}
use Rattle.load_script.specs.LoadText.{rounds, load_text}
use Rattle.load_script.proofs.text.load_text.Given as goal

-- what was made so far, and the rounds that are left, are the whole script
abbrev pub invariant-loop : goal.invariant-loop
invariant-loop l = l.text ++ rounds l.number (l.fn.count - l.counter) ≡ load_text l.fn.seed l.fn.count
