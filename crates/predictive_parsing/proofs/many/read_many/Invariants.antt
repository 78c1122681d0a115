use Rattle.std.proofs.Common.{◌≡◌, ◌-◌, length}
use Rattle.predictive_parsing.specs.Reading as read
use Rattle.predictive_parsing.proofs.Loops.{with_front}
use Rattle.predictive_parsing.proofs.many.read_many.Given as goal

-- what is found, and what the turns that are left will find, is all
abbrev pub invariant-loop : goal.invariant-loop
invariant-loop g l =
    with_front l.found (read.turns (g.R.Reading.starts l.reading) (g.R.Reading.reader l.reading) (length l.fn.cursor - l.counter) l.cursor)
    ≡ read.many (g.R.Reading.starts l.reading) (g.R.Reading.reader l.reading) l.fn.cursor
