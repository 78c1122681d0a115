use Rattle.std.proofs.Common.{◌≡◌, ◌≤◌, [], ◌∷◌, length}
use Rattle.commit_file.specs.Tapes.{IsSpoilt}
use Rattle.commit_file.proofs.moment.spoil.Given as goal

abbrev pub invariant-loop-at : goal.invariant-loop-at
invariant-loop-at l = record { long : length l.bytes ≡ length l.fn.bytes; stays : IsSpoilt ((l.from, l.to) ∷ []) l.fn.bytes l.bytes }
