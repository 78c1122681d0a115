-- What is lent, as one list.
use Rattle.std.specs.Prelude.{ℕ, ◌+◌, List, length}
use Rattle.change_feed.specs.declared.change.Change.{Change}
use Rattle.change_feed.specs.declared.changes.Changes.{Changes}
use Rattle.change_feed.specs.Segments.{in_pieces}

-- the changes that are lent, in order
abbrev pub listed : Changes → List Change
listed changes = in_pieces changes.skipped changes.sealed.now changes.last.now

-- there are no more pieces to come than this
abbrev pub pieces_left : Changes → ℕ
pieces_left changes = length changes.sealed.now + length changes.last.now
