use Rattle.journal_core.proofs.Segmented.{whole-order, ends-in_order, piece-rises, lent-up_to}
use Rattle.journal_core.proofs.walk.up_to.Goals as goal

pub count_sealed-place-requires : goal.count_sealed-place-requires
count_sealed-place-requires c = ends-in_order c.args.to c.args.changes c.requires.whole c.requires.order

pub count_up_to-requires : goal.count_up_to-requires
count_up_to-requires c =
    let changes = c.args.changes in
    rw c.piece_at-piece.ensures
    (piece-rises 0 changes.sealed.now changes.last.now c.count_sealed-place.result (whole-order changes c.requires.whole c.requires.order))

pub returns-clause-changes : goal.returns-clause-changes
returns-clause-changes c =
    lent-up_to c.args.to c.args.changes c.count_sealed-place.result c.count_up_to.result c.piece_at-piece.result.now c.requires.whole c.requires.order
    c.count_sealed-place.ensures c.piece_at-piece.ensures c.count_up_to.ensures
