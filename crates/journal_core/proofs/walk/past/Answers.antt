use Rattle.std.proofs.Common.{◌∙◌, ap, arith}
use Rattle.change_feed.specs.Segments.{in_pieces}
use Rattle.journal_core.proofs.Rising.{all_behind}
use Rattle.journal_core.proofs.Segmented.{whole-order, ends-in_order, piece-rises, lent-past, lent-past_last}
use Rattle.journal_core.proofs.walk.past.Goals as goal

pub count_sealed-place-requires : goal.count_sealed-place-requires
count_sealed-place-requires c = ends-in_order c.args.from c.args.changes c.requires.whole c.requires.order

pub count_up_to-skipped-requires : goal.count_up_to-skipped-requires
count_up_to-skipped-requires c =
    let changes = c.args.changes in
    rw c.piece_at-piece.ensures
    (piece-rises 0 changes.sealed.now changes.last.now c.count_sealed-place.result (whole-order changes c.requires.whole c.requires.order))

-- the number stands in the last piece
pub returns-then-place-changes : goal.returns-then-place-changes
returns-then-place-changes c =
    let piece = c.piece_at-piece.result.now in
    let skipped = c.count_up_to-skipped.result in
    c.of.ensures ∙ all_behind piece skipped
    ∙ lent-past_last c.args.from c.args.changes c.count_sealed-place.result skipped piece c.requires.whole c.requires.order c.count_sealed-place.ensures
    c.piece_at-piece.ensures c.count_up_to-skipped.ensures c.if-place-changes.true

-- the number stands in a segment
pub returns : goal.returns
returns c =
    let changes = c.args.changes in
    let place = c.count_sealed-place.result in
    let skipped = c.count_up_to-skipped.result in
    let within = c.count_sealed-place.ensures.within in
    let apart = c.if-place-changes.false in
    ap (λ l. in_pieces skipped l changes.last.now) (all_behind changes.sealed.now place)
    ∙ lent-past c.args.from changes place skipped c.piece_at-piece.result.now c.requires.whole c.requires.order c.count_sealed-place.ensures
    c.piece_at-piece.ensures c.count_up_to-skipped.ensures (omega (arith, within, apart))
