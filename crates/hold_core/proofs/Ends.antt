-- What ends a hold.
use Rattle.std.proofs.Common.{sym}
use Rattle.journal_core.specs.Holds.{live}
use Rattle.hold_core.specs.Laws.{HoldsEndOnlySo}
use Rattle.hold_core.proofs.Listed.{all-listed, live-more}
use Rattle.hold_core.proofs.LeastBars.{bars-none}

-- A further commit that nothing bars doesn't disturb the hold, since its client has none below.
pub holds-end-only-so : HoldsEndOnlySo
holds-end-only-so m journal commit hold numbered next clear alive young another earlier =
    let lists = all-listed m journal numbered in
    let spared = bars-none 0 (live m journal) commit.client commit.deltas hold lists.rising clear (lists.whole hold alive) (λ same. another (sym same))
    (λ other there below own. earlier (record { earlier = other; live = lists.sound other there; own = own; before = below })) in
    live-more m journal commit next hold alive (record { young = young; another = another; undisturbed = spared })
