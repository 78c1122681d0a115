-- Reruns that are repeated give all.
use Rattle.std.proofs.Common.{◌<◌, suc, zero, length, ap, arith}
use Rattle.rerun_driver.specs.Watches.{stale_of, with_report}
use Rattle.client_watches.proofs.Names.{distinct-report}
use Rattle.client_watches.proofs.Reruns.{others-left, by-next}
use Rattle.rerun_lines.specs.Repeated.{repeated, RerunsAreRepeated}

-- however often it is repeated
pub reruns-repeated : RerunsAreRepeated
reruns-repeated state number zero ws apart few = absurd (omega arith)
reruns-repeated state number (suc n) ws apart few =
    by-next state number ws (λ name run. repeated n state number (with_report ws name number run)) apart (λ e run f.
    let fewer : length (stale_of (with_report ws e.0 number run)) < n =
    (let long = ap length (others-left ws e number run apart f) in omega arith) in
    reruns-repeated state number n (with_report ws e.0 number run) (distinct-report ws e.0 number run apart) fewer)
