use Rattle.rerun_driver.proofs.Placed.{placed-same}
use Rattle.rerun_driver.proofs.placing.make_room.Goals as goal

pub returns-clause-kept : goal.returns-clause-kept
returns-clause-kept c =
    placed-same c.in_ok-is_placed.field-0 c.place_rest.new.places c.reserve_all.new.places c.args.roll.now c.reserve_all.ensures
    (record {
      ordered = c.requires.ordered;
      exact = c.place_rest.ensures.exact c.requires.exact;
      covers = c.in_ok-is_placed.ensures.ok;
    })
