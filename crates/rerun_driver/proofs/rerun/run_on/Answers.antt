use Rattle.rerun_driver.proofs.rerun.run_on.Goals as goal

pub run_from-requires : goal.run_from-requires
run_from-requires c = c.new.ensures c.args.body.now.body c.args.cache.now
