use Rattle.std.proofs.Common.{◌≡◌, Option, ap, subst, ◌∙◌, IfOk}
use Rattle.std.specs.Option.{option_map_or}
use Rattle.plain_data.specs.Texts.{Bytes}
use Rattle.txn_lang.specs.Execution.{exec}
use Rattle.client_cache.specs.Cached.{held}
use Rattle.rerun_driver.specs.declared.watch.Watch.{Watch}
use Rattle.rerun_driver.specs.declared.rerun.Rerun.{Rerun}
use Rattle.rerun_driver.specs.declared.rerun.Rerun.TheVariants as rerun
use Rattle.rerun_driver.specs.Watches.{next_rerun, rerun_of}
use Rattle.rerun_driver.proofs.driver.Driver.run_next.Goals as goal

pub returns-in-Some : goal.returns-in-Some
returns-in-Some c =
    let state = held c.args.cache.now in
    subst (λ (expected : Rerun). IfOk c.run_watch.result (λ next. next ≡ expected))
    (ap (λ (o : Option (Bytes × Watch)). option_map_or (λ entry. rerun_of entry.0 (exec entry.1.body.body state)) o rerun.NoneLeft) c.in-Some.ensures
    ∙ ap (next_rerun state) c.self.view_is)
    c.run_watch.ensures

pub returns-in-None : goal.returns-in-None
returns-in-None c =
    let state = held c.args.cache.now in
    ap (λ (o : Option (Bytes × Watch)). option_map_or (λ entry. rerun_of entry.0 (exec entry.1.body.body state)) o rerun.NoneLeft) c.in-None.ensures
    ∙ ap (next_rerun state) c.self.view_is
