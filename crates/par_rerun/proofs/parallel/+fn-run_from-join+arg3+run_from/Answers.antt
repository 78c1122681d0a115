use Rattle.std.proofs.Common.{◌≡◌, ◌∙◌, drop, take, ap, subst, IfOk}
use denote.Exit.{no}
use denote.Struct.Field.{u64-field}
use denote.Param.{param}
use denote.Param.Send.{param_send, param_sync, arg_send}
use Rattle.std.specs.contracts.alloc.Global as global
use Rattle.std.proofs.alloc.Global.TheSendSync.{the_sync as global_sync}
use Rattle.client_cache.specs.Cached.{held}
use Rattle.client_cache.specs.contracts.cache.Cache as cache
use Rattle.rerun_driver.specs.contracts.driver.Driver as driver
use Rattle.rerun_driver.specs.Watches.{stale_of}
use Rattle.watch_reruns.specs.declared.reruns.Reruns.{Reruns}
use Rattle.watch_reruns.specs.Reruns.{reruns_of}
use Rattle.par_rerun.specs.Parts.{in_turn}
use Rattle.par_rerun.proofs.InParts.{part-and-behind}
use Rattle.par_rerun.proofs.Shared.{driver_sync, cache_sync, number_sync, six_send}
use Rattle.par_rerun.proofs.parallel.+fn-run_from-join+arg3+run_from.Goals as goal

-- what the other thread is given may be shared
pub join-first-requires-send-F : goal.join-first-requires-send-F
join-first-requires-send-F g t c κs within = param_send _ _ (arg_send _ no _ (six_send _ _ _ _ _ _ _ _ _ _ _ _ _
    global.the_row (param 0 g.row.M) driver.the_row cache.the_row u64-field.row u64-field.row
    global_sync (search (c.requires-raw, param_sync) depth 4) driver_sync cache_sync number_sync number_sync))

-- what the part comes to, and behind it what the others come to
pub returns : goal.returns
returns g t c =
    let state = held c.args.cache.now in
    let all = stale_of c.args.driver.now in
    let part = reruns_of state (take c.args.part.size (drop c.args.part.from all)) in
    let first = subst (λ r. IfOk r (λ all. all ≡ part)) c.in_ok-first.was c.join-first.ensures.first in
    let others = subst (λ r. IfOk r (λ all. all ≡ reruns_of state (drop c.in-Some-Some.next (stale_of c.args.driver.now)))) c.in_ok-others.was c.join-first.ensures.second in
    subst (λ (r : Reruns). IfOk c.followed.result (λ all. all ≡ r))
    (ap (λ r. in_turn r c.in_ok-others.field-0) first
    ∙ ap (in_turn part) others
    ∙ ap (λ n. in_turn part (reruns_of state (drop n all))) (c.in-Some-Some.ensures'.1)
    ∙ part-and-behind state all c.args.part.from c.args.part.size)
    c.followed.ensures
