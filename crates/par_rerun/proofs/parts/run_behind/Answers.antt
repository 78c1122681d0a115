use Rattle.std.proofs.Common.{◌≡◌, drop, ap, subst, ◌∙◌, IfOk}
use Rattle.client_cache.specs.Cached.{held}
use Rattle.rerun_driver.specs.Watches.{Bodies, bodies_of}
use Rattle.watch_reruns.specs.Reruns.{reruns_of}
use Rattle.par_rerun.proofs.Listed.{bodies-behind}
use Rattle.par_rerun.proofs.parts.run_behind.Goals as goal

pub returns : goal.returns
returns g c =
    subst (λ (l : Bodies). IfOk c.run_listed.result (λ all. all ≡ reruns_of (held c.args.cache.now) l))
    (ap bodies_of (c.behind.ensures ∙ ap (drop c.args.from) c.as_slice.ensures.value) ∙ bodies-behind _ _ c.args.from c.in_ok-stale.ensures)
    c.run_listed.ensures
