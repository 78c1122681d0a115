use Rattle.std.proofs.Common.{◌≡◌, drop, take, ap, subst, ◌∙◌, IfOk}
use Rattle.std.proofs.lemmas.List.{take_min}
use Rattle.client_cache.specs.Cached.{held}
use Rattle.rerun_driver.specs.Watches.{Bodies, bodies_of}
use Rattle.watch_reruns.specs.Reruns.{reruns_of}
use Rattle.par_rerun.proofs.Listed.{bodies-within}
use Rattle.par_rerun.proofs.parts.run_part.Goals as goal

pub returns : goal.returns
returns g c =
    subst (λ (l : Bodies). IfOk c.run_listed.result (λ all. all ≡ reruns_of (held c.args.cache.now) l))
    (ap bodies_of (ap (λ n. take n c.behind-rest.result.now) c.min.ensures ∙ take_min c.args.size c.behind-rest.result.now
    ∙ ap (take c.args.size) (c.behind-rest.ensures ∙ ap (drop c.args.from) c.as_slice.ensures.value)) ∙ bodies-within _ _ c.args.from c.args.size c.in_ok-stale.ensures)
    c.run_listed.ensures
