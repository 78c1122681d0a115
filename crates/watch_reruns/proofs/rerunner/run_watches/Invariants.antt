use Rattle.std.proofs.Common.{◌≡◌, drop}
use Rattle.client_cache.specs.Cached.{held}
use Rattle.rerun_driver.specs.Watches.{bodies_of}
use Rattle.watch_reruns.specs.Reruns.{behind, reruns_of}
use Rattle.watch_reruns.proofs.rerunner.run_watches.Given as goal

-- the runs so far, and behind them what the other watches' come to, are all
abbrev pub invariant-loop-watch : goal.invariant-loop-watch
invariant-loop-watch l =
    behind l.list (reruns_of (held l.cache) (bodies_of (drop l.watch-index l.stale))) ≡ reruns_of (held l.fn.cache) (bodies_of l.fn.stale)
