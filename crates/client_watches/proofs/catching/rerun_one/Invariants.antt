use Rattle.std.proofs.Common.{◌≡◌, ◌-◌}
use Rattle.client_cache.specs.Cached.{held}
use Rattle.rerun_driver.specs.Watches.{first_stale}
use Rattle.docc_prepare.specs.Backends.{Goes}
use Rattle.call_programs.specs.Programs.{Leads}
use Rattle.client_watches.specs.Lines.{rounds, rerun_one}
use Rattle.client_watches.specs.Keeping.{Keeps}
use Rattle.client_watches.proofs.Bounds.{HasRead}
use Rattle.client_watches.proofs.catching.rerun_one.Given as goal

-- each round reads one value more for the run of the first stale watch
abbrev pub invariant-loop : goal.invariant-loop
invariant-loop g l = record {
  played : Leads (Goes g.B.Backend.known g.B.Backend.goes) l.fn.backend (rerun_one rounds l.fn.said l.fn.watching) l.backend
      (rerun_one (rounds - l.counter) l.said l.watching);
  read : HasRead (first_stale l.watching.watches) l.counter (held l.watching.cache);
  watches : l.watching.watches ≡ l.fn.watching.watches;
  keeps : Keeps (g.B.Backend.known l.backend) l.watching;
  home : g.B.Backend.home l.backend ≡ g.B.Backend.home l.fn.backend;
}
