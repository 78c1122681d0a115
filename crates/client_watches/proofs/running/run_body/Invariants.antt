use Rattle.std.proofs.Common.{◌≡◌, ◌-◌}
use Rattle.txn_lang.specs.Few.{AreReadInTurn}
use Rattle.client_cache.specs.Cached.{held}
use Rattle.docc_prepare.specs.Backends.{Goes}
use Rattle.call_programs.specs.Programs.{Leads}
use Rattle.rerun_driver.specs.BegunRuns.{IsBegun}
use Rattle.client_watches.specs.Lines.{rounds, run_body}
use Rattle.client_watches.specs.Keeping.{Keeps}
use Rattle.client_watches.proofs.running.run_body.Given as goal

abbrev pub invariant-loop : goal.invariant-loop
invariant-loop g l = record {
  played : Leads (Goes g.B.Backend.known g.B.Backend.goes) l.fn.backend (run_body rounds l.body l.fn.said l.fn.watching) l.backend
      (run_body (rounds - l.counter) l.body l.said l.watching);
  turn : AreReadInTurn l.body.body l.counter (held l.watching.cache);
  begun : IsBegun l.body.body l.watching.cache l.begun;
  watches : l.watching.watches ≡ l.fn.watching.watches;
  keeps : Keeps (g.B.Backend.known l.backend) l.watching;
  home : g.B.Backend.home l.backend ≡ g.B.Backend.home l.fn.backend;
}
