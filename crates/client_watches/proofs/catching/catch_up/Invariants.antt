use Rattle.std.proofs.Common.{◌≡◌}
use Rattle.docc_prepare.specs.Backends.{Goes}
use Rattle.call_programs.specs.Programs.{Leads}
use Rattle.client_watches.specs.Lines.{catch_up}
use Rattle.client_watches.specs.Keeping.{Keeps}
use Rattle.client_watches.specs.Watching.{KeepsFree, stale_count}
use Rattle.client_watches.proofs.catching.catch_up.Given as goal

abbrev pub invariant-loop-runs : goal.invariant-loop-runs
invariant-loop-runs g l = record {
  played : Leads (Goes g.B.Backend.known g.B.Backend.goes) l.fn.backend (catch_up l.fn.watching l.fn.said) l.backend (catch_up l.watching l.said);
  keeps : Keeps (g.B.Backend.known l.backend) l.watching;
  free : KeepsFree l.fn.watching l.watching;
  home : g.B.Backend.home l.backend ≡ g.B.Backend.home l.fn.backend;
}

-- each round leaves fewer stale watches
abbrev pub decreases-loop-runs : goal.decreases-loop-runs
decreases-loop-runs g l = stale_count l.watching.watches
