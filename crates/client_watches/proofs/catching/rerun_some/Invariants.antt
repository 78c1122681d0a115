use Rattle.std.proofs.Common.{◌≡◌, ◌+◌}
use Rattle.docc_prepare.specs.Backends.{Goes}
use Rattle.call_programs.specs.Programs.{Leads}
use Rattle.client_watches.specs.Lines.{catch_up}
use Rattle.client_watches.specs.Keeping.{Keeps}
use Rattle.client_watches.specs.Watching.{KeepsFree, stale_count}
use Rattle.client_watches.proofs.catching.rerun_some.Given as goal

-- each round leaves one stale watch less
abbrev pub invariant-loop : goal.invariant-loop
invariant-loop g l = record {
  played : Leads (Goes g.B.Backend.known g.B.Backend.goes) l.fn.backend (catch_up l.fn.watching l.fn.said) l.backend (catch_up l.watching l.said);
  fewer : stale_count l.watching.watches + l.counter ≡ stale_count l.fn.watching.watches;
  keeps : Keeps (g.B.Backend.known l.backend) l.watching;
  free : KeepsFree l.fn.watching l.watching;
  home : g.B.Backend.home l.backend ≡ g.B.Backend.home l.fn.backend;
}
