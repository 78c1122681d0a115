use Rattle.std.proofs.Common.{◌≡◌, ◌≤◌, drop}
use Rattle.std.specs.List.{AllByRecursion}
use Rattle.txn_lang.specs.Short.{IsShortAddress}
use Rattle.docc_prepare.specs.Backends.{Goes}
use Rattle.call_programs.specs.Programs.{Leads}
use Rattle.client_watches.specs.Lines.{drop_each}
use Rattle.client_watches.specs.Watching.{IsButForValues}
use Rattle.client_watches.proofs.dropping.drop_each.Given as goal

abbrev pub invariant-loop-address : goal.invariant-loop-address
invariant-loop-address g l = record {
  played : Leads (Goes g.B.Backend.known g.B.Backend.goes) l.fn.backend (drop_each l.loose l.fn.watching) l.backend
      (drop_each (drop l.address-index l.loose) l.watching);
  short : AllByRecursion IsShortAddress (drop l.address-index l.loose);
  values : IsButForValues l.fn.watching l.watching;
  seen : (g.B.Backend.known l.fn.backend).seen ≤ (g.B.Backend.known l.backend).seen;
  home : g.B.Backend.home l.backend ≡ g.B.Backend.home l.fn.backend;
}
