-- Parts of the list of stale watches that a driver gives are parts of its stale watches.
use Rattle.std.proofs.Common.{◌≡◌, ℕ, List, drop, take, ap, sym, ◌∙◌}
use Rattle.std.proofs.lemmas.List.{drop-map, take-map}
use Rattle.rerun_driver.specs.declared.watch.StaleWatch.{StaleWatch}
use Rattle.rerun_driver.specs.Watches.{Bodies, bodies_of}

-- those behind the first ones
pub bodies-behind : (list : List StaleWatch) (all : Bodies) (from : ℕ) → bodies_of list ≡ all → bodies_of (drop from list) ≡ drop from all
bodies-behind list all from is = sym (drop-map _ from list) ∙ ap (drop from) is

-- so many of these
pub bodies-within : (list : List StaleWatch) (all : Bodies) (from size : ℕ) → bodies_of list ≡ all
    → bodies_of (take size (drop from list)) ≡ take size (drop from all)
bodies-within list all from size is = sym (take-map _ size (drop from list)) ∙ ap (take size) (bodies-behind list all from is)
