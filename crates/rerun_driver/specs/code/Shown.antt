-- What is kept, as contracts see it. Of proofs/Shown, `lookup-shown` ties it to `watch_of` of specs/Watches, `shown-append` to
-- `with_watch`, `shown-remove_entry` to `without_watch`, and `shown-settled` to `with_report`.
use Rattle.std.specs.Prelude.{ℕ, List, map, Vec}
use Rattle.std.specs.declared.alloc.Global.{Global}
use Rattle.rerun_driver.specs.declared.watch.Watch.{Watch}
use Rattle.rerun_driver.specs.Watches.{Watches}

-- the watches by their names, which are kept as bytes
abbrev pub shown : List (Vec ℕ Global × Watch) → Watches
shown entries = map (λ entry. (entry.0.items, entry.1)) entries
