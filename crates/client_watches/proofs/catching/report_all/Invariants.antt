use Rattle.std.proofs.Common.{◌≡◌, length}
use Rattle.std.specs.Vec.Iter.{into_iter_items, into_iter_len}
use Rattle.client_cache.specs.Cached.{held}
use Rattle.watch_reruns.specs.declared.reruns.Reruns.TheVariants as reruns
use Rattle.watch_reruns.specs.Reruns.{all_reruns}
use Rattle.docc_prepare.specs.Calls.{Known}
use Rattle.client_watches.specs.Keeping.{AreDistinct, Keeps}
use Rattle.client_watches.specs.Lines.{catch_up}
use Rattle.client_watches.specs.Watching.{KeepsFree}
use Rattle.client_watches.proofs.catching.report_all.Given as goal

-- what is left of the line's reruns are the reruns that are left
abbrev pub invariant-loop-ran : goal.invariant-loop-ran
invariant-loop-ran l = record {
  same : catch_up l.fn.watching l.fn.said ≡ catch_up l.watching l.said;
  left : all_reruns (held l.watching.cache) l.watching.watches ≡ reruns.Ran (into_iter_items l.ran-iterator);
  count : into_iter_len l.ran-iterator ≡ length (into_iter_items l.ran-iterator);
  names : AreDistinct l.watching.watches;
  keeps : (k : Known) → Keeps k l.fn.watching → Keeps k l.watching;
  free : KeepsFree l.fn.watching l.watching;
}
