-- Reruns one after another, each of the first stale watch, whose report is taken then; and the law that this gives what all reruns
-- come to.
use Rattle.std.specs.Prelude.{◌≡◌, ◌<◌, ℕ, zero, suc, [], length, refl}
use Rattle.txn_lang.specs.States.{PartialState}
use Rattle.rerun_driver.specs.Watches.{Watches, stale_of, with_report, next_rerun}
use Rattle.client_watches.specs.Keeping.{AreDistinct}
use Rattle.watch_reruns.specs.declared.reruns.Reruns.{Reruns}
use Rattle.watch_reruns.specs.declared.reruns.Reruns.TheVariants as reruns
use Rattle.watch_reruns.specs.Reruns.{all_reruns, or_again}

-- REPEATED: the first stale watch runs on the values of a state and takes its report at a number, again and again, so many times
-- at most.
abbrev pub repeated : ℕ → PartialState → ℕ → Watches → Reruns
repeated zero state number watches = reruns.Ran []
repeated (suc n) state number watches =
    or_again (λ name run. repeated n state number (with_report watches name number run)) (next_rerun state watches)

-- REPEATED IS ALL: where no two watches have one name, and it is repeated more often than watches are stale, it gives what all
-- reruns come to.
abbrev pub RerunsAreRepeated : Type 0
RerunsAreRepeated =
    (state : PartialState) (number n : ℕ) (watches : Watches) → AreDistinct watches → length (stale_of watches) < n
    → repeated n state number watches ≡ all_reruns state watches

-- ---- worked

-- without a watch nothing runs, however often it is repeated
repeated-none : (state : PartialState) (number n : ℕ) → repeated (suc n) state number [] ≡ reruns.Ran []
repeated-none state number n = refl
