-- What the reruns of stale watches come to, on the values of one state.
use Rattle.std.specs.Prelude.{◌≡◌, List, [], ◌∷◌, ◌++◌, refl}
use Rattle.plain_data.specs.Texts.{Bytes}
use Rattle.rdt_types.specs.declared.address.Address.{Address}
use Rattle.txn_lang.specs.declared.checked.Checked.{Checked}
use Rattle.txn_lang.specs.declared.run.Run.{Run}
use Rattle.txn_lang.specs.States.{PartialState}
use Rattle.txn_lang.specs.Execution.{Ran, need, done, exec}
use Rattle.rerun_driver.specs.declared.rerun.Rerun.{Rerun}
use Rattle.rerun_driver.specs.declared.rerun.Rerun.TheVariants as rerun
use Rattle.rerun_driver.specs.Watches.{Watches, Bodies, stale_of}
use Rattle.watch_reruns.specs.declared.reruns.Reruns.{Reruns}
use Rattle.watch_reruns.specs.declared.reruns.Reruns.TheVariants as reruns
use Rattle.watch_reruns.specs.declared.reruns.WatchRun.{WatchRun}
use Rattle.watch_reruns.specs.declared.reruns.WatchRun.TheVariants as watch_run

-- what the run of a watch comes to, by its name
abbrev pub run_of : Bytes → Ran → WatchRun
run_of name (need address) = watch_run.Need address
run_of name (done run) = watch_run.Done name run

-- THE RUN OF A WATCH on the values of a state: that of its body
unfoldable pub watch_rerun : PartialState → Bytes → Checked → WatchRun
watch_rerun state name body = run_of name (exec body.body state)

-- one watch has run, and then others
abbrev pub in_front : Bytes × Run → Reruns → Reruns
in_front ran (reruns.Need address) = reruns.Need address
in_front ran (reruns.Ran list) = reruns.Ran (ran ∷ list)

-- a list of watches has run, and then others
abbrev pub behind : List (Bytes × Run) → Reruns → Reruns
behind list (reruns.Need address) = reruns.Need address
behind list (reruns.Ran others) = reruns.Ran (list ++ others)

-- a watch's run needs a value, and that is all; or it is done, and is in front of the others
abbrev pub begun_by : WatchRun → Reruns → Reruns
begun_by (watch_run.Need address) others = reruns.Need address
begun_by (watch_run.Done name run) others = in_front (name, run) others

-- RERUNS: the runs of all bodies on the values of one state, in order; or the value that the first of them needs that isn't done.
abbrev pub reruns_of : PartialState → Bodies → Reruns
reruns_of state [] = reruns.Ran []
reruns_of state (watch ∷ others) = begun_by (watch_rerun state watch.0 watch.1) (reruns_of state others)

-- the same of the stale ones among all watches
abbrev pub all_reruns : PartialState → Watches → Reruns
all_reruns state watches = reruns_of state (stale_of watches)

-- the next rerun of a driver needs a value, or none is stale, and that is all; or a watch has run, and more follows
abbrev pub or_again : (Bytes → Run → Reruns) → Rerun → Reruns
or_again more (rerun.Need address) = reruns.Need address
or_again more (rerun.Ran name run) = in_front (name, run) (more name run)
or_again more rerun.NoneLeft = reruns.Ran []

-- ---- worked

-- without a stale watch nothing runs, and that is all
reruns-none : (state : PartialState) → reruns_of state [] ≡ reruns.Ran []
reruns-none state = refl

-- of two runs that are done, each has its name, and the first is in front
reruns-two : (one two : Bytes) (run other : Run)
    → begun_by (run_of one (done run)) (begun_by (run_of two (done other)) (reruns.Ran [])) ≡ reruns.Ran ((one, run) ∷ (two, other) ∷ [])
reruns-two one two run other = refl

-- where both need a value, the first tells which
reruns-first : (one two : Bytes) (address other : Address)
    → begun_by (run_of one (need address)) (begun_by (run_of two (need other)) (reruns.Ran [])) ≡ reruns.Need address
reruns-first one two address other = refl
