-- What a line's reruns are where the runs of all its stale watches are known.
use Rattle.std.specs.Prelude.{◌≡◌, ℕ, Bool, true, false, List, [], ◌∷◌, ◌++◌, map, refl}
use Rattle.plain_data.specs.Texts.{Bytes}
use Rattle.rdt_types.specs.declared.address.Address.{Address}
use Rattle.session_text.specs.declared.reply.Reply.{Reply}
use Rattle.session_text.specs.declared.reply.Reply.TheVariants as reply
use Rattle.txn_lang.specs.declared.run.Run.{Run}
use Rattle.txn_lang.specs.States.{PartialState}
use Rattle.txn_lang.specs.Execution.{Ran, need, done, exec}
use Rattle.client_cache.specs.Cached.{held}
use Rattle.docc_prepare.specs.Calls.{Call, Answer}
use Rattle.call_programs.specs.Programs.{Program}
use Rattle.client_watches.specs.declared.watching.Watching.{Watching}
use Rattle.client_watches.specs.Watching.{with_rerun, report_of}
use Rattle.client_watches.specs.Keeping.{AreDistinct}
use Rattle.client_watches.specs.Lines.{With, catch_up}
use Rattle.watch_reruns.specs.declared.reruns.Reruns.TheVariants as reruns
use Rattle.rerun_driver.specs.Watches.{Bodies, stale_of}
use Rattle.watch_reruns.specs.Reruns.{all_reruns}

-- watches take the reports of their runs, one after another
abbrev pub with_reruns : Watching → List (Bytes × Run) → Watching
with_reruns w [] = w
with_reruns w (ran ∷ others) = with_reruns (with_rerun w ran.0 ran.1) others

-- what is said of these runs, in their order
abbrev pub reports_of : Watching → List (Bytes × Run) → List Reply
reports_of w list = map (λ ran. report_of w ran.0 ran.1) list

-- a run that is done is in front of others, and none is behind one that needs a value
abbrev pub done_by : Bytes → Ran → List (Bytes × Run) → List (Bytes × Run)
done_by name (need address) others = []
done_by name (done run) others = (name, run) ∷ others

-- the runs that are done before the first that needs a value
abbrev pub runs_before : PartialState → Bodies → List (Bytes × Run)
runs_before state [] = []
runs_before state (watch ∷ others) = done_by watch.0 (exec watch.1.body state) (runs_before state others)

-- A program asks for a value first. Where that is late it ends there, with what is kept and was said before, and it isn't said that
-- all are current.
pub record AsksFirst (address : Address) (at : ℕ) (w : Watching) (said : List Reply) (p : Program (With Bool)) : Type 0 where
  pub next : Answer → Program (With Bool)
  pub asks : p ≡ Program.asks (Call.read_at address at) next
  pub late : (n horizon : ℕ) → next (Answer.late n horizon) ≡ Program.ends (false, w, said ++ reply.Late n horizon ∷ [])

-- ALL AT ONCE: where no run of a stale watch needs a value, a line's reruns ask for nothing. They are these runs, each of which is
-- reported, in the order of the watches; and what is kept is as if each was reported before the next was made.
abbrev pub RerunsAtOnce : Type 0
RerunsAtOnce =
    (w : Watching) (said : List Reply) (list : List (Bytes × Run)) → AreDistinct w.watches → all_reruns (held w.cache) w.watches ≡ reruns.Ran list
    → catch_up w said ≡ Program.ends (true, with_reruns w list, said ++ reports_of w list)

-- NEEDS: where one needs a value, the runs before the first such are reported, and that value is asked for next.
abbrev pub NeedsAreAsked : Type 0
NeedsAreAsked =
    (w : Watching) (said : List Reply) (address : Address) → AreDistinct w.watches → all_reruns (held w.cache) w.watches ≡ reruns.Need address
    → AsksFirst address w.cache.at (with_reruns w (runs_before (held w.cache) (stale_of w.watches)))
    (said ++ reports_of w (runs_before (held w.cache) (stale_of w.watches))) (catch_up w said)

-- ---- worked

-- of two runs the second needs a value: the first alone is done before it
before-example : (one two : Bytes) (run : Run) (address : Address) → done_by one (done run) (done_by two (need address) []) ≡ (one, run) ∷ []
before-example one two run address = refl
