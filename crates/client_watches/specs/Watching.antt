-- What is kept of a client's watches, and what feeds, values, runs and their ends make of it.
use Rattle.std.specs.Prelude.{◌≡◌, ◌<◌, ℕ, suc, Bool, true, false, not, ◌&&◌, List, [], ◌∷◌, ◌++◌, map, Option, Some, None, is_some}
use Rattle.plain_data.specs.Texts.{Bytes}
use Rattle.rdt_types.specs.declared.address.Address.{Address}
use Rattle.rdt_types.specs.declared.value.Value.{Value}
use Rattle.change_feed.specs.Feeds.{Fed}
use Rattle.session_text.specs.declared.reply.Reply.{Reply}
use Rattle.session_text.specs.declared.reply.Reply.TheVariants as reply
use Rattle.client_cache.specs.Cached.{empty, held, filled, released, advanced}
use Rattle.txn_lang.specs.declared.checked.Checked.{Checked}
use Rattle.txn_lang.specs.declared.run.Run.{Run}
use Rattle.txn_lang.specs.declared.run.Seen.{Seen}
use Rattle.txn_lang.specs.Execution.{done, exec}
use Rattle.rerun_driver.specs.declared.watch.Watch.{Watch}
use Rattle.rerun_driver.specs.Watches.{Watches, watch_of, with_watch, without_watch, reported, with_report, all_told, is_observed}
use Rattle.client_watches.specs.declared.watching.Watching.{Watching}

-- no watch yet, where so many commits are seen
abbrev pub none_yet : ℕ → Watching
none_yet at = record { watches = []; cache = empty at; loose = [] }

-- the addresses at which something was observed
abbrev pub addresses_of : List Seen → List Address
addresses_of observations = map (λ seen. seen.address) observations

-- those of a watch's last run
abbrev pub observed_by : Option Watch → List Address
observed_by None = []
observed_by (Some watch) = addresses_of watch.observations

-- A feed is told to all watches, and the values go as far as it goes.
abbrev pub after_feed : Watching → Fed → Watching
after_feed w feed = record w { watches = all_told feed.changes w.watches; cache = advanced w.cache feed }

-- A value that a run asked for is held.
abbrev pub with_value : Watching → Address → Value → Watching
with_value w address value = record w { cache = filled w.cache address value; loose = w.loose ++ address ∷ [] }

-- A watch takes the report of its run. What it observed before may be observed no longer.
abbrev pub with_rerun : Watching → Bytes → Run → Watching
with_rerun w name run = record w {
  watches = with_report w.watches name w.cache.at run;
  loose = w.loose ++ observed_by (watch_of w.watches name);
}

-- A new watch, of which the first run is reported.
abbrev pub with_first : Watching → Bytes → Checked → Run → Watching
with_first w name body run = record w { watches = with_watch w.watches name (reported body w.cache.at run) }

-- A watch is forgotten.
abbrev pub without : Watching → Bytes → Watching
without w name = record w {
  watches = without_watch w.watches name;
  loose = w.loose ++ observed_by (watch_of w.watches name);
}

-- A value is held that no watch observes.
abbrev pub is_idle : Watching → Address → Bool
is_idle w address = is_some (held w.cache address) && not (is_observed w.watches address)

-- It is let go.
abbrev pub without_value : Watching → Address → Watching
without_value w address = record w { cache = released w.cache address }

-- No address is left loose.
abbrev pub none_loose : Watching → Watching
none_loose w = record w { loose = [] }

-- which watches are stale, as a number
abbrev pub one_if : Bool → ℕ → ℕ
one_if true n = suc n
one_if false n = n

-- how many are stale
abbrev pub stale_count : Watches → ℕ
stale_count [] = 0
stale_count (entry ∷ watches) = one_if entry.1.stale (stale_count watches)

-- one less is stale
abbrev pub IsOneFewer : Watching → Watching → Type 0
IsOneFewer old new = stale_count old.watches ≡ suc (stale_count new.watches)

-- fewer are stale
abbrev pub AreFewer : Watching → Watching → Type 0
AreFewer old new = stale_count new.watches < stale_count old.watches

-- ---- runs

-- a body's run on the values that are held is done
abbrev pub HasRun : Checked → Watching → Run → Type 0
HasRun body w run = exec body.body (held w.cache) ≡ done run

-- the report of a run: its outcome, at the number of the values
abbrev pub report_of : Watching → Bytes → Run → Reply
report_of w name run = reply.Ran name w.cache.at run.outcome

-- ---- what stays

-- a name that no watch had, none has
abbrev pub KeepsFree : Watching → Watching → Type 0
KeepsFree old new = (name : Bytes) → watch_of old.watches name ≡ None → watch_of new.watches name ≡ None

-- nothing but the values that are held is another
pub record IsButForValues (old new : Watching) : Type 0 where
  pub watches : new.watches ≡ old.watches
  pub at : new.cache.at ≡ old.cache.at
  pub loose : new.loose ≡ old.loose
